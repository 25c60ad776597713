-- The newest change for a row is the first one for it from the back.
use Rattle.std.proofs.Common.{◌≡◌, ℕ, ◌<◌, Bool, true, false, cond, eqb, List, [], ◌∷◌, reverse, length, get_or, set, Option, Some, None, sym, refl, ap, ◌∙◌, arith, length-set}
use Rattle.std.specs.Option.{MatchOption, option_map, option_map_or, option_or}
use Rattle.std.specs.List.{find}
use Rattle.std.proofs.lemmas.List.{reverse-append, get_or-replicate}
use Rattle.std.proofs.lemmas.List.Folds.{find-append}
use denote.Ref.{Bor}
use Rattle.value.specs.declared.Value.{Value}
use Rattle.value.specs.Values.{bytes_of}
use Rattle.store.specs.declared.changes.change.Change.{Change}
use Rattle.store.specs.Held.{empty_rows}
use Rattle.store.specs.ChangeList.{replay}
use Rattle.store.specs.ChangesHeld.{entries_of}
use Rattle.store.proofs.Lists.{get_or-set}

abbrev pub for_row : ℕ → Change → Bool
for_row row x = eqb x.row row

-- the value of a change, or v without one
abbrev pub value_or : List ℕ → Option Change → List ℕ
value_or v o = option_map_or (λ (x : Change). bytes_of x.value) o v

or_value : (v : List ℕ) (o p : Option Change) → value_or v (option_or o p) ≡ value_or (value_or v p) o
or_value v None p = refl
or_value v (Some x) p = refl

one_value : (v : List ℕ) (b : Bool) (x : Change) → cond b (bytes_of x.value) v ≡ value_or v (cond b (Some x) None)
one_value v true x = refl
one_value v false x = refl

replay_found : (row : ℕ) (xs : List Change) (held : List (List ℕ)) → row < length held → get_or (replay (entries_of xs) held) row [] ≡ value_or (get_or held row []) (find (for_row row) (reverse xs))
replay_found row [] held h = refl
replay_found row (x ∷ xs) held h =
    let before = get_or held row [] in
    let newer = find (for_row row) (reverse xs) in
    let this = find (for_row row) (x ∷ []) in
    let l = length-set held x.row (bytes_of x.value) in
    replay_found row xs (set held x.row (bytes_of x.value)) (omega arith)
    ∙ ap (λ v. value_or v newer) (get_or-set held x.row row (bytes_of x.value) [] h ∙ one_value before (eqb x.row row) x)
    ∙ sym (or_value before newer this)
    ∙ sym (ap (value_or before) (ap (find (for_row row)) (reverse-append (x ∷ []) xs) ∙ find-append (for_row row) (reverse xs) (x ∷ [])))

value_found : (o : Option (Bor Change)) (none v : Value) → MatchOption o (v ≡ none) (λ x. v ≡ x.now.value) → bytes_of none ≡ [] → bytes_of v ≡ value_or [] (option_map (λ x. x.now) o)
value_found None none v e n = ap (λ (w : Value). bytes_of w) e ∙ n
value_found (Some x) none v e n = ap (λ (w : Value). bytes_of w) e

pub latest_found : (row : ℕ) (xs : List Change) (o : Option (Bor Change)) (none v : Value) → row < 128 → option_map (λ x. x.now) o ≡ find (for_row row) (reverse xs)
    → MatchOption o (v ≡ none) (λ x. v ≡ x.now.value) → bytes_of none ≡ [] → bytes_of v ≡ get_or (replay (entries_of xs) empty_rows) row []
latest_found row xs o none v h f e n =
    value_found o none v e n ∙ ap (value_or []) f
    ∙ sym (replay_found row xs empty_rows h ∙ ap (λ w. value_or w (find (for_row row) (reverse xs))) (get_or-replicate 128 row [] [] h))
