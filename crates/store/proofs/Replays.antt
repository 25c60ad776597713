-- What a list of changes means.
use Rattle.std.proofs.Common.{◌≡◌, ℕ, ◌<◌, Bool, true, false, cond, ◌⊎◌, List, [], ◌∷◌, ◌++◌, length, get_or, take, drop, set, sym, refl, ap, ◌∙◌, subst, inl, inr, ⊎_elim, arith, length-set, eq-eqb, ne_eqb}
use Rattle.std.proofs.lemmas.List.{set-set, set_comm, get_or-replicate, get_or-set_same, get_or-set_other, take_at}
use Rattle.std.proofs.lemmas.Bool.{cases_eq, cases_Bool}
use Rattle.store.specs.ChangeList.{Entry, NewestCounts, NewestEntry, Unnamed, names, newest, replay, with_room}
use Rattle.store.specs.Held.{empty_rows}

pub replay_push : (es : List Entry) (e : Entry) (held : List (List ℕ)) → replay (es ++ e ∷ []) held ≡ set (replay es held) e.row e.value
replay_push [] e held = refl
replay_push (x ∷ es) e held = replay_push es e (set held x.row x.value)

pub replay-length : (es : List Entry) (held : List (List ℕ)) → length (replay es held) ≡ length held
replay-length [] held = refl
replay-length (e ∷ es) held = replay-length es (set held e.row e.value) ∙ length-set held e.row e.value

pub names_here : (row : ℕ) (e : Entry) (es : List Entry) → e.row ≡ row → names row (e ∷ es) ≡ true
names_here row e es q = let b = eq-eqb e.row row q in simp b

pub names_past : (row : ℕ) (e : Entry) (es : List Entry) → (e.row ≡ row → ⊥) → names row (e ∷ es) ≡ names row es
names_past row e es n = let b = ne_eqb e.row row n in simp b

-- an entry with a newer one for its row counts for nothing
replay_outlived : (es : List Entry) (row : ℕ) (v : List ℕ) (held : List (List ℕ)) → names row es ≡ true → replay es (set held row v) ≡ replay es held
replay_outlived [] row v held h = let z : ◌≡◌ {A = ℕ} 0 1 = cc in absurd (omega arith)
replay_outlived (e ∷ es) row v held h =
    ⊎_elim
    (λ (q : e.row ≡ row). ap (λ y. replay es y) (ap (λ k. set (set held row v) k e.value) q ∙ set-set held row v e.value ∙ ap (λ k. set held k e.value) (sym q)))
    (λ (n : e.row ≡ row → ⊥). ap (λ y. replay es y) (set_comm held row e.row v e.value (λ q. n (sym q))) ∙ replay_outlived es row v (set held e.row e.value) (sym (names_past row e es n) ∙ h))
    (cases_eq e.row row)

replay-newest : (es : List Entry) (held : List (List ℕ)) → replay (newest es) held ≡ replay es held
replay-newest [] held = refl
replay-newest (e ∷ es) held =
    ⊎_elim
    (λ (t : names e.row es ≡ true). ap (λ b. replay (cond b (newest es) (e ∷ newest es)) held) t ∙ replay-newest es held ∙ sym (replay_outlived es e.row e.value held t))
    (λ (f : names e.row es ≡ false). ap (λ b. replay (cond b (newest es) (e ∷ newest es)) held) f ∙ replay-newest es (set held e.row e.value))
    (cases_Bool (names e.row es))

replay_either : (b : Bool) (es : List Entry) (held : List (List ℕ)) → replay (cond b es (newest es)) held ≡ replay es held
replay_either true es held = refl
replay_either false es held = replay-newest es held

-- making room changes no value
pub replay-with_room : (es : List Entry) (held : List (List ℕ)) → replay (with_room es) held ≡ replay es held
replay-with_room es held = replay_either _ es held

-- ---- the newest entry counts
abbrev Stays : ℕ → List Entry → List (List ℕ) → Type 0
Stays row es held = (Unnamed row es × (get_or (replay es held) row [] ≡ get_or held row [])) ⊎ NewestEntry row (get_or (replay es held) row []) es

earlier : (row : ℕ) (e : Entry) (es : List Entry) (held : List (List ℕ)) → NewestEntry row (get_or (replay es (set held e.row e.value)) row []) es → Stays row (e ∷ es) held
earlier row e es held l = inr (record { older = e ∷ l.older; entry = l.entry; newer = l.newer; listed = ap (λ xs. e ∷ xs) l.listed; names_row = l.names_row; has_value = l.has_value; unnamed = l.unnamed })

here : (row : ℕ) (e : Entry) (es : List Entry) (held : List (List ℕ)) → row < length held → Unnamed row es → get_or (replay es (set held e.row e.value)) row [] ≡ get_or (set held e.row e.value) row [] → Stays row (e ∷ es) held
here row e es held h u q =
    ⊎_elim
    (λ (s : e.row ≡ row). inr (record {
      older = [];
      entry = e;
      newer = es;
      listed = refl;
      names_row = s;
      has_value = sym (q ∙ ap (λ k. get_or (set held k e.value) row []) s ∙ get_or-set_same held row e.value [] h);
      unnamed = u;
    }))
    (λ (n : e.row ≡ row → ⊥). inl ((n, u), q ∙ get_or-set_other held e.row row e.value [] (λ s. n (sym s))))
    (cases_eq e.row row)

stays : (row : ℕ) (es : List Entry) (held : List (List ℕ)) → row < length held → Stays row es held
stays row [] held h = inl (tt, refl)
stays row (e ∷ es) held h =
    let l = length-set held e.row e.value in
    ⊎_elim
    (λ (u : Unnamed row es × (get_or (replay es (set held e.row e.value)) row [] ≡ get_or (set held e.row e.value) row [])). here row e es held h u.0 u.1)
    (earlier row e es held)
    (stays row es (set held e.row e.value) (omega arith))

replay_counts : (row : ℕ) (es : List Entry) → row < 128 → NewestCounts row (get_or (replay es empty_rows) row []) es
replay_counts row es h =
    ⊎_elim
    (λ (u : Unnamed row es × (get_or (replay es empty_rows) row [] ≡ get_or empty_rows row [])). inl (u.0, u.1 ∙ get_or-replicate 128 row [] [] h))
    (λ (l : NewestEntry row (get_or (replay es empty_rows) row []) es). inr l)
    (stays row es empty_rows h)

pub asked_counts : (row : ℕ) (es : List Entry) (v before after : List ℕ) (n : ℕ) → row < 128 → v ≡ get_or (replay es empty_rows) row [] → n ≡ length v → after ≡ v ++ drop (length v) before → NewestCounts row (take n after) es
asked_counts row es v before after n h e q a =
    let P : List ℕ → Type 0 = λ w. NewestCounts row w es in
    subst P (sym (ap (λ w. take n w) a ∙ take_at v (drop (length v) before) n (sym q) ∙ e)) (replay_counts row es h)
