-- Bytes of which a walk refuses nothing are groups of fit entries laid down.
use Rattle.std.proofs.Common.{◌≡◌, ℕ, zero, suc, ◌+◌, ◌%◌, ◌<◌, ◌≤◌, Bool, true, false, cond, leb, ◌⊎◌, List, [], ◌∷◌, ◌++◌, drop, Some, None, sym, refl, ap, ◌∙◌, subst, inl, inr, ⊎_elim, append_assoc, append-nil, arith}
use Rattle.std.proofs.lemmas.Bool.{cases_Bool, cond-true, cond-false, leb-true, leb-false}
use Rattle.value.specs.Values.{Bytes}
use Rattle.chain.specs.declared.fault.RackFault.{RackFault}
use Rattle.chain.specs.declared.fault.RackFault.TheVariants.{NoProcess}
use Rattle.chain.specs.declared.reader.Ahead.{Ahead}
use Rattle.chain.specs.declared.reader.Ahead.TheVariants as ahead
use Rattle.chain.specs.Faults.{missing, extra}
use Rattle.chain.specs.Items.{PlainItem}
use Rattle.chain.specs.Walks.{Walked, barred, spoiled, taken, Look, unfound, on_row, next, onward, refused_by, walk}
use Rattle.chain_format.specs.Groups.{Group, Entries, linked, All, entry_bytes, group_bytes, laid_down, items_of, FitGroups, all_taken}
use Rattle.chain_format.specs.Format.{LaidDown}
use Rattle.chain_format.proofs.Seen.{Seen}
use Rattle.chain_format.proofs.Refuted.{none-some}
use Rattle.chain_format.proofs.Taking.{taken-apart}

not_refused : {X : Type 0} (f : RackFault) → Some f ≡ None → X
not_refused f e = absurd (none-some f (sym e))

cond_refused : (b : Bool) (w : Walked) (f : RackFault) → (cond b w (refused_by f)).refusal ≡ None → w.refusal ≡ None
cond_refused true w f e = e
cond_refused false w f e = not_refused f e

-- an item that refuses nothing is taken, and so is the rest
abbrev Goes_on : Look → (ℕ → Walked) → Type 0
Goes_on l rest = (r : ℕ) × (y : PlainItem) × (k : ℕ) × (l ≡ on_row r (taken y k)) × ((rest k).refusal ≡ None)

goes_on : (i : ℕ) (l : Look) (rest : ℕ → Walked) → (onward i l rest).refusal ≡ None → Goes_on l rest
goes_on i (unfound f) rest e = not_refused f e
goes_on i (on_row r (barred f)) rest e = not_refused f e
goes_on i (on_row r (spoiled f)) rest e = not_refused f e
goes_on i (on_row r (taken y k)) rest e = (r, y, k, refl, e)

-- a byte by its top bit and its low seven bits
top_set : (b : ℕ) → b < 256 → leb 0x80 b ≡ true → 0x80 + b % 128 ≡ b
top_set b l t = let m = leb-true 0x80 b t in omega arith

top_clear : (b : ℕ) → leb 0x80 b ≡ false → 0 + b % 128 ≡ b
top_clear b t = let m = leb-false 0x80 b t in omega arith

module _ {Entry : Type 0} (entries : Entries Entry) (opens : ℕ → Bool) (look : ℕ → ℕ → Bool → ℕ → List ℕ → Look) (seen : Seen entries opens look) where
  abbrev one : ℕ → Entry → List ℕ
  one top x = entry_bytes entries.shape top x

  abbrev some : Entry → List Entry → List ℕ
  some x xs = linked (entry_bytes entries.shape) x xs

  -- the bytes are a chain
  abbrev Chain : List ℕ → Type 0
  Chain bs = (g : Group Entry) × (gs : List (Group Entry)) × FitGroups entries g gs × (laid_down entries.shape g gs ≡ bs)

  -- the bytes stand behind the last entry of a group with the byte g
  abbrev Behind : ℕ → List ℕ → Type 0
  Behind g bs = ((leb 0x80 g ≡ true) × Chain bs) ⊎ ((leb 0x80 g ≡ false) × (bs ≡ []))

  -- the bytes stand within a group with the byte g
  abbrev Within : ℕ → List ℕ → Type 0
  Within g bs = (x : Entry) × (xs : List Entry) × (rest : List ℕ) × All (entries.Fit (g % 128)) (x ∷ xs) × (some x xs ++ rest ≡ bs) × Behind g rest

  abbrev Laid : Ahead → List ℕ → Type 0
  Laid ahead.Group bs = Chain bs
  Laid (ahead.InGroup g first) bs = Within g bs
  Laid ahead.End bs = bs ≡ []

  -- one entry, and what stands behind it
  entry_laid : (g b k : ℕ) (bs : List ℕ) (x : Entry) → b < 256 → entries.Fit (g % 128) x → b % 128 ≡ entries.shape.low x → entries.shape.behind x ++ drop k bs ≡ bs →
      Laid (next g b) (drop k bs) → Within g (b ∷ bs)
  entry_laid g b k bs x l f m e rest =
      ⊎_elim
      (λ (t : leb 0x80 b ≡ true).
      let n : Within g (drop k bs) =
      subst (λ (a : Ahead). Laid a (drop k bs)) (cond-true (leb 0x80 b) (ahead.InGroup g false) (cond (leb 0x80 g) ahead.Group ahead.End) t) rest in
      let h : 0x80 + entries.shape.low x ≡ b = ap (λ (y : ℕ). 0x80 + y) (sym m) ∙ top_set b l t in (
        x,
        n.0 ∷ n.1,
        n.2,
        (f, n.3),
        append_assoc (one 0x80 x) (some n.0 n.1) n.2 ∙ ap (λ (y : List ℕ). one 0x80 x ++ y) n.4 ∙ ap (λ (y : List ℕ). (0x80 + entries.shape.low x) ∷ y) e ∙ ap (λ (y : ℕ). y ∷ bs) h,
        n.5,
      ))
      (λ (t : leb 0x80 b ≡ false).
      let n : Laid (cond (leb 0x80 g) ahead.Group ahead.End) (drop k bs) =
      subst (λ (a : Ahead). Laid a (drop k bs)) (cond-false (leb 0x80 b) (ahead.InGroup g false) (cond (leb 0x80 g) ahead.Group ahead.End) t) rest in
      let h : 0 + entries.shape.low x ≡ b = ap (λ (y : ℕ). 0 + y) (sym m) ∙ top_clear b t in
      let behind : Behind g (drop k bs) =
      ⊎_elim
      (λ (s : leb 0x80 g ≡ true). inl (s, subst (λ (a : Ahead). Laid a (drop k bs)) (cond-true (leb 0x80 g) ahead.Group ahead.End s) n))
      (λ (s : leb 0x80 g ≡ false). inr (s, subst (λ (a : Ahead). Laid a (drop k bs)) (cond-false (leb 0x80 g) ahead.Group ahead.End s) n))
      (cases_Bool (leb 0x80 g)) in
      (x, [], drop k bs, (f, tt), ap (λ (y : List ℕ). (0 + entries.shape.low x) ∷ y) e ∙ ap (λ (y : ℕ). y ∷ bs) h, behind))
      (cases_Bool (leb 0x80 b))

  group_laid : (g : ℕ) (bs : List ℕ) → g < 256 → Within g bs → Chain (g ∷ bs)
  group_laid g bs l n =
      let group : Group Entry = record { low = g % 128; first = n.0; others = n.1 } in
      let s : g % 128 ≤ 127 = omega arith in
      ⊎_elim
      (λ (t : (leb 0x80 g ≡ true) × Chain n.2). (
        group,
        t.1.0 ∷ t.1.1,
        ((s, n.3), t.1.2),
        ap (λ (y : List ℕ). group_bytes entries.shape 0x80 group ++ y) t.1.3 ∙ ap (λ (y : List ℕ). (0x80 + g % 128) ∷ y) n.4 ∙ ap (λ (y : ℕ). y ∷ bs) (top_set g l t.0),
      ))
      (λ (t : (leb 0x80 g ≡ false) × (n.2 ≡ [])). (
        group,
        [],
        ((s, n.3), tt),
        ap (λ (y : List ℕ). (0 + g % 128) ∷ y) (sym (append-nil (some n.0 n.1)) ∙ ap (λ (y : List ℕ). some n.0 n.1 ++ y) (sym t.1) ∙ n.4) ∙ ap (λ (y : ℕ). y ∷ bs) (top_clear g t.0),
      ))
      n.5

  walk_laid : (i : ℕ) (a : Ahead) (k : ℕ) (bs : List ℕ) → Bytes bs → (walk opens look i a k bs).refusal ≡ None → Laid a (drop k bs)
  walk_laid i a (suc k) [] x e = not_refused (missing i) e
  walk_laid i a (suc k) (b ∷ bs) x e = walk_laid (i + 1) a k bs x.1 e
  walk_laid i ahead.Group zero [] x e = not_refused (missing i) e
  walk_laid i ahead.Group zero (g ∷ bs) x e =
      let h = cond_refused (opens g) (walk opens look (i + 1) (ahead.InGroup g true) zero bs) (NoProcess i) e in
      group_laid g bs x.0 (walk_laid (i + 1) (ahead.InGroup g true) zero bs x.1 h)
  walk_laid i (ahead.InGroup g first) zero [] x e = not_refused (missing i) e
  walk_laid i (ahead.InGroup g first) zero (b ∷ bs) x e =
      let o = goes_on i (look i g first b bs) (λ k. walk opens look (i + 1) (next g b) k bs) e in
      let s = seen.stood i g first b bs o.0 o.1 o.2 o.3 in
      entry_laid g b o.2 bs s.0 x.0 s.1 s.2 s.3 (walk_laid (i + 1) (next g b) o.2 bs x.1 o.4)
  walk_laid i ahead.End zero [] x e = refl
  walk_laid i ahead.End zero (b ∷ bs) x e = not_refused (extra i) e

  pub laid_down_lem : LaidDown entries (walk opens look 1 ahead.Group 0)
  laid_down_lem bs x e =
      let c : Chain bs = walk_laid 1 ahead.Group 0 bs x e in
      let t : walk opens look 1 ahead.Group 0 bs ≡ all_taken (items_of entries 1 c.0 c.1) =
      ap (walk opens look 1 ahead.Group 0) (sym c.3) ∙ taken-apart entries opens look seen c.0 c.1 c.2 in
      (c.0, c.1, c.2, c.3, ap (λ (w : Walked). w.items) t)
