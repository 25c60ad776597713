-- Groups of fit entries, laid down, are taken apart into their items.
use Rattle.std.proofs.Common.{◌≡◌, ℕ, suc, ◌+◌, ◌%◌, ◌≤◌, Bool, true, false, cond, leb, ◌⊎◌, List, [], ◌∷◌, ◌++◌, length, sym, refl, ap, ◌∙◌, subst, inl, inr, append_assoc, append-nil, arith, length-append}
use Rattle.std.proofs.lemmas.Bool.{cond-true, cond-false, le-leb, lt-leb}
use Rattle.chain.specs.declared.fault.RackFault.TheVariants.{NoProcess}
use Rattle.chain.specs.declared.reader.Ahead.{Ahead}
use Rattle.chain.specs.declared.reader.Ahead.TheVariants as ahead
use Rattle.chain.specs.Items.{PlainItem, row_of, place_of}
use Rattle.chain.specs.Walks.{Walked, Look, next, onward, refused_by, ended, walk}
use Rattle.chain_format.specs.Groups.{Group, Entries, linked, All, entry_bytes, group_bytes, laid_down, items_in, items_of, FitGroup, FitGroups, all_taken}
use Rattle.chain_format.specs.Format.{TakenApart}
use Rattle.chain_format.proofs.Seen.{Seen}

-- an item taken at i, before the rest
abbrev taken_at : ℕ → PlainItem → Walked → Walked
taken_at i x w = record { found = record { row = row_of x; place = i; reached = true } ∷ w.found; items = x ∷ w.items; refusal = w.refusal }

-- an item, or some, taken at their places before the rest
abbrev front : PlainItem → Walked → Walked
front x w = taken_at (place_of x) x w

abbrev fronts : List PlainItem → Walked → Walked
fronts [] w = w
fronts (x ∷ xs) w = front x (fronts xs w)

fronts_append : (xs ys : List PlainItem) (w : Walked) → fronts (xs ++ ys) w ≡ fronts xs (fronts ys w)
fronts_append [] ys w = refl
fronts_append (x ∷ xs) ys w = ap (front x) (fronts_append xs ys w)

all_fronts : (xs : List PlainItem) → fronts xs ended ≡ all_taken xs
all_fronts [] = refl
all_fronts (x ∷ xs) = ap (front x) (all_fronts xs)

module _ {Entry : Type 0} (entries : Entries Entry) (opens : ℕ → Bool) (look : ℕ → ℕ → Bool → ℕ → List ℕ → Look) (seen : Seen entries opens look) where
  abbrev from : ℕ → Ahead → List ℕ → Walked
  from i a bs = walk opens look i a 0 bs

  abbrev low : Entry → ℕ
  low x = entries.shape.low x

  abbrev behind : Entry → List ℕ
  behind x = entries.shape.behind x

  -- the bytes of an entry, of some entries, and of a group
  abbrev one : ℕ → Entry → List ℕ
  one top x = entry_bytes entries.shape top x

  abbrev some : Entry → List Entry → List ℕ
  some x xs = linked (entry_bytes entries.shape) x xs

  abbrev whole : ℕ → Group Entry → List ℕ
  whole top g = group_bytes entries.shape top g

  -- what comes behind the last entry of a group
  abbrev behind_group : ℕ → Ahead
  behind_group g = cond (leb 0x80 g) ahead.Group ahead.End

  -- the bytes that belong to an entry are passed over
  skip : (bs rest : List ℕ) (i : ℕ) (a : Ahead) → walk opens look i a (length bs) (bs ++ rest) ≡ from (i + length bs) a rest
  skip [] rest i a = let e : i ≡ i + 0 = omega arith in ap (λ (j : ℕ). from j a rest) e
  skip (b ∷ bs) rest i a =
      let e : i + 1 + length bs ≡ i + suc (length bs) = omega arith in
      skip bs rest (i + 1) a ∙ ap (λ (j : ℕ). from j a rest) e

  entry_taken : (i g : ℕ) (first : Bool) (top : ℕ) (x : Entry) (rest : List ℕ) → entries.Fit (g % 128) x → (top ≡ 0) ⊎ (top ≡ 0x80) →
      from i (ahead.InGroup g first) (one top x ++ rest) ≡ front (entries.item i g first (top + low x) x) (from (i + length (one top x)) (next g (top + low x)) rest)
  entry_taken i g first top x rest f c =
      let b : ℕ = top + low x in
      let y : PlainItem = entries.item i g first b x in
      let s : low x ≤ 127 = seen.small (g % 128) x f in
      let m : (top + low x) % 128 ≡ low x = omega arith in
      let n : i + 1 + length (behind x) ≡ i + suc (length (behind x)) = omega arith in
      ap (λ (l : Look). onward i l (λ k. walk opens look (i + 1) (next g b) k (behind x ++ rest))) (seen.takes i g first b x rest f m) ∙
      ap (λ (j : ℕ). taken_at j y (walk opens look (i + 1) (next g b) (length (behind x)) (behind x ++ rest))) (sym (seen.placed i g first b x)) ∙
      ap (front y) (skip (behind x) rest (i + 1) (next g b) ∙ ap (λ (j : ℕ). from j (next g b) rest) n)

  entries_taken : (g : ℕ) (xs : List Entry) (x : Entry) (i : ℕ) (first : Bool) (rest : List ℕ) → All (entries.Fit (g % 128)) (x ∷ xs) →
      from i (ahead.InGroup g first) (some x xs ++ rest) ≡ fronts (items_in entries i g first x xs) (from (i + length (some x xs)) (behind_group g) rest)
  entries_taken g [] x i first rest f =
      let s : low x ≤ 127 = seen.small (g % 128) x f.0 in
      let z : leb 0x80 (0 + low x) ≡ false = lt-leb 0x80 (0 + low x) (omega arith) in
      entry_taken i g first 0 x rest f.0 (inl refl) ∙
      ap (λ (a : Ahead). front (entries.item i g first (0 + low x) x) (from (i + length (one 0 x)) a rest)) (cond-false (leb 0x80 (0 + low x)) (ahead.InGroup g false) (behind_group g) z)
  entries_taken g (y ∷ ys) x i first rest f =
      let z : leb 0x80 (0x80 + low x) ≡ true = le-leb 0x80 (0x80 + low x) (omega arith) in
      let n : i + length (one 0x80 x) + length (some y ys) ≡ i + length (one 0x80 x ++ some y ys) = omega (arith, length-append (one 0x80 x) (some y ys)) in
      ap (from i (ahead.InGroup g first)) (append_assoc (one 0x80 x) (some y ys) rest) ∙ entry_taken i g first 0x80 x (some y ys ++ rest) f.0 (inr refl) ∙
      ap (front (entries.item i g first (0x80 + low x) x))
      (ap (λ (a : Ahead). from (i + length (one 0x80 x)) a (some y ys ++ rest)) (cond-true (leb 0x80 (0x80 + low x)) (ahead.InGroup g false) (behind_group g) z) ∙
      entries_taken g ys y (i + length (one 0x80 x)) false rest f.1 ∙
      ap (λ (j : ℕ). fronts (items_in entries (i + length (one 0x80 x)) g false y ys) (from j (behind_group g) rest)) n)

  group_taken : (g : Group Entry) (top i : ℕ) (rest : List ℕ) → (top ≡ 0) ⊎ (top ≡ 0x80) → FitGroup entries g →
      from i ahead.Group (whole top g ++ rest) ≡
      fronts (items_in entries (i + 1) (top + g.low) true g.first g.others) (from (i + length (whole top g)) (behind_group (top + g.low)) rest)
  group_taken g top i rest c f =
      let b : ℕ = top + g.low in
      let bs : List ℕ = some g.first g.others in
      let s : g.low ≤ 127 = f.0 in
      let m : g.low ≡ (top + g.low) % 128 = omega arith in
      let h : All (entries.Fit (b % 128)) (g.first ∷ g.others) = subst (λ (p : ℕ). All (entries.Fit p) (g.first ∷ g.others)) m f.1 in
      let n : i + 1 + length (some g.first g.others) ≡ i + suc (length (some g.first g.others)) = omega arith in
      cond-true (opens b) (from (i + 1) (ahead.InGroup b true) (bs ++ rest)) (refused_by (NoProcess i)) (seen.opened b g.first h.0) ∙
      entries_taken b g.others g.first (i + 1) true rest h ∙
      ap (λ (j : ℕ). fronts (items_in entries (i + 1) b true g.first g.others) (from j (behind_group b) rest)) n

  chain_taken : (gs : List (Group Entry)) (g : Group Entry) (i : ℕ) → FitGroups entries g gs → from i ahead.Group (laid_down entries.shape g gs) ≡ fronts (items_of entries i g gs) ended
  chain_taken [] g i f =
      let s : g.low ≤ 127 = f.0.0 in
      let z : leb 0x80 (0 + g.low) ≡ false = lt-leb 0x80 (0 + g.low) (omega arith) in
      ap (from i ahead.Group) (sym (append-nil (whole 0 g))) ∙ group_taken g 0 i [] (inl refl) f.0 ∙
      ap (λ (a : Ahead). fronts (items_in entries (i + 1) (0 + g.low) true g.first g.others) (from (i + length (whole 0 g)) a [])) (cond-false (leb 0x80 (0 + g.low)) ahead.Group ahead.End z)
  chain_taken (h ∷ hs) g i f =
      let z : leb 0x80 (0x80 + g.low) ≡ true = le-leb 0x80 (0x80 + g.low) (omega arith) in
      let items : List PlainItem = items_in entries (i + 1) (0x80 + g.low) true g.first g.others in
      group_taken g 0x80 i (laid_down entries.shape h hs) (inr refl) f.0 ∙
      ap (fronts items)
      (ap (λ (a : Ahead). from (i + length (whole 0x80 g)) a (laid_down entries.shape h hs)) (cond-true (leb 0x80 (0x80 + g.low)) ahead.Group ahead.End z) ∙
      chain_taken hs h (i + length (whole 0x80 g)) f.1) ∙
      sym (fronts_append items (items_of entries (i + length (whole 0x80 g)) h hs) ended)

  pub taken-apart : TakenApart entries (walk opens look 1 ahead.Group 0)
  taken-apart g gs f = chain_taken gs g 1 f ∙ all_fronts (items_of entries 1 g gs)
