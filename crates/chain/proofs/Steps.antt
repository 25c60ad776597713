-- One step through a chain.
use Rattle.std.proofs.Common.{◌≡◌, ℕ, zero, suc, ◌+◌, ◌-◌, ◌≤◌, Bool, List, [], ◌∷◌, length, drop, Some, Ok, Err, Result, sym, refl, ap, ◌∙◌, add-zero, arith, length-drop}
use Rattle.std.proofs.lemmas.List.{drop-drop}
use Rattle.table.specs.Held.{rows_of}
use Rattle.table.specs.Rows.{PlainRow}
use Rattle.chain.specs.declared.access.Access.{Access}
use Rattle.chain.specs.declared.fault.RackFault.{RackFault}
use Rattle.chain.specs.declared.cursor.Cursor.{Cursor}
use Rattle.chain.specs.declared.reader.Ahead.{Ahead}
use Rattle.chain.specs.declared.reader.Ahead.TheVariants.{InGroup}
use Rattle.chain.specs.declared.reader.Chain.{Chain}
use Rattle.chain.specs.declared.reader.Start.{Start}
use Rattle.chain.specs.Cursors.{rest, Behind}
use Rattle.chain.specs.Items.{PlainItem}
use Rattle.chain.specs.Walks.{Walked, barred, spoiled, taken, Look, unfound, on_row, next, onward, walk}
use Rattle.chain.specs.Chains.{opens_by, look_by, walk_by}
use Rattle.chain.specs.Reader.{look_result, from_item, given, left}

-- bytes that belong to the item before are passed over
pub walk_skip : (opens : ℕ → Bool) (look : ℕ → ℕ → Bool → ℕ → List ℕ → Look) (i : ℕ) (a : Ahead) (k : ℕ) (bs : List ℕ) → k ≤ length bs →
    walk opens look i a k bs ≡ walk opens look (i + k) a 0 (drop k bs)
walk_skip opens look i a zero bs h = rw add-zero
walk_skip opens look i a (suc k) [] h = absurd (omega arith)
walk_skip opens look i a (suc k) (b ∷ bs) h =
    let n : i + 1 + k ≡ i + suc k = omega arith in
    walk_skip opens look (i + 1) a k bs (omega arith) ∙ ap (λ (m : ℕ). walk opens look m a 0 (drop k bs)) n

-- an item of a group is seen at its first byte
pub item_seen : (access : Access) (rows : List PlainRow) (i j g b : ℕ) (first : Bool) (xs bs : List ℕ) → i ≡ j → xs ≡ b ∷ bs →
    onward i (look_by access rows i g first b bs) (λ k. walk_by access rows (i + 1) (next g b) k bs) ≡ walk_by access rows j (InGroup g first) 0 xs
item_seen access rows i j g b first xs bs p e =
    ap (λ (n : ℕ). onward n (look_by access rows n g first b bs) (λ k. walk_by access rows (n + 1) (next g b) k bs)) p
    ∙ sym (ap (walk_by access rows j (InGroup g first) 0) e)

-- an item that is given, and what is left behind it
onward-taken : (i : ℕ) (l : Look) (rest : ℕ → Walked) (x : PlainItem) (k : ℕ) → Ok (x, k) ≡ look_result l →
    (Ok (Some x) ≡ given (onward i l rest)) × (rest k ≡ left (onward i l rest))
onward-taken i (unfound f) rest x k e = cc
onward-taken i (on_row r (barred f)) rest x k e = cc
onward-taken i (on_row r (spoiled f)) rest x k e = cc
onward-taken i (on_row r (taken y m)) rest x k e =
    let p : ◌≡◌ {A = PlainItem × ℕ} (x, k) (y, m) = cc in
    (ap (λ (z : PlainItem × ℕ). Ok (Some z.0)) p, ap (λ (z : PlainItem × ℕ). rest z.1) p)

same_refusal : {A B : Type 0} (f g : RackFault) → ◌≡◌ {A = Result A RackFault} (Err f) (Err g) → ◌≡◌ {A = Result B RackFault} (Err f) (Err g)
same_refusal f g e = cc

onward_refused : (i : ℕ) (l : Look) (rest : ℕ → Walked) (f : RackFault) → Err f ≡ look_result l →
    (Err f ≡ given (onward i l rest)) × (onward i l rest ≡ left (onward i l rest))
onward_refused i (unfound g) rest f e = (same_refusal f g e, refl)
onward_refused i (on_row r (barred g)) rest f e = (same_refusal f g e, refl)
onward_refused i (on_row r (spoiled g)) rest f e = (same_refusal f g e, refl)
onward_refused i (on_row r (taken y m)) rest f e = cc

module _ (c : Chain) (s : Start) (w : Walked) (e : from_item c s ≡ w) where
  abbrev look : Look
  look = look_by c.access (rows_of c.table.now) s.place s.group s.first s.byte (rest s.behind)

  abbrev onto : ℕ → Walked
  onto k = walk_by c.access (rows_of c.table.now) (s.place + 1) (next s.group s.byte) k (rest s.behind)

  pub item_given : (x : PlainItem) (k : ℕ) → Ok (x, k) ≡ look_result look → Ok (Some x) ≡ given w
  item_given x k l = (onward-taken s.place look onto x k l).0 ∙ ap given e

  -- the cursor stands behind the bytes that the item takes
  pub item_left : (d : Cursor) (x : PlainItem) (a : Ahead) → Ok (x, d.at - s.behind.at) ≡ look_result look → Behind s.behind d → a ≡ next s.group s.byte →
      walk_by c.access (rows_of c.table.now) d.at a 0 (rest d) ≡ left w
  item_left d x a l h n =
      let k : ℕ = d.at - s.behind.at in
      let m = ap length h.1 in
      let fits : k ≤ length (rest s.behind) = omega (arith, h, s.next, d.inside, length-drop s.behind.at s.behind.message.now) in
      let at : s.place + 1 + k ≡ d.at = omega (arith, h, s.next) in
      let far : s.behind.at + k ≡ d.at = omega (arith, h) in
      let bytes : drop k (rest s.behind) ≡ rest d =
      drop-drop k s.behind.at s.behind.message.now ∙ ap (λ (i : ℕ). drop i s.behind.message.now) far ∙ ap (drop d.at) (sym h.1) in
      ap (λ (y : Ahead). walk_by c.access (rows_of c.table.now) d.at y 0 (rest d)) n
      ∙ ap (walk_by c.access (rows_of c.table.now) d.at (next s.group s.byte) 0) (sym bytes)
      ∙ ap (λ (i : ℕ). walk_by c.access (rows_of c.table.now) i (next s.group s.byte) 0 (drop k (rest s.behind))) (sym at)
      ∙ sym (walk_skip (opens_by c.access (rows_of c.table.now)) (look_by c.access (rows_of c.table.now)) (s.place + 1) (next s.group s.byte) k (rest s.behind) fits)
      ∙ (onward-taken s.place look onto x k l).1 ∙ ap left e

  pub item_refused : (f : RackFault) → Err f ≡ look_result look → (Err f ≡ given w) × (w ≡ left w)
  item_refused f l = let o = onward_refused s.place look onto f l in (o.0 ∙ ap given e, sym e ∙ o.1 ∙ ap left e)
