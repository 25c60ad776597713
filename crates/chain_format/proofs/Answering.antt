-- A read laid down by the format is answered by the same groups with the values in them.
use Rattle.std.proofs.Common.{◌≡◌, ℕ, ◌+◌, ◌≤◌, Bool, true, false, cond, ltb, List, [], ◌∷◌, ◌++◌, length, Some, None, sym, refl, ap, ◌∙◌, subst, append_assoc, append-nil, arith, length-append}
use Rattle.std.proofs.lemmas.Bool.{le-ltb}
use Rattle.table.specs.Rows.{PlainRow}
use Rattle.table.specs.Draws.{row_at}
use Rattle.chain.specs.declared.item.Query.{Query}
use Rattle.chain.specs.Faults.{too_long}
use Rattle.chain.specs.Items.{PlainItem, write, read, group_byte}
use Rattle.chain.specs.Values.{in_chain}
use Rattle.chain.specs.Answers.{Values, answered, answer_from, read_answer}
use Rattle.chain_format.specs.Groups.{Group, linked, entry_bytes, group_bytes, laid_down, items_in, items_of}
use Rattle.chain_format.specs.Entries.{ReadEntry, index_byte, read_shape, answer_shape, read_entries}
use Rattle.chain_format.specs.Format.{ReadsAnswered}
use Rattle.chain_format.proofs.Reading.{reads_taken_apart}

module _ (rows : List PlainRow) (held : Values) where
  -- what a query adds to the answer
  abbrev adds : Query → List ℕ
  adds q = answered q (row_at rows q.row).kind (held q.row)

  -- what some items add
  abbrev told : List PlainItem → List ℕ
  told [] = []
  told (write r i v ∷ items) = told items
  told (read q ∷ items) = adds q ++ told items

  told-append : (xs ys : List PlainItem) → told (xs ++ ys) ≡ told xs ++ told ys
  told-append [] ys = refl
  told-append (write r i v ∷ xs) ys = told-append xs ys
  told-append (read q ∷ xs) ys = ap (λ (l : List ℕ). adds q ++ l) (told-append xs ys) ∙ sym (append_assoc (adds q) (told xs) (told ys))

  -- with room for all that the items add, the answer is the whole
  answer_whole : (items : List PlainItem) (bytes : List ℕ) → length (bytes ++ told items) ≤ 64 → answer_from rows held bytes items None ≡ record { bytes = bytes ++ told items; refusal = None }
  answer_whole [] bytes l = ap (λ (x : List ℕ). record { bytes = x; refusal = None }) (sym (append-nil bytes))
  answer_whole (write r i v ∷ items) bytes l = answer_whole items bytes l
  answer_whole (read q ∷ items) bytes l =
      let e : (bytes ++ adds q) ++ told items ≡ bytes ++ (adds q ++ told items) = append_assoc bytes (adds q) (told items) in
      let m : length ((bytes ++ adds q) ++ told items) ≤ 64 = subst (λ (x : List ℕ). length x ≤ 64) (sym e) l in
      let s : length (bytes ++ adds q) ≤ 64 = omega (arith, length-append (bytes ++ adds q) (told items)) in
      let t : ltb 64 (length (bytes ++ adds q)) ≡ false = le-ltb _ _ s in
      ap (λ (b : Bool). cond b (record { bytes = bytes; refusal = Some (too_long q.place) }) (answer_from rows held (bytes ++ adds q) items None)) t ∙ answer_whole items (bytes ++ adds q) m ∙
      ap (λ (x : List ℕ). record { bytes = x; refusal = None }) e

  abbrev one : ℕ → ReadEntry → List ℕ
  one top x = entry_bytes (answer_shape rows held) top x

  abbrev some : ReadEntry → List ReadEntry → List ℕ
  some x xs = linked (entry_bytes (answer_shape rows held)) x xs

  -- the byte of a group, where its first item repeats it
  abbrev lead : ℕ → Bool → List ℕ
  lead g first = group_byte (cond first (Some g) None)

  entries_told : (xs : List ReadEntry) (x : ReadEntry) (i g : ℕ) (first : Bool) → told (items_in (read_entries rows) i g first x xs) ≡ lead g first ++ some x xs
  entries_told [] x i g first =
      append-nil ((lead g first ++ (0 + index_byte rows x) ∷ []) ++ in_chain (row_at rows x.row).kind (held x.row)) ∙
      append_assoc (lead g first) ((0 + index_byte rows x) ∷ []) (in_chain (row_at rows x.row).kind (held x.row))
  entries_told (y ∷ ys) x i g first =
      let v : List ℕ = in_chain (row_at rows x.row).kind (held x.row) in
      ap (λ (l : List ℕ). ((lead g first ++ (0x80 + index_byte rows x) ∷ []) ++ v) ++ l) (entries_told ys y (i + length (entry_bytes (read_shape rows) 0x80 x)) g false) ∙
      ap (λ (l : List ℕ). l ++ some y ys) (append_assoc (lead g first) ((0x80 + index_byte rows x) ∷ []) v) ∙ append_assoc (lead g first) (one 0x80 x) (some y ys)

  groups_told : (gs : List (Group ReadEntry)) (g : Group ReadEntry) (i : ℕ) → told (items_of (read_entries rows) i g gs) ≡ laid_down (answer_shape rows held) g gs
  groups_told [] g i = entries_told g.others g.first (i + 1) (0 + g.low) true
  groups_told (h ∷ hs) g i =
      let j : ℕ = i + length (group_bytes (read_shape rows) 0x80 g) in
      told-append (items_in (read_entries rows) (i + 1) (0x80 + g.low) true g.first g.others) (items_of (read_entries rows) j h hs) ∙
      ap (λ (l : List ℕ). l ++ told (items_of (read_entries rows) j h hs)) (entries_told g.others g.first (i + 1) (0x80 + g.low) true) ∙
      ap (λ (l : List ℕ). group_bytes (answer_shape rows held) 0x80 g ++ l) (groups_told hs h j)

pub reads_answered : ReadsAnswered
reads_answered rows held g gs f l =
    let items : List PlainItem = items_of (read_entries rows) 1 g gs in
    let t : told rows held items ≡ laid_down (answer_shape rows held) g gs = groups_told rows held gs g 1 in
    let m : length ((0x02 ∷ []) ++ told rows held items) ≤ 64 = subst (λ (x : List ℕ). length (0x02 ∷ x) ≤ 64) (sym t) l in
    ap (read_answer rows held) (reads_taken_apart rows g gs f) ∙ answer_whole rows held items (0x02 ∷ []) m ∙
    ap (λ (x : List ℕ). record { bytes = 0x02 ∷ x; refusal = None }) t
