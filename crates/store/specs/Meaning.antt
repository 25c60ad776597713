-- Both stores hold 128 values of at most 24 bytes.
use Rattle.std.specs.Prelude.{◌≡◌, ℕ, zero, suc, ◌≤◌, List, [], ◌∷◌, map, length, replicate, slice_index_or, slice_set, refl}
use Rattle.std.proofs.Common.{◌∙◌, lit≤, length-set}
use Rattle.std.proofs.lemmas.List.{length-map}
use Rattle.value.specs.declared.Value.{Value}
use Rattle.value.specs.Values.{Bytes, bytes_of}
use Rattle.value.proofs.Facts.{value_short, value_bytes}
use Rattle.store.specs.declared.changes.change.Change.{Change}
use Rattle.store.specs.Held.{Sound, empty_rows}
use Rattle.store.specs.ChangeList.{replay}
use Rattle.store.specs.ChangesHeld.{entries_of}

each_cell : (P : List ℕ → Type 0) → P [] → ((v : Value) → P (bytes_of v)) → (cells : List Value) (k : ℕ) → P (slice_index_or (map bytes_of cells) k [])
each_cell P none some [] k = none
each_cell P none some (v ∷ vs) zero = some v
each_cell P none some (v ∷ vs) (suc k) = each_cell P none some vs k

pub cells_sound : (cells : List Value) → length cells ≡ 128 → Sound (map bytes_of cells)
cells_sound cells e =
    record {
      rows = length-map cells bytes_of ∙ e;
      short = each_cell (λ w. length w ≤ 24) (lit≤ tt) value_short cells;
      octets = each_cell Bytes tt value_bytes cells;
    }

each_empty : (P : List ℕ → Type 0) → P [] → (n k : ℕ) → P (slice_index_or (replicate n []) k [])
each_empty P none zero k = none
each_empty P none (suc n) zero = none
each_empty P none (suc n) (suc k) = each_empty P none n k

empty_sound : Sound empty_rows
empty_sound = record { rows = refl; short = each_empty (λ w. length w ≤ 24) (lit≤ tt) 128; octets = each_empty Bytes tt 128 }

each_set : (P : List ℕ → Type 0) (held : List (List ℕ)) (row : ℕ) (v : List ℕ) → P v → ((k : ℕ) → P (slice_index_or held k [])) → (k : ℕ) → P (slice_index_or (slice_set held row v) k [])
each_set P [] row v here rest k = rest k
each_set P (h ∷ held) zero v here rest zero = here
each_set P (h ∷ held) zero v here rest (suc k) = rest (suc k)
each_set P (h ∷ held) (suc row) v here rest zero = rest zero
each_set P (h ∷ held) (suc row) v here rest (suc k) = each_set P held row v here (λ j. rest (suc j)) k

set_sound : (held : List (List ℕ)) (row : ℕ) (v : Value) → Sound held → Sound (slice_set held row (bytes_of v))
set_sound held row v s =
    record {
      rows = length-set held row (bytes_of v) ∙ s.rows;
      short = each_set (λ w. length w ≤ 24) held row (bytes_of v) (value_short v) s.short;
      octets = each_set Bytes held row (bytes_of v) (value_bytes v) s.octets;
    }

replay_sound : (xs : List Change) (held : List (List ℕ)) → Sound held → Sound (replay (entries_of xs) held)
replay_sound [] held s = s
replay_sound (x ∷ xs) held s = replay_sound xs (slice_set held x.row (bytes_of x.value)) (set_sound held x.row x.value s)

pub changes_sound : (xs : List Change) → Sound (replay (entries_of xs) empty_rows)
changes_sound xs = replay_sound xs empty_rows empty_sound
