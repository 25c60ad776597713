-- What a store means, 128 values of 0 to 24 bytes, and what keeping and asking do to them.
use Rattle.std.specs.Prelude.{◌≡◌, ℕ, ◌≤◌, Bool, false, cond, List, [], ◌++◌, length, drop, replicate, Ok, Err, Result, nat_le, nat_lt, slice_index_or, slice_set}
use Rattle.value.specs.Values.{Bytes}
use Rattle.store.specs.declared.refusals.KeepRefusal.{KeepRefusal}
use Rattle.store.specs.declared.refusals.KeepRefusal.TheVariants as keep
use Rattle.store.specs.declared.refusals.AskRefusal.{AskRefusal}
use Rattle.store.specs.declared.refusals.AskRefusal.TheVariants as ask

-- there are 128 values, none is longer than 24, and every number in them is a byte
pub record Sound (held : List (List ℕ)) : Type 0 where
  pub rows : length held ≡ 128
  pub short : (row : ℕ) → length (slice_index_or held row []) ≤ 24
  pub octets : (row : ℕ) → Bytes (slice_index_or held row [])

-- what a new store holds: 0 bytes for each row
abbrev pub empty_rows : List (List ℕ)
empty_rows = replicate 128 []

-- whether a store accepts a value for a row
abbrev pub accepts : ℕ → List ℕ → Bool
accepts row v = cond (nat_lt row 128) (nat_le (length v) 24) false

-- what keeping a value for a row answers
abbrev pub keep_answer : ℕ → List ℕ → Result (Unit {0}) KeepRefusal
keep_answer row v = cond (accepts row v) (Ok tt) (Err keep.OutOfBounds)

-- the values after it: that row's is the one given, and no other changed
abbrev pub held_after : List (List ℕ) → ℕ → List ℕ → List (List ℕ)
held_after held row v = cond (accepts row v) (slice_set held row v) held

-- what asking for a row's value answers, at a buffer of some length
abbrev pub ask_answer : List (List ℕ) → ℕ → ℕ → Result ℕ AskRefusal
ask_answer held row room =
    cond (nat_lt room 24) (Err ask.ShortBuffer)
    (cond (nat_lt row 128) (Ok (length (slice_index_or held row []))) (Err ask.OutOfBounds))

-- the buffer after it: the value at its start, and the bytes past it as they were
abbrev pub buffer_after : List (List ℕ) → ℕ → List ℕ → List ℕ
buffer_after held row buffer =
    cond (nat_lt (length buffer) 24) buffer
    (cond (nat_lt row 128) (slice_index_or held row [] ++ drop (length (slice_index_or held row [])) buffer) buffer)
