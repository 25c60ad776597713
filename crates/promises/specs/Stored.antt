-- A rack whose values are kept in a store.
use Rattle.std.specs.Prelude.{◌≡◌, ℕ, List, [], ◌∷◌, length, slice_index_or}
use Rattle.table.specs.Tables.{Ruled}
use Rattle.store.specs.Held.{held_after}
use Rattle.chain.specs.Items.{PlainItem, write, read}
use Rattle.chain.specs.Answers.{Values}
use Rattle.promises.specs.Outcomes.{Outcome}
use Rattle.promises.specs.Wires.{Call}
use Rattle.promises.specs.Requests.{Setup, request_of}
use Rattle.promises.specs.Replies.{kept_items}
use Rattle.promises.specs.Runs.{outcome, CallAnswered}

-- what the rows hold, by the values of a store
abbrev pub values_in : List (List ℕ) → Values
values_in held r = slice_index_or held r []

-- the values of a store that keeps the items one after the other
abbrev pub kept_in_store : List PlainItem → List (List ℕ) → List (List ℕ)
kept_in_store [] held = held
kept_in_store (write row place value ∷ items) held = kept_in_store items (held_after held row value)
kept_in_store (read query ∷ items) held = kept_in_store items held

-- a call whose outcome is the one laid down, and whose items a store of 128 values keeps one after the other, is answered
abbrev pub AnsweredInStore : Type 0
AnsweredInStore = (s : Setup) → Ruled s.rows s.limits → (c : Call) (held held' : List (List ℕ)) (o : Outcome) → length held ≡ 128 →
    o ≡ outcome s c (values_in held) → held' ≡ kept_in_store (kept_items s (values_in held) (request_of s c)) held →
    CallAnswered s c (values_in held) o (values_in held')
