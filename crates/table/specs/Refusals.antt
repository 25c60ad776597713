-- Which refusal a call gives, and its number.
use Rattle.std.specs.Prelude.{ℕ, ◌*◌, Bool, true, false, cond, ◌&&◌, ◌||◌, List, [], ◌∷◌, ◌++◌, length, Some, None, Ok, Err, Option, Result, ◌==◌, nat_le}
use Rattle.table.specs.declared.refusals.AddRefusal.{AddRefusal}
use Rattle.table.specs.declared.refusals.AddRefusal.TheVariants.{AgainstRules, PairTaken, TableFull, OverLimit}
use Rattle.table.specs.declared.refusals.LimitRefusal.{LimitRefusal}
use Rattle.table.specs.declared.refusals.LimitRefusal.TheVariants.{OutOfRange, BelowDraw}
use Rattle.table.specs.Rows.{PlainRow, keeps_rules}
use Rattle.table.specs.Draws.{draw, within, default_numbers}
use Rattle.table.specs.Tables.{pair_taken}

-- the number of each refusal
abbrev pub add_number : AddRefusal → ℕ
add_number AgainstRules = 2
add_number PairTaken = 3
add_number TableFull = 4
add_number OverLimit = 6

abbrev pub limit_number : LimitRefusal → ℕ
limit_number OutOfRange = 5
limit_number BelowDraw = 6

-- the rows with one more at the end
abbrev pub added : List PlainRow → PlainRow → List PlainRow
added rows r = rows ++ r ∷ []

-- with the row added, the defaults keep its feed within the limit
abbrev pub has_room : List PlainRow → List ℕ → PlainRow → Bool
has_room rows limits r = r.feed == 0 || within r.feed (added rows r) limits (default_numbers (added rows r))

-- the first of the tests that fails: the row keeps the rules, fewer than 128 rows stand, its pair is free, its default has room
abbrev pub first_failed : (ruled full taken room : Bool) → Option AddRefusal
first_failed false full taken room = Some AgainstRules
first_failed true true taken room = Some TableFull
first_failed true false true room = Some PairTaken
first_failed true false false false = Some OverLimit
first_failed true false false true = None

-- why the row r is not added, if it is not
abbrev pub add_refusal : List PlainRow → List ℕ → PlainRow → Option AddRefusal
add_refusal rows limits r = first_failed (keeps_rules r) (nat_le 128 (length rows)) (pair_taken r.process r.parameter rows) (has_room rows limits r)

-- why the limit n of the feed f is refused: it is out of range, or below what the defaults draw
abbrev pub limit_refusal : List PlainRow → ℕ → ℕ → Option LimitRefusal
limit_refusal rows f n =
    cond (nat_le 1 f && (nat_le f 8 && nat_le n 1000000))
    (cond (nat_le (draw f rows (default_numbers rows)) (n * 32000)) None (Some BelowDraw))
    (Some OutOfRange)

-- what a call answers: the refusal, if there is one
abbrev pub answer : {E : Type 0} → Option E → Result (Unit {0}) E
answer None = Ok tt
answer (Some e) = Err e

-- what stands after a call: the old where it is refused
abbrev pub after : {E X : Type 0} → Option E → X → X → X
after None new old = new
after (Some e) new old = old
