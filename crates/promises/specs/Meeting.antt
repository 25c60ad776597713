-- Which calls meet, by the calls and the table alone.
use Rattle.std.specs.Prelude.{ℕ, Bool, true, false, cond, not, ◌&&◌, ◌||◌, List, [], ◌∷◌, length, ◌==◌, nat_lt}
use Rattle.table.specs.Rows.{PlainRow}
use Rattle.table.specs.Draws.{row_at}
use Rattle.order.specs.Calls.{Calls}
use Rattle.chain.specs.Walks.{Found}
use Rattle.chain.specs.Answers.{Values}
use Rattle.promises.specs.Wires.{Call}
use Rattle.promises.specs.Requests.{Setup, Request, short_buffer, unreadable, error_message, other_node, unknown_command, write, read, request_of}
use Rattle.promises.specs.Replies.{Reply, reply_to, values_after}

-- the rows that are found for a request's items, up to and with the item where what was sent alone first refuses
abbrev pub found_for : Request → List Found
found_for short_buffer = []
found_for (unreadable flaw answered) = []
found_for error_message = []
found_for other_node = []
found_for (unknown_command node fault) = []
found_for (write node answered size w) = w.found
found_for (read node w) = w.found

abbrev pub is_write : Request → Bool
is_write short_buffer = false
is_write (unreadable flaw answered) = false
is_write error_message = false
is_write other_node = false
is_write (unknown_command node fault) = false
is_write (write node answered size w) = true
is_write (read node w) = false

-- it holds of one of the rows that are found
abbrev pub of_some : (ℕ → Bool) → List Found → Bool
of_some p [] = false
of_some p (f ∷ fs) = p f.row || of_some p fs

-- a request names the row r
abbrev pub names : Request → ℕ → Bool
names request r = of_some (λ k. r == k) (found_for request)

-- a write writes the rows that it names
abbrev pub writes_row : Request → ℕ → Bool
writes_row request r = is_write request && names request r

-- a write of row k also concerns row 0 where row k is secured, and every row on the feed of row k
abbrev pub goes_with : List PlainRow → ℕ → ℕ → Bool
goes_with rows r k =
    ((row_at rows k).secured && r == 0) || (not ((row_at rows k).feed == 0) && (row_at rows r).feed == (row_at rows k).feed)

-- a request concerns the rows that it names, and a write those that go with them
abbrev pub concerns_row : List PlainRow → Request → ℕ → Bool
concerns_row rows request r = names request r || (is_write request && of_some (goes_with rows r) (found_for request))

-- the calls on a rack, as the theorem on order has them: the rows that count are those of the table
abbrev pub rack_calls : Setup → Calls Call Reply (List ℕ) Values
rack_calls s = record {
  row = λ h r. cond (nat_lt r (length s.rows)) (h r) [];
  outcome = λ c h. reply_to s h (request_of s c);
  after = λ c h. values_after s h (request_of s c);
  writes = λ c r. writes_row (request_of s c) r;
  concerns = λ c r. concerns_row s.rows (request_of s c) r;
}
