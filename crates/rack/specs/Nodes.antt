-- The node of a rack.
use Rattle.std.specs.Prelude.{ℕ, cond, ◌&&◌, Ok, Err, Result, nat_le}
use Rattle.rack.specs.declared.node.Node.{Node}
use Rattle.rack.specs.declared.node.calls.NodeRefusal.{NodeRefusal}
use Rattle.rack.specs.declared.node.calls.NodeRefusal.TheVariants.{OutOfRange}

-- the number of the refusal
abbrev pub node_number : NodeRefusal → ℕ
node_number OutOfRange = 5

-- a node is 3 to 120
abbrev pub node_of : ℕ → Result ℕ NodeRefusal
node_of n = cond (nat_le 3 n && nat_le n 120) (Ok n) (Err OutOfRange)

abbrev pub number_in : Result Node NodeRefusal → Result ℕ NodeRefusal
number_in (Ok node) = Ok node.number
number_in (Err refusal) = Err refusal
