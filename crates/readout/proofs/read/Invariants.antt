use Rattle.std.proofs.Common.{◌≡◌, ◌<◌, length}
use Rattle.std.specs.List.{AllByRecursion}
use Rattle.table.specs.Held.{rows_of}
use Rattle.chain.specs.declared.access.Access.TheVariants.{Read}
use Rattle.chain.specs.Answers.{answer_from, read_answer}
use Rattle.chain.specs.Built.{built}
use Rattle.chain.specs.Items.{row_of}
use Rattle.chain.specs.Reader.{chain_of, remaining}
use Rattle.promises.specs.Stored.{values_in}
use Rattle.readout.proofs.read.Given as goal

-- what is left of the chain gives the whole answer, behind the bytes that are put together, and it asks for rows of the table
abbrev pub invariant-loop-item : goal.invariant-loop-item
invariant-loop-item g l =
    (answer_from (rows_of l.table) (values_in (g.S.Store.held l.store)) (built l.answer) (remaining l.chain).items (remaining l.chain).refusal
    ≡ read_answer (rows_of l.table) (values_in (g.S.Store.held l.store)) (chain_of Read (rows_of l.table) l.message))
    × AllByRecursion (λ x. row_of x < length (rows_of l.table)) (remaining l.chain).items

-- one item fewer is left
abbrev pub decreases-loop-item : goal.decreases-loop-item
decreases-loop-item g l = length (remaining l.chain).items
