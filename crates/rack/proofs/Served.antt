-- What each command is answered with.
use Rattle.std.proofs.Common.{◌≡◌, ℕ, Bool, true, false, cond, ◌||◌, eqb, List, [], ◌∷◌, length, Some, None, Ok, Err, Option, Result, refl, add-one}
use Rattle.line.specs.declared.fault.LineFault.TheVariants.{OtherNode}
use Rattle.line.specs.Messages.{data_msg}
use Rattle.table.specs.Rows.{PlainRow}
use Rattle.chain.specs.declared.access.Access.TheVariants as access
use Rattle.chain.specs.declared.access.Command.{Command}
use Rattle.chain.specs.declared.access.Command.TheVariants.{Write, WriteUnanswered, Read}
use Rattle.chain.specs.declared.fault.ChainFault.{ChainFault}
use Rattle.chain.specs.declared.fault.ChainFault.TheVariants.{Line, UnknownCommand, MissingByte}
use Rattle.chain.specs.declared.fault.RackFault.{RackFault}
use Rattle.chain.specs.declared.fault.RackFault.TheVariants.{Chain}
use Rattle.chain.specs.Access.{command_of}
use Rattle.chain.specs.Answers.{Values}
use Rattle.chain.specs.Reader.{chain_of, checked}
use Rattle.promises.specs.Requests.{Setup, Request, other_node, write, read, command_request, data_request, message_request}
use Rattle.promises.specs.Replies.{fault_msg, kept_items, reply_to, status_msg, write_reply}
use Rattle.promises.proofs.Options.{cond_prop}
use Rattle.rack.specs.Commands.{command_at, command_for}
use Rattle.rack.specs.Replies.{no_command_msg, reply_with}

-- a write that is done, and one that is refused
pub write_done : (node size : ℕ) (o : Option RackFault) (u : Unit {0}) → Ok u ≡ checked o →
    reply_with (Some (status_msg node 0x00 size)) None ≡ write_reply node true size o
write_done node size None u e = refl
write_done node size (Some f) u e = cc

pub write_refused : (node size : ℕ) (o : Option RackFault) (f : RackFault) → Err f ≡ checked o →
    reply_with (Some (fault_msg node f)) (Some f) ≡ write_reply node true size o
write_refused node size None f e = cc
write_refused node size (Some g) f e = cc

-- the request that a command makes with the data bytes of its message
abbrev pub request_by : List PlainRow → ℕ → Command → List ℕ → Request
request_by rows node Write bytes = write node true (length bytes) (chain_of (access.Write true) rows bytes)
request_by rows node WriteUnanswered bytes = write node false (length bytes) (chain_of (access.Write true) rows bytes)
request_by rows node Read bytes = read node (chain_of access.Read rows bytes)

-- the commands are three
no_other : (b : ℕ) (f : ChainFault) → Err f ≡ command_of b → f ≡ UnknownCommand
no_other b f =
    let P : Result Command ChainFault → Type 0 = λ r. Err f ≡ r → f ≡ UnknownCommand in
    cond_prop P (eqb b 0x01) (Ok Write) (cond (eqb b 0x02) (Ok WriteUnanswered) (cond (eqb b 0x04) (Ok Read) (Err UnknownCommand))) (λ e. cc)
    (cond_prop P (eqb b 0x02) (Ok WriteUnanswered) (cond (eqb b 0x04) (Ok Read) (Err UnknownCommand)) (λ e. cc)
    (cond_prop P (eqb b 0x04) (Ok Read) (Err UnknownCommand) (λ e. cc) (λ e. cc)))

-- the request that a message makes
module _ (s : Setup) (node : ℕ) where
  by_command : (r : Command) (x : Result Command ChainFault) (b : ℕ) (bs : List ℕ) → Ok r ≡ x → command_request s.rows node x bs ≡ request_by s.rows node r (b ∷ bs)
  by_command Write x b bs e = rw (← e, add-one)
  by_command WriteUnanswered x b bs e = rw (← e, add-one)
  by_command Read x b bs e = rw (← e)

  by_node : (for : Bool) (r : Command) (bytes : List ℕ) → Ok r ≡ cond for (command_at bytes) (Err (Line OtherNode)) → cond for (data_request s.rows node bytes) other_node ≡ request_by s.rows node r bytes
  by_node true r [] e = cc
  by_node true r (b ∷ bs) e = by_command r (command_of b) b bs e
  by_node false r bytes e = cc

  pub commanded : (r : Command) (bytes : List ℕ) → Ok r ≡ command_for s.node node bytes → message_request s (data_msg node bytes) ≡ request_by s.rows node r bytes
  commanded r bytes e = by_node (eqb node s.node || eqb node 128) r bytes e

  -- a message that has no command for the rack
  pub record NoCommand (h : Values) (f : ChainFault) (r : Request) : Type 0 where
    pub told : reply_with (Some (no_command_msg node f)) (Some (Chain f)) ≡ reply_to s h r
    pub kept : [] ≡ kept_items s h r

  by_unknown : (h : Values) (f : ChainFault) (x : Result Command ChainFault) (bs : List ℕ) → Err f ≡ x → f ≡ UnknownCommand → NoCommand h f (command_request s.rows node x bs)
  by_unknown h f x bs e q = rw (← e, q) (record { told = refl; kept = refl })

  by_fault : (for : Bool) (h : Values) (f : ChainFault) (bytes : List ℕ) → Err f ≡ cond for (command_at bytes) (Err (Line OtherNode)) → NoCommand h f (cond for (data_request s.rows node bytes) other_node)
  by_fault true h f [] e = let q : f ≡ MissingByte 0 = cc in rw q (record { told = refl; kept = refl })
  by_fault true h f (b ∷ bs) e = by_unknown h f (command_of b) bs e (no_other b f e)
  by_fault false h f bytes e = let q : f ≡ Line OtherNode = cc in rw q (record { told = refl; kept = refl })

  pub no_command : (h : Values) (f : ChainFault) (bytes : List ℕ) → Err f ≡ command_for s.node node bytes → NoCommand h f (message_request s (data_msg node bytes))
  no_command h f bytes e = by_fault (eqb node s.node || eqb node 128) h f bytes e
