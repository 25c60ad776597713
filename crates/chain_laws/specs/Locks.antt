-- The secured check, laid over the reading of a write that looks at the message and the table alone.
use Rattle.std.specs.Prelude.{◌≡◌, ℕ, ◌<◌, Bool, List, Some, None}
use Rattle.table.specs.Rows.{PlainRow}
use Rattle.order.specs.Last.{else}
use Rattle.chain.specs.declared.access.Access.TheVariants.{Write}
use Rattle.chain.specs.declared.fault.RackFault.{RackFault}
use Rattle.chain.specs.Faults.{rack_place}
use Rattle.chain.specs.Walks.{Walked}
use Rattle.chain.specs.Chains.{chain_by, write_reading}
use Rattle.chain.specs.Locks.{lock_of}

-- `w` is the reading by message and table alone, `d` what is taken while rows may be locked
pub record LaidOver (unlocked : Bool) (rows : List PlainRow) (w d : Walked) : Type 0 where
  -- a locked row refuses, else what refuses the reading
  pub refusal : d.refusal ≡ else (lock_of unlocked rows w.found) w.refusal
  -- where nothing refuses, the items are the same
  pub items : d.refusal ≡ None → d.items ≡ w.items
  -- where no locked row is found, the two are the same
  pub same : lock_of unlocked rows w.found ≡ None → d ≡ w
  -- a refusal never comes later: that of a locked row stands before whatever refuses the reading
  pub earlier : (f g : RackFault) → lock_of unlocked rows w.found ≡ Some f → w.refusal ≡ Some g → rack_place f < rack_place g

abbrev pub LocksLieOver : Type 0
LocksLieOver = (unlocked : Bool) (rows : List PlainRow) (bs : List ℕ) →
    LaidOver unlocked rows (write_reading rows bs) (chain_by (Write unlocked) rows bs)
