-- What refuses a write: the checks along the chain, and then the feeds.
use Rattle.std.proofs.Common.{◌≡◌, ℕ, Bool, true, false, List, [], ◌∷◌, Some, None, Ok, Err, Option, Result, IsErrAnd, sym, refl, ap, ◌∙◌, arith}
use Rattle.table.specs.Rows.{PlainRow}
use Rattle.order.specs.Last.{else}
use Rattle.chain.specs.declared.access.Access.TheVariants.{Write}
use Rattle.chain.specs.declared.fault.RackFault.{RackFault}
use Rattle.chain.specs.Answers.{Values}
use Rattle.chain.specs.Items.{PlainItem}
use Rattle.chain.specs.Locks.{lock_of}
use Rattle.chain.specs.Reader.{chain_of, checked}
use Rattle.chain.specs.Walks.{Walked}
use Rattle.chain_laws.proofs.Locks.{locks_lie_over}
use Rattle.promises.specs.Requests.{Setup}
use Rattle.promises.specs.Replies.{overdrawn, unless_refused, unlocked, write_refusal}
use Rattle.promises.specs.Stored.{kept_in_store}

-- the one pass refuses by a locked row, else by what was sent
passed : (rows : List PlainRow) (m : List ℕ) (u : Bool) →
    (chain_of (Write u) rows m).refusal ≡ else (lock_of u rows (chain_of (Write true) rows m).found) (chain_of (Write true) rows m).refusal
passed rows [] true = refl
passed rows [] false = refl
passed rows (c ∷ bs) u = (locks_lie_over u rows bs).refusal

else-else : (o p q : Option RackFault) → else (else o p) q ≡ else o (else p q)
else-else None p q = refl
else-else (Some f) p q = refl

pub told_refusal : (o : Option RackFault) (f : RackFault) → Err f ≡ checked o → o ≡ Some f
told_refusal None f e = grind arith
told_refusal (Some g) f e = grind arith

pub told_none : (o : Option RackFault) → Ok tt ≡ checked o → o ≡ None
told_none None e = refl
told_none (Some g) e = grind arith

-- `?` hands a refusal on
pub handed_on : (r : Result (Unit {0}) RackFault) (f : RackFault) → IsErrAnd r (λ g. g ≡ f) → r ≡ Err f
handed_on (Ok x) f e = absurd e
handed_on (Err g) f e = ap (λ (h : RackFault). Err h) e

module _ (s : Setup) (h : Values) (m : List ℕ) (u : Bool) (e : u ≡ unlocked h) where
  abbrev reading : Walked
  reading = chain_of (Write true) s.rows m

  by_parts : (o p : Option RackFault) → (chain_of (Write u) s.rows m).refusal ≡ o → overdrawn s h reading.items ≡ p → write_refusal s h reading ≡ else o p
  by_parts o p a b =
      sym (else-else (lock_of (unlocked h) s.rows reading.found) reading.refusal (overdrawn s h reading.items))
      ∙ ap (λ (v : Bool). else (else (lock_of v s.rows reading.found) reading.refusal) (overdrawn s h reading.items)) (sym e)
      ∙ ap (λ (x : Option RackFault). else x (overdrawn s h reading.items)) (sym (passed s.rows m u) ∙ a)
      ∙ ap (else o) b

  -- what refuses the chain refuses the write
  pub chain_refuses : (f : RackFault) → Err f ≡ checked (chain_of (Write u) s.rows m).refusal → Err f ≡ checked (write_refusal s h reading)
  chain_refuses f a =
      sym (ap checked (by_parts (Some f) (overdrawn s h reading.items) (told_refusal (chain_of (Write u) s.rows m).refusal f a) refl))

  -- where nothing does, the feeds have their say
  pub feeds_refuse : Ok tt ≡ checked (chain_of (Write u) s.rows m).refusal → checked (overdrawn s h reading.items) ≡ checked (write_refusal s h reading)
  feeds_refuse a =
      sym (ap checked (by_parts None (overdrawn s h reading.items) (told_none (chain_of (Write u) s.rows m).refusal a) refl))

-- a refused write keeps nothing
pub none_kept : (o : Option RackFault) (f : RackFault) (items : List PlainItem) (held : List (List ℕ)) → Err f ≡ checked o → held ≡ kept_in_store (unless_refused o items) held
none_kept o f items held e = ap (λ (x : Option RackFault). kept_in_store (unless_refused x items) held) (sym (told_refusal o f e))

-- any other keeps all of its items
pub all_kept : (o : Option RackFault) (items : List PlainItem) (held held' : List (List ℕ)) → Ok tt ≡ checked o → held' ≡ kept_in_store items held → held' ≡ kept_in_store (unless_refused o items) held
all_kept o items held held' e k = k ∙ ap (λ (x : Option RackFault). kept_in_store (unless_refused x items) held) (sym (told_none o e))
