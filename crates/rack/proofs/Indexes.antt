-- The indexes of faults fit a byte, since a message has at most 64 data bytes.
use Rattle.std.proofs.Common.{◌≡◌, ℕ, ◌+◌, ◌<◌, ◌≤◌, Bool, true, false, ◌&&◌, eqb, List, [], ◌∷◌, length, get_or, IfSome, Some, None, Err, Option, refl, subst, arith}
use Rattle.table.specs.Rows.{PlainRow}
use Rattle.table.specs.Draws.{row_at}
use Rattle.order.specs.Last.{else}
use Rattle.chain.specs.declared.access.Access.TheVariants.{Write, Read}
use Rattle.chain.specs.declared.fault.RackFault.{RackFault}
use Rattle.chain.specs.declared.fault.RackFault.TheVariants.{Secured}
use Rattle.chain.specs.Faults.{rack_place, missing}
use Rattle.chain.specs.Items.{PlainItem, row_of, place_of}
use Rattle.chain.specs.Walks.{Found, Walked}
use Rattle.chain.specs.Chains.{chain_by}
use Rattle.chain.specs.Locks.{first_secured, lock_of}
use Rattle.chain.specs.Answers.{Values, read_answer}
use Rattle.chain.specs.Reader.{chain_of, checked}
use Rattle.chain_laws.specs.Places.{Ascend, found_places, item_places, Placed}
use Rattle.chain_laws.proofs.Answers.{places_lie_inside}
use Rattle.promises.specs.Requests.{Setup}
use Rattle.promises.specs.Replies.{feeds, feed_refusal, first_on, over_limit, overdrawn, unlocked, write_refusal}
use Rattle.promises.proofs.Keeping.{first_some}
use Rattle.promises.proofs.Options.{cond_prop}
use Rattle.readout.specs.Told.{unless_refused, result_of}

-- what refuses has an index below 256
abbrev pub Small : Option RackFault → Type 0
Small o = IfSome o (λ f. rack_place f < 256)

small_else : (o p : Option RackFault) → Small o → Small p → Small (else o p)
small_else None p a b = b
small_else (Some f) p a b = a

small_secured : (rows : List PlainRow) (fs : List Found) (from end : ℕ) → end ≤ 256 → Ascend from end (found_places fs) → Small (first_secured rows fs)
small_secured rows [] from end h a = tt
small_secured rows (f ∷ fs) from end h a =
    let low : f.place < end = a.1 in
    cond_prop Small (f.reached && (row_at rows f.row).secured) (Some (Secured f.place)) (first_secured rows fs) (omega arith) (small_secured rows fs (f.place + 1) end h a.2)

small_lock : (b : Bool) (rows : List PlainRow) (fs : List Found) (from end : ℕ) → end ≤ 256 → Ascend from end (found_places fs) → Small (lock_of b rows fs)
small_lock true rows fs from end h a = tt
small_lock false rows fs from end h a = small_secured rows fs from end h a

-- the first item on a feed
abbrev Below : Option ℕ → Type 0
Below None = Unit {0}
Below (Some i) = i < 256

first_below : (rows : List PlainRow) (f : ℕ) (xs : List PlainItem) (from end : ℕ) → end ≤ 256 → Ascend from end (item_places xs) → Below (first_on rows f xs)
first_below rows f [] from end h a = tt
first_below rows f (x ∷ xs) from end h a =
    let low : place_of x < end = a.1 in
    cond_prop Below (eqb (row_at rows (row_of x)).feed f) (Some (place_of x)) (first_on rows f xs) (omega arith) (first_below rows f xs (place_of x + 1) end h a.2)

small_feed : (stays : Bool) (o : Option ℕ) → Below o → Small (feed_refusal stays o)
small_feed stays None b = tt
small_feed true (Some i) b = tt
small_feed false (Some i) b = b

small_overdrawn : (s : Setup) (h : Values) (xs : List PlainItem) (from end : ℕ) → end ≤ 256 → Ascend from end (item_places xs) → (o : Option RackFault) → overdrawn s h xs ≡ o → Small o
small_overdrawn s h xs from end l a None e = tt
small_overdrawn s h xs from end l a (Some f) e =
    let k = first_some (over_limit s h xs) feeds f e in
    let n = get_or feeds k.0 0 in
    subst Small k.2 (small_feed _ (first_on s.rows n xs) (first_below s.rows n xs from end l a))

small_refusal : (from end : ℕ) (w : Walked) → end ≤ 255 → Placed from end w → (o : Option RackFault) → w.refusal ≡ o → Small o
small_refusal from end w h p None e = tt
small_refusal from end w h p (Some g) e = let q = (p.refusal g e).1 in omega arith

-- what refuses a write
small_walk : (s : Setup) (h : Values) (rows : List PlainRow) (bytes : List ℕ) → length bytes ≤ 64 → Small (write_refusal s h (chain_of (Write true) rows bytes))
small_walk s h rows [] l = small_else (lock_of (unlocked h) s.rows []) (else (Some (missing 0)) (overdrawn s h [])) (small_lock (unlocked h) s.rows [] 0 0 (omega arith) tt) (omega arith)
small_walk s h rows (c ∷ bs) l =
    let p = (places_lie_inside rows bs).0 (Write true) in
    let end : 1 + length bs ≤ 255 = omega arith in
    let w = chain_by (Write true) rows bs in
    small_else (lock_of (unlocked h) s.rows w.found) (else w.refusal (overdrawn s h w.items)) (small_lock (unlocked h) s.rows w.found 1 (1 + length bs) (omega arith) p.found)
    (small_else w.refusal (overdrawn s h w.items) (small_refusal 1 (1 + length bs) w end p w.refusal refl) (small_overdrawn s h w.items 1 (1 + length bs) (omega arith) p.items (overdrawn s h w.items) refl))

refusing : (o : Option RackFault) (f : RackFault) → Err f ≡ checked o → o ≡ Some f
refusing None f e = cc
refusing (Some g) f e = let q : f ≡ g = cc in rw q refl

pub small_write : (s : Setup) (h : Values) (rows : List PlainRow) (bytes : List ℕ) → length bytes ≤ 64 → (f : RackFault) →
    Err f ≡ checked (write_refusal s h (chain_of (Write true) rows bytes)) → rack_place f < 256
small_write s h rows bytes l f e = subst Small (refusing (write_refusal s h (chain_of (Write true) rows bytes)) f e) (small_walk s h rows bytes l)

-- what refuses a read
small_told : (o : Option RackFault) (bytes : List ℕ) (f : RackFault) → Err f ≡ unless_refused o bytes → o ≡ Some f
small_told None bytes f e = cc
small_told (Some g) bytes f e = let q : f ≡ g = cc in rw q refl

pub small_read : (rows : List PlainRow) (h : Values) (bytes : List ℕ) → length bytes ≤ 64 → (f : RackFault) → Err f ≡ result_of (read_answer rows h (chain_of Read rows bytes)) → rack_place f < 256
small_read rows h [] l f e = let q : f ≡ missing 0 = cc in rw q (omega arith)
small_read rows h (c ∷ bs) l f e =
    let a = read_answer rows h (chain_by Read rows bs) in
    let q = ((places_lie_inside rows bs).1 h f (small_told a.refusal a.bytes f e)).1 in
    omega arith
