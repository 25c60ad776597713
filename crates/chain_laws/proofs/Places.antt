-- The places that the reading of a chain tells lie in the data.
use Rattle.std.proofs.Common.{◌≡◌, ℕ, ◌+◌, ◌<◌, ◌≤◌, List, [], ◌∷◌, length, Some, None, Option, sym, refl, subst, arith}
use Rattle.std.specs.List.{AllByRecursion}
use Rattle.table.specs.Rows.{PlainRow}
use Rattle.chain.specs.declared.access.Access.{Access}
use Rattle.chain.specs.declared.fault.RackFault.{RackFault}
use Rattle.chain.specs.declared.fault.RackFault.TheVariants.{NoProcess}
use Rattle.chain.specs.declared.reader.Ahead.{Ahead}
use Rattle.chain.specs.declared.reader.Ahead.TheVariants.{Group}
use Rattle.chain.specs.Faults.{rack_place, missing, extra}
use Rattle.chain.specs.Walks.{Walked, barred, spoiled, taken, Look, unfound, on_row, refused_by, onward}
use Rattle.chain.specs.Chains.{opens_by, look_by, chain_by}
use Rattle.chain_laws.specs.Places.{found_places, item_places, Ascend, UpTo, Placed}
use Rattle.chain_laws.proofs.Walks.{Steps, walk_by_lem}
use Rattle.chain_laws.proofs.Looks.{Right, look_right}

-- where a reading stops: at what refuses it, or behind the bytes
abbrev stop_of : Option RackFault → ℕ → ℕ
stop_of None end = end
stop_of (Some g) end = rack_place g

record Stopped (from end : ℕ) (w : Walked) : Type 0 where
  found : Ascend from end (found_places w.found)
  items : Ascend from (stop_of w.refusal end) (item_places w.items)
  low : from ≤ stop_of w.refusal end
  high : stop_of w.refusal end ≤ end
  before : UpTo (stop_of w.refusal end) w.found

ascend_lower : (from from' end : ℕ) (ps : List ℕ) → from' ≤ from → Ascend from end ps → Ascend from' end ps
ascend_lower from from' end [] l a = tt
ascend_lower from from' end (p ∷ ps) l a = (omega (arith, a.0), a.1, a.2)

ascend_longer : (from end end' : ℕ) (ps : List ℕ) → end ≤ end' → Ascend from end ps → Ascend from end' ps
ascend_longer from end end' [] l a = tt
ascend_longer from end end' (p ∷ ps) l a = (a.0, omega (arith, a.1), ascend_longer (p + 1) end end' ps l a.2)

-- places that ascend so lie between the two, each of them
pub ascend_inside : (from end : ℕ) (ps : List ℕ) → Ascend from end ps → AllByRecursion (λ p. (from ≤ p) × (p < end)) ps
ascend_inside from end [] a = tt
ascend_inside from end (p ∷ ps) a = ((a.0, a.1), ascend_inside from end ps (ascend_lower (p + 1) from end ps (omega (arith, a.0)) a.2))

refused_at : (i end : ℕ) (f : RackFault) → i ≤ rack_place f → rack_place f ≤ end → Stopped i end (refused_by f)
refused_at i end f l h = record { found = tt; items = tt; low = l; high = h; before = tt }

stopped_lower : (i end : ℕ) (w : Walked) → Stopped (i + 1) end w → Stopped i end w
stopped_lower i end w s = record {
  found = ascend_lower (i + 1) i end (found_places w.found) (omega arith) s.found;
  items = ascend_lower (i + 1) i (stop_of w.refusal end) (item_places w.items) (omega arith) s.items;
  low = omega (arith, s.low);
  high = s.high;
  before = s.before;
}

module _ (access : Access) (rows : List PlainRow) where
  onward_stops : (i g b : ℕ) (bs : List ℕ) (end : ℕ) (l : Look) (rest : ℕ → Walked) → end ≡ i + 1 + length bs → Right access rows i g b bs l →
      ((k : ℕ) → Stopped (i + 1) end (rest k)) → Stopped i end (onward i l rest)
  onward_stops i g b bs end (unfound f) rest e s h = refused_at i end f s.0 (omega (arith, s.1))
  onward_stops i g b bs end (on_row r (barred f)) rest e s h =
      record {
        found = (omega arith, omega arith, tt);
        items = tt;
        low = s.1;
        high = omega (arith, s.2);
        before = (s.1, (λ n. let z : ◌≡◌ {A = ℕ} 0 1 = cc in absurd (omega arith)), tt);
      }
  onward_stops i g b bs end (on_row r (spoiled f)) rest e s h =
      let t = s.1 in
      record {
        found = (omega arith, omega arith, tt);
        items = tt;
        low = omega (arith, t.0);
        high = omega (arith, t.1);
        before = (omega (arith, t.0), (λ n. omega (arith, t.0)), tt);
      }
  onward_stops i g b bs end (on_row r (taken x k)) rest e s h =
      let t = h k in
      let u : i + 1 ≤ stop_of (rest k).refusal end = t.low in
      record {
        found = (omega arith, omega arith, t.found);
        items = subst (λ (p : ℕ). Ascend i (stop_of (rest k).refusal end) (p ∷ item_places (rest k).items)) (sym s.1.place) (omega arith, omega arith, t.items);
        low = omega arith;
        high = t.high;
        before = (omega arith, (λ n. omega arith), t.before);
      }

  abbrev Stops : ℕ → Ahead → List ℕ → Walked → Type 0
  Stops i a bs w = (end : ℕ) → end ≡ i + length bs → Stopped i end w

  stops : Steps (look_by access rows) Stops
  stops = record {
    short = λ i a end e. refused_at i end (missing i) (omega arith) (omega arith);
    skip = λ i a b bs w h end e. stopped_lower i end w (h end (omega arith));
    group = λ i g bs w h end e. stopped_lower i end w (h end (omega arith));
    closed = λ i g bs end e. refused_at i end (NoProcess i) (omega arith) (omega arith);
    item = λ i g first b bs rest h end e.
        onward_stops i g b bs end (look_by access rows i g first b bs) rest (omega arith) (look_right access rows i g first b bs) (λ k. h k end (omega arith));
    done = λ i end e. record { found = tt; items = tt; low = omega arith; high = omega arith; before = tt };
    more = λ i b bs end e. refused_at i end (extra i) (omega arith) (omega arith);
  }

  pub chain_placed : (bs : List ℕ) → Placed 1 (1 + length bs) (chain_by access rows bs)
  chain_placed bs =
      let s = walk_by_lem (opens_by access rows) (look_by access rows) Stops stops 1 Group 0 bs (1 + length bs) refl in
      placed 1 (1 + length bs) (chain_by access rows bs) s
    where
      placed : (from end : ℕ) (w : Walked) → Stopped from end w → Placed from end w
      placed from end w s = record {
        found = s.found;
        items = ascend_longer from (stop_of w.refusal end) end (item_places w.items) s.high s.items;
        refusal = λ g e. (subst (λ (o : Option RackFault). from ≤ stop_of o end) e s.low, subst (λ (o : Option RackFault). stop_of o end ≤ end) e s.high);
        items_before = λ g e. subst (λ (o : Option RackFault). Ascend from (stop_of o end) (item_places w.items)) e s.items;
        found_before = λ g e. subst (λ (o : Option RackFault). UpTo (stop_of o end) w.found) e s.before;
      }
