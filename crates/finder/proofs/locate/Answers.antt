use Rattle.std.proofs.Common.{◌≡◌, ℕ, ◌+◌, ◌-◌, ◌<◌, ◌≤◌, List, length, take, drop, sym, refl, ap, subst, arith, length-drop, rules}
use Rattle.std.proofs.lemmas.List.{length-take-le}
use Rattle.finder.specs.declared.Outcome.{Outcome}
use Rattle.finder.specs.declared.Outcome.TheVariants.{Frame, More, None}
use Rattle.finder.specs.declared.Attempt.TheVariants.{Ends, Restarts, Fails, Open}
use Rattle.finder.specs.First.{Answer, First}
use Rattle.finder.specs.Search.{attempt, found}
use Rattle.finder.specs.Laws.{Laws}
use Rattle.finder.proofs.Turns.{Passes, fails, restarts, attempt-within, passes_within, at_rest, from_passes, from_ends, from_open, from_end}
use Rattle.finder.proofs.Firsts.{found_first, only_one, whole_found, within, filled, few}
use Rattle.finder.proofs.Feeds.{noise_shifts, frame_stays, rest_suffices, pieces_alike}
use Rattle.finder.proofs.locate.Goals as goal

laws : Laws
laws = record {
  only = only_one;
  whole = whole_found;
  noise = noise_shifts;
  stays = frame_stays;
  rest = rest_suffices;
  pieces = pieces_alike;
  edges = refl;
}

-- What is told at each exit: `o`, the place p, and a frame of n bytes.
abbrev Told : List ℕ → Outcome → ℕ → ℕ → Type 0
Told bs o p n = record {
  outcome : o ≡ (found bs).0;
  place : p ≡ (found bs).1;
  frame : take n (drop p bs) ≡ (found bs).2;
  first : First bs (o, p, take n (drop p bs));
  within : p + n ≤ length bs;
  filled : o ≡ Frame → 0 < n;
  few : (o ≡ Frame → ⊥) → length bs < p + 138;
  laws : Laws;
}

told : (bs : List ℕ) (o : Outcome) (p n : ℕ) → n ≤ length (drop p bs) → found bs ≡ (o, p, take n (drop p bs)) → Told bs o p n
told bs o p n h e =
    let f : First bs (o, p, take n (drop p bs)) = subst (First bs) e (found_first bs) in
    let l : length (take n (drop p bs)) ≡ n = length-take-le n (drop p bs) h in
    record {
      outcome = sym (ap (λ (x : Answer). x.0) e);
      place = sym (ap (λ (x : Answer). x.1) e);
      frame = sym (ap (λ (x : Answer). x.2) e);
      first = f;
      within = let w = within bs f in omega arith;
      filled = λ g. let w = filled bs f g in omega arith;
      few = few bs f;
      laws = laws;
    }

pub returns-in-Ends : goal.returns-in-Ends
returns-in-Ends c =
    let bs = c.args.received.now in
    let i = c.loop-place.place in
    let n = c.in-Ends.n in
    let e : attempt (drop i bs) ≡ Ends n = at_rest bs i (Ends n) c.in-Ends.ensures in
    told bs Frame i n (attempt-within (drop i bs) (Ends n) e).1 (from_ends bs i c.loop-place.invariant n e)

restarted : (c : goal.In-Restarts) → Passes (drop c.loop-place.place c.args.received.now) c.in-Restarts.n
restarted c = restarts (at_rest c.args.received.now c.loop-place.place (Restarts c.in-Restarts.n) c.in-Restarts.ensures)

further : (c : goal.In-Restarts) → (0 < c.in-Restarts.n) × (c.in-Restarts.n ≤ length c.args.received.now - c.loop-place.place)
further c =
    let w = passes_within (drop c.loop-place.place c.args.received.now) (restarted c) in
    let l = length-drop c.loop-place.place c.args.received.now in
    (omega arith, omega arith)

pub overflow_add-place : goal.overflow_add-place
overflow_add-place c = let w = further c in search rules

pub loop-place-smaller-in-Restarts : goal.loop-place-smaller-in-Restarts
loop-place-smaller-in-Restarts c = let w = further c in omega arith

pub loop-place-preserved-in-Restarts : goal.loop-place-preserved-in-Restarts
loop-place-preserved-in-Restarts c = from_passes c.args.received.now c.loop-place.place c.loop-place.invariant c.in-Restarts.n (restarted c)

pub loop-place-preserved : goal.loop-place-preserved
loop-place-preserved c =
    let bs = c.args.received.now in
    let i = c.loop-place.place in
    let l : length (drop i bs) ≡ length bs - i = length-drop i bs in
    from_passes bs i c.loop-place.invariant 1 (fails (omega arith) (at_rest bs i Fails c.in-Fails.ensures))

pub returns-in-Open : goal.returns-in-Open
returns-in-Open c =
    let bs = c.args.received.now in
    let i = c.loop-place.place in
    told bs More i 0 (omega arith) (from_open bs i c.loop-place.invariant (at_rest bs i Open c.in-Open.ensures))

pub returns : goal.returns
returns c =
    let bs = c.args.received.now in
    let i = c.loop-place.place in
    told bs None i 0 (omega arith) (from_end bs i c.loop-place.invariant c.loop-place-test.false)
