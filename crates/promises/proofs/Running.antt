-- A run gives what its calls give one after the other, so that the promises hold of it.
use Rattle.std.proofs.Common.{◌≡◌, List, [], ◌∷◌, sym, refl, ap, ◌∙◌, subst}
use mathlib.Core.Path.{fun_ext}
use Rattle.table.specs.Tables.{Ruled}
use Rattle.chain.specs.Answers.{Values}
use Rattle.promises.specs.Outcomes.{Outcome}
use Rattle.promises.specs.Wires.{Call}
use Rattle.promises.specs.Requests.{Setup, request_of}
use Rattle.promises.specs.Replies.{values_after}
use Rattle.promises.specs.Runs.{outcome, CallAnswered, Run}
use Rattle.promises.specs.Promised.{accepted_values, RefusedByNoOther, SameInOrder, FeedsWithin, ExactlyRefused, Promises}
use Rattle.promises.proofs.Keeping.{run, left, feeds_run}
use Rattle.promises.proofs.Exactness.{exact_run}
use Rattle.promises.proofs.Ordering.{order_run}

run_is : (s : Setup) (calls : List Call) (h : Values) (os : List Outcome) (k : Values) → Run s calls h os k → (run s calls h ≡ os) × (left s calls h ≡ k)
run_is s [] h [] k e = (refl, fun_ext (λ r. sym (e r)))
run_is s [] h (o ∷ os) k e = absurd e
run_is s (c ∷ calls) h [] k e = absurd e
run_is s (c ∷ calls) h (o ∷ os) k e =
    let m : values_after s h (request_of s c) ≡ e.0 = fun_ext (λ r. sym (e.1.leaves r)) in
    let i = run_is s calls e.0 os k e.2 in
    let g = e.1.gives in (
      ap (λ (x : Values). outcome s c h ∷ run s calls x) m ∙ ap (λ (x : List Outcome). outcome s c h ∷ x) i.0 ∙ ap (λ (x : Outcome). x ∷ os) (sym g),
      ap (left s calls) m ∙ i.1,
    )

-- what holds of the outcomes and the values of every run from these values
abbrev OfRun : (s : Setup) → List Call → Values → (List Outcome → Values → Type 0) → Type 0
OfRun s calls h P = P (run s calls h) (left s calls h)

of_run : (s : Setup) (calls : List Call) (h : Values) (P : List Outcome → Values → Type 0) → OfRun s calls h P →
    (os : List Outcome) (k : Values) → Run s calls h os k → P os k
of_run s calls h P x os k e =
    let i = run_is s calls h os k e in
    subst (λ (y : List Outcome). P y k) i.0 (subst (λ (y : Values). P (run s calls h) y) i.1 x)

pub promises : (s : Setup) → Ruled s.rows s.limits → Promises s
promises s ruled = record {
  order = λ calls calls' p lawful lawful' h h' new new' os os' k k' u u'.
      of_run s calls h (λ x y. SameInOrder s calls calls' p.to x os' y k')
      (of_run s calls' h' (λ x y. SameInOrder s calls calls' p.to (run s calls h) x (left s calls h) y)
      (order_run s ruled calls calls' p lawful lawful' h h' new new') os' k' u') os k u;
  feeds = λ calls h new os k u. of_run s calls h (λ x y. FeedsWithin s calls x y) (feeds_run s ruled calls h new) os k u;
  exactness = λ calls h new os k u.
      of_run s calls h
      (λ x y. (c : Call) (sent : RefusedByNoOther s (accepted_values s calls x) c) (o : Outcome) (next : Values) → CallAnswered s c y o next →
      ExactlyRefused s (accepted_values s calls x) sent.chain.items o)
      (exact_run s ruled calls h new) os k u;
}
