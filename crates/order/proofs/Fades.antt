-- The two fades do not meet, so they may mix; and where the fog is read before its last step, the read gives another value.
use Rattle.std.proofs.Common.{◌≡◌, ℕ, zero, suc, ◌<◌, true, List, [], ◌∷◌, ◌++◌, get_or, Some, None, Ok, refl, ⊎_elim, arith, rules}
use Rattle.std.proofs.lemmas.Bool.{eqb-true}
use Rattle.order.specs.Calls.{outcomes}
use Rattle.order.specs.Fades.{haze, fog, mixed, crossed}
use Rattle.order.specs.Mixing.{Mixed, none, from_first, from_second, Apart}
use Rattle.order.specs.Registers.{register_calls, written, concerned, Retagged, SameAnswer}
use Rattle.order.specs.Reordering.{Rearranged}
use Rattle.order.specs.declared.registers.Call.{Call}
use Rattle.order.specs.declared.registers.Outcome.{Outcome}
use Rattle.order.proofs.RegisterCalls.{written-concerned, premises}
use Rattle.order.proofs.Reordering.{reordering}

pub mix : Mixed Retagged haze fog mixed
mix = from_second refl (from_first refl (from_first refl (from_second refl (from_second refl (from_first refl none)))))

haze_row : (x : Call) (i : ℕ) → i < 3 → (r : ℕ) → concerned (get_or haze i x).ask r ≡ true → r ≡ 1
haze_row x zero h r e = eqb-true r 1 e
haze_row x (suc zero) h r e = eqb-true r 1 e
haze_row x (suc (suc zero)) h r e = eqb-true r 1 e
haze_row x (suc (suc (suc i))) h r e = absurd (omega arith)

fog_row : (x : Call) (i : ℕ) → i < 3 → (r : ℕ) → concerned (get_or fog i x).ask r ≡ true → r ≡ 2
fog_row x zero h r e = eqb-true r 2 e
fog_row x (suc zero) h r e = eqb-true r 2 e
fog_row x (suc (suc zero)) h r e = eqb-true r 2 e
fog_row x (suc (suc (suc i))) h r e = absurd (omega arith)

pub apart : Apart register_calls haze fog
apart x i j h g (r, q) =
    ⊎_elim
    (λ (k : (written (get_or haze i x).ask r ≡ true) × (concerned (get_or fog j x).ask r ≡ true)).
    omega (arith, haze_row x i h r (written-concerned (get_or haze i x).ask r k.0), fog_row x j g r k.1))
    (λ (k : (written (get_or fog j x).ask r ≡ true) × (concerned (get_or haze i x).ask r ≡ true)).
    omega (arith, haze_row x i h r k.1, fog_row x j g r (written-concerned (get_or fog j x).ask r k.0)))
    q

-- three registers, all 0, and the outcomes of the crossed list on them: no call answers 100
abbrev zeros : List ℕ
zeros = 0 ∷ 0 ∷ 0 ∷ []

no_hundred : (x : Outcome) (i : ℕ) → i < 6 → Ok (Some 100) ≡ (get_or (outcomes register_calls crossed zeros) i x).answer → ⊥
no_hundred x zero h e = search rules
no_hundred x (suc zero) h e = search rules
no_hundred x (suc (suc zero)) h e = search rules
no_hundred x (suc (suc (suc zero))) h e = search rules
no_hundred x (suc (suc (suc (suc zero)))) h e = search rules
no_hundred x (suc (suc (suc (suc (suc zero))))) h e = search rules
no_hundred x (suc (suc (suc (suc (suc (suc i)))))) h e = absurd (omega arith)

pub not-crossed : Rearranged register_calls Retagged (haze ++ fog) crossed → ⊥
not-crossed p =
    let x : Outcome = record { tag = 0; answer = Ok None } in
    no_hundred x (p.to 5) (p.to_below 5 (omega arith))
    ((reordering register_calls Retagged SameAnswer premises (haze ++ fog) crossed p zeros zeros (λ r. refl)).outcome x 5 (omega arith))
