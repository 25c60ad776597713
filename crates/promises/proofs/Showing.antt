-- The exchanges with the show rack, by computing, and that its table keeps the rules of tables.
use Rattle.std.proofs.Common.{◌≡◌, ℕ, zero, suc, true, refl, arith}
use lib.Ieee as Ieee
use Rattle.value.specs.Values.{Bytes}
use Rattle.table.specs.Draws.{defaults}
use Rattle.table.specs.Tables.{all_keep_rules, Capped, Supplied, Ruled}
use Rattle.promises.specs.Show.{show_rows, show_rack, Exchanges}

pub exchanges : Exchanges
exchanges = refl

show_lawful : all_keep_rules show_rows ≡ true
unfolding Ieee.le Ieee.of_bits
show_lawful = refl

show_capped : Capped show_rack.limits
show_capped zero = omega arith
show_capped (suc zero) = omega arith
show_capped (suc (suc zero)) = omega arith
show_capped (suc (suc (suc zero))) = omega arith
show_capped (suc (suc (suc (suc zero)))) = omega arith
show_capped (suc (suc (suc (suc (suc zero))))) = omega arith
show_capped (suc (suc (suc (suc (suc (suc zero)))))) = omega arith
show_capped (suc (suc (suc (suc (suc (suc (suc zero))))))) = omega arith
show_capped (suc (suc (suc (suc (suc (suc (suc (suc zero)))))))) = omega arith
show_capped (suc (suc (suc (suc (suc (suc (suc (suc (suc f))))))))) = omega arith

show_supplied : Supplied show_rows show_rack.limits
show_supplied zero a b = absurd (omega arith)
show_supplied (suc zero) a b = refl
show_supplied (suc (suc zero)) a b = refl
show_supplied (suc (suc (suc zero))) a b = refl
show_supplied (suc (suc (suc (suc zero)))) a b = refl
show_supplied (suc (suc (suc (suc (suc zero))))) a b = refl
show_supplied (suc (suc (suc (suc (suc (suc zero)))))) a b = refl
show_supplied (suc (suc (suc (suc (suc (suc (suc zero))))))) a b = refl
show_supplied (suc (suc (suc (suc (suc (suc (suc (suc zero)))))))) a b = refl
show_supplied (suc (suc (suc (suc (suc (suc (suc (suc (suc f))))))))) a b = absurd (omega arith)

show_octets : (r : ℕ) → Bytes (defaults show_rows r)
unfolding Ieee.of_bits Ieee.to_bits Ieee.is_nan
show_octets zero = (omega arith, tt)
show_octets (suc zero) = (omega arith, (omega arith, tt))
show_octets (suc (suc zero)) = (omega arith, (omega arith, tt))
show_octets (suc (suc (suc zero))) = (omega arith, (omega arith, tt))
show_octets (suc (suc (suc (suc zero)))) = (omega arith, (omega arith, (omega arith, (omega arith, tt))))
show_octets (suc (suc (suc (suc (suc zero))))) = (omega arith, (omega arith, (omega arith, (omega arith, tt))))
show_octets (suc (suc (suc (suc (suc (suc r)))))) = (omega arith, tt)

pub show_ruled : Ruled show_rack.rows show_rack.limits
show_ruled = record {
  some = omega arith;
  few = omega arith;
  first = refl;
  lawful = show_lawful;
  distinct = refl;
  eight = refl;
  capped = show_capped;
  supplied = show_supplied;
  octets = show_octets;
}
