-- The front of an array, once some bytes are copied there.
use Rattle.std.proofs.Common.{◌≡◌, ℕ, ◌<◌, ◌≤◌, cond, List, ◌++◌, length, get_or, take, drop, Some, None, sym, ap, ◌∙◌, arith, length-append, length-drop, take_at, w8, Fits, le-leb}
use Rattle.value.specs.Values.{value_of}

pub front : (a rest from : List ℕ) → a ≡ from → take (length from) (a ++ rest) ≡ from
front a rest from e = take_at a rest (length from) (ap length e) ∙ e

pub filled : (a from before : List ℕ) → a ≡ from → length from ≤ length before → length (a ++ drop (length from) before) ≡ length before
filled a from before e h = simp (length-append, length-drop) (omega (arith, ap length e))

pub front_octets : (a rest from : List ℕ) → a ≡ from → ((k : ℕ) → Fits w8 (get_or from k 0)) → (k : ℕ) → get_or (take (length from) (a ++ rest)) k 0 < 256
front_octets a rest from e f k = let h : get_or from k 0 < 256 = (f k).fits in omega (arith, ap (λ bs. get_or bs k 0) (front a rest from e))

pub made : (bs from : List ℕ) → bs ≡ from → length from ≤ 24 → Some bs ≡ value_of from
made bs from e h = ap Some e ∙ sym (ap (λ b. cond b (Some from) None) (le-leb (length from) 24 h))
