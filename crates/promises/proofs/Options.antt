-- Tests and optional values.
use Rattle.std.proofs.Common.{◌≡◌, ℕ, Bool, true, false, cond, Some, None, Option, unwrap_or, refl, arith}
use Rattle.order.specs.Last.{else}

pub some-none : {X Y : Type 0} (x : X) → Some x ≡ None → Y
some-none x e = let z : ◌≡◌ {A = ℕ} 0 1 = cc in absurd (omega arith)

pub false-true : {X : Type 0} → false ≡ true → X
false-true e = let z : ◌≡◌ {A = ℕ} 0 1 = cc in absurd (omega arith)

pub cond-none : {X : Type 0} (b : Bool) (x : X) (o : Option X) → cond b (Some x) o ≡ None → (b ≡ false) × (o ≡ None)
cond-none true x o e = some-none x e
cond-none false x o e = (refl, e)

pub cond_same : {X : Type 0} (b : Bool) (x : X) → cond b x x ≡ x
cond_same true x = refl
cond_same false x = refl

pub cond_prop : {X : Type 0} (P : X → Type 0) (b : Bool) (x y : X) → P x → P y → P (cond b x y)
cond_prop P true x y p q = p
cond_prop P false x y p q = q

pub else-none : {X : Type 0} (o p : Option X) → else o p ≡ None → (o ≡ None) × (p ≡ None)
else-none None p e = (refl, e)
else-none (Some x) p e = some-none x e

pub none-else : {X : Type 0} (o p : Option X) → o ≡ None → p ≡ None → else o p ≡ None
none-else None p e g = g
none-else (Some x) p e g = e

-- a value laid over another
pub value-else : {X : Type 0} (o p : Option X) (d : X) → unwrap_or o (unwrap_or p d) ≡ unwrap_or (else o p) d
value-else None p d = refl
value-else (Some x) p d = refl
