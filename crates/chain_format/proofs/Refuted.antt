-- What is left of a test where one of its two outcomes cannot be.
use Rattle.std.proofs.Common.{◌≡◌, ℕ, Bool, true, false, cond, Some, None, Ok, Err, Option, Result, refl, arith}
use Rattle.chain.specs.declared.fault.RackFault.{RackFault}
use Rattle.chain.specs.Items.{PlainItem}
use Rattle.chain.specs.Walks.{Verdict, barred, spoiled, taken, unfound, on_row}
use Rattle.chain.specs.Chains.{on_found}

pub first_is : {A : Type 0} (b : Bool) (x y z : A) → (y ≡ z → ⊥) → cond b x y ≡ z → (b ≡ true) × (x ≡ z)
first_is true x y z n e = (refl, e)
first_is false x y z n e = absurd (n e)

pub second_is : {A : Type 0} (b : Bool) (x y z : A) → (x ≡ z → ⊥) → cond b x y ≡ z → (b ≡ false) × (y ≡ z)
second_is true x y z n e = absurd (n e)
second_is false x y z n e = (refl, e)

pub err-ok : {A : Type 0} (f : RackFault) (a : A) → ◌≡◌ {A = Result A RackFault} (Err f) (Ok a) → ⊥
err-ok f a e = let z : ◌≡◌ {A = ℕ} 0 1 = cc in omega arith

pub same_ok : {A : Type 0} (a b : A) → ◌≡◌ {A = Result A RackFault} (Ok a) (Ok b) → a ≡ b
same_ok a b e = cc

pub barred_taken : (f : RackFault) (y : PlainItem) (k : ℕ) → barred f ≡ taken y k → ⊥
barred_taken f y k e = let z : ◌≡◌ {A = ℕ} 0 1 = cc in omega arith

pub spoiled_taken : (f : RackFault) (y : PlainItem) (k : ℕ) → spoiled f ≡ taken y k → ⊥
spoiled_taken f y k e = let z : ◌≡◌ {A = ℕ} 0 1 = cc in omega arith

pub unfound_row : (f : RackFault) (r : ℕ) (v : Verdict) → unfound f ≡ on_row r v → ⊥
unfound_row f r v e = let z : ◌≡◌ {A = ℕ} 0 1 = cc in omega arith

pub none-some : {A : Type 0} (a : A) → None ≡ Some a → ⊥
none-some a e = let z : ◌≡◌ {A = ℕ} 0 1 = cc in omega arith

-- an item on a row has the row that was found
pub on_found_lem : (o : Option ℕ) (f : RackFault) (verdict : ℕ → Verdict) (r : ℕ) (v : Verdict) → on_found o f verdict ≡ on_row r v → (o ≡ Some r) × (verdict r ≡ v)
on_found_lem None f verdict r v e = absurd (unfound_row f r v e)
on_found_lem (Some s) f verdict r v e =
    let q : s ≡ r = cc in
    let w : verdict s ≡ v = cc in
    (cc, cc)
