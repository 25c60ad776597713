use Rattle.std.proofs.Common.{◌≡◌, ◌==◌, ℕ, ◌+◌, List, length, Err, Option, ap, ◌∙◌, arith}
use Rattle.std.specs.List.{position}
use Rattle.std.specs.Option.{unwrap_or}
use Rattle.chain.specs.declared.fault.RackFault.{RackFault}
use Rattle.chain.specs.declared.fault.RackFault.TheVariants.{BadValue}
use Rattle.chain.specs.Cursors.{rest}
use Rattle.chain.specs.Faults.{missing}
use Rattle.chain.specs.Values.{before_zero}
use Rattle.chain.proofs.Spelling.{zero_found, open_long, open_unended, open_taken}
use Rattle.chain.proofs.values.open_value.Goals as goal

-- the size that the code finds in the bytes that are left
size_found : (bs bytes : List ℕ) (o : Option ℕ) (size : ℕ) → bytes ≡ bs → o ≡ position (λ b. b == 0) bytes → size ≡ unwrap_or o (length bytes) →
    size ≡ length (before_zero bs)
size_found bs bytes o size e p s =
    s ∙ ap (λ (x : Option ℕ). unwrap_or x (length bytes)) p
    ∙ ap (λ (l : List ℕ). unwrap_or (position (λ b. b == 0) l) (length l)) e ∙ zero_found bs

pub returns-then-size-gt-MAX_LEN : goal.returns-then-size-gt-MAX_LEN
returns-then-size-gt-MAX_LEN c =
    let next = c.in-Some.ensures in
    let s = size_found (rest c.in-Some.text) _ _ _ c.rest-bytes.ensures c.first_zero.ensures c.unwrap_or-size.ensures in (
      ap (λ (i : ℕ). Err (BadValue i)) c.at-then-size-gt-MAX_LEN.ensures
          ∙ open_long (rest c.args.cursor) _ _ _ c.args.cursor.at next.0 c.if-length-ne0.false s c.if-size-gt-MAX_LEN.true,
      tt,
    )

pub returns-in_default-take : goal.returns-in_default-take
returns-in_default-take c =
    let next = c.in-Some.ensures in
    let s = size_found (rest c.in-Some.text) _ _ _ c.rest-bytes.ensures c.first_zero.ensures c.unwrap_or-size.ensures in (
      ap (λ (f : RackFault). Err f) (c.missing-in_default-take.ensures ∙ ap (λ (i : ℕ). missing (i + length (rest c.in-Some.text))) next.1)
          ∙ open_unended (rest c.args.cursor) _ _ _ c.args.cursor.at next.0 c.if-length-ne0.false s c.if-size-gt-MAX_LEN.false (omega (arith, c.in_default-take.ensures)),
      tt,
    )

pub returns : goal.returns
returns c =
    let next = c.in-Some.ensures in
    let taken = c.in-Some-take.ensures in
    let s = size_found (rest c.in-Some.text) _ _ _ c.rest-bytes.ensures c.first_zero.ensures c.unwrap_or-size.ensures in (
      open_taken (rest c.args.cursor) _ _ _ c.args.cursor.at next.0 c.if-length-ne0.false s _ _ c.if-size-gt-MAX_LEN.false taken.1 taken.0 (omega (arith, next, taken)),
      (omega (arith, next, taken), taken.3 ∙ next.2),
    )
