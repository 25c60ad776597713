use Rattle.std.proofs.Common.{◌≡◌, ℕ, ◌*◌, ◌/◌, ◌≤◌, length, take, Some, ap, ◌∙◌, arith}
use Rattle.ascii.specs.Hex.{spelled}
use Rattle.ascii.proofs.Spelling.{behind_nothing, spelled_odd, no_high, no_low, one_more, all_spelled}
use Rattle.ascii.proofs.get_hex.Goals as goal

pub returns-in_default-clause-spells : goal.returns-in_default-clause-spells
returns-in_default-clause-spells c = spelled_odd c.args.digits.now (λ e. omega (arith, c.as_chunks.ensures.back_len, c.in_default.len_at_least))

pub loop-n-init : goal.loop-n-init
loop-n-init c = behind_nothing (spelled c.args.digits.now)

pub returns-in_err-digit_value-clause-spells : goal.returns-in_err-digit_value-clause-spells
returns-in_err-digit_value-clause-spells c =
    rw c.from_residual.ensures
    (no_high c.args.digits.now c.loop-n.bytes c.as_chunks.result.0.now (length c.args.digits.now / 2) c.loop-n.n c.loop-n.invariant
    c.as_chunks.ensures.front (omega (arith, c.as_chunks.ensures.front_len, c.loop-n-test.true)) (omega arith)
    c.in_err-digit_value.ensures.value)

pub returns-in_err-bytes-clause-spells : goal.returns-in_err-bytes-clause-spells
returns-in_err-bytes-clause-spells c =
    rw c.from_residual-in_err-bytes.ensures
    (no_low c.args.digits.now c.loop-n.bytes c.as_chunks.result.0.now (length c.args.digits.now / 2) c.loop-n.n c.loop-n.invariant
    c.as_chunks.ensures.front (omega (arith, c.as_chunks.ensures.front_len, c.loop-n-test.true)) (omega arith)
    c.in_ok-digit_value.field-0 c.in_ok-digit_value.ensures.value c.in_err-bytes.ensures.value)

pub loop-n-preserved : goal.loop-n-preserved
loop-n-preserved c =
    one_more c.args.digits.now c.loop-n.bytes c.as_chunks.result.0.now (length c.args.digits.now / 2) c.loop-n.n c.loop-n.invariant
    c.as_chunks.ensures.front (omega (arith, c.as_chunks.ensures.front_len, c.loop-n-test.true)) (omega arith)
    c.in_ok-digit_value.field-0 c.in_ok-digit_value.ensures.value c.in_ok-bytes.field-0 c.in_ok-bytes.ensures.value (omega arith)

pub returns-clause-spells : goal.returns-clause-spells
returns-clause-spells c =
    let done : length c.as_chunks.result.0.now ≡ c.loop-n.n = omega arith in
    let all : length c.args.digits.now ≤ 2 * c.loop-n.n =
    omega (arith, c.as_chunks.ensures.front_len, c.as_chunks.ensures.back_len, c.in_default-empty.len_below) in
    ap (λ (n : ℕ). Some (take n c.loop-n.bytes)) done ∙ all_spelled c.args.digits.now c.loop-n.bytes c.loop-n.n c.loop-n.invariant all
