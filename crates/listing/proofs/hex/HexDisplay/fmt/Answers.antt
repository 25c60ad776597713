use Rattle.std.proofs.Common.{◌≡◌, ◌++◌, List, ℕ, [], ap, sym, ◌∙◌, append_assoc, append-nil, length-take-le, arith, rules}
use Rattle.std.proofs.Output.{has_written_append, has_written_of_eq}
use Rattle.std.proofs.lemmas.List.{nil_from_length}
use Rattle.std.proofs.lemmas.Str.{IsUtf8-from_ascii}
use Rattle.std.specs.Slice.Iter.{chunks_rest}
use Rattle.ascii.specs.Hex.{hexes}
use Rattle.listing.proofs.Texts.{hexes-append}
use Rattle.listing.proofs.hex.HexDisplay.fmt.Goals as goal

pub loop-chunk-init : goal.loop-chunk-init
loop-chunk-init g c = (search rules, tt, search rules, λ plain. ([], search rules, search rules))

pub slice_bounds-digits-end : goal.slice_bounds-digits-end
slice_bounds-digits-end g c = let size = c.loop-chunk.invariant.2 in omega (arith, rw size at c.in-Some.ensures.steps.1.1)

pub slice_bounds-from_utf8-end : goal.slice_bounds-from_utf8-end
slice_bounds-from_utf8-end g c =
    let size = c.loop-chunk.invariant.2 in
    sym (length-take-le _ c.hex_digits-digits.result (omega (arith, rw size at c.in-Some.ensures.steps.1.1)))

pub unreachable-requires : goal.unreachable-requires
unreachable-requires g c = c.in_default.ensures.cases.0 (IsUtf8-from_ascii _ c.hex_digits-digits.ensures.ascii)

pub loop-chunk-preserved : goal.loop-chunk-preserved
loop-chunk-preserved g c =
    let steps = c.in-Some.ensures.steps in
    let shown : c.in-Ok.text.now ≡ hexes c.in-Some.chunk.now = c.in-Ok.ensures.cases.0 ∙ c.hex_digits-digits.ensures.laid in (
      search rules,
      tt,
      steps.0 ∙ c.loop-chunk.invariant.2,
      λ plain.
          let so_far = c.loop-chunk.invariant.3 plain in (
            so_far.0 ++ c.in-Ok.text.now,
            has_written_append _ _ _ _ _ _ so_far.1 (search rules),
            append_assoc so_far.0 _ _
                ∙ ap (λ (t : List ℕ). so_far.0 ++ t)
                (rw shown (sym (hexes-append c.in-Some.chunk.now (chunks_rest c.next.new.self)) ∙ ap hexes (sym steps.1.0)))
                ∙ so_far.2,
          ),
    )

pub returns-clause-writes : goal.returns-clause-writes
returns-clause-writes g c = λ plain _.
    let so_far = c.loop-chunk.invariant.3 plain in
    let none = nil_from_length _ c.in-None.ensures.steps.1.0 in
    has_written_of_eq _ _ _ _ _ (rw (none, append-nil) at so_far.2) so_far.1
