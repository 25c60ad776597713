use Rattle.std.proofs.Common.{◌≡◌, ◌+◌, ◌++◌, string_bytes, ap, arith, rules}
use Rattle.finder.specs.declared.Outcome.TheVariants.{Frame}
use Rattle.listing.specs.Frames.{is_frame}
use Rattle.listing.specs.Words.{entry_line}
use Rattle.listing.specs.Hearing.{message_of, none_yet, total}
use Rattle.listing.proofs.Found.{at_start, found_from, not_frame, one_more, none_more}
use Rattle.listing.proofs.frames.list_frames.Goals as goal

pub loop-frame-init : goal.loop-frame-init
loop-frame-init c =
    let zero : c.default-counts.result ≡ none_yet = search rules in rw (c.new-text.ensures.bytes, zero) (at_start c.args.received.now)

pub returns-then-ne : goal.returns-then-ne
returns-then-ne c =
    let l = c.loop-frame in
    let r = c.find-outcome.result in
    let e = c.find-outcome.ensures in
    let is = found_from c.args.received.now l.end r.0 r.1 r.2.now e.outcome e.place e.frame in
    let no : r.0 ≡ Frame → ⊥ = search rules in
    let done = none_more c.args.received.now _ _ _ l.invariant (r.0, r.1, r.2.now) is (not_frame r.0 no) in
    record { lines = done.0; counts = done.1; stops = done.2; within = l.invariant.within }

pub loop-frame-preserved : goal.loop-frame-preserved
loop-frame-preserved c =
    let l = c.loop-frame in
    let r = c.find-outcome.result in
    let e = c.find-outcome.ensures in
    let frame : r.0 ≡ Frame = search rules in
    let is = found_from c.args.received.now l.end r.0 r.1 r.2.now e.outcome e.place e.frame in
    let shown : string_bytes c.writeln.new.self ≡ string_bytes l.text ++ entry_line (total l.counts + 1) (l.end + r.1) (message_of c.hear_frame-heard.result) = search rules in
    one_more c.args.received.now _ _ _ l.invariant (r.0, r.1, r.2.now) is (message_of c.hear_frame-heard.result) _ _ _
    (ap is_frame frame) (e.filled frame) (let w = e.within in search rules) (omega arith) c.hear_frame-heard.ensures shown c.add.ensures
