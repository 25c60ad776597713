use Rattle.std.proofs.Common.{◌≡◌, ◌+◌, ◌++◌, ℕ, Bool, true, false, List, sym, ap, ◌∙◌, string_bytes, rules}
use Rattle.finder.specs.declared.Outcome.TheVariants.{More}
use Rattle.listing.specs.Frames.{listed, counts_line, is_more, left_line}
use Rattle.listing.proofs.Found.{found_from, not_more, closing_by, closed}
use Rattle.listing.proofs.frames.Entries.close.Goals.{After-eq, then-eq+in_ok-writeln-2, else-eq+in_ok-writeln-3}
use Rattle.listing.proofs.frames.Entries.close.Goals as goal

-- the lines of the frames with the counts, and then a line for what is left
with_left : (c : After-eq) (more : Bool) → more ≡ is_more c.find-outcome.result.0
    → string_bytes c.writeln.new.self ++ left_line (c.args.self.end + c.find-outcome.result.1) more ≡ listed c.args.received.now
with_left c more is =
    let s = c.args.self in
    let r = c.find-outcome.result in
    let e = c.find-outcome.ensures in
    let counted : string_bytes c.writeln.new.self ≡ string_bytes s.text ++ counts_line s.counts = search rules in
    ap (λ (z : List ℕ). z ++ left_line (s.end + r.1) more) counted
    ∙ closing_by (string_bytes s.text) s.counts s.end (r.0, r.1, r.2.now) _ more
    (found_from c.args.received.now s.end r.0 r.1 r.2.now e.outcome e.place e.frame) is
    ∙ closed c.args.received.now s c.requires

pub returns : goal.returns
returns c =
    elim c.if-eq.branch [
      | then-eq+in_ok-writeln-2 w ↦
          let is : c.find-outcome.result.0 ≡ More = search rules in
          let l = with_left (goal.at.returns c).After-eq true (sym (ap is_more is)) in search (rules, l)
      | else-eq+in_ok-writeln-3 w ↦
          let no : c.find-outcome.result.0 ≡ More → ⊥ = search rules in
          let l = with_left (goal.at.returns c).After-eq false (sym (not_more c.find-outcome.result.0 no)) in search (rules, l)
    ]
