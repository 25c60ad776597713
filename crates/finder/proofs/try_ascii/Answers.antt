use Rattle.std.proofs.Common.{◌≡◌, ℕ, ◌+◌, eqb, List, [], ◌∷◌, take, Some, None, Option, sym, refl, ap, ◌∙◌, inl, inr, rules}
use Rattle.std.proofs.lemmas.Bool.{cases_Bool}
use Rattle.std.proofs.lemmas.Iterator.{YieldsList-from_slice}
use Rattle.std.proofs.lemmas.Iterator.Adapters.{position_from-zero}
use Rattle.std.proofs.lemmas.Iterator.Search.{position_from_yields_List}
use Rattle.std.specs.List.{position_from}
use borrow.Author.Tests.{tests}
use Rattle.finder.specs.declared.Attempt.{Attempt}
use Rattle.finder.specs.declared.Attempt.TheVariants.{Ends}
use Rattle.finder.specs.Search.{unended, ascii}
use Rattle.finder.proofs.try_ascii.Given.{Over}
use Rattle.finder.proofs.try_ascii.Goals.{After-position}
use Rattle.finder.proofs.try_ascii.Goals as goal

-- what an attempt comes to by the place of the first 0A, if there is one
by_place : Option ℕ → Attempt → Attempt
by_place (Some n) o = Ends (n + 1)
by_place None o = o

ascii_by : (n : ℕ) (bs : List ℕ) (o : Attempt) → ascii n bs o ≡ by_place (position_from (λ b. eqb b 0x0A) n bs) o
unfolding by_place
ascii_by n [] o = refl
ascii_by n (b ∷ bs) o =
    elim (cases_Bool (eqb b 0x0A)) [
      | inl t ↦ simp t refl
      | inr f ↦ simp f (ascii_by (n + 1) bs o)
    ]

attempted : (g : Over) (c : After-position g) → ascii 0 (take g.row.MOST c.args.bytes.now) (unended g.row.MOST c.args.bytes.now)
    ≡ by_place c.position.result (unended g.row.MOST c.args.bytes.now)
attempted g c =
    let o = unended g.row.MOST c.args.bytes.now in
    let r =
    position_from_yields_List (λ b. eqb b 0x0A) _ _ c.position.result c.position.ensures.ran (YieldsList-from_slice _ c.iter.ensures.rest) (λ x b q k. search (rules, tests)) in
    ap (λ (w : List ℕ). ascii 0 w o) (sym c.leading.ensures) ∙ ascii_by 0 c.leading.result.now o
    ∙ ap (λ (p : Option ℕ). by_place p o) (sym (r ∙ position_from-zero (λ b. eqb b 0x0A) c.leading.result.now))

pub returns-in-Some : goal.returns-in-Some
unfolding by_place
returns-in-Some g c = sym (attempted g (goal.at.returns-in-Some g c).After-position ∙ ap (λ (p : Option ℕ). by_place p (unended g.row.MOST c.args.bytes.now)) c.in-Some.is)

pub returns-in-None : goal.returns-in-None
unfolding by_place
returns-in-None g c =
    c.without_end.ensures ∙ sym (attempted g (goal.at.returns-in-None g c).After-position ∙ ap (λ (p : Option ℕ). by_place p (unended g.row.MOST c.args.bytes.now)) c.in-None.is)
