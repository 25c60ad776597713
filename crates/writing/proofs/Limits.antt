-- The check of the feeds.
use Rattle.std.proofs.Common.{◌≡◌, ℕ, ◌+◌, ◌-◌, ◌*◌, ◌<◌, ◌≤◌, leb, List, [], ◌∷◌, length, get_or, drop, Ok, Err, Option, sym, refl, ap, ◌∙◌, arith}
use Rattle.std.proofs.lemmas.List.{drop_more}
use Rattle.table.specs.Draws.{limit_of}
use Rattle.order.specs.Last.{else}
use Rattle.chain.specs.declared.fault.RackFault.{RackFault}
use Rattle.chain.specs.Items.{PlainItem}
use Rattle.chain.specs.Answers.{Values}
use Rattle.chain.specs.Kept.{laid_over}
use Rattle.chain.specs.Reader.{checked}
use Rattle.promises.specs.Requests.{Setup}
use Rattle.promises.specs.Replies.{numbers, first_on, feed_refusal, over_limit, first_refusal, feeds, overdrawn}
use Rattle.promises.proofs.Keeping.{draw_on, at_feeds}
use Rattle.writing.specs.Numbers.{lay_numbers, over_at}
use Rattle.writing.proofs.Laid.{laid_numbers, laid_length}
use Rattle.writing.proofs.Whole.{told_refusal, told_none}

-- the feeds from one on: it refuses first, or those behind it have their say
module _ (check : ℕ → Option RackFault) (feed : ℕ) (from : 1 ≤ feed) (to : feed < 9) where
  abbrev behind : Option RackFault
  behind = first_refusal check (drop (feed + 1 - 1) feeds)

  one_first : first_refusal check (drop (feed - 1) feeds) ≡ else (check feed) behind
  one_first =
      let l : feed - 1 < 8 = omega arith in
      let here : get_or feeds (feed - 1) 0 ≡ feed = at_feeds (feed - 1) l ∙ omega arith in
      let on : feed - 1 + 1 ≡ feed + 1 - 1 = omega arith in
      ap (first_refusal check) (drop_more feeds (feed - 1) 0 l)
      ∙ ap (λ (f : ℕ). else (check f) (first_refusal check (drop (feed - 1 + 1) feeds))) here
      ∙ ap (λ (n : ℕ). else (check feed) (first_refusal check (drop n feeds))) on

  pub feed_refuses : (f : RackFault) → Err f ≡ checked (check feed) → Err f ≡ checked (first_refusal check (drop (feed - 1) feeds))
  feed_refuses f e = ap checked (ap (λ (o : Option RackFault). else o behind) (sym (told_refusal (check feed) f e)) ∙ sym one_first)

  pub feed_passes : Ok tt ≡ checked (check feed) → behind ≡ first_refusal check (drop (feed - 1) feeds)
  feed_passes e = ap (λ (o : Option RackFault). else o behind) (sym (told_none (check feed) e)) ∙ sym one_first

pub feeds_pass : (check : ℕ → Option RackFault) (feed : ℕ) → feed ≡ 9 → Ok tt ≡ checked (first_refusal check (drop (feed - 1) feeds))
feeds_pass check feed e = ap (λ (n : ℕ). checked (first_refusal check (drop (n - 1) feeds))) (sym e)

first_same : (p q : ℕ → Option RackFault) → ((f : ℕ) → p f ≡ q f) → (fs : List ℕ) → first_refusal p fs ≡ first_refusal q fs
first_same p q e [] = refl
first_same p q e (f ∷ fs) = ap (λ (o : Option RackFault). else o (first_refusal p fs)) (e f) ∙ ap (else (q f)) (first_same p q e fs)

-- at the numbers of the values held, with the items laid over them, the feeds refuse what the rules say
pub same_refusal : (s : Setup) (h : Values) (items : List PlainItem) (ns laid : List ℕ) → length s.rows ≤ length laid → laid ≡ lay_numbers items ns →
    ((k : ℕ) → k < length s.rows → get_or ns k 0 ≡ numbers h k) → first_refusal (over_at s laid items) feeds ≡ overdrawn s h items
same_refusal s h items ns laid l e held =
    let m : length laid ≡ length ns = ap length e ∙ laid_length items ns in
    first_same (over_at s laid items) (over_limit s h items)
    (λ f. ap (λ (d : ℕ). feed_refusal (leb d (limit_of s.limits f * 32000)) (first_on s.rows f items))
    (draw_on f s.rows (λ k. get_or laid k 0) (numbers (laid_over items h))
    (λ k b _. ap (λ (ks : List ℕ). get_or ks k 0) e ∙ laid_numbers items ns h k (omega arith) (held k b))))
    feeds
