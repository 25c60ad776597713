-- A framing's rule without its marks keeps what is asked of it, by the framing's laws.
use Rattle.std.proofs.Common.{◌≡◌, ℕ, true, List, [], get_or, is_some, Some, None, Ok, Err, Option, Result, sym, refl, ap, subst, arith, w8, Fits}
use Rattle.std.specs.Result.{result_map_both}
use Rattle.value.proofs.Facts.{bytes_from_places}
use Rattle.line.specs.declared.refusal.Flaw.{Flaw}
use Rattle.line.specs.Messages.{Msg, Framable, Bytes, OfBytes}
use Rattle.line.specs.Framings.{Rule, Laws}
use Rattle.promises.specs.Wires.{Lawful, answer_mark, unreadable_frame, answer_frame, wire_of}
use Rattle.promises.proofs.Options.{false-true}

never : {X Y E : Type 0} (x : X) (e : E) → ◌≡◌ {A = Result X E} (Err e) (Ok x) → Y
never x e q = let z : ◌≡◌ {A = ℕ} 0 1 = cc in absurd (omega arith)

module _ {Mark : Type 0} (R : Rule Mark) (laws : Laws R) where
  abbrev message : Result (Mark × Msg) Flaw → Result Msg Flaw
  message o = result_map_both (λ p. p.1) (λ flaw. flaw) o

  framable_by : (frame : List ℕ) (q : Msg) (o : Result (Mark × Msg) Flaw) → Bytes frame → R.reads frame ≡ o → message o ≡ Ok q → Framable q × OfBytes q
  framable_by frame q (Ok p) b e g =
      let z : p.1 ≡ q = cc in
      subst (λ (m : Msg). Framable m × OfBytes m) z (laws.reads_framable p.0 p.1 frame e, laws.reads_bytes p.0 p.1 frame b e)
  framable_by frame q (Err flaw) b e g = never q flaw g

  written : (mark : Mark) (a : Msg) → Framable a → OfBytes a → message (R.reads (R.writes mark a)) ≡ Ok a
  written mark a x y = ap message (laws.reads_written mark a x y)

  answer-by : (q a : Msg) (o : Result (Mark × Msg) Flaw) → message o ≡ Ok q → Framable a → OfBytes a → message (R.reads (answer_frame R o a)) ≡ Ok a
  answer-by q a (Ok p) g x y = written (answer_mark R p.0 p.1 a) a x y
  answer-by q a (Err flaw) g x y = never q flaw g

  unreadable_by : (a : Msg) (o : Option Mark) → is_some o ≡ true → Framable a → OfBytes a → message (R.reads (unreadable_frame R o a)) ≡ Ok a
  unreadable_by a None g x y = false-true g
  unreadable_by a (Some mark) g x y = written mark a x y

  error_by : (flaw : Flaw) (a : Msg) (o : Result (Mark × Msg) Flaw) → message o ≡ Err flaw → is_some R.unreadable_mark ≡ true → Framable a → OfBytes a →
      message (R.reads (answer_frame R o a)) ≡ Ok a
  error_by flaw a (Ok p) g m x y = never p.1 flaw (sym g)
  error_by flaw a (Err f) g m x y = unreadable_by a R.unreadable_mark m x y

  empty_by : (q : Msg) (o : Result (Mark × Msg) Flaw) → R.reads [] ≡ o → message o ≡ Ok q → ⊥
  empty_by q (Ok p) e g = laws.empty_unread p.0 p.1 e
  empty_by q (Err flaw) e g = never q flaw g

  pub lawful_wire : Lawful (wire_of R)
  lawful_wire = record {
    reads_framable = λ frame q b e. framable_by frame q (R.reads frame) b refl e;
    reads_answer = λ frame q a e x y. answer-by q a (R.reads frame) e x y;
    reads_error = λ frame flaw a e m x y. error_by flaw a (R.reads frame) e m x y;
    empty_unread = λ q e. empty_by q (R.reads []) refl e;
  }

-- a slice of the code's is made of bytes, as its type says place by place
pub typed_bytes : (bs : List ℕ) → ((k : ℕ) → Fits w8 (get_or bs k 0)) → Bytes bs
typed_bytes bs typed = bytes_from_places bs (λ k. (typed k).fits)
