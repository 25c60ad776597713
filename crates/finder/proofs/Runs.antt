-- Each shape of the bytes leaves one result.
use Rattle.std.proofs.Common.{◌≡◌, ℕ, ◌+◌, ◌<◌, ◌≤◌, List, [], ◌∷◌, ◌++◌, length, sym, refl, ap, ◌∙◌, subst, ⊎_elim, append_assoc, append-nil, add-zero, arith, length-append}
use Rattle.std.proofs.lemmas.List.{take_all}
use Rattle.std.proofs.lemmas.Bool.{cond-false, ne_eqb}
use Rattle.finder.specs.declared.Attempt.{Attempt}
use Rattle.finder.specs.declared.Attempt.TheVariants.{Ends, Restarts, Fails, Open}
use Rattle.finder.specs.Shapes.{Without, Doubled, no_bytes, plain, pair, Whole, ascii_frame, binary_frame, Unfinished, in_ascii, last_ten, in_binary, in_pair, InnerStart, inner, NoStart}
use Rattle.finder.specs.Search.{unended, ascii, ascii_attempt, binary, binary_attempt, attempt}
use Rattle.finder.proofs.Reading.{byte}
use Rattle.finder.proofs.Kept.{window_short, attempt_kept}
use Rattle.finder.proofs.Shapes.{Shaped, attempt_shaped}

ascii_runs : (n : ℕ) (body tail : List ℕ) (o : Attempt) → Without 0x0A body → ascii n (body ++ tail) o ≡ ascii (n + length body) tail o
ascii_runs n [] tail o w = ap (λ (m : ℕ). ascii m tail o) (sym (add-zero n))
ascii_runs n (b ∷ body) tail o w =
    let m : n + 1 + length body ≡ n + length (b ∷ body) = omega arith in
    cond-false _ _ _ (ne_eqb b 0x0A w.0) ∙ ascii_runs (n + 1) body tail o w.1 ∙ ap (λ (x : ℕ). ascii x tail o) m

binary_runs : (n : ℕ) (tail : List ℕ) (o : Attempt) {body : List ℕ} → Doubled body → binary 0 n (body ++ tail) o ≡ binary 0 (n + length body) tail o
binary_runs n tail o no_bytes = ap (λ (m : ℕ). binary 0 m tail o) (sym (add-zero n))
binary_runs n tail o (plain {b} {bs} ne d) =
    let m : n + 1 + length bs ≡ n + length (b ∷ bs) = omega arith in
    byte n o (b ∷ (bs ++ tail)) (cond-false _ _ _ (ne_eqb b 0x10 ne)) ∙ binary_runs (n + 1) tail o d ∙ ap (λ (x : ℕ). binary 0 x tail o) m
binary_runs n tail o (pair {bs} d) =
    let m : n + 1 + 1 + length bs ≡ n + length (0x10 ∷ 0x10 ∷ bs) = omega arith in
    binary_runs (n + 1 + 1) tail o d ∙ ap (λ (x : ℕ). binary 0 x tail o) m

module _ (window : ℕ) (body : List ℕ) where
  ascii_ends : Without 0x0A body → length body + 2 ≤ window → ascii_attempt window (0x3A ∷ (body ++ 0x0A ∷ [])) ≡ Ends (length (0x3A ∷ (body ++ 0x0A ∷ [])))
  ascii_ends w l =
      let frame = 0x3A ∷ (body ++ 0x0A ∷ []) in
      let n : length (body ++ 0x0A ∷ []) ≡ length body + 1 = length-append body (0x0A ∷ []) in
      ap (λ (x : List ℕ). ascii 0 x (unended window frame)) (take_all window frame (omega arith))
      ∙ ascii_runs 1 body (0x0A ∷ []) (unended window frame) w ∙ ap Ends (omega arith)

  ascii_open : Without 0x0A body → length body + 1 < window → ascii_attempt window (0x3A ∷ body) ≡ Open
  ascii_open w l =
      window_short (ascii 0) window (0x3A ∷ body) (omega arith) ∙ ap (λ (x : List ℕ). ascii 1 x Open) (sym (append-nil body)) ∙ ascii_runs 1 body [] Open w

  module _ (d : Doubled body) where
    binary_to : (tail : List ℕ) → length body + (length tail + 2) ≤ window
        → binary_attempt window (0x10 ∷ 0x02 ∷ (body ++ tail)) ≡ binary 0 (2 + length body) tail (unended window (0x10 ∷ 0x02 ∷ (body ++ tail)))
    binary_to tail l =
        let frame = 0x10 ∷ 0x02 ∷ (body ++ tail) in
        let n : length (body ++ tail) ≡ length body + length tail = length-append body tail in
        ap (λ (x : List ℕ). binary 2 0 x (unended window frame)) (take_all window frame (omega arith)) ∙ binary_runs 2 tail (unended window frame) d

    binary_ends : length body + 4 ≤ window → binary_attempt window (0x10 ∷ 0x02 ∷ (body ++ 0x10 ∷ 0x03 ∷ [])) ≡ Ends (length (0x10 ∷ 0x02 ∷ (body ++ 0x10 ∷ 0x03 ∷ [])))
    binary_ends l = let n = length-append body (0x10 ∷ 0x03 ∷ []) in binary_to (0x10 ∷ 0x03 ∷ []) l ∙ ap Ends (omega arith)

    binary_restarts : length body + 4 ≤ window → binary_attempt window (0x10 ∷ 0x02 ∷ (body ++ 0x10 ∷ 0x02 ∷ [])) ≡ Restarts (length body + 2)
    binary_restarts l = binary_to (0x10 ∷ 0x02 ∷ []) l ∙ ap Restarts (omega arith)

    binary_open : length body + 2 < window → binary_attempt window (0x10 ∷ 0x02 ∷ body) ≡ Open
    binary_open l =
        window_short (binary 2 0) window (0x10 ∷ 0x02 ∷ body) (omega arith) ∙ ap (λ (x : List ℕ). binary 0 2 x Open) (sym (append-nil body)) ∙ binary_runs 2 [] Open d

    pair_open : length body + 3 < window → binary_attempt window (0x10 ∷ 0x02 ∷ (body ++ 0x10 ∷ [])) ≡ Open
    pair_open l =
        let n = length-append body (0x10 ∷ []) in
        window_short (binary 2 0) window (0x10 ∷ 0x02 ∷ (body ++ 0x10 ∷ [])) (omega arith) ∙ binary_runs 2 (0x10 ∷ []) Open d

-- more bytes behind leave a result that is not open
abbrev pub Decided : Attempt → Type 0
Decided (Ends n) = Unit {0}
Decided (Restarts k) = Unit {0}
Decided Fails = Unit {0}
Decided Open = ⊥

pub decided : (bs more : List ℕ) (a : Attempt) → Decided a → attempt bs ≡ a → 0 < length bs → attempt (bs ++ more) ≡ a
decided [] more a d e l = absurd (omega arith)
decided (b ∷ bs) more a d e l =
    ⊎_elim (λ (o : attempt (b ∷ bs) ≡ Open). absurd (subst Decided (sym e ∙ o) d)) (λ k. k ∙ e) (attempt_kept b bs more)

pub whole_ends : {frame : List ℕ} → Whole frame → (rest : List ℕ) → attempt (frame ++ rest) ≡ Ends (length frame)
whole_ends (ascii_frame body w l) rest =
    decided (0x3A ∷ (body ++ 0x0A ∷ [])) rest _ tt (ascii_ends 135 body w l) (omega arith)
whole_ends (binary_frame body d l) rest =
    decided (0x10 ∷ 0x02 ∷ (body ++ 0x10 ∷ 0x03 ∷ [])) rest _ tt (binary_ends 138 body d l) (omega arith)

pub unfinished_open : {bs : List ℕ} → Unfinished bs → attempt bs ≡ Open
unfinished_open (in_ascii body w l) = ascii_open 135 body w l
unfinished_open last_ten = refl
unfinished_open (in_binary body d l) = binary_open 138 body d l
unfinished_open (in_pair body d l) = pair_open 138 body d l

pub inner_restarts : {k : ℕ} {bs : List ℕ} → InnerStart k bs → attempt bs ≡ Restarts k
inner_restarts (inner body rest d l) =
    ap (λ (x : List ℕ). attempt (0x10 ∷ 0x02 ∷ x)) (sym (append_assoc body (0x10 ∷ 0x02 ∷ []) rest))
    ∙ decided (0x10 ∷ 0x02 ∷ (body ++ 0x10 ∷ 0x02 ∷ [])) rest _ tt (binary_restarts 138 body d l) (omega arith)

no_start_fails : (bs : List ℕ) → NoStart bs → (a : Attempt) → Shaped bs a → a ≡ Fails
no_start_fails bs h (Ends n) s = absurd (h.0 s.0 s.1 s.2 s.3)
no_start_fails bs h (Restarts k) s = absurd (h.2 k s)
no_start_fails bs h Open s = absurd (h.1 s)
no_start_fails bs h Fails s = refl

pub passes_one : (bs : List ℕ) → NoStart bs → attempt bs ≡ Fails
passes_one bs h = no_start_fails bs h (attempt bs) (attempt_shaped bs)

pub fails_no_start : (bs : List ℕ) → attempt bs ≡ Fails → NoStart bs
fails_no_start bs e = (
  λ frame rest w s. let q : attempt bs ≡ Ends (length frame) = ap attempt s ∙ whole_ends w rest in let z : ◌≡◌ {A = ℕ} 0 1 = cc in omega arith,
  λ u. let q = unfinished_open u in let z : ◌≡◌ {A = ℕ} 0 1 = cc in omega arith,
  λ k i. let q = inner_restarts i in let z : ◌≡◌ {A = ℕ} 0 1 = cc in omega arith,
)
