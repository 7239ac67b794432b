-- The lines of a text by places: what the code's walk from line to line finds.
-- Assumes nothing.
use mathlib.Core.Path.{◌≡◌, refl, sym, ap, ◌∙◌}
use mathlib.Core.Bool.{Bool, true, false, cond}
use mathlib.Core.List.{List, [], ◌∷◌}
use Prim.Native.Nat.{ℕ, suc, ◌+◌, ◌-◌, ◌≤◌, ◌<◌}
use native.Mathlib.Omega.{arith}
use lib.Dec.{eqb, ltb, eqb-suc-zero}
use lib.ListN.{length, get_or, take, drop, length-drop, drop_of_length-le}
use lib.Seq.{drop-cons, drop-drop, get_or-drop, take_all}
use borrow.Author.Tests.{ltb-true, ltb-false, not-false}
use Rattle.bristol_text.specs.Text.{LF, on_first, pieces, Line, as_lines, not_empty, lines}
use Rattle.bristol_text.specs.Steps.{run, stop, LineAt, ending}
use Rattle.bristol_text.proofs.Numbers.{run_length}
use Rattle.bristol_text.proofs.Pieces.{other, pieces_end, pieces-first}

abbrev whole : List ℕ → Line
whole p = record { bytes = p; ended = true }

abbrev broken : List ℕ → Line
broken p = record { bytes = p; ended = false }

-- a piece before the pieces of a string is a line with an LF
as-lines-cond : (p : List ℕ) (x : ℕ) (b : Bool) (ps : List (List ℕ))
    → as_lines (p ∷ cond b ([] ∷ ps) (on_first x ps)) ≡ whole p ∷ as_lines (cond b ([] ∷ ps) (on_first x ps))
unfolding as_lines on_first
as-lines-cond p x true ps = refl
as-lines-cond p x false [] = refl
as-lines-cond p x false (q ∷ ps) = refl

as-lines-more : (p s : List ℕ) → as_lines (p ∷ pieces LF s) ≡ whole p ∷ as_lines (pieces LF s)
unfolding as_lines pieces
as-lines-more p [] = refl
as-lines-more p (x ∷ s) = as-lines-cond p x (eqb x LF) (pieces LF s)

pub lines_none : lines [] ≡ []
unfolding lines pieces as_lines not_empty
lines_none = refl

skip : (ls : List Line) → not_empty (whole [] ∷ ls) ≡ not_empty ls
unfolding not_empty
skip ls = refl

lines-skip : (x : ℕ) (s : List ℕ) → eqb x LF ≡ true → lines (x ∷ s) ≡ lines s
unfolding lines pieces
lines-skip x s e = rw e (ap not_empty (as-lines-more [] s) ∙ skip (as_lines (pieces LF s)))

keep : (l : Line) (ls : List Line) → eqb (length l.bytes) 0 ≡ false → not_empty (l ∷ ls) ≡ l ∷ not_empty ls
unfolding not_empty
keep l ls e = rw e

last_one : (p : List ℕ) → eqb (length p) 0 ≡ false → not_empty (as_lines (p ∷ [])) ≡ broken p ∷ []
unfolding not_empty as_lines
last_one p e = rw e

run-first : (x : ℕ) (s : List ℕ) → eqb x LF ≡ false → run (other LF) (x ∷ s) ≡ suc (run (other LF) s)
unfolding run
run-first x s e = rw e

lines-last : (x : ℕ) (s : List ℕ) → length (x ∷ s) ≤ run (other LF) (x ∷ s) → lines (x ∷ s) ≡ broken (x ∷ s) ∷ []
unfolding lines
lines-last x s h = ap (λ (ps : List (List ℕ)). not_empty (as_lines ps)) (pieces_end LF (x ∷ s) h) ∙ last_one (x ∷ s) (eqb-suc-zero (length s))

lines-first : (x : ℕ) (s : List ℕ) → eqb x LF ≡ false → run (other LF) (x ∷ s) < length (x ∷ s)
    → lines (x ∷ s) ≡ whole (take (run (other LF) (x ∷ s)) (x ∷ s)) ∷ lines (drop (suc (run (other LF) (x ∷ s))) (x ∷ s))
unfolding lines
lines-first x s e h =
    let n : ℕ = run (other LF) (x ∷ s) in
    ap (λ (ps : List (List ℕ)). not_empty (as_lines ps)) (pieces-first LF (x ∷ s) h)
    ∙ ap not_empty (as-lines-more (take n (x ∷ s)) (drop (suc n) (x ∷ s)))
    ∙ keep (whole (take n (x ∷ s))) (as_lines (pieces LF (drop (suc n) (x ∷ s))))
    (ap (λ (k : ℕ). eqb (length (take k (x ∷ s))) 0) (run-first x s e) ∙ eqb-suc-zero (length (take (run (other LF) s) s)))

-- the same of a string that is known to have a first byte
last-at : (l : List ℕ) (x : ℕ) (r : List ℕ) → l ≡ x ∷ r → length l ≤ run (other LF) l → lines l ≡ broken l ∷ []
last-at l x r e h = rw e (lines-last x r (rw e at h))

first-at : (l : List ℕ) (x : ℕ) (r : List ℕ) → l ≡ x ∷ r → eqb x LF ≡ false → run (other LF) l < length l
    → lines l ≡ whole (take (run (other LF) l) l) ∷ lines (drop (suc (run (other LF) l)) l)
first-at l x r e f h = rw e (lines-first x r f (rw e at h))

skip-more : (x : ℕ) (l : List ℕ) (b : Bool) → eqb x LF ≡ b → lines l ≡ lines (drop (run ending l) l)
    → lines (x ∷ l) ≡ lines (drop (run ending (x ∷ l)) (x ∷ l))
unfolding run
skip-more x l true e f = lines-skip x l e ∙ f ∙ rw e
skip-more x l false e f = rw e

skip-run : (l : List ℕ) → lines l ≡ lines (drop (run ending l) l)
unfolding run
skip-run [] = refl
skip-run (x ∷ l) = skip-more x l (eqb x LF) refl (skip-run l)

-- where a run stops before the end, the byte does not pass
byte_more : (p : ℕ → Bool) (x : ℕ) (l : List ℕ) (b : Bool) → p x ≡ b → run p (x ∷ l) < suc (length l)
    → (run p l < length l → p (get_or l (run p l) 0) ≡ false) → p (get_or (x ∷ l) (run p (x ∷ l)) 0) ≡ false
unfolding run
byte_more p x l true e g f = rw e (f (omega (arith, rw e at g)))
byte_more p x l false e g f = rw e e

run-byte : (p : ℕ → Bool) (l : List ℕ) → run p l < length l → p (get_or l (run p l) 0) ≡ false
run-byte p [] g = absurd (omega arith)
run-byte p (x ∷ l) g = byte_more p x l (p x) refl g (run-byte p l)

stop-byte : (p : ℕ → Bool) (s : List ℕ) (at : ℕ) → at + run p (drop at s) < length s → p (get_or s (at + run p (drop at s)) 0) ≡ false
stop-byte p s at h = ap p (sym (get_or-drop at s (run p (drop at s)) 0)) ∙ run-byte p (drop at s) (omega (arith, length-drop at s))

-- empty lines are skipped: the lines from a place on are those from the next byte that is no LF
lines_next : (s : List ℕ) (at : ℕ) → lines (drop at s) ≡ lines (drop (stop ending s at) s)
unfolding stop
lines_next s at = skip-run (drop at s) ∙ ap lines (drop-drop (run ending (drop at s)) at s)

-- at the end there is no line
pub lines_end : (s : List ℕ) (at : ℕ) → length s ≤ at → lines (drop at s) ≡ []
lines_end s at h = ap lines (drop_of_length-le s h) ∙ lines_none

module _ (s : List ℕ) (at : ℕ) (inside : at < length s) (f : eqb (get_or s at 0) LF ≡ false) where
  here : drop at s ≡ get_or s at 0 ∷ drop (suc at) s
  here = drop-cons s at 0 inside

  abbrev n : ℕ
  n = run (other LF) (drop at s)

  -- a line that an LF ends, or the last without one, and the lines after it
  line-cond : (b : Bool) → ltb (at + n) (length s) ≡ b → lines (drop at s) ≡ record { bytes = take n (drop at s); ended = b } ∷ lines (drop (at + n) s)
  line-cond true e =
      let h : at + n < length s = ltb-true (at + n) (length s) e in
      let room : run (other LF) (drop at s) < length (drop at s) = omega (arith, length-drop at s) in
      let next : at + suc n ≡ suc (at + n) = omega arith in
      first-at (drop at s) (get_or s at 0) (drop (suc at) s) here f room
      ∙ ap (λ (l : List ℕ). whole (take n (drop at s)) ∷ lines l) (drop-drop (suc n) at s ∙ ap (λ (k : ℕ). drop k s) next)
      ∙ ap (λ (ls : List Line). whole (take n (drop at s)) ∷ ls)
      (sym (ap lines (drop-cons s (at + n) 0 h) ∙ lines-skip (get_or s (at + n) 0) (drop (suc (at + n)) s) (not-false _ (stop-byte (other LF) s at h))))
  line-cond false e =
      let h : length s ≤ at + n = ltb-false (at + n) (length s) e in
      let none : length (drop at s) ≤ run (other LF) (drop at s) = omega (arith, length-drop at s) in
      let all : take n (drop at s) ≡ drop at s = take_all n (drop at s) none in
      last-at (drop at s) (get_or s at 0) (drop (suc at) s) here none
      ∙ ap (λ (p : List ℕ). broken p ∷ []) (sym all)
      ∙ ap (λ (ls : List Line). broken (take n (drop at s)) ∷ ls) (sym (lines_end s (at + n) h))

module _ (s : List ℕ) (at first last : ℕ) (k : LineAt s at first last) where
  -- there is no line left
  pub no_line : length s ≤ first → lines (drop at s) ≡ []
  no_line h = lines_next s at ∙ ap (λ (i : ℕ). lines (drop i s)) (sym k.starts) ∙ lines_end s first h

  last-is : last ≡ first + run (other LF) (drop first s)
  unfolding stop
  last-is = k.ends

  pub line_after : first ≤ last
  line_after = omega (arith, last-is)

  pub line-inside : first < length s → last ≤ length s
  line-inside h = omega (arith, last-is, run_length (other LF) (drop first s), length-drop first s)

  -- the line, and the lines from its end on
  pub line-here : first < length s → lines (drop at s) ≡ record { bytes = take (last - first) (drop first s); ended = ltb last (length s) } ∷ lines (drop last s)
  unfolding stop
  line-here h =
      let m : last - first ≡ run (other LF) (drop first s) = omega (arith, last-is) in
      let byte : eqb (get_or s first 0) LF ≡ false =
      ap (λ (i : ℕ). eqb (get_or s i 0) LF) k.starts ∙ stop-byte (λ x. eqb x LF) s at (omega (arith, k.starts)) in
      lines_next s at ∙ ap (λ (i : ℕ). lines (drop i s)) (sym k.starts)
      ∙ rw (m, last-is) (line-cond s first h byte (ltb (first + run (other LF) (drop first s)) (length s)) refl)
