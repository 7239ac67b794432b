-- Runs of bytes that pass a test: one byte more, and the end.
-- Assumes nothing.
use mathlib.Core.Path.{◌≡◌, refl, sym, ap, ◌∙◌}
use mathlib.Core.Bool.{Bool, true, false, not}
use mathlib.Core.List.{List, [], ◌∷◌}
use Prim.Native.Nat.{ℕ, suc, ◌+◌, ◌≤◌, ◌<◌, max}
use native.Mathlib.Numerals.{add-one}
use native.Mathlib.Omega.{arith}
use lib.ListN.{length, get_or, drop, drop_of_length-le}
use lib.Seq.{drop-cons, drop-drop}
use lib.Dec.{leb}
use borrow.Author.Tests.{ne_eqb, leb-true, leb-false}
use Rattle.bristol_text.specs.Text.{is_digit, space}
use Rattle.bristol_text.specs.Steps.{run, stop, in_token}
use Rattle.bristol_text.proofs.Digits.{digit_low}

run-first : (p : ℕ → Bool) (x : ℕ) (t : List ℕ) → p x ≡ true → run p (x ∷ t) ≡ suc (run p t)
unfolding run
run-first p x t e = rw e

run_none : (p : ℕ → Bool) (x : ℕ) (t : List ℕ) → p x ≡ false → run p (x ∷ t) ≡ 0
unfolding run
run_none p x t e = rw e

run-nil : (p : ℕ → Bool) → run p [] ≡ 0
unfolding run
run-nil p = refl

module _ (p : ℕ → Bool) (s : List ℕ) (i : ℕ) where
  -- at the end, and at a byte that does not pass, the run stops
  pub stop-end : length s ≤ i → stop p s i ≡ i
  unfolding stop
  stop-end h =
      let e : run p (drop i s) ≡ 0 = ap (run p) (drop_of_length-le s h) ∙ run-nil p in
      omega arith

  pub stop-here : i < length s → p (get_or s i 0) ≡ false → stop p s i ≡ i
  unfolding stop
  stop-here h f =
      let e : run p (drop i s) ≡ 0 =
      ap (run p) (drop-cons s i 0 h) ∙ run_none p (get_or s i 0) (drop (suc i) s) f in
      omega arith

  -- a byte that passes changes nothing in where the run stops
  pub stop-next : i < length s → p (get_or s i 0) ≡ true → stop p s (i + 1) ≡ stop p s i
  unfolding stop
  stop-next h f =
      let e : run p (drop i s) ≡ suc (run p (drop (suc i) s)) =
      ap (run p) (drop-cons s i 0 h) ∙ run-first p (get_or s i 0) (drop (suc i) s) f in
      rw (e, add-one) (omega arith)

-- the run from `at` reaches i, which is past the end
pub stop-past : (p : ℕ → Bool) (s : List ℕ) (at i : ℕ) → stop p s i ≡ stop p s at → at ≤ i → (at ≤ length s → i ≤ length s) → length s ≤ i
    → max at (length s) ≡ stop p s at
stop-past p s at i e low high past = cases (leb at (length s)) refl
  where
    cases : (b : Bool) → leb at (length s) ≡ b → max at (length s) ≡ stop p s at
    cases true t =
        let h : at ≤ length s = leb-true at (length s) t in
        let same : i ≡ length s = omega (arith, high h) in
        let m : max at (length s) ≡ i = omega arith in
        m ∙ sym (stop-end p s i past) ∙ e
    cases false f =
        let h : length s ≤ at = omega (arith, leb-false at (length s) f) in
        let m : max at (length s) ≡ at = omega arith in
        m ∙ sym (stop-end p s at h)

-- a run of bytes of which all pass another test too is the start of that test's run
module _ (p q : ℕ → Bool) (both : (x : ℕ) → p x ≡ true → q x ≡ true) where
  through-first : (x : ℕ) (s : List ℕ) (b : Bool) → p x ≡ b → run p s + run q (drop (run p s) s) ≡ run q s
      → run p (x ∷ s) + run q (drop (run p (x ∷ s)) (x ∷ s)) ≡ run q (x ∷ s)
  through-first x s true e h = rw (run-first p x s e, run-first q x s (both x e)) (omega (arith, h))
  through-first x s false e h = rw (run_none p x s e) (omega arith)

  run-through : (s : List ℕ) → run p s + run q (drop (run p s) s) ≡ run q s
  run-through [] = rw (run-nil p, run-nil q) refl
  run-through (x ∷ s) = through-first x s (p x) refl (run-through s)

pub digit-in-token : (x : ℕ) → is_digit x ≡ true → in_token x ≡ true
unfolding is_digit
digit-in-token x e = ap not (ne_eqb x space (λ q. omega (arith, digit_low x e)))

-- a token ends where it ends after its first digits
pub end-of-token : (l : List ℕ) (at digits end : ℕ) → digits ≡ stop is_digit l at → end ≡ stop in_token l digits → end ≡ stop in_token l at
unfolding stop
end-of-token l at digits end d e =
    let n = run is_digit (drop at l) in
    let same : run in_token (drop digits l) ≡ run in_token (drop n (drop at l)) =
    ap (run in_token) (ap (λ (k : ℕ). drop k l) d ∙ sym (drop-drop n at l)) in
    omega (arith, run-through is_digit in_token digit-in-token (drop at l), same)
