-- The number that starts at a place: its token, and the tests on it.
-- Assumes nothing.
use mathlib.Core.Path.{◌≡◌, refl, sym, ap, ◌∙◌}
use mathlib.Core.Bool.{Bool, true, false, cond, not, ◌&&◌, ◌||◌}
use mathlib.Core.List.{List, [], ◌∷◌}
use Rattle.std.specs.Prelude.{Some, None}
use Prim.Native.Nat.{ℕ, suc, ◌+◌, ◌-◌, ◌≤◌, ◌<◌}
use native.Mathlib.Omega.{arith}
use lib.Dec.{eqb, leb, eqb-zero-suc, eqb-suc-suc}
use lib.ListN.{length, get_or, take, drop, length-drop}
use lib.Seq.{slice, slice-cons, slice_empty, length-slice, take-add, drop_at, length-take-le}
use borrow.Author.Tests.{leb-true, eq-eqb, eqb-true}
use Rattle.bits.proofs.Tests.{and-true-left, and-true-right, test-eq}
use Rattle.bristol_text.specs.Text.{is_digit, all_digits, is_number, value_of}
use Rattle.bristol_text.specs.Steps.{run, stop, token_at, number_at, Digits, in_token}
use Rattle.bristol_text.proofs.Digits.{Counted, counted_none, counted-all}
use Rattle.bristol_text.proofs.Runs.{digit-in-token}

-- every byte passes p
unfoldable all : (ℕ → Bool) → List ℕ → Bool
all p [] = true
all p (x ∷ l) = p x && all p l

-- where what passes p passes q, all of the run of q passes p if the run of p is as long, and only then
module _ (p q : ℕ → Bool) (within : (x : ℕ) → p x ≡ true → q x ≡ true) where
  all_more : (x : ℕ) (l : List ℕ) (b d : Bool) → p x ≡ b → q x ≡ d → (b ≡ true → d ≡ true)
      → all p (take (run q l) l) ≡ eqb (run p l) (run q l) → all p (take (run q (x ∷ l)) (x ∷ l)) ≡ eqb (run p (x ∷ l)) (run q (x ∷ l))
  unfolding run all
  all_more x l true true f g h e = rw (g, f) (e ∙ sym (eqb-suc-suc (run p l) (run q l)))
  all_more x l true false f g h e =
      let z : false ≡ true = h refl in
      cc
  all_more x l false true f g h e = rw (g, f) (sym (eqb-zero-suc (run q l)))
  all_more x l false false f g h e = rw (g, f) refl

  all-run : (l : List ℕ) → all p (take (run q l) l) ≡ eqb (run p l) (run q l)
  unfolding run all
  all-run [] = refl
  all-run (x ∷ l) = all_more x l (p x) (q x) refl refl (within x) (all-run l)

all_digits_lem : (l : List ℕ) → all_digits l ≡ all is_digit l
unfolding all_digits all
all_digits_lem [] = refl
all_digits_lem (x ∷ l) = ap (λ (b : Bool). is_digit x && b) (all_digits_lem l)

eqb-add : (k a b : ℕ) → eqb a b ≡ eqb (k + a) (k + b)
eqb-add k a b =
    test-eq (eqb a b) (eqb (k + a) (k + b)) (λ e. eq-eqb (k + a) (k + b) (omega (arith, eqb-true a b e)))
    (λ e. eq-eqb a b (omega (arith, eqb-true (k + a) (k + b) e)))

pub run_length : (p : ℕ → Bool) (l : List ℕ) → run p l ≤ length l
unfolding run
run_length p [] = omega arith
run_length p (x ∷ l) = more (p x) (run_length p l)
  where
    more : (b : Bool) → run p l ≤ length l → cond b (suc (run p l)) 0 ≤ suc (length l)
    more true h = omega arith
    more false h = omega arith

pub slice-take : (s : List ℕ) (at n : ℕ) → at ≤ length s → slice at (at + n) s ≡ take n (drop at s)
slice-take s at n h = ap (drop at) (take-add at n s) ∙ drop_at (take at s) (take n (drop at s)) at (length-take-le at s h)

-- digits at places, as a list
module _ (s : List ℕ) (from to : ℕ) (d : Digits s from to) where
  abbrev digits : List ℕ
  digits = take (to - from) (drop from s)

  digits-slice : slice from to s ≡ digits
  digits-slice =
      let e : from + (to - from) ≡ to = omega (arith, d.ordered) in
      rw e at (slice-take s from (to - from) (omega (arith, d.ordered, d.inside)))

  pub digits_start : Counted digits 0 0
  digits_start =
      counted_none digits (omega (arith, d.few, ap length digits-slice, length-slice from to s d.inside))
      (sym (ap all_digits digits-slice) ∙ d.digits)

  pub digits-all : (i n : ℕ) → Counted digits i n → length digits ≤ i → n ≡ value_of (slice from to s)
  digits-all i n k h = counted-all digits i n k h ∙ sym (ap value_of digits-slice)

pub first-of : (a b c d : Bool) → a && b && c && d ≡ true → a ≡ true
first-of true b c d e = refl
first-of false b c d e = e

pub third_of : (a b c d : Bool) → a && b && c && d ≡ true → c ≡ true
third_of a b c d e = and-true-right (a && b) c (and-true-left (a && b && c) d e)

-- a place where no token starts
pub number-none : (s : List ℕ) (at end : ℕ) → end ≡ stop in_token s at → end ≤ at → number_at s at ≡ None
unfolding number_at token_at stop is_number all_digits
number-none s at end e h =
    let z : at + run in_token (drop at s) ≡ at = omega arith in
    rw (z, slice_empty at s)

module _ (s : List ℕ) (at end : ℕ) (e : end ≡ stop in_token s at) (h : at < end) where
  pub token-inside : end ≤ length s
  unfolding stop
  token-inside = omega (arith, run_length in_token (drop at s), length-drop at s)

  token : token_at s at ≡ slice at end s
  unfolding token_at
  token = ap (λ (k : ℕ). slice at k s) (sym e)

  token-digits : (digits : ℕ) → digits ≡ stop is_digit s at → all_digits (slice at end s) ≡ eqb digits end
  unfolding stop
  token-digits digits d =
      let inside : at ≤ length s = omega (arith, token-inside) in
      let n = run in_token (drop at s) in
      ap (λ (k : ℕ). all_digits (slice at k s)) e
      ∙ ap all_digits (slice-take s at n inside)
      ∙ all_digits_lem (take n (drop at s))
      ∙ all-run is_digit in_token digit-in-token (drop at s)
      ∙ eqb-add at (run is_digit (drop at s)) n
      ∙ rw (d, e) refl

  -- the tests of the code are those of a number
  pub number-tests : (digits : ℕ) → digits ≡ stop is_digit s at
      → eqb digits end && leb 1 (end - at) && leb (end - at) 9 && (not (eqb (get_or s at 0) 48) || eqb (end - at) 1) ≡ is_number (slice at end s)
  unfolding is_number
  number-tests digits d =
      let first : get_or (slice at end s) 0 0 ≡ get_or s at 0 =
      ap (λ (l : List ℕ). get_or l 0 0) (slice-cons at end s 0 h token-inside) in
      rw (token-digits digits d, length-slice at end s token-inside, first)

  pub number-bad : is_number (slice at end s) ≡ false → number_at s at ≡ None
  unfolding number_at
  number-bad f = rw (token, f)

  pub number-good : is_number (slice at end s) ≡ true → number_at s at ≡ Some (value_of (slice at end s), record { at = end })
  unfolding number_at
  number-good f = rw (token, f, e)

  pub number_digits : is_number (slice at end s) ≡ true → Digits s at end
  unfolding is_number
  number_digits f =
      let t : List ℕ = slice at end s in
      let small : length t ≤ 9 =
      leb-true (length t) 9 (third_of (all_digits t) (leb 1 (length t)) (leb (length t) 9) (not (eqb (get_or t 0 0) 48) || eqb (length t) 1) f) in
      record {
        ordered = omega arith;
        inside = token-inside;
        few = omega (arith, length-slice at end s token-inside);
        digits = first-of (all_digits t) (leb 1 (length t)) (leb (length t) 9) (not (eqb (get_or t 0 0) 48) || eqb (length t) 1) f;
      }
