-- The value of a run of digits, digit by digit.
-- Assumes nothing.
use mathlib.Core.Path.{◌≡◌, refl, sym, ap, ◌∙◌}
use mathlib.Core.Bool.{true}
use mathlib.Core.List.{List, [], ◌∷◌}
use Prim.Native.Nat.{ℕ, suc, ◌+◌, ◌-◌, ◌*◌, ◌^◌, ◌≤◌, ◌<◌}
use native.Mathlib.Numerals.{add-one}
use native.Mathlib.Nat.{pow-suc, pow-le-pow_right}
use native.Mathlib.Omega.{arith}
use lib.Dec.{leb}
use lib.ListN.{length, get_or, drop, drop_of_length-le}
use lib.Seq.{drop-cons}
use borrow.Author.Tests.{leb-true}
use Rattle.bits.proofs.Tests.{and-true-left, and-true-right}
use Rattle.bristol_text.specs.Text.{is_digit, all_digits, value_after, value_of}

-- what is known after the first i of at most 9 digits, whose value is n
pub record Counted (t : List ℕ) (i n : ℕ) : Type 0 where
  pub few : length t ≤ 9
  pub high : i ≤ length t
  pub small : n < 10 ^ i
  pub value : value_after n (drop i t) ≡ value_of t
  pub digits : all_digits (drop i t) ≡ true

digit-first : (x : ℕ) (t : List ℕ) → all_digits (x ∷ t) ≡ true → is_digit x ≡ true
unfolding all_digits
digit-first x t e = and-true-left (is_digit x) (all_digits t) e

digits-rest : (x : ℕ) (t : List ℕ) → all_digits (x ∷ t) ≡ true → all_digits t ≡ true
unfolding all_digits
digits-rest x t e = and-true-right (is_digit x) (all_digits t) e

pub digit_low : (x : ℕ) → is_digit x ≡ true → 48 ≤ x
unfolding is_digit
digit_low x e = leb-true 48 x (and-true-left _ _ e)

pub digit-high : (x : ℕ) → is_digit x ≡ true → x ≤ 57
unfolding is_digit
digit-high x e = leb-true x 57 (and-true-right (leb 48 x) _ e)

value-first : (n x : ℕ) (t : List ℕ) → value_after n (x ∷ t) ≡ value_after (10 * n + (x - 48)) t
unfolding value_after
value-first n x t = refl

value_none : (n : ℕ) → value_after n [] ≡ n
unfolding value_after
value_none n = refl

module _ (t : List ℕ) where
  pub counted_none : length t ≤ 9 → all_digits t ≡ true → Counted t 0 0
  unfolding value_of
  counted_none few d = record { few = few; high = omega arith; small = omega arith; value = refl; digits = d }

  module _ (i n : ℕ) (k : Counted t i n) where
    module _ (h : i < length t) where
      first : drop i t ≡ get_or t i 0 ∷ drop (suc i) t
      first = drop-cons t i 0 h

      pub counted-digit : is_digit (get_or t i 0) ≡ true
      counted-digit = digit-first _ (drop (suc i) t) (sym (ap all_digits first) ∙ k.digits)

      pub counted-low : 48 ≤ get_or t i 0
      counted-low = digit_low _ counted-digit

      pub counted-high : get_or t i 0 ≤ 57
      counted-high = digit-high _ counted-digit

      -- there are at most 8 digits before one that is still to come
      pub counted-small : n < 100000000
      counted-small =
          let few : i ≤ 8 = omega (arith, k.few) in
          let p : 10 ^ i ≤ 10 ^ 8 = pow-le-pow_right (omega arith) few in
          omega (arith, k.small)

      pub counted-more : Counted t (i + 1) (10 * n + (get_or t i 0 - 48))
      counted-more =
          let small : 10 * n + (get_or t i 0 - 48) < 10 ^ i * 10 = omega (arith, counted-high, k.small) in
          record {
            few = k.few;
            high = omega arith;
            small = rw (add-one, pow-suc 10 i) small;
            value = rw add-one (sym (ap (value_after n) first ∙ value-first n (get_or t i 0) (drop (suc i) t)) ∙ k.value);
            digits = rw add-one (digits-rest (get_or t i 0) _ (sym (ap all_digits first) ∙ k.digits));
          }

    pub counted-all : length t ≤ i → n ≡ value_of t
    counted-all h =
        sym (value_none n) ∙ sym (ap (value_after n) (drop_of_length-le t h)) ∙ k.value
