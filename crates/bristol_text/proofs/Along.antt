-- The tokens of a line by places: what the walk from token to token finds.
-- Assumes nothing.
use mathlib.Core.Path.{◌≡◌, refl, sym, ap, ◌∙◌}
use mathlib.Core.Bool.{Bool, true, false, cond}
use mathlib.Core.List.{List, [], ◌∷◌}
use Rattle.std.specs.Prelude.{Some, None}
use Prim.Native.Nat.{ℕ, suc, ◌+◌, ◌-◌, ◌*◌, ◌^◌, ◌≤◌, ◌<◌}
use native.Mathlib.Nat.{pow-suc, pow-le-pow_right, mul-le-mul_right}
use native.Mathlib.Omega.{arith}
use lib.Dec.{leb, ltb}
use lib.ListN.{length, take, drop, length-drop}
use lib.Seq.{slice, drop-drop, take_all}
use borrow.Author.Tests.{leb-true, ltb-true, ltb-false}
use Rattle.bits.proofs.Tests.{and-true-left, and-true-right}
use Rattle.bristol_text.specs.Text.{space, pieces, tokens, is_digit, all_digits, is_number, value_after, value_of}
use Rattle.bristol_text.specs.Steps.{run, stop, token_at, tokens_after, number_at, in_token}
use Rattle.bristol_text.specs.declared.Cursor.{Cursor}
use Rattle.bristol_text.proofs.Digits.{digit-high}
use Rattle.bristol_text.proofs.Numbers.{slice-take, run_length, first-of, third_of}
use Rattle.bristol_text.proofs.Pieces.{other, pieces_end, pieces-first}

module _ (l : List ℕ) (at : ℕ) (inside : at ≤ length l) where
  abbrev m : ℕ
  m = run (other space) (drop at l)

  end_is : stop in_token l at ≡ at + m
  unfolding stop
  end_is = refl

  token-is : token_at l at ≡ take m (drop at l)
  unfolding token_at
  token-is = ap (λ (k : ℕ). slice at k l) end_is ∙ slice-take l at m inside

  pub token-inside : stop in_token l at ≤ length l
  token-inside = omega (arith, end_is, run_length (other space) (drop at l), length-drop at l)

  after-step : (b : Bool) → ltb (at + m) (length l) ≡ b → tokens (drop at l) ≡ take m (drop at l) ∷ cond b (tokens (drop (suc (at + m)) l)) []
  unfolding tokens
  after-step true e =
      let h : at + m < length l = ltb-true (at + m) (length l) e in
      let room : run (other space) (drop at l) < length (drop at l) = omega (arith, length-drop at l) in
      let next : at + suc m ≡ suc (at + m) = omega arith in
      pieces-first space (drop at l) room
      ∙ ap (λ (r : List ℕ). take m (drop at l) ∷ pieces space r) (drop-drop (suc m) at l ∙ ap (λ (k : ℕ). drop k l) next)
  after-step false e =
      let none : length (drop at l) ≤ run (other space) (drop at l) = omega (arith, length-drop at l, ltb_no) in
      pieces_end space (drop at l) none ∙ ap (λ (p : List ℕ). p ∷ []) (sym (take_all m (drop at l) none))
    where
      ltb_no : length l ≤ at + m
      ltb_no = ltb-false (at + m) (length l) e

  -- the first token from a place on, and those after it
  pub tokens-step : tokens (drop at l) ≡ token_at l at ∷ tokens_after l (stop in_token l at)
  unfolding tokens_after
  tokens-step = after-step (ltb (at + m) (length l)) refl ∙ rw (token-is, end_is) refl

-- a number read: the token, its value, and where it ends
pub record Numbered (l : List ℕ) (at n : ℕ) (c : Cursor) : Type 0 where
  pub number : is_number (token_at l at) ≡ true
  pub value : n ≡ value_of (token_at l at)
  pub ends : c.at ≡ stop in_token l at

pub value-when : (b : Bool) (x y : ℕ × Cursor) → cond b (Some x) None ≡ Some y → (b ≡ true) × ((y.0 ≡ x.0) × (y.1 ≡ x.1))
value-when true x y e = (refl, (cc, cc))
value-when false x y e = absurd (cc)

pub none-when : (b : Bool) (x : ℕ × Cursor) → cond b (Some x) None ≡ None → b ≡ false
none-when true x e = cc
none-when false x e = refl

module _ (l : List ℕ) (at : ℕ) where
  pub number_read : (n : ℕ) (c : Cursor) → number_at l at ≡ Some (n, c) → Numbered l at n c
  unfolding number_at
  number_read n c e =
      let w = value-when (is_number (token_at l at)) (value_of (token_at l at), record { at = stop in_token l at }) (n, c) e in
      record { number = w.0; value = w.1.0; ends = ap (λ (d : Cursor). d.at) w.1.1 }

  pub number-unread : number_at l at ≡ None → is_number (token_at l at) ≡ false
  unfolding number_at
  number-unread e = none-when (is_number (token_at l at)) (value_of (token_at l at), record { at = stop in_token l at }) e

-- at most 9 digits make a number below 10 ^ 9
value-small : (n : ℕ) (t : List ℕ) → all_digits t ≡ true → value_after n t < suc n * 10 ^ length t
unfolding all_digits value_after
value-small n [] e = omega arith
value-small n (x ∷ t) e =
    let d : x ≤ 57 = digit-high x (and-true-left (is_digit x) (all_digits t) e) in
    let ih = value-small (10 * n + (x - 48)) t (and-true-right (is_digit x) (all_digits t) e) in
    let p : suc (10 * n + (x - 48)) * 10 ^ length t ≤ (10 * suc n) * 10 ^ length t = mul-le-mul_right (10 ^ length t) (omega arith) in
    let q : (10 * suc n) * 10 ^ length t ≡ suc n * 10 ^ suc (length t) = rw (pow-suc 10 (length t)) (omega arith) in
    omega arith

pub number_small : (t : List ℕ) → is_number t ≡ true → value_of t < 1000000000
unfolding is_number value_of
number_small t e =
    let digits = first-of (all_digits t) (leb 1 (length t)) (leb (length t) 9) _ e in
    let few : length t ≤ 9 = leb-true (length t) 9 (third_of (all_digits t) (leb 1 (length t)) (leb (length t) 9) _ e) in
    let p : 10 ^ length t ≤ 10 ^ 9 = pow-le-pow_right (omega arith) few in
    omega (arith, value-small 0 t digits)
