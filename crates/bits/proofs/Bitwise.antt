-- Bit by bit: what AND, OR and XOR of numbers have at each place, and when OR and XOR are zero.
-- Assumes nothing.
use mathlib.Core.Path.{◌≡◌, refl, ap, ap₂, ◌∙◌}
use mathlib.Core.Bool.{Bool, true, false, ◌&&◌, ◌||◌}
use Prim.Native.Nat.{ℕ, ◌+◌, ◌*◌, ◌/◌, ◌%◌, ◌^◌, min, max}
use native.Mathlib.Omega.{arith}
use lib.Dec.{eqb}
use lib.Bits.{bit_and, bit_or, bit_xor, differ, and_step, or_step, xor_step, and_shr, or_shr, xor_shr, and_le_l, and_le_r, or_add_and, xor_add_and, xor_self}
use Rattle.bits.specs.Bits.{bit_val, odd, test_bit}
use Rattle.bits.specs.Xor.{◌⊕◌}
use Rattle.bits.proofs.Numbers.{mod-two}

-- an even number changes no lowest bit
pub odd-add-even : (q d : ℕ) → odd (q * 2 + d) ≡ odd d
unfolding odd
odd-add-even q d =
    let e : (q * 2 + d) % 2 ≡ d % 2 = omega arith in
    ap (λ (k : ℕ). eqb k 1) e

-- an operation on numbers that goes bit by bit, f on two digits, has at each place the operation h of the two bits
module _ (op f : ℕ → ℕ → ℕ) (h : Bool → Bool → Bool)
    (step : (a b : ℕ) → op a b ≡ op (a / 2) (b / 2) * 2 + f (a % 2) (b % 2))
    (shr : (a b k : ℕ) → op a b / 2 ^ k ≡ op (a / 2 ^ k) (b / 2 ^ k))
    (digit : (x y : Bool) → odd (f (bit_val x) (bit_val y)) ≡ h x y) where
  -- at the lowest place
  odd-op : (a b : ℕ) → odd (op a b) ≡ h (odd a) (odd b)
  odd-op a b =
      ap odd (step a b) ∙ odd-add-even (op (a / 2) (b / 2)) (f (a % 2) (b % 2)) ∙ ap odd (ap₂ f (mod-two a) (mod-two b)) ∙ digit (odd a) (odd b)

  -- at place z
  test_bit-op : (a b z : ℕ) → test_bit (op a b) z ≡ h (test_bit a z) (test_bit b z)
  unfolding test_bit
  test_bit-op a b z = ap odd (shr a b z) ∙ odd-op (a / 2 ^ z) (b / 2 ^ z)

-- AND of two digits
and-digit : (x y : Bool) → odd (min (bit_val x) (bit_val y)) ≡ x && y
unfolding odd
and-digit true true = refl
and-digit true false = refl
and-digit false true = refl
and-digit false false = refl

-- OR of two digits
or-digit : (x y : Bool) → odd (max (bit_val x) (bit_val y)) ≡ x || y
unfolding odd
or-digit true true = refl
or-digit true false = refl
or-digit false true = refl
or-digit false false = refl

-- XOR of two digits
xor-digit : (x y : Bool) → odd (differ (bit_val x) (bit_val y)) ≡ x ⊕ y
unfolding odd
xor-digit true true = refl
xor-digit true false = refl
xor-digit false true = refl
xor-digit false false = refl

-- the lowest bit of an AND
pub odd-and : (a b : ℕ) → odd (bit_and a b) ≡ odd a && odd b
odd-and = odd-op bit_and min ◌&&◌ and_step and_shr and-digit

-- the lowest bit of an OR
pub odd-or : (a b : ℕ) → odd (bit_or a b) ≡ odd a || odd b
odd-or = odd-op bit_or max ◌||◌ or_step or_shr or-digit

-- the lowest bit of an XOR
pub odd-xor : (a b : ℕ) → odd (bit_xor a b) ≡ odd a ⊕ odd b
odd-xor = odd-op bit_xor differ ◌⊕◌ xor_step xor_shr xor-digit

-- bit z of an AND
pub test_bit-and : (a b z : ℕ) → test_bit (bit_and a b) z ≡ test_bit a z && test_bit b z
test_bit-and = test_bit-op bit_and min ◌&&◌ and_step and_shr and-digit

-- bit z of an OR
pub test_bit-or : (a b z : ℕ) → test_bit (bit_or a b) z ≡ test_bit a z || test_bit b z
test_bit-or = test_bit-op bit_or max ◌||◌ or_step or_shr or-digit

-- bit z of an XOR
pub test_bit-xor : (a b z : ℕ) → test_bit (bit_xor a b) z ≡ test_bit a z ⊕ test_bit b z
test_bit-xor = test_bit-op bit_xor differ ◌⊕◌ xor_step xor_shr xor-digit

-- an OR is zero where both are
pub or-zero : (a b : ℕ) → a ≡ 0 → b ≡ 0 → bit_or a b ≡ 0
or-zero a b p q = omega (arith, or_add_and a b)

-- if an OR is zero, both are
pub zero_or : (a b : ℕ) → bit_or a b ≡ 0 → (a ≡ 0) × (b ≡ 0)
zero_or a b e =
    let s = or_add_and a b in
    let l = and_le_l a b in
    let r = and_le_r a b in
    (omega arith, omega arith)

-- an XOR of equal numbers is zero
pub xor-zero : (a b : ℕ) → a ≡ b → bit_xor a b ≡ 0
xor-zero a b e = rw e (xor_self b)

-- if an XOR is zero, the numbers are equal
pub zero_xor : (a b : ℕ) → bit_xor a b ≡ 0 → a ≡ b
zero_xor a b e = omega (arith, xor_add_and a b, and_le_l a b, and_le_r a b)
