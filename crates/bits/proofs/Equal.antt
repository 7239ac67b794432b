-- Equal byte strings: `same_bytes` is equality.
-- Assumes nothing.
use mathlib.Core.Path.{◌≡◌, refl, ap, ap₂}
use mathlib.Core.Bool.{true, false}
use mathlib.Core.List.{List, [], ◌∷◌}
use mathlib.Core.Logic.{◌↔◌, ◌≢◌}
use Prim.Native.Nat.{ℕ, ◌+◌, ◌≤◌, ◌<◌}
use native.Mathlib.Omega.{arith}
use borrow.Author.Count.{below_more}
use borrow.Author.Tests.{eq-eqb, eqb-true}
use lib.Bits.{bit_or, bit_xor}
use lib.Dec.{eqb}
use lib.ListN.{length, get_or}
use lib.Seq.{ext_get_or}
use Rattle.bits.specs.Bytes.{same_bytes}
use Rattle.bits.proofs.Bitwise.{or-zero, zero_or, xor-zero, zero_xor}
use Rattle.bits.proofs.Tests.{and-true-left, and-true-right, test-eq}

-- byte strings that are the same by the test are equal
pub same-eq : (a b : List ℕ) → same_bytes a b ≡ true → a ≡ b
unfolding same_bytes
same-eq [] [] e = refl
same-eq [] (y ∷ b) e = cc
same-eq (x ∷ a) [] e = cc
same-eq (x ∷ a) (y ∷ b) e =
    ap₂ ◌∷◌ (eqb-true x y (and-true-left (eqb x y) (same_bytes a b) e)) (same-eq a b (and-true-right (eqb x y) (same_bytes a b) e))

-- a byte string is the same as itself by the test
pub same_refl : (a : List ℕ) → same_bytes a a ≡ true
unfolding same_bytes
same_refl [] = refl
same_refl (x ∷ a) = rw (eq-eqb x x refl) (same_refl a)

-- equal byte strings are the same by the test
pub eq-same : (a b : List ℕ) → a ≡ b → same_bytes a b ≡ true
eq-same a b e = rw e (same_refl b)

-- strings of different lengths are not the same
pub lengths_differ : (a b : List ℕ) → length a ≢ length b → same_bytes a b ≡ false
lengths_differ a b h = test-eq (same_bytes a b) false (λ e. absurd (h (ap length (same-eq a b e)))) (λ e. cc)

-- d, which gathers the differences of the first i bytes, is zero where those bytes are equal, and only there
abbrev pub Agree : List ℕ → List ℕ → ℕ → ℕ → Type 0
Agree a b i d = (d ≡ 0) ↔ ((k : ℕ) → k < i → get_or a k 0 ≡ get_or b k 0)

-- one byte more
pub agree-more : (a b : List ℕ) (i d : ℕ) → Agree a b i d → Agree a b (i + 1) (bit_or d (bit_xor (get_or a i 0) (get_or b i 0)))
agree-more a b i d g =
    let x = bit_xor (get_or a i 0) (get_or b i 0) in (
      λ e. let z = zero_or d x e in below_more (λ k. get_or a k 0 ≡ get_or b k 0) i (g.0 z.0) (zero_xor (get_or a i 0) (get_or b i 0) z.1),
      λ h. or-zero d x (g.1 (λ k l. h k (omega arith))) (xor-zero (get_or a i 0) (get_or b i 0) (h i (omega arith))),
    )

-- all bytes
pub agree-all : (a b : List ℕ) (i d : ℕ) → length a ≡ length b → length a ≤ i → Agree a b i d → eqb d 0 ≡ same_bytes a b
agree-all a b i d l n g =
    test-eq (eqb d 0) (same_bytes a b)
    (λ e. eq-same a b (ext_get_or 0 a b l (λ k m. g.0 (eqb-true d 0 e) k (omega arith))))
    (λ e. eq-eqb d 0 (g.1 (λ k m. ap (λ (s : List ℕ). get_or s k 0) (same-eq a b e))))
