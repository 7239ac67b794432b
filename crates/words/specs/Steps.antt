-- What only the contracts of steps use: no definition of the paper stands here.
-- Assumes nothing.
use Rattle.std.specs.Prelude.{◌≡◌, Bool, cond, ◌&&◌, List, ℕ, zero, suc, ◌+◌, ◌*◌, ◌/◌, ◌%◌, ◌^◌, ◌≤◌, ◌<◌, eqb, get_or, set}
use Rattle.std.specs.Int.Bits.{bit_xor, bit_and}
use Rattle.bits.specs.Bits.{test_bit, from_bits}
use Rattle.bits.specs.Xor.{◌⊕◌, xors}
use Rattle.words.specs.Words.{place}

-- the byte at a place
abbrev pub at : List ℕ → ℕ → ℕ
at m k = get_or m k 0

-- the memory with f 0 .. f (k - 1) at pos 0 .. pos (k - 1)
unfoldable pub fill : (ℕ → ℕ) → (ℕ → ℕ) → ℕ → List ℕ → List ℕ
fill pos f zero m = m
fill pos f (suc k) m = set (fill pos f k m) (pos k) (f k)

-- an AND gate's broadcasts, with party p's bit as in the word shown
abbrev pub and_column : Bool → Bool → (ℕ → Bool) → (ℕ → Bool) → (ℕ → Bool) → (ℕ → Bool) → ℕ → ℕ → ℕ → Bool
and_column ma mb a b c d p shown i = cond (eqb i p) (test_bit shown p) ((ma && b i) ⊕ (mb && a i) ⊕ c i ⊕ d i)

-- an AND gate on words is one on the columns of n parties, n at most 64: the broadcasts, and masked c, which is masked a times
-- masked b XOR all broadcasts. No party is hidden where p is n or more.
unfoldable pub AndColumns : Bool → Bool → ℕ → ℕ → ℕ → ℕ → ℕ → ℕ → ℕ → Bool → Type 0
AndColumns ma mb sa sb z o hidden shown word masked =
    (n p : ℕ) (a b c d : ℕ → Bool) → n ≤ 64 → sa ≡ from_bits n a → sb ≡ from_bits n b → z ≡ from_bits n c → o ≡ from_bits n d
    → hidden ≡ place 64 p → shown < 2 ^ n
    → (word ≡ from_bits n (and_column ma mb a b c d p shown)) × (masked ≡ (ma && mb) ⊕ xors n (and_column ma mb a b c d p shown))

-- the bits at the places of m exchanged for those d places above them
unfoldable pub swapped : ℕ → ℕ → ℕ → ℕ
swapped m d x =
    let t : ℕ = bit_and (bit_xor x (x / 2 ^ d)) m in
    bit_xor (bit_xor x t) (t * 2 ^ d % 2 ^ 64)

-- bit j of byte i at bit i of byte j
unfoldable pub transposed : ℕ → ℕ
transposed x = from_bits 64 (λ k. test_bit x (8 * (k % 8) + k / 8))

-- the byte of s at j, and every step-th after it, n in all
unfoldable pub gathered : ℕ → List ℕ → ℕ → ℕ → ℕ
gathered n s j step = from_bits (8 * n) (λ k. test_bit (at s (j + k / 8 * step)) (k % 8))

-- the lowest n bytes of x at j, and each step after the one before
unfoldable pub scattered : ℕ → ℕ → ℕ → ℕ → List ℕ → List ℕ
scattered n x j step m = fill (λ t. j + t * step) (λ t. x / 2 ^ (8 * t) % 256) n m

-- n bytes from j on, each step after the one before, as 8 by 8 bits transposed, at k and each stride after it, r in all
unfoldable pub turned : ℕ → ℕ → List ℕ → ℕ → ℕ → ℕ → ℕ → List ℕ → List ℕ
turned n r s j step k stride m = fill (λ t. k + t * stride) (λ t. from_bits n (λ p. test_bit (at s (j + p * step)) t)) r m
