-- Bits of numbers and of byte strings, lowest first.
-- Document 01: "Bits are packed lowest first; the unused bits of a last byte are zero."
-- Assumes nothing.
use Rattle.std.specs.Prelude.{Bool, true, false, cond, not, ◌&&◌, List, [], ◌∷◌, ℕ, zero, suc, ◌+◌, ◌-◌, ◌*◌, ◌/◌, ◌%◌, ◌^◌, eqb, length, get_or}

-- the list f 0, .., f (n - 1)
abbrev pub tabulate : {A : Type 0} → ℕ → (ℕ → A) → List A
tabulate zero f = []
tabulate (suc n) f = f 0 ∷ tabulate n (λ i. f (suc i))

-- a bit as a number
abbrev pub bit_val : Bool → ℕ
bit_val b = cond b 1 0

-- the lowest bit of a number
unfoldable pub odd : ℕ → Bool
odd x = eqb (x % 2) 1

-- bit z of a number
unfoldable pub test_bit : ℕ → ℕ → Bool
test_bit x z = odd (x / 2 ^ z)

-- the number with the bits f 0 .. f (w - 1)
unfoldable pub from_bits : ℕ → (ℕ → Bool) → ℕ
from_bits zero f = 0
from_bits (suc w) f = from_bits w f + bit_val (f w) * 2 ^ w

-- bit k of a byte string; false beyond its end
unfoldable pub bit_at : List ℕ → ℕ → Bool
bit_at s k = test_bit (get_or s (k / 8) 0) (k % 8)

-- "oct(k) is the bytes for k bits: k/8 rounded up."
abbrev pub oct : ℕ → ℕ
oct k = (k + 7) / 8

-- the bits, packed into oct of their number bytes
unfoldable pub pack : List Bool → List ℕ
pack bs = tabulate (oct (length bs)) (λ j. from_bits 8 (λ t. get_or bs (8 * j + t) false))

-- the first k bits of a byte string
unfoldable pub unpack : ℕ → List ℕ → List Bool
unpack k s = tabulate k (bit_at s)

-- no bit of the list is set
unfoldable pub none : List Bool → Bool
none [] = true
none (b ∷ bs) = not b && none bs

-- the unused bits, from bit k to the end of the string, are zero
unfoldable pub unused_zero : ℕ → List ℕ → Bool
unused_zero k s = none (tabulate (8 * length s - k) (λ i. bit_at s (k + i)))
