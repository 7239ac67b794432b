-- Theorem, words of columns: what is done to the words of n parties is done to the bit of each. The words may be wider than n.
-- Assumes nothing.
use Rattle.std.specs.Prelude.{◌≡◌, Bool, cond, ◌&&◌, ℕ, ◌^◌, ◌≤◌, ◌<◌, eqb}
use Rattle.std.specs.Int.Bits.{bit_xor}
use Rattle.bits.specs.Bits.{test_bit, from_bits}
use Rattle.bits.specs.Xor.{◌⊕◌, xors}
use Rattle.words.specs.Words.{parity, place, broadcast_word, chosen}

-- for n parties, in words of N bits
pub record Bitwise (N n : ℕ) : Type 0 where
  -- "XOR gates XOR the shares"
  pub xor_shares : (f g : ℕ → Bool) → bit_xor (from_bits n f) (from_bits n g) ≡ from_bits n (λ i. f i ⊕ g i)
  -- "A wire's mask is the XOR of its shares, one a party"
  pub mask : (f : ℕ → Bool) → parity N (from_bits n f) ≡ xors n f
  -- the broadcasts of an AND gate
  pub broadcasts : (ma mb : Bool) (sa sb z o : ℕ → Bool)
      → broadcast_word N ma mb (from_bits n sa) (from_bits n sb) (from_bits n z) (from_bits n o)
      ≡ from_bits n (λ i. (ma && sb i) ⊕ (mb && sa i) ⊕ z i ⊕ o i)
  -- party p's bit as in the word shown
  pub delivered : (p shown : ℕ) (f : ℕ → Bool) → shown < 2 ^ n
      → chosen (place N p) shown (from_bits n f) ≡ from_bits n (λ i. cond (eqb i p) (test_bit shown p) (f i))

abbrev pub WordsOfColumns : Type 0
WordsOfColumns = (N n : ℕ) → n ≤ N → Bitwise N n
