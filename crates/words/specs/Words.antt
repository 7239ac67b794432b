-- Words with a bit for each party, bit i for party i: document 02, order 13, "packing all parties' shares of a wire into one word".
-- Assumes nothing.
use Rattle.std.specs.Prelude.{Bool, ℕ, ◌-◌, ◌*◌, ◌^◌, eqb}
use Rattle.std.specs.Int.Bits.{bit_xor, bit_and}
use Rattle.bits.specs.Bits.{bit_val, test_bit, from_bits}
use Rattle.bits.specs.Xor.{xors}

-- "the XOR of shares as the parity of a word": of its first n bits
unfoldable pub parity : ℕ → ℕ → Bool
parity n x = xors n (test_bit x)

-- the word with b at each of n places
unfoldable pub every : ℕ → Bool → ℕ
every n b = bit_val b * (2 ^ n - 1)

-- the word with a bit at party p's place alone; zero where p is none of n parties
unfoldable pub place : ℕ → ℕ → ℕ
place n p = from_bits n (λ i. eqb i p)

-- "a party broadcasts the XOR of four bits: masked a times its share of b's mask, masked b times its share of a's mask, its product
-- share, its share of c's mask": the bits of n parties
unfoldable pub broadcast_word : ℕ → Bool → Bool → ℕ → ℕ → ℕ → ℕ → ℕ
broadcast_word n ma mb sa sb z o = bit_xor (bit_xor (bit_xor (bit_and (every n ma) sb) (bit_and (every n mb) sa)) z) o

-- the word new, with the bits of old at the places of hidden
unfoldable pub chosen : ℕ → ℕ → ℕ → ℕ
chosen hidden old new = bit_xor new (bit_and (bit_xor old new) hidden)
