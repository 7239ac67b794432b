-- What only the contracts of steps use: no definition of the paper stands here.
-- A wire's byte has its masked value in the lowest bit and its mask in the next.
-- Assumes nothing.
use Rattle.std.specs.Prelude.{Bool, ℕ, ◌*◌, ◌/◌, ◌%◌}
use Rattle.std.specs.Int.Bits.{bit_xor, bit_and}
use Rattle.bits.specs.Bits.{odd, bit_val}
use Rattle.words.specs.Words.{parity, every, broadcast_word, chosen}

-- "the correction bit: the product of the two input masks XOR the other parties' product shares", in the lowest bit; wires with bytes x
-- and y, product shares z, of which party n − 1's is zero
abbrev pub correction_byte : ℕ → ℕ → ℕ → ℕ
correction_byte x y z = bit_xor (bit_and (x / 2) (y / 2)) (bit_val (parity 64 z))

-- "A wire's masked value is its value XOR its mask": the byte of an AND gate's output, whose mask is k
abbrev pub output_byte : ℕ → ℕ → Bool → ℕ
output_byte x y k = bit_xor (bit_and (bit_xor x (x / 2)) (bit_xor y (y / 2)) % 2) (3 * bit_val k)

-- "a party broadcasts the XOR of four bits", and "Party n − 1's product share is the correction bit": at the place `last`
unfoldable pub sent_word : ℕ → ℕ → ℕ → ℕ → ℕ → ℕ → ℕ → ℕ
sent_word x y sa sb z o last = broadcast_word 64 (odd x) (odd y) sa sb (chosen last (every 64 (odd (correction_byte x y z))) z) o
