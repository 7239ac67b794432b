-- The words of an AND gate that makes its correction, from their parts.
-- Assumes nothing.
use mathlib.Core.Path.{◌≡◌}
use mathlib.Core.Bool.{Bool, true, false}
use Prim.Native.Nat.{ℕ, ◌/◌, ◌≤◌}
use native.Mathlib.Omega.{arith}
use lib.Bits.{bit_xor, bit_and}
use Rattle.bits.specs.Bits.{odd, bit_val}
use Rattle.words.specs.Words.{parity, every, broadcast_word, chosen}
use Rattle.correcting_gate.specs.Steps.{sent_word}

-- a bit is at most 1
pub bit-low : (x : ℕ) (b : Bool) → x ≡ bit_val b → x ≤ 1
bit-low x true e = omega (arith, e)
bit-low x false e = omega (arith, e)

-- the broadcasts: the words u and v have masked a and masked b at each place, e the correction, h the product shares with it
pub word-done : (x y sa sb z o last q e h u v : ℕ) → q ≡ bit_val (parity 64 z) → e ≡ every 64 (odd (bit_xor (bit_and (x / 2) (y / 2)) q)) → h ≡ chosen last e z
    → u ≡ every 64 (odd x) → v ≡ every 64 (odd y) → bit_xor (bit_xor (bit_xor (bit_and u sb) (bit_and v sa)) h) o ≡ sent_word x y sa sb z o last
unfolding sent_word broadcast_word
word-done x y sa sb z o last q e h u v eq ee eh eu ev = rw (eh, ee, eq, eu, ev)
