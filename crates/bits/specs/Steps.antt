-- What only the contracts of steps and the laws on bits use: no definition of the paper stands here.
-- Assumes nothing.
use Rattle.std.specs.Prelude.{Bool, false, cond, List, [], ◌∷◌, ℕ, ◌+◌, ◌-◌, ◌*◌, ◌/◌, ◌%◌, ◌^◌, eqb, get_or, set}
use Rattle.bits.specs.Bits.{bit_val, test_bit}
use Rattle.bits.specs.Xor.{◌⊕◌}

-- the byte string with bit k put to b; unchanged if it has no such bit
unfoldable pub put_bit : List ℕ → ℕ → Bool → List ℕ
put_bit s k b =
    let x : ℕ = get_or s (k / 8) 0 in
    set s (k / 8) (x - bit_val (test_bit x (k % 8)) * 2 ^ (k % 8) + bit_val b * 2 ^ (k % 8))

-- the XOR of a list's bits
unfoldable pub xor_all : List Bool → Bool
xor_all [] = false
xor_all (b ∷ bs) = b ⊕ xor_all bs

-- f, with false at place i
unfoldable pub without : ℕ → (ℕ → Bool) → ℕ → Bool
without i f j = cond (eqb j i) false (f j)
