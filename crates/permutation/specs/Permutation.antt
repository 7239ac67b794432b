-- FIPS 202, section 3: the state array, the five step mappings, the round and Keccak-f[1600].
-- The width b is 1600, so a lane has w = 64 bits and l = 6. A difference modulo m is written as a sum modulo m.
-- Assumes nothing.
use Rattle.std.specs.Prelude.{Bool, true, false, cond, ◌&&◌, List, [], ◌∷◌, ◌++◌, ℕ, zero, suc, ◌+◌, ◌-◌, ◌*◌, ◌/◌, ◌%◌, ◌^◌, eqb, get_or, set, take, replicate}
use Rattle.bits.specs.Bits.{tabulate, test_bit, from_bits, bit_at}
use Rattle.bits.specs.Bytes.{le_bytes}
use Rattle.bits.specs.Xor.{◌⊕◌}

-- 3.1: a state array: A x y z is the bit A[x, y, z], where x, y < 5 and z < w
abbrev pub StateArray : Type 0
StateArray = ℕ → ℕ → ℕ → Bool

-- Algorithm 1, step 1: C[x, z] = A[x, 0, z] ⊕ A[x, 1, z] ⊕ A[x, 2, z] ⊕ A[x, 3, z] ⊕ A[x, 4, z]
unfoldable pub column_parity : StateArray → ℕ → ℕ → Bool
column_parity A x z = A x 0 z ⊕ A x 1 z ⊕ A x 2 z ⊕ A x 3 z ⊕ A x 4 z

-- step 2: D[x, z] = C[(x - 1) mod 5, z] ⊕ C[(x + 1) mod 5, (z - 1) mod w]
unfoldable pub theta_effect : StateArray → ℕ → ℕ → Bool
theta_effect A x z = column_parity A ((x + 4) % 5) z ⊕ column_parity A ((x + 1) % 5) ((z + 63) % 64)

-- step 3: A'[x, y, z] = A[x, y, z] ⊕ D[x, z]
unfoldable pub θ : StateArray → StateArray
θ A x y z = A x y z ⊕ theta_effect A x z

-- the array A' with the lane L in place of its lane (px, py)
unfoldable pub put_lane : StateArray → ℕ → ℕ → (ℕ → Bool) → StateArray
put_lane A' px py L x y z = cond (eqb x px && eqb y py) (L z) (A' x y z)

-- Algorithm 2, step 3 for n turns, from t on at (x, y) = (px, py):
-- a. A'[x, y, z] = A[x, y, (z - (t + 1)(t + 2)/2) mod w]; b. (x, y) = (y, (2x + 3y) mod 5)
unfoldable pub rho_turns : ℕ → ℕ → ℕ → ℕ → StateArray → StateArray → StateArray
rho_turns zero t px py A A' = A'
rho_turns (suc n) t px py A A' =
    rho_turns n (t + 1) py ((2 * px + 3 * py) % 5) A
    (put_lane A' px py (λ z. A px py ((z + (64 - (t + 1) * (t + 2) / 2 % 64)) % 64)))

-- Algorithm 2: A'[0, 0, z] = A[0, 0, z], (x, y) = (1, 0), and step 3 for t from 0 to 23, which reaches every other lane
unfoldable pub ρ : StateArray → StateArray
ρ A = rho_turns 24 0 1 0 A A

-- Algorithm 3: A'[x, y, z] = A[(x + 3y) mod 5, x, z]
unfoldable pub π : StateArray → StateArray
π A x y z = A ((x + 3 * y) % 5) x z

-- Algorithm 4: A'[x, y, z] = A[x, y, z] ⊕ ((A[(x + 1) mod 5, y, z] ⊕ 1) · A[(x + 2) mod 5, y, z])
unfoldable pub χ : StateArray → StateArray
χ A x y z = A x y z ⊕ ((A ((x + 1) % 5) y z ⊕ true) && A ((x + 2) % 5) y z)

-- Algorithm 5, step 3 b to e: R[i] = R[i] ⊕ R[8]
abbrev pub tap : ℕ → List Bool → List Bool
tap i R = set R i (get_or R i false ⊕ get_or R 8 false)

-- Algorithm 5, step 3: a. R = 0 || R; b to e. taps at 0, 4, 5 and 6; f. R = Trunc8[R]
unfoldable pub shift_register : ℕ → List Bool
shift_register zero = true ∷ replicate 7 false
shift_register (suc i) = take 8 (tap 6 (tap 5 (tap 4 (tap 0 (false ∷ shift_register i)))))

-- Algorithm 5: rc(t) is R[0] after t mod 255 turns from R = 10000000 (1 if there are none)
unfoldable pub rc : ℕ → Bool
rc t = get_or (shift_register (t % 255)) 0 false

-- Algorithm 6, steps 2 and 3 for the first values of j: RC = 0^w; RC[2^j - 1] = rc(j + 7 ir)
unfoldable pub round_bits : ℕ → ℕ → List Bool
round_bits ir zero = replicate 64 false
round_bits ir (suc j) = set (round_bits ir j) (2 ^ j - 1) (rc (j + 7 * ir))

-- RC of the round ir, j from 0 to l = 6
unfoldable pub RC : ℕ → List Bool
RC ir = round_bits ir 7

-- Algorithm 6, steps 1 and 4: A'[x, y, z] = A[x, y, z], and A'[0, 0, z] = A'[0, 0, z] ⊕ RC[z]
unfoldable pub ι : StateArray → ℕ → StateArray
ι A ir = put_lane A 0 0 (λ z. A 0 0 z ⊕ get_or (RC ir) z false)

-- 3.3: Rnd(A, ir) = ι(χ(π(ρ(θ(A)))), ir)
unfoldable pub Rnd : StateArray → ℕ → StateArray
Rnd A ir = ι (χ (π (ρ (θ A)))) ir

-- Algorithm 7, step 2: the rounds ir = 0 .. n - 1
unfoldable pub rounds : ℕ → StateArray → StateArray
rounds zero A = A
rounds (suc n) A = Rnd (rounds n A) n

-- 3.1.2: A[x, y, z] = S[w(5y + x) + z], for a string S of 200 bytes with their bits lowest first (B.1)
unfoldable pub from_string : List ℕ → StateArray
from_string S x y z = bit_at S (64 * (5 * y + x) + z)

-- 3.1.3: Lane(x, y), the bits A[x, y, 0] to A[x, y, w - 1], as a number
unfoldable pub lane : StateArray → ℕ → ℕ → ℕ
lane A x y = from_bits 64 (A x y)

-- 3.1.3: the lanes in the order of the planes: Lane(0, 0), Lane(1, 0), .., Lane(4, 4)
unfoldable pub lanes : StateArray → List ℕ
lanes A = tabulate 25 (λ k. lane A (k % 5) (k / 5))

-- the bytes of lanes, one lane after the other
unfoldable pub lane_bytes : List ℕ → List ℕ
lane_bytes [] = []
lane_bytes (x ∷ xs) = le_bytes 8 x ++ lane_bytes xs

-- 3.1.3: S = Plane(0) || .. || Plane(4)
unfoldable pub to_string : StateArray → List ℕ
to_string A = lane_bytes (lanes A)

-- 3.4: Keccak-f[1600] = Keccak-p[1600, 24], on strings of 200 bytes
unfoldable pub keccak_f : List ℕ → List ℕ
keccak_f S = to_string (rounds 24 (from_string S))

-- the state array of 25 lanes
unfoldable pub lane_array : List ℕ → StateArray
lane_array a x y z = test_bit (get_or a (5 * y + x) 0) z
