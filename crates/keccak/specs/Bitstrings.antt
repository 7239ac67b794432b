-- FIPS 202 on bit strings, in the standard's own order: the string of a state array, KECCAK_p[1600, 24], the sponge construction,
-- pad10*1, KECCAK[c], SHA3-256, SHAKE128 and SHAKE256, and the conversion from and to byte strings.
-- A bit string is the list of its bits, X || Y is X ++ Y, and len(X) is length X. The width b is 1600, so w = 64 and l = 6.
-- The step mappings and the rounds on state arrays are Permutation's. The statements of the theorems stand at the end.
-- Assumes nothing.
use Rattle.std.specs.Prelude.{Bool, true, false, cond, ◌≡◌, ℕ, zero, suc, ◌+◌, ◌-◌, ◌*◌, ◌/◌, ◌%◌, ◌≤◌, ◌<◌, leb, length, get_or, take, drop, replicate}
use mathlib.Core.List.{List, [], ◌∷◌, ◌++◌, zip_with}
use Rattle.bits.specs.Bits.{tabulate, pack, unpack}
use Rattle.bits.specs.Xor.{◌⊕◌}
use Rattle.permutation.specs.Permutation.{StateArray, rounds}
use Rattle.keccak.specs.Sponge.{sha3_256, shake128, shake256}

-- 2.3: 0^s, the string of s zeros
abbrev pub zeros : ℕ → List Bool
zeros s = replicate s false

-- 2.3: Trunc_s(X), the bits X[0] to X[s - 1]
abbrev pub Trunc : ℕ → List Bool → List Bool
Trunc s X = take s X

-- 2.3: X ⊕ Y, the XOR at each position of two strings of equal length
abbrev pub xor_bits : List Bool → List Bool → List Bool
xor_bits X Y = zip_with ◌⊕◌ X Y

-- 3.1.2: A[x, y, z] = S[w(5y + x) + z]
unfoldable pub from_bit_string : List Bool → StateArray
from_bit_string S x y z = get_or S (64 * (5 * y + x) + z) false

-- 3.1.3: Lane(i, j) = A[i, j, 0] || A[i, j, 1] || .. || A[i, j, w - 1]
unfoldable pub Lane : StateArray → ℕ → ℕ → List Bool
Lane A i j = tabulate 64 (A i j)

-- 3.1.3: Plane(j) = Lane(0, j) || Lane(1, j) || Lane(2, j) || Lane(3, j) || Lane(4, j)
unfoldable pub Plane : StateArray → ℕ → List Bool
Plane A j = Lane A 0 j ++ Lane A 1 j ++ Lane A 2 j ++ Lane A 3 j ++ Lane A 4 j

-- 3.1.3: S = Plane(0) || Plane(1) || Plane(2) || Plane(3) || Plane(4)
unfoldable pub to_bit_string : StateArray → List Bool
to_bit_string A = Plane A 0 ++ Plane A 1 ++ Plane A 2 ++ Plane A 3 ++ Plane A 4

-- Algorithm 7: KECCAK_p[1600, 24](S), the rounds ir = 12 + 2l - 24 = 0 to 12 + 2l - 1 = 23 on the state array of S
unfoldable pub KECCAK_p : List Bool → List Bool
KECCAK_p S = to_bit_string (rounds 24 (from_bit_string S))

-- Algorithm 8, step 4: P_i, of the strings of length r such that P = P_0 || .. || P_(n - 1)
unfoldable pub block_of : ℕ → List Bool → ℕ → List Bool
block_of r P i = take r (drop (r * i) P)

-- Algorithm 8, steps 5 and 6: S = 0^b; for i from 0 to n - 1, S = f(S ⊕ (P_i || 0^c))
unfoldable pub absorb : (List Bool → List Bool) → ℕ → ℕ → List Bool → ℕ → List Bool
absorb f r c P zero = zeros 1600
absorb f r c P (suc i) = f (xor_bits (absorb f r c P i) (block_of r P i ++ zeros c))

-- Algorithm 8, steps 8 to 10, at most n turns: Z = Z || Trunc_r(S); if d ≤ |Z|, return Trunc_d(Z); else S = f(S), and step 8
unfoldable pub squeeze : (List Bool → List Bool) → ℕ → ℕ → ℕ → List Bool → List Bool → List Bool
squeeze f r d zero Z S = Trunc d Z
squeeze f r d (suc n) Z S =
    let Z' : List Bool = Z ++ Trunc r S in
    cond (leb d (length Z')) (Trunc d Z') (squeeze f r d n Z' (f S))

-- Algorithm 8: SPONGE[f, pad, r](N, d); each turn of steps 8 to 10 adds r bits to Z, so d / r + 1 turns are surely enough
unfoldable pub SPONGE : (List Bool → List Bool) → (ℕ → ℕ → List Bool) → ℕ → List Bool → ℕ → List Bool
SPONGE f pad r N d =
    let P : List Bool = N ++ pad r (length N) in
    let n : ℕ = length P / r in
    let c : ℕ = 1600 - r in
    squeeze f r d (d / r + 1) [] (absorb f r c P n)

-- 5.1, Algorithm 9: pad10*1(x, m) = 1 || 0^j || 1 with j = (-m - 2) mod x; modulo x, -m - 2 is x - ((m + 2) mod x)
unfoldable pub pad10*1 : ℕ → ℕ → List Bool
pad10*1 x m =
    let j : ℕ = (x - (m + 2) % x) % x in
    (true ∷ []) ++ zeros j ++ (true ∷ [])

-- 5.2: KECCAK[c](N, d) = SPONGE[KECCAK_p[1600, 24], pad10*1, 1600 - c](N, d)
unfoldable pub KECCAK : ℕ → List Bool → ℕ → List Bool
KECCAK c N d = SPONGE KECCAK_p pad10*1 (1600 - c) N d

-- 6.1: SHA3-256(M) = KECCAK[512](M || 01, 256)
unfoldable pub SHA3-256 : List Bool → List Bool
SHA3-256 M = KECCAK 512 (M ++ (false ∷ true ∷ [])) 256

-- 6.2: SHAKE128(M, d) = KECCAK[256](M || 1111, d)
unfoldable pub SHAKE128 : List Bool → ℕ → List Bool
SHAKE128 M d = KECCAK 256 (M ++ (true ∷ true ∷ true ∷ true ∷ [])) d

-- 6.2: SHAKE256(M, d) = KECCAK[512](M || 1111, d)
unfoldable pub SHAKE256 : List Bool → ℕ → List Bool
SHAKE256 M d = KECCAK 512 (M ++ (true ∷ true ∷ true ∷ true ∷ [])) d

-- B.1, Algorithm 10: h2b(H, 8m) for a string H of m bytes; T[8i + j] is the bit of byte i that counts 2^j
unfoldable pub h2b : List ℕ → List Bool
h2b H = unpack (8 * length H) H

-- B.1, Algorithm 11: b2h(S) as bytes; byte i is the sum of T[8i + j] 2^j for j < 8, where T = S || 0^(-n mod 8), n = len(S)
unfoldable pub b2h : List Bool → List ℕ
b2h S = pack S

-- ---- the statements of the theorems: the functions on byte strings of Sponge.antt are the standard's on bit strings

-- SHA3-256, on the bytes of every message
abbrev pub SHA3_256_on_bytes : Type 0
SHA3_256_on_bytes = (M : List ℕ) → sha3_256 M ≡ b2h (SHA3-256 (h2b M))

-- SHAKE128, on the bytes of every message, d bytes of output
abbrev pub SHAKE128_on_bytes : Type 0
SHAKE128_on_bytes = (M : List ℕ) (d : ℕ) → shake128 M d ≡ b2h (SHAKE128 (h2b M) (8 * d))

-- SHAKE256, on the bytes of every message, d bytes of output
abbrev pub SHAKE256_on_bytes : Type 0
SHAKE256_on_bytes = (M : List ℕ) (d : ℕ) → shake256 M d ≡ b2h (SHAKE256 (h2b M) (8 * d))

-- Algorithm 9's output: m + len(P) is a multiple of x
abbrev pub PadMultiple : Type 0
PadMultiple = (x m : ℕ) → 0 < x → (m + length (pad10*1 x m)) % x ≡ 0

-- Algorithm 8: more than d / r + 1 turns of steps 8 to 10 change nothing
abbrev pub TurnsEnough : Type 0
TurnsEnough =
    (f : List Bool → List Bool) (r d : ℕ) → ((S : List Bool) → r ≤ length (f S))
    → (m : ℕ) → 0 < r → d / r + 1 ≤ m → (S : List Bool) → r ≤ length S → squeeze f r d m [] S ≡ squeeze f r d (d / r + 1) [] S
