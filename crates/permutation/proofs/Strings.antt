-- The permutation on lanes is the standard's Keccak-f[1600] on strings: the bytes of the one's result are the other's.
-- Assumes nothing.
use mathlib.Core.Path.{◌≡◌, refl, sym, ap, ap₂, ◌∙◌}
use mathlib.Core.List.{List, [], ◌∷◌, ◌++◌}
use mathlib.Core.Logic.{⊎_elim}
use Prim.Native.Nat.{ℕ, suc, ◌+◌, ◌-◌, ◌*◌, ◌/◌, ◌%◌, ◌^◌, ◌<◌}
use native.Mathlib.Omega.{arith}
use lib.ListN.{length, get_or, length-append, get_or-append}
use lib.Seq.{get_or-append-add}
use Rattle.bits.specs.Bits.{test_bit, bit_at}
use Rattle.bits.specs.Bytes.{le_bytes}
use Rattle.bits.proofs.Little.{pow-bytes, length-le_bytes, get_or-le_bytes}
use Rattle.bits.proofs.Numbers.{lt-or-le, test_bit-mod, test_bit-shr}
use Rattle.permutation.specs.Permutation.{rounds, from_string, lanes, lane_bytes, to_string, keccak_f, lane_array}
use Rattle.permutation.proofs.Agree.{Agree, lanes-cong, rounds-cong}

-- a lane is 8 bytes
pub length-lane_bytes : (l : List ℕ) → length (lane_bytes l) ≡ 8 * length l
unfolding lane_bytes
length-lane_bytes [] = refl
length-lane_bytes (x ∷ xs) = omega (arith, length-append (le_bytes 8 x) (lane_bytes xs), length-le_bytes 8 x, length-lane_bytes xs)

-- byte k is byte k % 8 of lane k / 8
pub get_or-lane_bytes : (l : List ℕ) (k : ℕ) → k < 8 * length l → get_or (lane_bytes l) k 0 ≡ get_or l (k / 8) 0 / 256 ^ (k % 8) % 256
unfolding lane_bytes
get_or-lane_bytes [] k h = absurd (omega arith)
get_or-lane_bytes (x ∷ xs) k h =
    let part : ℕ → ℕ → ℕ = λ i j. get_or (x ∷ xs) i 0 / 256 ^ j % 256 in
    let m = k - 8 in
    ⊎_elim
    (λ lt.
    let inside : k < length (le_bytes 8 x) = omega (arith, length-le_bytes 8 x) in
    let p : 0 ≡ k / 8 = omega arith in
    let q : k ≡ k % 8 = omega arith in
    get_or-append (le_bytes 8 x) (lane_bytes xs) 0 k inside ∙ get_or-le_bytes 8 x k lt ∙ ap₂ part p q)
    (λ ge.
    let e : k ≡ length (le_bytes 8 x) + m = omega (arith, length-le_bytes 8 x) in
    let p : suc (m / 8) ≡ k / 8 = omega arith in
    let q : m % 8 ≡ k % 8 = omega arith in
    ap (λ (i : ℕ). get_or (le_bytes 8 x ++ lane_bytes xs) i 0) e ∙ get_or-append-add (le_bytes 8 x) (lane_bytes xs) m 0
    ∙ get_or-lane_bytes xs m (omega arith) ∙ ap₂ part p q)
    (lt-or-le k 8)

-- bit z of a number is bit z % 8 of its byte z / 8
byte-bit : (x z : ℕ) → test_bit (x / 256 ^ (z / 8) % 256) (z % 8) ≡ test_bit x z
byte-bit x z =
    let e : 8 * (z / 8) + z % 8 ≡ z = omega arith in
    test_bit-mod (x / 256 ^ (z / 8)) 8 (z % 8) (omega arith) ∙ ap (λ (n : ℕ). test_bit (x / n) (z % 8)) (pow-bytes (z / 8))
    ∙ test_bit-shr x (8 * (z / 8)) (z % 8) ∙ ap (test_bit x) e

-- the string of 25 lanes and the lanes are the same state array
pub array-string : (a : List ℕ) → length a ≡ 25 → Agree (from_string (lane_bytes a)) (lane_array a)
unfolding from_string lane_array bit_at
array-string a len x y z hx hy hz =
    let n = 64 * (5 * y + x) + z in
    let p : n / 8 / 8 ≡ 5 * y + x = omega arith in
    let q : n / 8 % 8 ≡ z / 8 = omega arith in
    let r : n % 8 ≡ z % 8 = omega arith in
    ap₂ test_bit (get_or-lane_bytes a (n / 8) (omega arith) ∙ ap₂ (λ (i j : ℕ). get_or a i 0 / 256 ^ j % 256) p q) r
    ∙ byte-bit (get_or a (5 * y + x) 0) z

-- Keccak-f[1600] on the string of 25 lanes
pub keccak_f-lanes : (a : List ℕ) → length a ≡ 25 → lane_bytes (lanes (rounds 24 (lane_array a))) ≡ keccak_f (lane_bytes a)
unfolding keccak_f to_string
keccak_f-lanes a len =
    sym (ap lane_bytes (lanes-cong (rounds 24 (from_string (lane_bytes a))) (rounds 24 (lane_array a))
    (rounds-cong 24 (from_string (lane_bytes a)) (lane_array a) (array-string a len))))
