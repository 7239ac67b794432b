-- The lengths of the state, of the blocks and of what a sponge gives.
-- Assumes nothing.
use native.Mathlib.Omega.{arith}
use native.Mathlib.Nat.{suc-mul, lt-div-mul-add, add-mul, one-mul}
use mathlib.Core.Path.{◌≡◌, ap, ◌∙◌}
use mathlib.Core.List.{List, ◌++◌}
use Prim.Native.Nat.{ℕ, zero, suc, ◌+◌, ◌*◌, ◌/◌, ◌≤◌, ◌<◌}
use lib.ListN.{length, take, drop, replicate, length-append, length-replicate}
use lib.Seq.{length-take-le}
use Rattle.permutation.specs.Permutation.{rounds, from_string, lanes, to_string, keccak_f}
use Rattle.permutation.proofs.Strings.{length-lane_bytes}
use Rattle.permutation.proofs.Agree.{length-lanes}
use Rattle.keccak.specs.Sponge.{xor_into, absorb_blocks, squeeze_blocks, padding, sponge, sha3_256, shake128, shake256}

-- Keccak-f[1600] leaves 200 bytes
pub length-keccak : (S : List ℕ) → length (keccak_f S) ≡ 200
unfolding keccak_f to_string
length-keccak S = let A = rounds 24 (from_string S) in length-lane_bytes (lanes A) ∙ ap (λ (n : ℕ). 8 * n) (length-lanes A)

-- absorbing keeps the state's length
pub length-absorb : (r n : ℕ) (S P : List ℕ) → length S ≡ 200 → length (absorb_blocks r n S P) ≡ 200
unfolding absorb_blocks
length-absorb r zero S P e = e
length-absorb r (suc n) S P e = length-absorb r n (keccak_f (xor_into S (take r P))) (drop r P) (length-keccak (xor_into S (take r P)))

-- n blocks of r bytes
length-blocks : (r n : ℕ) (S : List ℕ) → r ≤ 200 → length S ≡ 200 → length (squeeze_blocks r n S) ≡ n * r
unfolding squeeze_blocks
length-blocks r zero S h e = omega arith
length-blocks r (suc n) S h e =
    length-append (take r S) (squeeze_blocks r n (keccak_f S))
    ∙ omega (arith, length-take-le r S (omega arith), length-blocks r n (keccak_f S) h (length-keccak S), suc-mul n r)

-- a sponge gives as many bytes as are asked for
pub length-sponge : (r first : ℕ) (M : List ℕ) (d : ℕ) → 0 < r → r ≤ 200 → length (sponge r first M d) ≡ d
unfolding sponge
length-sponge r first M d some h =
    let P : List ℕ = M ++ padding r first (length M) in
    let S : List ℕ = absorb_blocks r (length P / r) (replicate 200 0) P in
    let e : length S ≡ 200 = length-absorb r (length P / r) (replicate 200 0) P (length-replicate {A = ℕ} 200 0) in
    let f : (d / r + 1) * r ≡ d / r * r + 1 * r = add-mul (d / r) 1 r in
    length-take-le d (squeeze_blocks r (d / r + 1) S)
    (rw (length-blocks r (d / r + 1) S h e, f, one-mul r) (omega (arith, lt-div-mul-add {a = d} {b = r} some)))

pub length-shake128 : (M : List ℕ) (d : ℕ) → length (shake128 M d) ≡ d
unfolding shake128
length-shake128 M d = length-sponge 168 0x1f M d (omega arith) (omega arith)

pub length-shake256 : (M : List ℕ) (d : ℕ) → length (shake256 M d) ≡ d
unfolding shake256
length-shake256 M d = length-sponge 136 0x1f M d (omega arith) (omega arith)

pub length-sha3-256 : (M : List ℕ) → length (sha3_256 M) ≡ 32
unfolding sha3_256
length-sha3-256 M = length-sponge 136 0x06 M 32 (omega arith) (omega arith)
