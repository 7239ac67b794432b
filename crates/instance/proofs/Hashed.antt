-- What a sponge gives is bytes, whatever it takes in; so is every digest.
-- Assumes nothing.
use mathlib.Core.List.{List, [], ◌∷◌, ◌++◌}
use Prim.Native.Nat.{ℕ, zero, suc, ◌+◌, ◌/◌}
use native.Mathlib.Omega.{arith}
use lib.ListN.{length, take, drop, replicate}
use Rattle.bits.specs.Bytes.{le_bytes}
use Rattle.bits.proofs.Little.{le_bytes-lt}
use Rattle.permutation.specs.Permutation.{rounds, from_string, lanes, lane_bytes, to_string, keccak_f}
use Rattle.keccak.specs.Sponge.{xor_into, absorb_blocks, squeeze_blocks, padding, sponge, sha3_256, shake128, shake256}
use Rattle.keccak.proofs.Absorbing.{Bytes}
use Rattle.hashing.proofs.Hashes.{bytes-append}

-- the string of lanes
lanes_bytes : (l : List ℕ) → Bytes (lane_bytes l)
unfolding lane_bytes
lanes_bytes [] i = omega arith
lanes_bytes (x ∷ l) i = bytes-append (le_bytes 8 x) (lane_bytes l) (le_bytes-lt 8 x) (lanes_bytes l) i

-- what the permutation leaves
keccak-bytes : (S : List ℕ) → Bytes (keccak_f S)
unfolding keccak_f to_string
keccak-bytes S = lanes_bytes (lanes (rounds 24 (from_string S)))

-- zeros
zero-bytes : (k : ℕ) → Bytes (replicate k 0)
zero-bytes zero i = omega arith
zero-bytes (suc k) zero = omega arith
zero-bytes (suc k) (suc i) = zero-bytes k i

-- the front of a string
pub front_bytes : (k : ℕ) (s : List ℕ) → Bytes s → Bytes (take k s)
front_bytes zero s h i = omega arith
front_bytes (suc k) [] h i = omega arith
front_bytes (suc k) (x ∷ s) h zero = h 0
front_bytes (suc k) (x ∷ s) h (suc i) = front_bytes k s (λ t. h (suc t)) i

-- absorbing
absorb-bytes : (r n : ℕ) (S P : List ℕ) → Bytes S → Bytes (absorb_blocks r n S P)
unfolding absorb_blocks
absorb-bytes r zero S P h = h
absorb-bytes r (suc n) S P h = absorb-bytes r n (keccak_f (xor_into S (take r P))) (drop r P) (keccak-bytes (xor_into S (take r P)))

-- squeezing
squeeze-bytes : (r n : ℕ) (S : List ℕ) → Bytes S → Bytes (squeeze_blocks r n S)
unfolding squeeze_blocks
squeeze-bytes r zero S h i = omega arith
squeeze-bytes r (suc n) S h i =
    bytes-append (take r S) (squeeze_blocks r n (keccak_f S)) (front_bytes r S h) (squeeze-bytes r n (keccak_f S) (keccak-bytes S)) i

-- the sponge construction
pub sponge-bytes : (r first : ℕ) (M : List ℕ) (d : ℕ) → Bytes (sponge r first M d)
unfolding sponge
sponge-bytes r first M d =
    let P : List ℕ = M ++ padding r first (length M) in
    let S : List ℕ = absorb_blocks r (length P / r) (replicate 200 0) P in
    front_bytes d (squeeze_blocks r (d / r + 1) S) (squeeze-bytes r (d / r + 1) S (absorb-bytes r (length P / r) (replicate 200 0) P (zero-bytes 200)))

-- the three functions
pub sha3-bytes : (M : List ℕ) → Bytes (sha3_256 M)
unfolding sha3_256
sha3-bytes M = sponge-bytes 136 0x06 M 32

pub shake128-bytes : (M : List ℕ) (d : ℕ) → Bytes (shake128 M d)
unfolding shake128
shake128-bytes M d = sponge-bytes 168 0x1f M d

pub shake256-bytes : (M : List ℕ) (d : ℕ) → Bytes (shake256 M d)
unfolding shake256
shake256-bytes M d = sponge-bytes 136 0x1f M d
