-- FIPS 202, sections 4 to 6: the sponge construction, and the three functions on byte strings.
-- Strings are byte strings (B.1), so a rate r and a length d are in bytes here, and the padding is B.2's.
-- Assumes nothing.
use Rattle.std.specs.Prelude.{cond, List, [], ◌∷◌, ◌++◌, ℕ, zero, suc, ◌+◌, ◌-◌, ◌/◌, ◌%◌, eqb, length, take, drop, replicate}
use Rattle.std.specs.Int.Bits.{bit_xor}
use Rattle.permutation.specs.Permutation.{keccak_f}

-- S ⊕ (P || 0^c): the bytes of P XORed into the first bytes of S
unfoldable pub xor_into : List ℕ → List ℕ → List ℕ
xor_into S [] = S
xor_into [] (p ∷ P) = []
xor_into (s ∷ S) (p ∷ P) = bit_xor s p ∷ xor_into S P

-- Algorithm 8, step 6, for n blocks of P: S = f(S ⊕ (Pi || 0^c))
unfoldable pub absorb_blocks : ℕ → ℕ → List ℕ → List ℕ → List ℕ
absorb_blocks r zero S P = S
absorb_blocks r (suc n) S P = absorb_blocks r n (keccak_f (xor_into S (take r P))) (drop r P)

-- steps 7 to 10, for n blocks: Z = Z || Trunc_r(S); S = f(S)
unfoldable pub squeeze_blocks : ℕ → ℕ → List ℕ → List ℕ
squeeze_blocks r zero S = []
squeeze_blocks r (suc n) S = take r S ++ squeeze_blocks r n (keccak_f S)

-- B.2: the q = r - (m mod r) bytes after a message of m bytes. The first has the suffix and the first bit of
-- pad10*1, the last the last bit of pad10*1; they are one byte if q = 1
unfoldable pub padding : ℕ → ℕ → ℕ → List ℕ
padding r first m =
    let q : ℕ = r - m % r in
    cond (eqb q 1) ((first + 0x80) ∷ []) (first ∷ (replicate (q - 2) 0 ++ (0x80 ∷ [])))

-- Algorithm 8: P = N || pad; absorb len(P)/r blocks from S = 0^b; squeeze blocks until d bytes are there; Trunc_d
unfoldable pub sponge : ℕ → ℕ → List ℕ → ℕ → List ℕ
sponge r first M d =
    let P : List ℕ = M ++ padding r first (length M) in
    take d (squeeze_blocks r (d / r + 1) (absorb_blocks r (length P / r) (replicate 200 0) P))

-- 6.1: SHA3-256(M) = KECCAK[512](M || 01, 256): r = 1088 bits, first byte of the padding 01 1 00000
unfoldable pub sha3_256 : List ℕ → List ℕ
sha3_256 M = sponge 136 0x06 M 32

-- 6.2: SHAKE128(M, d) = KECCAK[256](M || 1111, d): r = 1344 bits, first byte of the padding 1111 1 000
unfoldable pub shake128 : List ℕ → ℕ → List ℕ
shake128 M d = sponge 168 0x1f M d

-- 6.2: SHAKE256(M, d) = KECCAK[512](M || 1111, d): r = 1088 bits
unfoldable pub shake256 : List ℕ → ℕ → List ℕ
shake256 M d = sponge 136 0x1f M d
