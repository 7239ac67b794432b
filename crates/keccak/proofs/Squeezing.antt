-- Squeezing byte by byte makes the standard's squeezing phase; and so the steps make the three functions.
-- Assumes nothing.
use mathlib.Core.Path.{◌≡◌, refl, sym, ap, ap₂, ◌∙◌}
use mathlib.Core.List.{List, ◌∷◌, ◌++◌}
use mathlib.Core.Logic.{⊎_elim}
use Prim.Native.Nat.{ℕ, zero, suc, ◌+◌, ◌*◌, ◌/◌, ◌%◌, ◌≤◌, ◌<◌}
use native.Mathlib.Nat.{eq-or-lt_of_le, suc-mul, div-add-mod', mod-lt}
use native.Mathlib.Numerals.{add-one}
use native.Mathlib.Omega.{arith}
use lib.ListN.{length, get_or, take, drop, replicate, get_or-replicate, get_or-eq_default}
use lib.Seq.{drop-cons, drop-length, get_or-take, length-take-le}
use Rattle.bits.specs.Bytes.{le_bytes}
use Rattle.bits.proofs.Numbers.{lt-or-le}
use Rattle.keccak.specs.declared.sponge.Sponge.{Sponge}
use Rattle.permutation.specs.Permutation.{lane_bytes, keccak_f}
use Rattle.keccak.specs.Sponge.{absorb_blocks, squeeze_blocks, padding, sponge, sha3_256, shake128, shake256}
use Rattle.keccak.specs.Steps.{permuted, byte_at, empty, absorbs, padded, squeeze_byte, squeezes}
use Rattle.keccak.proofs.Absorbing.{State, Bytes, byte-is, permuted-state, absorbed, padded-length}
use Rattle.keccak.proofs.Steps.{turned-part}
use Rattle.keccak.proofs.Blocks.{next-bytes}
use Rattle.permutation.proofs.Strings.{length-lane_bytes, keccak_f-lanes}

module _ (r : ℕ) (some : 0 < r) (below : r < 200) where
  -- the rest of the block from byte j on, and n blocks more
  rest : List ℕ → ℕ → ℕ → List ℕ
  rest S j n = drop j (take r S) ++ squeeze_blocks r n (keccak_f S)

  -- before the first byte
  rest-start : (S : List ℕ) (n : ℕ) → rest S 0 n ≡ squeeze_blocks r (suc n) S
  unfolding rest squeeze_blocks
  rest-start S n = refl

  -- a byte that the block still has
  squeeze-within : (d : ℕ) (l : List ℕ) (j n : ℕ) → State l → j < r
      → squeezes r d (record { lanes = l; fill = j + 1 }) ≡ take d (rest (lane_bytes l) (j + 1) n)
      → squeezes r (suc d) (record { lanes = l; fill = j }) ≡ take (suc d) (rest (lane_bytes l) j n)
  unfolding squeezes squeeze_byte rest
  squeeze-within d l j n st h ih =
      let S : List ℕ = lane_bytes l in
      let m : length S ≡ 200 = length-lane_bytes l ∙ ap (λ (x : ℕ). 8 * x) st.long in
      let k : length (take r S) ≡ r = length-take-le r S (omega arith) in
      let b : get_or (take r S) j 0 ≡ byte_at l j = get_or-take r S j 0 h ∙ byte-is l j (omega (arith, length-lane_bytes l)) in
      ap (λ (t : Sponge). byte_at t.lanes t.fill ∷ squeezes r d (record { lanes = t.lanes; fill = t.fill + 1 }))
      (turned-part r (record { lanes = l; fill = j }) h)
      ∙ ap₂ (λ (x : ℕ) (X : List ℕ). x ∷ X) (sym b) (ih ∙ rw add-one)
      ∙ ap (λ (X : List ℕ). take (suc d) (X ++ squeeze_blocks r n (keccak_f S))) (sym (drop-cons (take r S) j 0 (omega arith)))

  -- the blocks that follow a finished one
  rest-turn : (S : List ℕ) (n : ℕ) → length S ≡ 200 → rest S r (suc n) ≡ rest (keccak_f S) 0 n
  unfolding rest squeeze_blocks
  rest-turn S n m =
      let k : length (take r S) ≡ r = length-take-le r S (omega arith) in
      ap (λ (X : List ℕ). X ++ (take r (keccak_f S) ++ squeeze_blocks r n (keccak_f (keccak_f S))))
      (ap (λ (x : ℕ). drop x (take r S)) (sym k) ∙ drop-length (take r S))

  -- the next d bytes, where the rest of the block and n blocks more are enough
  squeeze-bytes : (d : ℕ) (l : List ℕ) (j n : ℕ) → State l → j ≤ r → d + j ≤ r + n * r
      → squeezes r d (record { lanes = l; fill = j }) ≡ take d (rest (lane_bytes l) j n)
  unfolding squeezes
  squeeze-bytes zero l j n st h e = refl
  squeeze-bytes (suc d) l j zero st h e = squeeze-within d l j zero st (omega arith) (squeeze-bytes d l (j + 1) zero st (omega arith) (omega arith))
  squeeze-bytes (suc d) l j (suc n) st h e =
      ⊎_elim
      (λ q.
      let k : length (lane_bytes l) ≡ 200 = length-lane_bytes l ∙ ap (λ (x : ℕ). 8 * x) st.long in
      let p = permuted-state l in
      let b : lane_bytes (permuted l) ≡ keccak_f (lane_bytes l) = keccak_f-lanes l st.long in
      rw q
      (next-bytes r some (suc d) l
      ∙ squeeze-within d (permuted l) 0 n p some
      (squeeze-bytes d (permuted l) (0 + 1) n p (omega arith) (omega (arith, suc-mul n r)))
      ∙ ap (λ (S : List ℕ). take (suc d) (rest S 0 n)) b
      ∙ ap (take (suc d)) (sym (rest-turn (lane_bytes l) n k))))
      (λ lt. squeeze-within d l j (suc n) st lt (squeeze-bytes d l (j + 1) (suc n) st (omega arith) (omega arith)))
      (eq-or-lt_of_le h)

-- the string of an empty sponge is 0^b
empty-bytes : lane_bytes (replicate 25 0) ≡ replicate 200 0
unfolding lane_bytes le_bytes
empty-bytes = refl

empty-state : State (replicate 25 0)
empty-state =
    record {
      long = refl;
      small = λ k.
          ⊎_elim (λ h. rw (get_or-replicate {A = ℕ} 25 k 0 0 h) (omega arith)) (λ h. rw (get_or-eq_default {A = ℕ} (replicate 25 0) 0 {n = k} h) (omega arith))
          (lt-or-le k 25);
    }

-- a message taken in, padded, and d bytes given out: the sponge construction.
-- With `absorbs-append`, a message that is taken in by parts is their concatenation
pub steps-sponge : (r first : ℕ) (M : List ℕ) (d : ℕ) → 0 < r → r < 200 → first < 128 → Bytes M
    → squeezes r d (padded r first (absorbs r empty M)) ≡ sponge r first M d
unfolding empty sponge
steps-sponge r first M d some below small h =
    let n : ℕ = length M / r in
    let P : List ℕ = M ++ padding r first (length M) in
    let e : n * r + length M % r ≡ length M = div-add-mod' (length M) r in
    let lt : length M % r < r = mod-lt (length M) some in
    let a = absorbed r first some below small n M (replicate 25 0) empty-state h (omega arith) (omega arith) in
    let S : List ℕ = lane_bytes a.0 in
    let ed : d / r * r + d % r ≡ d = div-add-mod' d r in
    let ltd : d % r < r = mod-lt d some in
    let blocks : length P / r ≡ suc n = padded-length r first some below small n M (omega arith) (omega arith) in
    let start : S ≡ absorb_blocks r (length P / r) (replicate 200 0) P =
    a.3 ∙ ap₂ (λ (k : ℕ) (X : List ℕ). absorb_blocks r k X P) (sym blocks) empty-bytes in
    ap (squeezes r d) a.1
    ∙ squeeze-bytes r some below d a.0 0 (d / r) a.2 (omega arith) (omega arith)
    ∙ ap (take d) (rest-start r some below S (d / r) ∙ ap (λ (k : ℕ). squeeze_blocks r k S) (sym (add-one (d / r))))
    ∙ ap (λ (X : List ℕ). take d (squeeze_blocks r (d / r + 1) X)) start

-- the steps of SHA3-256
pub sha3-256-steps : (M : List ℕ) → Bytes M → squeezes 136 32 (padded 136 0x06 (absorbs 136 empty M)) ≡ sha3_256 M
unfolding sha3_256
sha3-256-steps M h = steps-sponge 136 0x06 M 32 (omega arith) (omega arith) (omega arith) h

-- the steps of SHAKE128
pub shake128-steps : (M : List ℕ) (d : ℕ) → Bytes M → squeezes 168 d (padded 168 0x1f (absorbs 168 empty M)) ≡ shake128 M d
unfolding shake128
shake128-steps M d h = steps-sponge 168 0x1f M d (omega arith) (omega arith) (omega arith) h

-- the steps of SHAKE256
pub shake256-steps : (M : List ℕ) (d : ℕ) → Bytes M → squeezes 136 d (padded 136 0x1f (absorbs 136 empty M)) ≡ shake256 M d
unfolding shake256
shake256-steps M d h = steps-sponge 136 0x1f M d (omega arith) (omega arith) (omega arith) h
