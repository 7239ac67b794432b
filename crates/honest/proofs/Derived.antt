-- What the leaves of an instance give: rows of seeds, and the parties' tapes.
-- Assumes nothing.
use mathlib.Core.Path.{◌≡◌, refl, ◌∙◌}
use mathlib.Core.Bool.{Bool, true, false, cond}
use mathlib.Core.List.{List, [], ◌∷◌, flatten}
use mathlib.Core.Logic.{◌≢◌}
use Prim.Native.Nat.{ℕ, zero, suc, ◌-◌, ◌*◌, ◌^◌, ◌≤◌, ◌<◌, min}
use native.Mathlib.Nat.{mod-lt}
use native.Mathlib.Omega.{arith}
use borrow.Author.Tests.{ne_eqb}
use lib.Dec.{eqb}
use lib.ListN.{length, replicate, length-replicate}
use lib.Pow.{pow_pos, pow_mono}
use Rattle.hashing.specs.declared.Context.{Context}
use Rattle.bits.specs.Bits.{tabulate}
use Rattle.bits.specs.Bytes.{row_of}
use Rattle.bits.proofs.Rows.{row-tabulate}
use Rattle.keccak.proofs.Absorbing.{Bytes}
use Rattle.keccak.proofs.Lengths.{length-shake128}
use Rattle.circuit.specs.Circuit.{Circuit}
use Rattle.plain.specs.Tapes.{row_bytes, tape_row, used_bits, unused_rows}
use Rattle.hiding.specs.Hiding.{Tapes}
use Rattle.party.specs.Derive.{seed_row, clear_from}
use Rattle.party.specs.Derive as derive
use Rattle.hashing.proofs.Hashes.{bytes-append}
use Rattle.party.proofs.Clearing.{length-tape, tape-unused}
use Rattle.instance.specs.Instance.{seeds_of, seeds_but, seed_of, tapes_of}
use Rattle.proof.proofs.Places.{length-rows}
use Rattle.proof.proofs.Passing.{and-true}

-- n rows of bytes are bytes
bytes-rows : (n : ℕ) (f : ℕ → List ℕ) → ((i : ℕ) → Bytes (f i)) → Bytes (flatten (tabulate n f))
unfolding flatten
bytes-rows zero f h k = omega arith
bytes-rows (suc n) f h k = bytes-append (f 0) _ (h 0) (bytes-rows n (λ i. f (suc i)) (λ i. h (suc i))) k

-- what is cleared is bytes
clear-bytes : (k : ℕ) (s : List ℕ) → Bytes (clear_from k s)
unfolding clear_from
clear-bytes k [] m = omega arith
clear-bytes k (x ∷ s) zero =
    let small : 2 ^ min k 8 ≤ 2 ^ 8 = pow_mono {i = min k 8} {j = 8} (omega arith) in
    omega (arith, mod-lt x (pow_pos (min k 8)))
clear-bytes k (x ∷ s) (suc m) = clear-bytes (k - 8) s m

-- a tape is bytes
tape-bytes : (j : Context) (i : ℕ) (seed : List ℕ) (k len : ℕ) → Bytes (derive.tape_row j i seed k len)
unfolding derive.tape_row
tape-bytes j i seed k len = clear-bytes k _

-- a row of seeds has 32 bytes
length-seeds : (j : Context) (i : ℕ) (leaf : List ℕ) → length (seed_row j i leaf) ≡ 32
unfolding seed_row
length-seeds j i leaf = length-shake128 _ 32

-- and so has a zero row in its place
length-but : (b : Bool) (j : Context) (i : ℕ) (leaf : List ℕ) → length (cond b (replicate 32 0) (seed_row j i leaf)) ≡ 32
length-but true j i leaf = length-replicate {A = ℕ} 32 0
length-but false j i leaf = length-seeds j i leaf

-- party i's row of seeds follows from its leaf
pub seeds-row : (n : ℕ) (j : Context) (leaves : List ℕ) (i : ℕ) → i < n → row_of (seeds_of n j leaves) 32 i ≡ seed_row j i (row_of leaves 16 i)
unfolding seeds_of
seeds-row n j leaves i h = row-tabulate 32 n (λ k. seed_row j k (row_of leaves 16 k)) (λ k l. length-seeds j k _) i h

-- also where that of another party p is zero
pub but-row : (n p : ℕ) (j : Context) (leaves : List ℕ) (i : ℕ) → i < n → i ≢ p → row_of (seeds_but n p j leaves) 32 i ≡ seed_row j i (row_of leaves 16 i)
unfolding seeds_but
but-row n p j leaves i h m =
    row-tabulate 32 n (λ k. cond (eqb k p) (replicate 32 0) (seed_row j k (row_of leaves 16 k))) (λ k l. length-but (eqb k p) j k _) i h
    ∙ rw (ne_eqb i p m) refl

-- the tapes that follow from rows of seeds
module _ (c : Circuit) (n : ℕ) (j : Context) (seeds : List ℕ) where
  -- party i's tape
  abbrev made : ℕ → List ℕ
  made i = derive.tape_row j i (seed_of seeds i) (used_bits c n i) (row_bytes c)

  -- n rows
  pub length-tapes : length (tapes_of c n j seeds) ≡ n * row_bytes c
  unfolding tapes_of
  length-tapes = length-rows (row_bytes c) n made (λ i. length-tape j i (seed_of seeds i) (used_bits c n i) (row_bytes c))

  -- party i's tape follows from its seed
  pub tapes-row : (i : ℕ) → i < n → tape_row c (tapes_of c n j seeds) i ≡ made i
  unfolding tapes_of
  tapes-row i h = row-tabulate (row_bytes c) n made (λ k l. length-tape j k (seed_of seeds k) (used_bits c n k) (row_bytes c)) i h

  -- their unused bits are zero
  unused-made : (k : ℕ) → k ≤ n → unused_rows c n (tapes_of c n j seeds) k ≡ true
  unfolding unused_rows
  unused-made zero h = refl
  unused-made (suc k) h =
      and-true _ _ (unused-made k (omega arith))
      (rw (tapes-row k (omega arith)) (tape-unused j k (seed_of seeds k) (used_bits c n k) (row_bytes c)))

  -- they are the tapes of n parties
  pub tapes-made : Tapes c n (tapes_of c n j seeds)
  unfolding tapes_of
  tapes-made = record {
    bytes = record {
      size = length-tapes;
      small = bytes-rows n made (λ i. tape-bytes j i (seed_of seeds i) (used_bits c n i) (row_bytes c));
    };
    unused = unused-made n (omega arith);
  }
