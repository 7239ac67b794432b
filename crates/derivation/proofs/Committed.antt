-- The commitments of an instance, taken in one or four at a time.
-- Assumes nothing.
use native.Mathlib.Omega.{arith}
use mathlib.Core.Path.{◌≡◌, refl, sym, ap, ◌∙◌}
use mathlib.Core.List.{List, [], ◌∷◌, ◌++◌, flatten, append_assoc}
use Prim.Native.Nat.{ℕ, ◌+◌, ◌*◌, ◌≤◌, ◌<◌}
use borrow.Author.Tests.{eq-eqb, ne_eqb}
use lib.ListN.{length, take, drop}
use lib.Seq.{drop-drop}
use Rattle.bits.specs.Bits.{tabulate}
use Rattle.bits.specs.Bytes.{le_bytes, row_of}
use Rattle.bits.proofs.Rows.{row_inside}
use Rattle.bits.proofs.Tabulate.{tabulate-cong}
use Rattle.keccak.specs.declared.sponge.Sponge.{Sponge}
use Rattle.keccak.specs.Steps.{absorbs}
use Rattle.keccak.proofs.Lengths.{length-sha3-256}
use Rattle.hashing.specs.declared.Context.{Context}
use Rattle.hashing.specs.Inputs.{commitments_input}
use Rattle.hashing.specs.Digest.{taken}
use Rattle.hashing.proofs.Digests.{taken_more, taken-room}
use Rattle.party.specs.Derive.{commitment_to, commitment_of}
use Rattle.four_sponges.specs.Steps.{four_rows}
use Rattle.four_sponges.proofs.Rows.{four-eq}
use Rattle.derivation.specs.Steps.{commitment_but}
use Rattle.derivation.proofs.Together.{part-first, flatten-add, row-alone, rows_four}

-- the commitment of party i is 32 bytes
pub commitment-length : (j : Context) (n i : ℕ) (seeds corrections : List ℕ) → length (commitment_of j n i seeds corrections) ≡ 32
unfolding commitment_of
commitment-length j n i seeds corrections = length-sha3-256 _

-- more at the input's end
input-more : (j : ℕ) (M N : List ℕ) → commitments_input j M ++ N ≡ commitments_input j (M ++ N)
unfolding commitments_input
input-more j M N = append_assoc (7 ∷ le_bytes 2 j) M N

-- nothing is taken in yet
pub coms-none : (j : ℕ) (f : ℕ → List ℕ) (s : Sponge) → s ≡ taken (commitments_input j []) → s ≡ taken (commitments_input j (flatten (tabulate 0 f)))
unfolding flatten
coms-none j f s e = e

-- f 0 to f (i - 1) are taken in
module _ (j i : ℕ) (f : ℕ → List ℕ) (s : Sponge) (e : s ≡ taken (commitments_input j (flatten (tabulate i f)))) where
  -- there is room for the next byte
  pub coms-room : s.fill < 136
  coms-room = rw e (taken-room (commitments_input j (flatten (tabulate i f))))

  -- the next r
  pub coms-more : (r : ℕ) (N : List ℕ) (t : Sponge) → N ≡ flatten (tabulate r (λ k. f (i + k))) → t ≡ absorbs 136 s N
      → t ≡ taken (commitments_input j (flatten (tabulate (i + r) f)))
  coms-more r N t q a =
      let M : List ℕ = flatten (tabulate i f) in
      taken_more (commitments_input j M) N s t e a ∙ ap taken (input-more j M N ∙ ap (commitments_input j) (ap (λ (x : List ℕ). M ++ x) q ∙ sym (flatten-add i r f)))

  -- one more
  pub coms-turn : (N : List ℕ) (t : Sponge) → N ≡ f i → t ≡ absorbs 136 s N → t ≡ taken (commitments_input j (flatten (tabulate (i + 1) f)))
  coms-turn N t q a = coms-more 1 N t (q ∙ row-alone f i) a

-- all n are taken in
pub taken-all : (j i n : ℕ) (f : ℕ → List ℕ) (s : Sponge) → s ≡ taken (commitments_input j (flatten (tabulate i f))) → i ≡ n
    → s ≡ taken (commitments_input j (flatten (tabulate n f)))
taken-all j i n f s e q = e ∙ ap (λ (k : ℕ). taken (commitments_input j (flatten (tabulate k f)))) q

-- the commitments, with `theirs` as party p's
module _ (j : Context) (n p : ℕ) (theirs seeds corrections : List ℕ) where
  pub com-theirs : (i : ℕ) → i ≡ p → theirs ≡ commitment_but j n p theirs seeds corrections i
  com-theirs i e = rw (eq-eqb i p e)

  pub com-own : (i : ℕ) (c : List ℕ) → (i ≡ p → ⊥) → c ≡ commitment_of j n i seeds corrections → c ≡ commitment_but j n p theirs seeds corrections i
  com-own i c e q = rw (ne_eqb i p e) q

  -- four of them, none of them party p's
  pub coms-own : (i : ℕ) → ((k : ℕ) → k < 4 → i + k ≡ p → ⊥)
      → flatten (tabulate 4 (λ k. commitment_of j n (i + k) seeds corrections)) ≡ flatten (tabulate 4 (λ k. commitment_but j n p theirs seeds corrections (i + k)))
  coms-own i none =
      ap flatten (tabulate-cong 4 (λ k. commitment_of j n (i + k) seeds corrections) (λ k. commitment_but j n p theirs seeds corrections (i + k)) (λ k h. com-own (i + k) _ (none k h) refl))

-- four rows from row i on, read from a part of the seeds
pub coms-four : (j : Context) (n i : ℕ) (seeds corrections part : List ℕ) → 32 * i + 128 ≤ length seeds → part ≡ take 128 (drop (32 * i) seeds)
    → four_rows (λ k. commitment_to j n (i + k) (take 32 (drop (32 * k) part)) corrections) ≡ flatten (tabulate 4 (λ k. commitment_of j n (i + k) seeds corrections))
unfolding commitment_of
coms-four j n i seeds corrections part room e =
    let row : (k : ℕ) → k < 4 → take 32 (drop (32 * k) part) ≡ row_of seeds 32 (i + k) = λ k h.
    ap (λ (t : List ℕ). take 32 (drop (32 * k) t)) e ∙ part-first 32 (32 * k) 128 (drop (32 * i) seeds) (omega arith)
    ∙ ap (take 32) (drop-drop (32 * k) (32 * i) seeds ∙ ap (λ (m : ℕ). drop m seeds) (let q : 32 * i + 32 * k ≡ (i + k) * 32 = omega arith in q)) ∙ sym (row_inside seeds 32 (i + k) (omega arith)) in
    let one : (k : ℕ) → k < 4 → commitment_to j n (i + k) (take 32 (drop (32 * k) part)) corrections ≡ commitment_of j n (i + k) seeds corrections = λ k h.
    ap (λ (r : List ℕ). commitment_to j n (i + k) r corrections) (row k h) in
    four-eq (λ k. commitment_to j n (i + k) (take 32 (drop (32 * k) part)) corrections) (λ k. commitment_of j n (i + k) seeds corrections)
    (one 0 (omega arith)) (one 1 (omega arith)) (one 2 (omega arith)) (one 3 (omega arith))
    ∙ rows_four (λ k. commitment_of j n (i + k) seeds corrections)
