-- The commitments of an instance, taken in one after the other: their digest.
-- Assumes nothing.
use mathlib.Core.Path.{◌≡◌, refl, ap, ◌∙◌}
use mathlib.Core.Bool.{Bool, true, false, cond}
use mathlib.Core.List.{List, [], ◌∷◌, flatten}
use Prim.Native.Nat.{ℕ, zero, suc, ◌+◌, ◌-◌, ◌≤◌, ◌<◌}
use native.Mathlib.Omega.{arith}
use borrow.Author.Tests.{ne_eqb}
use lib.Dec.{eqb}
use lib.ListN.{length, take, drop}
use lib.Seq.{get_or-drop}
use Rattle.hashing.specs.declared.Context.{Context}
use Rattle.bits.specs.Bits.{tabulate}
use Rattle.bits.specs.Bytes.{le_bytes, row_of}
use Rattle.bits.proofs.Little.{le_bytes-lt}
use Rattle.bits.proofs.Tabulate.{tabulate-cong}
use Rattle.keccak.specs.declared.sponge.Sponge.{Sponge}
use Rattle.keccak.specs.Steps.{absorbs}
use Rattle.keccak.specs.Sponge.{sha3_256}
use Rattle.keccak.proofs.Absorbing.{Bytes}
use Rattle.keccak.proofs.Lengths.{length-sha3-256}
use Rattle.hashing.specs.Inputs.{commitment_input, own_corrections, commitments_input}
use Rattle.party.specs.Derive.{commitment_to, commitment_of}
use Rattle.hashing.specs.Digest.{taken, given}
use Rattle.hashing.proofs.Hashes.{bytes-append, bytes_one}
use Rattle.hashing.proofs.Digests.{given-taken}
use Rattle.derivation.specs.Steps.{commitment_but}
use Rattle.derivation.proofs.Committed.{coms-room, coms-turn, taken-all}
use Rattle.instance.specs.Instance.{commitments_digest, commitments_of}
use Rattle.instance.specs.Steps.{FirstTaken}
use Rattle.instance.proofs.Hashed.{sha3-bytes}

-- a part of bytes is bytes
pub bytes_take : (k : ℕ) (M : List ℕ) → Bytes M → Bytes (take k M)
bytes_take zero M h i = omega arith
bytes_take (suc k) [] h i = omega arith
bytes_take (suc k) (x ∷ M) h zero = h 0
bytes_take (suc k) (x ∷ M) h (suc i) = bytes_take k M (λ j. h (suc j)) i

pub bytes_drop : (k : ℕ) (M : List ℕ) → Bytes M → Bytes (drop k M)
bytes_drop k M h i = rw (get_or-drop k M i 0) (h (k + i))

-- either of two strings of bytes
bytes-either : (b : Bool) (x y : List ℕ) → Bytes x → Bytes y → Bytes (cond b x y)
bytes-either true x y h k = h
bytes-either false x y h k = k

-- a commitment is bytes
commitment-bytes : (j : Context) (n i : ℕ) (seeds corrections : List ℕ) → Bytes (commitment_of j n i seeds corrections)
unfolding commitment_of
commitment-bytes j n i seeds corrections = sha3-bytes (commitment_input j n i (take 16 (row_of seeds 32 i)) corrections (drop 16 (row_of seeds 32 i)))

pub digest-length : (M r : List ℕ) → r ≡ sha3_256 M → length r ≡ 32
digest-length M r e = ap length e ∙ length-sha3-256 M

-- rows of bytes are bytes
pub bytes-rows : (n : ℕ) (f : ℕ → List ℕ) → ((i : ℕ) → Bytes (f i)) → Bytes (flatten (tabulate n f))
unfolding flatten
bytes-rows zero f h k = omega arith
bytes-rows (suc n) f h k = bytes-append (f 0) (flatten (tabulate n (λ i. f (suc i)))) (h 0) (bytes-rows n (λ i. f (suc i)) (λ i. h (suc i))) k

-- the input is bytes
bytes-input : (j : ℕ) (N : List ℕ) → Bytes N → Bytes (commitments_input j N)
unfolding commitments_input
bytes-input j N h = bytes-append (7 ∷ le_bytes 2 j) N (bytes-append (7 ∷ []) (le_bytes 2 j) (bytes_one 7 (omega arith)) (le_bytes-lt 2 j)) h

-- f 0 to f (n - 2) are taken in, then g (n - 1), where g begins as f does: the end is the digest of g
coms-last : (j n : ℕ) (f g : ℕ → List ℕ) (s : Sponge) (r : List ℕ) → 1 ≤ n → s ≡ taken (commitments_input j (flatten (tabulate (n - 1) f)))
    → ((i : ℕ) → i < n - 1 → f i ≡ g i) → ((k : ℕ) → Bytes (g k)) → r ≡ given (absorbs 136 s (g (n - 1))) → r ≡ commitments_digest j (flatten (tabulate n g))
unfolding commitments_digest
coms-last j n f g s r some e same h q =
    let first : s ≡ taken (commitments_input j (flatten (tabulate (n - 1) g))) =
    e ∙ ap (λ (t : List (List ℕ)). taken (commitments_input j (flatten t))) (tabulate-cong (n - 1) f g same) in
    let all = taken-all j (n - 1 + 1) n g _ (coms-turn j (n - 1) g s first (g (n - 1)) (absorbs 136 s (g (n - 1))) refl refl) (omega arith) in
    q ∙ ap given all ∙ given-taken (commitments_input j (flatten (tabulate n g))) (bytes-input j (flatten (tabulate n g)) (bytes-rows n g h))

-- where there is no party, the end is the digest of nothing
pub coms-empty : (j n : ℕ) (g : ℕ → List ℕ) (s : Sponge) (r : List ℕ) → n ≡ 0 → s ≡ taken (commitments_input j []) → r ≡ given s
    → r ≡ commitments_digest j (flatten (tabulate n g))
unfolding commitments_digest flatten
coms-empty j n g s r e t q = rw e (q ∙ ap given t ∙ given-taken (commitments_input j []) (bytes-input j [] (λ k. omega arith)))

-- a party before n − 1 does not commit to the corrections
commitment-others : (j : Context) (n i : ℕ) (seeds c d : List ℕ) → (i + 1 ≡ n → ⊥) → commitment_of j n i seeds c ≡ commitment_of j n i seeds d
unfolding commitment_of commitment_input own_corrections
commitment-others j n i seeds c d h = rw (ne_eqb (i + 1) n h)

-- all parties commit, with `theirs` as party p's
pub coms-all : (j : Context) (n p : ℕ) (theirs seeds corr : List ℕ) (s : Sponge) (r : List ℕ) → 1 ≤ n → Bytes theirs
    → s ≡ taken (commitments_input j.number (flatten (tabulate (n - 1) (commitment_but j n p theirs seeds []))))
    → r ≡ given (absorbs 136 s (commitment_but j n p theirs seeds corr (n - 1)))
    → r ≡ commitments_digest j.number (flatten (tabulate n (commitment_but j n p theirs seeds corr)))
coms-all j n p theirs seeds corr s r some h e q =
    coms-last j.number n (commitment_but j n p theirs seeds []) (commitment_but j n p theirs seeds corr) s r some e
    (λ i l. ap (cond (eqb i p) theirs) (commitment-others j n i seeds [] corr (λ d. omega (arith, d, l))))
    (λ i. bytes-either (eqb i p) theirs (commitment_of j n i seeds corr) h (commitment-bytes j n i seeds corr)) q

-- the parties before n − 1, none of them with another's commitment in its place
pub first_taken : (j : Context) (n : ℕ) (theirs seeds : List ℕ) (s : Sponge)
    → s ≡ taken (commitments_input j.number (flatten (tabulate (n - 1) (commitment_but j n n theirs seeds [])))) → FirstTaken n j seeds s
first_taken j n theirs seeds s e = record {
  first =
      e ∙ ap (λ (t : List (List ℕ)). taken (commitments_input j.number (flatten t)))
      (tabulate-cong (n - 1) (commitment_but j n n theirs seeds []) (λ i. commitment_of j n i seeds []) (λ i l. rw (ne_eqb i n (λ d. omega (arith, d, l)))));
}

pub first-room : (n : ℕ) (j : Context) (seeds : List ℕ) (s : Sponge) → FirstTaken n j seeds s → s.fill < 136
first-room n j seeds s f = coms-room j.number (n - 1) (λ i. commitment_of j n i seeds []) s f.first

-- party n − 1 commits last, to the corrections too
pub commitments-joined : (j : Context) (n : ℕ) (seeds last corr r : List ℕ) (s : Sponge) → 1 ≤ n → FirstTaken n j seeds s → last ≡ row_of seeds 32 (n - 1)
    → r ≡ given (absorbs 136 s (commitment_to j n (n - 1) last corr)) → r ≡ commitments_digest j.number (commitments_of n j seeds corr)
unfolding commitments_of commitment_of
commitments-joined j n seeds last corr r s some taken_in own e =
    coms-last j.number n (λ i. commitment_of j n i seeds []) (λ i. commitment_of j n i seeds corr) s r some taken_in.first
    (λ i l. commitment-others j n i seeds [] corr (λ d. omega (arith, d, l))) (λ k. commitment-bytes j n k seeds corr)
    (e ∙ ap (λ (row : List ℕ). given (absorbs 136 s (commitment_to j n (n - 1) row corr))) own)
