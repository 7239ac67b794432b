-- The digests of all instances, taken in and written one after the other, and the first message from them.
-- Assumes nothing.
use mathlib.Core.Path.{◌≡◌, sym, ap, ap₂, ◌∙◌}
use mathlib.Core.List.{List, [], ◌∷◌, ◌++◌, flatten, append_assoc}
use Prim.Native.Nat.{ℕ, zero, suc, ◌+◌, ◌*◌, ◌<◌}
use native.Mathlib.Numerals.{add-one}
use native.Mathlib.Omega.{arith}
use lib.ListN.{length, take}
use lib.Seq.{take_all}
use Rattle.hashing.specs.declared.Context.{Context}
use Rattle.bits.specs.Bits.{tabulate}
use Rattle.bits.proofs.Rows.{flatten-more}
use Rattle.keccak.specs.declared.sponge.Sponge.{Sponge}
use Rattle.keccak.specs.Steps.{absorbs, padded}
use Rattle.keccak.specs.Sponge.{sha3_256}
use Rattle.keccak.proofs.Absorbing.{Bytes}
use Rattle.keccak.proofs.Steps.{squeezes-length}
use Rattle.keccak.proofs.Lengths.{length-sha3-256}
use Rattle.circuit.specs.Circuit.{Circuit}
use Rattle.plain.specs.Showing.{rows_of}
use Rattle.hashing.specs.Inputs.{context_of, commitments_input, online_input, all_commitments_input, all_online_input}
use Rattle.hashing.specs.Digest.{transcript_of, taken, given}
use Rattle.hashing.proofs.Hashes.{bytes-append, bytes_one}
use Rattle.hashing.proofs.Digests.{taken_more, taken-room, given-taken, all-online-more}
use Rattle.instance.specs.Instance.{commitments_digest, online_digest, commitments_of, master_seeds, master_corrections, master_commitments, master_run, master_masked, master_online}
use Rattle.instance.specs.Steps.{Lent}
use Rattle.proof.specs.Protocol.{hstar_of, first_message}
use Rattle.proof.proofs.Digests.{sha3-bytes}
use Rattle.mpc.proofs.Opened.{sized}

-- rows of bytes are bytes
bytes-rows : (n : ℕ) (f : ℕ → List ℕ) → ((i : ℕ) → Bytes (f i)) → Bytes (flatten (tabulate n f))
unfolding flatten
bytes-rows zero f h k = omega arith
bytes-rows (suc n) f h k = bytes-append (f 0) (flatten (tabulate n (λ i. f (suc i)))) (h 0) (bytes-rows n (λ i. f (suc i)) (λ i. h (suc i))) k

-- the inputs are bytes
bytes-commitments : (N : List ℕ) → Bytes N → Bytes (all_commitments_input N)
unfolding all_commitments_input
bytes-commitments N h = bytes-append (9 ∷ []) N (bytes_one 9 (omega arith)) h

bytes-onlines : (N : List ℕ) → Bytes N → Bytes (all_online_input N)
unfolding all_online_input
bytes-onlines N h = bytes-append (10 ∷ []) N (bytes_one 10 (omega arith)) h

-- one more at the end
commitments-more : (M N : List ℕ) → all_commitments_input M ++ N ≡ all_commitments_input (M ++ N)
unfolding all_commitments_input
commitments-more M N = append_assoc (9 ∷ []) M N

-- a memory of the same length serves as well
pub lent-kept : (s : List ℕ) (i o g a n h : ℕ) (memory m : List ℕ) → Lent s (sized i o g a) n h memory → length m ≡ length memory
    → Lent s (sized i o g a) n h m
lent-kept s i o g a n h memory m l q = record { known = l.known; tree = l.tree; room = rw q l.room }

-- h'_j has 32 bytes
pub length-online : (c : Circuit) (n : ℕ) (j : Context) (witness master : List ℕ) → length (master_online c n j witness master) ≡ 32
unfolding master_online online_digest
length-online c n j witness master = length-sha3-256 _

-- what a sponge gives at the end has 32 bytes
pub length-given : (s : Sponge) → length (given s) ≡ 32
unfolding given
length-given s = squeezes-length 136 32 (padded 136 0x06 s)

-- there is room for the next byte
pub taken-fits : (M : List ℕ) (s : Sponge) → s ≡ taken M → s.fill < 136
taken-fits M s e = rw e (taken-room M)

-- the instances of a prover
module _ (c : Circuit) (n : ℕ) (salt witness : List ℕ) (masters : ℕ → List ℕ) where
  -- h_i
  abbrev pub commitments_at : ℕ → List ℕ
  commitments_at i = master_commitments c n (context_of salt i) (masters i)

  -- h'_i
  abbrev pub online_at : ℕ → List ℕ
  online_at i = master_online c n (context_of salt i) witness (masters i)

  -- they are digests
  commitments-bytes : (i : ℕ) → Bytes (commitments_at i)
  unfolding master_commitments commitments_digest
  commitments-bytes i = sha3-bytes (commitments_input i (commitments_of n (context_of salt i) (master_seeds n (context_of salt i) (masters i)) (master_corrections c n (context_of salt i) (masters i))))

  online-bytes : (i : ℕ) → Bytes (online_at i)
  unfolding master_online online_digest
  online-bytes i = sha3-bytes (online_input i (master_masked c n (context_of salt i) witness (masters i)) (rows_of n (master_run c n (context_of salt i) witness (masters i))))

  -- no h_i is taken in yet
  pub all_none : (s : Sponge) → s ≡ taken (all_commitments_input []) → s ≡ taken (all_commitments_input (flatten (tabulate 0 commitments_at)))
  unfolding flatten
  all_none s e = e

  -- h_0 to h_(j - 1) are taken in
  module _ (j : ℕ) (s : Sponge) (e : s ≡ taken (all_commitments_input (flatten (tabulate j commitments_at)))) where
    -- one more
    pub all-turn : (N : List ℕ) (r : Sponge) → N ≡ commitments_at j → r ≡ absorbs 136 s N
        → r ≡ taken (all_commitments_input (flatten (tabulate (j + 1) commitments_at)))
    all-turn N r q a =
        let M : List ℕ = flatten (tabulate j commitments_at) in
        taken_more (all_commitments_input M) N s r e a
        ∙ ap taken (commitments-more M N ∙ ap all_commitments_input (ap (λ (t : List ℕ). M ++ t) q ∙ (flatten-more j commitments_at ∙ ap (λ (k : ℕ). flatten (tabulate k commitments_at)) (sym (add-one j)))))

    -- all of them, and all h'_i in o: h*
    pub first-end : (m : ℕ) (onlines x y r : List ℕ) (o o' : Sponge) → j ≡ m → x ≡ given s → onlines ≡ flatten (tabulate m online_at)
        → o ≡ taken (all_online_input []) → o' ≡ absorbs 136 o onlines → y ≡ given o' → r ≡ transcript_of x y → r ≡ first_message c m n salt witness masters
    unfolding first_message hstar_of
    first-end m onlines x y r o o' q g p a b d t =
        let M : List ℕ = flatten (tabulate j commitments_at) in
        let N : List ℕ = flatten (tabulate m online_at) in
        let X : x ≡ sha3_256 (all_commitments_input (flatten (tabulate m commitments_at)))
        = g ∙ (ap given e
        ∙ (given-taken (all_commitments_input M) (bytes-commitments M (bytes-rows j commitments_at commitments-bytes))
        ∙ ap (λ (k : ℕ). sha3_256 (all_commitments_input (flatten (tabulate k commitments_at)))) q)) in
        let Y : y ≡ sha3_256 (all_online_input N)
        = d ∙ (ap given (taken_more (all_online_input []) onlines o o' a b ∙ ap taken (all-online-more onlines ∙ ap all_online_input p))
        ∙ given-taken (all_online_input N) (bytes-onlines N (bytes-rows m online_at online-bytes))) in
        t ∙ ap₂ transcript_of X Y

  -- all h'_i are written
  pub onlines-end : (m j : ℕ) (rows : List ℕ) → j ≡ m → length rows ≡ 32 * m → take (j * 32) rows ≡ flatten (tabulate j online_at)
      → rows ≡ flatten (tabulate m online_at)
  onlines-end m j rows q l p =
      sym (take_all (m * 32) rows (omega (arith, l))) ∙ (ap (λ (k : ℕ). take (k * 32) rows) (sym q) ∙ (p ∙ ap (λ (k : ℕ). flatten (tabulate k online_at)) q))
