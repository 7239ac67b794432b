-- The digests of an instance are bytes, where its stretch is; and so are the stretches of a proof of bytes.
-- Assumes nothing.
use mathlib.Core.List.{List, flatten}
use Prim.Native.Nat.{ℕ, zero, suc, ◌+◌}
use native.Mathlib.Omega.{arith}
use lib.ListN.{drop}
use lib.Seq.{get_or-drop}
use Rattle.hashing.specs.declared.Context.{Context}
use Rattle.bits.specs.Bits.{tabulate}
use Rattle.keccak.proofs.Absorbing.{Bytes}
use Rattle.circuit.specs.Circuit.{Circuit}
use Rattle.plain.specs.Showing.{rows_of}
use Rattle.hashing.specs.Inputs.{commitments_input, online_input}
use Rattle.hashing.proofs.Hashes.{bytes-append}
use Rattle.instance.specs.Instance.{Asked, opened, hiding, commitments_digest, online_digest, commitments_of, master_seeds, master_corrections, master_commitments}
use Rattle.instance.specs.Stretch.{stretch_bytes, masked_part}
use Rattle.instance.specs.Opened.{opened_commitments, opened_run, stretch_commitments, stretch_online}
use Rattle.proof.specs.File.{stretch_start, stretch_at}
use Rattle.proof.proofs.Digests.{front_bytes, sha3-bytes}

-- the rest of a string
rest-bytes : (k : ℕ) (s : List ℕ) → Bytes s → Bytes (drop k s)
rest-bytes k s h i = rw (get_or-drop k s i 0) (h (k + i))

-- rows of bytes
pub rows-bytes : (n : ℕ) (f : ℕ → List ℕ) → ((i : ℕ) → Bytes (f i)) → Bytes (flatten (tabulate n f))
unfolding flatten
rows-bytes zero f h k = omega arith
rows-bytes (suc n) f h k = bytes-append (f 0) (flatten (tabulate n (λ i. f (suc i)))) (h 0) (rows-bytes n (λ i. f (suc i)) (λ i. h (suc i))) k

-- h_j
pub commitments-bytes : (c : Circuit) (n : ℕ) (j : Context) (master part : List ℕ) (a : Asked) → Bytes (stretch_commitments c n j master part a)
unfolding stretch_commitments master_commitments commitments_digest
commitments-bytes c n j master part opened =
    sha3-bytes (commitments_input j.number (commitments_of n j (master_seeds n j master) (master_corrections c n j master)))
commitments-bytes c n j master part (hiding p) = sha3-bytes (commitments_input j.number (opened_commitments c n j p part))

-- h'_j
pub online-bytes : (c : Circuit) (n : ℕ) (j : Context) (part : List ℕ) → Bytes part → (a : Asked) → Bytes (stretch_online c n j part a)
unfolding stretch_online online_digest
online-bytes c n j part h opened = h
online-bytes c n j part h (hiding p) = sha3-bytes (online_input j.number (masked_part c n p part) (rows_of n (opened_run c n j p part)))

-- a stretch
pub stretch-bytes : (c : Circuit) (M n : ℕ) (ask : ℕ → Asked) (proof : List ℕ) → Bytes proof → (j : ℕ) → Bytes (stretch_at c M n ask proof j)
unfolding stretch_at
stretch-bytes c M n ask proof h j =
    front_bytes (stretch_bytes c n (ask j)) (drop (stretch_start c M n ask j) proof) (rest-bytes (stretch_start c M n ask j) proof h)
