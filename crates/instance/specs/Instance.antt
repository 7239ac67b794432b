-- One instance of the protocol: what its master gives, its digests, and what is sent of it (source document 001, Figure 2; document
-- 01, "Seeds and digests"). An instance j is its number with the salt of its proof (document 02, order 10).
-- Assumes nothing.
use Rattle.std.specs.Prelude.{Bool, true, false, cond, ℕ, suc, ◌+◌, eqb, take, replicate}
use mathlib.Core.List.{List, [], ◌++◌, flatten}
use Rattle.hashing.specs.declared.Context.{Context}
use Rattle.bits.specs.Bits.{tabulate, pack}
use Rattle.bits.specs.Bytes.{row_of}
use Rattle.keccak.specs.Sponge.{sha3_256}
use Rattle.parties.specs.Parties.{height_of}
use Rattle.circuit.specs.Circuit.{Circuit}
use Rattle.plain.specs.Run.{Transcript}
use Rattle.plain.specs.Tapes.{row_bytes, used_bits}
use Rattle.plain.specs.Showing.{correction_bits, masked_inputs, honest_run, row_bits, rows_of}
use Rattle.hashing.specs.Inputs.{commitments_input, online_input}
use Rattle.tree.specs.Tree.{leaves_below, siblings_below}
use Rattle.party.specs.Derive.{seed_row, commitment_of}
use Rattle.party.specs.Derive as derive

-- "Leaf i is node n + i": the n leaves of instance j
unfoldable pub leaves_of : ℕ → Context → List ℕ → List ℕ
leaves_of n j master = leaves_below j (height_of n) 1 master

-- the seed and r of each party, from the leaves, in rows of 32 bytes
unfoldable pub seeds_of : ℕ → Context → List ℕ → List ℕ
seeds_of n j leaves = flatten (tabulate n (λ i. seed_row j i (row_of leaves 16 i)))

-- the same of all parties but p, whose row is zero
unfoldable pub seeds_but : ℕ → ℕ → Context → List ℕ → List ℕ
seeds_but n p j leaves = flatten (tabulate n (λ i. cond (eqb i p) (replicate 32 0) (seed_row j i (row_of leaves 16 i))))

-- party i's seed
abbrev pub seed_of : List ℕ → ℕ → List ℕ
seed_of seeds i = take 16 (row_of seeds 32 i)

-- the tape rows of the parties, from their seeds
unfoldable pub tapes_of : Circuit → ℕ → Context → List ℕ → List ℕ
tapes_of c n j seeds = flatten (tabulate n (λ i. derive.tape_row j i (seed_of seeds i) (used_bits c n i) (row_bytes c)))

-- "h_j over (7, j, all com)"
unfoldable pub commitments_digest : ℕ → List ℕ → List ℕ
commitments_digest j coms = sha3_256 (commitments_input j coms)

-- "h'_j over (8, j, masked inputs, all broadcast rows)"
unfoldable pub online_digest : ℕ → List ℕ → List ℕ → List ℕ
online_digest j masked rows = sha3_256 (online_input j masked rows)

-- the commitments of all parties to their seeds, and of party n − 1 to the corrections
unfoldable pub commitments_of : ℕ → Context → List ℕ → List ℕ → List ℕ
commitments_of n j seeds corrections = flatten (tabulate n (λ i. commitment_of j n i seeds corrections))

-- what a master gives: seeds, tapes and corrections
unfoldable pub master_seeds : ℕ → Context → List ℕ → List ℕ
master_seeds n j master = seeds_of n j (leaves_of n j master)

unfoldable pub master_tapes : Circuit → ℕ → Context → List ℕ → List ℕ
master_tapes c n j master = tapes_of c n j (master_seeds n j master)

unfoldable pub master_corrections : Circuit → ℕ → Context → List ℕ → List ℕ
master_corrections c n j master = pack (correction_bits c n (master_tapes c n j master))

-- "An instance not chosen gives its h_j from its master"
unfoldable pub master_commitments : Circuit → ℕ → Context → List ℕ → List ℕ
master_commitments c n j master = commitments_digest j.number (commitments_of n j (master_seeds n j master) (master_corrections c n j master))

-- Round 1, step 3: the run on a witness, and its h'_j
unfoldable pub master_run : Circuit → ℕ → Context → List ℕ → List ℕ → Transcript
master_run c n j witness master = honest_run c n witness (master_tapes c n j master)

unfoldable pub master_masked : Circuit → ℕ → Context → List ℕ → List ℕ → List ℕ
master_masked c n j witness master = masked_inputs c n witness (master_tapes c n j master)

unfoldable pub master_online : Circuit → ℕ → Context → List ℕ → List ℕ → List ℕ
master_online c n j witness master =
    online_digest j.number (master_masked c n j witness master) (rows_of n (master_run c n j witness master))

-- what the challenge asks of an instance: all parties, by its master, if it is not chosen; all parties but p if it is
pub data Asked : Type 0 where
  opened : Asked
  hiding : ℕ → Asked

-- whether an instance is chosen: its master stays hidden
unfoldable pub is_chosen : Asked → Bool
is_chosen opened = false
is_chosen (hiding p) = true

-- "corrections unless p = n − 1"
unfoldable pub sent_corrections : ℕ → ℕ → List ℕ → List ℕ
sent_corrections n p corrections = cond (eqb (suc p) n) [] corrections

-- Round 3: "stretches of instances not chosen keep only h'_j" (document 02, order 5); "Chosen: log2 n siblings of 16 bytes, corrections
-- unless p = n − 1, com_p, masked inputs, broadcast row p."
unfoldable pub stretch_of : Circuit → ℕ → Context → List ℕ → List ℕ → Asked → List ℕ
stretch_of c n j witness master opened = master_online c n j witness master
stretch_of c n j witness master (hiding p) =
    siblings_below j (height_of n) 1 p master ++ sent_corrections n p (master_corrections c n j master)
    ++ commitment_of j n p (master_seeds n j master) (master_corrections c n j master) ++ master_masked c n j witness master
    ++ pack (row_bits (master_run c n j witness master) p)
