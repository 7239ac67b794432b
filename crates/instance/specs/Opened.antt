-- What a checker makes of an instance's stretch: its two digests, and its tests (source document 001, Figure 2, "Verification").
-- Assumes nothing.
use Rattle.std.specs.Prelude.{Bool, true, cond, ◌&&◌, ℕ, suc, ◌+◌, eqb, length, replicate}
use mathlib.Core.List.{List, flatten}
use Rattle.hashing.specs.declared.Context.{Context}
use Rattle.bits.specs.Bits.{tabulate, oct, pack, unused_zero}
use Rattle.bits.specs.Bytes.{same_bytes}
use Rattle.parties.specs.Parties.{height_of}
use Rattle.circuit.specs.Circuit.{Circuit}
use Rattle.plain.specs.Run.{Transcript}
use Rattle.plain.specs.Tapes.{ands_of}
use Rattle.plain.specs.Showing.{rows_of, hidden, Showing, replay_of}
use Rattle.tree.specs.Tree.{opened_below}
use Rattle.party.specs.Derive.{commitment_of}
use Rattle.instance.specs.Instance.{Asked, opened, hiding, seeds_but, tapes_of, commitments_digest, online_digest, master_commitments}
use Rattle.instance.specs.Stretch.{siblings_part, corrections_part, commitment_part, masked_part, row_part}

-- the seeds of a chosen instance but party p's, which is not known: from the leaves that follow from its siblings
unfoldable pub opened_seeds : ℕ → Context → ℕ → List ℕ → List ℕ
opened_seeds n j p part = seeds_but n p j (opened_below j (height_of n) 1 p (siblings_part n part))

-- Verification, step 1: the commitments of the opened parties, and com_p as sent
unfoldable pub opened_commitments : Circuit → ℕ → Context → ℕ → List ℕ → List ℕ
opened_commitments c n j p part =
    flatten
    (tabulate n (λ i. cond (eqb i p) (commitment_part c n p part) (commitment_of j n i (opened_seeds n j p part) (corrections_part c n p part))))

-- what is shown of a chosen instance: the opened tapes, with row p all zero; corrections all zero if p = n − 1
unfoldable pub opened_showing : Circuit → ℕ → Context → ℕ → List ℕ → Showing
opened_showing c n j p part = record {
  tapes = hidden c p (tapes_of c n j (opened_seeds n j p part));
  corrections = cond (eqb (suc p) n) (replicate (oct (ands_of c)) 0) (corrections_part c n p part);
  masked_inputs = masked_part c n p part;
  row = row_part c n p part;
}

-- Verification, step 3: the replay of a chosen instance
unfoldable pub opened_run : Circuit → ℕ → Context → ℕ → List ℕ → Transcript
opened_run c n j p part = replay_of c n p (opened_showing c n j p part)

-- h_j, from an instance's master if it is not chosen, else from its stretch
unfoldable pub stretch_commitments : Circuit → ℕ → Context → List ℕ → List ℕ → Asked → List ℕ
stretch_commitments c n j master part opened = master_commitments c n j master
stretch_commitments c n j master part (hiding p) = commitments_digest j.number (opened_commitments c n j p part)

-- h'_j, from an instance's stretch
unfoldable pub stretch_online : Circuit → ℕ → Context → List ℕ → Asked → List ℕ
stretch_online c n j part opened = part
stretch_online c n j part (hiding p) = online_digest j.number (masked_part c n p part) (rows_of n (opened_run c n j p part))

-- refusal 7: "unused bits in the proof", in one stretch
unfoldable pub stretch_unused : Circuit → ℕ → List ℕ → Asked → Bool
stretch_unused c n part opened = true
stretch_unused c n part (hiding p) =
    unused_zero (ands_of c) (corrections_part c n p part)
    && (unused_zero c.inputs (masked_part c n p part) && unused_zero (ands_of c + length c.outputs) (row_part c n p part))

-- refusal 10: "a replay with another output"
unfoldable pub stretch_output : Circuit → ℕ → Context → List ℕ → List ℕ → Asked → Bool
stretch_output c n j y part opened = true
stretch_output c n j y part (hiding p) = same_bytes (pack (opened_run c n j p part).output) y
