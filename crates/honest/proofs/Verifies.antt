-- What the verifier of Figure 2 computes from what is sent is what check computes from the stretch.
-- Assumes nothing.
use mathlib.Core.Path.{◌≡◌, sym, ap, ◌∙◌}
use mathlib.Core.Bool.{cond}
use mathlib.Core.List.{List, flatten}
use mathlib.Core.Logic.{◌≢◌, ⊎_elim}
use Prim.Native.Nat.{ℕ, suc, ◌*◌, ◌<◌}
use native.Mathlib.Omega.{arith}
use borrow.Author.Tests.{eq-eqb, ne_eqb}
use lib.Dec.{eqb}
use lib.ListN.{length, take, replicate}
use lib.Seq.{length-take-le}
use Rattle.hashing.specs.declared.Context.{Context}
use Rattle.bits.specs.Bits.{oct}
use Rattle.bits.specs.Bytes.{row_of}
use Rattle.bits.proofs.Numbers.{eq-or-ne}
use Rattle.bits.proofs.Rows.{row-tabulate}
use Rattle.bits.proofs.Tabulate.{tabulate-cong}
use Rattle.keccak.specs.Sponge.{sha3_256}
use Rattle.parties.specs.Parties.{height_of}
use Rattle.parties.proofs.Counts.{count_yes}
use Rattle.circuit.specs.Circuit.{Circuit}
use Rattle.plain.specs.Run.{Transcript}
use Rattle.plain.specs.Tapes.{ands_of, row_bytes, used_bits}
use Rattle.plain.specs.Showing.{rows_of, hidden, replay_of}
use Rattle.hashing.specs.Inputs.{commitments_input, online_input}
use Rattle.tree.specs.Tree.{leaves_below}
use Rattle.party.specs.Derive.{seed_row, commitment_of, tape_row}
use Rattle.party.proofs.Clearing.{length-tape}
use Rattle.tree.proofs.Numbering.{leaf-of-party}
use Rattle.instance.specs.Instance.{hiding, leaves_of, tapes_of, commitments_digest, online_digest, commitments_of, master_seeds, master_tapes, master_corrections, master_commitments}
use Rattle.instance.specs.Stretch.{stretch_bytes, siblings_part, corrections_part, commitment_part, masked_part, row_part}
use Rattle.instance.specs.Opened.{opened_seeds, opened_commitments, opened_showing, opened_run}
use Rattle.honest.specs.Response.{Chosen}
use Rattle.honest.specs.Verification.{all, seed_of, com_of, tapes, honest_leaf, honest_aux, honest_com, opened_leaf, opened_com, shown, simulation, msgs}
use Rattle.proof.proofs.Places.{length-rows}
use Rattle.honest.proofs.Derived.{seeds-row, but-row, length-tapes, tapes-row}
use Rattle.honest.proofs.Opened.{hidden-same}
use Rattle.honest.proofs.Leaves.{opened-leaf}

-- the parties' leaves in instance j, and rows of seeds
module _ (n : ℕ) (j : Context) (leaf : ℕ → List ℕ) (seeds : List ℕ) where
  -- row i follows from party i's leaf
  abbrev Follows : ℕ → Type 0
  Follows i = row_of seeds 32 i ≡ seed_row j i (leaf i)

  -- the commitment of party i
  com-same : (aux : List ℕ) (i : ℕ) → Follows i → com_of n j leaf aux i ≡ commitment_of j n i seeds aux
  unfolding com_of commitment_of
  com-same aux i e = rw e

  -- the tapes, of a circuit
  module _ (c : Circuit) where
    abbrev made : ℕ → List ℕ
    made i = tape_row j i (seed_of j i (leaf i)) (used_bits c n i) (row_bytes c)

    -- of party i
    tape-same : (i : ℕ) → Follows i → made i ≡ tape_row j i (take 16 (row_of seeds 32 i)) (used_bits c n i) (row_bytes c)
    tape-same i e = rw e

    -- of all, in one string
    tapes-same : ((i : ℕ) → i < n → Follows i) → tapes c n j leaf ≡ tapes_of c n j seeds
    unfolding tapes tapes_of
    tapes-same same = ap flatten (tabulate-cong n _ _ (λ i h. tape-same i (same i h)))

    length-made : (i : ℕ) → length (made i) ≡ row_bytes c
    length-made i = length-tape j i (seed_of j i (leaf i)) (used_bits c n i) (row_bytes c)

    -- of all but p
    hidden-tapes : (p : ℕ) → p < n → ((i : ℕ) → i < n → i ≢ p → Follows i) → hidden c p (tapes c n j leaf) ≡ hidden c p (tapes_of c n j seeds)
    unfolding tapes
    hidden-tapes p l same =
        hidden-same c n p l (tapes c n j leaf) (tapes_of c n j seeds) (length-rows (row_bytes c) n made length-made) (length-tapes c n j seeds)
        (λ i h m.
        row-tabulate (row_bytes c) n made (λ k b. length-made k) i h
        ∙ (tape-same i (same i h m) ∙ sym (tapes-row c n j seeds i h)))

-- an instance that is not chosen
module _ (c : Circuit) (n : ℕ) (j : Context) (count : height_of n ≡ 0 → ⊥) (master : List ℕ) (size : length master ≡ 16) where
  -- its seeds
  seeds-are : (i : ℕ) → i < n → Follows n j (honest_leaf n j master) (master_seeds n j master) i
  unfolding honest_leaf master_seeds leaves_of
  seeds-are i h =
      seeds-row n j (leaves_below j (height_of n) 1 master) i h ∙ ap (seed_row j i) (leaf-of-party j n i master (count_yes n count) size h)

  -- h_j
  pub unchosen-hj : sha3_256 (commitments_input j.number (all n (honest_com c n j master))) ≡ master_commitments c n j master
  unfolding honest_com honest_aux master_commitments commitments_digest commitments_of master_corrections master_tapes
  unchosen-hj =
      rw (tapes-same n j (honest_leaf n j master) (master_seeds n j master) c seeds-are)
      (ap (λ (l : List (List ℕ)). sha3_256 (commitments_input j.number (flatten l)))
      (tabulate-cong n _ _ (λ i h. com-same n j (honest_leaf n j master) (master_seeds n j master) _ i (seeds-are i h))))

-- a chosen one, with p hidden, from its stretch
module _ (c : Circuit) (n : ℕ) (j : Context) (p : ℕ) (count : height_of n ≡ 0 → ⊥) (l : p < n) (part : List ℕ) (size : length part ≡ stretch_bytes c n (hiding p)) where
  -- what is sent of it
  abbrev sent : Chosen
  sent = record {
    siblings = siblings_part n part;
    aux = corrections_part c n p part;
    com_p = commitment_part c n p part;
    masked = masked_part c n p part;
    msgs_p = row_part c n p part;
  }

  -- its siblings
  siblings-size : length (siblings_part n part) ≡ 16 * height_of n
  unfolding siblings_part stretch_bytes
  siblings-size = length-take-le (16 * height_of n) part (omega arith)

  -- the seeds of each party but p
  opened-are : (i : ℕ) → i < n → i ≢ p → Follows n j (opened_leaf n j p sent) (opened_seeds n j p part) i
  unfolding opened_seeds
  opened-are i h m = but-row n p j _ i h m ∙ ap (seed_row j i) (sym (opened-leaf j n p i sent count siblings-size l h m))

  -- h_j
  pub chosen-hj : sha3_256 (commitments_input j.number (all n (opened_com n j p sent))) ≡ commitments_digest j.number (opened_commitments c n j p part)
  unfolding opened_com opened_commitments commitments_digest
  chosen-hj =
      ap (λ (t : List (List ℕ)). sha3_256 (commitments_input j.number (flatten t)))
      (tabulate-cong n (opened_com n j p sent)
      (λ i. cond (eqb i p) (commitment_part c n p part) (commitment_of j n i (opened_seeds n j p part) (corrections_part c n p part)))
      (λ i h.
      ⊎_elim (λ e. rw (eq-eqb i p e))
      (λ m. rw (ne_eqb i p m) (com-same n j (opened_leaf n j p sent) (opened_seeds n j p part) _ i (opened-are i h m)))
      (eq-or-ne i p)))

  -- what is shown
  pub shown-is : shown c n j p sent ≡ opened_showing c n j p part
  unfolding opened_showing
  shown-is =
      λ k. record {
        tapes = hidden-tapes n j (opened_leaf n j p sent) (opened_seeds n j p part) c p l opened-are k;
        corrections = cond (eqb (suc p) n) (replicate (oct (ands_of c)) 0) (corrections_part c n p part);
        masked_inputs = masked_part c n p part;
        row = row_part c n p part;
      }

  -- the execution
  pub simulation-is : simulation c n j p sent ≡ opened_run c n j p part
  unfolding simulation opened_run
  simulation-is = ap (replay_of c n p) shown-is

  -- h'_j
  pub chosen-h'j : sha3_256 (online_input j.number (masked_part c n p part) (all n (msgs c n j p sent)))
      ≡ online_digest j.number (masked_part c n p part) (rows_of n (opened_run c n j p part))
  unfolding msgs rows_of online_digest
  chosen-h'j = ap (λ (r : Transcript). sha3_256 (online_input j.number (masked_part c n p part) (rows_of n r))) simulation-is
