-- A proof from the rows of the masters' tree is the proof from its root.
-- Assumes nothing.
use mathlib.Core.Path.{◌≡◌, sym, ap, ap₂, ◌∙◌}
use mathlib.Core.List.{List, ◌++◌, map, flatten, append_assoc}
use Prim.Native.Nat.{ℕ, suc, ◌+◌, ◌*◌, ◌^◌, ◌<◌}
use lib.ListN.{length}
use Rattle.hashing.specs.Inputs.{context_of}
use Rattle.bits.specs.Bytes.{row_of}
use Rattle.bits.proofs.Tabulate.{tabulate-cong}
use Rattle.circuit.specs.Circuit.{Circuit}
use Rattle.cover.specs.Masters.{height, child_of, masters_context, master_of, cover_of}
use Rattle.cover.specs.Steps.{nodes_of}
use Rattle.growing.proofs.Growing.{length-grown, gather-cover, grow-master}
use Rattle.growing.proofs.Marking.{cover-marked}
use Rattle.instance.specs.Instance.{Asked, master_commitments, master_online, stretch_of}
use Rattle.proof.specs.Protocol.{hstar_of, first_message, challenged, response_of}
use Rattle.proof.specs.File.{header_of, hides}
use Rattle.proof.specs.Prove.{proof_of}
use Rattle.proof.specs.Steps.{master_in}
use Rattle.proof.proofs.Leaves.{leaves_at}
use Rattle.rounds.specs.Steps.{opened_rows, proof_from}

-- masters that agree below M
module _ (c : Circuit) (M n : ℕ) (salt witness : List ℕ) (f g : ℕ → List ℕ) (same : (j : ℕ) → j < M → f j ≡ g j) where
  -- give one first message
  first-same : first_message c M n salt witness f ≡ first_message c M n salt witness g
  unfolding first_message hstar_of
  first-same =
      rw (
        tabulate-cong M (λ j. master_commitments c n (context_of salt j) (f j)) (λ j. master_commitments c n (context_of salt j) (g j)) (λ j l. ap (master_commitments c n (context_of salt j)) (same j l)),
        tabulate-cong M (λ j. master_online c n (context_of salt j) witness (f j)) (λ j. master_online c n (context_of salt j) witness (g j)) (λ j l. ap (master_online c n (context_of salt j) witness) (same j l)),
      )

  -- and one response
  response-same : (ask : ℕ → Asked) → response_of c M n salt witness f ask ≡ response_of c M n salt witness g ask
  unfolding response_of
  response-same ask =
      ap flatten
      (tabulate-cong M (λ j. stretch_of c n (context_of salt j) witness (f j) (ask j)) (λ j. stretch_of c n (context_of salt j) witness (g j) (ask j))
      (λ j l. ap (λ (m : List ℕ). stretch_of c n (context_of salt j) witness m (ask j)) (same j l)))

-- the rows of the tree from the root
module _ (c : Circuit) (M tau n : ℕ) (salt witness bound root nodes : List ℕ) (size : length root ≡ 16)
    (grown : nodes ≡ nodes_of (child_of (masters_context salt)) root (height M)) where
  -- their bytes
  pub rows_grown : length nodes ≡ 16 * 2 ^ suc (height M)
  rows_grown = ap length grown ∙ length-grown (masters_context salt) root size (height M)

  -- the masters among them
  masters-grown : (j : ℕ) → j < M → master_in nodes j ≡ master_of M salt root j
  masters-grown j l =
      ap (λ (i : ℕ). row_of nodes 16 (i + j)) (leaves_at M nodes rows_grown)
      ∙ ap (λ (t : List ℕ). row_of t 16 (2 ^ height M + j)) grown ∙ grow-master M salt root j size l

  -- the opened nodes among them
  opened-grown : (ask : ℕ → Asked) → opened_rows M ask nodes ≡ cover_of M (hides ask) salt root
  unfolding opened_rows
  opened-grown ask =
      ap₂ (λ (t l : List ℕ). flatten (map (row_of t 16) l)) grown (sym (cover-marked (height M) M (hides ask))) ∙ gather-cover M (hides ask) salt root size

  -- the proof
  pub proof-grown : proof_from c M tau n salt witness bound nodes ≡ proof_of c M tau n salt witness bound root
  unfolding proof_from proof_of
  proof-grown =
      let x : List ℕ = first_message c M n salt witness (master_in nodes) in
      let y : List ℕ = first_message c M n salt witness (master_of M salt root) in
      let whole : List ℕ → List ℕ = λ v. header_of M tau n v salt ++ (cover_of M (hides (challenged M tau n v bound)) salt root ++ response_of c M n salt witness (master_of M salt root) (challenged M tau n v bound)) in
      ap₂ (λ (u v : List ℕ). header_of M tau n x salt ++ (u ++ v)) (opened-grown (challenged M tau n x bound)) (response-same c M n salt witness (master_in nodes) (master_of M salt root) masters-grown (challenged M tau n x bound))
      ∙ ap whole (first-same c M n salt witness (master_in nodes) (master_of M salt root) masters-grown)
      ∙ sym (append_assoc (header_of M tau n y salt) (cover_of M (hides (challenged M tau n y bound)) salt root) (response_of c M n salt witness (master_of M salt root) (challenged M tau n y bound)))
