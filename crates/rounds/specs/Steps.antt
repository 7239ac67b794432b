-- What only the contracts of steps use: no definition of the paper stands here.
-- What the steps of prove keep and ask.
-- Assumes nothing.
use Rattle.std.specs.Prelude.{◌≡◌, true, ℕ, suc, ◌+◌, ◌*◌, ◌^◌, ◌≤◌, length, take}
use mathlib.Core.List.{List, ◌++◌, map, flatten}
use Rattle.bits.specs.Bits.{tabulate}
use Rattle.bits.specs.Bytes.{row_of}
use Rattle.circuit.specs.Circuit.{Circuit}
use Rattle.circuit.specs.File.{circuit_of}
use Rattle.circuit.specs.declared.Sizes.{Sizes}
use Rattle.mpc.specs.Steps.{WitnessFits}
use Rattle.hashing.specs.Inputs.{context_of}
use Rattle.cover.specs.Cover.{cover}
use Rattle.cover.specs.Masters.{height, cover_bytes}
use Rattle.choice.specs.Challenge.{max_instances}
use Rattle.seeds.specs.Operations.{max_message, max_output_bytes, are_counts}
use Rattle.instance.specs.Instance.{Asked, master_online}
use Rattle.proof.specs.Protocol.{first_message, challenged, response_of}
use Rattle.proof.specs.File.{header_bytes, header_of, hides, proof_bytes, proof_room}
use Rattle.proof.specs.Steps.{asks_in, master_in, Asking}

-- all h'_j, one after the other
unfoldable pub onlines_of : Circuit → ℕ → ℕ → List ℕ → List ℕ → (ℕ → List ℕ) → List ℕ
onlines_of c M n salt witness masters = flatten (tabulate M (λ j. master_online c n (context_of salt j) witness (masters j)))

-- the values of the opened nodes, from the rows of the masters' tree
unfoldable pub opened_rows : ℕ → (ℕ → Asked) → List ℕ → List ℕ
opened_rows M ask nodes = flatten (map (row_of nodes 16) (cover (height M) M (hides ask)))

-- the proof, from the rows of the masters' tree
unfoldable pub proof_from : Circuit → ℕ → ℕ → ℕ → List ℕ → List ℕ → List ℕ → List ℕ → List ℕ
proof_from c M tau n salt witness bound nodes =
    let hstar : List ℕ = first_message c M n salt witness (master_in nodes) in
    let ask : ℕ → Asked = challenged M tau n hstar bound in
    header_of M tau n hstar salt ++ (opened_rows M ask nodes ++ response_of c M n salt witness (master_in nodes) ask)

-- what round 3 is lent: the rows of the masters' tree, the table of the challenge, and the bytes after the header, with all h'_j at their
-- start and room for what the challenge asks for
pub record Answering (s : List ℕ) (M n : ℕ) (salt witness nodes table part : List ℕ) : Type 0 where
  pub few : M ≤ max_instances
  pub rows : length nodes ≡ 16 * 2 ^ suc (height M)
  pub entries : length table ≡ M
  pub asking : Asking n table
  pub room : proof_bytes (circuit_of s) M n (asks_in n table) ≤ header_bytes + length part
  pub onlines : take (32 * M) part ≡ onlines_of (circuit_of s) M n salt witness (master_in nodes)

-- what the stretches are lent: the bytes that the challenge asks for, of which `opened` are opened nodes
pub record Response (s : List ℕ) (M n : ℕ) (salt witness nodes table : List ℕ) (opened : ℕ) (part : List ℕ) : Type 0 where
  pub few : M ≤ max_instances
  pub rows : length nodes ≡ 16 * 2 ^ suc (height M)
  pub entries : length table ≡ M
  pub asking : Asking n table
  pub place : opened ≡ cover_bytes M (hides (asks_in n table))
  pub size : header_bytes + length part ≡ proof_bytes (circuit_of s) M n (asks_in n table)
  pub onlines : take (32 * M) part ≡ onlines_of (circuit_of s) M n salt witness (master_in nodes)

-- what prove has when its tests are past
pub record Tested (s : List ℕ) (z : Sizes) (M tau n : ℕ) (witness y message salt buffer : List ℕ) : Type 0 where
  pub witness_fits : WitnessFits z witness
  pub counts : are_counts M tau ≡ true
  pub y_least : 1 ≤ length y
  pub y_most : length y ≤ max_output_bytes
  pub short : length message ≤ max_message
  pub salt_size : length salt ≡ 32
  pub room : proof_room (circuit_of s) M tau n ≤ length buffer
