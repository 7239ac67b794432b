-- What only the contracts of the steps of reading use, for files with fields of w bytes: no definition of the paper stands here.
-- Assumes nothing.
use Rattle.std.specs.Prelude.{◌≡◌, Bool, true, cond, ◌&&◌, List, map, ◌⊎◌, ℕ, zero, suc, ◌+◌, ◌-◌, ◌*◌, ◌≤◌, eqb, leb, ltb, length}
use Rattle.circuit.specs.Circuit as paper
use Rattle.circuit.specs.Fields.{Fields, field, inputs_of, outputs_of, gates_of, head_of, kind_of, wire_a, wire_b, next_of, max_inputs, max_outputs, good_records, good_chain, chain_from, gate_at, reads_written}
use Rattle.circuit.specs.File.{max_gates}
use Rattle.circuit.specs.declared.Gate.{Gate}
use Rattle.circuit.specs.declared.Gate.TheVariants.{Xor, And, Inv}
use Rattle.circuit.specs.declared.Record.{Record}

-- the widths that can be read
abbrev pub Known : ℕ → Type 0
Known w = (w ≡ 2) ⊎ (w ≡ 4)

-- the gate of slot k; a kind that is neither 1 nor 2 reads as INV
unfoldable pub gate_of : Fields → ℕ → Gate
gate_of x k =
    cond (eqb (kind_of x k) 1) (Xor (wire_a x k) (wire_b x k)) (cond (eqb (kind_of x k) 2) (And (wire_a x k) (wire_b x k)) (Inv (wire_a x k)))

-- "A gate record read is its kind with its wires, beside its successor."
unfoldable pub record_of : Fields → ℕ → Record
record_of x k = record { next = next_of x k; gate = gate_of x k }

-- the record of slot k lies inside the file, which has o outputs
pub record Inside (w : ℕ) (s : List ℕ) (o k : ℕ) : Type 0 where
  pub known : Known w
  pub outputs : o ≡ outputs_of (field w s)
  pub first : 1 ≤ k
  pub room : w * (4 + o + 4 * (k - 1) + 4) ≤ length s

-- i, o and g are the file's I, O and G, within limits, and the file is as long as they say
pub record Laid (w : ℕ) (s : List ℕ) (i o g : ℕ) : Type 0 where
  pub known : Known w
  pub inputs : i ≡ inputs_of (field w s)
  pub outputs : o ≡ outputs_of (field w s)
  pub gates : g ≡ gates_of (field w s)
  pub few_inputs : i ≤ max_inputs
  pub few_outputs : o ≤ max_outputs
  pub few_gates : g ≤ max_gates
  pub whole : length s ≡ w * (4 + o + 4 * g)

-- from slot k, n links that each lead to a slot, and then the end
unfoldable pub walks : Fields → ℕ → ℕ → Bool
walks x zero k = eqb k 0
walks x (suc n) k = leb 1 k && leb k (gates_of x) && walks x n (next_of x k)

-- the file is so laid, and its chain from h visits each slot
pub record Chained (w : ℕ) (s : List ℕ) (i o g h : ℕ) : Type 0 where
  pub laid : Laid w s i o g
  pub chain : walks (field w s) g h ≡ true

-- the file is so laid, and h is its head
pub record Framed (w : ℕ) (s : List ℕ) (i o g h : ℕ) : Type 0 where
  pub laid : Laid w s i o g
  pub head : h ≡ head_of (field w s)

-- and its records and its chain are good too
pub record Linked (w : ℕ) (s : List ℕ) (i o g h : ℕ) : Type 0 where
  pub framed : Framed w s i o g h
  pub records : good_records (field w s) g ≡ true
  pub chain : good_chain (field w s) ≡ true

-- the limits on I, O and G, where m is the one on G
unfoldable pub limits : ℕ → ℕ → ℕ → ℕ → Bool
limits m i o g = leb 1 i && leb i max_inputs && leb 1 o && leb o max_outputs && leb g m

-- the gates on the way of n links from slot k
unfoldable pub gates_from : Fields → ℕ → ℕ → List paper.Gate
gates_from x n k = map (gate_at x) (chain_from x n k)

-- those gates read only inputs or wires written before them
unfoldable pub inputs_first : Fields → ℕ → ℕ → Bool
inputs_first x n k = reads_written (λ w. ltb w (inputs_of x)) (gates_from x n k)
