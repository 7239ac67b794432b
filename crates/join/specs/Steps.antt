-- What only the contracts of steps use: no definition of the paper stands here.
-- Assumes nothing.
use Rattle.std.specs.Prelude.{◌≡◌, List, [], ◌∷◌, ℕ, zero, suc, ◌+◌, ◌*◌, ◌≤◌, ◌<◌, length}
use Rattle.std.proofs.lemmas.List.Edits.{sets}
use Rattle.bits.specs.Bytes.{le_bytes}
use Rattle.refusal.specs.Outcome.{success}
use Rattle.circuit.specs.Fields as fields
use Rattle.circuit.specs.Fields.{Fields, gates_of, kind_of, wire_a, wire_b, next_of}
use Rattle.circuit.specs.File.{width, max_outputs, max_gates, fields_of}
use Rattle.circuit.specs.Operations.{read_op}
use Rattle.circuit.specs.Steps.{Laid, max_wires}
use Rattle.circuit.specs.declared.Sizes.{Sizes}
use Rattle.building.specs.Files.{Four, laid}
use Rattle.building.specs.Steps.{four_bytes}
use Rattle.join.specs.Join.{moved_link, joined_parts}

-- a file that reads with these sizes
abbrev pub ReadAs : List ℕ → Sizes → Type 0
ReadAs s z = success (z.inputs ∷ z.outputs ∷ z.gates ∷ z.ands ∷ []) ≡ read_op s

-- the numbers of slot k of a legal file are small
pub record SlotFits (x : Fields) (k : ℕ) : Type 0 where
  pub kind : kind_of x k ≤ 3
  pub a : wire_a x k < max_wires
  pub b : wire_b x k < max_wires
  pub next : next_of x k ≤ gates_of x

-- the numbers of a legal file are small
pub record Fits (x : Fields) : Type 0 where
  pub head : fields.head_of x ≤ gates_of x
  pub output : (j : ℕ) → j < fields.outputs_of x → fields.output_wire x j < max_wires
  pub slot : (k : ℕ) → 1 ≤ k → k ≤ gates_of x → SlotFits x k

-- two legal files of these sizes, with the same I, whose sums are within the limits
pub record Pair (s t : List ℕ) (y z : Sizes) : Type 0 where
  pub first : Laid s y.inputs y.outputs y.gates
  pub second : Laid t z.inputs z.outputs z.gates
  pub inputs : y.inputs ≡ z.inputs
  pub outputs : y.outputs + z.outputs ≤ max_outputs
  pub gates : y.gates + z.gates ≤ max_gates
  pub first_fits : Fits (fields_of s)
  pub second_fits : Fits (fields_of t)

-- slot k + 1 of a legal file with that many outputs is inside it
pub record Slot (s : List ℕ) (o k : ℕ) : Type 0 where
  pub outputs : o ≡ fields.outputs_of (fields_of s)
  pub room : width * (4 + o + 4 * k + 4) ≤ length s
  pub fits : SlotFits (fields_of s) (1 + k)
  pub few : fields.gates_of (fields_of s) ≤ max_gates

-- the field from which the slots of the joined file stand, and how many fields it has
abbrev pub slots_at : Sizes → Sizes → ℕ
slots_at y z = 4 + (y.outputs + z.outputs)

abbrev pub fields_in : Sizes → Sizes → ℕ
fields_in y z = slots_at y z + 4 * (y.gates + z.gates)

-- where the first's chain leads on to
abbrev pub onward : List ℕ → List ℕ → ℕ
onward s t = moved_link (gates_of (fields_of s)) (fields.head_of (fields_of t))

-- four fields as bytes
abbrev pub four_of : Four → List ℕ
four_of q = four_bytes q.first q.second q.third q.fourth

-- the fields of the joined file
abbrev pub joined_fields : List ℕ → List ℕ → Fields
joined_fields s t = laid (joined_parts (fields_of s) (fields_of t))

-- n fields from field k on, in their places
unfoldable pub placed : Fields → ℕ → ℕ → List ℕ → List ℕ
placed x k zero out = out
placed x k (suc n) out = sets (placed x k n out) (width * (k + n)) (le_bytes width (x (k + n)))
