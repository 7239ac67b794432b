-- The circuit file in the form in use (document 02, order 7): "All circuit file fields become u32", and "G rises to 100,000".
-- What a name means is in Fields.antt, under the same name.
-- Assumes nothing.
use Rattle.std.specs.Prelude.{Bool, List, ℕ}
use Rattle.circuit.specs.Circuit.{Gate, Circuit}
use Rattle.circuit.specs.Chain.{Walk}
use Rattle.circuit.specs.Fields as fields
pub use Rattle.circuit.specs.Fields.{max_inputs, max_outputs, Reading, refused, legal}
unfoldable pub use Rattle.circuit.specs.Fields.{reads_written, on_walk}

-- "All circuit file fields become u32": the bytes of a field
abbrev pub width : ℕ
width = 4

-- "G rises to 100,000": the limit on G
abbrev pub max_gates : ℕ
max_gates = 100000

-- the fields of a file
abbrev pub fields_of : List ℕ → ℕ → ℕ
fields_of s = fields.field width s

abbrev pub inputs_of : List ℕ → ℕ
inputs_of s = fields.inputs_of (fields_of s)

abbrev pub outputs_of : List ℕ → ℕ
outputs_of s = fields.outputs_of (fields_of s)

abbrev pub gates_of : List ℕ → ℕ
gates_of s = fields.gates_of (fields_of s)

abbrev pub head_of : List ℕ → ℕ
head_of s = fields.head_of (fields_of s)

abbrev pub output_wire : List ℕ → ℕ → ℕ
output_wire s = fields.output_wire (fields_of s)

abbrev pub next_of : List ℕ → ℕ → ℕ
next_of s = fields.next_of (fields_of s)

abbrev pub within_limits : List ℕ → Bool
within_limits s = fields.within_limits max_gates (fields_of s)

abbrev pub right_length : List ℕ → Bool
right_length s = fields.right_length width s

abbrev pub good_records : List ℕ → ℕ → Bool
good_records s = fields.good_records (fields_of s)

abbrev pub chain_walk : List ℕ → Walk
chain_walk s = fields.chain_walk (fields_of s)

abbrev pub good_chain : List ℕ → Bool
good_chain s = fields.good_chain (fields_of s)

abbrev pub chain_from : List ℕ → ℕ → ℕ → List ℕ
chain_from s = fields.chain_from (fields_of s)

abbrev pub gates_in_order : List ℕ → List Gate
gates_in_order s = fields.gates_in_order (fields_of s)

abbrev pub good_wires : List ℕ → Bool
good_wires s = fields.good_wires (fields_of s)

abbrev pub circuit_of : List ℕ → Circuit
circuit_of s = fields.circuit_of (fields_of s)

-- reading a circuit
abbrev pub read_circuit : List ℕ → Reading
read_circuit s = fields.read_with width max_gates s
