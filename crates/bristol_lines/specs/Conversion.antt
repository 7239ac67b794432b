-- The circuit and the circuit file that a text is converted to.
-- Document 02, order 3: "Wire w written by a gate goes to slot w − I + 1, and the chain follows the text. Outputs are the last wires."
-- Assumes nothing.
use Rattle.std.specs.Prelude.{cond, List, [], ◌∷◌, map, ℕ, ◌+◌, ◌-◌, eqb, length}
use Rattle.circuit.specs.Circuit as paper
use Rattle.building.specs.Files.{Four, Parts, laid, file_of}
use Rattle.bristol_lines.specs.Rules.{GateLine, xor, and, inv, Text, writes, last_wire, output_wires}

-- a gate line as a gate of our circuits
unfoldable pub as_gate : GateLine → paper.Gate
as_gate (xor a b c) = paper.xor a b c
as_gate (and a b c) = paper.and a b c
as_gate (inv a c) = paper.inv a c

-- a text as one of our circuits, with its gates in the text's order
unfoldable pub as_circuit : Text → paper.Circuit
as_circuit t = record { inputs = t.inputs; outputs = output_wires t; gates = map as_gate t.gates }

-- "Wire w written by a gate goes to slot w − I + 1"; the slot of the first of some gate lines, 0 if there is none
unfoldable pub slot_of : ℕ → GateLine → ℕ
slot_of I g = writes g - I + 1

unfoldable pub first_slot : ℕ → List GateLine → ℕ
first_slot I [] = 0
first_slot I (g ∷ gs) = slot_of I g

-- "record 16 bytes: kind, a, b, next", the kind 1 for XOR, 2 for AND, 3 for INV
unfoldable pub record_of : GateLine → ℕ → Four
record_of (xor a b c) next = record { first = 1; second = a; third = b; fourth = next }
record_of (and a b c) next = record { first = 2; second = a; third = b; fourth = next }
record_of (inv a c) next = record { first = 3; second = a; third = 0; fourth = next }

-- the record of the gate that writes wire w, and there always is one; its link leads to the gate on the next line: "the chain
-- follows the text"
unfoldable pub record_for : ℕ → ℕ → List GateLine → Four
record_for I w [] = record { first = 0; second = 0; third = 0; fourth = 0 }
record_for I w (g ∷ gs) = cond (eqb w (writes g)) (record_of g (first_slot I gs)) (record_for I w gs)

-- the parts of the file: "Header: I, O, G, head", "Outputs are the last wires", and the records, slot k that of wire I + k − 1
unfoldable pub parts_of : Text → Parts
parts_of t =
    record {
      header = record { first = t.inputs; second = t.outputs; third = length t.gates; fourth = first_slot t.inputs t.gates };
      output = last_wire t;
      slot = λ k. record_for t.inputs (t.inputs + k - 1) t.gates;
    }

-- the circuit file
unfoldable pub text_file : Text → List ℕ
text_file t = file_of (laid (parts_of t))
