-- The circuit file as a list of numbers, its fields (document 01, "Circuit file"; document 02, order 7), and what reading it gives. Two
-- numbers are the form of a file: how many bytes a field has, and the most gates. They are 4 ("All circuit file fields become u32") and
-- 100,000; in the old form, that of document 01, they are 2 ("u16") and 4,096.
-- Assumes nothing.
use Rattle.std.specs.Prelude.{Bool, true, not, cond, ◌&&◌, ◌||◌, List, [], ◌∷◌, map, ℕ, zero, suc, ◌+◌, ◌-◌, ◌*◌, eqb, leb, ltb, length}
use Rattle.bits.specs.Bits.{tabulate}
use Rattle.bits.specs.Bytes.{le_at}
use Rattle.circuit.specs.Circuit.{Gate, xor, and, inv, Circuit, put}
use Rattle.circuit.specs.Chain.{Walk, ends, fault, walk, ends_well}

-- the fields, each by its place, counted from 0
abbrev pub Fields : Type 0
Fields = ℕ → ℕ

-- the fields of a file, of w bytes each
unfoldable pub field : ℕ → List ℕ → Fields
field w s k = le_at w s (w * k)

-- "Header: I, O, G, head"
abbrev pub inputs_of : Fields → ℕ
inputs_of x = x 0

abbrev pub outputs_of : Fields → ℕ
outputs_of x = x 1

abbrev pub gates_of : Fields → ℕ
gates_of x = x 2

abbrev pub head_of : Fields → ℕ
head_of x = x 3

-- "then O output wire numbers": the number of output wire j
abbrev pub output_wire : Fields → ℕ → ℕ
output_wire x j = x (4 + j)

-- "then G records in slots 1..G", of four fields: the first field of slot k
abbrev pub record_at : Fields → ℕ → ℕ
record_at x k = 4 + outputs_of x + 4 * (k - 1)

-- "record 16 bytes: kind, a, b, next; the zero byte goes": 1 XOR, 2 AND, 3 INV. In the old form ("kind u8 .., zero u8, wires a and b (u16),
-- next (u16, ..)") kind and zero are one field, the kind where zero is 0
abbrev pub kind_of : Fields → ℕ → ℕ
kind_of x k = x (record_at x k)

abbrev pub wire_a : Fields → ℕ → ℕ
wire_a x k = x (record_at x k + 1)

abbrev pub wire_b : Fields → ℕ → ℕ
wire_b x k = x (record_at x k + 2)

abbrev pub next_of : Fields → ℕ → ℕ
next_of x k = x (record_at x k + 3)

-- how many fields a file has
abbrev pub field_count : Fields → ℕ
field_count x = 4 + outputs_of x + 4 * gates_of x

-- "I is 1..512, O 1..256, ..": the limit on I
abbrev pub max_inputs : ℕ
max_inputs = 512

-- "I is 1..512, O 1..256, ..": the limit on O
abbrev pub max_outputs : ℕ
max_outputs = 256

-- refusal 2: "I, O or G beyond limits", where m is the limit on G
unfoldable pub within_limits : ℕ → Fields → Bool
within_limits m x = leb 1 (inputs_of x) && leb (inputs_of x) max_inputs && leb 1 (outputs_of x) && leb (outputs_of x) max_outputs && leb (gates_of x) m

-- the second refusal 1: "the total length is 16 + 4O + 16G", and 8 + 2O + 8G in the old form
unfoldable pub right_length : ℕ → List ℕ → Bool
right_length w s = eqb (length s) (w * field_count (field w s))

-- refusal 3: "a record with another kind, [in the old form] a nonzero second byte, or INV with b not 0"
unfoldable pub good_record : Fields → ℕ → Bool
good_record x k = eqb (kind_of x k) 1 || eqb (kind_of x k) 2 || (eqb (kind_of x k) 3 && eqb (wire_b x k) 0)

-- the first n slots have good records
unfoldable pub good_records : Fields → ℕ → Bool
good_records x zero = true
good_records x (suc n) = good_records x n && good_record x (suc n)

-- the link that slot k holds; that of slot 0 is the head
unfoldable pub link_of : Fields → ℕ → ℕ
link_of x k = cond (eqb k 0) (head_of x) (next_of x k)

-- refusals 19, 20 and 21: the walk from head along the links
unfoldable pub chain_walk : Fields → Walk
chain_walk x = walk (gates_of x) (link_of x)

-- "Evaluation follows the chain from head. It must visit each slot exactly once and end" (what this means: Meaning.antt)
unfoldable pub good_chain : Fields → Bool
good_chain x = ends_well (chain_walk x)

-- the slots on the way of n links from slot k
unfoldable pub chain_from : Fields → ℕ → ℕ → List ℕ
chain_from x zero k = []
chain_from x (suc n) k = k ∷ chain_from x n (next_of x k)

-- the gate of slot k: "Slot k writes wire I + k − 1"
unfoldable pub gate_at : Fields → ℕ → Gate
gate_at x k =
    let c : ℕ = inputs_of x + k - 1 in
    cond (eqb (kind_of x k) 1) (xor (wire_a x k) (wire_b x k) c) (cond (eqb (kind_of x k) 2) (and (wire_a x k) (wire_b x k) c) (inv (wire_a x k) c))

-- the gates in chain order
unfoldable pub gates_in_order : Fields → List Gate
gates_in_order x = map (gate_at x) (chain_from x (gates_of x) (head_of x))

-- refusal 5: "A gate reads only inputs or wires written earlier on the chain", where the wires in `written` are written
unfoldable pub reads_written : (ℕ → Bool) → List Gate → Bool
reads_written written [] = true
reads_written written (xor a b c ∷ gs) = written a && written b && reads_written (put written c true) gs
reads_written written (and a b c ∷ gs) = written a && written b && reads_written (put written c true) gs
reads_written written (inv a c ∷ gs) = written a && reads_written (put written c true) gs

-- refusal 5: "or an output wire at or above I + G", for the first n output wires
unfoldable pub good_outputs : Fields → ℕ → Bool
good_outputs x zero = true
good_outputs x (suc n) = good_outputs x n && ltb (output_wire x n) (inputs_of x + gates_of x)

-- refusal 5
unfoldable pub good_wires : Fields → Bool
good_wires x = reads_written (λ w. ltb w (inputs_of x)) (gates_in_order x) && good_outputs x (outputs_of x)

-- the circuit that a legal file is
unfoldable pub circuit_of : Fields → Circuit
circuit_of x = record { inputs = inputs_of x; outputs = tabulate (outputs_of x) (output_wire x); gates = gates_in_order x }

-- what reading gives: a refusal, by its number and the slot that it tells, 0 where it tells none; or the circuit
pub data Reading : Type 0 where
  refused : ℕ → ℕ → Reading
  legal : Circuit → Reading

-- the rest of reading where the chain ends well, else the fault that the walk met first
unfoldable pub on_walk : Walk → Reading → Reading
on_walk ends rest = rest
on_walk (fault k x) rest = refused k x

-- the tests from 3 on, where the length and the limits are good: "3 ..; [19, 20, 21 in place of] 4 ..; 5 .."
unfoldable pub read_fields : Fields → Reading
read_fields x =
    cond (not (good_records x (gates_of x))) (refused 3 0)
    (on_walk (chain_walk x)
    (cond (not (good_wires x)) (refused 5 0)
    (legal (circuit_of x))))

-- "Read a circuit: 1 under [16] bytes; 2 I, O or G beyond limits; 1 total not [16 + 4O + 16G]; ..", for fields of w bytes and at most m gates
unfoldable pub read_with : ℕ → ℕ → List ℕ → Reading
read_with w m s =
    cond (ltb (length s) (w * 4)) (refused 1 0)
    (cond (not (within_limits m (field w s))) (refused 2 0)
    (cond (not (right_length w s)) (refused 1 0)
    (read_fields (field w s))))
