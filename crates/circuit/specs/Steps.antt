-- What only the contracts of steps use, for files in the form in use: no definition of the paper stands here.
-- Assumes nothing.
use Rattle.std.specs.Prelude.{◌≡◌, Bool, true, false, not, ◌&&◌, ◌||◌, List, map, ℕ, zero, suc, ◌+◌, ◌-◌, ◌*◌, ◌<◌, length, get_or, ltb, ⊤, Result, Ok, Err}
use Rattle.bits.specs.Bits.{tabulate, bit_at, from_bits, oct, unused_zero}
use Rattle.bits.specs.Steps.{put_bit}
use Rattle.bits.specs.Xor.{◌⊕◌}
use Rattle.circuit.specs.File.{width, max_inputs, max_gates, fields_of, inputs_of, output_wire, next_of, good_chain, good_wires}
use Rattle.circuit.specs.Fields as fields
use Rattle.circuit.specs.FieldSteps as steps
use Rattle.circuit.specs.declared.Gate.{Gate}
use Rattle.circuit.specs.declared.Gate.TheVariants.{Xor, And, Inv}
use Rattle.circuit.specs.declared.Record.{Record}
use Rattle.refusal.specs.Refusal.{number_of}
use Rattle.circuit.specs.Chain as chain
use Rattle.circuit.specs.declared.Fault.{Fault}
use Rattle.circuit.specs.Circuit as paper

-- the most wires of a circuit: its inputs and its gates
abbrev pub max_wires : ℕ
max_wires = max_inputs + max_gates

-- the bytes for a bit of each wire
abbrev pub wire_bytes : ℕ
wire_bytes = oct max_wires

-- the bytes of a record, and of the header
abbrev pub record_size : ℕ
record_size = width * 4

-- where output wire j stands in a file, and slot j + 1 of a file with o outputs; for j = G this is the file's length
abbrev pub output_place : ℕ → ℕ
output_place j = width * (4 + j)

abbrev pub record_place : ℕ → ℕ → ℕ
record_place o j = width * (4 + o + 4 * j)

-- parts of the file (Fields.antt, under the same names) in this form
abbrev pub record_at : List ℕ → ℕ → ℕ
record_at s = fields.record_at (fields_of s)

abbrev pub kind_of : List ℕ → ℕ → ℕ
kind_of s = fields.kind_of (fields_of s)

abbrev pub wire_a : List ℕ → ℕ → ℕ
wire_a s = fields.wire_a (fields_of s)

abbrev pub wire_b : List ℕ → ℕ → ℕ
wire_b s = fields.wire_b (fields_of s)

abbrev pub good_record : List ℕ → ℕ → Bool
good_record s = fields.good_record (fields_of s)

abbrev pub link_of : List ℕ → ℕ → ℕ
link_of s = fields.link_of (fields_of s)

abbrev pub gate_at : List ℕ → ℕ → paper.Gate
gate_at s = fields.gate_at (fields_of s)

abbrev pub good_outputs : List ℕ → ℕ → Bool
good_outputs s = fields.good_outputs (fields_of s)

-- the steps of reading (FieldSteps.antt, under the same names) in this form
abbrev pub gate_of : List ℕ → ℕ → Gate
gate_of s = steps.gate_of (fields_of s)

abbrev pub record_of : List ℕ → ℕ → Record
record_of s = steps.record_of (fields_of s)

abbrev pub walks : List ℕ → ℕ → ℕ → Bool
walks s = steps.walks (fields_of s)

abbrev pub gates_from : List ℕ → ℕ → ℕ → List paper.Gate
gates_from s = steps.gates_from (fields_of s)

abbrev pub Inside : List ℕ → ℕ → ℕ → Type 0
Inside s = steps.Inside width s

abbrev pub Laid : List ℕ → ℕ → ℕ → ℕ → Type 0
Laid s = steps.Laid width s

abbrev pub Chained : List ℕ → ℕ → ℕ → ℕ → ℕ → Type 0
Chained s = steps.Chained width s

-- the bit that a gate gives, where the wires have the bits f
abbrev pub gate_bit : Gate → (ℕ → Bool) → Bool
gate_bit (Xor a b) f = f a ⊕ f b
gate_bit (And a b) f = f a && f b
gate_bit (Inv a) f = not (f a)

-- the first k wires with the first k bits of the witness
unfoldable pub loaded : List ℕ → ℕ → List ℕ → List ℕ
loaded w zero v = v
loaded w (suc k) v = put_bit (loaded w k v) k (bit_at w k)

-- the wires' bits after n gates from slot k on
unfoldable pub walked : List ℕ → ℕ → ℕ → List ℕ → List ℕ
walked s zero k v = v
walked s (suc n) k v = walked s n (next_of s k) (put_bit v (inputs_of s + k - 1) (gate_bit (gate_of s k) (bit_at v)))

-- the o output bits
unfoldable pub out_bits : List ℕ → List ℕ → ℕ → List Bool
out_bits s v o = map (bit_at v) (tabulate o (output_wire s))

-- byte j of the packed output bits
unfoldable pub out_byte : List ℕ → List ℕ → ℕ → ℕ → ℕ
out_byte s v o j = from_bits 8 (λ t. get_or (out_bits s v o) (8 * j + t) false)

-- a gate reads wires below m
abbrev pub within : ℕ → Gate → Type 0
within m (Xor a b) = (a < m) × (b < m)
within m (And a b) = (a < m) × (b < m)
within m (Inv a) = a < m

-- n gates from slot k on read wires below m
unfoldable pub wired : List ℕ → ℕ → ℕ → ℕ → Type 0
wired s m zero k = Unit {0}
wired s m (suc n) k = within m (gate_of s k) × wired s m n (next_of s k)

-- what evaluating a legal file is lent: a witness of I bits and a buffer for O bits
pub record Lent (i o : ℕ) (w y : List ℕ) : Type 0 where
  pub witness : length w ≡ oct i
  pub unused : unused_zero i w ≡ true
  pub output : length y ≡ oct o

-- a gate with the wire it writes
abbrev pub placed : Gate → ℕ → paper.Gate
placed (Xor a b) c = paper.xor a b c
placed (And a b) c = paper.and a b c
placed (Inv a) c = paper.inv a c

-- the values hold every output wire
pub record Ended (s : List ℕ) (i o g : ℕ) (v : List ℕ) : Type 0 where
  pub laid : Laid s i o g
  pub outputs : good_outputs s o ≡ true
  pub room : length v ≡ wire_bytes

-- a legal file, whose I, O and G are i, o and g
pub record Legal (s : List ℕ) (i o g : ℕ) : Type 0 where
  pub laid : Laid s i o g
  pub chain : good_chain s ≡ true
  pub wires : good_wires s ≡ true

-- the values hold every wire that is read on a good chain
pub record Ready (s : List ℕ) (i o g h : ℕ) (v : List ℕ) : Type 0 where
  pub chained : Chained s i o g h
  pub reads : wired s max_wires g h
  pub room : length v ≡ wire_bytes

-- what the walk along the chain comes to, in the paper's terms
abbrev pub walk_paper : Result ⊤ Fault → chain.Walk
walk_paper (Ok _) = chain.ends
walk_paper (Err f) = chain.fault (number_of f.refusal) f.slot

-- 1 for an AND gate
abbrev pub and_one : Gate → ℕ
and_one (Xor a b) = 0
and_one (And a b) = 1
and_one (Inv a) = 0

-- the wires that a gate reads are written
abbrev pub readable : (ℕ → Bool) → Gate → Bool
readable written (Xor a b) = written a && written b
readable written (And a b) = written a && written b
readable written (Inv a) = written a

-- wire w is an input or its bit is set
unfoldable pub seen : ℕ → List ℕ → ℕ → Bool
seen i flags w = ltb w i || bit_at flags w
