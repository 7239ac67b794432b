-- What only the contracts of steps use: no definition of the format stands here.
-- Assumes nothing.
use Rattle.std.specs.Prelude.{◌≡◌, Bool, true, cond, not, ◌&&◌, ◌||◌, List, [], ◌∷◌, ◌++◌, map, ℕ, ◌+◌, ◌-◌, ◌*◌, ◌≤◌, ◌<◌, eqb, leb, ltb, length, get_or, drop}
use Rattle.std.specs.Prelude.{Some, None, Result, Ok, Err, ⊤}
use Rattle.std.specs.Prelude as std
use Rattle.std.proofs.Math.Option.{Option, none, some}
use Rattle.std.proofs.lemmas.List.Edits.{sets}
use Rattle.refusal.specs.Refusal.{number_of}
use Rattle.bristol_text.specs.Text.{Line, lines, all_numbers, value_of, sum}
use Rattle.bits.specs.Bits.{bit_at}
use Rattle.circuit.specs.Building.{front}
use Rattle.circuit.specs.File.{max_inputs, max_outputs, max_gates}
use Rattle.circuit.specs.Steps.{record_place}
use Rattle.bristol_lines.specs.Rules.{GateLine, xor, and, inv, Reading, refused, says, Below, numbers_on, is_counts, is_groups, group_sum, kind_on, is_known, gate_on, writes, gate_lines}
use Rattle.building.specs.Files.{Four}
use Rattle.building.specs.Steps.{four_bytes}
use Rattle.bristol_lines.specs.Conversion.{first_slot, record_of, text_file}
use Rattle.bristol_text.specs.declared.Cursor.{Cursor}
use Rattle.refusal.specs.declared.Refusal.{Refusal}
use Rattle.refusal.specs.declared.Refusal.TheVariants as refusal
use Rattle.bristol_lines.specs.declared.Gate.{Gate}
use Rattle.bristol_lines.specs.declared.Gate.TheVariants as gate
use Rattle.bristol_lines.specs.declared.Kind.{Kind}
use Rattle.bristol_lines.specs.declared.Kind.TheVariants.{Xor, And, Inv, Other}
use Rattle.bristol_lines.specs.declared.Sizes.{Sizes}

-- a line that an LF ends
abbrev pub whole : List ℕ → Line
whole l = record { bytes = l; ended = true }

-- the numbers of a line 1
unfoldable pub counts_of : List ℕ → std.Option (ℕ × ℕ)
counts_of l = cond (is_counts (whole l)) (Some (get_or (numbers_on (whole l)) 0 0, get_or (numbers_on (whole l)) 1 0)) None

-- the sum of the sizes on a line of groups
unfoldable pub groups_of : List ℕ → std.Option ℕ
groups_of l = cond (is_groups (whole l)) (Some (group_sum (whole l))) None

-- exactly `left` numbers more, with t as the sum before them
unfoldable pub sizes_of : ℕ → ℕ → List (List ℕ) → std.Option ℕ
sizes_of left t ts = cond (all_numbers ts && eqb (length ts) left) (Some (t + sum (map value_of ts))) None

-- the sum on the first of some lines
unfoldable pub first_groups : List Line → Option ℕ
first_groups [] = none
first_groups (l ∷ ls) = cond (is_groups l) (some (group_sum l)) none

-- what is told of the first of the lines from a place on: its sum, and the place after it
pub record SumAt (s : List ℕ) (at n next : ℕ) : Type 0 where
  pub found : first_groups (lines (drop at s)) ≡ some n
  pub rest : lines (drop next s) ≡ drop 1 (lines (drop at s))

abbrev pub GroupsAt : List ℕ → ℕ → std.Option (ℕ × Cursor) → Type 0
GroupsAt s at (Some p) = SumAt s at p.0 p.1.at
GroupsAt s at None = first_groups (lines (drop at s)) ≡ none

-- sizes within the limits
pub record Few (z : Sizes) : Type 0 where
  pub some_inputs : 1 ≤ z.inputs
  pub few_inputs : z.inputs ≤ max_inputs
  pub some_outputs : 1 ≤ z.outputs
  pub few_outputs : z.outputs ≤ max_outputs
  pub few_gates : z.gates ≤ max_gates
  pub enough : z.outputs ≤ z.inputs + z.gates

-- the gate lines of a text with these sizes, from a place on
unfoldable pub gates_at : List ℕ → Sizes → ℕ → Reading
gates_at s z at = gate_lines z.inputs z.outputs z.gates z.gates [] (lines (drop at s))

-- what is told of a header whose reading is x, whatever is read below it: it goes on with the lines there, or is refused
pub record Begun (s : List ℕ) (x : Below → Reading) (z : Sizes) (at : ℕ) : Type 0 where
  pub same : (below : Below) → x below ≡ below z.inputs z.outputs z.gates (lines (drop at s))
  pub few : Few z

abbrev pub HeaderTold : List ℕ → (Below → Reading) → Result (Sizes × Cursor) Refusal → Type 0
HeaderTold s x (Ok p) = Begun s x p.0 p.1.at
HeaderTold s x (Err k) = (below : Below) → x below ≡ refused (number_of k)

-- a gate as a gate line
abbrev pub line_of : Gate → GateLine
line_of (gate.Xor a b c) = xor a b c
line_of (gate.And a b c) = and a b c
line_of (gate.Inv a c) = inv a c

-- a gate line as a gate, and as it is read: 23 is another kind, 22 malformed
abbrev pub gate_of : GateLine → Gate
gate_of (xor a b c) = gate.Xor a b c
gate_of (and a b c) = gate.And a b c
gate_of (inv a c) = gate.Inv a c

unfoldable pub read_as : Option GateLine → Result Gate Refusal
read_as none = Err refusal.Text
read_as (some g) = Ok (gate_of g)

unfoldable pub gate_read : Line → Result Gate Refusal
gate_read l = cond (not (is_known (kind_on l.bytes))) (Err refusal.GateKind) (read_as (gate_on l))

-- the first of some lines as a gate line
unfoldable pub first_gate : List Line → Result Gate Refusal
first_gate [] = Err refusal.Text
first_gate (l ∷ ls) = gate_read l

-- the gate of a kind with k numbers before it, of which ns are the first
unfoldable pub starts_with : ℕ → ℕ → ℕ → ℕ → Bool
starts_with i k x y = eqb k (i + 3) && eqb x i && eqb y 1

unfoldable pub gate_from : Kind → ℕ → List ℕ → Result Gate Refusal
gate_from Xor k ns = cond (starts_with 2 k (get_or ns 0 0) (get_or ns 1 0)) (Ok (gate.Xor (get_or ns 2 0) (get_or ns 3 0) (get_or ns 4 0))) (Err refusal.Text)
gate_from And k ns = cond (starts_with 2 k (get_or ns 0 0) (get_or ns 1 0)) (Ok (gate.And (get_or ns 2 0) (get_or ns 3 0) (get_or ns 4 0))) (Err refusal.Text)
gate_from Inv k ns = cond (starts_with 1 k (get_or ns 0 0) (get_or ns 1 0)) (Ok (gate.Inv (get_or ns 2 0) (get_or ns 3 0))) (Err refusal.Text)
gate_from Other k ns = Err refusal.GateKind

-- what is told of the first of the lines from a place on as a gate line: how it reads, and the place after it
pub record GateAt (s : List ℕ) (at : ℕ) (r : Result Gate Refusal) (next : ℕ) : Type 0 where
  pub read : r ≡ first_gate (lines (drop at s))
  pub rest : lines (drop next s) ≡ drop 1 (lines (drop at s))

-- the tests on a gate line's wires, where the flagged wires are written
unfoldable pub flagged : List ℕ → ℕ → Bool
flagged flags w = bit_at flags w

-- a wire may be read on a line that writes wire c if it is an input, or another wire than c that is written above
unfoldable pub may_read : ℕ → List ℕ → ℕ → ℕ → Bool
may_read I flags c w = ltb w I || (not (eqb w c) && flagged flags w)

unfoldable pub may_write : ℕ → ℕ → List ℕ → ℕ → Bool
may_write I G flags w = leb I w && ltb w (I + G) && not (flagged flags w)

unfoldable pub fits_flags : ℕ → ℕ → List ℕ → GateLine → Bool
fits_flags I G flags (xor a b c) = may_read I flags c a && may_read I flags c b && may_write I G flags c
fits_flags I G flags (and a b c) = may_read I flags c a && may_read I flags c b && may_write I G flags c
fits_flags I G flags (inv a c) = may_read I flags c a && may_write I G flags c

-- the refusal of a gate line, if it is refused
unfoldable pub line_refusal : ℕ → ℕ → List ℕ → Result Gate Refusal → Option ℕ
line_refusal I G flags (Err k) = some (number_of k)
line_refusal I G flags (Ok g) = cond (fits_flags I G flags (line_of g)) none (some 22)

-- what is told of the first of the lines from a place on: the wire that its gate writes, and the place after it, or its refusal
pub record Writing (s : List ℕ) (z : Sizes) (at : ℕ) (flags : List ℕ) (w next : ℕ) : Type 0 where
  pub gate : Gate
  pub read : first_gate (lines (drop at s)) ≡ Ok gate
  pub fits : fits_flags z.inputs z.gates flags (line_of gate) ≡ true
  pub wire : w ≡ writes (line_of gate)
  pub rest : lines (drop next s) ≡ drop 1 (lines (drop at s))

abbrev pub LineTold : List ℕ → Sizes → ℕ → List ℕ → Result (ℕ × Cursor) Refusal → Type 0
LineTold s z at flags (Ok p) = Writing s z at flags p.0 p.1.at
LineTold s z at flags (Err k) = line_refusal z.inputs z.gates flags (first_gate (lines (drop at s))) ≡ some (number_of k)

-- the refusal of a reading, if it is refused
unfoldable pub refusal_of : Reading → Option ℕ
refusal_of (refused k) = some k
refusal_of (says t) = none

abbrev pub verdict : Result ⊤ Refusal → Option ℕ
verdict (Ok u) = none
verdict (Err k) = some (number_of k)

-- the gates on lines, of which each has one
unfoldable pub gate_before : Option GateLine → List GateLine → List GateLine
gate_before none gs = gs
gate_before (some g) gs = g ∷ gs

unfoldable pub gates_from : List Line → List GateLine
gates_from [] = []
gates_from (l ∷ ls) = gate_before (gate_on l) (gates_from ls)

-- so many gate lines, all good, stand from a place on
pub record Going (s : List ℕ) (z : Sizes) (left at : ℕ) : Type 0 where
  pub above : List GateLine
  pub good : refusal_of (gate_lines z.inputs z.outputs z.gates left above (lines (drop at s))) ≡ none

-- a wire that a gate writes
pub record Output (z : Sizes) (w : ℕ) : Type 0 where
  pub low : z.inputs ≤ w
  pub high : w < z.inputs + z.gates

-- a buffer with room for the file
pub record Room (z : Sizes) (out : List ℕ) : Type 0 where
  pub few : Few z
  pub room : record_place z.outputs z.gates ≤ length out

-- a gate, and good lines from a place on with all the others
pub record Started (s : List ℕ) (z : Sizes) (at w : ℕ) (out : List ℕ) : Type 0 where
  pub room : Room z out
  pub wire : Output z w
  pub some_gates : 1 ≤ z.gates
  pub going : Going s z (z.gates - 1) at

-- four fields as bytes, and those of the record of a gate line
abbrev pub four_of : Four → List ℕ
four_of q = four_bytes q.first q.second q.third q.fourth

abbrev pub record_bytes : GateLine → ℕ → List ℕ
record_bytes g next = four_of (record_of g next)

-- the records of gate lines, stored one after the other
unfoldable pub stored : ℕ → ℕ → List GateLine → List ℕ → List ℕ
stored I O [] out = out
stored I O (g ∷ gs) out = stored I O gs (sets out (record_place O (writes g - I)) (record_bytes g (first_slot I gs)))

-- the file of what is read, at the front of a buffer
unfoldable pub filed : Reading → List ℕ → List ℕ
filed (refused k) out = out
filed (says t) out = front (text_file t) out
