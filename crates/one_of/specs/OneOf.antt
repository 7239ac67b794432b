-- The operation one of (document 02, order 12): "From a circuit and a list of outputs, oct(O) bytes each, build one with a single output,
-- 1 exactly if the old output is in the list." The gates that are used are "fixed in docs/": docs/one-of.md.
-- Assumes nothing.
use Rattle.std.specs.Prelude.{Bool, true, false, cond, ◌&&◌, ◌||◌, List, [], ◌∷◌, ℕ, zero, suc, ◌+◌, ◌-◌, ◌*◌, ◌/◌, ◌%◌, eqb, leb, ltb, length}
use Rattle.bits.specs.Bits.{oct, bit_at, unused_zero}
use Rattle.bits.specs.Bytes.{same_bytes, row_of}
use Rattle.refusal.specs.Outcome.{Outcome, unless}
use Rattle.circuit.specs.Building.{builds}
use Rattle.circuit.specs.Circuit.{Circuit}
use Rattle.circuit.specs.Fields.{Fields, inputs_of, outputs_of, gates_of, head_of, output_wire, kind_of, wire_a, wire_b, next_of}
use Rattle.circuit.specs.File.{max_gates, fields_of, read_circuit}
use Rattle.circuit.specs.Operations.{on_legal}
use Rattle.building.specs.Files.{Four, Parts, laid, file_of}

-- "a list of outputs, oct(O) bytes each": the number N of entries, where there are O outputs
abbrev pub entries : ℕ → List ℕ → ℕ
entries O list = length list / oct O

-- entry e, from 0
abbrev pub entry : ℕ → List ℕ → ℕ → List ℕ
entry O list e = row_of list (oct O) e

-- "An output may be listed twice": one of the first n entries is entry e
unfoldable pub among : ℕ → List ℕ → ℕ → ℕ → Bool
among O list e zero = false
among O list e (suc n) = among O list e n || same_bytes (entry O list n) (entry O list e)

-- entry e was listed before
abbrev pub repeated : ℕ → List ℕ → ℕ → Bool
repeated O list e = among O list e e

-- four fields: the header, or a record
abbrev pub four : ℕ → ℕ → ℕ → ℕ → Four
four a b c d = record { first = a; second = b; third = c; fourth = d }

-- how many gates are added
abbrev pub added : ℕ → ℕ → ℕ
added O N = O + 1 + N * O

module _ (x : Fields) where
  -- the first wire that is added
  abbrev pub start : ℕ
  start = inputs_of x + gates_of x

  -- the wire that is always 0, the one after the O inverted outputs
  abbrev pub zero_wire : ℕ
  zero_wire = start + outputs_of x

  -- the wire that is 1 if the output is one of the first e entries
  abbrev pub sum_wire : ℕ → ℕ
  sum_wire e = zero_wire + e * outputs_of x

  -- the links of the old chain stay, but for the one that ends it, which leads to the first slot that is added
  unfoldable pub relinked : ℕ → ℕ
  relinked l = cond (eqb l 0) (gates_of x + 1) l

  -- the record of an old slot
  abbrev pub old_gate : ℕ → Four
  old_gate k = four (kind_of x k) (wire_a x k) (wire_b x k) (relinked (next_of x k))

module _ (x : Fields) (list : List ℕ) where
  -- the wire that is 1 if output bit j is that of entry e: the output wire, or its inversion
  unfoldable pub literal : ℕ → ℕ → ℕ
  literal e j = cond (bit_at (entry (outputs_of x) list e) j) (output_wire x j) (start x + j)

  -- the wire that is 1 if the first j + 1 output bits are those of entry e, where it was not listed before
  unfoldable pub prefix : ℕ → ℕ → ℕ
  prefix e j = cond (eqb j 0) (literal e 0) (sum_wire x e + j)

  -- gate j of entry e, with its link: O − 1 AND gates find whether the output is entry e, and an XOR joins that to what was found for the
  -- entries before. For an entry that was listed before, all its gates give what was found
  unfoldable pub entry_gate : ℕ → ℕ → ℕ → Four
  entry_gate e j next =
      cond (repeated (outputs_of x) list e) (four 1 (sum_wire x e) (zero_wire x) next)
      (cond (ltb (j + 1) (outputs_of x)) (four 2 (prefix e j) (literal e (j + 1)) next) (four 1 (sum_wire x e) (prefix e j) next))

  -- gate i of those that are added, from 0, with its link: an INV for each output, an XOR of wire 0 with itself, and O gates for each entry
  unfoldable pub new_gate : ℕ → ℕ → Four
  new_gate i next =
      let O : ℕ = outputs_of x in
      let t : ℕ = i - O - 1 in
      cond (ltb i O) (four 3 (output_wire x i) 0 next)
      (cond (ltb O i && ltb i (added O (entries O list))) (entry_gate (t / O) (t % O) next) (four 1 0 0 next))

  -- how many gates the new circuit has
  abbrev pub total : ℕ
  total = gates_of x + added (outputs_of x) (entries (outputs_of x) list)

  -- the record of slot k: the old one, or one that is added, which links to the slot after it
  unfoldable pub slot_of : ℕ → Four
  slot_of k =
      cond (leb k (gates_of x)) (old_gate x k) (new_gate (k - gates_of x - 1) (cond (ltb k total) (k + 1) 0))

  -- the parts of the new file: the same inputs, and "a single output", the last wire
  unfoldable pub parts_of : Parts
  parts_of =
      record {
        header = four (inputs_of x) 1 total (relinked x (head_of x));
        output = λ j. sum_wire x (entries (outputs_of x) list);
        slot = slot_of;
      }

-- the new file
unfoldable pub one_of_file : List ℕ → List ℕ → List ℕ
one_of_file s list = file_of (laid (parts_of (fields_of s) list))

-- "7 for its bytes": the unused bits of the first n entries are zero
unfoldable pub unused_entries : ℕ → List ℕ → ℕ → Bool
unused_entries O list zero = true
unused_entries O list (suc n) = unused_entries O list n && unused_zero O (entry O list n)

-- the most entries: "up to 16 listed outputs"
abbrev pub max_entries : ℕ
max_entries = 16

-- "30 an empty list or over 16·oct(O) bytes, after the circuit is read"
abbrev pub right_size : ℕ → List ℕ → Bool
right_size O list = leb 1 (length list) && leb (length list) (max_entries * oct O)

-- "then 6, 7 for its bytes; then 2 if G + O + N(O + 1) is over 100,000", the limit on G
abbrev pub room_for : ℕ → ℕ → ℕ → Bool
room_for G O N = leb (G + O + N * (O + 1)) max_gates

-- building from a legal circuit, of the file s
unfoldable pub one_of_legal : List ℕ → List ℕ → List ℕ → Circuit → Outcome
one_of_legal s list out c =
    let O : ℕ = length c.outputs in
    let lent : List (List ℕ) = out ∷ [] in
    unless (right_size O list) 30 lent
    (unless (eqb (length list % oct O) 0) 6 lent
    (unless (unused_entries O list (entries O list)) 7 lent
    (unless (room_for (length c.gates) O (entries O list)) 2 lent
    (builds (one_of_file s list) out))))

-- building into a lent output: the circuit is read first
unfoldable pub one_of_op : List ℕ → List ℕ → List ℕ → Outcome
one_of_op s list out = on_legal (read_circuit s) (out ∷ []) (one_of_legal s list out)
