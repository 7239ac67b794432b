-- What a text says, and the first rule that it breaks.
-- Document 02, order 3: "A file gives gates and wires, the number of input groups and their sizes, the same of the outputs, then the
-- gate lines". "Lines are tested in their order, 22 before 24 on a header line and 23 before 22 on a gate line".
-- Assumes nothing.
use Rattle.std.specs.Prelude.{Bool, true, false, cond, not, ◌&&◌, ◌||◌, List, [], ◌∷◌, ◌++◌, map, ℕ, zero, suc, ◌+◌, ◌-◌, eqb, leb, ltb, length, get_or, drop}
use Rattle.std.proofs.Math.Option.{Option, none, some}
use Rattle.bits.specs.Bits.{tabulate}
use Rattle.bits.specs.Bytes.{same_bytes}
use Rattle.bits.specs.Xor.{◌⊕◌}
use Rattle.circuit.specs.File.{max_inputs, max_outputs, max_gates}
use Rattle.bristol_text.specs.Text.{Line, lines, tokens, all_but_last, the_last, all_numbers, value_of, sum}
use Rattle.bristol_lines.specs.declared.Kind.{Kind}
use Rattle.bristol_lines.specs.declared.Kind.TheVariants.{Xor, And, Inv, Other}

-- a gate line: the wires it reads and, last, the wire it writes
pub data GateLine : Type 0 where
  xor and : ℕ → ℕ → ℕ → GateLine
  inv : ℕ → ℕ → GateLine

-- what a text says: I, O and the gates in the text's order; the wires number I + G
pub record Text : Type 0 where
  pub inputs : ℕ
  pub outputs : ℕ
  pub gates : List GateLine

-- what reading a text gives: a refusal's number, or what it says
pub data Reading : Type 0 where
  refused : ℕ → Reading
  says : Text → Reading

-- the values of the wires, with wire c put to x
unfoldable pub wire_to : (ℕ → Bool) → ℕ → Bool → ℕ → Bool
wire_to v c x w = cond (eqb w c) x (v w)

-- the meaning of gate lines, in the text's order: the wires' values after them
unfoldable pub values_after : List GateLine → (ℕ → Bool) → ℕ → Bool
values_after [] v = v
values_after (xor a b c ∷ gs) v = values_after gs (wire_to v c (v a ⊕ v b))
values_after (and a b c ∷ gs) v = values_after gs (wire_to v c (v a && v b))
values_after (inv a c ∷ gs) v = values_after gs (wire_to v c (not (v a)))

-- "Outputs are the last wires", in their order
unfoldable pub last_wire : Text → ℕ → ℕ
last_wire t j = t.inputs + length t.gates - t.outputs + j

unfoldable pub output_wires : Text → List ℕ
output_wires t = tabulate t.outputs (last_wire t)

-- the meaning of a text: the output bits, where the inputs, in group order, are the values of the first I wires
unfoldable pub meaning : Text → (ℕ → Bool) → List Bool
meaning t v = map (values_after t.gates v) (output_wires t)

-- a header line is whole: ended by LF, and every token a number
unfoldable pub is_header : Line → Bool
is_header l = l.ended && all_numbers (tokens l.bytes)

-- its numbers
unfoldable pub numbers_on : Line → List ℕ
numbers_on l = map value_of (tokens l.bytes)

-- line 1: gates and wires
unfoldable pub is_counts : Line → Bool
is_counts l = is_header l && eqb (length (numbers_on l)) 2

-- lines 2 and 3: the number of groups, and a size for each
unfoldable pub is_groups : Line → Bool
is_groups l = is_header l && eqb (length (numbers_on l)) (get_or (numbers_on l) 0 0 + 1)

-- the sizes of all groups together
unfoldable pub group_sum : Line → ℕ
group_sum l = sum (drop 1 (numbers_on l))

-- the names of the kinds: XOR, AND, INV
abbrev pub name_xor : List ℕ
name_xor = 88 ∷ 79 ∷ 82 ∷ []

abbrev pub name_and : List ℕ
name_and = 65 ∷ 78 ∷ 68 ∷ []

abbrev pub name_inv : List ℕ
name_inv = 73 ∷ 78 ∷ 86 ∷ []

-- the kind with a name
unfoldable pub kind_named : List ℕ → Kind
kind_named t = cond (same_bytes t name_xor) Xor (cond (same_bytes t name_and) And (cond (same_bytes t name_inv) Inv Other))

-- "a gate kind (what follows the line's last space, else the whole line)"
unfoldable pub kind_on : List ℕ → Kind
kind_on s = kind_named (the_last (tokens s))

-- 23: "other than XOR, AND, INV"
unfoldable pub is_known : Kind → Bool
is_known Xor = true
is_known And = true
is_known Inv = true
is_known Other = false

-- the numbers before the kind are of the form "i 1 .." with n numbers in all
unfoldable pub begins : ℕ → ℕ → List ℕ → Bool
begins i n ns = eqb (length ns) n && eqb (get_or ns 0 0) i && eqb (get_or ns 1 0) 1

-- "2 1 a b c XOR", "2 1 a b c AND", "1 1 a c INV"
unfoldable pub gate_named : Kind → List ℕ → Option GateLine
gate_named Xor ns = cond (begins 2 5 ns) (some (xor (get_or ns 2 0) (get_or ns 3 0) (get_or ns 4 0))) none
gate_named And ns = cond (begins 2 5 ns) (some (and (get_or ns 2 0) (get_or ns 3 0) (get_or ns 4 0))) none
gate_named Inv ns = cond (begins 1 4 ns) (some (inv (get_or ns 2 0) (get_or ns 3 0))) none
gate_named Other ns = none

-- the gate on a line, if the line is whole
unfoldable pub gate_on : Line → Option GateLine
gate_on l =
    let before : List (List ℕ) = all_but_last (tokens l.bytes) in
    cond (l.ended && all_numbers before) (gate_named (kind_on l.bytes) (map value_of before)) none

-- the wire that a gate line writes
unfoldable pub writes : GateLine → ℕ
writes (xor a b c) = c
writes (and a b c) = c
writes (inv a c) = c

-- whether one of the gate lines writes wire w
unfoldable pub written : List GateLine → ℕ → Bool
written [] w = false
written (g ∷ gs) w = eqb w (writes g) || written gs w

module _ (I G : ℕ) where
  -- "a gate reads only inputs or wires written on lines above"
  unfoldable pub readable : List GateLine → ℕ → Bool
  readable above w = ltb w I || written above w

  -- "each non-input wire is written once"
  unfoldable pub writable : List GateLine → ℕ → Bool
  writable above w = leb I w && ltb w (I + G) && not (written above w)

  -- the wires of a gate line are good below the lines above
  unfoldable pub fits_below : List GateLine → GateLine → Bool
  fits_below above (xor a b c) = readable above a && readable above b && writable above c
  fits_below above (and a b c) = readable above a && readable above b && writable above c
  fits_below above (inv a c) = readable above a && writable above c

-- 22 where a line has no gate, else what its gate leads to
unfoldable pub gate_else22 : Option GateLine → (GateLine → Reading) → Reading
gate_else22 none f = refused 22
gate_else22 (some g) f = f g

-- the gate lines, of which n are to come below the ones above: 23 another kind, then 22; 22 a line too many; 22 an early end
unfoldable pub gate_lines : ℕ → ℕ → ℕ → ℕ → List GateLine → List Line → Reading
gate_lines I O G zero above [] = says (record { inputs = I; outputs = O; gates = above })
gate_lines I O G zero above (l ∷ ls) = refused 22
gate_lines I O G (suc n) above [] = refused 22
gate_lines I O G (suc n) above (l ∷ ls) =
    cond (not (is_known (kind_on l.bytes))) (refused 23)
    (gate_else22 (gate_on l) (λ g. cond (not (fits_below I G above g)) (refused 22) (gate_lines I O G n (above ++ (g ∷ [])) ls)))

-- a reading of the lines below the header, by I, O and G
abbrev pub Below : Type 0
Below = ℕ → ℕ → ℕ → List Line → Reading

module _ (below : Below) where
  -- line 3: 22 malformed or O above the wires; 24 O not 1..256
  unfoldable pub output_line : ℕ → ℕ → List Line → Reading
  output_line I G [] = refused 22
  output_line I G (l ∷ ls) =
      cond (not (is_groups l && leb (group_sum l) (I + G))) (refused 22)
      (cond (not (leb 1 (group_sum l) && leb (group_sum l) max_outputs)) (refused 24)
      (below I (group_sum l) G ls))

  -- line 2: 22 malformed or wires other than I + G; 24 I not 1..512
  unfoldable pub input_line : ℕ → ℕ → List Line → Reading
  input_line G wires [] = refused 22
  input_line G wires (l ∷ ls) =
      cond (not (is_groups l && eqb wires (group_sum l + G))) (refused 22)
      (cond (not (leb 1 (group_sum l) && leb (group_sum l) max_inputs)) (refused 24)
      (output_line (group_sum l) G ls))

  -- line 1: 22 malformed; 24 G above 100,000
  unfoldable pub count_line : List Line → Reading
  count_line [] = refused 22
  count_line (l ∷ ls) =
      cond (not (is_counts l)) (refused 22)
      (cond (not (leb (get_or (numbers_on l) 0 0) max_gates)) (refused 24)
      (input_line (get_or (numbers_on l) 0 0) (get_or (numbers_on l) 1 0) ls))

-- all lines below the header are gate lines
abbrev pub gates_below : Below
gates_below I O G ls = gate_lines I O G G [] ls

-- reading a text: the first refusal in line order, or what the text says
unfoldable pub read_text : List ℕ → Reading
read_text s = count_line gates_below (lines s)
