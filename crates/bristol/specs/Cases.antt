-- Worked cases (document 02, order 3): what reading some texts gives.
-- Assumes nothing.
use Rattle.std.specs.Prelude.{◌≡◌, true, false, List, [], ◌∷◌, ◌++◌, ℕ, ltb}
use Rattle.circuit.specs.File as file
use Rattle.bristol_lines.specs.Conversion.{as_circuit, text_file}
use Rattle.bristol_text.specs.Text.{LF}
use Rattle.bristol_lines.specs.Rules.{and, Text, refused, says, meaning, read_text}

-- "1 3"
abbrev pub counts : List ℕ
counts = 49 ∷ 32 ∷ 51 ∷ []

-- "2 1 1"
abbrev pub inputs : List ℕ
inputs = 50 ∷ 32 ∷ 49 ∷ 32 ∷ 49 ∷ []

-- "1 1"
abbrev pub outputs : List ℕ
outputs = 49 ∷ 32 ∷ 49 ∷ []

-- "2 1 0 1 2 AND"
abbrev pub gate : List ℕ
gate = 50 ∷ 32 ∷ 49 ∷ 32 ∷ 48 ∷ 32 ∷ 49 ∷ 32 ∷ 50 ∷ 32 ∷ 65 ∷ 78 ∷ 68 ∷ []

-- a text of three header lines, an empty line, and what follows
abbrev pub headed : List ℕ → List ℕ
headed s = counts ++ LF ∷ inputs ++ LF ∷ outputs ++ LF ∷ LF ∷ s

-- the AND of two inputs
abbrev pub both : Text
both = record { inputs = 2; outputs = 1; gates = and 0 1 2 ∷ [] }

-- the cases, each with its text
pub record Cases : Type 0 where
  -- the text of one gate, and its meaning where both inputs are 1, and where the second is 0
  pub one_gate : read_text (headed (gate ++ LF ∷ [])) ≡ says both
  pub gives_one : meaning both (λ w. true) ≡ true ∷ []
  pub gives_zero : meaning both (λ w. ltb w 1) ≡ false ∷ []
  -- its file reads as its circuit
  pub converted : file.read_circuit (text_file both) ≡ file.legal (as_circuit both)
  -- 22: a number with a leading zero, "01 3"
  pub leading_zero : read_text (48 ∷ counts ++ LF ∷ []) ≡ refused 22
  -- 22: two spaces, "1  3"
  pub two_spaces : read_text (49 ∷ 32 ∷ 32 ∷ 51 ∷ LF ∷ []) ≡ refused 22
  -- 22: a last line without LF
  pub no_end : read_text (headed gate) ≡ refused 22
  -- 22: a text that ends before its gate line; one with a line too many, whatever its kind; one with no line
  pub early : read_text (headed []) ≡ refused 22
  pub too_many : read_text (headed (gate ++ LF ∷ 65 ∷ LF ∷ [])) ≡ refused 22
  pub empty : read_text [] ≡ refused 22
  -- 22: a gate that reads the wire it writes, "2 1 0 2 2 AND"
  pub reads_itself : read_text (headed (50 ∷ 32 ∷ 49 ∷ 32 ∷ 48 ∷ 32 ∷ 50 ∷ 32 ∷ 50 ∷ 32 ∷ 65 ∷ 78 ∷ 68 ∷ LF ∷ [])) ≡ refused 22
  -- 22 before 24 on line 2: wires other than I + G, and no inputs, "1 0"
  pub wires_first : read_text (counts ++ LF ∷ 49 ∷ 32 ∷ 48 ∷ LF ∷ []) ≡ refused 22
  -- 23 before 22: another kind on a line with a malformed number and no LF, "x EQ"
  pub kind_first : read_text (headed (120 ∷ 32 ∷ 69 ∷ 81 ∷ [])) ≡ refused 23
  -- 24: 100,001 gates, "100001 1"
  pub gates_above : read_text (49 ∷ 48 ∷ 48 ∷ 48 ∷ 48 ∷ 49 ∷ 32 ∷ 49 ∷ LF ∷ []) ≡ refused 24
