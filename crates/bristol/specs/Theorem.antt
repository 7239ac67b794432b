-- What converting a text gives (document 02, order 3): "A converted circuit evaluates as the text does by that format's rules", and
-- "success gives the file's length, and bytes beyond the file stay".
-- Assumes nothing.
use Rattle.std.specs.Prelude.{◌≡◌, Bool, List, [], ◌∷◌, ℕ, ◌≤◌, length}
use Rattle.refusal.specs.Outcome.{success, Outcome}
use Rattle.circuit.specs.Building.{front}
use Rattle.circuit.specs.Circuit.{evaluate}
use Rattle.circuit.specs.File.{read_circuit, legal}
use Rattle.bristol_lines.specs.Rules.{Text, says, meaning, read_text}
use Rattle.bristol_lines.specs.Conversion.{as_circuit, text_file}
use Rattle.bristol.specs.Operations.{convert_op}

-- Theorem, converted: the circuit of a text evaluates as the text does; the file of an accepted text reads as that circuit, and is written
-- where the lent output is long enough
pub record Converted : Type 0 where
  pub meant : (t : Text) (v : ℕ → Bool) → evaluate (as_circuit t) v ≡ meaning t v
  pub reads : (s : List ℕ) (t : Text) → read_text s ≡ says t → read_circuit (text_file t) ≡ legal (as_circuit t)
  pub written : (s out : List ℕ) (t : Text) → read_text s ≡ says t → length (text_file t) ≤ length out
      → ◌≡◌ {A = Outcome} (convert_op s out) (record { answer = success (length (text_file t) ∷ []); left = front (text_file t) out ∷ [] })
