-- The operation convert (document 02, order 3): answer and lent memory.
-- Assumes nothing.
use Rattle.std.specs.Prelude.{List, [], ◌∷◌, ℕ}
use Rattle.refusal.specs.Outcome.{Outcome, refuses}
use Rattle.circuit.specs.Building.{builds}
use Rattle.bristol_lines.specs.Rules.{Reading, refused, says, read_text}
use Rattle.bristol_lines.specs.Conversion.{text_file}

-- a refusal, or the file in the lent output
unfoldable pub conversion : Reading → List ℕ → Outcome
conversion (refused k) out = refuses k (out ∷ [])
conversion (says t) out = builds (text_file t) out

-- converting a text into a lent output
unfoldable pub convert_op : List ℕ → List ℕ → Outcome
convert_op s out = conversion (read_text s) out
