-- The operations that write a circuit file into a lent output (document 02, order 3): "6, a lent output shorter than the file, comes last
-- here and in every later builder, success gives the file's length, and bytes beyond the file stay".
-- Assumes nothing.
use Rattle.std.specs.Prelude.{List, [], ◌∷◌, ◌++◌, ℕ, leb, length, drop}
use Rattle.refusal.specs.Outcome.{success, Outcome, unless}

-- the file at the front of the output, whose bytes beyond it stay
abbrev pub front : List ℕ → List ℕ → List ℕ
front file out = file ++ drop (length file) out

unfoldable pub builds : List ℕ → List ℕ → Outcome
builds file out =
    unless (leb (length file) (length out)) 6 (out ∷ [])
    (record { answer = success (length file ∷ []); left = front file out ∷ [] })
