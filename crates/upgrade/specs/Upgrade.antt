-- The operation upgrade (document 02, order 7): "Files of the old form are passed through a converter that keeps slots, chain and meaning,
-- and refuses a damaged one as the old reading did."
-- Assumes nothing.
use Rattle.std.specs.Prelude.{List, [], ◌∷◌, ℕ}
use Rattle.refusal.specs.Outcome.{refusal_at, Outcome}
use Rattle.circuit.specs.Building.{builds}
use Rattle.circuit.specs.Fields.{Fields, field, Reading, refused, legal, read_with}
use Rattle.building.specs.Files.{file_of}

-- the old form, that of document 01: "u16 each", the bytes of a field
abbrev pub old_width : ℕ
old_width = 2

-- "G 0..4,096"
abbrev pub old_gates : ℕ
old_gates = 4096

-- the fields of a file of the old form
abbrev pub old_fields : List ℕ → Fields
old_fields s = field old_width s

-- "the old reading"
abbrev pub read_old : List ℕ → Reading
read_old s = read_with old_width old_gates s

-- the new file: all fields of the old one, in their order
unfoldable pub upgraded : List ℕ → List ℕ
upgraded s = file_of (old_fields s)

-- what the old reading refuses is refused with its number and slot; else the new file is written, if the lent output is long enough
abbrev pub on_read : Reading → List ℕ → List ℕ → Outcome
on_read (refused k x) file out = record { answer = refusal_at k x; left = out ∷ [] }
on_read (legal c) file out = builds file out

-- upgrading a file into a lent output
unfoldable pub upgrade_op : List ℕ → List ℕ → Outcome
upgrade_op s out = on_read (read_old s) (upgraded s) out
