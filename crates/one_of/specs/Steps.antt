-- What only the contracts of steps use: no definition of the paper stands here.
-- Assumes nothing.
use Rattle.std.specs.Prelude.{List, ◌≡◌, ℕ, ◌+◌, ◌*◌, ◌≤◌, length}
use Rattle.circuit.specs.File.{width, max_gates}
use Rattle.circuit.specs.Steps.{Laid}
use Rattle.circuit.specs.declared.Sizes.{Sizes}
use Rattle.building.specs.Files.{Four}
use Rattle.one_of.specs.OneOf.{entries, four, added}
use Rattle.one_of.specs.declared.Record.{Record}

-- a record as four fields
abbrev pub as_four : Record → Four
as_four r = four r.kind r.a r.b r.next

-- z has the numbers of the file s, and the new circuit has no more gates than allowed
pub record Given (s list : List ℕ) (z : Sizes) : Type 0 where
  pub laid : Laid s z.inputs z.outputs z.gates
  pub some_outputs : 1 ≤ z.outputs
  pub few : z.gates + added z.outputs (entries z.outputs list) ≤ max_gates

-- the new file has that many gates, and the output has room for it
pub record Room (s list : List ℕ) (z : Sizes) (total : ℕ) (out : List ℕ) : Type 0 where
  pub given : Given s list z
  pub all : total ≡ z.gates + added z.outputs (entries z.outputs list)
  pub room : width * (5 + 4 * total) ≤ length out
