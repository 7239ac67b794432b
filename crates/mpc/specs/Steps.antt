-- What only the contracts of steps use: no definition of the paper stands here.
-- Assumes nothing.
use Rattle.std.specs.Prelude.{◌≡◌, true, List, ℕ, ◌+◌, ◌*◌, ◌≤◌, length}
use Rattle.std.proofs.lemmas.List.Edits.{sets}
use Rattle.bits.specs.Bits.{oct, unused_zero}
use Rattle.circuit.specs.Circuit.{ands}
use Rattle.circuit.specs.File.{gates_in_order, circuit_of}
use Rattle.circuit.specs.Steps.{Legal}
use Rattle.circuit.specs.declared.Sizes.{Sizes}
use Rattle.plain.specs.Tapes.{unused_rows}
use Rattle.masks.specs.Steps.{wire_count, rows_from, worked, corrections_of}
use Rattle.planes.specs.Steps.{Room, corrections_at, rows_at, leaves_at}
use Rattle.walk.specs.Steps.{layout_of}

-- a legal file with its I, O, G and A
pub record Known (s : List ℕ) (z : Sizes) : Type 0 where
  pub legal : Legal s z.inputs z.outputs z.gates
  pub ands : z.ands ≡ ands (gates_in_order s)

-- a number of parties
pub record Parties (n : ℕ) : Type 0 where
  pub some : 1 ≤ n
  pub few : n ≤ 64

-- the bytes of a circuit's work memory
abbrev pub memory_bytes : Sizes → ℕ
memory_bytes z = 64 * wire_count z + 4096

-- n parties, with a work memory
pub record Working (z : Sizes) (n : ℕ) (m : List ℕ) : Type 0 where
  pub parties : Parties n
  pub room : memory_bytes z ≤ length m

-- a memory that holds the planes, the corrections and the tape rows of n parties
pub record Placed (z : Sizes) (n : ℕ) (m : List ℕ) : Type 0 where
  pub few : n ≤ 64
  pub room : Room (layout_of z) m
  pub rows : leaves_at (layout_of z) n ≤ length m

-- the tapes of n parties
abbrev pub TapesFit : Sizes → ℕ → List ℕ → Type 0
TapesFit z n tapes = length tapes ≡ n * oct (z.inputs + 2 * z.ands)

-- what prepare is lent: the tapes of n parties, and a place for the corrections
pub record PrepareLent (s : List ℕ) (z : Sizes) (n : ℕ) (tapes corrections : List ℕ) : Type 0 where
  pub tapes_fit : TapesFit z n tapes
  pub unused : unused_rows (circuit_of s) n tapes n ≡ true
  pub corrections_fit : length corrections ≡ oct z.ands

-- a witness of I bits
pub record WitnessFits (z : Sizes) (w : List ℕ) : Type 0 where
  pub size : length w ≡ oct z.inputs
  pub unused : unused_zero z.inputs w ≡ true

-- what run is lent
pub record RunLent (z : Sizes) (n : ℕ) (tapes corrections masked rows y : List ℕ) : Type 0 where
  pub tapes_fit : TapesFit z n tapes
  pub corrections_fit : length corrections ≡ oct z.ands
  pub masked_fit : length masked ≡ oct z.inputs
  pub rows_fit : length rows ≡ n * oct (z.ands + z.outputs)
  pub y_fits : length y ≡ oct z.outputs

-- what show is lent: a witness of I bits and the tapes of n parties
pub record ShowLent (s : List ℕ) (z : Sizes) (n : ℕ) (witness tapes : List ℕ) : Type 0 where
  pub witness_fits : length witness ≡ oct z.inputs
  pub tapes_fit : TapesFit z n tapes
  pub unused : unused_rows (circuit_of s) n tapes n ≡ true

-- the lengths of a showing's parts
pub record ShowingFits (z : Sizes) (n : ℕ) (tapes corrections masked row : List ℕ) : Type 0 where
  pub tapes_fit : TapesFit z n tapes
  pub corrections_fit : length corrections ≡ oct z.ands
  pub masked_fit : length masked ≡ oct z.inputs
  pub row_fits : length row ≡ oct (z.ands + z.outputs)

-- the memory with the tapes in their place, and with the corrections too
unfoldable pub with_tapes : Sizes → List ℕ → List ℕ → List ℕ
with_tapes z tapes m = sets m (rows_at (layout_of z)) tapes

unfoldable pub with_both : Sizes → List ℕ → List ℕ → List ℕ → List ℕ
with_both z tapes corrections m = sets (with_tapes z tapes m) (corrections_at (layout_of z)) corrections

-- the memory with the tapes in their place, and with the corrections made of them by the masks
unfoldable pub prepared : List ℕ → Sizes → ℕ → List ℕ → List ℕ → List ℕ
prepared s z n tapes m =
    let k : List ℕ = with_tapes z tapes m in
    sets (worked s z n (rows_from z n (rows_at (layout_of z)) k) k) (corrections_at (layout_of z)) (corrections_of s z n (rows_from z n (rows_at (layout_of z)) k))
