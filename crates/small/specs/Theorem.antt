-- What stands at the places (document 02, order 11): "They come in ascending order of their files, compared byte by byte from the first;
-- each comes exactly once".
-- Assumes nothing.
use Rattle.std.specs.Prelude.{◌≡◌, true, List, [], ◌∷◌, ℕ, ◌<◌, ◌≤◌, length, get_or}
use Rattle.refusal.specs.Outcome.{success}
use Rattle.circuit.specs.Circuit.{Circuit}
use Rattle.circuit.specs.File.{legal, read_circuit}
use Rattle.small.specs.Order.{Before}
use Rattle.small.specs.Small.{small_files, small_sizes, small_op}

-- a byte string that reads as a legal circuit with I inputs, one output and G gates
pub record IsSmall (I G : ℕ) (s : List ℕ) : Type 0 where
  pub byte : (i : ℕ) → get_or s i 0 < 256
  pub circuit : Circuit
  pub reads : read_circuit s ≡ legal circuit
  pub inputs : circuit.inputs ≡ I
  pub outputs : length circuit.outputs ≡ 1
  pub gates : length circuit.gates ≡ G

-- the string stands at this place
pub record StandsAt (I G : ℕ) (s : List ℕ) (place : ℕ) : Type 0 where
  pub inside : place < length (small_files I G)
  pub there : get_or (small_files I G) place [] ≡ s

-- Theorem, every-small-circuit: for each I, G of the order, every such string stands at a place, no string stands at two, at every place
-- there is such a string, and a later place has a later string
pub record EverySmallCircuit : Type 0 where
  pub all : (I G : ℕ) → small_sizes I 1 G ≡ true → (s : List ℕ) → IsSmall I G s → (place : ℕ) × StandsAt I G s place
  pub once : (I G : ℕ) → small_sizes I 1 G ≡ true → (s : List ℕ) (j k : ℕ) → StandsAt I G s j → StandsAt I G s k → j ≡ k
  pub only : (I G : ℕ) → small_sizes I 1 G ≡ true → (place : ℕ) → place < length (small_files I G) → IsSmall I G (get_or (small_files I G) place [])
  pub ascending : (I G : ℕ) → small_sizes I 1 G ≡ true → (j k : ℕ) → j < k → k < length (small_files I G)
      → Before (get_or (small_files I G) j []) (get_or (small_files I G) k [])

-- Theorem, never-empty: a length that is told is that of a file, so 20 bytes or more
pub record NeverEmpty : Type 0 where
  pub long : (I O G place k : ℕ) (out : List ℕ) → (small_op I O G place out).answer ≡ success (k ∷ []) → 20 ≤ k

-- Theorem, counts: "With I = O = G = 1 there are 6, and with I = O = 1 and G = 0 there is 1"; and so for the other sizes
pub record Counts : Type 0 where
  pub one_none : length (small_files 1 0) ≡ 1
  pub one_one : length (small_files 1 1) ≡ 6
  pub one_two : length (small_files 1 2) ≡ 180
  pub two_none : length (small_files 2 0) ≡ 2
  pub two_one : length (small_files 2 1) ≡ 30
  pub two_two : length (small_files 2 2) ≡ 1680
