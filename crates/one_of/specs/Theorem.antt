-- What the new circuit is (document 02, order 12): "one with a single output, 1 exactly if the old output is in the list", of the same
-- inputs, with "at most O + N(O + 1) added for N entries".
-- Assumes nothing.
use Rattle.std.specs.Prelude.{◌≡◌, Bool, true, not, List, [], ◌∷◌, ℕ, zero, suc, ◌+◌, ◌-◌, ◌*◌, ◌%◌, ◌≤◌, ◌<◌, length, get_or}
use Rattle.bits.specs.Bits.{oct, pack, bit_val}
use Rattle.circuit.specs.Building.{builds}
use Rattle.circuit.specs.Circuit.{Circuit, ands, evaluate}
use Rattle.circuit.specs.Fields.{legal}
use Rattle.circuit.specs.File.{read_circuit}
use Rattle.circuit.specs.Meaning.{Exactly}
use Rattle.one_of.specs.OneOf.{entries, entry, repeated, added, right_size, unused_entries, room_for, one_of_file, one_of_op}

-- a list of bytes that passes the tests, for a circuit of O outputs and G gates
pub record GoodList (O G : ℕ) (list : List ℕ) : Type 0 where
  pub bytes : (i : ℕ) → get_or list i 0 < 256
  pub size : right_size O list ≡ true
  pub whole : length list % oct O ≡ 0
  pub unused : unused_entries O list (entries O list) ≡ true
  pub room : room_for G O (entries O list) ≡ true

-- an output is in the list
abbrev pub Listed : ℕ → List ℕ → List ℕ → Type 0
Listed O list y = (e : ℕ) × ((e < entries O list) × (entry O list e ≡ y))

-- how many of the first n entries were not listed before
unfoldable pub distinct : ℕ → List ℕ → ℕ → ℕ
distinct O list zero = 0
distinct O list (suc n) = distinct O list n + bit_val (not (repeated O list n))

-- d is c with one output in the place of its own: 1 exactly if the old output is in the list, for every witness
pub record OneOf (c : Circuit) (list : List ℕ) (d : Circuit) : Type 0 where
  pub inputs : d.inputs ≡ c.inputs
  pub outputs : length d.outputs ≡ 1
  pub gates : length d.gates ≡ length c.gates + added (length c.outputs) (entries (length c.outputs) list)
  pub ands_added : ands d.gates ≡ ands c.gates + distinct (length c.outputs) list (entries (length c.outputs) list) * (length c.outputs - 1)
  pub means : (w : ℕ → Bool) → Exactly (evaluate d w ≡ true ∷ []) (Listed (length c.outputs) list (pack (evaluate c w)))

-- Theorem, one_of: of a legal file and a list that passes the tests, reading the new file gives such a circuit, and the operation writes
-- that file, where the lent output is long enough; and no more gates are added than "O + N(O + 1)"
pub record OneOfTheorem : Type 0 where
  pub built : (s list : List ℕ) (c : Circuit) → ((i : ℕ) → get_or s i 0 < 256) → read_circuit s ≡ legal c
      → GoodList (length c.outputs) (length c.gates) list
      → (d : Circuit) × ((read_circuit (one_of_file s list) ≡ legal d) × OneOf c list d)
  pub written : (s list out : List ℕ) (c : Circuit) → read_circuit s ≡ legal c → GoodList (length c.outputs) (length c.gates) list
      → one_of_op s list out ≡ builds (one_of_file s list) out
  pub few : (O N : ℕ) → 1 ≤ N → added O N ≤ O + N * (O + 1)
