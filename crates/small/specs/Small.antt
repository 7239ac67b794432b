-- The operation small (document 02, order 11): "all legal circuits with given I of 1 or 2, O = 1 and G up to 2. It asks by place, from 0."
-- Assumes nothing.
use Rattle.std.specs.Prelude.{Bool, false, cond, ◌&&◌, ◌||◌, List, [], ◌∷◌, ◌++◌, map, ℕ, zero, suc, ◌+◌, eqb, leb, ltb, length, get_or}
use Rattle.bits.specs.Bits.{tabulate}
use Rattle.bits.specs.Bytes.{le_bytes}
use Rattle.refusal.specs.Outcome.{Outcome, done, unless}
use Rattle.circuit.specs.Building.{builds}
use Rattle.circuit.specs.File.{width, Reading, refused, legal, read_circuit}

-- the numbers below n, ascending
abbrev pub below : ℕ → List ℕ
below n = tabulate n (λ i. i)

-- the lists that have a value of vs in front, in turn, and after it one of the lists that belong to this value
unfoldable pub choose : List ℕ → (ℕ → List (List ℕ)) → List (List ℕ)
choose [] f = []
choose (v ∷ vs) f = map (λ t. v ∷ t) (f v) ++ choose vs f

-- the lists with a value of each range, the first ones varying slowest
unfoldable pub product : List (List ℕ) → List (List ℕ)
product [] = [] ∷ []
product (vs ∷ ranges) = choose vs (λ _. product ranges)

-- what the fields of n records range over: "kind, a, b, next", where wires are below W and slots up to G
unfoldable pub record_ranges : ℕ → ℕ → ℕ → List (List ℕ)
record_ranges W G zero = []
record_ranges W G (suc n) = (1 ∷ 2 ∷ 3 ∷ []) ∷ below W ∷ below W ∷ below (suc G) ∷ record_ranges W G n

-- what the fields of a file with I inputs, one output and G gates range over: "Header: I, O, G, head; then O output wire numbers; then G
-- records"; every legal file has kinds 1 to 3, wires below I + G and links up to G
unfoldable pub ranges : ℕ → ℕ → List (List ℕ)
ranges I G = (I ∷ []) ∷ (1 ∷ []) ∷ (G ∷ []) ∷ below (suc G) ∷ below (I + G) ∷ record_ranges (I + G) G G

-- fields as bytes, in the form in use
unfoldable pub in_bytes : List ℕ → List ℕ
in_bytes [] = []
in_bytes (x ∷ xs) = le_bytes width x ++ in_bytes xs

-- whether a reading is a legal circuit with I inputs, one output and G gates
unfoldable pub has_sizes : ℕ → ℕ → Reading → Bool
has_sizes I G (refused k x) = false
has_sizes I G (legal c) = eqb c.inputs I && eqb (length c.outputs) 1 && eqb (length c.gates) G

-- the strings that pass a test, in their order
unfoldable pub keep : (List ℕ → Bool) → List (List ℕ) → List (List ℕ)
keep test [] = []
keep test (s ∷ l) = cond (test s) (s ∷ keep test l) (keep test l)

-- "all legal circuits with given I .., O = 1 and G", by their files
unfoldable pub small_files : ℕ → ℕ → List (List ℕ)
small_files I G = keep (λ s. has_sizes I G (read_circuit s)) (map in_bytes (product (ranges I G)))

-- "I of 1 or 2, O = 1 and G up to 2"
unfoldable pub small_sizes : ℕ → ℕ → ℕ → Bool
small_sizes I O G = (eqb I 1 || eqb I 2) && eqb O 1 && leb G 2

-- "at every later place the bench is told that the last has passed": a success that has no length, and the output stays
abbrev pub has_passed : List ℕ → Outcome
has_passed out = done (out ∷ [])

-- "29 a size beyond these, tested first"; then the file at this place, or that the last has passed
unfoldable pub small_op : ℕ → ℕ → ℕ → ℕ → List ℕ → Outcome
small_op I O G place out =
    unless (small_sizes I O G) 29 (out ∷ [])
    (cond (ltb place (length (small_files I G))) (builds (get_or (small_files I G) place []) out) (has_passed out))
