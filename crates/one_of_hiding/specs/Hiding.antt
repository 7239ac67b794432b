-- Theorem, one-of-hiding (document 02, order 12): "Two rows that match different entries are then witnesses of the same output, so a showing
-- fits both; this is to be stated of the built circuit." Demand 3's first half, of the file that is built: over the definition of a showing,
-- for any number of parties, and over the operation show, for the party counts that it takes.
-- Assumes nothing.
use Rattle.std.specs.Prelude.{◌≡◌, true, List, ℕ, ◌<◌, length, get_or}
use Rattle.bits.specs.Bits.{pack, bit_at}
use Rattle.parties.specs.Parties.{is_party_count}
use Rattle.circuit.specs.Circuit.{Circuit, evaluate}
use Rattle.circuit.specs.File.{legal, read_circuit}
use Rattle.hiding.specs.Hiding.{Row, Tapes, Witness, Partner, PartnerShown}
use Rattle.one_of.specs.OneOf.{one_of_file}
use Rattle.one_of.specs.Theorem.{GoodList, Listed}

-- the file of a legal circuit c and a good list, and the circuit d that is built from them
pub record BuiltFrom (s list : List ℕ) (c d : Circuit) : Type 0 where
  pub bytes : (i : ℕ) → get_or s i 0 < 256
  pub old : read_circuit s ≡ legal c
  pub good : GoodList (length c.outputs) (length c.gates) list
  pub new : read_circuit (one_of_file s list) ≡ legal d

-- a row that matches an entry: a witness of c whose output is in the list
pub record Matches (c : Circuit) (list w : List ℕ) : Type 0 where
  pub witness : Witness c w
  pub listed : Listed (length c.outputs) list (pack (evaluate c (bit_at w)))

-- Theorem, one-of-hiding: whatever entries they match, two witnesses whose outputs are in the list have the same output of the built
-- circuit, and each row of the hidden party under the one has exactly one partner under the other
pub record OneOfHiding : Type 0 where
  pub witness : (s list : List ℕ) (c d : Circuit) → BuiltFrom s list c d → (w : List ℕ) → Witness c w → Witness d w
  pub same : (s list : List ℕ) (c d : Circuit) → BuiltFrom s list c d → (w w' : List ℕ) → Matches c list w → Matches c list w'
      → pack (evaluate d (bit_at w)) ≡ pack (evaluate d (bit_at w'))
  pub partner : (s list : List ℕ) (c d : Circuit) → BuiltFrom s list c d → (n p : ℕ) → p < n → (tapes : List ℕ) → Tapes d n tapes
      → (w w' : List ℕ) → Matches c list w → Matches c list w'
      → (r : List ℕ) → Row d n p r → (r' : List ℕ) × Partner d n p tapes w w' r r'
  pub shown : (s list : List ℕ) (c d : Circuit) → BuiltFrom s list c d → (n p : ℕ) → is_party_count n ≡ true → p < n → (tapes : List ℕ) → Tapes d n tapes
      → (w w' : List ℕ) → Matches c list w → Matches c list w'
      → (r : List ℕ) → Row d n p r → (r' : List ℕ) × PartnerShown (one_of_file s list) d n p tapes w w' r r'
