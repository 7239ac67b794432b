-- Theorem, joined-hiding (document 02, order 8): "Demand 3's first half is to be stated of the joined circuit, for witnesses equal in both
-- outputs."
-- Assumes nothing.
use Rattle.std.specs.Prelude.{◌≡◌, true, List, ℕ, ◌<◌}
use Rattle.bits.specs.Bits.{pack, bit_at}
use Rattle.parties.specs.Parties.{is_party_count}
use Rattle.circuit.specs.Circuit.{Circuit, evaluate}
use Rattle.hiding.specs.Hiding.{Row, Tapes, Witness, Partner, PartnerShown}
use Rattle.join.specs.Join.{joined}
use Rattle.join.specs.Theorem.{joined_circuit, Joins}

-- two witnesses of the same output
abbrev pub SameOutput : Circuit → List ℕ → List ℕ → Type 0
SameOutput c w w' = pack (evaluate c (bit_at w)) ≡ pack (evaluate c (bit_at w'))

-- every two circuits that join, any n, any hidden p < n, whatever rows the others hold, any two "witnesses equal in both outputs": each row
-- of p under the one has exactly one partner under the other; over the definition of a showing
abbrev pub Hides : Type 0
Hides =
    (s t : List ℕ) (c d : Circuit) → Joins s t c d → (n p : ℕ) → p < n → (tapes : List ℕ) → Tapes (joined_circuit c d) n tapes
    → (w w' : List ℕ) → Witness (joined_circuit c d) w → Witness (joined_circuit c d) w' → SameOutput c w w' → SameOutput d w w'
    → (r : List ℕ) → Row (joined_circuit c d) n p r → (r' : List ℕ) × Partner (joined_circuit c d) n p tapes w w' r r'

-- and over the operation show, called on the joined file, for the party counts that it takes
abbrev pub HidesShown : Type 0
HidesShown =
    (s t : List ℕ) (c d : Circuit) → Joins s t c d → (n p : ℕ) → is_party_count n ≡ true → p < n → (tapes : List ℕ)
    → Tapes (joined_circuit c d) n tapes → (w w' : List ℕ) → Witness (joined_circuit c d) w → Witness (joined_circuit c d) w'
    → SameOutput c w w' → SameOutput d w w' → (r : List ℕ) → Row (joined_circuit c d) n p r
    → (r' : List ℕ) × PartnerShown (joined s t) (joined_circuit c d) n p tapes w w' r r'

-- Theorem, joined-hiding
pub record JoinedHiding : Type 0 where
  pub partner : Hides
  pub shown : HidesShown
