-- Theorem, two showings: why a root is used once. Two runs on the same tapes, shown with different hidden parties, show both witnesses.
-- Assumes nothing.
use Rattle.std.specs.Prelude.{◌≡◌, List, ◌≢◌, ℕ, ◌*◌, ◌<◌, length}
use Rattle.circuit.specs.Circuit.{Circuit}
use Rattle.plain.specs.Tapes.{row_bytes, tape_row, with_row}
use Rattle.plain.specs.Showing.{Showing, showing}
use Rattle.hiding.specs.Hiding.{Witness}
use Rattle.openings.specs.Openings.{unmasked}

-- "Laid side by side they opened every party" (the request): the tapes of the showing x, where p is hidden, with p's row of x'
unfoldable pub joined : Circuit → ℕ → Showing → Showing → List ℕ
joined c p x x' = with_row c p (tape_row c x'.tapes p) x.tapes

-- "so the buyer could read the stock": with these tapes the masked inputs of each showing give its witness
pub record BothRead (c : Circuit) (n p : ℕ) (w w' : List ℕ) (x x' : Showing) : Type 0 where
  pub one : unmasked c n (joined c p x x') x.masked_inputs ≡ w
  pub other : unmasked c n (joined c p x x') x'.masked_inputs ≡ w'

-- of any two witnesses, for any number of parties, at any cuts
abbrev pub TwoShowings : Type 0
TwoShowings =
    (c : Circuit) (n p q g g' : ℕ) → p < n → q < n → p ≢ q → (tapes w w' : List ℕ) → length tapes ≡ n * row_bytes c → Witness c w → Witness c w'
    → BothRead c n p w w' (showing c n p g w tapes) (showing c n q g' w' tapes)
