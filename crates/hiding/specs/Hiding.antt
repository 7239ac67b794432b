-- Theorem, hiding: what is shown fits every witness of the same output (demand 3, first half). Over the definition of a showing, for
-- any number of parties, and over the operation show, for the party counts that it takes.
-- Assumes nothing.
use Rattle.std.specs.Prelude.{◌≡◌, true, List, ℕ, ◌*◌, ◌≤◌, ◌<◌, length, get_or, take}
use Rattle.bits.specs.Bits.{oct, pack, bit_at, unused_zero}
use Rattle.refusal.specs.Outcome.{Outcome, done}
use Rattle.parties.specs.Parties.{is_party_count}
use Rattle.circuit.specs.Circuit.{Circuit, evaluate}
use Rattle.circuit.specs.File.{legal, read_circuit}
use Rattle.circuit.specs.Operations.{work_bytes}
use Rattle.plain.specs.Tapes.{row_bytes, used_bits, with_row, unused_rows}
use Rattle.plain.specs.Showing.{Showing, showing}
use Rattle.mpc.specs.Operations.{holds_showing, show_op}

-- len bytes
pub record Bytes (len : ℕ) (s : List ℕ) : Type 0 where
  pub size : length s ≡ len
  pub small : (k : ℕ) → get_or s k 0 < 256

-- a row that party i of n may hold: "unused bits zero; for party n − 1 the last A places are unused"
pub record Row (c : Circuit) (n i : ℕ) (r : List ℕ) : Type 0 where
  pub bytes : Bytes (row_bytes c) r
  pub unused : unused_zero (used_bits c n i) r ≡ true

-- the rows of n parties
pub record Tapes (c : Circuit) (n : ℕ) (tapes : List ℕ) : Type 0 where
  pub bytes : Bytes (n * row_bytes c) tapes
  pub unused : unused_rows c n tapes n ≡ true

-- a witness: a bit for each input
pub record Witness (c : Circuit) (w : List ℕ) : Type 0 where
  pub bytes : Bytes (oct c.inputs) w
  pub unused : unused_zero c.inputs w ≡ true

-- r' under witness w' is the partner of row r under w, where p of n parties is hidden and the others hold their rows of the tapes:
-- it makes every cut equal, the whole showing too, and no other row makes the whole showing equal
pub record Partner (c : Circuit) (n p : ℕ) (tapes w w' r r' : List ℕ) : Type 0 where
  pub row : Row c n p r'
  pub cuts : (g : ℕ) → g ≤ length c.gates → showing c n p g w (with_row c p r tapes) ≡ showing c n p g w' (with_row c p r' tapes)
  pub only : (x : List ℕ) → Row c n p x
      → showing c n p (length c.gates) w (with_row c p r tapes) ≡ showing c n p (length c.gates) w' (with_row c p x tapes) → x ≡ r'

-- Demand 3: every legal circuit, any n, any hidden p < n, whatever rows the others hold, any two witnesses of the same output: each
-- row of p under the one has exactly one partner under the other
abbrev pub Hiding : Type 0
Hiding =
    (s : List ℕ) (c : Circuit) → read_circuit s ≡ legal c → (n p : ℕ) → p < n → (tapes : List ℕ) → Tapes c n tapes
    → (w w' : List ℕ) → Witness c w → Witness c w' → pack (evaluate c (bit_at w)) ≡ pack (evaluate c (bit_at w'))
    → (r : List ℕ) → Row c n p r → (r' : List ℕ) × Partner c n p tapes w w' r r'

-- the four parts of a showing in what a call of show leaves: the work buffer stands behind them
abbrev pub four_parts : Outcome → List (List ℕ)
four_parts o = take 4 o.left

-- both calls succeed, and they fill their lent buffers alike
pub record Alike (a b : Outcome) : Type 0 where
  pub filled : List (List ℕ)
  pub one : a ≡ done filled
  pub other : b ≡ done filled

-- the partner over calls of show on the file s of the circuit c, lent buffers of the right lengths whatever they hold, and work buffers of
-- one length that are long enough: for every cut the call with r under w and the call with r' under w' fill them alike, the work buffers
-- too; and with no other row does the call for the whole showing fill its four parts so, whatever the work buffers' lengths
pub record PartnerShown (s : List ℕ) (c : Circuit) (n p : ℕ) (tapes w w' r r' : List ℕ) : Type 0 where
  pub row : Row c n p r'
  pub cuts : (g : ℕ) → g ≤ length c.gates → (out out' : Showing) → holds_showing c n out ≡ true → holds_showing c n out' ≡ true
      → (work work' : List ℕ) → work_bytes c ≤ length work → length work ≡ length work'
      → Alike (show_op s n p g w (with_row c p r tapes) out work) (show_op s n p g w' (with_row c p r' tapes) out' work')
  pub only : (x : List ℕ) → Row c n p x → (out out' : Showing) → holds_showing c n out ≡ true → holds_showing c n out' ≡ true
      → (work work' : List ℕ) → work_bytes c ≤ length work → work_bytes c ≤ length work'
      → four_parts (show_op s n p (length c.gates) w (with_row c p r tapes) out work)
      ≡ four_parts (show_op s n p (length c.gates) w' (with_row c p x tapes) out' work')
      → x ≡ r'

-- "Demand 3's first half is about showings, as show fills them": hiding over the operation
abbrev pub HidingShown : Type 0
HidingShown =
    (s : List ℕ) (c : Circuit) → read_circuit s ≡ legal c → (n p : ℕ) → is_party_count n ≡ true → p < n → (tapes : List ℕ) → Tapes c n tapes
    → (w w' : List ℕ) → Witness c w → Witness c w' → pack (evaluate c (bit_at w)) ≡ pack (evaluate c (bit_at w'))
    → (r : List ℕ) → Row c n p r → (r' : List ℕ) × PartnerShown s c n p tapes w w' r r'
