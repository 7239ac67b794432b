-- Theorem, two openings (document 02, order 6): replays of the same parts with two different hidden parties give up the witness. Over the
-- definition of a replay, for any number of parties, and over the operation replay, for the party counts that it takes.
-- Assumes nothing.
use Rattle.std.specs.Prelude.{◌≡◌, true, cond, List, [], ◌∷◌, ◌≢◌, ℕ, suc, ◌*◌, ◌<◌, eqb, length, replicate}
use Rattle.bits.specs.Bits.{tabulate, oct, pack, bit_at, unused_zero}
use Rattle.bits.specs.Bytes.{row_of}
use Rattle.bits.specs.Xor.{◌⊕◌, xors}
use Rattle.refusal.specs.Outcome.{done}
use Rattle.circuit.specs.Circuit.{Circuit, evaluate}
use Rattle.circuit.specs.File.{legal, circuit_of, read_circuit}
use Rattle.circuit.specs.Operations.{holds, evaluate_op}
use Rattle.plain.specs.Run.{Transcript}
use Rattle.plain.specs.Tapes.{ands_of, row_bytes, input_masks}
use Rattle.plain.specs.Showing.{correction_bits, rows_of, hidden, Showing, replay_of}
use Rattle.mpc.specs.Operations.{broadcast_bits, prepare_op, replay_op}
use Rattle.hiding.specs.Hiding.{Witness}

-- "n tapes, right corrections, masked inputs and all broadcast rows": the parts, as bytes
pub record Parts : Type 0 where
  pub tapes : List ℕ
  pub corrections : List ℕ
  pub masked_inputs : List ℕ
  pub rows : List ℕ

-- tapes of n rows, "right corrections", masked inputs with unused bits zero
pub record Right (c : Circuit) (n : ℕ) (x : Parts) : Type 0 where
  pub tapes : length x.tapes ≡ n * row_bytes c
  pub corrections : x.corrections ≡ pack (correction_bits c n x.tapes)
  pub unused : unused_zero c.inputs x.masked_inputs ≡ true

-- the showing with party p hidden: "the tapes with row p all zero, the corrections (all zero if p = n − 1), the masked inputs, row p
-- of the broadcasts"
unfoldable pub opening : Circuit → ℕ → Parts → ℕ → Showing
opening c n x p = record {
  tapes = hidden c p x.tapes;
  corrections = cond (eqb (suc p) n) (replicate (oct (ands_of c)) 0) x.corrections;
  masked_inputs = x.masked_inputs;
  row = row_of x.rows (oct (broadcast_bits c)) p;
}

-- its replay
abbrev pub replayed : Circuit → ℕ → Parts → ℕ → Transcript
replayed c n x p = replay_of c n p (opening c n x p)

-- "the masked inputs XOR the input masks"
unfoldable pub unmasked : Circuit → ℕ → List ℕ → List ℕ → List ℕ
unmasked c n tapes masked = pack (tabulate c.inputs (λ w. bit_at masked w ⊕ xors n (input_masks c tapes w)))

-- "a witness of y"
pub record WitnessOf (c : Circuit) (y w : List ℕ) : Type 0 where
  pub witness : Witness c w
  pub gives : pack (evaluate c (bit_at w)) ≡ y

-- "suppose replays with two different hidden parties both succeed with output y and both yield those rows. Then the masked inputs
-- XOR the input masks are a witness of y. It is wanted for all circuits"
abbrev pub TwoOpenings : Type 0
TwoOpenings =
    (s : List ℕ) (c : Circuit) → read_circuit s ≡ legal c → (n p q : ℕ) → p < n → q < n → p ≢ q → (x : Parts) → Right c n x → (y : List ℕ)
    → pack (replayed c n x p).output ≡ y → rows_of n (replayed c n x p) ≡ x.rows
    → pack (replayed c n x q).output ≡ y → rows_of n (replayed c n x q) ≡ x.rows
    → WitnessOf c y (unmasked c n x.tapes x.masked_inputs)

-- the same over calls on the file s of the circuit c: if both calls of replay, lent y, succeed and leave those rows, evaluating those
-- bytes succeeds and fills y, into a lent buffer of the right length, whatever it holds; whatever the work buffers are and hold
abbrev pub TwoOpeningsReplayed : Type 0
TwoOpeningsReplayed =
    (s : List ℕ) (c : Circuit) → read_circuit s ≡ legal c → (n p q : ℕ) → p ≢ q → (x : Parts) → Right c n x → (y out out' filled work work' worked worked' : List ℕ)
    → replay_op s n p (opening c n x p) y out work ≡ done (x.rows ∷ worked ∷ [])
    → replay_op s n q (opening c n x q) y out' work' ≡ done (x.rows ∷ worked' ∷ [])
    → holds (length c.outputs) filled ≡ true → evaluate_op s (unmasked c n x.tapes x.masked_inputs) filled ≡ done (y ∷ [])

-- "the case that wrong corrections can break it": document 01's circuit K in the form in use, one AND gate of inputs 0 and 1
abbrev pub circuit_k : List ℕ
circuit_k =
    0x02 ∷ 0x00 ∷ 0x00 ∷ 0x00 ∷ 0x01 ∷ 0x00 ∷ 0x00 ∷ 0x00 ∷ 0x01 ∷ 0x00 ∷ 0x00 ∷ 0x00 ∷ 0x01 ∷ 0x00 ∷ 0x00 ∷ 0x00 ∷
    0x02 ∷ 0x00 ∷ 0x00 ∷ 0x00 ∷ 0x02 ∷ 0x00 ∷ 0x00 ∷ 0x00 ∷ 0x00 ∷ 0x00 ∷ 0x00 ∷ 0x00 ∷ 0x01 ∷ 0x00 ∷ 0x00 ∷ 0x00 ∷
    0x00 ∷ 0x00 ∷ 0x00 ∷ 0x00 ∷ []

-- n = 2, tape rows 13 and 3 as in m6, where the right correction is 1; here it is 0
abbrev pub wrong : Parts
wrong = record { tapes = 13 ∷ 3 ∷ []; corrections = 0 ∷ []; masked_inputs = 1 ∷ []; rows = 2 ∷ 1 ∷ [] }

-- a work buffer of the least length for K, as it is lent and as it is left
abbrev pub work : List ℕ
work = replicate 4288 255

abbrev pub cleared : List ℕ
cleared = replicate 4288 0

-- both replays succeed with y = 0 and leave those rows; the bytes are 3, and evaluating them gives 1
pub record WrongCorrections : Type 0 where
  pub reads : read_circuit circuit_k ≡ legal (circuit_of circuit_k)
  pub right : prepare_op circuit_k 2 wrong.tapes (255 ∷ []) work ≡ done ((1 ∷ []) ∷ cleared ∷ [])
  pub first : replay_op circuit_k 2 0 (opening (circuit_of circuit_k) 2 wrong 0) (0 ∷ []) (255 ∷ 255 ∷ []) work ≡ done (wrong.rows ∷ cleared ∷ [])
  pub second : replay_op circuit_k 2 1 (opening (circuit_of circuit_k) 2 wrong 1) (0 ∷ []) (255 ∷ 255 ∷ []) work ≡ done (wrong.rows ∷ cleared ∷ [])
  pub bytes : unmasked (circuit_of circuit_k) 2 wrong.tapes wrong.masked_inputs ≡ 3 ∷ []
  pub gives : evaluate_op circuit_k (3 ∷ []) (255 ∷ []) ≡ done ((1 ∷ []) ∷ [])
