-- The operations read and evaluate (document 01, "Each operation's refusals, in order"): answer and lent memory; and what the operations
-- that are lent a work buffer have in common (document 02, order 7).
-- Assumes nothing.
use Rattle.std.specs.Prelude.{Bool, ◌&&◌, List, [], ◌∷◌, ◌++◌, ℕ, ◌+◌, ◌*◌, eqb, leb, length, replicate}
use Rattle.bits.specs.Bits.{oct, pack, bit_at, unused_zero}
use Rattle.refusal.specs.Outcome.{Answer, refusal_at, success, Outcome, refuses, done, unless}
use Rattle.circuit.specs.Circuit.{Circuit, ands, evaluate}
use Rattle.circuit.specs.File.{Reading, refused, legal, read_circuit}

-- "Success gives I, O, G, A"; a refusal is told with its slot
unfoldable pub read_answer : Reading → Answer
read_answer (refused k x) = refusal_at k x
read_answer (legal c) = success (c.inputs ∷ length c.outputs ∷ length c.gates ∷ ands c.gates ∷ [])

-- reading a circuit
unfoldable pub read_op : List ℕ → Answer
read_op s = read_answer (read_circuit s)

-- the circuit is read first: its refusals, by "its number alone"
abbrev pub on_legal : Reading → List (List ℕ) → (Circuit → Outcome) → Outcome
on_legal (refused k x) lent f = refuses k lent
on_legal (legal c) lent f = f c

-- order 7: "a work buffer of 64(I + G) + 4,096 bytes or more"
abbrev pub work_bytes : Circuit → ℕ
work_bytes c = 64 * (c.inputs + length c.gates) + 4096

-- the same answer, and this in the work buffer, which is the last of the lent buffers
abbrev pub leaving : Outcome → List ℕ → Outcome
leaving r work = record { answer = r.answer; left = r.left ++ work ∷ [] }

-- order 7: "a shorter one gives 6, directly after the circuit is read. A call refused up to that test leaves it untouched, and every later
-- ending, a refusal too, leaves it all zero"
abbrev pub on_legal_work : Reading → List (List ℕ) → List ℕ → (Circuit → Outcome) → Outcome
on_legal_work (refused k x) lent work f = refuses k (lent ++ work ∷ [])
on_legal_work (legal c) lent work f =
    unless (leb (work_bytes c) (length work)) 6 (lent ++ work ∷ []) (leaving (f c) (replicate (length work) 0))

-- a lent length as stated: k bits
abbrev pub holds : ℕ → List ℕ → Bool
holds k s = eqb (length s) (oct k)

-- evaluating a legal circuit: 6 a lent length not as stated, 7 a nonzero unused bit of the witness; else y is filled
unfoldable pub evaluate_legal : List ℕ → List ℕ → Circuit → Outcome
evaluate_legal w y c =
    let lent : List (List ℕ) = y ∷ [] in
    unless (holds c.inputs w && holds (length c.outputs) y) 6 lent
    (unless (unused_zero c.inputs w) 7 lent
    (done (pack (evaluate c (bit_at w)) ∷ [])))

-- evaluating: the circuit is read first
unfoldable pub evaluate_op : List ℕ → List ℕ → List ℕ → Outcome
evaluate_op s w y = on_legal (read_circuit s) (y ∷ []) (evaluate_legal w y)
