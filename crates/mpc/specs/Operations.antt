-- The operations prepare, run, show and replay: answer and lent memory (document 01, "Each operation's refusals, in order"):
-- "1 to 5 [by document 02, order 2: 1, 2, 3, 19, 20, 21 and 5], then 8 for n, 9 for p at or above n or a cut above G, 6 a lent
-- length not as stated, 7 a nonzero unused bit, each where the operation has that input." "A refusal returns its number alone, and all lent buffers hold what they held."
-- By document 02, order 7, each is lent a work buffer last: it is tested directly after the circuit is read, and is left all zero.
-- Assumes nothing.
use Rattle.std.specs.Prelude.{Bool, not, ◌&&◌, ◌||◌, List, [], ◌∷◌, ℕ, suc, ◌+◌, ◌*◌, eqb, leb, ltb, length}
use Rattle.bits.specs.Bits.{oct, pack, bit_at, unused_zero}
use Rattle.bits.specs.Bytes.{same_bytes}
use Rattle.refusal.specs.Outcome.{Outcome, done, unless}
use Rattle.parties.specs.Parties.{is_party_count}
use Rattle.circuit.specs.Circuit.{Circuit}
use Rattle.circuit.specs.File.{read_circuit}
use Rattle.circuit.specs.Operations.{on_legal_work, holds}
use Rattle.plain.specs.Run.{Transcript}
use Rattle.plain.specs.Tapes.{ands_of, tape_row, unused_rows}
use Rattle.plain.specs.Showing.{correction_bits, masked_inputs, run_on, rows_of, Showing, showing, replay_of}

-- n rows for k bits each
abbrev pub holds_rows : ℕ → ℕ → List ℕ → Bool
holds_rows n k s = eqb (length s) (n * oct k)

-- the bits of a tape row, and of a broadcast row
abbrev pub tape_bits : Circuit → ℕ
tape_bits c = c.inputs + 2 * ands_of c

abbrev pub broadcast_bits : Circuit → ℕ
broadcast_bits c = ands_of c + length c.outputs

-- "prepare, from the tapes, the corrections"
unfoldable pub prepare_legal : ℕ → List ℕ → List ℕ → Circuit → Outcome
prepare_legal n tapes out c =
    let lent : List (List ℕ) = out ∷ [] in
    unless (is_party_count n) 8 lent
    (unless (holds_rows n (tape_bits c) tapes && holds (ands_of c) out) 6 lent
    (unless (unused_rows c n tapes n) 7 lent
    (done (pack (correction_bits c n tapes) ∷ []))))

unfoldable pub prepare_op : List ℕ → ℕ → List ℕ → List ℕ → List ℕ → Outcome
prepare_op s n tapes out work = on_legal_work (read_circuit s) (out ∷ []) work (prepare_legal n tapes out)

-- the outputs of a run: "the masked inputs, n broadcast rows and y"
unfoldable pub ran : Circuit → ℕ → List ℕ → List ℕ → List ℕ → List (List ℕ)
ran c n witness tapes corrections =
    let r : Transcript = run_on c n witness tapes (bit_at corrections) in
    masked_inputs c n witness tapes ∷ rows_of n r ∷ pack r.output ∷ []

-- "run, from witness, tapes and corrections as lent"
unfoldable pub run_legal : ℕ → List ℕ → List ℕ → List ℕ → List ℕ → List ℕ → List ℕ → Circuit → Outcome
run_legal n witness tapes corrections masked rows y c =
    let lent : List (List ℕ) = masked ∷ rows ∷ y ∷ [] in
    unless (is_party_count n) 8 lent
    (unless
    (holds c.inputs witness && holds_rows n (tape_bits c) tapes && holds (ands_of c) corrections && holds c.inputs masked
    && holds_rows n (broadcast_bits c) rows && holds (length c.outputs) y)
    6 lent
    (unless (unused_zero c.inputs witness && unused_rows c n tapes n && unused_zero (ands_of c) corrections) 7 lent
    (done (ran c n witness tapes corrections))))

unfoldable pub run_op : List ℕ → ℕ → List ℕ → List ℕ → List ℕ → List ℕ → List ℕ → List ℕ → List ℕ → Outcome
run_op s n witness tapes corrections masked rows y work =
    on_legal_work (read_circuit s) (masked ∷ rows ∷ y ∷ []) work (run_legal n witness tapes corrections masked rows y)

-- a showing's four parts
abbrev pub parts_of : Showing → List (List ℕ)
parts_of x = x.tapes ∷ x.corrections ∷ x.masked_inputs ∷ x.row ∷ []

-- the lengths of a showing's four parts
unfoldable pub holds_showing : Circuit → ℕ → Showing → Bool
holds_showing c n x =
    holds_rows n (tape_bits c) x.tapes && holds (ands_of c) x.corrections && holds c.inputs x.masked_inputs
    && holds (broadcast_bits c) x.row

-- "show, from witness and tapes, makes the corrections itself and fills the cut's four parts"
unfoldable pub show_legal : ℕ → ℕ → ℕ → List ℕ → List ℕ → Showing → Circuit → Outcome
show_legal n p cut witness tapes out c =
    let lent : List (List ℕ) = parts_of out in
    unless (is_party_count n) 8 lent
    (unless (ltb p n && leb cut (length c.gates)) 9 lent
    (unless (holds c.inputs witness && holds_rows n (tape_bits c) tapes && holds_showing c n out) 6 lent
    (unless (unused_zero c.inputs witness && unused_rows c n tapes n) 7 lent
    (done (parts_of (showing c n p cut witness tapes))))))

unfoldable pub show_op : List ℕ → ℕ → ℕ → ℕ → List ℕ → List ℕ → Showing → List ℕ → Outcome
show_op s n p cut witness tapes out work = on_legal_work (read_circuit s) (parts_of out) work (show_legal n p cut witness tapes out)

-- "7 also for a nonzero hidden row, or nonzero corrections with p = n − 1"
unfoldable pub unused_showing : Circuit → ℕ → ℕ → Showing → Bool
unused_showing c n p x =
    unused_rows c n x.tapes n && unused_zero (ands_of c) x.corrections && unused_zero c.inputs x.masked_inputs
    && unused_zero (broadcast_bits c) x.row && unused_zero 0 (tape_row c x.tapes p)
    && (not (eqb (suc p) n) || unused_zero 0 x.corrections)

-- "Replay an opened run: as above; .. then 10, the output differs from y. It is lent a showing's four parts and y; success fills n
-- broadcast rows, row p as lent."
unfoldable pub replay_legal : ℕ → ℕ → Showing → List ℕ → List ℕ → Circuit → Outcome
replay_legal n p x y rows c =
    let lent : List (List ℕ) = rows ∷ [] in
    let r : Transcript = replay_of c n p x in
    unless (is_party_count n) 8 lent
    (unless (ltb p n) 9 lent
    (unless (holds_showing c n x && holds (length c.outputs) y && holds_rows n (broadcast_bits c) rows) 6 lent
    (unless (unused_showing c n p x && unused_zero (length c.outputs) y) 7 lent
    (unless (same_bytes (pack r.output) y) 10 lent (done (rows_of n r ∷ []))))))

unfoldable pub replay_op : List ℕ → ℕ → ℕ → Showing → List ℕ → List ℕ → List ℕ → Outcome
replay_op s n p x y rows work = on_legal_work (read_circuit s) (rows ∷ []) work (replay_legal n p x y rows)
