-- Every marked case is right: one test that antt computes over the whole table, and the lemma that turns it into each row.
-- Assumes nothing.
use mathlib.Core.Path.{◌≡◌, refl, ap, ap₂, ◌∙◌}
use mathlib.Core.Bool.{Bool, true, false, ◌&&◌}
use mathlib.Core.List.Memᴰ
use mathlib.Core.List.{List, [], ◌∷◌, flatten, Memᴰ}
use mathlib.Core.Logic.{⊎_elim}
use Prim.Native.Nat.{ℕ}
use native.Mathlib.Omega.{arith}
use lib.Dec.{eqb}
use borrow.Author.Tests.{eqb-true}
use Rattle.bits.specs.Bits.{odd, test_bit, from_bits, bit_at, pack, none, unused_zero}
use Rattle.bits.specs.Bytes.{le_at, le_bytes, same_bytes, row_of}
use Rattle.bits.specs.Xor.{xors}
use Rattle.bits.proofs.Equal.{same-eq}
use Rattle.bits.proofs.Tests.{and-true-left, and-true-right}
use Rattle.refusal.specs.Outcome.{Answer, refusal_at, success, Outcome}
use Rattle.circuit.specs.Circuit.{put, ands}
use Rattle.circuit.specs.Fields as fields
use Rattle.circuit.specs.File.{on_walk, reads_written}
use Rattle.circuit.specs.Chain.{walk_from}
use Rattle.circuit.specs.Building.{builds}
use Rattle.circuit.specs.Operations.{read_answer, read_op}
use Rattle.building.specs.Files.{bytes_of, file_of}
use Rattle.upgrade.specs.Upgrade.{upgraded, upgrade_op}
use Rattle.parties.specs.Parties.{height_of, is_party_count}
use Rattle.plain.specs.Run.{corrections, corrected, broadcast, outputs, run}
use Rattle.plain.specs.Tapes.{input_masks, output_masks, product_shares, used_bits, unused_rows, with_row}
use Rattle.plain.specs.Showing.{correction_bits, masked_input, masked_inputs, run_with, run_on, honest_run, row_bits, rows_of, shown_bits, first_bits, showing}
use Rattle.mpc.specs.Operations.{prepare_legal, prepare_op, ran, run_legal, run_op, holds_showing, show_legal, show_op}
use Rattle.cover.specs.Cover.{some, those, up, is_above, has_leaf, hidden, unhidden, opened, cover}
use Rattle.cover.specs.Masters.{least_from, height, cover_bytes}
use Rattle.instance.specs.Instance.{is_chosen}
use Rattle.instance.specs.Stretch.{correction_bytes, stretch_bytes}
use Rattle.proof.specs.Protocol.{asked}
use Rattle.proof.specs.File.{stretch_start}
use Rattle.marked.specs.Marked.{Case, reading, working, counting, Right, cases, MarkedCases}

-- whether two answers are the same
unfoldable same_answer : Answer → Answer → Bool
same_answer (refusal_at j x) (refusal_at k y) = eqb j k && eqb x y
same_answer (refusal_at j x) (success ys) = false
same_answer (success xs) (refusal_at k y) = false
same_answer (success xs) (success ys) = same_bytes xs ys

-- whether two lists of buffers are the same
unfoldable same_buffers : List (List ℕ) → List (List ℕ) → Bool
same_buffers [] [] = true
same_buffers [] (y ∷ ys) = false
same_buffers (x ∷ xs) [] = false
same_buffers (x ∷ xs) (y ∷ ys) = same_bytes x y && same_buffers xs ys

-- whether two outcomes are the same
unfoldable same_outcome : Outcome → Outcome → Bool
same_outcome a b = same_answer a.answer b.answer && same_buffers a.left b.left

-- the test of a row
unfoldable holds : Case → Bool
holds (reading file answer) = same_answer (read_op file) answer
holds (working a b) = same_outcome a b
holds (counting a b) = same_bytes a b

-- answers that pass the test are equal
same_answer_lem : (a b : Answer) → same_answer a b ≡ true → a ≡ b
unfolding same_answer
same_answer_lem (refusal_at j x) (refusal_at k y) t =
    ap₂ refusal_at (eqb-true j k (and-true-left (eqb j k) (eqb x y) t)) (eqb-true x y (and-true-right (eqb j k) (eqb x y) t))
same_answer_lem (refusal_at j x) (success ys) t = let z : ◌≡◌ {A = ℕ} 0 1 = cc in absurd (omega arith)
same_answer_lem (success xs) (refusal_at k y) t = let z : ◌≡◌ {A = ℕ} 0 1 = cc in absurd (omega arith)
same_answer_lem (success xs) (success ys) t = ap success (same-eq xs ys t)

-- so are buffers
same-buffers : (a b : List (List ℕ)) → same_buffers a b ≡ true → a ≡ b
unfolding same_buffers
same-buffers [] [] t = refl
same-buffers [] (y ∷ ys) t = let z : ◌≡◌ {A = ℕ} 0 1 = cc in absurd (omega arith)
same-buffers (x ∷ xs) [] t = let z : ◌≡◌ {A = ℕ} 0 1 = cc in absurd (omega arith)
same-buffers (x ∷ xs) (y ∷ ys) t =
    ap₂ (λ (u : List ℕ) (us : List (List ℕ)). u ∷ us) (same-eq x y (and-true-left (same_bytes x y) (same_buffers xs ys) t))
    (same-buffers xs ys (and-true-right (same_bytes x y) (same_buffers xs ys) t))

-- and outcomes
same_outcome_lem : (a b : Outcome) → same_outcome a b ≡ true → a ≡ b
unfolding same_outcome
same_outcome_lem a b t =
    let e = same_answer_lem a.answer b.answer (and-true-left (same_answer a.answer b.answer) (same_buffers a.left b.left) t) in
    let f = same-buffers a.left b.left (and-true-right (same_answer a.answer b.answer) (same_buffers a.left b.left) t) in
    λ i. record { answer = e i; left = f i }

-- a row that passes its test is right
row-right : (c : Case) → holds c ≡ true → Right c
unfolding holds Right
row-right (reading file answer) t = same_answer_lem (read_op file) answer t
row-right (working a b) t = same_outcome_lem a b t
row-right (counting a b) t = same-eq a b t

-- all rows of a table pass
every : List Case → Bool
every [] = true
every (c ∷ cs) = holds c && every cs

-- of such a table each row passes
every-row : (cs : List Case) → every cs ≡ true → (c : Case) → Memᴰ c cs → holds c ≡ true
unfolding every
every-row [] t c m = absurd (Memᴰ.not-nil m)
every-row (d ∷ cs) t c m =
    ⊎_elim
    (λ e. ap holds e ∙ and-true-left (holds d) (every cs) t)
    (λ r. every-row cs (and-true-right (holds d) (every cs) t) c r)
    (Memᴰ.cases_cons m)

-- the marked cases pass
table-passes : every cases ≡ true
unfolding every holds same_answer same_buffers same_outcome same_bytes flatten odd test_bit from_bits bit_at pack none unused_zero row_of xors height_of is_party_count corrections corrected broadcast outputs run input_masks output_masks product_shares used_bits unused_rows with_row correction_bits masked_input masked_inputs run_with run_on honest_run row_bits rows_of shown_bits first_bits showing prepare_legal prepare_op ran run_legal run_op holds_showing show_legal show_op le_at fields.field put ands fields.within_limits fields.right_length fields.good_record fields.good_records walk_from fields.link_of fields.chain_walk on_walk fields.chain_from fields.gate_at fields.gates_in_order reads_written fields.good_outputs fields.good_wires fields.circuit_of fields.read_with fields.read_fields read_answer read_op le_bytes builds bytes_of file_of upgraded upgrade_op correction_bytes stretch_bytes asked some those up is_above has_leaf hidden unhidden opened cover least_from height cover_bytes is_chosen stretch_start
table-passes = refl

-- every marked case is right
pub marked-cases : MarkedCases
marked-cases c m = row-right c (every-row cases table-passes c m)
