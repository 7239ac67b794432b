-- Different answers stay different: in what the C functions say, and so in the paper's terms.
-- Assumes nothing.
use mathlib.Core.Path.{◌≡◌, refl, sym, ap, ap₂, ◌∙◌}
use mathlib.Core.List.{List, [], ◌∷◌}
use Prim.Native.Nat.{ℕ}
use native.Mathlib.Omega.{arith}
use Rattle.std.specs.Prelude.{⊤, Result, Ok, Err}
use Rattle.refusal.specs.declared.Refusal.{Refusal}
use Rattle.refusal.specs.Refusal.{number_of}
use Rattle.refusal.specs.Outcome.{Answer, refusal_at, success, told}
use Rattle.refusal.proofs.Laws.{number_of-injective, number_of-range}
use Rattle.circuit.specs.declared.Fault.{Fault}
use Rattle.shared_bytes.specs.Answers.{enter_paper, check_paper}
use Rattle.circuit.specs.Answers.{read_paper, evaluate_paper}
use Rattle.bristol.specs.Answers as bristol
use Rattle.upgrade.specs.Answers as upgrading
use Rattle.upgrade.specs.Upgrade.{upgrade_op}
use Rattle.upgrade.proofs.Small.{told as upgrade-told, slot_same}
use Rattle.join.specs.Answers as joining
use Rattle.one_of.specs.Answers as one_of
use Rattle.mpc.specs.Answers as mpc
use Rattle.seeds.specs.Operations as seeds
use Rattle.proving.specs.Answers as proving
use Rattle.checking.specs.Answers as checking
use Rattle.shelf.specs.Operations.{paper as shelfPaper, draw_paper}
use Rattle.wivulameno.specs.Interface.{status, values, slot}
use Rattle.wivulameno.proofs.SmallStatuses.{small-paper}
use Rattle.wivulameno.specs.Answers.{Injective, DifferentAnswers, reported, read_reported, DifferentStatuses}

-- what is different after another step was different before it
before : {A B C : Type 0} (f : A → B) (g : B → C) → Injective (λ a. g (f a)) → Injective f
before f g h a b e = h a b (ap g e)

-- no refusal has the number 0
not-zero : {A : Type 0} (k : Refusal) → ◌≡◌ {A = ℕ} 0 (number_of k) → A
not-zero k e = absurd (omega (arith, number_of-range k))

-- faults with the same number and slot are the same
same-fault : (k l : Fault) → number_of k.refusal ≡ number_of l.refusal → k.slot ≡ l.slot → k ≡ l
same-fault k l e f =
    let r : k.refusal ≡ l.refusal = number_of-injective k.refusal l.refusal e in
    λ i. record { refusal = r i; slot = f i }

read-status : (lent : List ℕ) → Injective (λ a. read_reported lent (read_paper a))
unfolding status values slot
read-status lent (Ok x) (Ok y) e =
    let f : ◌≡◌ {A = List ℕ} (x.inputs ∷ x.outputs ∷ x.gates ∷ x.ands ∷ []) (y.inputs ∷ y.outputs ∷ y.gates ∷ y.ands ∷ []) =
    ap (λ (p : (ℕ × List ℕ) × ℕ). p.0.1) e in
    let a : x.inputs ≡ y.inputs = cc in
    let b : x.outputs ≡ y.outputs = cc in
    let c : x.gates ≡ y.gates = cc in
    let d : x.ands ≡ y.ands = cc in
    λ i. Ok (record { inputs = a i; outputs = b i; gates = c i; ands = d i })
read-status lent (Ok x) (Err k) e = not-zero k.refusal (ap (λ (p : (ℕ × List ℕ) × ℕ). p.0.0) e)
read-status lent (Err k) (Ok y) e = not-zero k.refusal (sym (ap (λ (p : (ℕ × List ℕ) × ℕ). p.0.0) e))
read-status lent (Err k) (Err l) e = ap Err (same-fault k l (ap (λ (p : (ℕ × List ℕ) × ℕ). p.0.0) e) (ap (λ (p : (ℕ × List ℕ) × ℕ). p.1) e))

upgrade-status : (lent : List ℕ) → Injective (λ a. read_reported lent (upgrading.paper a))
unfolding status values slot
upgrade-status lent (Ok x) (Ok y) e =
    let f : ◌≡◌ {A = List ℕ} (x ∷ []) (y ∷ []) = ap (λ (p : (ℕ × List ℕ) × ℕ). p.0.1) e in
    let g : x ≡ y = cc in
    ap Ok g
upgrade-status lent (Ok x) (Err k) e = not-zero k.refusal (ap (λ (p : (ℕ × List ℕ) × ℕ). p.0.0) e)
upgrade-status lent (Err k) (Ok y) e = not-zero k.refusal (sym (ap (λ (p : (ℕ × List ℕ) × ℕ). p.0.0) e))
upgrade-status lent (Err k) (Err l) e = ap Err (same-fault k l (ap (λ (p : (ℕ × List ℕ) × ℕ). p.0.0) e) (ap (λ (p : (ℕ × List ℕ) × ℕ). p.1) e))

slot-told : (a : Answer) → slot a ≡ upgrade-told a
unfolding slot
slot-told (refusal_at k x) = refl
slot-told (success vs) = refl

upgrade_slot : (s out : List ℕ) → slot (upgrade_op s []).answer ≡ slot (upgrade_op s out).answer
upgrade_slot s out = slot-told _ ∙ slot_same s [] out ∙ sym (slot-told _)

-- the answers of an operation that tells no numbers
done-status : Injective (λ (a : Result ⊤ Refusal). status (told (λ _. []) a))
unfolding status
done-status (Ok x) (Ok y) e = refl
done-status (Ok x) (Err k) e = not-zero k e
done-status (Err k) (Ok y) e = not-zero k (sym e)
done-status (Err k) (Err l) e = ap Err (number_of-injective k l e)

-- those of one that tells a number
number-status : (lent : List ℕ) → Injective (λ (a : Result ℕ Refusal). reported lent (told (λ k. k ∷ []) a))
unfolding status values
number-status lent (Ok x) (Ok y) e =
    let f : ◌≡◌ {A = List ℕ} (x ∷ []) (y ∷ []) = ap (λ (p : ℕ × List ℕ). p.1) e in
    let a : x ≡ y = cc in
    ap Ok a
number-status lent (Ok x) (Err k) e = not-zero k (ap (λ (p : ℕ × List ℕ). p.0) e)
number-status lent (Err k) (Ok y) e = not-zero k (sym (ap (λ (p : ℕ × List ℕ). p.0) e))
number-status lent (Err k) (Err l) e = ap Err (number_of-injective k l (ap (λ (p : ℕ × List ℕ). p.0) e))

shelf-status : (vs : List ℕ) → Injective (λ a. status (shelfPaper a vs))
unfolding status
shelf-status vs (Ok x) (Ok y) e = refl
shelf-status vs (Ok x) (Err k) e = not-zero k e
shelf-status vs (Err k) (Ok y) e = not-zero k (sym e)
shelf-status vs (Err k) (Err l) e = ap Err (number_of-injective k l e)

draw-status : (lent : List ℕ) → Injective (λ a. reported lent (draw_paper a))
unfolding status values
draw-status lent (Ok x) (Ok y) e = ap Ok (ap (λ (p : ℕ × List ℕ). p.1) e)
draw-status lent (Ok x) (Err k) e = not-zero k (ap (λ (p : ℕ × List ℕ). p.0) e)
draw-status lent (Err k) (Ok y) e = not-zero k (sym (ap (λ (p : ℕ × List ℕ). p.0) e))
draw-status lent (Err k) (Err l) e = ap Err (number_of-injective k l (ap (λ (p : ℕ × List ℕ). p.0) e))

-- the C functions say different things of different answers
pub different-statuses : DifferentStatuses
different-statuses =
    record { read = read-status; evaluate = done-status; convert = number-status; upgrade = upgrade-status; upgrade_slot = upgrade_slot; join = number-status; one_of = number-status; run = done-status; derive = done-status; prove = number-status; check = done-status; shared_enter = done-status; shared_check = number-status; shelf = shelf-status; draw = draw-status }

-- and so do the paper's terms
pub different-answers : DifferentAnswers
different-answers =
    record {
      refusals = number_of-injective;
      read = before read_paper (read_reported []) (read-status []);
      evaluate = before evaluate_paper status done-status;
      convert = before bristol.paper (reported []) (number-status []);
      upgrade = before upgrading.paper (read_reported []) (upgrade-status []);
      join = before joining.paper (reported []) (number-status []);
      small = small-paper;
      one_of = before one_of.paper (reported []) (number-status []);
      run = before mpc.paper status done-status;
      derive = before seeds.paper status done-status;
      prove = before proving.paper (reported []) (number-status []);
      check = before checking.paper status done-status;
      shared_enter = before enter_paper status done-status;
      shared_check = before check_paper (reported []) (number-status []);
      shelf = λ vs. before (λ a. shelfPaper a vs) status (shelf-status vs);
      draw = before draw_paper (reported []) (draw-status []);
    }
