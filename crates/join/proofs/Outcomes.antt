-- What joining answers: by what reading the two files answers, and by their numbers.
-- Assumes nothing.
use mathlib.Core.Path.{◌≡◌, refl, sym, ap, ◌∙◌}
use mathlib.Core.Bool.{Bool, true, false, not, ◌&&◌}
use mathlib.Core.List.{List, [], ◌∷◌}
use Prim.Native.Nat.{ℕ, ◌+◌, ◌≤◌}
use borrow.Author.Tests.{eqb-true, leb-true}
use lib.Dec.{eqb, leb}
use Rattle.bits.proofs.Tabulate.{length-tabulate}
use Rattle.bits.proofs.Tests.{and-true-left, and-true-right}
use Rattle.refusal.specs.Outcome.{refusal_at, unless}
use Rattle.refusal.specs.Refusal.{number_of}
use Rattle.std.specs.Prelude.{Result, Ok, Err}
use Rattle.refusal.specs.declared.Refusal.TheVariants.{Limits, InputCounts}
use Rattle.circuit.specs.Answers.{read_paper}
use Rattle.circuit.specs.Building.{builds}
use Rattle.circuit.specs.Fields as fields
use Rattle.circuit.specs.File.{max_outputs, max_gates, outputs_of, output_wire}
use Rattle.circuit.specs.Operations.{read_op}
use Rattle.circuit.specs.Steps as steps
use Rattle.circuit.specs.declared.Fault.{Fault}
use Rattle.circuit.specs.declared.Sizes.{Sizes}
use Rattle.circuit.proofs.Answered.{Passed, read-legal, refusal-refused, gates-count, fell, held}
use Rattle.circuit.proofs.Outcomes.{legal-passed, legal-sizes}
use Rattle.join.specs.Answers.{outcome}
use Rattle.join.specs.Join.{joined, sums_within, join_legal, join_op}
use Rattle.join.specs.Steps.{ReadAs, Pair}
use Rattle.join.proofs.Small.{fits}

-- a file that reads as legal
pub read_as : (s : List ℕ) (z : Sizes) (r : Result Sizes Fault) → r ≡ Ok z → read_paper r ≡ read_op s → ReadAs s z
read_as s z r p e = sym (ap read_paper p) ∙ e

-- its numbers are within the limits
pub few-as : (s : List ℕ) (z : Sizes) → ReadAs s z → (z.outputs ≤ max_outputs) × (z.gates ≤ max_gates)
few-as s z e =
    let l = (legal-sizes s z (Ok z) refl e).laid in
    (l.few_outputs, l.few_gates)

-- the first is refused
pub first-refused : (s t out : List ℕ) (f : Fault) (r : Result Sizes Fault) → r ≡ Err f → read_paper r ≡ read_op s
    → outcome (Err f.refusal) out ≡ join_op s t out
unfolding join_op
first-refused s t out f r p e =
    let q : refusal_at (number_of f.refusal) f.slot ≡ read_op s = sym (ap read_paper p) ∙ e in
    rw (refusal-refused s (number_of f.refusal) f.slot q)

module _ (s t out : List ℕ) (y : Sizes) (a : ReadAs s y) where
  first-passed : Passed s
  first-passed = legal-passed s y (Ok y) refl a

  first-legal : steps.Legal s y.inputs y.outputs y.gates
  first-legal = legal-sizes s y (Ok y) refl a

  -- the first is legal, the second is refused
  pub second-refused : (f : Fault) (r : Result Sizes Fault) → r ≡ Err f → read_paper r ≡ read_op t
      → outcome (Err f.refusal) out ≡ join_op s t out
  unfolding join_op
  second-refused f r p e =
      let q : refusal_at (number_of f.refusal) f.slot ≡ read_op t = sym (ap read_paper p) ∙ e in
      rw (read-legal s first-passed, refusal-refused t (number_of f.refusal) f.slot q)

  -- both are legal
  module _ (z : Sizes) (b : ReadAs t z) where
    second-passed : Passed t
    second-passed = legal-passed t z (Ok z) refl b

    second-legal : steps.Legal t z.inputs z.outputs z.gates
    second-legal = legal-sizes t z (Ok z) refl b

    -- the operation in the numbers that the code carries
    op-form : join_op s t out
        ≡ unless (eqb y.inputs z.inputs) 25 (out ∷ [])
        (unless (leb (y.outputs + z.outputs) max_outputs && leb (y.gates + z.gates) max_gates) 2 (out ∷ []) (builds (joined s t) out))
    unfolding join_op join_legal sums_within fields.circuit_of
    op-form =
        let f = first-legal.laid in
        let g = second-legal.laid in
        rw
        (read-legal s first-passed, read-legal t second-passed, length-tabulate (outputs_of s) (output_wire s), length-tabulate (outputs_of t) (output_wire t), gates-count s, gates-count t, f.inputs, f.outputs, f.gates, g.inputs, g.outputs, g.gates)

    -- the tests as the code makes them
    module _ (w e : Bool) (f : w ≡ leb (y.outputs + z.outputs) max_outputs && leb (y.gates + z.gates) max_gates) (g : e ≡ eqb y.inputs z.inputs) where
      pub refuse-inputs : not e ≡ true → outcome (Err InputCounts) out ≡ join_op s t out
      refuse-inputs n = sym (op-form ∙ rw (fell _ e g n))

      pub refuse-sums : not e ≡ false → not w ≡ true → outcome (Err Limits) out ≡ join_op s t out
      refuse-sums n m = sym (op-form ∙ rw (held _ e g n, fell _ w f m))

      pub goes_on : not e ≡ false → not w ≡ false → builds (joined s t) out ≡ join_op s t out
      goes_on n m = sym (op-form ∙ rw (held _ e g n, held _ w f m))

      pub pair : not e ≡ false → not w ≡ false → Pair s t y z
      pair n m =
          let sums = held _ w f m in
          record {
            first = first-legal.laid;
            second = second-legal.laid;
            inputs = eqb-true y.inputs z.inputs (held _ e g n);
            outputs = leb-true (y.outputs + z.outputs) max_outputs (and-true-left (leb (y.outputs + z.outputs) max_outputs) (leb (y.gates + z.gates) max_gates) sums);
            gates = leb-true (y.gates + z.gates) max_gates (and-true-right (leb (y.outputs + z.outputs) max_outputs) (leb (y.gates + z.gates) max_gates) sums);
            first_fits = fits s first-passed;
            second_fits = fits t second-passed;
          }
