-- What evaluating answers: on a refused file, on a legal one that is lent something else, and on a good witness.
-- Assumes nothing.
use mathlib.Core.Path.{◌≡◌, refl, sym, ap, ap₂, ◌∙◌}
use mathlib.Core.Bool.{Bool, true, false, not, ◌&&◌}
use mathlib.Core.List.{List, [], ◌∷◌}
use Prim.Native.Nat.{ℕ, zero, suc, ◌+◌, ◌-◌, ◌*◌}
use native.Mathlib.Omega.{arith}
use borrow.Author.Tests.{eq-eqb, ne_eqb, eqb-true, ltb-true, not-true, not-false}
use lib.Dec.{ltb}
use lib.ListN.{length, replicate, length-replicate}
use Rattle.bits.specs.Steps.{put_bit}
use Rattle.bits.proofs.Packing.{length-put_bit}
use Rattle.circuit.specs.Steps.{max_wires, wire_bytes, gate_of, Legal, Ended, Ready, out_bits, walked, loaded, gate_bit, gates_from, walks, good_outputs}
use Rattle.bits.specs.Bits.{bit_at, oct, pack, unused_zero}
use Rattle.bits.proofs.Tabulate.{length-tabulate}
use Rattle.bits.proofs.Tests.{and-true-left, and-true-right}
use Rattle.refusal.specs.Outcome.{refusal_at, success, done as filled, unless}
use Rattle.refusal.specs.Refusal.{number_of}
use Rattle.refusal.specs.declared.Refusal.{Refusal}
use Rattle.refusal.specs.declared.Refusal.TheVariants.{BufferLength, UnusedBits}
use Rattle.circuit.specs.Circuit.{ands, evaluate}
use Rattle.circuit.specs.Fields as fields
use Rattle.circuit.specs.FieldSteps as steps
use Rattle.circuit.specs.File.{width, max_gates, inputs_of, outputs_of, gates_of, head_of, next_of, output_wire, within_limits, right_length, good_wires, reads_written, gates_in_order, circuit_of}
use Rattle.circuit.specs.Operations.{read_op, evaluate_legal, evaluate_op, holds}
use Rattle.circuit.specs.Answers.{read_paper, outcome}
use Rattle.circuit.specs.declared.Sizes.{Sizes}
use Rattle.circuit.specs.declared.Fault.{Fault}
use Rattle.std.specs.Prelude.{⊤, Result, Ok, Err}
use Rattle.circuit.proofs.Answered.{Passed, read-legal, read-success, success-passed, refusal-refused}
use Rattle.circuit.proofs.Readings.{limits-few}
use Rattle.circuit.proofs.Slots.{width-known}
use Rattle.circuit.proofs.Run.{length-loaded, walked_on, walked_end, wired-reads, evaluated, good_chain-walks, gates-order}

-- the parts of the test of wires
wires-parts : (s : List ℕ) → good_wires s ≡ true → (reads_written (λ w. ltb w (inputs_of s)) (gates_in_order s) ≡ true) × (good_outputs s (outputs_of s) ≡ true)
unfolding fields.good_wires
wires-parts s e =
    let a = reads_written (λ w. ltb w (inputs_of s)) (gates_in_order s) in
    (and-true-left a (good_outputs s (outputs_of s)) e, and-true-right a (good_outputs s (outputs_of s)) e)

length-walked : (s : List ℕ) (n k : ℕ) (v : List ℕ) → length (walked s n k v) ≡ length v
length-walked s zero k v = ap length (walked_end s 0 k v (omega arith))
length-walked s (suc n) k v =
    let p : suc n - 1 ≡ n = omega arith in
    let c = inputs_of s + k - 1 in
    let x = gate_bit (gate_of s k) (bit_at v) in
    let y = put_bit v c x in
    ap length (walked_on s (suc n) k v (omega arith)) ∙ ap (λ (j : ℕ). length (walked s j (next_of s k) y)) p
    ∙ length-walked s n (next_of s k) y ∙ length-put_bit v c x

-- a legal file: what its steps ask
module _ (s : List ℕ) (i o g : ℕ) (f : Legal s i o g) where
  pub room-loaded : (w v : List ℕ) → v ≡ loaded w i (replicate wire_bytes 0) → length v ≡ wire_bytes
  room-loaded w v e = ap length e ∙ length-loaded w (replicate wire_bytes 0) i ∙ length-replicate {A = ℕ} wire_bytes 0

  pub ready : (h : ℕ) (w v : List ℕ) → h ≡ head_of s → v ≡ loaded w i (replicate wire_bytes 0) → Ready s i o g h v
  ready h w v p e =
      let c : walks s g h ≡ true = ap₂ (walks s) f.laid.gates p ∙ good_chain-walks s f.chain in
      let r : reads_written (λ x. ltb x (inputs_of s)) (gates_from s g h) ≡ true
      = ap (reads_written (λ x. ltb x (inputs_of s))) (ap₂ (gates_from s) f.laid.gates p ∙ gates-order s) ∙ (wires-parts s f.wires).0 in
      record {
        chained = record { laid = f.laid; chain = c };
        reads = wired-reads s max_wires g h (λ x. ltb x (inputs_of s)) (λ x q. omega (arith, ltb-true x (inputs_of s) q)) (omega arith) c r;
        room = room-loaded w v e;
      }

  pub ended : (h : ℕ) (w v u : List ℕ) → v ≡ loaded w i (replicate wire_bytes 0) → u ≡ walked s g h v → Ended s i o g u
  ended h w v u e q =
      record {
        laid = f.laid;
        outputs = ap (good_outputs s) f.laid.outputs ∙ (wires-parts s f.wires).1;
        room = ap length q ∙ length-walked s g h v ∙ room-loaded w v e;
      }

  pub outputs-right : (h : ℕ) (w v u : List ℕ) → h ≡ head_of s → unused_zero i w ≡ true → v ≡ loaded w i (replicate wire_bytes 0) → u ≡ walked s g h v
      → out_bits s u o ≡ evaluate (circuit_of s) (bit_at w)
  outputs-right h w v u p z e q =
      ap (λ (x : List ℕ). out_bits s x o) (q ∙ ap (walked s g h) e)
      ∙ evaluated s i o g h w f p (omega (arith, f.laid)) (omega (arith, f.laid)) z

  -- the operation in the numbers that the code carries
  lent-form : (w y : List ℕ) → evaluate_legal w y (circuit_of s)
      ≡ unless (holds i w && holds o y) 6 (y ∷ []) (unless (unused_zero i w) 7 (y ∷ []) (filled (pack (evaluate (circuit_of s) (bit_at w)) ∷ [])))
  unfolding evaluate_legal fields.circuit_of
  lent-form w y = rw (f.laid.inputs, f.laid.outputs, length-tabulate (outputs_of s) (output_wire s))

  pub refuse-witness : (w y : List ℕ) (r : ℕ) → r ≡ oct i → (length w ≡ r → ⊥)
      → outcome (Err BufferLength) y ≡ evaluate_legal w y (circuit_of s)
  refuse-witness w y r e h = sym (lent-form w y ∙ rw (ne_eqb (length w) (oct i) (λ q. h (q ∙ sym e))))

  pub refuse-output : (w y : List ℕ) (r t : ℕ) → r ≡ oct i → length w ≡ r → t ≡ oct o → (length y ≡ t → ⊥)
      → outcome (Err BufferLength) y ≡ evaluate_legal w y (circuit_of s)
  refuse-output w y r t e a d h = sym (lent-form w y ∙ rw (eq-eqb (length w) (oct i) (a ∙ e), ne_eqb (length y) (oct o) (λ q. h (q ∙ sym d))))

  pub refuse-unused : (w y : List ℕ) (r t : ℕ) (b : Bool) → r ≡ oct i → length w ≡ r → t ≡ oct o → length y ≡ t → b ≡ unused_zero i w → not b ≡ true
      → outcome (Err UnusedBits) y ≡ evaluate_legal w y (circuit_of s)
  refuse-unused w y r t b e a d h q n =
      sym (lent-form w y ∙ rw (eq-eqb (length w) (oct i) (a ∙ e), eq-eqb (length y) (oct o) (h ∙ d), sym q ∙ not-true b n))

  pub done : (w y x : List ℕ) (r t : ℕ) (b : Bool) → r ≡ oct i → length w ≡ r → t ≡ oct o → length y ≡ t → b ≡ unused_zero i w → not b ≡ false
      → x ≡ pack (evaluate (circuit_of s) (bit_at w)) → outcome (Ok tt) x ≡ evaluate_legal w y (circuit_of s)
  done w y x r t b e a d h q n z =
      ap (outcome (Ok tt)) z
      ∙ sym (lent-form w y ∙ rw (eq-eqb (length w) (oct i) (a ∙ e), eq-eqb (length y) (oct o) (h ∙ d), sym q ∙ not-false b n))

-- a refused file
pub evaluate-refused : (s w y : List ℕ) (f : Fault) (r : Result Sizes Fault) → r ≡ Err f → read_paper r ≡ read_op s
    → outcome (Err f.refusal) y ≡ evaluate_op s w y
unfolding evaluate_op
evaluate-refused s w y f r p e =
    let q : refusal_at (number_of f.refusal) f.slot ≡ read_op s = sym (ap read_paper p) ∙ e in
    rw (refusal-refused s (number_of f.refusal) f.slot q)

-- what the right length says
sized-whole : (s : List ℕ) → right_length s ≡ true → length s ≡ width * (4 + outputs_of s + 4 * gates_of s)
unfolding fields.right_length
sized-whole s e = eqb-true (length s) (width * (4 + outputs_of s + 4 * gates_of s)) e

limited-limits : (s : List ℕ) → within_limits s ≡ steps.limits max_gates (inputs_of s) (outputs_of s) (gates_of s)
unfolding fields.within_limits steps.limits
limited-limits s = refl

-- a file that reads as legal
module _ (s : List ℕ) (z : Sizes) (r : Result Sizes Fault) (p : r ≡ Ok z) (e : read_paper r ≡ read_op s) where
  answered : success (z.inputs ∷ z.outputs ∷ z.gates ∷ z.ands ∷ []) ≡ read_op s
  answered = sym (ap read_paper p) ∙ e

  pub legal-passed : Passed s
  legal-passed = success-passed s _ answered

  sizes : success (z.inputs ∷ z.outputs ∷ z.gates ∷ z.ands ∷ []) ≡ success (inputs_of s ∷ outputs_of s ∷ gates_of s ∷ ands (gates_in_order s) ∷ [])
  sizes = answered ∙ read-success s legal-passed

  pub legal-sizes : Legal s z.inputs z.outputs z.gates
  legal-sizes =
      let q = sizes in
      let a : z.inputs ≡ inputs_of s = cc in
      let b : z.outputs ≡ outputs_of s = cc in
      let d : z.gates ≡ gates_of s = cc in
      let t = legal-passed in
      let m = limits-few max_gates (inputs_of s) (outputs_of s) (gates_of s) (sym (limited-limits s) ∙ t.front.limited) in
      let w = sized-whole s t.front.sized in
      record {
        laid = record {
          known = width-known;
          inputs = a;
          outputs = b;
          gates = d;
          few_inputs = omega arith;
          few_outputs = omega arith;
          few_gates = omega arith;
          whole = omega arith;
        };
        chain = t.chain;
        wires = t.wires;
      }

  pub evaluate-read : (w y : List ℕ) → evaluate_op s w y ≡ evaluate_legal w y (circuit_of s)
  unfolding evaluate_op
  evaluate-read w y = rw (read-legal s legal-passed)
