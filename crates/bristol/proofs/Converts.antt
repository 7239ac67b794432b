-- Theorem, converted: the file of an accepted text reads as the text's circuit, which evaluates as the text does, and is written.
-- Assumes nothing.
use mathlib.Core.Path.{◌≡◌, refl, ap, ◌∙◌}
use mathlib.Core.Bool.{Bool, true, false, ◌||◌}
use mathlib.Core.List.{List, [], ◌∷◌, map}
use Prim.Native.Nat.{ℕ, zero, suc, ◌+◌, ◌*◌, ◌≤◌}
use native.Mathlib.Omega.{arith}
use lib.Dec.{ltb}
use lib.ListN.{length}
use borrow.Author.Tests.{le-leb, lt-ltb, le-ltb, eq-eqb}
use Rattle.bits.specs.Bits.{tabulate}
use Rattle.bits.proofs.Tabulate.{tabulate-cong}
use Rattle.refusal.specs.Outcome.{success, Outcome}
use Rattle.circuit.specs.Building.{front}
use Rattle.circuit.specs.Circuit as paper
use Rattle.circuit.specs.Fields as form
use Rattle.circuit.specs.File.{width, max_inputs, max_outputs, max_gates, inputs_of, outputs_of, gates_of, head_of, output_wire, within_limits, right_length, good_records, chain_walk, good_chain, on_walk, chain_from, gates_in_order, good_wires, circuit_of, legal, read_circuit}
use Rattle.circuit.specs.Steps.{good_record, good_outputs}
use Rattle.bits.specs.Counting.{count}
use Rattle.circuit.proofs.Visits.{chain-theorem}
use Rattle.circuit.proofs.Walking.{well-ends, chain-walks}
use Rattle.building.proofs.Built.{built}
use Rattle.bristol_lines.specs.Rules.{Text, Reading, says, written, readable, last_wire, output_wires, read_text}
use Rattle.bristol_lines.specs.Conversion.{as_gate, as_circuit, first_slot, text_file}
use Rattle.bristol.specs.Operations.{conversion, convert_op}
use Rattle.bristol.specs.Theorem.{Converted}
use Rattle.bristol_lines.proofs.Accepted.{Accepted, text-accepted}
use Rattle.bristol_lines.proofs.Chained.{linked-walks, linked-gates, linked-good, fits-reads}
use Rattle.bristol.proofs.Filed.{file-inputs, file-outputs, file-gates, file-head, file-length, file-output, last-small}
use Rattle.bristol.proofs.Meant.{meant}
use Rattle.bristol.proofs.Slots.{all-linked, head_small}

-- a file that passes every test
all-tests : (s : List ℕ) (c : paper.Circuit) → ltb (length s) (width * 4) ≡ false → within_limits s ≡ true → right_length s ≡ true
    → good_records s (gates_of s) ≡ true → good_chain s ≡ true → good_wires s ≡ true → circuit_of s ≡ c → read_circuit s ≡ legal c
unfolding form.read_with form.read_fields form.good_chain on_walk
all-tests s c e₁ e₂ e₃ e₄ e₅ e₆ e₇ = rw (e₁, e₂, e₃, e₄, well-ends (chain_walk s) e₅, e₆, e₇)

limits-pass : (s : List ℕ) → 1 ≤ inputs_of s → inputs_of s ≤ max_inputs → 1 ≤ outputs_of s → outputs_of s ≤ max_outputs → gates_of s ≤ max_gates → within_limits s ≡ true
unfolding form.within_limits
limits-pass s a b c d e =
    rw (le-leb 1 (inputs_of s) a, le-leb (inputs_of s) max_inputs b, le-leb 1 (outputs_of s) c, le-leb (outputs_of s) max_outputs d, le-leb (gates_of s) max_gates e)

records-pass : (s : List ℕ) (n : ℕ) → ((x : ℕ) → 1 ≤ x → x ≤ n → good_record s x ≡ true) → good_records s n ≡ true
unfolding form.good_records
records-pass s zero h = refl
records-pass s (suc n) h =
    rw (records-pass s n (λ x a b. h x a (omega arith))) (h (suc n) (omega arith) (omega arith))

-- below no line, the inputs are readable
readable-first : (I G w : ℕ) → ltb w I ≡ readable I G [] w
unfolding readable written
readable-first I G w = or-false (ltb w I)
  where
    or-false : (b : Bool) → b ≡ b || false
    or-false true = refl
    or-false false = refl

-- a circuit is known by its parts
same_parts : {i j : ℕ} {o p : List ℕ} {g h : List paper.Gate} → i ≡ j → o ≡ p → g ≡ h
    → ◌≡◌ {A = paper.Circuit} (record { inputs = i; outputs = o; gates = g }) (record { inputs = j; outputs = p; gates = h })
same_parts a b c = rw (a, b, c)

module _ (t : Text) (k : Accepted t) where
  abbrev f : List ℕ
  f = text_file t

  limits-good : within_limits f ≡ true
  limits-good =
      limits-pass f (omega (arith, file-inputs t k, k.some_inputs)) (omega (arith, file-inputs t k, k.few_inputs))
      (omega (arith, file-outputs t k, k.some_outputs)) (omega (arith, file-outputs t k, k.few_outputs))
      (omega (arith, file-gates t k, k.few_gates))

  length-good : right_length f ≡ true
  unfolding form.right_length
  length-good = eq-eqb (length f) (width * (4 + outputs_of f + 4 * gates_of f)) (omega (arith, file-length t, file-outputs t k, file-gates t k))

  pub head : head_of f ≡ first_slot t.inputs t.gates
  head = file-head t k (head_small t k)

  pub chain-good : good_chain f ≡ true
  chain-good = rw (chain-walks f, file-gates t k, head) (linked-walks f t.inputs t.gates (all-linked t k))

  records-good : good_records f (gates_of f) ≡ true
  records-good =
      records-pass f (gates_of f)
      (λ x a b.
      let once : count x (chain_from f (gates_of f) (head_of f)) ≡ 1 = (chain-theorem.sound f chain-good).once x a b in
      let some : 1 ≤ count x (chain_from f (gates_of f) (head_of f)) = omega (arith, once) in
      let visited : 1 ≤ count x (chain_from f (length t.gates) (first_slot t.inputs t.gates)) = rw (file-gates t k, head) at some in
      linked-good f t.inputs t.gates (all-linked t k) x visited)

  gates-same : gates_in_order f ≡ map as_gate t.gates
  unfolding form.gates_in_order
  gates-same = rw (file-gates t k, head) (linked-gates f t.inputs t.gates (all-linked t k))

  outputs-good : (n : ℕ) → n ≤ t.outputs → good_outputs f n ≡ true
  unfolding form.good_outputs
  outputs-good zero h = refl
  outputs-good (suc n) h =
      rw (outputs-good n (omega arith))
      (lt-ltb (output_wire f n) (inputs_of f + gates_of f)
      (omega (arith, file-output t k n h, last-small t k n h, file-inputs t k, file-gates t k)))

  wires-good : good_wires f ≡ true
  unfolding form.good_wires
  wires-good =
      rw (gates-same, file-outputs t k, outputs-good t.outputs (omega arith), file-inputs t k)
      (rw (fits-reads t.inputs (length t.gates) (λ w. ltb w t.inputs) [] t.gates (λ w. readable-first t.inputs (length t.gates) w) k.fits))

  same-circuit : circuit_of f ≡ as_circuit t
  unfolding form.circuit_of as_circuit output_wires
  same-circuit =
      same_parts (file-inputs t k)
      (ap (λ (n : ℕ). tabulate n (output_wire f)) (file-outputs t k) ∙ tabulate-cong t.outputs (output_wire f) (last_wire t) (file-output t k))
      gates-same

  reads-file : read_circuit f ≡ legal (as_circuit t)
  reads-file =
      all-tests f (as_circuit t) (le-ltb (length f) (width * 4) (omega (arith, file-length t))) limits-good length-good records-good chain-good
      wires-good same-circuit

written-file : (s out : List ℕ) (t : Text) → read_text s ≡ says t → length (text_file t) ≤ length out
    → ◌≡◌ {A = Outcome} (convert_op s out) (record { answer = success (length (text_file t) ∷ []); left = front (text_file t) out ∷ [] })
unfolding convert_op conversion
written-file s out t e h = ap (λ (x : Reading). conversion x out) e ∙ built (text_file t) out h

-- Theorem, converted
pub converted : Converted
converted = record { meant = meant; reads = λ s t e. reads-file t (text-accepted t s e); written = written-file }
