-- What reading answers where a test fails, and where all pass, in every form of the file.
-- Assumes nothing.
use mathlib.Core.Path.{◌≡◌, sym, ap, ap₂, ◌∙◌}
use mathlib.Core.Bool.{Bool, true, false, not, ◌&&◌}
use mathlib.Core.List.{List, [], ◌∷◌, map}
use Prim.Native.Nat.{ℕ, ◌+◌, ◌*◌, ◌≤◌, ◌<◌}
use borrow.Author.Tests.{lt-ltb, le-ltb, not-false, not-true, leb-true, eq-eqb, ne_eqb}
use lib.Dec.{leb, ltb}
use lib.ListN.{length, length-map}
use Rattle.bits.proofs.Tests.{and-true-left, and-true-right}
use Rattle.bits.proofs.Tabulate.{length-tabulate}
use Rattle.refusal.specs.Outcome.{refusal_at, refusal, success}
use Rattle.refusal.specs.Refusal.{number_of}
use Rattle.refusal.specs.declared.Refusal.{Refusal}
use Rattle.circuit.specs.Chain.{ends, fault, ends_well}
use Rattle.circuit.specs.Circuit.{Gate, ands}
use Rattle.circuit.specs.Fields.{Fields, field, inputs_of, outputs_of, gates_of, head_of, output_wire, max_inputs, max_outputs, within_limits, right_length, good_records, good_chain, good_wires, good_outputs, reads_written, chain_walk, chain_from, gate_at, gates_in_order, circuit_of, legal, on_walk, read_fields, read_with}
use Rattle.circuit.specs.FieldSteps.{walks, inputs_first, gates_from, limits, Framed}
use Rattle.circuit.specs.Steps.{walk_paper}
use Rattle.circuit.specs.Operations.{read_answer}
use Rattle.circuit.specs.declared.Fault.{Fault}
use Rattle.std.specs.Prelude.{⊤, Result, Ok, Err}
use Rattle.circuit.proofs.Walking.{well-ends, walked-chain}
use Rattle.circuit.proofs.Slots.{length-chain}

-- the tests of the length and of the limits
module _ (w m : ℕ) (s : List ℕ) where
  pub read_short : length s < w * 4 → read_answer (read_with w m s) ≡ refusal 1
  unfolding read_with read_answer
  read_short h = rw (lt-ltb (length s) (w * 4) h)

  pub read-limits : w * 4 ≤ length s → within_limits m (field w s) ≡ false → read_answer (read_with w m s) ≡ refusal 2
  unfolding read_with read_answer
  read-limits h a = rw (le-ltb (length s) (w * 4) h, a)

  pub read_length : w * 4 ≤ length s → within_limits m (field w s) ≡ true → right_length w s ≡ false → read_answer (read_with w m s) ≡ refusal 1
  unfolding read_with read_answer
  read_length h a b = rw (le-ltb (length s) (w * 4) h, a, b)

  -- where they pass, the fields alone are read
  pub read-rest : w * 4 ≤ length s → within_limits m (field w s) ≡ true → right_length w s ≡ true → read_with w m s ≡ read_fields (field w s)
  unfolding read_with
  read-rest h a b = rw (le-ltb (length s) (w * 4) h, a, b)

-- fields that pass the tests of the records, of the chain and of the wires
pub record Sound (x : Fields) : Type 0 where
  pub records : good_records x (gates_of x) ≡ true
  pub chain : good_chain x ≡ true
  pub wires : good_wires x ≡ true

module _ (x : Fields) where
  -- a good chain is walked to its end
  good-ends : good_chain x ≡ true → chain_walk x ≡ ends
  unfolding good_chain
  good-ends t = well-ends (chain_walk x) t

  read-records : good_records x (gates_of x) ≡ false → read_answer (read_fields x) ≡ refusal 3
  unfolding read_fields read_answer
  read-records a = rw a

  read-chain : good_records x (gates_of x) ≡ true → (k y : ℕ) → chain_walk x ≡ fault k y → read_answer (read_fields x) ≡ refusal_at k y
  unfolding read_fields read_answer on_walk
  read-chain a k y b = rw (a, b)

  read-wires : good_records x (gates_of x) ≡ true → good_chain x ≡ true → good_wires x ≡ false → read_answer (read_fields x) ≡ refusal 5
  unfolding read_fields read_answer on_walk
  read-wires a b d = rw (a, good-ends b, d)

  -- fields that pass every test are the circuit that they hold
  pub read-sound : Sound x → read_fields x ≡ legal (circuit_of x)
  unfolding read_fields on_walk
  read-sound p = rw (p.records, good-ends p.chain, p.wires)

  -- the circuit has G gates
  pub count-gates : length (gates_in_order x) ≡ gates_of x
  unfolding gates_in_order
  count-gates = length-map (chain_from x (gates_of x) (head_of x)) (gate_at x) ∙ length-chain x (gates_of x) (head_of x)

  -- "Success gives I, O, G, A"
  pub sound-success : Sound x → read_answer (read_fields x) ≡ success (inputs_of x ∷ outputs_of x ∷ gates_of x ∷ ands (gates_in_order x) ∷ [])
  unfolding read_answer circuit_of
  sound-success p = rw (read-sound p) (rw (length-tabulate (outputs_of x) (output_wire x), count-gates))

  -- a walk that came to its end
  pub walked-well : (r : Result ⊤ Fault) {x0 : ⊤} → r ≡ Ok x0 → walk_paper r ≡ chain_walk x → good_chain x ≡ true
  unfolding good_chain ends_well
  walked-well r p e = ap ends_well (sym e ∙ ap walk_paper p)

-- what a test that was asked for says, where it failed and where it passed
pub fell : (b r : Bool) → r ≡ b → not r ≡ true → b ≡ false
fell b r e h = sym e ∙ not-true r h

pub held : (b r : Bool) → r ≡ b → not r ≡ false → b ≡ true
held b r e h = sym e ∙ not-false r h

-- the numbers that the code carries are the file's
module _ (w : ℕ) (s : List ℕ) (i o g h : ℕ) (f : Framed w s i o g h) where
  abbrev x : Fields
  x = field w s

  records-same : good_records x g ≡ good_records x (gates_of x)
  records-same = ap (good_records x) f.laid.gates

  pub chain_same : walks x g h ≡ good_chain x
  chain_same = ap₂ (walks x) f.laid.gates f.head ∙ sym (walked-chain x)

  gates-same : gates_from x g h ≡ gates_in_order x
  unfolding gates_from gates_in_order
  gates-same = ap₂ (λ (n k : ℕ). map (gate_at x) (chain_from x n k)) f.laid.gates f.head

  wires-same : inputs_first x g h && good_outputs x o ≡ good_wires x
  unfolding good_wires inputs_first
  wires-same =
      ap₂ (λ (l : List Gate) (n : ℕ). reads_written (λ w. ltb w (inputs_of x)) l && good_outputs x n) gates-same f.laid.outputs

  pub refuse-records : good_records x g ≡ false → refusal 3 ≡ read_answer (read_fields x)
  refuse-records a = sym (read-records x (sym records-same ∙ a))

  pub refuse-chain : (f : Fault) (r : Result ⊤ Fault) → good_records x g ≡ true → r ≡ Err f → walk_paper r ≡ chain_walk x
      → refusal_at (number_of f.refusal) f.slot ≡ read_answer (read_fields x)
  refuse-chain f r a p e = sym (read-chain x (sym records-same ∙ a) (number_of f.refusal) f.slot (sym e ∙ ap walk_paper p))

  pub refuse-reads : good_records x g ≡ true → good_chain x ≡ true → inputs_first x g h ≡ false → refusal 5 ≡ read_answer (read_fields x)
  refuse-reads a b d =
      sym (read-wires x (sym records-same ∙ a) b (sym wires-same ∙ ap (λ (t : Bool). t && good_outputs x o) d))

  pub refuse-outputs : good_records x g ≡ true → good_chain x ≡ true → inputs_first x g h ≡ true → good_outputs x o ≡ false
      → refusal 5 ≡ read_answer (read_fields x)
  refuse-outputs a b d e =
      sym (read-wires x (sym records-same ∙ a) b (sym wires-same ∙ ap₂ ◌&&◌ d e))

  pub accept : (n : ℕ) → good_records x g ≡ true → good_chain x ≡ true → inputs_first x g h ≡ true → good_outputs x o ≡ true
      → n ≡ ands (gates_from x g h) → success (i ∷ o ∷ g ∷ n ∷ []) ≡ read_answer (read_fields x)
  accept n a b d e q =
      let p : Sound x = record { records = sym records-same ∙ a; chain = b; wires = sym wires-same ∙ ap₂ ◌&&◌ d e } in
      let t : n ≡ ands (gates_in_order x) = q ∙ ap ands gates-same in
      rw (f.laid.inputs, f.laid.outputs, f.laid.gates, t) (sym (sound-success x p))

-- the header as the code reads it
pub header : (m : ℕ) (x : Fields) (i o g : ℕ) (r : Bool) → i ≡ inputs_of x → o ≡ outputs_of x → g ≡ gates_of x → r ≡ limits m i o g
    → r ≡ within_limits m x
unfolding within_limits limits
header m x i o g r p q t e = e ∙ rw (p, q, t)

-- what the limits say
pub limits-few : (m i o g : ℕ) → limits m i o g ≡ true → (i ≤ max_inputs) × ((o ≤ max_outputs) × (g ≤ m))
unfolding limits
limits-few m i o g e =
    let a = and-true-left _ (leb g m) e in
    let b = and-true-left _ (leb o max_outputs) a in
    let d = and-true-left _ (leb 1 o) b in (
      leb-true i max_inputs (and-true-right (leb 1 i) (leb i max_inputs) d),
      (leb-true o max_outputs (and-true-right (leb 1 i && leb i max_inputs && leb 1 o) (leb o max_outputs) a), leb-true g m (and-true-right (leb 1 i && leb i max_inputs && leb 1 o && leb o max_outputs) (leb g m) e)),
    )

-- the length as the code tests it
module _ (w : ℕ) (s : List ℕ) (o g : ℕ) (p : o ≡ outputs_of (field w s)) (q : g ≡ gates_of (field w s)) where
  pub length-same : length s ≡ w * (4 + o + 4 * g) → right_length w s ≡ true
  unfolding right_length
  length-same e = eq-eqb (length s) _ (e ∙ rw (p, q))

  pub length-other : (length s ≡ w * (4 + o + 4 * g) → ⊥) → right_length w s ≡ false
  unfolding right_length
  length-other e = ne_eqb (length s) _ (λ h. e (h ∙ rw (p, q)))
