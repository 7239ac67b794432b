-- Theorem, joined: the joined file reads as the joined circuit, which evaluates as both do, side by side.
-- Assumes nothing.
use mathlib.Core.Path.{◌≡◌, refl, sym, ap, ap₂, ◌∙◌}
use mathlib.Core.Bool.{Bool}
use mathlib.Core.List.{List, [], ◌∷◌, ◌++◌, map, map-append, map-map}
use mathlib.Core.Logic.{inl, inr, ⊎_elim}
use Prim.Native.Nat.{ℕ, zero, suc, ◌+◌, ◌*◌, ◌≤◌, ◌<◌}
use native.Mathlib.Omega.{arith}
use borrow.Author.Tests.{lt-ltb, ltb-true, le-leb, eq-eqb}
use lib.Dec.{ltb}
use lib.ListN.{length, get_or, length-append, length-map}
use Rattle.bits.specs.Bits.{tabulate}
use Rattle.bits.specs.Counting.{count}
use Rattle.bits.proofs.Counting.{count-nil, count_same, count-other, count-rest}
use Rattle.bits.proofs.Numbers.{lt-or-le}
use Rattle.bits.proofs.Tabulate.{tabulate-cong, length-tabulate}
use Rattle.refusal.specs.Outcome.{success}
use Rattle.circuit.specs.Building.{builds}
use Rattle.circuit.specs.Circuit.{Gate, Circuit, ands, eval_gates, evaluate}
use Rattle.circuit.specs.Fields as fields
use Rattle.circuit.specs.File.{max_outputs, max_gates, fields_of, inputs_of, outputs_of, gates_of, output_wire, gates_in_order, circuit_of, legal, read_circuit}
use Rattle.circuit.specs.Meaning.{writes}
use Rattle.circuit.specs.Operations.{read_answer, read_op}
use Rattle.circuit.proofs.Answered.{Passed, passed, read-legal, read_same, gates-count}
use Rattle.circuit.proofs.Readings.{Sound, read-sound}
use Rattle.circuit.proofs.Run.{map-tabulate}
use Rattle.circuit.proofs.Wires.{wires-theorem}
use Rattle.building.specs.Files.{laid}
use Rattle.building.proofs.Built.{built-theorem, built}
use Rattle.join.specs.Join.{moved_wire, joined_parts, joined, sums_within, join_legal, join_op}
use Rattle.join.specs.Theorem.{moved_gate, up_wire, joined_circuit, Joins, JoinedTheorem}
use Rattle.join.proofs.Moved.{wire-input, wire-slot, wire-injective}
use Rattle.join.proofs.Places.{joined-inputs, joined-outputs, first-output, second-output}
use Rattle.join.proofs.Chained.{joined-chain, joined-order}
use Rattle.join.proofs.Wires.{wires-parts, joined-records, joined-wires}
use Rattle.join.proofs.Small.{few, fits}
use Rattle.join.proofs.Inside.{joined-fields}
use Rattle.join.proofs.Evaluates.{evaluate-append, ands-append, ands-moved, kept, same-values, writes-moved}

-- a list given place by place in two parts
tabulate-parts : (m n : ℕ) (h f k : ℕ → ℕ) → ((j : ℕ) → j < m → h j ≡ f j) → ((j : ℕ) → j < n → h (m + j) ≡ k j)
    → tabulate (m + n) h ≡ tabulate m f ++ tabulate n k
tabulate-parts zero n h f k p q =
    let e : zero + n ≡ n = omega arith in
    ap (λ (i : ℕ). tabulate i h) e ∙ tabulate-cong n h k (λ j l. let d : j ≡ zero + j = omega arith in ap h d ∙ q j l)
tabulate-parts (suc m) n h f k p q =
    let e : suc m + n ≡ suc (m + n) = omega arith in
    ap (λ (i : ℕ). tabulate i h) e
    ∙ ap₂ ◌∷◌ (p 0 (omega arith))
    (tabulate-parts m n (λ i. h (suc i)) (λ i. f (suc i)) k (λ j l. p (suc j) (omega arith))
    (λ j l. let d : suc (m + j) ≡ suc m + j = omega arith in ap h d ∙ q j l))

-- equal elements give equal lists
map_same : (f g : ℕ → Bool) (l : List ℕ) → ((j : ℕ) → j < length l → f (get_or l j 0) ≡ g (get_or l j 0)) → map f l ≡ map g l
map_same f g [] h = refl
map_same f g (x ∷ l) h = ap₂ ◌∷◌ (h 0 (omega arith)) (map_same f g l (λ j b. h (suc j) (omega arith)))

-- a circuit is known by its parts
same_parts : {i j : ℕ} {o p : List ℕ} {g h : List Gate} → i ≡ j → o ≡ p → g ≡ h
    → ◌≡◌ {A = Circuit} (record { inputs = i; outputs = o; gates = g }) (record { inputs = j; outputs = p; gates = h })
same_parts a b c = rw (a, b, c)

-- wires from I on are moved beyond those of the first
moved-beyond : (I up x : ℕ) (l : List ℕ) → ((w : ℕ) → w < I → count w l ≡ 0) → x < I + up → count x (map (moved_wire I up) l) ≡ 0
moved-beyond I up x [] h b = count-nil x
moved-beyond I up x (y ∷ l) h b =
    let low : I ≤ y = ⊎_elim (λ n. absurd (omega (arith, h y n, count_same y l))) (λ n. n) (lt-or-le y I) in
    count-other x (moved_wire I up y) (map (moved_wire I up) l) (λ e. omega (arith, e, wire-slot I up y low))
    ∙ moved-beyond I up x l (λ w n. omega (arith, h w n, count-rest w y l)) b

module _ (s t : List ℕ) (p : Passed s) (q : Passed t) (same : inputs_of s ≡ inputs_of t) where
  abbrev x : fields.Fields
  x = fields_of s

  abbrev y : fields.Fields
  y = fields_of t

  abbrev z : fields.Fields
  z = laid (joined_parts x y)

  abbrev c : Circuit
  c = circuit_of s

  abbrev d : Circuit
  d = circuit_of t

  order : gates_in_order s ++ map (moved_gate (moved_wire (inputs_of s) (gates_of s))) (gates_in_order t) ≡ fields.gates_in_order z
  order = sym (joined-order x y same p.chain q.chain)

  sound : Sound z
  sound =
      record {
        records = joined-records x y (few s p).some_inputs p.records q.records;
        chain = joined-chain x y p.chain q.chain;
        wires = joined-wires x y same (sym order) p.wires q.wires;
      }

  circuit-same : fields.circuit_of z ≡ joined_circuit c d
  unfolding fields.circuit_of joined_circuit
  circuit-same =
      let up : ℕ → ℕ = moved_wire (inputs_of s) (gates_of s) in
      let e : up ≡ up_wire c = ap (moved_wire (inputs_of s)) (sym (gates-count s)) in
      same_parts (joined-inputs x y)
      (ap (λ (n : ℕ). tabulate n (fields.output_wire z)) (joined-outputs x y)
      ∙ tabulate-parts (outputs_of s) (outputs_of t) (fields.output_wire z) (output_wire s) (λ j. up (output_wire t j)) (first-output x y) (second-output x y)
      ∙ ap (λ (l : List ℕ). tabulate (outputs_of s) (output_wire s) ++ l)
      (sym (map-tabulate up (outputs_of t) (output_wire t)) ∙ ap (λ (f : ℕ → ℕ). map f (tabulate (outputs_of t) (output_wire t))) e))
      (sym order ∙ ap (λ (f : ℕ → ℕ). gates_in_order s ++ map (moved_gate f) (gates_in_order t)) e)

  reads-joined : outputs_of s + outputs_of t ≤ max_outputs → gates_of s + gates_of t ≤ max_gates → read_circuit (joined s t) ≡ legal (joined_circuit c d)
  unfolding joined
  reads-joined o g =
      joined-fields x y (fits s p) (fits t q) (few s p).inputs o g (few s p).some_inputs (few s p).some_outputs
      ∙ read-sound z sound
      ∙ ap legal circuit-same

  -- the wires' values at first
  module _ (w : ℕ → Bool) where
    abbrev both : ℕ → Bool
    both = eval_gates (c.gates ++ map (moved_gate (up_wire c)) d.gates) w

    split : both ≡ eval_gates (map (moved_gate (up_wire c)) d.gates) (eval_gates c.gates w)
    split = evaluate-append c.gates (map (moved_gate (up_wire c)) d.gates) w

    -- the first's wires keep their values
    first-kept : (k : ℕ) → k < c.inputs + length c.gates → both k ≡ eval_gates c.gates w k
    unfolding fields.circuit_of
    first-kept k l =
        ap (λ (f : ℕ → Bool). f k) split
        ∙ kept (map (moved_gate (up_wire c)) d.gates) (eval_gates c.gates w) k
        (ap (count k) (writes-moved (up_wire c) (wire-injective c.inputs (length c.gates)) d.gates)
        ∙ moved-beyond c.inputs (length c.gates) k (writes d.gates) (λ j b. wires-theorem.only t d (read-legal t q) j (inl (omega arith))) l)

    -- the second's have theirs where they are moved to
    second-moved : (k : ℕ) → k < d.inputs + length d.gates → both (up_wire c k) ≡ eval_gates d.gates w k
    unfolding fields.circuit_of
    second-moved k l =
        let I : ℕ = inputs_of t in
        ap (λ (f : ℕ → Bool). f (up_wire c k)) split
        ∙ same-values (up_wire c) (wire-injective c.inputs (length c.gates)) d.gates (λ j. ltb j I) w (eval_gates c.gates w)
        (λ j b. let n : j < c.inputs = omega (arith, ltb-true j I b) in
        ap (eval_gates c.gates w) (wire-input c.inputs (length c.gates) j n)
        ∙ kept c.gates w j (wires-theorem.only s c (read-legal s p) j (inl n)))
        (wires-parts y q.wires).0
        k
        (⊎_elim (λ (b : k < I). inl (lt-ltb k I b)) (λ (b : I ≤ k). inr (omega (arith, wires-theorem.once t d (read-legal t q) k b l))) (lt-or-le k I))

    side_by_side : evaluate (joined_circuit c d) w ≡ evaluate c w ++ evaluate d w
    unfolding evaluate joined_circuit
    side_by_side =
        map-append both c.outputs (map (up_wire c) d.outputs)
        ∙ ap₂ ◌++◌
        (map_same both (eval_gates c.gates w) c.outputs (λ j l. first-kept (get_or c.outputs j 0) (wires-theorem.outputs s c (read-legal s p) j l)))
        (map-map both (up_wire c) d.outputs
        ∙ map_same (λ k. both (up_wire c k)) (eval_gates d.gates w) d.outputs
        (λ j l. second-moved (get_or d.outputs j 0) (wires-theorem.outputs t d (read-legal t q) j l)))

-- the numbers of a legal file are its circuit's
pub record Numbers (s : List ℕ) (c : Circuit) : Type 0 where
  pub inputs : c.inputs ≡ inputs_of s
  pub outputs : length c.outputs ≡ outputs_of s
  pub gates : length c.gates ≡ gates_of s

pub numbers_of : (s : List ℕ) (c : Circuit) → read_circuit s ≡ legal c → Numbers s c
unfolding fields.circuit_of
numbers_of s c e =
    let r : circuit_of s ≡ c = read_same s c e in
    record {
      inputs = sym (ap (λ (k : Circuit). k.inputs) r);
      outputs = sym (ap (λ (k : Circuit). length k.outputs) r) ∙ length-tabulate (outputs_of s) (output_wire s);
      gates = sym (ap (λ (k : Circuit). length k.gates) r) ∙ gates-count s;
    }

module _ (s t : List ℕ) (c d : Circuit) (j : Joins s t c d) where
  abbrev n : Numbers s c
  n = numbers_of s c j.first

  abbrev m : Numbers t d
  m = numbers_of t d j.second

  same_inputs : inputs_of s ≡ inputs_of t
  same_inputs = sym n.inputs ∙ j.inputs ∙ m.inputs

  reads : read_circuit (joined s t) ≡ legal (joined_circuit c d)
  reads =
      reads-joined s t (passed s c j.first) (passed t d j.second) same_inputs
      (omega (arith, j.outputs, n.outputs, m.outputs)) (omega (arith, j.gates, n.gates, m.gates))
      ∙ ap₂ (λ (a b : Circuit). legal (joined_circuit a b)) (read_same s c j.first) (read_same t d j.second)

  numbers : read_op (joined s t)
      ≡ success
      (c.inputs ∷ (length c.outputs + length d.outputs) ∷ (length c.gates + length d.gates) ∷ (ands c.gates + ands d.gates) ∷ [])
  unfolding read_op read_answer joined_circuit
  numbers =
      let o : length (c.outputs ++ map (up_wire c) d.outputs) ≡ length c.outputs + length d.outputs =
      length-append c.outputs (map (up_wire c) d.outputs) ∙ ap (λ (k : ℕ). length c.outputs + k) (length-map d.outputs (up_wire c)) in
      let g : length (c.gates ++ map (moved_gate (up_wire c)) d.gates) ≡ length c.gates + length d.gates =
      length-append c.gates (map (moved_gate (up_wire c)) d.gates) ∙ ap (λ (k : ℕ). length c.gates + k) (length-map d.gates (moved_gate (up_wire c))) in
      let a : ands (c.gates ++ map (moved_gate (up_wire c)) d.gates) ≡ ands c.gates + ands d.gates =
      ands-append c.gates (map (moved_gate (up_wire c)) d.gates) ∙ ap (λ (k : ℕ). ands c.gates + k) (ands-moved (up_wire c) d.gates) in
      ap read_answer reads ∙ rw (o, g, a)

  evaluates : (w : ℕ → Bool) → evaluate (joined_circuit c d) w ≡ evaluate c w ++ evaluate d w
  evaluates w =
      let r : circuit_of s ≡ c = read_same s c j.first in
      let u : circuit_of t ≡ d = read_same t d j.second in
      ap₂ (λ (a b : Circuit). evaluate (joined_circuit a b) w) (sym r) (sym u)
      ∙ side_by_side s t (passed s c j.first) (passed t d j.second) same_inputs w
      ∙ ap₂ (λ (a b : Circuit). evaluate a w ++ evaluate b w) r u

  size : length (joined s t) ≡ 16 + 4 * (length c.outputs + length d.outputs) + 16 * (length c.gates + length d.gates)
  unfolding joined joined_parts
  size = omega (arith, built-theorem.size (joined_parts (fields_of s) (fields_of t)), n.outputs, m.outputs, n.gates, m.gates)

  op-builds : (out : List ℕ) → join_op s t out ≡ builds (joined s t) out
  unfolding join_op join_legal sums_within
  op-builds out =
      rw
      (j.first, j.second, eq-eqb c.inputs d.inputs j.inputs, le-leb (length c.outputs + length d.outputs) max_outputs j.outputs, le-leb (length c.gates + length d.gates) max_gates j.gates)

-- Theorem, joined
pub joined-theorem : JoinedTheorem
joined-theorem =
    record {
      reads = reads;
      numbers = numbers;
      evaluates = evaluates;
      size = size;
      written = λ s t out c d j h. op-builds s t c d j out ∙ built (joined s t) out h;
    }
