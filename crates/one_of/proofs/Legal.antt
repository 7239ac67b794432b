-- Theorem, one_of: the new file is a legal circuit, whose one output is 1 exactly if the old output is in the list.
-- Assumes nothing.
use mathlib.Core.Path.{◌≡◌, refl, sym, ap, ap₂, subst, ◌∙◌}
use mathlib.Core.Bool.{Bool, true, false, cond, ◌&&◌, ◌||◌}
use mathlib.Core.List.{List, [], ◌∷◌, ◌++◌, map, map-append}
use mathlib.Core.Logic.{⊎_elim}
use Prim.Native.Nat.{ℕ, zero, suc, ◌+◌, ◌-◌, ◌*◌, ◌/◌, ◌%◌, ◌≤◌, ◌<◌}
use native.Mathlib.Omega.{arith}
use native.Mathlib.Nat.{eq-or-lt_of_le, div-add-mod', zero-mul}
use borrow.Author.Tests.{eq-eqb, lt-ltb, leb-true}
use lib.Dec.{eqb, leb, ltb}
use lib.ListN.{length, get_or, length-map}
use Rattle.bits.specs.Bits.{tabulate, oct, pack}
use Rattle.bits.specs.Counting.{count}
use Rattle.bits.proofs.Little.{le_at-lt}
use Rattle.bits.proofs.Numbers.{lt-or-le}
use Rattle.bits.proofs.Tabulate.{length-tabulate}
use Rattle.bits.proofs.Tests.{and-true-left, and-true-right}
use Rattle.circuit.specs.Building.{builds}
use Rattle.circuit.specs.Circuit.{Gate, Circuit, ands, eval_gates, evaluate}
use Rattle.circuit.specs.Fields.{Fields, field, inputs_of, outputs_of, gates_of, head_of, output_wire, kind_of, wire_b, next_of, good_record, good_records, good_chain, good_wires, good_outputs, reads_written, chain_from, gate_at, gates_in_order, circuit_of, legal}
use Rattle.circuit.specs.FieldSteps.{walks}
use Rattle.circuit.specs.File as file
use Rattle.circuit.specs.File.{width, fields_of, read_circuit}
use Rattle.circuit.specs.Meaning.{Exactly, writes}
use Rattle.circuit.proofs.Answered.{Passed, passed, read_same}
use Rattle.circuit.proofs.Readings.{Sound, read-sound, count-gates}
use Rattle.circuit.proofs.Run.{output-low}
use Rattle.circuit.proofs.Slots.{here}
use Rattle.circuit.proofs.Walking.{walked-chain}
use Rattle.circuit.proofs.Wires.{gates-once}
use Rattle.building.specs.Files.{Four}
use Rattle.building.proofs.Built.{built-theorem}
use Rattle.one_of.specs.OneOf.{repeated, four, added, start, sum_wire, zero_wire, prefix, literal, entry_gate, total, slot_of, parts_of, unused_entries, one_of_file, one_of_legal, one_of_op}
use Rattle.one_of.specs.Theorem.{GoodList, Listed, distinct, OneOf, OneOfTheorem}
use Rattle.one_of.proofs.Chained.{up_from, all-walks, all-chain}
use Rattle.one_of.proofs.Counts.{ands_up, ands-new}
use Rattle.one_of.proofs.Entries.{out_bits, found-listed}
use Rattle.one_of.proofs.Follows.{Follow, follow-eval, follow-reads, eval-append, ands-append, reads-append}
use Rattle.one_of.proofs.Slots.{O, G, N, new, new-inputs, new-outputs, new-gates, new-head, new-output, kind-slot, slot-old, slot-new, new-inv, new-zero, new-entry, onward, by_place, old-gate, extended, new-fits}
use Rattle.one_of.proofs.Small.{Limits, limits_of, of-limits, few-added, new-limits, parts-small}
use Rattle.one_of.proofs.Values.{val, val-old, val-sum, found}

-- a record whose slot is one of the first n is good
record-good : (x : Fields) (n : ℕ) → good_records x n ≡ true → (k : ℕ) → 1 ≤ k → k ≤ n → good_record x k ≡ true
unfolding good_records
record-good x zero t k a b = absurd (omega arith)
record-good x (suc n) t k a b =
    ⊎_elim
    (λ (e : k ≡ suc n). rw e (and-true-right (good_records x n) (good_record x (suc n)) t))
    (λ (l : k < suc n). record-good x n (and-true-left (good_records x n) (good_record x (suc n)) t) k a (omega arith))
    (eq-or-lt_of_le b)

records-pass : (x : Fields) (n : ℕ) → ((k : ℕ) → 1 ≤ k → k ≤ n → good_record x k ≡ true) → good_records x n ≡ true
unfolding good_records
records-pass x zero h = refl
records-pass x (suc n) h = rw (records-pass x n (λ k a b. h k a (omega arith))) (h (suc n) (omega arith) (omega arith))

-- a good record, by its kind and its b
unfoldable good_four : ℕ → ℕ → Bool
good_four k b = eqb k 1 || eqb k 2 || (eqb k 3 && eqb b 0)

good-four : (x : Fields) (k : ℕ) → good_record x k ≡ good_four (kind_of x k) (wire_b x k)
unfolding good_record good_four
good-four x k = refl

length_up : (k n : ℕ) → length (up_from k n) ≡ n
unfolding up_from
length_up k zero = refl
length_up k (suc n) = ap suc (length_up (k + 1) n)

map-tabulate : {A : Type 0} {B : Type 0} (f : A → B) (n : ℕ) (g : ℕ → A) → map f (tabulate n g) ≡ tabulate n (λ i. f (g i))
map-tabulate f zero g = refl
map-tabulate f (suc n) g = ap (λ (l : List _). f (g 0) ∷ l) (map-tabulate f n (λ i. g (suc i)))

module _ (x : Fields) (list : List ℕ) where
  -- the records of the new slots
  entry-good : (e j n : ℕ) → good_four (entry_gate x list e j n).first (entry_gate x list e j n).third ≡ true
  unfolding good_four entry_gate
  entry-good e j n = pick (repeated (O x list) list e) (ltb (j + 1) (O x list))
    where
      pick : (a b : Bool)
          → let q : Four = cond a (four 1 (sum_wire x e) (zero_wire x) n) (cond b (four 2 (prefix x list e j) (literal x list e (j + 1)) n) (four 1 (sum_wire x e) (prefix x list e j) n)) in
          good_four q.first q.third ≡ true
      pick true b = refl
      pick false true = refl
      pick false false = refl

  slot-good : (k : ℕ) (q : Four) → 1 ≤ k → k ≤ total x list → good_four q.first q.third ≡ true → slot_of x list k ≡ q → good_record (new x list) k ≡ true
  slot-good k q a b t e =
      let s = kind-slot x list k a b q e in
      good-four (new x list) k ∙ ap₂ good_four s.0 s.1 ∙ t

  records-new : 1 ≤ O x list → (i : ℕ) → i < added (O x list) (N x list) → good_record (new x list) (G x list + 1 + i) ≡ true
  unfolding good_four
  records-new some i h =
      by_place x list (λ i. i < added (O x list) (N x list) → good_record (new x list) (G x list + 1 + i) ≡ true) some
      (λ i l h. slot-good (G x list + 1 + i) _ (omega arith) (omega arith) refl (slot-new x list (G x list + 1 + i) i refl ∙ new-inv x list _ i l))
      (λ h. slot-good (G x list + 1 + O x list) _ (omega arith) (omega arith) refl (slot-new x list (G x list + 1 + O x list) (O x list) refl ∙ new-zero x list _))
      (λ e j a l h.
      let i : ℕ = O x list + 1 + (e * O x list + j) in
      slot-good (G x list + 1 + i) _ (omega arith) (omega arith) (entry-good e j (onward x list (G x list + 1 + i)))
      (slot-new x list (G x list + 1 + i) i refl ∙ new-entry x list _ i e j a l refl))
      i h h

  records-all : 1 ≤ O x list → good_records x (G x list) ≡ true → good_records (new x list) (gates_of (new x list)) ≡ true
  records-all some t =
      records-pass (new x list) (gates_of (new x list))
      (λ k a b.
      ⊎_elim
      (λ (h : G x list < k).
      let q : G x list + 1 + (k - G x list - 1) ≡ k = omega arith in
      subst (λ (i : ℕ). good_record (new x list) i ≡ true) q (records-new some (k - G x list - 1) (omega (arith, new-gates x list))))
      (λ h. slot-good k _ a (omega (arith, new-gates x list)) (sym (good-four x k) ∙ record-good x (G x list) t k a h) (slot-old x list k h))
      (lt-or-le (G x list) k))

  abbrev M : ℕ
  M = added (O x list) (N x list)

  -- the gates that are added, in the order of their slots
  abbrev new_gates : List Gate
  new_gates = map (gate_at (new x list)) (up_from (G x list + 1) M)

  module _ (chain : good_chain x ≡ true) where
    old-walks : walks x (G x list) (head_of x) ≡ true
    old-walks = sym (walked-chain x) ∙ chain

    chain-good : good_chain (new x list) ≡ true
    chain-good = walked-chain (new x list) ∙ ap₂ (walks (new x list)) (new-gates x list) (new-head x list) ∙ all-walks x M (new x list) (extended x list) (G x list) (head_of x) old-walks

    -- the old gates are the same
    same-gates : (n k : ℕ) → walks x n k ≡ true → map (gate_at (new x list)) (chain_from x n k) ≡ map (gate_at x) (chain_from x n k)
    unfolding chain_from
    same-gates zero k t = refl
    same-gates (suc n) k t =
        let h = here x (suc n) k (omega arith) t in
        let m : suc n - 1 ≡ n = omega arith in
        ap₂ ◌∷◌ (old-gate x list k h.first h.low) (same-gates n (next_of x k) (rw m at h.rest))

    pub gates-all : gates_in_order (new x list) ≡ gates_in_order x ++ new_gates
    unfolding gates_in_order
    gates-all =
        ap (map (gate_at (new x list)))
        (ap₂ (chain_from (new x list)) (new-gates x list) (new-head x list) ∙ all-chain x M (new x list) (extended x list) (G x list) (head_of x) old-walks)
        ∙ map-append _ (chain_from x (G x list) (head_of x)) (up_from (G x list + 1) M)
        ∙ ap (λ (l : List Gate). l ++ new_gates) (same-gates (G x list) (head_of x) old-walks)

  module _ (l : Limits x) (low : (j : ℕ) → j < O x list → output_wire x j < start x) (bytes : (i : ℕ) → get_or list i 0 < 256)
      (unused : unused_entries (O x list) list (N x list) ≡ true) where
    -- they write one wire after the other
    follow-up : (v : ℕ → Bool) (n i : ℕ) → i + n ≤ M → Follow (val x list v) (start x + i) (map (gate_at (new x list)) (up_from (G x list + 1 + i) n))
    unfolding Follow up_from
    follow-up v zero i h = tt
    follow-up v (suc n) i h =
        let a : start x + i + 1 ≡ start x + (i + 1) = omega arith in
        let b : G x list + 1 + i + 1 ≡ G x list + 1 + (i + 1) = omega arith in
        (new-fits x list low v bytes unused l.some_outputs l.some_inputs i (omega arith), rw (a, b) (follow-up v n (i + 1) (omega arith)))

    new-follow : (v : ℕ → Bool) → Follow (val x list v) (start x) new_gates
    new-follow v =
        let a : start x + 0 ≡ start x = omega arith in
        let b : G x list + 1 + 0 ≡ G x list + 1 = omega arith in
        rw (a, b) at (follow-up v M 0 (omega arith))

    -- the value of the one output
    module _ (chain : good_chain x ≡ true) (w : ℕ → Bool) where
      abbrev v : ℕ → Bool
      v = eval_gates (gates_in_order x) w

      output-found : eval_gates (gates_in_order (new x list)) w (sum_wire x (N x list)) ≡ found x list v (N x list)
      output-found =
          ap (λ (gs : List Gate). eval_gates gs w (sum_wire x (N x list))) (gates-all chain)
          ∙ ap (λ (f : ℕ → Bool). f (sum_wire x (N x list))) (eval-append (gates_in_order x) new_gates w)
          ∙ follow-eval (val x list v) v (start x) new_gates (new-follow v) (λ j h. sym (val-old x list v j h)) (sum_wire x (N x list))
          (omega (arith, length-map (up_from (G x list + 1) M) (gate_at (new x list)), length_up (G x list + 1) M))
          ∙ val-sum x list v l.some_outputs (N x list)

      evaluates : evaluate (circuit_of (new x list)) w ≡ found x list v (N x list) ∷ []
      unfolding evaluate circuit_of
      evaluates =
          ap (λ (n : ℕ). map (eval_gates (gates_in_order (new x list)) w) (tabulate n (output_wire (new x list)))) (new-outputs x list)
          ∙ ap (λ (b : Bool). b ∷ []) (ap (eval_gates (gates_in_order (new x list)) w) (new-output x list) ∙ output-found)

      old-outputs : evaluate (circuit_of x) w ≡ out_bits x list v
      unfolding evaluate circuit_of
      old-outputs = map-tabulate v (O x list) (output_wire x)

      pub meaning : Exactly (evaluate (circuit_of (new x list)) w ≡ true ∷ []) (Listed (O x list) list (pack (evaluate (circuit_of x) w)))
      meaning =
          let f = found-listed x list v l.some_outputs bytes unused in
          rw (evaluates, old-outputs) ((λ e. f.0 (one e)), (λ t. ap (λ (b : Bool). b ∷ []) (f.1 t)))
        where
          one : {b : Bool} → b ∷ [] ≡ true ∷ [] → b ≡ true
          one e = cc

    -- every gate reads only what is written, where the old wires are all written
    module _ (sound : Sound x) (written : (w : ℕ) → inputs_of x ≤ w → w < start x → 1 ≤ count w (writes (gates_in_order x))) where
      reads-good : reads_written (λ w. ltb w (inputs_of x)) (gates_in_order x ++ new_gates) ≡ true
      unfolding good_wires
      reads-good =
          let f : ℕ → Bool = λ w. ltb w (inputs_of x) in
          reads-append f (gates_in_order x) new_gates (and-true-left (reads_written f (gates_in_order x)) (good_outputs x (outputs_of x)) sound.wires)
          (λ g p q. follow-reads (val x list (λ _. true)) g (start x) new_gates (new-follow (λ _. true))
          (λ w h. ⊎_elim (λ (a : w < inputs_of x). p w (lt-ltb w (inputs_of x) a)) (λ a. q w (written w a h)) (lt-or-le w (inputs_of x))))

      output-good : good_outputs (new x list) 1 ≡ true
      unfolding good_outputs
      output-good =
          lt-ltb (output_wire (new x list) 0) (inputs_of (new x list) + gates_of (new x list))
          (omega (arith, new-output x list, new-inputs x list, new-gates x list))

      wires-good : good_wires (new x list) ≡ true
      unfolding good_wires
      wires-good = rw (gates-all sound.chain, new-inputs x list, new-outputs x list, reads-good, output-good)

      pub sound-new : Sound (new x list)
      sound-new = record { records = records-all l.some_outputs sound.records; chain = chain-good sound.chain; wires = wires-good }

-- a list that is not empty, and of whole entries, has an entry
pub some-entries : (O n : ℕ) → 1 ≤ n → n % oct O ≡ 0 → 1 ≤ O → 1 ≤ n / oct O
some-entries O n h e o =
    ⊎_elim
    (λ (l : n / oct O < 1).
    let z : n / oct O ≡ 0 = omega arith in
    absurd (omega (arith, div-add-mod' n (oct O), ap (λ (k : ℕ). k * oct O) z, zero-mul (oct O))))
    (λ l. l)
    (lt-or-le (n / oct O) 1)

-- the outputs and the gates of a circuit
outputs-count : (s : List ℕ) → length (circuit_of (fields_of s)).outputs ≡ file.outputs_of s
unfolding circuit_of
outputs-count s = length-tabulate (file.outputs_of s) (file.output_wire s)

gates-count : (s : List ℕ) → length (circuit_of (fields_of s)).gates ≡ file.gates_of s
unfolding circuit_of
gates-count s = count-gates (fields_of s)

-- the new file of a legal one
module _ (s list : List ℕ) (p : Passed s) (small : (i : ℕ) → get_or s i 0 < 256) (good : GoodList (file.outputs_of s) (file.gates_of s) list) where
  abbrev x : Fields
  x = fields_of s

  limited : Limits x
  limited = limits_of x p.front.limited

  sound : Sound x
  sound = record { records = p.records; chain = p.chain; wires = p.wires }

  outputs-low : (j : ℕ) → j < O x list → output_wire x j < start x
  unfolding good_wires
  outputs-low j h = output-low s (file.outputs_of s) j (and-true-right (reads_written (λ w. ltb w (inputs_of x)) (gates_in_order x)) (good_outputs x (outputs_of x)) p.wires) h

  many : 1 ≤ N x list
  many = some-entries (O x list) (length list) (leb-true 1 (length list) (and-true-left (leb 1 (length list)) _ good.size)) good.whole limited.some_outputs

  fits : (k : ℕ) → x k < 4294967296
  unfolding field
  fits k = omega (arith, le_at-lt width s (width * k) small)

  old-written : (w : ℕ) → inputs_of x ≤ w → w < start x → 1 ≤ count w (writes (gates_in_order x))
  old-written w a b = omega (arith, gates-once s p.chain w a (omega (arith, count-gates x)))

  reads : read_circuit (one_of_file s list) ≡ legal (circuit_of (new x list))
  unfolding one_of_file
  reads =
      built-theorem.reads (parts_of x list) (parts-small x list limited many good.room fits outputs-low) (of-limits (new x list) (new-limits x list limited many good.room))
      ∙ read-sound (new x list) (sound-new x list limited outputs-low good.bytes good.unused sound old-written)

  ands-total : ands (gates_in_order (new x list)) ≡ ands (gates_in_order x) + distinct (O x list) list (N x list) * (O x list - 1)
  unfolding ands_up
  ands-total =
      ap ands (gates-all x list p.chain) ∙ ands-append (gates_in_order x) (new_gates x list)
      ∙ ap (λ (k : ℕ). ands (gates_in_order x) + k) (ands-new x list limited.some_outputs)

  one-of-new : OneOf (circuit_of x) list (circuit_of (new x list))
  unfolding circuit_of
  one-of-new =
      record {
        inputs = new-inputs x list;
        outputs = length-tabulate (outputs_of (new x list)) (output_wire (new x list)) ∙ new-outputs x list;
        gates = rw (outputs-count s, gates-count s) (count-gates (new x list) ∙ new-gates x list);
        ands_added = rw (outputs-count s) ands-total;
        means = λ w. rw (outputs-count s) (meaning x list limited outputs-low good.bytes good.unused p.chain w);
      }

-- the operation writes the file
writes-file : (s list out : List ℕ) (c : Circuit) → read_circuit s ≡ legal c → GoodList (length c.outputs) (length c.gates) list
    → one_of_op s list out ≡ builds (one_of_file s list) out
unfolding one_of_op one_of_legal
writes-file s list out c e good =
    rw (e, good.size, eq-eqb (length list % oct (length c.outputs)) 0 good.whole, good.unused, good.room)

-- Theorem, one_of
pub one_of : OneOfTheorem
one_of =
    record {
      built = λ s list c small e good.
          let p = passed s c e in
          let same = read_same s c e in
          let o : length c.outputs ≡ file.outputs_of s = ap (λ (d : Circuit). length d.outputs) (sym same) ∙ outputs-count s in
          let g : length c.gates ≡ file.gates_of s = ap (λ (d : Circuit). length d.gates) (sym same) ∙ gates-count s in
          let h : GoodList (file.outputs_of s) (file.gates_of s) list = rw (o, g) at good in
          let d : Circuit = circuit_of (new (fields_of s) list) in
          (d, (reads s list p small h, subst (λ (b : Circuit). OneOf b list d) same (one-of-new s list p small h)));
      written = writes-file;
      few = few-added;
    }
