-- A built file reads as its parts do where the parts inside it are small; and the parts of the joined file are.
-- Assumes nothing.
use mathlib.Core.Path.{◌≡◌, sym, ap, ◌∙◌, fun_ext}
use mathlib.Core.Bool.{true, cond}
use mathlib.Core.Logic.{⊎_elim}
use Prim.Native.Nat.{ℕ, ◌+◌, ◌-◌, ◌*◌, ◌/◌, ◌≤◌, ◌<◌}
use native.Mathlib.Omega.{arith}
use borrow.Author.Tests.{lt-ltb, le-ltb, le-leb, lt-leb}
use lib.Dec.{leb, ltb}
use Rattle.bits.proofs.Numbers.{lt-or-le}
use Rattle.circuit.specs.Fields as fields
use Rattle.circuit.specs.Fields.{Fields, inputs_of, outputs_of, gates_of, head_of, output_wire, within_limits, read_fields}
use Rattle.circuit.specs.File.{max_inputs, max_outputs, max_gates, read_circuit}
use Rattle.building.specs.Files.{Four, Parts, laid, file_of, SmallFour, Small}
use Rattle.building.proofs.Built.{built-theorem}
use Rattle.join.specs.Join.{first_slot, second_slot, joined_parts}
use Rattle.join.specs.Steps.{SlotFits, Fits}
use Rattle.join.proofs.Moved.{wire-le, link-le, led-le}
use Rattle.join.proofs.Places.{onward, joined-inputs, joined-outputs, joined-gates}

-- the parts inside the file are small
record Inside (p : Parts) : Type 0 where
  header : SmallFour p.header
  output : (j : ℕ) → j < p.header.second → p.output j < 4294967296
  slot : (k : ℕ) → 1 ≤ k → k ≤ p.header.third → SmallFour (p.slot k)

-- nothing
zeros : Four
zeros = record { first = 0; second = 0; third = 0; fourth = 0 }

zeros-small : SmallFour zeros
unfolding zeros
zeros-small = record { first = omega arith; second = omega arith; third = omega arith; fourth = omega arith }

-- the parts inside a file, and nothing beyond
trimmed : Parts → Parts
trimmed p =
    record {
      header = p.header;
      output = λ j. cond (ltb j p.header.second) (p.output j) 0;
      slot = λ k. cond (leb 1 k) (cond (leb k p.header.third) (p.slot k) zeros) zeros;
    }

module _ (p : Parts) where
  trimmed-small : Inside p → Small (trimmed p)
  unfolding trimmed
  trimmed-small i =
      record {
        header = i.header;
        output = λ j.
            ⊎_elim (λ l. rw (lt-ltb j p.header.second l) (i.output j l)) (λ l. rw (le-ltb j p.header.second l) (omega arith))
            (lt-or-le j p.header.second);
        slot = λ k.
            ⊎_elim (λ (l : k < 1). rw (lt-leb 1 k l) zeros-small) (λ (a : 1 ≤ k).
            ⊎_elim (λ (l : p.header.third < k). rw (le-leb 1 k a, lt-leb k p.header.third l) zeros-small)
            (λ (b : k ≤ p.header.third). rw (le-leb 1 k a, le-leb k p.header.third b) (i.slot k a b))
            (lt-or-le p.header.third k))
            (lt-or-le k 1);
      }

  -- they are laid alike
  trimmed-laid : laid (trimmed p) ≡ laid p
  unfolding laid trimmed
  trimmed-laid =
      let O : ℕ = p.header.second in
      let G : ℕ = p.header.third in
      fun_ext (λ k.
      ⊎_elim (λ (l : k < 4). rw (lt-ltb k 4 l)) (λ (a : 4 ≤ k).
      ⊎_elim (λ (l : k < 4 + O). rw (le-ltb k 4 a, lt-ltb k (4 + O) l, lt-ltb (k - 4) O (omega arith))) (λ (b : 4 + O ≤ k).
      ⊎_elim
      (λ (l : k < 4 + O + 4 * G).
      let i : ℕ = 1 + (k - 4 - O) / 4 in
      rw (le-ltb k 4 a, le-ltb k (4 + O) b, lt-ltb k (4 + O + 4 * G) l, le-leb 1 i (omega arith), le-leb i G (omega arith)))
      (λ l. rw (le-ltb k 4 a, le-ltb k (4 + O) b, le-ltb k (4 + O + 4 * G) l))
      (lt-or-le k (4 + O + 4 * G)))
      (lt-or-le k (4 + O)))
      (lt-or-le k 4))

  -- so they read alike
  reads-inside : Inside p → within_limits max_gates (laid p) ≡ true → read_circuit (file_of (laid p)) ≡ read_fields (laid p)
  reads-inside i h =
      ap (λ (x : Fields). read_circuit (file_of x)) (sym trimmed-laid)
      ∙ built-theorem.reads (trimmed p) (trimmed-small i) (ap (within_limits max_gates) trimmed-laid ∙ h)
      ∙ ap read_fields trimmed-laid

-- the limits, where I, O and G are within them
limits-pass : (x : Fields) → 1 ≤ inputs_of x → inputs_of x ≤ max_inputs → 1 ≤ outputs_of x → outputs_of x ≤ max_outputs → gates_of x ≤ max_gates
    → within_limits max_gates x ≡ true
unfolding within_limits
limits-pass x a b c d e =
    rw (le-leb 1 (inputs_of x) a, le-leb (inputs_of x) max_inputs b, le-leb 1 (outputs_of x) c, le-leb (outputs_of x) max_outputs d, le-leb (gates_of x) max_gates e)

module _ (x y : Fields) (f : Fits x) (h : Fits y) (i : inputs_of x ≤ max_inputs) (o : outputs_of x + outputs_of y ≤ max_outputs) (g : gates_of x + gates_of y ≤ max_gates) where
  abbrev to : ℕ
  to = onward x y

  abbrev G : ℕ
  G = gates_of x

  head-low : to ≤ gates_of x + gates_of y
  head-low = omega (arith, link-le G (head_of y), h.head)

  first_small : (k : ℕ) → SlotFits x k → SmallFour (first_slot to x k)
  unfolding first_slot
  first_small k e =
      record {
        first = omega (arith, e.kind);
        second = omega (arith, e.a);
        third = omega (arith, e.b);
        fourth = omega (arith, led-le to (fields.next_of x k) (gates_of x + gates_of y) head-low (omega (arith, e.next)));
      }

  second-small : (k : ℕ) → SlotFits y k → SmallFour (second_slot (inputs_of x) G y k)
  unfolding second_slot
  second-small k e =
      record {
        first = omega (arith, e.kind);
        second = omega (arith, e.a, wire-le (inputs_of x) G (fields.wire_a y k));
        third = omega (arith, e.b, wire-le (inputs_of x) G (fields.wire_b y k));
        fourth = omega (arith, e.next, link-le G (fields.next_of y k));
      }

  joined-inside : Inside (joined_parts x y)
  unfolding joined_parts
  joined-inside =
      let O : ℕ = outputs_of x in
      record {
        header = record {
          first = omega arith;
          second = omega arith;
          third = omega arith;
          fourth = omega (arith, led-le to (head_of x) (gates_of x + gates_of y) head-low (omega (arith, f.head)));
        };
        output = λ j l.
            ⊎_elim
            (λ (m : j < O). rw (lt-ltb j O m) (omega (arith, f.output j m)))
            (λ (m : O ≤ j). rw (le-ltb j O m) (omega (arith, wire-le (inputs_of x) G (output_wire y (j - O)), h.output (j - O) (omega arith))))
            (lt-or-le j O);
        slot = λ k a b.
            ⊎_elim
            (λ (m : G < k). rw (lt-leb k G m) (second-small (k - G) (h.slot (k - G) (omega arith) (omega arith))))
            (λ (m : k ≤ G). rw (le-leb k G m) (first_small k (f.slot k a m)))
            (lt-or-le G k);
      }

  -- the joined file reads as its fields do
  pub joined-fields : 1 ≤ inputs_of x → 1 ≤ outputs_of x → read_circuit (file_of (laid (joined_parts x y))) ≡ read_fields (laid (joined_parts x y))
  joined-fields a b =
      reads-inside (joined_parts x y) joined-inside
      (limits-pass (laid (joined_parts x y)) (omega (arith, joined-inputs x y)) (omega (arith, joined-inputs x y))
      (omega (arith, joined-outputs x y)) (omega (arith, joined-outputs x y)) (omega (arith, joined-gates x y)))
