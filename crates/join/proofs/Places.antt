-- The parts of the joined file in their places.
-- Assumes nothing.
use mathlib.Core.Path.{◌≡◌, ap, ◌∙◌}
use Prim.Native.Nat.{ℕ, ◌+◌, ◌-◌, ◌≤◌, ◌<◌}
use native.Mathlib.Omega.{arith}
use borrow.Author.Tests.{lt-ltb, le-ltb, le-leb, lt-leb}
use Rattle.circuit.specs.Fields.{Fields, inputs_of, outputs_of, gates_of, head_of, output_wire, kind_of, wire_a, wire_b, next_of}
use Rattle.building.specs.Files.{Four, Parts, laid}
use Rattle.building.proofs.Places.{laid-inputs, laid-outputs, laid-gates, laid-head, laid-output, laid-kind, laid-a, laid-b, laid_next}
use Rattle.join.specs.Join.{moved_wire, moved_link, led_on, first_slot, second_slot, joined_parts}

-- slot k of a file has these fields
pub record Holds (z : Fields) (k : ℕ) (q : Four) : Type 0 where
  pub kind : kind_of z k ≡ q.first
  pub a : wire_a z k ≡ q.second
  pub b : wire_b z k ≡ q.third
  pub next : next_of z k ≡ q.fourth

module _ (x y : Fields) where
  abbrev p : Parts
  p = joined_parts x y

  abbrev z : Fields
  z = laid p

  -- where the first's chain leads on to
  abbrev pub onward : ℕ
  onward = moved_link (gates_of x) (head_of y)

  pub joined-inputs : inputs_of z ≡ inputs_of x
  unfolding joined_parts
  joined-inputs = laid-inputs p

  pub joined-outputs : outputs_of z ≡ outputs_of x + outputs_of y
  unfolding joined_parts
  joined-outputs = laid-outputs p

  pub joined-gates : gates_of z ≡ gates_of x + gates_of y
  unfolding joined_parts
  joined-gates = laid-gates p

  pub joined-head : head_of z ≡ led_on onward (head_of x)
  unfolding joined_parts
  joined-head = laid-head p

  pub first-output : (j : ℕ) → j < outputs_of x → output_wire z j ≡ output_wire x j
  unfolding joined_parts
  first-output j h = laid-output p j (omega arith) ∙ rw (lt-ltb j (outputs_of x) h)

  pub second-output : (j : ℕ) → j < outputs_of y → output_wire z (outputs_of x + j) ≡ moved_wire (inputs_of x) (gates_of x) (output_wire y j)
  unfolding joined_parts
  second-output j h =
      let d : outputs_of x + j - outputs_of x ≡ j = omega arith in
      laid-output p (outputs_of x + j) (omega arith) ∙ rw (le-ltb (outputs_of x + j) (outputs_of x) (omega arith), d)

  -- the slots
  slot-holds : (k : ℕ) → 1 ≤ k → k ≤ gates_of x + gates_of y → (q : Four) → p.slot k ≡ q → Holds z k q
  unfolding joined_parts
  slot-holds k a b q e =
      record {
        kind = laid-kind p k a b ∙ ap (λ (r : Four). r.first) e;
        a = laid-a p k a b ∙ ap (λ (r : Four). r.second) e;
        b = laid-b p k a b ∙ ap (λ (r : Four). r.third) e;
        next = laid_next p k a b ∙ ap (λ (r : Four). r.fourth) e;
      }

  pub first-slot : (k : ℕ) → 1 ≤ k → k ≤ gates_of x → Holds z k (first_slot onward x k)
  unfolding joined_parts
  first-slot k a b = slot-holds k a (omega arith) (first_slot onward x k) same
    where
      same : p.slot k ≡ first_slot onward x k
      same = rw (le-leb k (gates_of x) b)

  pub second-slot : (k : ℕ) → 1 ≤ k → k ≤ gates_of y → Holds z (k + gates_of x) (second_slot (inputs_of x) (gates_of x) y k)
  unfolding joined_parts
  second-slot k a b = slot-holds (k + gates_of x) (omega arith) (omega arith) (second_slot (inputs_of x) (gates_of x) y k) same
    where
      same : p.slot (k + gates_of x) ≡ second_slot (inputs_of x) (gates_of x) y k
      same =
          let d : k + gates_of x - gates_of x ≡ k = omega arith in
          rw (lt-leb (k + gates_of x) (gates_of x) (omega arith), d)
