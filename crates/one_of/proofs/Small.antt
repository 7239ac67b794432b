-- The numbers of the new file fit their fields.
-- Assumes nothing.
use mathlib.Core.Path.{◌≡◌, refl, ap}
use mathlib.Core.Bool.{Bool, true, false, cond, ◌&&◌}
use mathlib.Core.List.{List}
use mathlib.Core.Logic.{⊎_elim}
use Prim.Native.Nat.{ℕ, suc, ◌+◌, ◌-◌, ◌*◌, ◌≤◌, ◌<◌}
use native.Mathlib.Omega.{arith}
use native.Mathlib.Nat.{mul-le-mul_right, suc-mul, mul-suc}
use borrow.Author.Tests.{lt-ltb, le-ltb, le-leb, leb-true}
use lib.Dec.{eqb, leb}
use Rattle.bits.proofs.Numbers.{lt-or-le}
use Rattle.bits.proofs.Tests.{and-true-left, and-true-right}
use Rattle.circuit.specs.Fields.{Fields, inputs_of, outputs_of, gates_of, output_wire, max_inputs, max_outputs, within_limits}
use Rattle.circuit.specs.File.{max_gates}
use Rattle.building.specs.Files.{Four, SmallFour, Small}
use Rattle.one_of.specs.OneOf.{entries, repeated, four, added, start, zero_wire, sum_wire, prefix, entry_gate, new_gate, relinked, total, slot_of, parts_of, room_for}
use Rattle.one_of.proofs.Slots.{O, G, N, new, onward, new-inputs, new-outputs, new-gates, slot-old, slot-new, new-inv, new-zero, new-entry, new-beyond, by_place, literal-low, prefix-low}

-- the numbers of a circuit within limits
pub record Limits (x : Fields) : Type 0 where
  pub some_inputs : 1 ≤ inputs_of x
  pub few_inputs : inputs_of x ≤ max_inputs
  pub some_outputs : 1 ≤ outputs_of x
  pub few_outputs : outputs_of x ≤ max_outputs
  pub few_gates : gates_of x ≤ max_gates

pub limits_of : (x : Fields) → within_limits max_gates x ≡ true → Limits x
unfolding within_limits
limits_of x e =
    let a = and-true-left _ (leb (gates_of x) max_gates) e in
    let b = and-true-left _ (leb (outputs_of x) max_outputs) a in
    let d = and-true-left _ (leb 1 (outputs_of x)) b in
    record {
      some_inputs = leb-true 1 (inputs_of x) (and-true-left (leb 1 (inputs_of x)) (leb (inputs_of x) max_inputs) d);
      few_inputs = leb-true (inputs_of x) max_inputs (and-true-right (leb 1 (inputs_of x)) (leb (inputs_of x) max_inputs) d);
      some_outputs = leb-true 1 (outputs_of x) (and-true-right (leb 1 (inputs_of x) && leb (inputs_of x) max_inputs) (leb 1 (outputs_of x)) b);
      few_outputs = leb-true (outputs_of x) max_outputs (and-true-right (leb 1 (inputs_of x) && leb (inputs_of x) max_inputs && leb 1 (outputs_of x)) (leb (outputs_of x) max_outputs) a);
      few_gates = leb-true (gates_of x) max_gates (and-true-right (leb 1 (inputs_of x) && leb (inputs_of x) max_inputs && leb 1 (outputs_of x) && leb (outputs_of x) max_outputs) (leb (gates_of x) max_gates) e);
    }

pub of-limits : (x : Fields) → Limits x → within_limits max_gates x ≡ true
unfolding within_limits
of-limits x l =
    rw
    (le-leb 1 (inputs_of x) l.some_inputs, le-leb (inputs_of x) max_inputs l.few_inputs, le-leb 1 (outputs_of x) l.some_outputs, le-leb (outputs_of x) max_outputs l.few_outputs, le-leb (gates_of x) max_gates l.few_gates)

small-four : (a b c d : ℕ) → a < 4294967296 → b < 4294967296 → c < 4294967296 → d < 4294967296 → SmallFour (four a b c d)
small-four a b c d p q r t = record { first = p; second = q; third = r; fourth = t }

-- no more gates are added than "O + N(O + 1)"
pub few-added : (O N : ℕ) → 1 ≤ N → added O N ≤ O + N * (O + 1)
few-added O N h = let q : N * (O + 1) ≡ N * suc O = ap (λ (k : ℕ). N * k) (omega arith) in omega (arith, q, mul-suc N O)

module _ (x : Fields) (list : List ℕ) (l : Limits x) (many : 1 ≤ entries (outputs_of x) list) (room : room_for (gates_of x) (outputs_of x) (entries (outputs_of x) list) ≡ true) where
  pub total-few : total x list ≤ max_gates
  total-few = omega (arith, few-added (O x list) (N x list) many, leb-true (G x list + O x list + N x list * (O x list + 1)) max_gates room)

  pub new-limits : Limits (new x list)
  new-limits =
      record {
        some_inputs = omega (arith, new-inputs x list, l.some_inputs);
        few_inputs = omega (arith, new-inputs x list, l.few_inputs);
        some_outputs = omega (arith, new-outputs x list);
        few_outputs = omega (arith, new-outputs x list);
        few_gates = omega (arith, new-gates x list, total-few);
      }

  module _ (fits : (k : ℕ) → x k < 4294967296) (low : (j : ℕ) → j < O x list → output_wire x j < start x) where
    abbrev o : ℕ
    o = O x list

    relinked-small : (k : ℕ) → k < 4294967296 → relinked x k < 4294967296
    unfolding relinked
    relinked-small k h = pick (eqb k 0)
      where
        pick : (b : Bool) → cond b (gates_of x + 1) k < 4294967296
        pick true = omega (arith, l.few_gates)
        pick false = h

    onward-small : (k : ℕ) → onward x list k < 4294967296
    onward-small k =
        ⊎_elim
        (λ (h : k < total x list). rw (lt-ltb k (total x list) h) (omega (arith, total-few)))
        (λ h. rw (le-ltb k (total x list) h) (omega arith))
        (lt-or-le k (total x list))

    entry-small : (e j n : ℕ) → e < N x list → j < o → n < 4294967296 → SmallFour (entry_gate x list e j n)
    unfolding entry_gate
    entry-small e j n a h s =
        ⊎_elim
        (λ (t : j + 1 < o). rw (lt-ltb (j + 1) o t) (pick (repeated o list e) _ (small-four _ _ _ _ (omega arith) before (omega (arith, top, literal-low x list low e (j + 1) t)) s)))
        (λ t. rw (le-ltb (j + 1) o t) (pick (repeated o list e) _ (small-four _ _ _ _ (omega arith) (omega (arith, top)) before s)))
        (lt-or-le (j + 1) o)
      where
        top : sum_wire x e + 1 + j < 4294967296
        top = omega (arith, suc-mul e o, mul-le-mul_right o a, total-few, l.few_inputs)

        before : prefix x list e j < 4294967296
        before = omega (arith, top, prefix-low x list low e j h)

        pick : (r : Bool) (q : Four) → SmallFour q → SmallFour (cond r (four 1 (sum_wire x e) (zero_wire x) n) q)
        pick true q t = small-four _ _ _ _ (omega arith) (omega (arith, top)) (omega (arith, top)) s
        pick false q t = t

    gate-small : (i n : ℕ) → n < 4294967296 → SmallFour (new_gate x list i n)
    gate-small i n s =
        ⊎_elim
        (λ h. by_place x list (λ i. SmallFour (new_gate x list i n)) l.some_outputs inverted
        (rw (new-zero x list n) (small-four _ _ _ _ (omega arith) (omega arith) (omega arith) s))
        (λ e j a b. rw (new-entry x list n (o + 1 + (e * o + j)) e j a b refl) (entry-small e j n a b s)) i h)
        (λ h. rw (beyond h) (small-four _ _ _ _ (omega arith) (omega arith) (omega arith) s))
        (lt-or-le i (added o (N x list)))
      where
        inverted : (i : ℕ) → i < o → SmallFour (new_gate x list i n)
        inverted i h = rw (new-inv x list n i h) (small-four _ _ _ _ (omega arith) (fits (4 + i)) (omega arith) s)

        beyond : added o (N x list) ≤ i → new_gate x list i n ≡ four 1 0 0 n
        beyond h = new-beyond x list n i h

    slot_small : (k : ℕ) → SmallFour (slot_of x list k)
    slot_small k =
        ⊎_elim
        (λ (h : G x list < k). rw (slot-new x list k (k - G x list - 1) (omega arith)) (gate-small (k - G x list - 1) (onward x list k) (onward-small k)))
        (λ h. rw (slot-old x list k h) (small-four _ _ _ _ (fits _) (fits _) (fits _) (relinked-small _ (fits _))))
        (lt-or-le (G x list) k)

    -- all numbers are small
    pub parts-small : Small (parts_of x list)
    unfolding parts_of
    parts-small =
        record {
          header = small-four _ _ _ _ (omega (arith, l.few_inputs)) (omega arith) (omega (arith, total-few)) (relinked-small _ (fits 3));
          output = λ j. omega (arith, total-few, l.few_inputs);
          slot = slot_small;
        }
