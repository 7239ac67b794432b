-- The slot that upgrading tells is that of the old reading, and small.
-- Assumes nothing.
use mathlib.Core.Path.{◌≡◌, refl, sym, ap, ◌∙◌}
use mathlib.Core.Bool.{Bool, true, false, not, cond}
use mathlib.Core.List.{List}
use Prim.Native.Nat.{ℕ, ◌*◌, ◌≤◌, ◌<◌, ◌^◌}
use native.Mathlib.Omega.{arith}
use borrow.Author.Tests.{not-false}
use lib.Dec.{leb, ltb}
use lib.ListN.{length}
use Rattle.refusal.specs.Outcome.{Answer, refusal_at, success, Outcome, unless}
use Rattle.std.specs.Prelude.{Err}
use Rattle.circuit.specs.Building.{builds}
use Rattle.circuit.specs.Chain.{Walk, ends, fault}
use Rattle.circuit.specs.Fields.{Fields, field, inputs_of, outputs_of, gates_of, within_limits, right_length, good_records, link_of, chain_walk, good_wires, circuit_of, Reading, refused, legal, on_walk, read_fields, read_with}
use Rattle.circuit.specs.FieldSteps.{limits}
use Rattle.circuit.proofs.Readings.{header, limits-few}
use Rattle.circuit.proofs.Walking.{fault-low}
use Rattle.upgrade.specs.Answers.{outcome}
use Rattle.upgrade.specs.Upgrade.{old_width, old_gates, read_old, upgraded, on_read, upgrade_op}
use Rattle.circuit.specs.declared.Fault.{Fault}

-- the slot that a reading tells, 0 where it tells none
unfoldable slot_of : Reading → ℕ
slot_of (refused k x) = x
slot_of (legal c) = 0

-- a test that refuses tells none, so a bound on the slot of the rest is one on the whole
test_low : (m : ℕ) (a : Bool) (j : ℕ) (r : Reading) → (a ≡ false → slot_of r ≤ m) → slot_of (cond a (refused j 0) r) ≤ m
unfolding slot_of
test_low m true j r f = omega arith
test_low m false j r f = f refl

walk-low : (m : ℕ) (w : Walk) (r : Reading) → ((k x : ℕ) → w ≡ fault k x → x ≤ m) → slot_of r ≤ m → slot_of (on_walk w r) ≤ m
unfolding on_walk slot_of
walk-low m ends r f h = h
walk-low m (fault k x) r f h = f k x refl

gates-few : (m : ℕ) (x : Fields) → within_limits m x ≡ true → gates_of x ≤ m
gates-few m x e =
    let l : limits m (inputs_of x) (outputs_of x) (gates_of x) ≡ true = header m x _ _ _ _ refl refl refl refl ∙ e in
    (limits-few m _ _ _ l).1.1

fields-low : (m : ℕ) (x : Fields) → gates_of x ≤ m → slot_of (read_fields x) ≤ m
unfolding read_fields chain_walk slot_of
fields-low m x h =
    test_low m (not (good_records x (gates_of x))) 3 _ (λ _.
    walk-low m (chain_walk x) _ (λ k y e. omega (arith, fault-low (gates_of x) (link_of x) k y e))
    (test_low m (not (good_wires x)) 5 (legal (circuit_of x)) (λ _. omega arith)))

-- the slot of a reading is at most the limit on G
read_low : (w m : ℕ) (s : List ℕ) → slot_of (read_with w m s) ≤ m
unfolding read_with
read_low w m s =
    test_low m (ltb (length s) (w * 4)) 1 _ (λ _.
    test_low m (not (within_limits m (field w s))) 2 _ (λ e.
    test_low m (not (right_length w s)) 1 _ (λ _. fields-low m (field w s) (gates-few m (field w s) (not-false _ e)))))

-- the slot that an answer tells
abbrev pub told : Answer → ℕ
told (refusal_at k x) = x
told (success vs) = 0

-- writing the new file tells none
built-slotless : (file out : List ℕ) → told (builds file out).answer ≡ 0
unfolding builds
built-slotless file out = unless-slotless (leb (length file) (length out)) _ _ _
  where
    unless-slotless : (b : Bool) (vs : List ℕ) (lent left : List (List ℕ)) → told (unless b 6 lent (record { answer = success vs; left = left })).answer ≡ 0
    unless-slotless true vs lent left = refl
    unless-slotless false vs lent left = refl

told-slot : (r : Reading) (file out : List ℕ) → told (on_read r file out).answer ≡ slot_of r
unfolding slot_of
told-slot (refused k x) file out = refl
told-slot (legal c) file out = built-slotless file out

-- so the slot is the same whatever output is lent
pub slot_same : (s out out' : List ℕ) → told (upgrade_op s out).answer ≡ told (upgrade_op s out').answer
unfolding upgrade_op
slot_same s out out' = told-slot (read_old s) (upgraded s) out ∙ sym (told-slot (read_old s) (upgraded s) out')

-- and fits 32 bits
pub slot_small : (s out left : List ℕ) (f : Fault) → outcome (Err f) left ≡ upgrade_op s out → f.slot < 2 ^ 32
unfolding upgrade_op
slot_small s out left f e =
    let t : f.slot ≡ slot_of (read_old s) = ap (λ (o : Outcome). told o.answer) e ∙ told-slot (read_old s) (upgraded s) out in
    omega (arith, read_low old_width old_gates s)
