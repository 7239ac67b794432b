-- What a refused reading tells: 19, 20 and 21 are those of the walk, with its slot, and every other refusal tells none.
-- Assumes nothing.
use mathlib.Core.Path.{◌≡◌, refl}
use mathlib.Core.Bool.{Bool, true, false, not, cond}
use mathlib.Core.List.{List}
use mathlib.Core.Logic.{◌⊎◌, inl, inr, ⊎_elim}
use Prim.Native.Nat.{ℕ, ◌*◌, ◌≤◌, ◌<◌}
use native.Mathlib.Omega.{arith}
use borrow.Author.Tests.{ltb-false, not-false, le-ltb}
use lib.Dec.{ltb}
use lib.ListN.{length}
use Rattle.circuit.specs.Chain.{Walk, ends, fault}
use Rattle.circuit.specs.Circuit.{Circuit}
use Rattle.circuit.specs.Fields as fields
use Rattle.circuit.specs.File.{width, gates_of, within_limits, right_length, good_records, chain_walk, good_wires, circuit_of, Reading, refused, legal, on_walk, read_circuit}
use Rattle.circuit.specs.Steps.{link_of}
use Rattle.circuit.specs.Meaning.{Recorded, ReadFaultTheorem}
use Rattle.circuit.proofs.Walking.{fault-number}

-- a refusal is that of the first test, without a slot, or one of the rest, where that test passed
first-or-rest : (a : Bool) (j : ℕ) (r : Reading) (k x : ℕ) → cond a (refused j 0) r ≡ refused k x
    → ((j ≡ k) × (x ≡ 0)) ⊎ ((a ≡ false) × (r ≡ refused k x))
first-or-rest true j r k x e = inl (cc, cc)
first-or-rest false j r k x e = inr (refl, e)

-- one with another number is of the rest
rest : (a : Bool) (j : ℕ) (r : Reading) (k x : ℕ) → j < k → cond a (refused j 0) r ≡ refused k x → (a ≡ false) × (r ≡ refused k x)
rest a j r k x l e = ⊎_elim (λ o. absurd (omega (arith, o.0))) (λ o. o) (first-or-rest a j r k x e)

-- one with a slot is of the rest
slot-rest : (a : Bool) (j : ℕ) (r : Reading) (k x : ℕ) → (r ≡ refused k x → x ≡ 0) → cond a (refused j 0) r ≡ refused k x → x ≡ 0
slot-rest a j r k x f e = ⊎_elim (λ o. o.1) (λ o. f o.1) (first-or-rest a j r k x e)

-- a legal circuit is not refused
not-legal : {A : Type 0} (c : Circuit) (k x : ℕ) → legal c ≡ refused k x → A
not-legal c k x e = absurd (let z : ◌≡◌ {A = ℕ} 0 1 = cc in omega arith)

-- a refusal is the fault of the walk, or one of the rest, where the walk ended well
walk-or-rest : (w : Walk) (r : Reading) (k x : ℕ) → on_walk w r ≡ refused k x → (w ≡ fault k x) ⊎ (r ≡ refused k x)
unfolding fields.on_walk
walk-or-rest ends r k x e = inr e
walk-or-rest (fault j y) r k x e = inl (let a : j ≡ k = cc in let b : y ≡ x = cc in cc)

module _ (s : List ℕ) (k x : ℕ) where
  walk-means : 19 ≤ k → read_circuit s ≡ refused k x → Recorded s × (chain_walk s ≡ fault k x)
  unfolding fields.read_with fields.read_fields
  walk-means l e =
      let a = rest (ltb (length s) (width * 4)) 1 _ k x (omega arith) e in
      let b = rest (not (within_limits s)) 2 _ k x (omega arith) a.1 in
      let c = rest (not (right_length s)) 1 _ k x (omega arith) b.1 in
      let d = rest (not (good_records s (gates_of s))) 3 _ k x (omega arith) c.1 in (
        record { enough = ltb-false (length s) (width * 4) a.0; limited = not-false _ b.0; sized = not-false _ c.0; records = not-false _ d.0 },
        ⊎_elim
            (λ w. w)
            (λ r. not-legal (circuit_of s) k x (rest (not (good_wires s)) 5 _ k x (omega arith) r).1)
            (walk-or-rest (chain_walk s) _ k x d.1),
      )

  walk-gives : Recorded s × (chain_walk s ≡ fault k x) → read_circuit s ≡ refused k x
  unfolding fields.read_with fields.read_fields fields.on_walk
  walk-gives p = rw (le-ltb (length s) (width * 4) p.0.enough, p.0.limited, p.0.sized, p.0.records, p.1)

  slotless : k < 19 → read_circuit s ≡ refused k x → x ≡ 0
  unfolding fields.read_with fields.read_fields fields.chain_walk
  slotless l =
      slot-rest (ltb (length s) (width * 4)) 1 _ k x
      (slot-rest (not (within_limits s)) 2 _ k x
      (slot-rest (not (right_length s)) 1 _ k x
      (slot-rest (not (good_records s (gates_of s))) 3 _ k x (λ e.
      ⊎_elim
      (λ w. absurd (omega (arith, fault-number (gates_of s) (link_of s) k x w)))
      (slot-rest (not (good_wires s)) 5 _ k x (not-legal (circuit_of s) k x))
      (walk-or-rest (chain_walk s) _ k x e)))))

-- Theorem, read-fault
pub read-fault : ReadFaultTheorem
read-fault = record { chain = λ s k x l. (walk-means s k x l, walk-gives s k x); slotless = slotless }
