-- The numbers of a legal file are small, and so are those of the joined file.
-- Assumes nothing.
use mathlib.Core.Path.{◌≡◌, refl, ap, ◌∙◌}
use mathlib.Core.Bool.{Bool, true, false, cond, ◌&&◌, ◌||◌}
use mathlib.Core.List.{List}
use mathlib.Core.Logic.{⊎_elim}
use Prim.Native.Nat.{ℕ, zero, suc, ◌-◌, ◌≤◌, ◌<◌}
use native.Mathlib.Omega.{arith}
use borrow.Author.Tests.{eqb-true, ltb-true, leb-true}
use lib.Dec.{eqb, ltb, leb}
use Rattle.bits.specs.Counting.{count}
use Rattle.bits.proofs.Counting.{count-nil, count-other}
use Rattle.bits.proofs.Numbers.{eq-or-ne}
use Rattle.bits.proofs.Tests.{and-true-left, and-true-right}
use Rattle.circuit.specs.Fields as fields
use Rattle.circuit.specs.FieldSteps as steps
use Rattle.circuit.specs.File.{max_inputs, max_outputs, max_gates, fields_of, inputs_of, outputs_of, gates_of, head_of, next_of, chain_from}
use Rattle.circuit.specs.Steps.{max_wires, within, wired, walks, gate_of, kind_of, wire_a, wire_b}
use Rattle.circuit.specs.declared.Gate.TheVariants.{Xor, And, Inv}
use Rattle.circuit.proofs.Answered.{Passed}
use Rattle.circuit.proofs.Readings.{header, limits-few}
use Rattle.circuit.proofs.Run.{wired-on, wired-reads, good_chain-walks, gates-order}
use Rattle.circuit.proofs.Slots.{here}
use Rattle.circuit.proofs.Visits.{chain-theorem}
use Rattle.join.specs.Steps.{SlotFits, Fits}
use Rattle.join.proofs.Wires.{records-at, outputs-at, wires-parts}

-- the limits on I, O and G
pub record Few (s : List ℕ) : Type 0 where
  pub some_inputs : 1 ≤ inputs_of s
  pub inputs : inputs_of s ≤ max_inputs
  pub some_outputs : 1 ≤ outputs_of s
  pub outputs : outputs_of s ≤ max_outputs
  pub gates : gates_of s ≤ max_gates

-- a good record, as a test of its kind and its b
kinds : (kind b : ℕ) → eqb kind 1 || eqb kind 2 || (eqb kind 3 && eqb b 0) ≡ true → (kind ≤ 3) × (eqb kind 1 ≡ false → eqb kind 2 ≡ false → b ≡ 0)
kinds kind b e = pick (eqb kind 1) (eqb kind 2) refl refl e
  where
    pick : (p q : Bool) → eqb kind 1 ≡ p → eqb kind 2 ≡ q → p || q || (eqb kind 3 && eqb b 0) ≡ true
        → (kind ≤ 3) × (p ≡ false → q ≡ false → b ≡ 0)
    pick true q f g e = (omega (arith, eqb-true kind 1 f), λ h. absurd (let n : ◌≡◌ {A = ℕ} 0 1 = cc in omega arith))
    pick false true f g e = (omega (arith, eqb-true kind 2 g), λ _ h. absurd (let n : ◌≡◌ {A = ℕ} 0 1 = cc in omega arith))
    pick false false f g e =
        (omega (arith, eqb-true kind 3 (and-true-left (eqb kind 3) (eqb b 0) e)), λ _ _. eqb-true b 0 (and-true-right (eqb kind 3) (eqb b 0) e))

-- the wires of a gate that reads wires below m, where b is 0 if it is not read
wires-low : (m a b : ℕ) (p q : Bool) → within m (cond p (Xor a b) (cond q (And a b) (Inv a))) → 0 < m → (p ≡ false → q ≡ false → b ≡ 0) → (a < m) × (b < m)
wires-low m a b true q w l f = w
wires-low m a b false true w l f = w
wires-low m a b false false w l f = (w, omega (arith, f refl refl))

module _ (s : List ℕ) where
  -- a way starts at the end or at a slot
  walks-low : (n k : ℕ) → walks s n k ≡ true → k ≤ gates_of s
  unfolding steps.walks
  walks-low zero k t = omega (arith, eqb-true k 0 t)
  walks-low (suc n) k t = (here (fields_of s) (suc n) k (omega arith) t).low

  -- what is so of each slot on a way: its gate reads wires below m, its link leads to a slot or ends the chain
  on-way : (m n h : ℕ) → wired s m n h → walks s n h ≡ true → (k : ℕ) → 1 ≤ count k (chain_from s n h) → within m (gate_of s k) × (next_of s k ≤ gates_of s)
  unfolding fields.chain_from
  on-way m zero h w t k c = absurd (omega (arith, count-nil k))
  on-way m (suc n) h w t k c =
      let q : suc n - 1 ≡ n = omega arith in
      let i = here (fields_of s) (suc n) h (omega arith) t in
      let r : walks s n (next_of s h) ≡ true = rw q at i.rest in
      let v = wired-on s m (suc n) h (omega arith) w in
      let u : wired s m n (next_of s h) = rw q at v.1 in
      ⊎_elim
      (λ (e : k ≡ h). rw e (v.0, walks-low n (next_of s h) r))
      (λ d. on-way m n (next_of s h) u r k (omega (arith, count-other k h (chain_from s n (next_of s h)) d)))
      (eq-or-ne k h)

  module _ (p : Passed s) where
    pub few : Few s
    unfolding fields.within_limits
    few =
        let l = p.front.limited in
        let m = limits-few max_gates (inputs_of s) (outputs_of s) (gates_of s) (header max_gates (fields_of s) _ _ _ (steps.limits max_gates (inputs_of s) (outputs_of s) (gates_of s)) refl refl refl refl ∙ l) in
        let a = and-true-left _ (leb (gates_of s) max_gates) l in
        let b = and-true-left _ (leb (outputs_of s) max_outputs) a in
        let d = and-true-left _ (leb 1 (outputs_of s)) b in
        record {
          some_inputs = leb-true 1 (inputs_of s) (and-true-left (leb 1 (inputs_of s)) (leb (inputs_of s) max_inputs) d);
          inputs = m.0;
          some_outputs = leb-true 1 (outputs_of s) (and-true-right (leb 1 (inputs_of s) && leb (inputs_of s) max_inputs) (leb 1 (outputs_of s)) b);
          outputs = m.1.0;
          gates = m.1.1;
        }

    -- all gates of the file read wires of the file
    all-wired : wired s max_wires (gates_of s) (head_of s)
    all-wired =
        wired-reads s max_wires (gates_of s) (head_of s) (λ w. ltb w (inputs_of s)) (λ w t. omega (arith, ltb-true w (inputs_of s) t, few))
        (omega (arith, few)) (good_chain-walks s p.chain)
        (ap (fields.reads_written (λ w. ltb w (inputs_of s))) (gates-order s) ∙ (wires-parts (fields_of s) p.wires).0)

    slot-fits : (k : ℕ) → 1 ≤ k → k ≤ gates_of s → SlotFits (fields_of s) k
    unfolding steps.gate_of fields.good_record
    slot-fits k a b =
        let c = (chain-theorem.sound s p.chain).once k a b in
        let w = on-way max_wires (gates_of s) (head_of s) all-wired (good_chain-walks s p.chain) k (omega (arith, c)) in
        let i = kinds (kind_of s k) (wire_b s k) (records-at (fields_of s) (gates_of s) p.records k a b) in
        let j = wires-low max_wires (wire_a s k) (wire_b s k) (eqb (kind_of s k) 1) (eqb (kind_of s k) 2) w.0 (omega arith) i.1 in
        record { kind = i.0; a = j.0; b = j.1; next = w.1 }

    pub fits : Fits (fields_of s)
    fits =
        record {
          head = walks-low (gates_of s) (head_of s) (good_chain-walks s p.chain);
          output = λ j l. omega (arith, outputs-at (fields_of s) (outputs_of s) (wires-parts (fields_of s) p.wires).1 j l, few);
          slot = slot-fits;
        }
