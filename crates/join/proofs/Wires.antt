-- The tests of the records and of the wires of the joined file.
-- Assumes nothing.
use mathlib.Core.Path.{◌≡◌, refl, sym, ap, ap₂, ◌∙◌}
use mathlib.Core.Bool.{Bool, true, false, ◌&&◌, ◌||◌}
use mathlib.Core.List.{List, [], ◌∷◌, ◌++◌, map}
use mathlib.Core.Logic.{⊎_elim}
use Prim.Native.Nat.{ℕ, zero, suc, ◌+◌, ◌-◌, ◌≤◌, ◌<◌}
use native.Mathlib.Nat.{eq-or-lt_of_le}
use native.Mathlib.Omega.{arith}
use borrow.Author.Tests.{eq-eqb, eqb-true, lt-ltb, ltb-true}
use lib.Dec.{eqb, ltb}
use Rattle.bits.proofs.Numbers.{lt-or-le, eq-or-ne}
use Rattle.bits.proofs.Tests.{and-true-left, and-true-right}
use Rattle.circuit.specs.Circuit.{Gate, xor, and, inv, put}
use Rattle.circuit.specs.Fields.{Fields, inputs_of, outputs_of, gates_of, output_wire, kind_of, wire_b, good_record, good_records, gates_in_order, reads_written, good_outputs, good_wires}
use Rattle.circuit.proofs.Slots.{put_same, put_other}
use Rattle.building.specs.Files.{laid}
use Rattle.join.specs.Join.{moved_wire, first_slot, second_slot, joined_parts}
use Rattle.join.specs.Theorem.{moved_gate}
use Rattle.join.proofs.Moved.{wire-input, wire-le}
use Rattle.join.proofs.Places.{joined-inputs, joined-outputs, joined-gates, first-output, second-output, first-slot, second-slot}

-- a record that passes the test
good : ℕ → ℕ → Bool
good kind b = eqb kind 1 || eqb kind 2 || (eqb kind 3 && eqb b 0)

good-at : (s : Fields) (k : ℕ) → good_record s k ≡ good (kind_of s k) (wire_b s k)
unfolding good_record good
good-at s k = refl

-- passes it with another b that is 0 where the one is
good-other : (kind b d : ℕ) → (b ≡ 0 → d ≡ 0) → good kind b ≡ true → good kind d ≡ true
unfolding good
good-other kind b d f = pick (eqb kind 1) (eqb kind 2) (eqb kind 3)
  where
    pick : (p q r : Bool) → p || q || (r && eqb b 0) ≡ true → p || q || (r && eqb d 0) ≡ true
    pick true q r e = refl
    pick false true r e = refl
    pick false false r e = rw (and-true-left r (eqb b 0) e, eq-eqb d 0 (f (eqb-true b 0 (and-true-right r (eqb b 0) e))))

-- the test of the records, slot by slot
pub records-at : (s : Fields) (n : ℕ) → good_records s n ≡ true → (k : ℕ) → 1 ≤ k → k ≤ n → good_record s k ≡ true
unfolding good_records
records-at s zero t k a b = absurd (omega arith)
records-at s (suc n) t k a b =
    ⊎_elim
    (λ e. rw e (and-true-right (good_records s n) (good_record s (suc n)) t))
    (λ l. records-at s n (and-true-left (good_records s n) (good_record s (suc n)) t) k a (omega arith))
    (eq-or-lt_of_le b)

records-all : (s : Fields) (n : ℕ) → ((k : ℕ) → 1 ≤ k → k ≤ n → good_record s k ≡ true) → good_records s n ≡ true
unfolding good_records
records-all s zero h = refl
records-all s (suc n) h = rw (records-all s n (λ k a b. h k a (omega arith))) (h (suc n) (omega arith) (omega arith))

-- what was written stays so
put_keeps : (f : ℕ → Bool) (c w : ℕ) → f w ≡ true → put f c true w ≡ true
put_keeps f c w t = ⊎_elim (λ e. ap (put f c true) e ∙ put_same f c true) (λ n. put_other f c true w n ∙ t) (eq-or-ne w c)

-- gates with moved wires read written wires, if the written ones are moved too
moved-reads : (up : ℕ → ℕ) (u v : ℕ → Bool) (gs : List Gate) → ((w : ℕ) → u w ≡ true → v (up w) ≡ true) → reads_written u gs ≡ true
    → reads_written v (map (moved_gate up) gs) ≡ true
unfolding reads_written moved_gate
moved-reads up u v gs = go gs u v
  where
    on : (u v : ℕ → Bool) (c : ℕ) → ((w : ℕ) → u w ≡ true → v (up w) ≡ true) → (w : ℕ) → put u c true w ≡ true → put v (up c) true (up w) ≡ true
    on u v c h w t =
        ⊎_elim
        (λ (e : w ≡ c). ap (λ (j : ℕ). put v (up c) true (up j)) e ∙ put_same v (up c) true)
        (λ n. put_keeps v (up c) (up w) (h w (sym (put_other u c true w n) ∙ t)))
        (eq-or-ne w c)

    go : (gs : List Gate) (u v : ℕ → Bool) → ((w : ℕ) → u w ≡ true → v (up w) ≡ true) → reads_written u gs ≡ true
        → reads_written v (map (moved_gate up) gs) ≡ true
    go [] u v h t = refl
    go (xor a b c ∷ gs) u v h t =
        let i : u a && u b ≡ true = and-true-left _ (reads_written (put u c true) gs) t in
        rw (h a (and-true-left (u a) (u b) i), h b (and-true-right (u a) (u b) i))
        (go gs (put u c true) (put v (up c) true) (on u v c h) (and-true-right (u a && u b) (reads_written (put u c true) gs) t))
    go (and a b c ∷ gs) u v h t =
        let i : u a && u b ≡ true = and-true-left _ (reads_written (put u c true) gs) t in
        rw (h a (and-true-left (u a) (u b) i), h b (and-true-right (u a) (u b) i))
        (go gs (put u c true) (put v (up c) true) (on u v c h) (and-true-right (u a && u b) (reads_written (put u c true) gs) t))
    go (inv a c ∷ gs) u v h t =
        rw (h a (and-true-left (u a) (reads_written (put u c true) gs) t))
        (go gs (put u c true) (put v (up c) true) (on u v c h) (and-true-right (u a) (reads_written (put u c true) gs) t))

-- gates after others, which only write more
reads-append : (gs hs : List Gate) (u : ℕ → Bool) → reads_written u gs ≡ true
    → ((v : ℕ → Bool) → ((w : ℕ) → u w ≡ true → v w ≡ true) → reads_written v hs ≡ true) → reads_written u (gs ++ hs) ≡ true
unfolding reads_written
reads-append [] hs u t f = f u (λ w e. e)
reads-append (xor a b c ∷ gs) hs u t f =
    let i : u a && u b ≡ true = and-true-left _ (reads_written (put u c true) gs) t in
    rw (and-true-left (u a) (u b) i, and-true-right (u a) (u b) i)
    (reads-append gs hs (put u c true) (and-true-right (u a && u b) (reads_written (put u c true) gs) t) (λ v k. f v (λ w e. k w (put_keeps u c w e))))
reads-append (and a b c ∷ gs) hs u t f =
    let i : u a && u b ≡ true = and-true-left _ (reads_written (put u c true) gs) t in
    rw (and-true-left (u a) (u b) i, and-true-right (u a) (u b) i)
    (reads-append gs hs (put u c true) (and-true-right (u a && u b) (reads_written (put u c true) gs) t) (λ v k. f v (λ w e. k w (put_keeps u c w e))))
reads-append (inv a c ∷ gs) hs u t f =
    rw (and-true-left (u a) (reads_written (put u c true) gs) t)
    (reads-append gs hs (put u c true) (and-true-right (u a) (reads_written (put u c true) gs) t) (λ v k. f v (λ w e. k w (put_keeps u c w e))))

-- the test of the output wires, one by one
pub outputs-at : (s : Fields) (n : ℕ) → good_outputs s n ≡ true → (j : ℕ) → j < n → output_wire s j < inputs_of s + gates_of s
unfolding good_outputs
outputs-at s zero t j l = absurd (omega arith)
outputs-at s (suc n) t j l =
    let m : ℕ = inputs_of s + gates_of s in
    let i : j ≤ n = omega arith in
    ⊎_elim
    (λ e. rw e (ltb-true (output_wire s n) m (and-true-right (good_outputs s n) (ltb (output_wire s n) m) t)))
    (λ k. outputs-at s n (and-true-left (good_outputs s n) (ltb (output_wire s n) m) t) j k)
    (eq-or-lt_of_le i)

outputs-all : (s : Fields) (n : ℕ) → ((j : ℕ) → j < n → output_wire s j < inputs_of s + gates_of s) → good_outputs s n ≡ true
unfolding good_outputs
outputs-all s zero h = refl
outputs-all s (suc n) h = rw (outputs-all s n (λ j l. h j (omega arith)), lt-ltb (output_wire s n) (inputs_of s + gates_of s) (h n (omega arith)))

-- the parts of the test of the wires
pub wires-parts : (s : Fields) → good_wires s ≡ true → (reads_written (λ w. ltb w (inputs_of s)) (gates_in_order s) ≡ true) × (good_outputs s (outputs_of s) ≡ true)
unfolding good_wires
wires-parts s e =
    let a : Bool = reads_written (λ w. ltb w (inputs_of s)) (gates_in_order s) in
    (and-true-left a (good_outputs s (outputs_of s)) e, and-true-right a (good_outputs s (outputs_of s)) e)

module _ (x y : Fields) where
  abbrev z : Fields
  z = laid (joined_parts x y)

  abbrev G : ℕ
  G = gates_of x

  abbrev up : ℕ → ℕ
  up = moved_wire (inputs_of x) G

  pub joined-records : 1 ≤ inputs_of x → good_records x G ≡ true → good_records y (gates_of y) ≡ true → good_records z (gates_of z) ≡ true
  unfolding first_slot second_slot
  joined-records one s t =
      records-all z (gates_of z) (λ k a b.
      ⊎_elim
      (λ (l : G < k).
      let j : ℕ = k - G in
      let e : k ≡ j + G = omega arith in
      let i : j ≤ gates_of y = omega (arith, joined-gates x y) in
      let h = second-slot x y j (omega arith) i in
      ap (good_record z) e ∙ good-at z (j + G) ∙ ap₂ good h.kind h.b
      ∙ good-other (kind_of y j) (wire_b y j) (up (wire_b y j)) (λ q. omega (arith, wire-input (inputs_of x) G (wire_b y j) (omega arith)))
      (sym (good-at y j) ∙ records-at y (gates_of y) t j (omega arith) i))
      (λ (l : k ≤ G).
      let h = first-slot x y k a l in
      good-at z k ∙ ap₂ good h.kind h.b ∙ sym (good-at x k) ∙ records-at x G s k a l)
      (lt-or-le G k))

  joined-low : inputs_of x ≡ inputs_of y → good_outputs x (outputs_of x) ≡ true → good_outputs y (outputs_of y) ≡ true
      → (j : ℕ) → j < outputs_of z → output_wire z j < inputs_of z + gates_of z
  joined-low same s t j h =
      let i = joined-inputs x y in
      let g = joined-gates x y in
      ⊎_elim
      (λ (l : j < outputs_of x). omega (arith, first-output x y j l, outputs-at x (outputs_of x) s j l))
      (λ (l : outputs_of x ≤ j).
      let k : ℕ = j - outputs_of x in
      let m : k < outputs_of y = omega (arith, joined-outputs x y) in
      let e : j ≡ outputs_of x + k = omega arith in
      omega (arith, ap (output_wire z) e, second-output x y k m, wire-le (inputs_of x) G (output_wire y k), outputs-at y (outputs_of y) t k m))
      (lt-or-le j (outputs_of x))

  pub joined-wires : inputs_of x ≡ inputs_of y → gates_in_order z ≡ gates_in_order x ++ map (moved_gate up) (gates_in_order y)
      → good_wires x ≡ true → good_wires y ≡ true → good_wires z ≡ true
  unfolding good_wires
  joined-wires same order s t =
      let I : ℕ = inputs_of x in
      let u : ℕ → Bool = λ w. ltb w I in
      let p = wires-parts x s in
      let q = wires-parts y t in
      let second : reads_written u (gates_in_order y) ≡ true = ap (λ (i : ℕ). reads_written (λ w. ltb w i) (gates_in_order y)) same ∙ q.0 in
      let r : reads_written (λ w. ltb w (inputs_of z)) (gates_in_order z) ≡ true =
      ap₂ (λ (i : ℕ) (l : List Gate). reads_written (λ w. ltb w i) l) (joined-inputs x y) order
      ∙ reads-append (gates_in_order x) (map (moved_gate up) (gates_in_order y)) u p.0 (λ v k.
      moved-reads up u v (gates_in_order y) (λ w e. ap v (wire-input I G w (ltb-true w I e)) ∙ k w e) second) in
      ap₂ ◌&&◌ r (outputs-all z (outputs_of z) (joined-low same p.1 q.1))
