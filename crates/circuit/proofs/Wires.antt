-- The test of the wires: each wire from I to I + G − 1 is written once and no other, and what a gate reads is an input or
-- written by an earlier gate.
-- Assumes nothing.
use mathlib.Core.Path.{◌≡◌, refl, sym, ap, subst, ◌∙◌}
use mathlib.Core.Bool.{Bool, true, false, cond, ◌&&◌}
use mathlib.Core.List.{List, [], ◌∷◌, ◌++◌, map}
use mathlib.Core.Logic.{◌≢◌, ◌⊎◌, inl, inr, ⊎_elim}
use Prim.Native.Nat.{ℕ, zero, suc, ◌+◌, ◌-◌, ◌≤◌, ◌<◌}
use native.Mathlib.Nat.{eq-or-lt_of_le}
use native.Mathlib.Omega.{arith}
use lib.Dec.{eqb, ltb}
use lib.ListN.{length, get_or}
use borrow.Author.Tests.{eq-eqb, ne_eqb, ltb-true, lt-ltb}
use Rattle.bits.specs.Bits.{tabulate}
use Rattle.bits.proofs.Numbers.{eq-or-ne}
use Rattle.bits.proofs.Tabulate.{length-tabulate, get_d_tabulate}
use Rattle.bits.proofs.Tests.{and-true-left, and-true-right}
use Rattle.bits.specs.Counting.{count}
use Rattle.bits.proofs.Counting.{Within, count-here, count_same, count-other, count-rest, within_first, within-rest}
use Rattle.circuit.specs.Circuit.{Gate, xor, and, inv, Circuit, put}
use Rattle.circuit.specs.Fields as fields
use Rattle.circuit.specs.File.{inputs_of, outputs_of, gates_of, head_of, output_wire, good_chain, chain_from, gates_in_order, reads_written, good_wires}
use Rattle.circuit.specs.Steps.{kind_of, wire_a, wire_b, gate_at, good_outputs}
use Rattle.circuit.specs.Meaning.{reads, writes, ReadsEarlier, WiresTheorem}
use Rattle.circuit.proofs.Visits.{chain-sound}
use Rattle.circuit.proofs.Answered.{passed, gates-count, read_same}

-- the wire that a gate writes
out : Gate → ℕ
out (xor a b c) = c
out (and a b c) = c
out (inv a c) = c

-- the wires written are those of the gates, one after the other
writes-cons : (g : Gate) (gs : List Gate) → writes (g ∷ gs) ≡ out g ∷ writes gs
unfolding writes out
writes-cons (xor a b c) gs = refl
writes-cons (and a b c) gs = refl
writes-cons (inv a c) gs = refl

-- of whatever kind, a gate writes its last wire
out-kind : (p q : Bool) (a b c : ℕ) → out (cond p (xor a b c) (cond q (and a b c) (inv a c))) ≡ c
unfolding out
out-kind true q a b c = refl
out-kind false true a b c = refl
out-kind false false a b c = refl

-- "Slot k writes wire I + k − 1"
slot-writes : (s : List ℕ) (k : ℕ) → out (gate_at s k) ≡ inputs_of s + k - 1
unfolding fields.gate_at
slot-writes s k = out-kind (eqb (kind_of s k) 1) (eqb (kind_of s k) 2) (wire_a s k) (wire_b s k) (inputs_of s + k - 1)

-- the wires that the gates of slots write
slots-write : (s : List ℕ) (ks : List ℕ) → writes (map (gate_at s) ks) ≡ map (λ k. inputs_of s + k - 1) ks
unfolding writes
slots-write s [] = refl
slots-write s (k ∷ ks) = rw (writes-cons, slot-writes, slots-write s ks)

module _ (I g : ℕ) where
  -- wire I + k − 1 is written as often as slot k is visited
  wire-count : (ks : List ℕ) → Within g ks → (k : ℕ) → 1 ≤ k → count (I + k - 1) (map (λ y. I + y - 1) ks) ≡ count k ks
  unfolding count
  wire-count [] w k p = refl
  wire-count (y ∷ ys) w k p =
      let i : (1 ≤ y) × (y ≤ g) = within_first g y ys w in
      let rest : List ℕ = map (λ y. I + y - 1) ys in
      let ih : count (I + k - 1) rest ≡ count k ys = wire-count ys (within-rest g y ys w) k p in
      ⊎_elim
      (λ e. count-here (I + k - 1) (I + y - 1) rest (omega arith) ∙ ap (λ (t : ℕ). 1 + t) ih ∙ sym (count-here k y ys e))
      (λ n. count-other (I + k - 1) (I + y - 1) rest (λ e. n (omega arith)) ∙ ih ∙ sym (count-other k y ys n))
      (eq-or-ne k y)

  -- no other wire is written
  wire-none : (ks : List ℕ) → Within g ks → (w : ℕ) → (w < I) ⊎ (I + g ≤ w) → count w (map (λ y. I + y - 1) ks) ≡ 0
  unfolding count
  wire-none [] h w o = refl
  wire-none (y ∷ ys) h w o =
      let i : (1 ≤ y) × (y ≤ g) = within_first g y ys h in
      let other : w ≢ I + y - 1 = λ e. ⊎_elim (λ l. omega arith) (λ l. omega arith) o in
      count-other w (I + y - 1) (map (λ y. I + y - 1) ys) other ∙ wire-none ys (within-rest g y ys h) w o

-- on a good chain, each wire from I to I + G − 1 is written once
pub gates-once : (s : List ℕ) → good_chain s ≡ true → (w : ℕ) → inputs_of s ≤ w → w < inputs_of s + length (gates_in_order s)
    → count w (writes (gates_in_order s)) ≡ 1
unfolding fields.gates_in_order
gates-once s t w p l =
    let slots : List ℕ = chain_from s (gates_of s) (head_of s) in
    let k : ℕ = suc (w - inputs_of s) in
    let e : w ≡ inputs_of s + k - 1 = omega arith in
    let b : k ≤ gates_of s = omega (arith, gates-count s) in
    ap (count w) (slots-write s slots)
    ∙ ap (λ (x : ℕ). count x (map (λ y. inputs_of s + y - 1) slots)) e
    ∙ wire-count (inputs_of s) (gates_of s) slots (chain-sound s t).only k (omega arith)
    ∙ (chain-sound s t).once k (omega arith) b

-- and no other wire
gates-only : (s : List ℕ) → good_chain s ≡ true → (w : ℕ) → (w < inputs_of s) ⊎ (inputs_of s + length (gates_in_order s) ≤ w)
    → count w (writes (gates_in_order s)) ≡ 0
unfolding fields.gates_in_order
gates-only s t w o =
    let slots : List ℕ = chain_from s (gates_of s) (head_of s) in
    ap (count w) (slots-write s slots)
    ∙ wire-none (inputs_of s) (gates_of s) slots (chain-sound s t).only w (rw (gates-count s) at o)

-- after a gate, its wire is written
put-here : (f : ℕ → Bool) (c w : ℕ) → w ≡ c → put f c true w ≡ true
unfolding put
put-here f c w e = rw (eq-eqb w c e)

-- and of the others those that were
put_other : (f : ℕ → Bool) (c w : ℕ) → w ≢ c → put f c true w ≡ f w
unfolding put
put_other f c w n = rw (ne_eqb w c n)

-- what was written stays so
put_keeps : (f : ℕ → Bool) (c w : ℕ) → f w ≡ true → put f c true w ≡ true
put_keeps f c w t = ⊎_elim (λ e. put-here f c w e) (λ n. put_other f c w n ∙ t) (eq-or-ne w c)

-- a wire in a list of one is that one
in_one : (f : ℕ → Bool) (a : ℕ) → f a ≡ true → (w : ℕ) → 1 ≤ count w (a ∷ []) → f w ≡ true
unfolding count
in_one f a p w h = ⊎_elim (λ e. rw e at p) (λ n. absurd (omega (arith, count-other w a [] (λ q. n (sym q))))) (eq-or-ne a w)

-- a wire in a list of two is the first or the second
in_two : (f : ℕ → Bool) (a b : ℕ) → f a ≡ true → f b ≡ true → (w : ℕ) → 1 ≤ count w (a ∷ b ∷ []) → f w ≡ true
in_two f a b p q w h =
    ⊎_elim (λ e. rw e at p) (λ n. in_one f b q w (rw (count-other w a (b ∷ []) (λ q. n (sym q))) at h)) (eq-or-ne a w)

-- a front stands in its list
in-front : (a : ℕ) (rest : List ℕ) → 1 ≤ count a (a ∷ rest)
in-front a rest = omega (arith, count_same a rest)

-- what the test says of a gate: the wires that it reads are written
gate-reads : (f : ℕ → Bool) (g : Gate) (gs : List Gate) → reads_written f (g ∷ gs) ≡ true → (w : ℕ) → 1 ≤ count w (reads g) → f w ≡ true
unfolding fields.reads_written reads
gate-reads f (xor a b c) gs t =
    let u : f a && f b ≡ true = and-true-left _ (reads_written (put f c true) gs) t in
    in_two f a b (and-true-left (f a) (f b) u) (and-true-right (f a) (f b) u)
gate-reads f (and a b c) gs t =
    let u : f a && f b ≡ true = and-true-left _ (reads_written (put f c true) gs) t in
    in_two f a b (and-true-left (f a) (f b) u) (and-true-right (f a) (f b) u)
gate-reads f (inv a c) gs t = in_one f a (and-true-left (f a) (reads_written (put f c true) gs) t)

-- and of the gates after it: they are tested with its wire written
gate-rest : (f : ℕ → Bool) (g : Gate) (gs : List Gate) → reads_written f (g ∷ gs) ≡ true → reads_written (put f (out g) true) gs ≡ true
unfolding fields.reads_written out
gate-rest f (xor a b c) gs t = and-true-right (f a && f b) (reads_written (put f c true) gs) t
gate-rest f (and a b c) gs t = and-true-right (f a && f b) (reads_written (put f c true) gs) t
gate-rest f (inv a c) gs t = and-true-right (f a) (reads_written (put f c true) gs) t

-- the two together are the test
gate-test : (f : ℕ → Bool) (g : Gate) (gs : List Gate) → ((w : ℕ) → 1 ≤ count w (reads g) → f w ≡ true)
    → reads_written (put f (out g) true) gs ≡ true → reads_written f (g ∷ gs) ≡ true
unfolding fields.reads_written reads out
gate-test f (xor a b c) gs h t = rw (h a (in-front a (b ∷ [])), h b (omega (arith, in-front b [], count-rest b a (b ∷ [])))) t
gate-test f (and a b c) gs h t = rw (h a (in-front a (b ∷ [])), h b (omega (arith, in-front b [], count-rest b a (b ∷ [])))) t
gate-test f (inv a c) gs h t = rw (h a (in-front a [])) t

-- of gates that pass the test, each reads what was written at first or what an earlier gate writes
test-earlier : (f : ℕ → Bool) (before after : List Gate) (g : Gate) → reads_written f (before ++ (g ∷ after)) ≡ true
    → (w : ℕ) → 1 ≤ count w (reads g) → (f w ≡ true) ⊎ (1 ≤ count w (writes before))
test-earlier f [] after g t w h = inl (gate-reads f g after t w h)
test-earlier f (x ∷ before) after g t w h =
    ⊎_elim
    (λ (u : put f (out x) true w ≡ true). ⊎_elim
    (λ (e : w ≡ out x). inr (rw (writes-cons x before) (omega (arith, count-here w (out x) (writes before) e))))
    (λ n. inl (sym (put_other f (out x) w n) ∙ u))
    (eq-or-ne w (out x)))
    (λ (l : 1 ≤ count w (writes before)). inr (rw (writes-cons x before) (omega (arith, count-rest w (out x) (writes before)))))
    (test-earlier (put f (out x) true) before after g (gate-rest f x (before ++ (g ∷ after)) t) w h)

-- gates of which each reads what was written at first or what an earlier gate writes pass the test
earlier-test : (f : ℕ → Bool) (gs : List Gate)
    → ((before after : List Gate) (g : Gate) → gs ≡ before ++ (g ∷ after) → (w : ℕ) → 1 ≤ count w (reads g) → (f w ≡ true) ⊎ (1 ≤ count w (writes before)))
    → reads_written f gs ≡ true
unfolding fields.reads_written writes count
earlier-test f [] h = refl
earlier-test f (x ∷ gs) h =
    let f' : ℕ → Bool = put f (out x) true in
    gate-test f x gs
    (λ w l. ⊎_elim (λ t. t) (λ z. absurd (omega arith)) (h [] gs x refl w l))
    (earlier-test f' gs (λ before after g e w l.
    ⊎_elim
    (λ t. inl (put_keeps f (out x) w t))
    (λ m. ⊎_elim
    (λ q. inl (put-here f (out x) w q))
    (λ n. inr (rw (writes-cons x before, count-other w (out x) (writes before) n) at m))
    (eq-or-ne w (out x)))
    (h (x ∷ before) after g (ap (λ (l : List Gate). x ∷ l) e) w l)))

-- the test of the outputs: the first n output wires are below I + G
outputs-below : (s : List ℕ) (n : ℕ) → good_outputs s n ≡ true → (j : ℕ) → j < n → output_wire s j < inputs_of s + gates_of s
unfolding fields.good_outputs
outputs-below s zero t j l = absurd (omega arith)
outputs-below s (suc n) t j l =
    let here : output_wire s n < inputs_of s + gates_of s = ltb-true _ _ (and-true-right (good_outputs s n) (ltb (output_wire s n) (inputs_of s + gates_of s)) t) in
    ⊎_elim
    (λ e. rw e here)
    (λ m. outputs-below s n (and-true-left (good_outputs s n) (ltb (output_wire s n) (inputs_of s + gates_of s)) t) j m)
    (eq-or-lt_of_le (let m : j ≤ n = omega arith in m))

-- and if they are, the test passes
below-outputs : (s : List ℕ) (n : ℕ) → ((j : ℕ) → j < n → output_wire s j < inputs_of s + gates_of s) → good_outputs s n ≡ true
unfolding fields.good_outputs
below-outputs s zero h = refl
below-outputs s (suc n) h = rw (below-outputs s n (λ j l. h j (omega arith)), lt-ltb (output_wire s n) (inputs_of s + gates_of s) (h n (omega arith)))

-- a gate of a file whose wires pass the test reads inputs or what an earlier gate writes
reads-earlier : (s : List ℕ) → good_wires s ≡ true → ReadsEarlier (inputs_of s) (gates_in_order s)
unfolding fields.good_wires
reads-earlier s t before after g e w h =
    let f : ℕ → Bool = λ w. ltb w (inputs_of s) in
    let u : reads_written f (gates_in_order s) ≡ true = and-true-left (reads_written f (gates_in_order s)) (good_outputs s (outputs_of s)) t in
    ⊎_elim (λ l. inl (ltb-true w (inputs_of s) l)) (λ m. inr m) (test-earlier f before after g (rw e at u) w h)

-- and its output wires are below I + G
outputs-good : (s : List ℕ) → good_wires s ≡ true → (j : ℕ) → j < length (tabulate (outputs_of s) (output_wire s))
    → get_or (tabulate (outputs_of s) (output_wire s)) j 0 < inputs_of s + length (gates_in_order s)
unfolding fields.good_wires
outputs-good s t j l =
    let f : ℕ → Bool = λ w. ltb w (inputs_of s) in
    let b : j < outputs_of s = omega (arith, length-tabulate (outputs_of s) (output_wire s)) in
    rw (get_d_tabulate (outputs_of s) (output_wire s) j 0 b, gates-count s)
    (outputs-below s (outputs_of s) (and-true-right (reads_written f (gates_in_order s)) (good_outputs s (outputs_of s)) t) j b)

-- wires of which both hold pass the test
wires-complete : (s : List ℕ) → ReadsEarlier (inputs_of s) (gates_in_order s)
    → ((j : ℕ) → j < outputs_of s → output_wire s j < inputs_of s + gates_of s) → good_wires s ≡ true
unfolding fields.good_wires
wires-complete s h o =
    let f : ℕ → Bool = λ w. ltb w (inputs_of s) in
    let u : reads_written f (gates_in_order s) ≡ true =
    earlier-test f (gates_in_order s) (λ before after g e w l. ⊎_elim (λ b. inl (lt-ltb w (inputs_of s) b)) (λ m. inr m) (h before after g e w l)) in
    rw (u, below-outputs s (outputs_of s) o)

-- Theorem, wires
pub wires-theorem : WiresTheorem
unfolding fields.circuit_of
wires-theorem =
    record {
      once = λ s c r. let p = passed s c r in
          subst (λ (d : Circuit). (w : ℕ) → d.inputs ≤ w → w < d.inputs + length d.gates → count w (writes d.gates) ≡ 1) (read_same s c r)
          (gates-once s p.chain);
      only = λ s c r. let p = passed s c r in
          subst (λ (d : Circuit). (w : ℕ) → (w < d.inputs) ⊎ (d.inputs + length d.gates ≤ w) → count w (writes d.gates) ≡ 0) (read_same s c r)
          (gates-only s p.chain);
      earlier = λ s c r. let p = passed s c r in
          subst (λ (d : Circuit). ReadsEarlier d.inputs d.gates) (read_same s c r)
          (reads-earlier s p.wires);
      outputs = λ s c r. let p = passed s c r in
          subst (λ (d : Circuit). (j : ℕ) → j < length d.outputs → get_or d.outputs j 0 < d.inputs + length d.gates) (read_same s c r)
          (outputs-good s p.wires);
      complete = wires-complete;
    }
