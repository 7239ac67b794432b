-- One turn of the chain and of the output wires, and what they ask of a legal file.
-- Assumes nothing.
use mathlib.Core.Path.{◌≡◌, refl, sym, ap, ap₂, ◌∙◌}
use mathlib.Core.Bool.{Bool, true, false, ◌&&◌}
use mathlib.Core.List.{List, [], ◌∷◌}
use mathlib.Core.Logic.{⊎_elim}
use Prim.Native.Nat.{ℕ, zero, suc, ◌+◌, ◌-◌, ◌%◌, ◌/◌, ◌≤◌, ◌<◌}
use native.Mathlib.Omega.{arith}
use native.Mathlib.Numerals.{add-one}
use borrow.Author.Tests.{lt-ltb, le-ltb, ltb-true}
use lib.Dec.{ltb}
use lib.ListN.{length, get_or, set, replicate, length-set, length-replicate}
use lib.Seq.{ext_get_or, get_or-set_same, get_or-set_other}
use Rattle.bits.specs.Bits.{tabulate, oct, pack, odd, test_bit, bit_at}
use Rattle.bits.specs.Steps.{put_bit}
use Rattle.bits.proofs.Numbers.{eq-or-ne, lt-or-le, test_bit-zero}
use Rattle.bits.proofs.Packing.{bit_at-pack, ext-bit_at, length-pack, pack-lt, put_bit-pack}
use Rattle.bits.proofs.Tabulate.{length-tabulate, get_d_tabulate, get_or-tabulate-end, tabulate-cong}
use Rattle.bits.proofs.Tests.{and-true-left, and-true-right}
use Rattle.circuit.specs.Circuit.{Gate, xor, and, inv, ands}
use Rattle.circuit.specs.Fields as fields
use Rattle.circuit.specs.File.{inputs_of, outputs_of, gates_of, head_of, output_wire, next_of, reads_written, gates_in_order}
use Rattle.circuit.specs.Steps.{gate_of, record_of, and_one, walks, wired, gates_from, good_outputs}
use Rattle.circuit.specs.declared.Gate as declared
use Rattle.circuit.specs.declared.Record.{Record}
use Rattle.circuit.specs.declared.Sizes.{Sizes}
use Rattle.circuit.proofs.Answered.{gates-count}
use Rattle.circuit.proofs.Chain.{next-read, gate-read, zeros-at}
use Rattle.circuit.proofs.Run.{wired-reads, good_chain-walks, gates-order}
use Rattle.planes.specs.Steps.{Room}
use Rattle.planes.specs.declared.Layout.{Layout}
use Rattle.gates.proofs.Steps.{room-kept}
use Rattle.gates.specs.Steps.{gate_step, output_step, output_value}
use Rattle.walk.specs.Steps.{layout_of, Ready, Ended, Lent, walked, outputs_sent, output_bit, gates_run, outputs_run, values_run}

-- the walk: one gate is done, and the memory goes on from it
module _ (l : Layout) (hidden : ℕ) (s : List ℕ) where
  walked_on : (k slot t : ℕ) (m : List ℕ) → 0 < k
      → walked l hidden s k slot t m
      ≡ walked l hidden s (k - 1) (next_of s slot) (t + and_one (gate_of s slot)) (gate_step l (gate_of s slot) (inputs_of s + slot - 1) t hidden m)
  unfolding walked
  walked_on zero slot t m h = absurd (omega arith)
  walked_on (suc k) slot t m h = let e : suc k - 1 ≡ k = omega arith in rw e

  pub walked_end : (k slot t : ℕ) (m : List ℕ) → k ≤ 0 → walked l hidden s k slot t m ≡ m
  unfolding walked
  walked_end zero slot t m h = refl
  walked_end (suc k) slot t m h = absurd (omega arith)

  pub walk_turn : (i k slot t r : ℕ) (m m' last : List ℕ) (q : Record) → q ≡ record_of s slot → 0 < k → 1 ≤ slot → i ≡ inputs_of s
      → m' ≡ gate_step l q.gate (i + (slot - 1)) t hidden m → r ≡ and_one q.gate
      → walked l hidden s k slot t m ≡ last → walked l hidden s (k - 1) q.next (t + r) m' ≡ last
  walk_turn i k slot t r m m' last q e h a b d u y =
      let c : i + (slot - 1) ≡ inputs_of s + slot - 1 = omega arith in
      let g = gate-read s slot q e in
      let x : m' ≡ gate_step l (gate_of s slot) (inputs_of s + slot - 1) t hidden m
      = d ∙ ap₂ (λ (j : declared.Gate) (o : ℕ). gate_step l j o t hidden m) g c in
      let v : r ≡ and_one (gate_of s slot) = u ∙ ap and_one g in
      rw (next-read s slot q e, v, x) (sym (walked_on k slot t m h) ∙ y)

-- the output wires: one more is broadcast, and its value known
module _ (l : Layout) (hidden : ℕ) (s : List ℕ) where
  pub outputs-none : (w : List ℕ) → w ≡ outputs_sent l hidden s 0 w
  unfolding outputs_sent
  outputs-none w = refl

  pub outputs-turn : (a j x : ℕ) (m m' w : List ℕ) → a ≡ l.ands → m ≡ outputs_sent l hidden s j w → x ≡ output_wire s j
      → m' ≡ output_step l x (a + j) hidden m → m' ≡ outputs_sent l hidden s (j + 1) w
  unfolding outputs_sent
  outputs-turn a j x m m' w d e h q = q ∙ ap (λ (b : ℕ). output_step l x (b + j) hidden m) d ∙ ap₂ (λ (o : ℕ) (k : List ℕ). output_step l o (l.ands + j) hidden k) h e ∙ rw add-one

  pub value-turn : (a j x r : ℕ) (m w : List ℕ) → a ≡ l.ands → m ≡ outputs_sent l hidden s j w → x ≡ output_wire s j → r ≡ output_value l x (a + j) hidden m
      → odd r ≡ output_bit l hidden s w j
  unfolding output_bit
  value-turn a j x r m w d e h q = ap odd (q ∙ ap (λ (b : ℕ). output_value l x (b + j) hidden m) d ∙ ap₂ (λ (o : ℕ) (k : List ℕ). output_value l o (l.ands + j) hidden k) h e)

-- the layout that the code makes
module _ (l k : Layout) (e : l ≡ k) where
  pub layout-room : (m : List ℕ) → Room k m → Room l m
  layout-room m h = rw e h

  pub layout-wires : l.wires ≡ k.wires
  layout-wires = ap (λ (x : Layout). x.wires) e

  pub layout-ands : l.ands ≡ k.ands
  layout-ands = ap (λ (x : Layout). x.ands) e

  pub layout-outputs : l.outputs ≡ k.outputs
  layout-outputs = ap (λ (x : Layout). x.outputs) e

  pub layout-wired : (s : List ℕ) (n h : ℕ) → wired s k.wires n h → wired s l.wires n h
  layout-wired s n h w = rw e w

-- no bit of zeros is set
zero_bit : (n i : ℕ) → bit_at (replicate n 0) i ≡ false
unfolding bit_at
zero_bit n i = ap (λ (x : ℕ). test_bit x (i % 8)) (zeros-at n (i / 8)) ∙ test_bit-zero (i % 8)

-- the first j of O bits
abbrev pub firsts : ℕ → (ℕ → Bool) → ℕ → List Bool
firsts O v j = tabulate O (λ i. ltb i j && v i)

-- bits put one by one into zeros
module _ (O : ℕ) (v : ℕ → Bool) where
  pub bits_none : (n : ℕ) → n ≡ oct O → replicate n 0 ≡ pack (firsts O v 0)
  bits_none n e =
      let low : (i : ℕ) → get_or (replicate {A = ℕ} n 0) i 0 < 256 = λ i. omega (arith, zeros-at n i) in
      let size : length (firsts O v 0) ≡ O = length-tabulate O (λ i. ltb i 0 && v i) in
      ext-bit_at (replicate n 0) (pack (firsts O v 0)) low (pack-lt (firsts O v 0)) (length-replicate {A = ℕ} n 0 ∙ e ∙ ap oct (sym size) ∙ sym (length-pack (firsts O v 0)))
      (λ i l. zero_bit n i ∙ sym (bit_at-pack (firsts O v 0) i ∙ firsts-zero i))
    where
      -- none of the first 0
      firsts-zero : (i : ℕ) → get_or (firsts O v 0) i false ≡ false
      firsts-zero i =
          ⊎_elim
          (λ h. get_d_tabulate O (λ k. ltb k 0 && v k) i false h ∙ rw (le-ltb i 0 (omega arith)))
          (λ h. get_or-tabulate-end O (λ k. ltb k 0 && v k) i false h)
          (lt-or-le i O)

  pub bits-turn : (j : ℕ) (b : Bool) (y : List ℕ) → j < O → b ≡ v j → y ≡ pack (firsts O v j) → put_bit y j b ≡ pack (firsts O v (j + 1))
  bits-turn j b y h e q =
      let f : ℕ → Bool = λ i. ltb i j && v i in
      let g : ℕ → Bool = λ i. ltb i (j + 1) && v i in
      let l : length (firsts O v j) ≡ O = length-tabulate O f in
      ap (λ (x : List ℕ). put_bit x j b) q ∙ put_bit-pack (firsts O v j) j b (omega arith)
      ∙ ap pack
      (ext_get_or false (set (firsts O v j) j b) (firsts O v (j + 1)) (length-set (firsts O v j) j b ∙ l ∙ sym (length-tabulate O g))
      (λ i k.
      let m : i < O = omega (arith, length-set (firsts O v j) j b) in
      ⊎_elim
      (λ d. ap (λ (x : ℕ). get_or (set (firsts O v j) j b) x false) d ∙ get_or-set_same (firsts O v j) j b false (omega arith) ∙ e
      ∙ sym (get_d_tabulate O g i false m ∙ rw (lt-ltb i (j + 1) (omega arith), d)))
      (λ d. get_or-set_other (firsts O v j) j i b false d ∙ get_d_tabulate O f i false m
      ∙ sym (get_d_tabulate O g i false m ∙ ap (λ (x : Bool). x && v i) (same_test i d)))
      (eq-or-ne i j)))
    where
      -- one more does not change the test of another
      same_test : (i : ℕ) → (i ≡ j → ⊥) → ltb i (j + 1) ≡ ltb i j
      same_test i d =
          ⊎_elim
          (λ a. lt-ltb i (j + 1) (omega arith) ∙ sym (lt-ltb i j a))
          (λ a. le-ltb i (j + 1) (omega arith) ∙ sym (le-ltb i j a))
          (lt-or-le i j)

  pub bits-all : (j : ℕ) → O ≤ j → pack (firsts O v j) ≡ pack (tabulate O v)
  bits-all j h = ap pack (tabulate-cong O (λ i. ltb i j && v i) v (λ i l. rw (lt-ltb i j (omega arith))))

-- AND gates are gates
ands-le : (gs : List Gate) → ands gs ≤ length gs
unfolding ands
ands-le [] = omega arith
ands-le (xor a b c ∷ gs) = omega (arith, ands-le gs)
ands-le (and a b c ∷ gs) = omega (arith, ands-le gs)
ands-le (inv a c ∷ gs) = omega (arith, ands-le gs)

-- a legal file
module _ (s : List ℕ) (z : Sizes) (m y : List ℕ) (lent : Lent s z m y) where
  -- A is at most G
  pub ands-low : z.ands ≤ z.gates
  ands-low = omega (arith, ands-le (gates_in_order s), gates-count s, lent.legal.laid.gates, lent.ands)

  -- the wires that its gates read are written before
  pub reads-good : reads_written (λ w. ltb w (inputs_of s)) (gates_in_order s) ≡ true
  unfolding fields.good_wires
  reads-good = and-true-left (reads_written (λ w. ltb w (inputs_of s)) (gates_in_order s)) (good_outputs s (outputs_of s)) lent.legal.wires

  -- its output wires are wires
  pub outputs-good : good_outputs s z.outputs ≡ true
  unfolding fields.good_wires
  outputs-good =
      ap (good_outputs s) lent.legal.laid.outputs
      ∙ and-true-right (reads_written (λ w. ltb w (inputs_of s)) (gates_in_order s)) (good_outputs s (outputs_of s)) lent.legal.wires

  pub fit : inputs_of s + gates_of s ≤ z.inputs + z.gates
  fit = omega (arith, lent.legal.laid.inputs, lent.legal.laid.gates)

  pub gates-all : gates_from s z.gates (head_of s) ≡ gates_in_order s
  gates-all = ap (λ (k : ℕ). gates_from s k (head_of s)) lent.legal.laid.gates ∙ gates-order s

  pub chain-good : walks s z.gates (head_of s) ≡ true
  chain-good = ap (λ (k : ℕ). walks s k (head_of s)) lent.legal.laid.gates ∙ good_chain-walks s lent.legal.chain

  pub all-wired : wired s (z.inputs + z.gates) z.gates (head_of s)
  all-wired =
      wired-reads s (z.inputs + z.gates) z.gates (head_of s) (λ w. ltb w (inputs_of s)) (λ w q. omega (arith, ltb-true w (inputs_of s) q, fit)) fit chain-good
      (ap (reads_written (λ w. ltb w (inputs_of s))) gates-all ∙ reads-good)

  -- what the walk asks
  pub ready : (h : ℕ) → h ≡ head_of s → Ready s z h m
  ready h e = record {
    memory = lent.memory;
    chained = record { laid = lent.legal.laid; chain = rw e chain-good };
    reads = rw e all-wired;
    count = rw e (ap ands gates-all ∙ sym lent.ands);
  }

  -- what the outputs ask, of the memory as it then is
  pub ended : (k : List ℕ) → length k ≡ length m → Ended s z k y
  ended k e = record {
    memory = room-kept (layout_of z) m k e lent.memory;
    laid = lent.legal.laid;
    outputs = outputs-good;
    fits = lent.fits;
  }

-- the whole run, from its parts
pub outputs-done : (s : List ℕ) (z : Sizes) (hidden h : ℕ) (m k r : List ℕ) → h ≡ head_of s
    → k ≡ walked (layout_of z) hidden s z.gates h 0 m
    → r ≡ outputs_sent (layout_of z) hidden s z.outputs k → r ≡ outputs_run s z hidden m
unfolding outputs_run gates_run
outputs-done s z hidden h m k r eh ek er = rw (er, ek, eh)

pub values-done : (s : List ℕ) (z : Sizes) (hidden h : ℕ) (m k y : List ℕ) → h ≡ head_of s
    → k ≡ walked (layout_of z) hidden s z.gates h 0 m
    → y ≡ pack (tabulate z.outputs (output_bit (layout_of z) hidden s k)) → y ≡ pack (values_run s z hidden m)
unfolding values_run gates_run
values-done s z hidden h m k y eh ek ey = rw (ey, ek, eh)
