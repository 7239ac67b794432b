-- The walk with one mask a wire makes the corrections of the masks that the memory holds.
-- Assumes nothing.
use mathlib.Core.Path.{◌≡◌, refl, ap, ap₂, ◌∙◌}
use mathlib.Core.Bool.{Bool, true, false, ◌&&◌}
use mathlib.Core.List.{List, ◌∷◌}
use mathlib.Core.Logic.{⊎_elim}
use Prim.Native.Nat.{ℕ, zero, suc, ◌+◌, ◌-◌, ◌*◌, ◌/◌, ◌%◌, ◌≤◌, ◌<◌}
use native.Mathlib.Omega.{arith}
use borrow.Author.Tests.{eq-eqb, ne_eqb}
use lib.Bits.{bit_xor, bit_and}
use lib.ListN.{length, get_or, set, length-set}
use lib.Seq.{get_or-set_same, get_or-set_other}
use Rattle.bits.specs.Bits.{bit_val, odd, test_bit, bit_at}
use Rattle.bits.specs.Xor.{◌⊕◌}
use Rattle.bits.specs.Steps.{put_bit}
use Rattle.bits.proofs.Bitwise.{odd-and, odd-xor}
use Rattle.bits.proofs.Numbers.{eq-or-ne, odd-bit_val}
use Rattle.bits.proofs.Packing.{bit_at-put_bit, bit_at-put_bit-other, length-put_bit, put_bit-lt}
use Rattle.circuit.specs.Circuit as paper
use Rattle.circuit.specs.Circuit.{put}
use Rattle.circuit.specs.File.{inputs_of, gates_of, next_of}
use Rattle.circuit.specs.Steps.{gate_of, placed, and_one, gates_from, within, wired, walks}
use Rattle.circuit.specs.declared.Gate.{Gate}
use Rattle.circuit.specs.declared.Gate.TheVariants.{Xor, And, Inv}
use Rattle.circuit.proofs.Chain.{here, gates-on, gates-end, ands-on, ands-none}
use Rattle.words.specs.Steps.{at}
use Rattle.masks.specs.Masks.{mask_corrections}
use Rattle.masks.specs.Steps.{mask_byte, corrected, made}

-- the bytes later keep the first t corrections of cs and what stands beyond A, and hold bs from t on
pub record Made (A t : ℕ) (cs later : List ℕ) (bs : List Bool) : Type 0 where
  pub size : length later ≡ length cs
  pub small : ((i : ℕ) → get_or cs i 0 < 256) → (i : ℕ) → get_or later i 0 < 256
  pub count : t + length bs ≡ A
  pub kept : (v : ℕ) → v < t → bit_at later v ≡ bit_at cs v
  pub new : (v u : ℕ) → v ≡ t + u → v < A → bit_at later v ≡ get_or bs u false
  pub beyond : (v : ℕ) → A ≤ v → bit_at later v ≡ bit_at cs v

-- W wires, A AND gates, the bits of the memory from which on their output masks and the XORs of their product shares stand: the memory
-- has the wires' masks s, and with t AND gates passed the output masks o and the XORs z of those to come
pub record Holds (W A masks products t : ℕ) (m : List ℕ) (o z s : ℕ → Bool) : Type 0 where
  pub room : W ≤ length m
  pub wires : (w : ℕ) → w < W → odd (at m w) ≡ s w
  pub outputs : (v u : ℕ) → v ≡ t + u → v < A → bit_at m (masks + v) ≡ o u
  pub sums : (v u : ℕ) → v ≡ t + u → v < A → bit_at m (products + v) ≡ z u

module _ (W A masks products : ℕ) (mask-row : 8 * W ≤ masks) (product-row : 8 * W ≤ products) where
  -- a byte put at wire c
  module _ (m : List ℕ) (c x : ℕ) (hc : c < W) where
    bit_kept : (q : ℕ) → 8 * W ≤ q → bit_at (set m c x) q ≡ bit_at m q
    unfolding bit_at
    bit_kept q h = ap (λ (y : ℕ). test_bit y (q % 8)) (get_or-set_other m c (q / 8) x 0 (omega arith))

    wires-put : (s : ℕ → Bool) (b : Bool) → W ≤ length m → ((w : ℕ) → w < W → odd (at m w) ≡ s w) → odd x ≡ b
        → (w : ℕ) → w < W → odd (at (set m c x) w) ≡ put s c b w
    unfolding put
    wires-put s b room h e w l =
        ⊎_elim
        (λ q. rw (eq-eqb w c q, q) (ap odd (get_or-set_same m c x 0 (omega arith)) ∙ e))
        (λ q. rw (ne_eqb w c q) (ap odd (get_or-set_other m c w x 0 q) ∙ h w l))
        (eq-or-ne w c)

  -- the rest gs makes its corrections: `final` is its walk
  abbrev Rest : List paper.Gate → (List ℕ → List ℕ → List ℕ) → ℕ → Type 0
  Rest gs final t =
      (m cs : List ℕ) (o z s : ℕ → Bool) → Holds W A masks products t m o z s → A ≤ 8 * length cs → Made A t cs (final m cs) (mask_corrections gs o z s)

  module _ (t : ℕ) (m cs : List ℕ) (o z s : ℕ → Bool) (holds : Holds W A masks products t m o z s) (bits : A ≤ 8 * length cs) (c : ℕ) (hc : c < W)
      (gs : List paper.Gate) (final : List ℕ → List ℕ → List ℕ) where
    -- a gate that is no AND gate writes x, whose bit is b
    wire-holds : (x : ℕ) (b : Bool) → odd x ≡ b → Holds W A masks products t (set m c x) o z (put s c b)
    wire-holds x b e = record {
      room = simp length-set holds.room;
      wires = wires-put m c x hc s b holds.room holds.wires e;
      outputs = λ v u q l. bit_kept m c x hc (masks + v) (omega arith) ∙ holds.outputs v u q l;
      sums = λ v u q l. bit_kept m c x hc (products + v) (omega arith) ∙ holds.sums v u q l;
    }

    -- an AND gate
    and-holds : t < A → Holds W A masks products (suc t) (set m c (bit_val (bit_at m (masks + t)))) (λ u. o (suc u)) (λ u. z (suc u)) (put s c (o 0))
    and-holds l =
        let x = bit_val (bit_at m (masks + t)) in
        record {
          room = simp length-set holds.room;
          wires = wires-put m c x hc s (o 0) holds.room holds.wires (odd-bit_val (bit_at m (masks + t)) ∙ holds.outputs t 0 (omega arith) l);
          outputs = λ v u q h. bit_kept m c x hc (masks + v) (omega arith) ∙ holds.outputs v (suc u) (omega arith) h;
          sums = λ v u q h. bit_kept m c x hc (products + v) (omega arith) ∙ holds.sums v (suc u) (omega arith) h;
        }

    and-corrects : (a b : ℕ) → a < W → b < W → t < A → Rest gs final (suc t)
        → Made A t cs (final (set m c (bit_val (bit_at m (masks + t)))) (corrected (products + t) (And a b) t m cs))
        (mask_corrections (paper.and a b c ∷ gs) o z s)
    unfolding mask_corrections
    and-corrects a b ha hb ht rest =
        let y : Bool = odd (bit_xor (bit_and (at m a) (at m b)) (bit_val (bit_at m (products + t)))) in
        let k : List ℕ = put_bit cs t y in
        let j : List ℕ = set m c (bit_val (bit_at m (masks + t))) in
        let size : length k ≡ length cs = length-put_bit cs t y in
        let bit : y ≡ (s a && s b) ⊕ z 0 =
        odd-xor (bit_and (at m a) (at m b)) (bit_val (bit_at m (products + t)))
        ∙ ap₂ ◌⊕◌ (odd-and (at m a) (at m b) ∙ ap₂ ◌&&◌ (holds.wires a ha) (holds.wires b hb))
        (odd-bit_val (bit_at m (products + t)) ∙ holds.sums t 0 (omega arith) ht) in
        let r = rest j k (λ u. o (suc u)) (λ u. z (suc u)) (put s c (o 0)) (and-holds ht) (omega (arith, size, bits)) in
        let own : bit_at (final j k) t ≡ (s a && s b) ⊕ z 0 = r.kept t (omega arith) ∙ bit_at-put_bit cs t y (omega (arith, bits)) ∙ bit in
        record {
          size = r.size ∙ size;
          small = λ h. r.small (put_bit-lt cs t y h);
          count = omega (arith, r.count);
          kept = λ v h. r.kept v (omega arith) ∙ bit_at-put_bit-other cs t y v (omega arith);
          new = λ v u q h. new-and (final j k) _ (mask_corrections gs (λ u. o (suc u)) (λ u. z (suc u)) (put s c (o 0))) own r.new v u q h;
          beyond = λ v h. r.beyond v h ∙ bit_at-put_bit-other cs t y v (omega arith);
        }
      where
        -- the new correction before the rest's
        new-and : (later : List ℕ) (b : Bool) (bs : List Bool) → bit_at later t ≡ b
            → ((v u : ℕ) → v ≡ suc t + u → v < A → bit_at later v ≡ get_or bs u false)
            → (v u : ℕ) → v ≡ t + u → v < A → bit_at later v ≡ get_or (b ∷ bs) u false
        new-and later b bs own others v zero e h = let q : v ≡ t = omega arith in rw q own
        new-and later b bs own others v (suc u) e h = others v u (omega arith) h

    -- any gate
    gate-corrects : (g : Gate) → within W g → t + and_one g + paper.ands gs ≡ A → Rest gs final (t + and_one g)
        → Made A t cs (final (set m c (mask_byte (masks + t) g m)) (corrected (products + t) g t m cs)) (mask_corrections (placed g c ∷ gs) o z s)
    unfolding mask_corrections
    gate-corrects (Xor a b) (ha, hb) count rest =
        let e : t + 0 ≡ t = omega arith in
        let x : odd (bit_xor (at m a) (at m b)) ≡ s a ⊕ s b = odd-xor (at m a) (at m b) ∙ ap₂ ◌⊕◌ (holds.wires a ha) (holds.wires b hb) in
        (rw e at rest) (set m c (bit_xor (at m a) (at m b))) cs o z (put s c (s a ⊕ s b)) (wire-holds _ _ x) bits
    gate-corrects (And a b) (ha, hb) count rest =
        let e : t + 1 ≡ suc t = omega arith in
        and-corrects a b ha hb (omega arith) (rw e at rest)
    gate-corrects (Inv a) ha count rest =
        let e : t + 0 ≡ t = omega arith in
        (rw e at rest) (set m c (at m a)) cs o z (put s c (s a)) (wire-holds _ _ (holds.wires a ha)) bits

  -- the walk over k gates from slot on
  pub walk-corrects : (f : List ℕ) → inputs_of f + gates_of f ≤ W → (k slot t : ℕ) → walks f k slot ≡ true → wired f W k slot
      → t + paper.ands (gates_from f k slot) ≡ A → Rest (gates_from f k slot) (made f masks products k slot t) t
  unfolding made wired mask_corrections
  walk-corrects f fit zero slot t e d count m cs o z s holds bits =
      let w : t ≡ A = omega (arith, ap paper.ands (gates-end f 0 slot (omega arith)), ands-none) in
      rw (gates-end f 0 slot (omega arith))
      (record {
        size = refl;
        small = λ h. h;
        count = omega arith;
        kept = λ v h. refl;
        new = λ v u q h. absurd (omega arith);
        beyond = λ v h. refl;
      })
  walk-corrects f fit (suc k) slot t e d count m cs o z s holds bits =
      let a : 0 < suc k = omega arith in
      let y : suc k - 1 ≡ k = omega arith in
      let v = here f (suc k) slot a e in
      let g = gate_of f slot in
      let c = inputs_of f + slot - 1 in
      let gs = gates_from f k (next_of f slot) in
      let u : gates_from f (suc k) slot ≡ placed g c ∷ gs = gates-on f (suc k) slot a ∙ ap (λ (j : ℕ). placed g c ∷ gates_from f j (next_of f slot)) y in
      let b : t + and_one g + paper.ands gs ≡ A = omega (arith, ap paper.ands u, ands-on g c gs) in
      rw u
      (gate-corrects t m cs o z s holds bits c (omega arith) gs (made f masks products k (next_of f slot) (t + and_one g)) g d.0 b
      (walk-corrects f fit k (next_of f slot) (t + and_one g) (rw y at v.rest) d.1 b))
