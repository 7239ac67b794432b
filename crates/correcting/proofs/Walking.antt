-- The chain of gates on the memory is the run on words with the right corrections, and puts these.
-- Assumes nothing.
use mathlib.Core.Path.{◌≡◌, refl, sym, ap, ◌∙◌, fun_ext}
use mathlib.Core.Bool.{Bool, true, false, ◌&&◌}
use mathlib.Core.List.{List, [], ◌∷◌}
use Prim.Native.Nat.{ℕ, zero, suc, ◌+◌, ◌-◌, ◌*◌, ◌/◌, ◌%◌, ◌≤◌, ◌<◌}
use native.Mathlib.Omega.{arith}
use lib.Bits.{bit_xor}
use lib.ListN.{length, get_or}
use lib.Seq.{get_or-set_other}
use Rattle.bits.specs.Bits.{tabulate, test_bit, bit_at}
use Rattle.bits.specs.Steps.{put_bit}
use Rattle.bits.specs.Xor.{◌⊕◌}
use Rattle.bits.proofs.Packing.{bit_at-put_bit, bit_at-put_bit-other, length-put_bit}
use Rattle.bits.proofs.Tests.{and-true-left, and-true-right}
use Rattle.circuit.specs.Circuit as paper
use Rattle.circuit.specs.Circuit.{put}
use Rattle.circuit.specs.File.{inputs_of, gates_of, output_wire, next_of, reads_written}
use Rattle.circuit.specs.Steps.{gate_of, placed, and_one, gates_from, within, wired, walks, readable}
use Rattle.circuit.specs.declared.Gate.{Gate}
use Rattle.circuit.specs.declared.Gate.TheVariants.{Xor, And, Inv}
use Rattle.circuit.proofs.Chain.{here, gates-on, gates-end, ands-on, ands-none, reads_on}
use Rattle.masks.specs.Masks.{mask_corrections}
use Rattle.plain.specs.Run.{next}
use Rattle.words.specs.Words.{parity, every, place, broadcast_word, chosen}
use Rattle.packing.specs.Packed.{words_sent, packed_outputs, packed_run}
use Rattle.planes.specs.Steps.{planes_end, corrections_at, rows_at, put_share}
use Rattle.planes.specs.declared.Layout.{Layout}
use Rattle.planes.proofs.Held.{share-length, tape-length, masked-length}
use Rattle.gates.specs.Steps.{put_wire, xor_step, inv_step}
use Rattle.walk.proofs.Walking.{shown_by, written, Gives, outputs-give, gives-and}
use Rattle.correcting.specs.Steps.{correct_step, gate_step, walked}
use Rattle.correcting.proofs.Bytes.{chosen_none}
use Rattle.correcting.proofs.Holding.{Runs, fixed, xor-runs, inv-runs, and-runs, and-other, wire-other}

-- nobody is hidden
shown-none : (z : ℕ → ℕ) → shown_by 0 z ≡ words_sent
shown-none z = fun_ext (λ u. fun_ext (λ x. chosen_none (z u) x))

-- bits from the corrections on, where no byte after the planes changed
pub bits-same : (l : Layout) (s t : List ℕ) → ((j : ℕ) → planes_end l ≤ j → get_or s j 0 ≡ get_or t j 0) → (v : ℕ)
    → bit_at s (8 * corrections_at l + v) ≡ bit_at t (8 * corrections_at l + v)
unfolding bit_at
bits-same l s t h v = ap (λ (x : ℕ). test_bit x ((8 * corrections_at l + v) % 8)) (h ((8 * corrections_at l + v) / 8) (omega arith))

-- a correction put stands before the rows
fixed-after : (l : Layout) (m : List ℕ) (t : ℕ) (d : Bool) → t < l.ands → (j : ℕ) → rows_at l ≤ j → get_or (fixed l m t d) j 0 ≡ get_or m j 0
unfolding put_bit
fixed-after l m t d h j x = get_or-set_other m ((8 * corrections_at l + t) / 8) j _ 0 (omega arith)

-- nor does an XOR or INV gate touch what stands after the planes
xor-other : (l : Layout) (a b c : ℕ) (m : List ℕ) → c < l.wires → (j : ℕ) → planes_end l ≤ j → get_or (xor_step l a b c m) j 0 ≡ get_or m j 0
unfolding xor_step
xor-other l a b c m hc j h = wire-other l c _ _ m hc j h

inv-other : (l : Layout) (a c : ℕ) (m : List ℕ) → c < l.wires → (j : ℕ) → planes_end l ≤ j → get_or (inv_step l a c m) j 0 ≡ get_or m j 0
unfolding inv_step
inv-other l a c m hc j h = wire-other l c _ _ m hc j h

-- the memory fin has the corrections bs from the t-th on, where mem was before; the others and what stands after them is as it was
pub record Made (l : Layout) (t : ℕ) (mem fin : List ℕ) (bs : List Bool) : Type 0 where
  pub size : length fin ≡ length mem
  pub kept : (v : ℕ) → v < t → bit_at fin (8 * corrections_at l + v) ≡ bit_at mem (8 * corrections_at l + v)
  pub new : (v u : ℕ) → v ≡ t + u → v < l.ands → bit_at fin (8 * corrections_at l + v) ≡ get_or bs u false
  pub beyond : (v : ℕ) → l.ands ≤ v → bit_at fin (8 * corrections_at l + v) ≡ bit_at mem (8 * corrections_at l + v)
  pub after : (j : ℕ) → rows_at l ≤ j → get_or fin j 0 ≡ get_or mem j 0

module _ (l : Layout) (t : ℕ) (mem next· fin : List ℕ) (bs : List Bool) where
  -- a gate before that puts no correction
  made-on : length next· ≡ length mem → ((j : ℕ) → planes_end l ≤ j → get_or next· j 0 ≡ get_or mem j 0) → Made l t next· fin bs → Made l t mem fin bs
  made-on e h r = record {
    size = r.size ∙ e;
    kept = λ v x. r.kept v x ∙ bits-same l next· mem h v;
    new = r.new;
    beyond = λ v x. r.beyond v x ∙ bits-same l next· mem h v;
    after = λ j x. r.after j x ∙ h j (omega arith);
  }

  -- AND gate t before, with the correction d
  made-and : (d : Bool) → t < l.ands → rows_at l ≤ length mem → length next· ≡ length mem
      → ((j : ℕ) → planes_end l ≤ j → get_or next· j 0 ≡ get_or (fixed l mem t d) j 0) → Made l (suc t) next· fin bs → Made l t mem fin (d ∷ bs)
  made-and d ht room e h r = record {
    size = r.size ∙ e;
    kept = λ v x. r.kept v (omega arith) ∙ bits-same l next· (fixed l mem t d) h v ∙ bit_at-put_bit-other mem _ d _ (omega arith);
    new = new-and;
    beyond = λ v x. r.beyond v x ∙ bits-same l next· (fixed l mem t d) h v ∙ bit_at-put_bit-other mem _ d _ (omega arith);
    after = λ j x. r.after j x ∙ h j (omega arith) ∙ fixed-after l mem t d ht j x;
  }
    where
      own : bit_at fin (8 * corrections_at l + t) ≡ d
      own =
          r.kept t (omega arith) ∙ bits-same l next· (fixed l mem t d) h t
          ∙ bit_at-put_bit mem (8 * corrections_at l + t) d (omega arith)

      new-and : (v u : ℕ) → v ≡ t + u → v < l.ands → bit_at fin (8 * corrections_at l + v) ≡ get_or (d ∷ bs) u false
      new-and v zero q x = let y : v ≡ t = omega arith in rw y own
      new-and v (suc u) q x = r.new v u (omega arith) x

-- no gate is left
made_none : (l : Layout) (t : ℕ) (mem : List ℕ) → t ≡ l.ands → Made l t mem mem []
made_none l t mem e = record {
  size = refl;
  kept = λ v x. refl;
  new = λ v u q x. absurd (omega arith);
  beyond = λ v x. refl;
  after = λ j x. refl;
}

-- the length of the memory
wire-length : (l : Layout) (c x v : ℕ) (m : List ℕ) → length (put_wire l c x v m) ≡ length m
wire-length l c x v m = masked-length l (put_share c x m) c v ∙ share-length l m c x

pub gate-length : (l : Layout) (g : Gate) (c t last : ℕ) (m : List ℕ) → length (gate_step l g c t last m) ≡ length m
unfolding xor_step correct_step inv_step
gate-length l (Xor a b) c t last m = wire-length l c _ _ m
gate-length l (And a b) c t last m = wire-length l c _ _ _ ∙ tape-length l _ _ _ ∙ length-put_bit m _ _
gate-length l (Inv a) c t last m = wire-length l c _ _ m

-- the product shares z with the corrections at party p's place
abbrev pub with_corrections : ℕ → List Bool → (ℕ → ℕ) → ℕ → ℕ
with_corrections p ds z u = chosen (place 64 p) (every 64 (get_or ds u false)) (z u)

-- the masks of the AND gates gs to come: output masks o, product shares z, of which party p's are zero
pub record Sums (p : ℕ) (gs : List paper.Gate) (o z : ℕ → ℕ) (ob zb : ℕ → Bool) : Type 0 where
  pub outputs : (u : ℕ) → ob u ≡ parity 64 (o u)
  pub products : (u : ℕ) → u < paper.ands gs → zb u ≡ parity 64 (z u)
  pub last : (u : ℕ) → u < paper.ands gs → test_bit (z u) p ≡ false

sums_next : (p a b c : ℕ) (gs : List paper.Gate) (o z : ℕ → ℕ) (ob zb : ℕ → Bool) → Sums p (paper.and a b c ∷ gs) o z ob zb
    → Sums p gs (next o) (next z) (next ob) (next zb)
unfolding paper.ands
sums_next p a b c gs o z ob zb h = record {
  outputs = λ u. h.outputs (suc u);
  products = λ u x. h.products (suc u) (omega arith);
  last = λ u x. h.last (suc u) (omega arith);
}

sums_first : (p a b c : ℕ) (gs : List paper.Gate) (o z : ℕ → ℕ) (ob zb : ℕ → Bool) → Sums p (paper.and a b c ∷ gs) o z ob zb
    → (ob 0 ≡ parity 64 (o 0)) × ((zb 0 ≡ parity 64 (z 0)) × (test_bit (z 0) p ≡ false))
unfolding paper.ands
sums_first p a b c gs o z ob zb h = (h.outputs 0, (h.products 0 (omega arith), h.last 0 (omega arith)))

sums_same : (p : ℕ) (gs hs : List paper.Gate) (o z : ℕ → ℕ) (ob zb : ℕ → Bool) → paper.ands hs ≡ paper.ands gs → Sums p hs o z ob zb → Sums p gs o z ob zb
sums_same p gs hs o z ob zb e h = record {
  outputs = h.outputs;
  products = λ u x. h.products u (omega (arith, e));
  last = λ u x. h.last u (omega (arith, e));
}

module _ (l : Layout) (f : List ℕ) (p : ℕ) (hp : p < 64) where
  -- one gate before the rest gs: `final` is the walk of the rest, which gives what it should, with t AND gates passed
  abbrev pub Rest : List ℕ → List paper.Gate → (List ℕ → List ℕ) → ℕ → Type 0
  Rest outs gs final t =
      (mem : List ℕ) (live : ℕ → Bool) (past rest o z s : ℕ → ℕ) (m k ob zb : ℕ → Bool)
      → reads_written live gs ≡ true → ((j : ℕ) → j < l.outputs → written live gs (output_wire f j) ≡ true) → rows_at l ≤ length mem
      → Sums p gs o z ob zb → Runs l t mem live past rest o z s m k
      → Gives l 0 f t (final mem) past rest (packed_run 64 outs gs o (with_corrections p (mask_corrections gs ob zb k) z) words_sent s m)
      × Made l t mem (final mem) (mask_corrections gs ob zb k)

  module _ (t : ℕ) (mem : List ℕ) (live : ℕ → Bool) (past rest o z s : ℕ → ℕ) (m k ob zb : ℕ → Bool) (runs : Runs l t mem live past rest o z s m k)
      (room : rows_at l ≤ length mem) (outs : List ℕ) (c : ℕ) (hc : c < l.wires) (gs : List paper.Gate) (final : List ℕ → List ℕ) where
    -- an AND gate
    and-gives : (a b : ℕ) → a < l.wires → b < l.wires → live a ≡ true → live b ≡ true → reads_written (put live c true) gs ≡ true
        → ((j : ℕ) → j < l.outputs → written (put live c true) gs (output_wire f j) ≡ true) → t < l.ands
        → Sums p (paper.and a b c ∷ gs) o z ob zb → Rest outs gs final (suc t)
        → Gives l 0 f t (final (correct_step l a b c t (place 64 p) mem)) past rest
        (packed_run 64 outs (paper.and a b c ∷ gs) o (with_corrections p (mask_corrections (paper.and a b c ∷ gs) ob zb k) z) words_sent s m)
        × Made l t mem (final (correct_step l a b c t (place 64 p) mem)) (mask_corrections (paper.and a b c ∷ gs) ob zb k)
    unfolding packed_run mask_corrections
    and-gives a b ha hb la lb reads lives ht sums next· =
        let q = sums_first p a b c gs o z ob zb sums in
        let d : Bool = (k a && k b) ⊕ zb 0 in
        let ed : d ≡ (k a && k b) ⊕ parity 64 (z 0) = ap (λ (x : Bool). (k a && k b) ⊕ x) q.1.0 in
        let x : ℕ = broadcast_word 64 (m a) (m b) (s a) (s b) (chosen (place 64 p) (every 64 d) (z 0)) (o 0) in
        let after : List ℕ = correct_step l a b c t (place 64 p) mem in
        let done = and-runs l t mem live past rest o z s m k runs a b c p d ha hb hc la lb ht hp q.1.1 ed in
        let size : length after ≡ length mem = gate-length l (And a b) c t (place 64 p) mem in
        let r = next· after (put live c true) (put past t x) rest (next o) (next z) (put s c (o 0)) (put m c ((m a && m b) ⊕ parity 64 x)) (put k c (ob 0)) (next ob)
        (next zb) reads lives (omega (arith, size, room)) (sums_next p a b c gs o z ob zb sums) (rw q.0 done) in (
          gives-and l 0 f t (final after) past rest x _ r.0,
          made-and l t mem after (final after) _ d ht room size
              (and-other l t mem live past rest o z s m k runs a b c p d ha hb hc la lb ht hp q.1.1 ed)
              r.1,
        )

    -- any gate
    gate-gives : (g : Gate) → within l.wires g → readable live g ≡ true → reads_written (put live c true) gs ≡ true
        → ((j : ℕ) → j < l.outputs → written live (placed g c ∷ gs) (output_wire f j) ≡ true)
        → t + and_one g + paper.ands gs ≡ l.ands → Sums p (placed g c ∷ gs) o z ob zb → Rest outs gs final (t + and_one g)
        → Gives l 0 f t (final (gate_step l g c t (place 64 p) mem)) past rest
        (packed_run 64 outs (placed g c ∷ gs) o (with_corrections p (mask_corrections (placed g c ∷ gs) ob zb k) z) words_sent s m)
        × Made l t mem (final (gate_step l g c t (place 64 p) mem)) (mask_corrections (placed g c ∷ gs) ob zb k)
    unfolding packed_run written mask_corrections paper.ands
    gate-gives (Xor a b) (ha, hb) can reads lives count sums next· =
        let e : t + 0 ≡ t = omega arith in
        let after : List ℕ = xor_step l a b c mem in
        let size : length after ≡ length mem = gate-length l (Xor a b) c t (place 64 p) mem in
        let r = (rw e at next·) after (put live c true) past rest o z (put s c (bit_xor (s a) (s b))) (put m c (m a ⊕ m b)) (put k c (k a ⊕ k b)) ob zb reads lives
        (omega (arith, size, room)) (sums_same p gs (paper.xor a b c ∷ gs) o z ob zb refl sums)
        (xor-runs l t mem live past rest o z s m k runs a b c ha hb hc (and-true-left (live a) (live b) can) (and-true-right (live a) (live b) can)) in
        (r.0, made-on l t mem after (final after) _ size (xor-other l a b c mem hc) r.1)
    gate-gives (And a b) (ha, hb) can reads lives count sums next· =
        let e : t + 1 ≡ suc t = omega arith in
        and-gives a b ha hb (and-true-left (live a) (live b) can) (and-true-right (live a) (live b) can) reads lives (omega arith) sums (rw e at next·)
    gate-gives (Inv a) ha can reads lives count sums next· =
        let e : t + 0 ≡ t = omega arith in
        let after : List ℕ = inv_step l a c mem in
        let size : length after ≡ length mem = gate-length l (Inv a) c t (place 64 p) mem in
        let r = (rw e at next·) after (put live c true) past rest o z _ _ (put k c (k a)) ob zb reads lives
        (omega (arith, size, room)) (sums_same p gs (paper.inv a c ∷ gs) o z ob zb refl sums)
        (inv-runs l t mem live past rest o z s m k runs a c ha hc can) in
        (r.0, made-on l t mem after (final after) _ size (inv-other l a c mem hc) r.1)

  -- the walk over n gates from slot on
  pub walk-gives : ((j : ℕ) → j < l.outputs → output_wire f j < l.wires) → inputs_of f + gates_of f ≤ l.wires
      → (n slot t : ℕ) → walks f n slot ≡ true → wired f l.wires n slot → t + paper.ands (gates_from f n slot) ≡ l.ands
      → Rest (tabulate l.outputs (output_wire f)) (gates_from f n slot) (walked l (place 64 p) f n slot t) t
  unfolding walked wired packed_run mask_corrections
  walk-gives wires fit zero slot t e d count mem live past rest o z s m k ob zb reads lives room sums runs =
      let w : t ≡ l.ands = omega (arith, ap paper.ands (gates-end f 0 slot (omega arith)), ands-none) in
      let none· : gates_from f 0 slot ≡ [] = gates-end f 0 slot (omega arith) in
      let outs : List ℕ = tabulate l.outputs (output_wire f) in
      let r : Gives l 0 f l.ands mem past rest (packed_outputs 64 outs (shown_by 0 z) s m)
      = outputs-give l 0 f mem live past rest o z s m wires (λ j h. written_none live (gates_from f 0 slot) none· (output_wire f j) (lives j h))
      (rw w at runs.holds) in
      let g : Gives l 0 f t mem past rest (packed_outputs 64 outs words_sent s m) = rw (w, ← shown-none z) r in
      rw none· (g, made_none l t mem w)
    where
      -- no gate writes no wire
      written_none : (live : ℕ → Bool) (gs : List paper.Gate) → gs ≡ [] → (w : ℕ) → written live gs w ≡ true → live w ≡ true
      written_none live gs e w h = unfold written in rw e at h
  walk-gives wires fit (suc n) slot t e d count mem live past rest o z s m k ob zb reads lives room sums runs =
      let a : 0 < suc n = omega arith in
      let y : suc n - 1 ≡ n = omega arith in
      let v = here f (suc n) slot a e in
      let g = gate_of f slot in
      let c = inputs_of f + slot - 1 in
      let gs = gates_from f n (next_of f slot) in
      let u : gates_from f (suc n) slot ≡ placed g c ∷ gs = gates-on f (suc n) slot a ∙ ap (λ (j : ℕ). placed g c ∷ gates_from f j (next_of f slot)) y in
      let b : t + and_one g + paper.ands gs ≡ l.ands = omega (arith, ap paper.ands u, ands-on g c gs) in
      let r : readable live g && reads_written (put live c true) gs ≡ true = sym (reads_on live g c gs) ∙ (rw u at reads) in
      rw u
      (gate-gives t mem live past rest o z s m k ob zb runs room (tabulate l.outputs (output_wire f)) c (omega arith) gs
      (walked l (place 64 p) f n (next_of f slot) (t + and_one g)) g d.0
      (and-true-left (readable live g) (reads_written (put live c true) gs) r)
      (and-true-right (readable live g) (reads_written (put live c true) gs) r)
      (rw u at lives) b (rw u at sums)
      (walk-gives wires fit n (next_of f slot) (t + and_one g) (rw y at v.rest) d.1 b))
