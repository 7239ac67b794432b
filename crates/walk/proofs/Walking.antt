-- The chain of gates and the output wires on the memory are the run on the words that it holds.
-- Assumes nothing.
use mathlib.Core.Path.{◌≡◌, refl, sym, ap, ap₂, ◌∙◌}
use mathlib.Core.Bool.{Bool, true, ◌&&◌}
use mathlib.Core.List.{List, [], ◌∷◌}
use mathlib.Core.Logic.{⊎_elim}
use Prim.Native.Nat.{ℕ, zero, suc, ◌+◌, ◌-◌, ◌≤◌, ◌<◌}
use native.Mathlib.Nat.{add-suc, add-zero, eq-or-lt_of_le, le_of_suc-le-suc}
use native.Mathlib.Omega.{arith}
use lib.ListN.{length, get_or}
use Rattle.bits.specs.Bits.{tabulate}
use Rattle.bits.specs.Xor.{◌⊕◌}
use Rattle.bits.proofs.Tabulate.{length-tabulate, get_d_tabulate, tabulate-cong}
use Rattle.bits.proofs.Tests.{and-true-left, and-true-right}
use Rattle.circuit.specs.Circuit as paper
use Rattle.circuit.specs.Circuit.{put}
use Rattle.circuit.specs.File.{inputs_of, gates_of, output_wire, next_of, reads_written}
use Rattle.circuit.specs.Steps.{gate_of, placed, and_one, gates_from, within, wired, walks, readable}
use Rattle.circuit.specs.declared.Gate.{Gate}
use Rattle.circuit.specs.declared.Gate.TheVariants.{Xor, And, Inv}
use Rattle.circuit.proofs.Chain.{here, gates-on, gates-end, ands-on, ands-none, reads_on}
use Rattle.plain.specs.Run.{next}
use Rattle.words.specs.Words.{parity, broadcast_word, chosen}
use Rattle.packing.specs.Packed.{WordChannel, WordTranscript, packed_outputs, packed_run}
use Rattle.planes.specs.Steps as planes
use Rattle.planes.specs.Steps.{tape_words, tape}
use Rattle.planes.specs.declared.Layout.{Layout}
use Rattle.gates.specs.Steps.{xor_step, inv_step, and_step, gate_step}
use Rattle.gates.proofs.Holding.{put_same, put_other, Holds, xor-holds, inv-holds, and-holds, output-holds, output-value}
use Rattle.walk.specs.Steps.{walked, outputs_sent, output_bit}

-- at the places of hidden the words z are delivered
abbrev pub shown_by : ℕ → (ℕ → ℕ) → WordChannel
shown_by hidden z u x = chosen hidden (z u) x

-- the wires written after the gates, where those of `live` are written before
unfoldable pub written : (ℕ → Bool) → List paper.Gate → ℕ → Bool
written live [] = live
written live (paper.xor a b c ∷ gs) = written (put live c true) gs
written live (paper.and a b c ∷ gs) = written (put live c true) gs
written live (paper.inv a c ∷ gs) = written (put live c true) gs

-- the outputs' transcript, place by place
module _ (n : ℕ) (s : ℕ → ℕ) (m : ℕ → Bool) where
  outputs-sent : (k : ℕ) (wire : ℕ → ℕ) (h : WordChannel) → (packed_outputs n (tabulate k wire) h s m).broadcasts ≡ tabulate k (λ j. h j (s (wire j)))
  unfolding packed_outputs
  outputs-sent zero wire h = refl
  outputs-sent (suc k) wire h = ap (λ (l : List ℕ). h 0 (s (wire 0)) ∷ l) (outputs-sent k (λ j. wire (suc j)) (next h))

  outputs-values : (k : ℕ) (wire : ℕ → ℕ) (h : WordChannel)
      → (packed_outputs n (tabulate k wire) h s m).output ≡ tabulate k (λ j. m (wire j) ⊕ parity n (h j (s (wire j))))
  unfolding packed_outputs
  outputs-values zero wire h = refl
  outputs-values (suc k) wire h =
      ap (λ (l : List Bool). (m (wire 0) ⊕ parity n (h 0 (s (wire 0)))) ∷ l) (outputs-values k (λ j. wire (suc j)) (next h))

-- those after the first k
abbrev after_first : {A : Type 0} → ℕ → (ℕ → A) → ℕ → A
after_first zero f = f
after_first (suc k) f = next (after_first k f)

after-at : {A : Type 0} (k : ℕ) (f : ℕ → A) (u : ℕ) → after_first k f u ≡ f (k + u)
after-at zero f u = let e : u ≡ 0 + u = omega arith in ap f e
after-at (suc k) f u = let e : k + suc u ≡ suc k + u = omega arith in after-at k f (suc u) ∙ ap f e

-- the memory after the walk gives, with the outputs, what the parties broadcast and the values of the output wires: `past` before
-- broadcast t, the transcript r from there on, and `rest` after the last
pub record Gives (l : Layout) (hidden : ℕ) (f : List ℕ) (t : ℕ) (mem : List ℕ) (past rest : ℕ → ℕ) (r : WordTranscript) : Type 0 where
  pub columns : t + length r.broadcasts ≡ l.ands + l.outputs
  pub passed : (v : ℕ) → v < t → tape l (outputs_sent l hidden f l.outputs mem) (planes.broadcast_word l v) ≡ past v
  pub broadcasts : (v u : ℕ) → v ≡ t + u → v < l.ands + l.outputs → tape l (outputs_sent l hidden f l.outputs mem) (planes.broadcast_word l v) ≡ get_or r.broadcasts u 0
  pub after : (v : ℕ) → l.ands + l.outputs ≤ v → planes.broadcast_word l v < tape_words l → tape l (outputs_sent l hidden f l.outputs mem) (planes.broadcast_word l v) ≡ rest v
  pub output : tabulate l.outputs (output_bit l hidden f mem) ≡ r.output

module _ (l : Layout) (hidden : ℕ) (f : List ℕ) where
  -- at the end of the chain
  module _ (mem : List ℕ) (live : ℕ → Bool) (past rest o z s : ℕ → ℕ) (m : ℕ → Bool) (wires : (j : ℕ) → j < l.outputs → output_wire f j < l.wires)
      (lives : (j : ℕ) → j < l.outputs → live (output_wire f j) ≡ true) (holds : Holds l l.ands mem live past rest o z s m) where
    -- what is broadcast up to output k
    abbrev pastAfter : ℕ → ℕ → ℕ
    pastAfter zero = past
    pastAfter (suc k) = put (pastAfter k) (l.ands + k) (chosen hidden (after_first k z 0) (s (output_wire f k)))

    outputs-hold : (k : ℕ) → k ≤ l.outputs
        → Holds l (l.ands + k) (outputs_sent l hidden f k mem) live (pastAfter k) rest (after_first k o) (after_first k z) s m
    unfolding outputs_sent
    outputs-hold zero h = rw (add-zero l.ands) holds
    outputs-hold (suc k) h =
        rw (add-suc l.ands k)
        (output-holds l (l.ands + k) (outputs_sent l hidden f k mem) live (pastAfter k) rest (after_first k o) (after_first k z) s m
        (outputs-hold k (omega arith)) (output_wire f k) hidden (wires k (omega arith)) (lives k (omega arith)) (omega arith))

    past-before : (k v : ℕ) → v < l.ands → pastAfter k v ≡ past v
    past-before zero v h = refl
    past-before (suc k) v h = put_other (pastAfter k) (l.ands + k) (chosen hidden (after_first k z 0) (s (output_wire f k))) v (omega arith) ∙ past-before k v h

    past-at : (k u v : ℕ) → u < k → v ≡ l.ands + u → pastAfter k v ≡ chosen hidden (z u) (s (output_wire f u))
    past-at zero u v h e = absurd (omega arith)
    past-at (suc k) u v h e =
        let x = chosen hidden (after_first k z 0) (s (output_wire f k)) in
        ⊎_elim
        (λ d. put_same (pastAfter k) (l.ands + k) x v (omega arith)
        ∙ ap₂ (λ (y j : ℕ). chosen hidden y (s (output_wire f j))) (after-at k z 0 ∙ ap z (add-zero k ∙ sym d)) (sym d))
        (λ lt. put_other (pastAfter k) (l.ands + k) x v (omega arith) ∙ past-at k u v lt e)
        (eq-or-lt_of_le (le_of_suc-le-suc h))

    -- the value of output j
    output-bit : (j : ℕ) → j < l.outputs → output_bit l hidden f mem j ≡ m (output_wire f j) ⊕ parity 64 (chosen hidden (z j) (s (output_wire f j)))
    unfolding output_bit
    output-bit j h =
        output-value l (l.ands + j) (outputs_sent l hidden f j mem) live (pastAfter j) rest (after_first j o) (after_first j z) s m
        (outputs-hold j (omega arith)) (output_wire f j) hidden (wires j h) (lives j h) (omega arith)
        ∙ ap (λ (y : ℕ). m (output_wire f j) ⊕ parity 64 (chosen hidden y (s (output_wire f j)))) (after-at j z 0 ∙ ap z (add-zero j))

    pub outputs-give : Gives l hidden f l.ands mem past rest (packed_outputs 64 (tabulate l.outputs (output_wire f)) (shown_by hidden z) s m)
    outputs-give =
        let all = outputs-hold l.outputs (omega arith) in
        let sent = outputs-sent 64 s m l.outputs (output_wire f) (shown_by hidden z) in
        let word : ℕ → ℕ = λ j. chosen hidden (z j) (s (output_wire f j)) in
        record {
          columns = ap (λ (k : List ℕ). l.ands + length k) sent ∙ ap (λ (k : ℕ). l.ands + k) (length-tabulate l.outputs word);
          passed = λ v h. all.broadcasts v (omega arith) ∙ past-before l.outputs v h;
          broadcasts = λ v u e h.
              all.broadcasts v h ∙ past-at l.outputs u v (omega arith) e
              ∙ sym (ap (λ (k : List ℕ). get_or k u 0) sent ∙ get_d_tabulate l.outputs word u 0 (omega arith));
          after = all.after;
          output = tabulate-cong l.outputs _ (λ j. m (output_wire f j) ⊕ parity 64 (word j)) output-bit ∙ sym (outputs-values 64 s m l.outputs (output_wire f) (shown_by hidden z));
        }

  -- one broadcast before the rest
  pub gives-and : (t : ℕ) (mem : List ℕ) (past rest : ℕ → ℕ) (x : ℕ) (r : WordTranscript) → Gives l hidden f (suc t) mem (put past t x) rest r
      → Gives l hidden f t mem past rest (record { broadcasts = x ∷ r.broadcasts; output = r.output })
  gives-and t mem past rest x r g = record {
    columns = omega (arith, g.columns);
    passed = λ v h. g.passed v (omega arith) ∙ put_other past t x v (omega arith);
    broadcasts = sent-and;
    after = g.after;
    output = g.output;
  }
    where
      -- it is the first of the rest's list
      sent-and : (v u : ℕ) → v ≡ t + u → v < l.ands + l.outputs → tape l (outputs_sent l hidden f l.outputs mem) (planes.broadcast_word l v) ≡ get_or (x ∷ r.broadcasts) u 0
      sent-and v zero e h = g.passed v (omega arith) ∙ put_same past t x v (omega arith)
      sent-and v (suc u) e h = g.broadcasts v u (omega arith) h

  -- one gate before the rest gs: `final` is the walk of the rest, which gives what it should, with t AND gates passed
  abbrev Rest : List ℕ → List paper.Gate → (List ℕ → List ℕ) → ℕ → Type 0
  Rest outs gs final t =
      (mem : List ℕ) (live : ℕ → Bool) (past rest o z s : ℕ → ℕ) (m : ℕ → Bool)
      → reads_written live gs ≡ true → ((j : ℕ) → j < l.outputs → written live gs (output_wire f j) ≡ true)
      → Holds l t mem live past rest o z s m
      → Gives l hidden f t (final mem) past rest (packed_run 64 outs gs o z (shown_by hidden z) s m)

  module _ (t : ℕ) (mem : List ℕ) (live : ℕ → Bool) (past rest o z s : ℕ → ℕ) (m : ℕ → Bool) (holds : Holds l t mem live past rest o z s m)
      (outs : List ℕ) (c : ℕ) (hc : c < l.wires) (gs : List paper.Gate) (final : List ℕ → List ℕ) where
    -- any gate
    gate-gives : (g : Gate) → within l.wires g → readable live g ≡ true → reads_written (put live c true) gs ≡ true
        → ((j : ℕ) → j < l.outputs → written live (placed g c ∷ gs) (output_wire f j) ≡ true)
        → t + and_one g + paper.ands gs ≡ l.ands → Rest outs gs final (t + and_one g)
        → Gives l hidden f t (final (gate_step l g c t hidden mem)) past rest (packed_run 64 outs (placed g c ∷ gs) o z (shown_by hidden z) s m)
    unfolding packed_run written
    gate-gives (Xor a b) (ha, hb) can reads lives count next· =
        let e : t + 0 ≡ t = omega arith in
        (rw e at next·) (xor_step l a b c mem) (put live c true) past rest o z _ _ reads lives
        (xor-holds l t mem live past rest o z s m holds a b c ha hb hc (and-true-left (live a) (live b) can) (and-true-right (live a) (live b) can))
    gate-gives (And a b) (ha, hb) can reads lives count next· =
        let e : t + 1 ≡ suc t = omega arith in
        let x : ℕ = chosen hidden (z 0) (broadcast_word 64 (m a) (m b) (s a) (s b) (z 0) (o 0)) in
        gives-and t (final (and_step l a b c t hidden mem)) past rest x _
        ((rw e at next·) (and_step l a b c t hidden mem) (put live c true) (put past t x) rest (next o) (next z) (put s c (o 0))
        (put m c ((m a && m b) ⊕ parity 64 x)) reads lives
        (and-holds l t mem live past rest o z s m holds a b c hidden ha hb hc (and-true-left (live a) (live b) can) (and-true-right (live a) (live b) can)
        (omega arith)))
    gate-gives (Inv a) ha can reads lives count next· =
        let e : t + 0 ≡ t = omega arith in
        (rw e at next·) (inv_step l a c mem) (put live c true) past rest o z _ _ reads lives
        (inv-holds l t mem live past rest o z s m holds a c ha hc can)

  -- the walk over k gates from slot on
  pub walk-gives : ((j : ℕ) → j < l.outputs → output_wire f j < l.wires) → inputs_of f + gates_of f ≤ l.wires
      → (k slot t : ℕ) → walks f k slot ≡ true → wired f l.wires k slot → t + paper.ands (gates_from f k slot) ≡ l.ands
      → Rest (tabulate l.outputs (output_wire f)) (gates_from f k slot) (walked l hidden f k slot t) t
  unfolding walked wired packed_run
  walk-gives wires fit zero slot t e d count mem live past rest o z s m reads lives holds =
      let w : t ≡ l.ands = omega (arith, ap paper.ands (gates-end f 0 slot (omega arith)), ands-none) in
      let none· : gates_from f 0 slot ≡ [] = gates-end f 0 slot (omega arith) in
      rw (none·, w)
      (outputs-give mem live past rest o z s m wires (λ j h. written_none live (gates_from f 0 slot) none· (output_wire f j) (lives j h)) (rw w at holds))
    where
      -- no gate writes no wire
      written_none : (live : ℕ → Bool) (gs : List paper.Gate) → gs ≡ [] → (w : ℕ) → written live gs w ≡ true → live w ≡ true
      written_none live gs e w h = unfold written in rw e at h
  walk-gives wires fit (suc k) slot t e d count mem live past rest o z s m reads lives holds =
      let a : 0 < suc k = omega arith in
      let y : suc k - 1 ≡ k = omega arith in
      let v = here f (suc k) slot a e in
      let g = gate_of f slot in
      let c = inputs_of f + slot - 1 in
      let gs = gates_from f k (next_of f slot) in
      let u : gates_from f (suc k) slot ≡ placed g c ∷ gs = gates-on f (suc k) slot a ∙ ap (λ (j : ℕ). placed g c ∷ gates_from f j (next_of f slot)) y in
      let b : t + and_one g + paper.ands gs ≡ l.ands = omega (arith, ap paper.ands u, ands-on g c gs) in
      let r : readable live g && reads_written (put live c true) gs ≡ true = sym (reads_on live g c gs) ∙ (rw u at reads) in
      rw u
      (gate-gives t mem live past rest o z s m holds (tabulate l.outputs (output_wire f)) c (omega arith) gs (walked l hidden f k (next_of f slot) (t + and_one g)) g d.0
      (and-true-left (readable live g) (reads_written (put live c true) gs) r)
      (and-true-right (readable live g) (reads_written (put live c true) gs) r)
      (rw u at lives) b
      (walk-gives wires fit k (next_of f slot) (t + and_one g) (rw y at v.rest) d.1 b))
