-- The work memory: what it has room for, and the tapes and the corrections that stand in it.
-- Assumes nothing.
use mathlib.Core.Path.{◌≡◌, refl, sym, ap, ap₂, ◌∙◌}
use mathlib.Core.Bool.{true}
use mathlib.Core.List.{List, ◌++◌, append_assoc}
use Prim.Native.Nat.{ℕ, ◌+◌, ◌-◌, ◌*◌, ◌≤◌}
use native.Mathlib.Omega.{arith}
use borrow.Rule.Slice.PartMut.{mid_of, put_mid, mid_len, Post-is}
use lib.ListN.{length, take, drop, replicate, length-append, length-drop, length-replicate}
use lib.Seq.{sets, sets-eq, length-sets, take_at, drop_at, length-take-le}
use Rattle.bits.specs.Bits.{oct, pack}
use Rattle.bits.proofs.Copies.{prefix-length}
use Rattle.circuit.specs.File.{circuit_of}
use Rattle.circuit.specs.declared.Sizes.{Sizes}
use Rattle.plain.specs.Tapes.{unused_rows}
use Rattle.plain.specs.Showing.{correction_bits}
use Rattle.masks.specs.Steps.{Lent, rows_from, worked, corrections_of}
use Rattle.masks.proofs.Kept.{left-length, left_after, left-corrections}
use Rattle.planes.specs.Steps.{Room, tape_words, corrections_at, rows_at, leaves_at}
use Rattle.planes.specs.declared.Layout.{Layout}
use Rattle.walk.specs.Steps.{layout_of}
use Rattle.packing.proofs.Prepared.{corrections-prepared}
use Rattle.packed.specs.Steps.{Held, tapes_held, corrections_held}
use Rattle.packed.proofs.Runs.{room-held, room-masks}
use Rattle.mpc.specs.Steps.{Known, Working, Placed, TapesFit, with_tapes, with_both, prepared}

-- the part of a memory m from a to e, for as many bytes as x has from place A on
module _ (m x : List ℕ) (A a e : ℕ) (ea : a ≡ A) (ee : e ≡ A + length x) (h : A + length x ≤ length m) where
  pub part-start : a ≤ e
  part-start = omega (arith, ea, ee)

  pub part_end : e ≤ length m
  part_end = omega (arith, ee, h)

  pub part-size : length (mid_of a (e - a) m) ≡ length x
  part-size = mid_len a e m part_end ∙ omega (arith, ea, ee)

  -- x put there
  pub part-put : (v : List ℕ) → v ≡ x → put_mid a (e - a) m v ≡ sets m A x
  part-put v q =
      ap₂ (λ (r u : List ℕ). take a m ++ (r ++ u)) q (Post-is a e m part-start ∙ ap (λ (j : ℕ). drop j m) ee)
      ∙ ap (λ (j : ℕ). take j m ++ (x ++ drop (A + length x) m)) ea
      ∙ sym (append_assoc (take A m) x (drop (A + length x) m))
      ∙ sym (sets-eq x m A h)

-- what is put stands there
pub part-there : (a k : ℕ) (m x : List ℕ) → length x ≡ k → a + k ≤ length m → take k (drop a (sets m a x)) ≡ x
part-there a k m x q h =
    ap (λ (r : List ℕ). take k (drop a r)) (sets-eq x m a (omega (arith, q)) ∙ append_assoc (take a m) x (drop (a + length x) m))
    ∙ ap (take k) (drop_at (take a m) (x ++ drop (a + length x) m) a (length-take-le a m (omega arith)))
    ∙ take_at x (drop (a + length x) m) k q

-- and what comes after it is as it was
pub part-after : (a b : ℕ) (m x : List ℕ) → a + length x ≡ b → b ≤ length m → drop b (sets m a x) ≡ drop b m
part-after a b m x q h =
    ap (drop b) (sets-eq x m a (omega (arith, q)))
    ∙ drop_at (take a m ++ x) (drop (a + length x) m) b (length-append (take a m) x ∙ ap (λ (j : ℕ). j + length x) (length-take-le a m (omega (arith, q))) ∙ q)
    ∙ ap (λ (j : ℕ). drop j m) q

-- the places, by a layout l that is the circuit's
module _ (z : Sizes) (l : Layout) (e : l ≡ layout_of z) where
  pub layout-asks : (m : List ℕ) → Room (layout_of z) m → (l.wires ≤ 1048576) × (tape_words l ≤ 4194304)
  layout-asks m r = rw e (r.few_wires, r.few_words)

  pub corrections-are : (a : ℕ) → a ≡ corrections_at l → a ≡ corrections_at (layout_of z)
  corrections-are a q = q ∙ ap (λ (x : Layout). corrections_at x) e

  pub rows_are : (a : ℕ) → a ≡ rows_at l → a ≡ rows_at (layout_of z)
  rows_are a q = q ∙ ap (λ (x : Layout). rows_at x) e

  pub leaves-are : (n a : ℕ) → a ≡ leaves_at l n → a ≡ leaves_at (layout_of z) n
  leaves-are n a q = q ∙ ap (λ (x : Layout). leaves_at x n) e

-- a memory that is as long is a work memory too
pub working-kept : (z : Sizes) (n : ℕ) (m k : List ℕ) → length k ≡ length m → Working z n m → Working z n k
working-kept z n m k e w = record { parties = w.parties; room = omega (arith, e, w.room) }

-- the first bytes of 32 zeros, for the outputs
module _ (s : List ℕ) (z : Sizes) (k : Known s z) (size : ℕ) (e : size ≡ oct z.outputs) where
  pub output-room : size ≤ length (replicate {A = ℕ} 32 0)
  output-room = omega (arith, e, length-replicate {A = ℕ} 32 0, k.legal.laid.few_outputs)

  pub output-size : length (take size (replicate {A = ℕ} 32 0)) ≡ size
  output-size = prefix-length size 32 (omega (arith, e, k.legal.laid.few_outputs))

-- a legal file with a work memory
module _ (s : List ℕ) (z : Sizes) (n : ℕ) (k : Known s z) where
  -- the places that the planes ask
  pub few_wires : z.inputs + z.gates ≤ 1048576
  few_wires = omega (arith, k.legal.laid.few_inputs, k.legal.laid.few_gates)

  pub memory-held : (m : List ℕ) → Working z n m → Held s z n m
  memory-held m w = room-held s z k.legal k.ands n m w.parties.some w.parties.few w.room

  pub placed : (m : List ℕ) → Working z n m → Placed z n m
  placed m w = let h = memory-held m w in record { few = h.few; room = h.room; rows = h.rows }

  -- what the making of the corrections asks
  pub lent : (m : List ℕ) (a at : ℕ) → Working z n m → a ≡ rows_at (layout_of z) → at ≡ corrections_at (layout_of z) → Lent s z n a at m
  lent m a at w e f = rw (e, f) (room-masks s z k.legal k.ands n m w.parties.some w.parties.few w.room)

-- the corrections that stand in a memory, from place a to place e
pub held-part : (z : Sizes) (m : List ℕ) (a e : ℕ) → a ≡ corrections_at (layout_of z) → e ≡ rows_at (layout_of z) → take (e - a) (drop a m) ≡ corrections_held z m
held-part z m a e ea ee =
    let k : e - a ≡ oct z.ands = omega (arith, ea, ee) in
    ap₂ (λ (x y : ℕ). take x (drop y m)) k ea

pub held-size : (z : Sizes) (n : ℕ) (m : List ℕ) → Placed z n m → length (corrections_held z m) ≡ oct z.ands
held-size z n m p = length-take-le (oct z.ands) (drop (corrections_at (layout_of z)) m) (omega (arith, length-drop (corrections_at (layout_of z)) m, p.rows))

-- the tapes and the corrections brought in
module _ (z : Sizes) (n : ℕ) (tapes m : List ℕ) (p : Placed z n m) (fit : TapesFit z n tapes) where
  pub tapes-length : length (with_tapes z tapes m) ≡ length m
  unfolding with_tapes
  tapes-length = length-sets m (rows_at (layout_of z)) tapes

  pub tapes-there : tapes_held z n (with_tapes z tapes m) ≡ tapes
  unfolding with_tapes
  tapes-there = part-there (rows_at (layout_of z)) (n * oct (z.inputs + 2 * z.ands)) m tapes fit p.rows

  -- as the code does it: l the layout, the part from a to e
  module _ (l : Layout) (el : l ≡ layout_of z) (a e : ℕ) (ea : a ≡ rows_at l) (ee : e ≡ leaves_at l n) where
    first : a ≡ rows_at (layout_of z)
    first = rows_are z l el a ea

    last : e ≡ rows_at (layout_of z) + length tapes
    last = leaves-are z l el n e ee ∙ ap (λ (j : ℕ). rows_at (layout_of z) + j) (sym fit)

    room : rows_at (layout_of z) + length tapes ≤ length m
    room = rw fit p.rows

    pub tapes-start : a ≤ e
    tapes-start = part-start m tapes (rows_at (layout_of z)) a e first last room

    pub tapes-end : e ≤ length m
    tapes-end = part_end m tapes (rows_at (layout_of z)) a e first last room

    pub tapes-size : length (mid_of a (e - a) m) ≡ length tapes
    tapes-size = part-size m tapes (rows_at (layout_of z)) a e first last room

    pub tapes-put : (v : List ℕ) → v ≡ tapes → put_mid a (e - a) m v ≡ with_tapes z tapes m
    unfolding with_tapes
    tapes-put = part-put m tapes (rows_at (layout_of z)) a e first last room

  module _ (corrections : List ℕ) (fits : length corrections ≡ oct z.ands) where
    pub both-length : length (with_both z tapes corrections m) ≡ length m
    unfolding with_both
    both-length = length-sets (with_tapes z tapes m) (corrections_at (layout_of z)) corrections ∙ tapes-length

    pub both-corrections : corrections_held z (with_both z tapes corrections m) ≡ corrections
    unfolding with_both
    both-corrections =
        part-there (corrections_at (layout_of z)) (oct z.ands) (with_tapes z tapes m) corrections fits (omega (arith, tapes-length, p.rows))

    pub both-tapes : tapes_held z n (with_both z tapes corrections m) ≡ tapes
    unfolding with_both
    both-tapes =
        ap (take (n * oct (z.inputs + 2 * z.ands)))
        (part-after (corrections_at (layout_of z)) (rows_at (layout_of z)) (with_tapes z tapes m) corrections (ap (λ (j : ℕ). corrections_at (layout_of z) + j) fits)
        (omega (arith, tapes-length, p.rows)))
        ∙ tapes-there

    -- as the code does it, after the tapes: m1 the memory with them
    module _ (l : Layout) (el : l ≡ layout_of z) (a e : ℕ) (ea : a ≡ corrections_at l) (ee : e ≡ rows_at l) (m1 : List ℕ) (em : m1 ≡ with_tapes z tapes m) where
      start : a ≡ corrections_at (layout_of z)
      start = corrections-are z l el a ea

      end : e ≡ corrections_at (layout_of z) + length corrections
      end = rows_are z l el e ee ∙ ap (λ (j : ℕ). corrections_at (layout_of z) + j) (sym fits)

      space : corrections_at (layout_of z) + length corrections ≤ length m1
      space = omega (arith, fits, p.rows, ap length em, tapes-length)

      pub both-start : a ≤ e
      both-start = part-start m1 corrections (corrections_at (layout_of z)) a e start end space

      pub both_end : e ≤ length m1
      both_end = part_end m1 corrections (corrections_at (layout_of z)) a e start end space

      pub both-size : length (mid_of a (e - a) m1) ≡ length corrections
      both-size = part-size m1 corrections (corrections_at (layout_of z)) a e start end space

      pub both-put : (v : List ℕ) → v ≡ corrections → put_mid a (e - a) m1 v ≡ with_both z tapes corrections m
      unfolding with_both
      both-put v q =
          part-put m1 corrections (corrections_at (layout_of z)) a e start end space v q ∙ ap (λ (r : List ℕ). sets r (corrections_at (layout_of z)) corrections) em

-- the tapes brought in and the corrections made
module _ (s : List ℕ) (z : Sizes) (n : ℕ) (tapes m : List ℕ) (k : Known s z) (w : Working z n m) (fit : TapesFit z n tapes) where
  abbrev begun : List ℕ
  begun = with_tapes z tapes m

  here : Placed z n m
  here = placed s z n k m w

  asked : Lent s z n (rows_at (layout_of z)) (corrections_at (layout_of z)) begun
  asked = lent s z n k begun (rows_at (layout_of z)) (corrections_at (layout_of z)) (working-kept z n m begun (tapes-length z n tapes m here fit) w) refl refl

  pub prepared-length : length (prepared s z n tapes m) ≡ length m
  unfolding prepared
  prepared-length = left-length s z n (rows_at (layout_of z)) (corrections_at (layout_of z)) begun asked ∙ tapes-length z n tapes m here fit

  pub prepared-tapes : tapes_held z n (prepared s z n tapes m) ≡ tapes
  unfolding prepared
  prepared-tapes =
      ap (take (n * oct (z.inputs + 2 * z.ands))) (left_after s z n (rows_at (layout_of z)) (corrections_at (layout_of z)) begun asked)
      ∙ tapes-there z n tapes m here fit

  pub prepared-corrections : unused_rows (circuit_of s) n tapes n ≡ true → corrections_held z (prepared s z n tapes m) ≡ pack (correction_bits (circuit_of s) n tapes)
  unfolding prepared
  prepared-corrections u =
      left-corrections s z n (rows_at (layout_of z)) (corrections_at (layout_of z)) begun asked
      ∙ ap (corrections_of s z n) (tapes-there z n tapes m here fit)
      ∙ corrections-prepared s z k.legal k.ands n tapes w.parties.some u

-- as the code does it: the rows from place a on, the corrections from place at on, and m1 the memory with the tapes
pub prepared-made : (s : List ℕ) (z : Sizes) (n : ℕ) (tapes m : List ℕ) (a at : ℕ) (m1 m2 : List ℕ) → a ≡ rows_at (layout_of z) → at ≡ corrections_at (layout_of z)
    → m1 ≡ with_tapes z tapes m → m2 ≡ sets (worked s z n (rows_from z n a m1) m1) at (corrections_of s z n (rows_from z n a m1)) → m2 ≡ prepared s z n tapes m
unfolding prepared
prepared-made s z n tapes m a at m1 m2 ea eat e1 e2 =
    e2 ∙ ap₂ (λ (x y : ℕ). sets (worked s z n (rows_from z n x m1) m1) y (corrections_of s z n (rows_from z n x m1))) ea eat
    ∙ ap (λ (k : List ℕ). sets (worked s z n (rows_from z n (rows_at (layout_of z)) k) k) (corrections_at (layout_of z)) (corrections_of s z n (rows_from z n (rows_at (layout_of z)) k))) e1
