-- The work memory of an instance: what it has room for, and what stands in it where nothing is written.
-- Assumes nothing.
use mathlib.Core.Path.{◌≡◌, sym, ap, ◌∙◌}
use mathlib.Core.List.{List}
use Prim.Native.Nat.{ℕ, ◌+◌, ◌-◌, ◌*◌, ◌≤◌, ◌<◌}
use native.Mathlib.Omega.{arith}
use borrow.Rule.Slice.PartMut.{mid_len}
use lib.ListN.{length, take, drop, length-drop}
use lib.Seq.{drop-drop, length-take-le}
use Rattle.bits.specs.Bits.{oct}
use Rattle.bits.specs.Bytes.{row_of}
use Rattle.bits.proofs.Rows.{row-length}
use Rattle.circuit.specs.declared.Sizes.{Sizes}
use Rattle.masks.specs.Steps as masks
use Rattle.planes.specs.Steps.{tape_words, corrections_at, rows_at, seeds_at, seeds_end, held_end, Room}
use Rattle.planes.specs.declared.Layout.{Layout}
use Rattle.planes.proofs.Fits.{seeds-before}
use Rattle.walk.specs.Steps.{layout_of}
use Rattle.packed.specs.Steps.{Held, broadcast_bytes}
use Rattle.packed.proofs.Runs.{room-end, room-rows, room-planes, room-held, room-masks}
use Rattle.instance.specs.Steps.{Lent, Seeded, seeds_held}
use Rattle.instance.proofs.Trees.{tree-parties}

-- a memory with the planes is one whose places are low
pub room-low : (z : Sizes) (m : List ℕ) → Room (layout_of z) m → (l : Layout) → l ≡ layout_of z → (l.wires ≤ 1048576) × (tape_words l ≤ 4194304)
room-low z m room l e = rw e (room.few_wires, room.few_words)

-- the memory of an instance
module _ (s : List ℕ) (z : Sizes) (n h : ℕ) (m : List ℕ) (lent : Lent s z n h m) where
  pub few-parties : n ≤ 64
  few-parties = (tree-parties n h lent.tree).few

  -- another of the same length
  pub lent-kept : (k : List ℕ) → length k ≡ length m → Lent s z n h k
  lent-kept k e = record { known = lent.known; tree = lent.tree; room = omega (arith, e, lent.room) }

  pub lent-end : held_end (layout_of z) n ≤ length m
  lent-end = room-end s z lent.known.legal lent.known.ands n m (tree-parties n h lent.tree).some few-parties lent.room

  -- the seeds stand before the corrections
  pub lent-seeded : Seeded z n m
  lent-seeded = record {
    some = (tree-parties n h lent.tree).some;
    few = few-parties;
    room = omega (arith, seeds-before (layout_of z), few-parties, lent-end);
  }

  pub lent_rows : rows_at (layout_of z) + 8 * broadcast_bytes z ≤ length m
  lent_rows = room-rows s z lent.known.legal lent.known.ands n m (tree-parties n h lent.tree).some few-parties lent.room

  pub lent-planes : Room (layout_of z) m
  lent-planes = room-planes s z lent.known.legal lent.known.ands n m (tree-parties n h lent.tree).some few-parties lent.room

  pub lent-held : Held s z n m
  lent-held = room-held s z lent.known.legal lent.known.ands n m (tree-parties n h lent.tree).some few-parties lent.room

  -- the wires are few
  pub lent-wires : z.inputs + z.gates ≤ 1048576
  lent-wires = lent-planes.few_wires

  -- in the places that the code has
  module _ (l : Layout) (e : l ≡ layout_of z) where
    pub places-low : (l.wires ≤ 1048576) × (tape_words l ≤ 4194304)
    places-low = room-low z m lent-planes l e

    pub places-few : (l.wires ≤ 1048576) × ((tape_words l ≤ 4194304) × (n ≤ 64))
    places-few = (places-low.0, (places-low.1, omega (arith, few-parties)))

    pub lent-masks : (rows at : ℕ) → rows ≡ rows_at l → at ≡ corrections_at l → masks.Lent s z n rows at m
    lent-masks rows at er ea =
        rw (er, ea, e) (room-masks s z lent.known.legal lent.known.ands n m (tree-parties n h lent.tree).some few-parties lent.room)

-- a place, by the layout that the code has
pub place_is : (f : Layout → ℕ) (z : Sizes) (l : Layout) (x : ℕ) → l ≡ layout_of z → x ≡ f l → x ≡ f (layout_of z)
place_is f z l x e d = d ∙ ap f e

-- parts after a place from which on two memories are the same
pub part-kept : (r k c : ℕ) (m w : List ℕ) → r ≤ k → drop r w ≡ drop r m → take c (drop k w) ≡ take c (drop k m)
part-kept r k c m w h e =
    let d : r + (k - r) ≡ k = omega arith in
    let f : (t : List ℕ) → drop k t ≡ drop (k - r) (drop r t) = λ t. ap (λ (x : ℕ). drop x t) (sym d) ∙ sym (drop-drop (k - r) r t) in
    ap (take c) (f w ∙ ap (drop (k - r)) e ∙ sym (f m))

-- the places of the seeds, by the layout that the code has
module _ (z : Sizes) (n : ℕ) (l : Layout) (e : l ≡ layout_of z) (m : List ℕ) (seeded : Seeded z n m) where
  pub seeds-inside : (a b : ℕ) → a ≡ seeds_at l → b ≡ seeds_end l n → (a ≤ b) × (b ≤ length m)
  seeds-inside a b ea eb = (omega (arith, ea, eb), omega (arith, eb ∙ ap (λ (k : Layout). seeds_end k n) e, seeded.room))

  -- the bytes of the seeds
  pub seeds-size : (a b : ℕ) → a ≡ seeds_at l → b ≡ seeds_end l n → length (take (b - a) (drop a m)) ≡ 32 * n
  seeds-size a b ea eb = mid_len a b m (seeds-inside a b ea eb).1 ∙ omega (arith, ea, eb)

-- party i's seed and r are 32 bytes
pub seed-length : (z : Sizes) (n i : ℕ) (m r : List ℕ) → Seeded z n m → i < n → r ≡ row_of (seeds_held z n m) 32 i → length r ≡ 32
seed-length z n i m r seeded h e =
    let k : ℕ = seeds_at (layout_of z) in
    let size : length (seeds_held z n m) ≡ 32 * n = length-take-le (32 * n) (drop k m) (omega (arith, length-drop k m, seeded.room)) in
    ap length e ∙ row-length (seeds_held z n m) 32 i (omega (arith, size, h))

-- the places of the corrections, in a memory that holds all of n parties
module _ (z : Sizes) (n : ℕ) (l : Layout) (e : l ≡ layout_of z) (m : List ℕ) (room : held_end (layout_of z) n ≤ length m) where
  pub corrections-inside : (a b : ℕ) → a ≡ corrections_at l → b ≡ rows_at l → (a ≤ b) × (b ≤ length m)
  corrections-inside a b ea eb = (omega (arith, ea, eb), omega (arith, eb ∙ ap rows_at e, room))

  -- the bytes of the corrections
  pub corrections-size : (a b : ℕ) → a ≡ corrections_at l → b ≡ rows_at l → length (take (b - a) (drop a m)) ≡ oct z.ands
  corrections-size a b ea eb =
      mid_len a b m (corrections-inside a b ea eb).1 ∙ omega (arith, ea, eb, ap (λ (k : Layout). oct k.ands) e)
