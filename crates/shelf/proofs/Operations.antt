-- The operations, case by case.
-- Assumes nothing.
use mathlib.Core.Path.{◌≡◌, refl, sym, ap, ap₂, ◌∙◌}
use mathlib.Core.Bool.{true, false}
use mathlib.Core.List.{List, [], ◌∷◌}
use mathlib.Core.Logic.{◌≢◌}
use Prim.Native.Nat.{ℕ, ◌+◌}
use borrow.Author.Tests.{eq-eqb, ne_eqb}
use lib.ListN.{length, take, drop}
use lib.Seq.{sets}
use Rattle.bits.specs.Bytes.{le_bytes}
use Rattle.std.specs.Prelude.{Ok}
use Rattle.refusal.specs.Outcome.{refuses, done}
use Rattle.shelf_page.specs.declared.Shelf.{Shelf}
use Rattle.shelf_page.specs.Page.{slot_at, ready_head, spare_head, draws_of, next_of, root_of, zero_root, sound}
use Rattle.shelf.specs.Operations.{stocked, drawn, stock_op, draw_op, draw_outcome, gives}
use Rattle.shelf_page.proofs.Soundness.{shelf_of}
use Rattle.shelf_slots.specs.Slots.{put_slot, put_heads}
use Rattle.shelf_slots.specs.Steps.{moved_after, link_after}

module _ (p root : List ℕ) where
  pub stock-14 : sound p ≡ false → stock_op p root ≡ refuses 14 (p ∷ [])
  unfolding stock_op
  stock-14 e = rw e

  module _ (t : sound p ≡ true) where
    pub stock-6 : length root ≢ 16 → stock_op p root ≡ refuses 6 (p ∷ [])
    unfolding stock_op
    stock-6 h = rw (t, ne_eqb (length root) 16 h)

    module _ (l : length root ≡ 16) where
      pub stock-17 : spare_head p ≡ 0 → stock_op p root ≡ refuses 17 (p ∷ [])
      unfolding stock_op
      stock-17 h = rw (t, eq-eqb (length root) 16 l, eq-eqb (spare_head p) 0 h)

      pub stock-accepted : spare_head p ≢ 0 → stock_op p root ≡ done (stocked p root ∷ [])
      unfolding stock_op
      stock-accepted h = rw (t, eq-eqb (length root) 16 l, ne_eqb (spare_head p) 0 h)

module _ (p : List ℕ) (n : ℕ) where
  pub draw-14 : sound p ≡ false → draw_op p n ≡ refuses 14 (p ∷ [])
  unfolding draw_op
  draw-14 e = rw e

  module _ (t : sound p ≡ true) where
    pub draw-15 : n ≢ draws_of p → draw_op p n ≡ refuses 15 (p ∷ [])
    unfolding draw_op
    draw-15 h = rw (t, ne_eqb n (draws_of p) h)

    module _ (c : n ≡ draws_of p) where
      pub draw-16 : ready_head p ≡ 0 → draw_op p n ≡ refuses 16 (p ∷ [])
      unfolding draw_op
      draw-16 h = rw (t, eq-eqb n (draws_of p) c, eq-eqb (ready_head p) 0 h)

      module _ (r : ready_head p ≢ 0) where
        pub draw-18 : draws_of p ≡ 4294967295 → draw_op p n ≡ refuses 18 (p ∷ [])
        unfolding draw_op
        draw-18 h = rw (t, eq-eqb n (draws_of p) c, ne_eqb (ready_head p) 0 r, eq-eqb (draws_of p) 4294967295 h)

        pub draw-accepted : draws_of p ≢ 4294967295 → draw_op p n ≡ gives (root_of p (ready_head p)) (drawn p)
        unfolding draw_op
        draw-accepted h = rw (t, eq-eqb n (draws_of p) c, ne_eqb (ready_head p) 0 r, ne_eqb (draws_of p) 4294967295 h)

-- what draw promises of a root that is given
pub draw-given : (p : List ℕ) (n : ℕ) (root page : List ℕ) → root ≡ root_of p (ready_head p) → page ≡ drawn p
    → draw_op p n ≡ gives (root_of p (ready_head p)) (drawn p) → draw_outcome (Ok root) page ≡ draw_op p n
draw-given p n root page r d e = ap₂ gives r d ∙ sym e

-- the writes of a stocking
pub stock-done : (p root : List ℕ) (s : Shelf) (next : ℕ) (a b : List ℕ) → s ≡ shelf_of p → next ≡ next_of p s.spare
    → a ≡ put_slot s.spare s.ready root p → b ≡ put_heads s.spare next a → b ≡ stocked p root
unfolding stocked
stock-done p root s next a b e f g h = cc

-- a slot at the front of spare
moved_front : (k next : ℕ) (root p : List ℕ) → moved_after 0 k next root p ≡ put_heads next k (put_slot k (spare_head p) root p)
unfolding moved_after link_after put_heads spare_head
moved_front k next root p = refl

-- the writes of a draw
pub draw-done : (p : List ℕ) (s : Shelf) (next : ℕ) (a b : List ℕ) → s ≡ shelf_of p → next ≡ next_of p s.ready
    → a ≡ moved_after 0 s.ready next zero_root p → b ≡ sets a 8 (le_bytes 4 (s.draws + 1)) → b ≡ drawn p
unfolding drawn
draw-done p s next a b e f g h = h ∙ rw (g, f, e, moved_front (ready_head p) (next_of p (ready_head p)) zero_root p)

-- the root that is read is the first ready root
pub root-read : (p : List ℕ) (s : Shelf) (at : ℕ) (r : List ℕ) → s ≡ shelf_of p → at ≡ slot_at s.ready → r ≡ take 16 (drop (at + 2) p) → r ≡ root_of p (ready_head p)
unfolding root_of
root-read p s at r e f g = g ∙ ap (λ (k : ℕ). take 16 (drop (k + 2) p)) (f ∙ ap (λ (t : Shelf). slot_at t.ready) e)
