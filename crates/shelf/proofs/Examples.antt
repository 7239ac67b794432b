-- Small pages, computed: the definitions accept what they should and refuse what they should.
-- Assumes nothing.
use mathlib.Core.Path.{◌≡◌, refl}
use mathlib.Core.Bool.{true, false}
use mathlib.Core.List.{List, [], ◌∷◌}
use Prim.Native.Nat.{ℕ}
use lib.ListN.{replicate}
use Rattle.bits.specs.Bytes.{le_at, le_bytes, same_bytes}
use Rattle.bits.specs.Counting.{count}
use Rattle.refusal.specs.Outcome.{refuses as refused, done}
use Rattle.shelf_page.specs.Page.{size_of, ready_head, spare_head, zero_field, draws_of, next_of, root_of, chain, ended, all_one, blank, header_sound, chains_from, sound}
use Rattle.shelf_slots.specs.Slots.{put_slot, put_heads}
use Rattle.shelf.specs.Operations.{stocked, drawn, stock_op, gives, draw_op}

-- one slot, spare
unfoldable pub fresh : List ℕ
fresh = 1 ∷ 0 ∷ 0 ∷ 0 ∷ 1 ∷ 0 ∷ 0 ∷ 0 ∷ 0 ∷ 0 ∷ 0 ∷ 0 ∷ replicate 18 0

-- one slot, ready with a root of sevens
unfoldable pub one : List ℕ
one = 1 ∷ 0 ∷ 1 ∷ 0 ∷ 0 ∷ 0 ∷ 0 ∷ 0 ∷ 0 ∷ 0 ∷ 0 ∷ 0 ∷ 0 ∷ 0 ∷ replicate 16 7

-- one slot, spare again after one draw
unfoldable pub once : List ℕ
once = 1 ∷ 0 ∷ 0 ∷ 0 ∷ 1 ∷ 0 ∷ 0 ∷ 0 ∷ 1 ∷ 0 ∷ 0 ∷ 0 ∷ replicate 18 0

-- three slots: ready 1, 2 and spare 2, with slot 3 on no chain
unfoldable pub crossed : List ℕ
crossed = 3 ∷ 0 ∷ 1 ∷ 0 ∷ 2 ∷ 0 ∷ 0 ∷ 0 ∷ 0 ∷ 0 ∷ 0 ∷ 0 ∷ 2 ∷ 0 ∷ replicate 52 0

pub fresh-sound : sound fresh ≡ true
unfolding fresh size_of ready_head spare_head zero_field next_of root_of chain ended count all_one blank header_sound chains_from sound le_at same_bytes
fresh-sound = refl

-- a shared tail is refused, though the chains have S visits together
pub crossed-unsound : sound crossed ≡ false
unfolding crossed size_of ready_head spare_head zero_field next_of root_of chain ended count all_one blank header_sound chains_from sound le_at same_bytes
crossed-unsound = refl

pub stocks : stock_op fresh (replicate 16 7) ≡ done (one ∷ [])
unfolding fresh one size_of ready_head spare_head zero_field next_of root_of chain ended count all_one blank header_sound chains_from sound le_at le_bytes same_bytes stock_op stocked put_slot put_heads
stocks = refl

pub draws : draw_op one 0 ≡ gives (replicate 16 7) once
unfolding one once size_of ready_head spare_head zero_field draws_of next_of root_of chain ended count all_one blank header_sound chains_from sound le_at le_bytes same_bytes draw_op drawn put_slot put_heads
draws = refl

-- the page from before the draw, put back
pub refuses : draw_op one 1 ≡ refused 15 (one ∷ [])
unfolding one size_of ready_head spare_head zero_field draws_of next_of root_of chain ended count all_one blank header_sound chains_from sound le_at same_bytes draw_op
refuses = refl
