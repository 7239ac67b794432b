-- What only the contracts of steps use: no definition of the paper stands here.
-- Assumes nothing.
use Rattle.std.specs.Prelude.{cond, List, ℕ, eqb}
use Rattle.std.proofs.lemmas.List.Edits.{sets}
use Rattle.bits.specs.Bytes.{le_at, le_bytes}
use Rattle.shelf_page.specs.Page.{slot_at}
use Rattle.shelf_slots.specs.Slots.{put_slot}

-- where the link to the spare slot after slot `before` stands: the spare head for 0, and else that slot's next
unfoldable pub link_after : ℕ → ℕ
link_after before = cond (eqb before 0) 4 (slot_at before)

-- slot k, with this root, moved from the front of ready into spare, after slot `before`; the first ready slot is then `next`
unfoldable pub moved_after : ℕ → ℕ → ℕ → List ℕ → List ℕ → List ℕ
moved_after before k next root p =
    let link : ℕ = link_after before in
    sets (sets (put_slot k (le_at 2 p link) root p) 2 (le_bytes 2 next)) link (le_bytes 2 k)
