-- What stock and draw write into a page: a slot, and the heads of the two chains.
-- Assumes nothing.
use Rattle.std.specs.Prelude.{List, ℕ, ◌+◌}
use Rattle.std.proofs.lemmas.List.Edits.{sets}
use Rattle.bits.specs.Bytes.{le_bytes}
use Rattle.shelf_page.specs.Page.{slot_at}

-- slot k with this next slot and this root
unfoldable pub put_slot : ℕ → ℕ → List ℕ → List ℕ → List ℕ
put_slot k next root p = sets (sets p (slot_at k) (le_bytes 2 next)) (slot_at k + 2) root

-- the heads of the ready chain and of the spare chain
unfoldable pub put_heads : ℕ → ℕ → List ℕ → List ℕ
put_heads ready spare p = sets (sets p 2 (le_bytes 2 ready)) 4 (le_bytes 2 spare)
