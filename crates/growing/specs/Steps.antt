-- What only the contracts of steps use: no definition of the paper stands here.
-- Assumes nothing.
use Rattle.std.specs.Prelude.{Bool, true, ◌&&◌, List, ℕ, zero, suc, ◌+◌, eqb, get_or}
use Rattle.hashing.specs.declared.Context.{Context}
use Rattle.bits.specs.Bytes.{row_of}
use Rattle.tree.specs.Tree.{children}
use Rattle.cover.specs.Steps.{put_row}

-- rows of nodes with the two nodes below each of n nodes put in their rows, from node k on, one node after the other
unfoldable pub spreads : ℕ → Context → ℕ → List ℕ → List ℕ
spreads zero j k nodes = nodes
spreads (suc n) j k nodes = spreads n j (k + 1) (put_row 32 nodes k (children j k (row_of nodes 16 k)))

-- whether n nodes have unhidden leaves alone, from node k on, by the marks
unfoldable pub shown_from : ℕ → List ℕ → ℕ → Bool
shown_from zero marks k = true
shown_from (suc n) marks k = eqb (get_or marks k 0) 1 && shown_from n marks (k + 1)
