-- `party::commitment` meets its contract.
-- Assumes nothing.
use mathlib.Core.Path.{ap, ◌∙◌}
use mathlib.Core.List.{List}
use lib.ListN.{length}
use Prim.Native.Nat.{ℕ}
use Rattle.bits.proofs.Rows.{row-length}
use Rattle.party.specs.Derive.{commitment_to, commitment_of}
use Rattle.party.proofs.commitment.Goals as goal

pub commit_row-requires : goal.commit_row-requires
commit_row-requires c =
    let s = c in
    (s.requires.0, ap length c.row.ensures ∙ row-length s.args.rows.now 32 s.args.i s.requires.1)

pub returns : goal.returns
unfolding commitment_of
returns c =
    let x = c.args in
    c.commit_row.ensures ∙ ap (λ (r : List ℕ). commitment_to x.j x.n x.i r x.corrections.now) c.row.ensures
