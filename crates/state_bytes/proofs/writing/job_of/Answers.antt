-- `state_bytes::writing::job_of` meets its contract.
-- Assumes nothing.
use borrow.Author.Rules.{rules}
use native.Mathlib.Omega.{arith}
use mathlib.Core.Path.{◌≡◌}
use Rattle.state_bytes.proofs.Filled.{get_or-inside}
use lib.ListN.{length}
use Rattle.state_bytes.proofs.writing.job_of.Goals as goal

pub returns : goal.returns
returns c =
    let l : length c.args.jobs ≡ 16 = search rules in
    get_or-inside c.args.jobs c.args.i _ _ (omega (arith, c.requires))
