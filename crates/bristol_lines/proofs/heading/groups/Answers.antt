-- `bristol_lines::heading::groups` meets its contract: the first number, and so many sizes after it.
-- Assumes nothing.
use mathlib.Core.Path.{sym, ◌∙◌}
use Rattle.bristol_lines.proofs.Heads.{groups_none, groups-room, groups-all}
use Rattle.bristol_lines.proofs.heading.groups.Goals as goal

pub returns-in_err-n : goal.returns-in_err-n
returns-in_err-n c =
    rw c.from_residual.ensures (sym (groups_none c.args.l.now (sym c.read_number.ensures ∙ c.in_err-n.was)))

pub sizes-requires : goal.sizes-requires
sizes-requires c =
    groups-room c.args.l.now _ _ (sym c.read_number.ensures ∙ c.in_ok-n.was)

pub returns : goal.returns
returns c =
    c.sizes.ensures ∙ groups-all c.args.l.now _ _ (sym c.read_number.ensures ∙ c.in_ok-n.was)
