-- `bristol_lines::heading::group_line` meets its contract: by cases of the next line.
-- Assumes nothing.
use native.Mathlib.Omega.{arith}
use mathlib.Core.Path.{sym, ◌∙◌}
use Rattle.bristol_text.proofs.Lines.{line_after, line-inside}
use Rattle.bristol_lines.proofs.Heads.{group-end, group-broken, group-bad, group-sum}
use Rattle.bristol_lines.proofs.heading.group_line.Goals as goal

pub returns-then-s-first : goal.returns-then-s-first
returns-then-s-first c =
    let x = c.args in
    group-end x.s.now x.c.at _ _ c.next_line-first.ensures (omega arith)

pub returns-then-s-end : goal.returns-then-s-end
returns-then-s-end c =
    let x = c.args in
    group-broken x.s.now x.c.at _ _ c.next_line-first.ensures (omega arith) (omega arith)

pub slice_bounds-groups-count : goal.slice_bounds-groups-count
slice_bounds-groups-count c =
    let x = c.args in
    omega (arith, line_after x.s.now x.c.at _ _ c.next_line-first.ensures)

pub slice_bounds-groups-start : goal.slice_bounds-groups-start
slice_bounds-groups-start c =
    let x = c.args in
    omega (arith, line_after x.s.now x.c.at _ _ c.next_line-first.ensures)

pub slice_bounds-groups-end : goal.slice_bounds-groups-end
slice_bounds-groups-end c =
    let x = c.args in
    omega (arith, line-inside x.s.now x.c.at _ _ c.next_line-first.ensures (omega arith))

pub returns-in_err-n : goal.returns-in_err-n
returns-in_err-n c =
    let x = c.args in
    rw c.from_residual.ensures (group-bad x.s.now x.c.at _ _ c.next_line-first.ensures (omega arith) (omega arith) (sym c.groups.ensures ∙ c.in_err-n.was))

pub returns : goal.returns
returns c =
    let x = c.args in
    group-sum x.s.now x.c.at _ _ c.next_line-first.ensures (omega arith) (omega arith) _ (sym c.groups.ensures ∙ c.in_ok-n.was)
