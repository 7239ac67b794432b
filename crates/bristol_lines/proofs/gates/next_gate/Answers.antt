-- `bristol_lines::gates::next_gate` meets its contract: by cases of the next line.
-- Assumes nothing.
use native.Mathlib.Omega.{arith}
use Rattle.bristol_text.proofs.Lines.{line_after, line-inside}
use Rattle.bristol_lines.proofs.Lined.{gate-none}
use Rattle.bristol_lines.proofs.gates.next_gate.Goals as goal

pub slice_bounds-line_gate-count : goal.slice_bounds-line_gate-count
slice_bounds-line_gate-count c =
    let x = c.args in
    omega (arith, line_after x.s.now x.c.at _ _ c.next_line-first.ensures)

pub slice_bounds-line_gate-start : goal.slice_bounds-line_gate-start
slice_bounds-line_gate-start c =
    let x = c.args in
    omega (arith, line_after x.s.now x.c.at _ _ c.next_line-first.ensures)

pub slice_bounds-line_gate-end : goal.slice_bounds-line_gate-end
slice_bounds-line_gate-end c =
    let x = c.args in
    omega (arith, line-inside x.s.now x.c.at _ _ c.next_line-first.ensures (omega arith))

pub returns-then-s-first : goal.returns-then-s-first
returns-then-s-first c =
    let x = c.args in
    gate-none x.s.now x.c.at _ _ c.next_line-first.ensures (omega arith)
