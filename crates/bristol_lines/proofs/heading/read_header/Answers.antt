-- `bristol_lines::heading::read_header` meets its contract: by cases of line 1.
-- Assumes nothing.
use native.Mathlib.Omega.{arith}
use mathlib.Core.Path.{sym, ◌∙◌}
use Rattle.bristol_text.proofs.Lines.{line_after, line-inside}
use Rattle.bristol_lines.proofs.Heads.{header-same, text-none, text-broken, text-bad, text-many, text-good}
use Rattle.bristol_lines.proofs.heading.read_header.Goals as goal

pub returns-then-s-first : goal.returns-then-s-first
returns-then-s-first c =
    let x = c.args in
    λ below. text-none below x.s.now _ _ c.next_line-first.ensures (omega arith)

pub returns-then-s-last : goal.returns-then-s-last
returns-then-s-last c =
    let x = c.args in
    λ below. text-broken below x.s.now _ _ c.next_line-first.ensures (omega arith) (omega arith)

pub slice_bounds-counts-count : goal.slice_bounds-counts-count
slice_bounds-counts-count c =
    let x = c.args in
    omega (arith, line_after x.s.now 0 _ _ c.next_line-first.ensures)

pub slice_bounds-counts-start : goal.slice_bounds-counts-start
slice_bounds-counts-start c =
    let x = c.args in
    omega (arith, line_after x.s.now 0 _ _ c.next_line-first.ensures)

pub slice_bounds-counts-end : goal.slice_bounds-counts-end
slice_bounds-counts-end c =
    let x = c.args in
    omega (arith, line-inside x.s.now 0 _ _ c.next_line-first.ensures (omega arith))

pub returns-in_default : goal.returns-in_default
returns-in_default c =
    let x = c.args in
    λ below. text-bad below x.s.now _ _ c.next_line-first.ensures (omega arith) (omega arith) (sym c.counts.ensures ∙ c.in_default.is)

pub returns-then-gates-gt-MAX_GATES : goal.returns-then-gates-gt-MAX_GATES
returns-then-gates-gt-MAX_GATES c =
    let x = c.args in
    λ below. text-many below x.s.now _ _ c.next_line-first.ensures (omega arith) (omega arith) _ _ (sym c.counts.ensures ∙ c.in-Some.is) (omega arith)

pub returns : goal.returns
returns c =
    let x = c.args in
    header-same x.s.now c.read_inputs.result _ _
    (λ below. text-good below x.s.now _ _ c.next_line-first.ensures (omega arith) (omega arith) _ _ (sym c.counts.ensures ∙ c.in-Some.is) (omega arith))
    c.read_inputs.ensures
