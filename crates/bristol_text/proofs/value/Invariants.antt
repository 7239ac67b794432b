-- `bristol_text::value` meets its contract. The loop's invariant: the digits that remain, after those passed, have the whole value.
-- Assumes nothing.
use Rattle.bristol_text.proofs.Digits.{Counted}
use Rattle.bristol_text.proofs.value.Given as goal

abbrev pub invariant-loop-x : goal.invariant-loop-x
invariant-loop-x l = Counted l.x-items l.x-index l.n
