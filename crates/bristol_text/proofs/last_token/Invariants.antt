-- `bristol_text::last_token` meets its contract. The loop's invariant: the bytes from i on have no space.
-- Assumes nothing.
use Rattle.bristol_text.proofs.Tokens.{Alone}
use Rattle.bristol_text.proofs.last_token.Given as goal

abbrev pub invariant-loop-i : goal.invariant-loop-i
invariant-loop-i l = Alone l.l l.i
