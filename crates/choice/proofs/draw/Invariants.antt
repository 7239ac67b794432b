-- `choice::draw` meets its contract: the loop's invariant is that the first t instances are those after t draws.
-- Assumes nothing.
use mathlib.Core.Path.{◌≡◌}
use lib.ListN.{take}
use Rattle.choice.specs.Challenge.{chosen_from, drawn}
use Rattle.choice.proofs.draw.Given as goal

abbrev pub invariant-loop-t : goal.invariant-loop-t
invariant-loop-t l = take l.t l.chosen ≡ chosen_from 0 (drawn l.m l.stream l.t)
