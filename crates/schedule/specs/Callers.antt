-- The 16 callers of order 9, and who of them was served last, by the caller to begin with.
-- Assumes nothing.
use Rattle.std.specs.Prelude.{cond, ℕ, zero, suc, ltb}
use Rattle.std.proofs.Math.Option.{Option, none, some}

-- "A caller number 0..15"
abbrev pub callers : ℕ
callers = 16

-- the last served is the one below the caller to begin with; 0, and a number above 16, stand for nobody
unfoldable pub last_served : ℕ → Option ℕ
last_served zero = none
last_served (suc c) = cond (ltb c callers) (some c) none
