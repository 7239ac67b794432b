-- What only the contracts of steps use: no definition of the paper stands here.
-- Assumes nothing.
use Rattle.std.specs.Prelude.{cond, List, ℕ, eqb}
use Rattle.hashing.specs.declared.Context.{Context}
use Rattle.party.specs.Derive.{commitment_of}

-- party i's commitment, where `theirs` stands for party p's
abbrev pub commitment_but : Context → ℕ → ℕ → List ℕ → List ℕ → List ℕ → ℕ → List ℕ
commitment_but j n p theirs seeds corrections i = cond (eqb i p) theirs (commitment_of j n i seeds corrections)
