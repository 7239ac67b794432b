-- `circuit::records::field` meets its contract: the width is 4 or 2.
-- Assumes nothing.
use mathlib.Core.Path.{◌≡◌}
use mathlib.Core.Logic.{⊎_elim}
use Prim.Native.Nat.{◌+◌, ◌*◌, ◌≤◌}
use native.Mathlib.Omega.{arith}
use lib.ListN.{length}
use Rattle.circuit.specs.Fields.{field}
use Rattle.circuit.proofs.records.field.Goals as goal
use Rattle.circuit.proofs.records.field.Goals.{Else-bytes-eq4, Then-bytes-eq4}

-- the field is inside, where the width is 4
wide : (c : Then-bytes-eq4) → 4 * c.args.k + 4 ≤ length c.args.s.now
wide c = rw c.if-bytes-eq4.true at c.requires.1

-- and where it is not, it is 2
two : (c : Else-bytes-eq4) → c.args.bytes ≡ 2
two c = ⊎_elim (λ e. e) (λ e. absurd (c.if-bytes-eq4.false e)) c.requires.0

narrow : (c : Else-bytes-eq4) → 2 * c.args.k + 2 ≤ length c.args.s.now
narrow c = rw (two c) at c.requires.1

pub overflow_mul-k : goal.overflow_mul-k
overflow_mul-k c = omega (arith, wide c)

pub read_u32-requires : goal.read_u32-requires
read_u32-requires c = wide c

pub returns-then-bytes-eq4 : goal.returns-then-bytes-eq4
unfolding field
returns-then-bytes-eq4 c = rw c.if-bytes-eq4.true c.read_u32.ensures

pub overflow_mul-k-2 : goal.overflow_mul-k-2
overflow_mul-k-2 c = omega (arith, narrow c)

pub read_u16-requires : goal.read_u16-requires
read_u16-requires c = narrow c

pub returns : goal.returns
unfolding field
returns c = rw (two (goal.at.returns c).Else-bytes-eq4) c.read_u16.ensures
