-- `upgrade::write_fields` meets its contract. The loop's invariant: the first k fields are written.
-- Assumes nothing.
use mathlib.Core.Path.{◌≡◌}
use lib.ListN.{length}
use lib.Seq.{sets}
use Rattle.building.specs.Files.{bytes_of}
use Rattle.upgrade.specs.Upgrade.{old_fields}
use Rattle.upgrade.proofs.write_fields.Given as goal

abbrev pub invariant-loop-k : goal.invariant-loop-k
invariant-loop-k l = (length l.out ≡ length l.initial.out) × (l.out ≡ sets l.initial.out 0 (bytes_of (old_fields l.old) l.k))
