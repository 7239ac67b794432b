-- What is sent of an instance: the parts of its stretch of the proof file (document 01, "Proof file"; document 02, order 5).
-- Assumes nothing.
use Rattle.std.specs.Prelude.{cond, List, ℕ, suc, ◌+◌, ◌*◌, eqb, length, take, drop}
use Rattle.bits.specs.Bits.{oct}
use Rattle.parties.specs.Parties.{height_of}
use Rattle.circuit.specs.Circuit.{Circuit}
use Rattle.plain.specs.Tapes.{ands_of}
use Rattle.instance.specs.Instance.{Asked, opened, hiding}

-- the bytes of corrections that are sent
unfoldable pub correction_bytes : Circuit → ℕ → ℕ → ℕ
correction_bytes c n p = cond (eqb (suc p) n) 0 (oct (ands_of c))

-- the bytes of a stretch
unfoldable pub stretch_bytes : Circuit → ℕ → Asked → ℕ
stretch_bytes c n opened = 32
stretch_bytes c n (hiding p) =
    16 * height_of n + correction_bytes c n p + 32 + oct c.inputs + oct (ands_of c + length c.outputs)

-- the parts of a chosen instance's stretch, in order
unfoldable pub siblings_part : ℕ → List ℕ → List ℕ
siblings_part n part = take (16 * height_of n) part

unfoldable pub corrections_part : Circuit → ℕ → ℕ → List ℕ → List ℕ
corrections_part c n p part = take (correction_bytes c n p) (drop (16 * height_of n) part)

unfoldable pub commitment_part : Circuit → ℕ → ℕ → List ℕ → List ℕ
commitment_part c n p part = take 32 (drop (16 * height_of n + correction_bytes c n p) part)

unfoldable pub masked_part : Circuit → ℕ → ℕ → List ℕ → List ℕ
masked_part c n p part = take (oct c.inputs) (drop (16 * height_of n + correction_bytes c n p + 32) part)

unfoldable pub row_part : Circuit → ℕ → ℕ → List ℕ → List ℕ
row_part c n p part = drop (16 * height_of n + correction_bytes c n p + 32 + oct c.inputs) part
