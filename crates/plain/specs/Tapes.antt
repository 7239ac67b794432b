-- The tapes and what the parties hold by them (document 01, "Tapes and run").
-- Assumes nothing.
use Rattle.std.specs.Prelude.{Bool, true, false, cond, ◌&&◌, List, ◌++◌, ℕ, zero, suc, ◌+◌, ◌*◌, eqb, ltb, length, take, drop, replicate}
use Rattle.bits.specs.Bits.{oct, bit_at, unused_zero}
use Rattle.bits.specs.Bytes.{row_of}
use Rattle.circuit.specs.Circuit.{Circuit, ands}
use Rattle.plain.specs.Run.{Column}

-- A
abbrev pub ands_of : Circuit → ℕ
ands_of c = ands c.gates

-- "Rows are oct(I+2A) bytes each"
abbrev pub row_bytes : Circuit → ℕ
row_bytes c = oct (c.inputs + 2 * ands_of c)

-- party i's row of the flat tape buffer
abbrev pub tape_row : Circuit → List ℕ → ℕ → List ℕ
tape_row c tapes i = row_of tapes (row_bytes c) i

-- "The tape of a party holds I input masks": the shares of the input wires; no other wire has shares yet
unfoldable pub input_masks : Circuit → List ℕ → ℕ → Column
input_masks c tapes w i = ltb w c.inputs && bit_at (tape_row c tapes i) w

-- "then A output masks of AND gates in chain order"
unfoldable pub output_masks : Circuit → List ℕ → ℕ → Column
output_masks c tapes t i = bit_at (tape_row c tapes i) (c.inputs + t)

-- "parties before n − 1 have A product shares after that"
unfoldable pub product_shares : Circuit → List ℕ → ℕ → Column
product_shares c tapes t i = bit_at (tape_row c tapes i) (c.inputs + ands_of c + t)

-- the bits that party i of n uses: "for party n − 1 the last A places are unused"
unfoldable pub used_bits : Circuit → ℕ → ℕ → ℕ
used_bits c n i = cond (eqb (suc i) n) (c.inputs + ands_of c) (c.inputs + 2 * ands_of c)

-- "unused bits zero", in the rows of the first k parties of n
unfoldable pub unused_rows : Circuit → ℕ → List ℕ → ℕ → Bool
unused_rows c n tapes zero = true
unused_rows c n tapes (suc i) = unused_rows c n tapes i && unused_zero (used_bits c n i) (tape_row c tapes i)

-- the tapes with r as party p's row
unfoldable pub with_row : Circuit → ℕ → List ℕ → List ℕ → List ℕ
with_row c p r tapes = take (p * row_bytes c) tapes ++ r ++ drop (p * row_bytes c + row_bytes c) tapes
