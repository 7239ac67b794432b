-- Theorem, one-of-hiding: two witnesses whose outputs are in the list have the output 1 of the built circuit, so demand 3's first half holds.
-- Assumes nothing.
use mathlib.Core.Path.{◌≡◌, sym, ap, ◌∙◌}
use mathlib.Core.List.{List}
use Prim.Native.Nat.{ℕ}
use Rattle.bits.specs.Bits.{pack, bit_at}
use Rattle.circuit.specs.Circuit.{Circuit, evaluate}
use Rattle.circuit.specs.File.{legal}
use Rattle.hiding.specs.Hiding.{Witness}
use Rattle.hiding.proofs.Theorem.{hiding}
use Rattle.hiding.proofs.Shows.{hiding-shown}
use Rattle.one_of.specs.OneOf.{one_of_file}
use Rattle.one_of.specs.Theorem.{OneOf}
use Rattle.one_of.proofs.Legal.{one_of}
use Rattle.one_of_hiding.specs.Hiding.{BuiltFrom, Matches, OneOfHiding}

-- a file is read as one circuit
one-circuit : (a b : Circuit) → legal a ≡ legal b → a ≡ b
one-circuit a b e = cc

module _ (s list : List ℕ) (c d : Circuit) (h : BuiltFrom s list c d) where
  -- the circuit that is read is the one of theorem one_of
  one-of-read : OneOf c list d
  one-of-read =
      let b = one_of.built s list c h.bytes h.old h.good in
      let e : b.0 ≡ d = one-circuit b.0 d (sym b.1.0 ∙ h.new) in
      rw e at b.1.1

  new-witness : (w : List ℕ) → Witness c w → Witness d w
  new-witness w v =
      let e : d.inputs ≡ c.inputs = one-of-read.inputs in
      record { bytes = rw e v.bytes; unused = rw e v.unused }

  same-output : (w w' : List ℕ) → Matches c list w → Matches c list w' → pack (evaluate d (bit_at w)) ≡ pack (evaluate d (bit_at w'))
  same-output w w' m m' = ap pack ((one-of-read.means (bit_at w)).1 m.listed ∙ sym ((one-of-read.means (bit_at w')).1 m'.listed))

-- Theorem, one-of-hiding
pub one-of-hiding : OneOfHiding
one-of-hiding =
    record {
      witness = new-witness;
      same = same-output;
      partner = λ s list c d h n p l tapes t w w' m m'.
          hiding (one_of_file s list) d h.new n p l tapes t w w' (new-witness s list c d h w m.witness) (new-witness s list c d h w' m'.witness)
          (same-output s list c d h w w' m m');
      shown = λ s list c d h n p k l tapes t w w' m m'.
          hiding-shown (one_of_file s list) d h.new n p k l tapes t w w' (new-witness s list c d h w m.witness) (new-witness s list c d h w' m'.witness)
          (same-output s list c d h w w' m m');
    }
