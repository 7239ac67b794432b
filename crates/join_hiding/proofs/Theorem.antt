-- Theorem, joined-hiding: hiding of the joined circuit. Witnesses equal in both outputs are equal in the joined output.
-- Assumes nothing.
use mathlib.Core.Path.{◌≡◌, sym, ap, ap₂, ◌∙◌}
use mathlib.Core.Bool.{Bool}
use mathlib.Core.List.{List, ◌++◌}
use Prim.Native.Nat.{ℕ}
use lib.ListN.{length-map}
use Rattle.bits.specs.Bits.{pack, bit_at}
use Rattle.circuit.specs.Circuit.{Circuit, eval_gates, evaluate}
use Rattle.hiding.proofs.Shown.{pack-injective}
use Rattle.hiding.proofs.Shows.{hiding-shown}
use Rattle.hiding.proofs.Theorem.{hiding}
use Rattle.join.specs.Join.{joined}
use Rattle.join.specs.Theorem.{joined_circuit, Joins}
use Rattle.join.proofs.Joined.{joined-theorem}
use Rattle.join_hiding.specs.Theorem.{SameOutput, JoinedHiding}

-- equal output bytes are equal output bits
same_bits : (c : Circuit) (w w' : List ℕ) → SameOutput c w w' → evaluate c (bit_at w) ≡ evaluate c (bit_at w')
unfolding evaluate
same_bits c w w' e =
    pack-injective (evaluate c (bit_at w)) (evaluate c (bit_at w'))
    (length-map c.outputs (eval_gates c.gates (bit_at w)) ∙ sym (length-map c.outputs (eval_gates c.gates (bit_at w')))) e

-- so are those of both circuits together
same-both : (s t : List ℕ) (c d : Circuit) → Joins s t c d → (w w' : List ℕ) → SameOutput c w w' → SameOutput d w w' → SameOutput (joined_circuit c d) w w'
same-both s t c d j w w' e f =
    ap pack
    (joined-theorem.evaluates s t c d j (bit_at w)
    ∙ ap₂ (λ (a b : List Bool). a ++ b) (same_bits c w w' e) (same_bits d w w' f)
    ∙ sym (joined-theorem.evaluates s t c d j (bit_at w')))

-- Theorem, joined-hiding
pub joined-hiding : JoinedHiding
joined-hiding =
    record {
      partner = λ s t c d j n p l tapes ht w w' hw hw' e f.
          hiding (joined s t) (joined_circuit c d) (joined-theorem.reads s t c d j) n p l tapes ht w w' hw hw' (same-both s t c d j w w' e f);
      shown = λ s t c d j n p k l tapes ht w w' hw hw' e f.
          hiding-shown (joined s t) (joined_circuit c d) (joined-theorem.reads s t c d j) n p k l tapes ht w w' hw hw' (same-both s t c d j w w' e f);
    }
