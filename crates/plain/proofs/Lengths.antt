-- Lengths of corrections and broadcast rows; all bits of a row.
-- Assumes nothing.
use mathlib.Core.Path.{◌≡◌, refl, sym, ap, ◌∙◌}
use mathlib.Core.Bool.{Bool, false, ◌&&◌}
use mathlib.Core.List.{List, [], ◌∷◌}
use Prim.Native.Nat.{ℕ, suc, ◌+◌}
use native.Mathlib.Nat.{suc-add, zero-add}
use native.Mathlib.Omega.{arith}
use borrow.Author.Tests.{lt-ltb}
use lib.Dec.{ltb}
use lib.ListN.{length, get_or}
use Rattle.bits.proofs.Tabulate.{tabulate-cong, tabulate-get_or}
use Rattle.circuit.specs.Circuit.{Gate, xor, and, inv, Circuit, ands}
use Rattle.plain.specs.Run.{Column, next, corrections, Channel, outputs, run}
use Rattle.plain.specs.Tapes.{ands_of}
use Rattle.plain.specs.Showing.{run_with, run_on, honest_run, row_bits, first_bits}

-- a correction for each AND gate
pub length-corrections : (n : ℕ) (gs : List Gate) (o z s : ℕ → Column) → length (corrections n gs o z s) ≡ ands gs
unfolding corrections ands
length-corrections n [] o z s = refl
length-corrections n (xor a b c ∷ gs) o z s = length-corrections n gs o z _
length-corrections n (and a b c ∷ gs) o z s = ap suc (length-corrections n gs (next o) (next z) _)
length-corrections n (inv a c ∷ gs) o z s = length-corrections n gs o z _

-- a bit for each output
length-outputs : (n : ℕ) (ws : List ℕ) (h : Channel) (s : ℕ → Column) (m : ℕ → Bool) (i : ℕ) → length (row_bits (outputs n ws h s m) i) ≡ length ws
unfolding outputs row_bits
length-outputs n [] h s m i = refl
length-outputs n (w ∷ ws) h s m i = ap suc (length-outputs n ws (next h) s m i)

-- "A broadcast row holds A + O bits"
pub length-row : (n : ℕ) (outs : List ℕ) (gs : List Gate) (o z : ℕ → Column) (h : Channel) (s : ℕ → Column) (m : ℕ → Bool) (i : ℕ)
    → length (row_bits (run n outs gs o z h s m) i) ≡ ands gs + length outs
unfolding run row_bits ands
length-row n outs [] o z h s m i = length-outputs n outs h s m i ∙ sym (zero-add (length outs))
length-row n outs (xor a b c ∷ gs) o z h s m i = length-row n outs gs o z h _ _ i
length-row n outs (and a b c ∷ gs) o z h s m i = ap suc (length-row n outs gs (next o) (next z) (next h) _ _ i) ∙ sym (suc-add (ands gs) (length outs))
length-row n outs (inv a c ∷ gs) o z h s m i = length-row n outs gs o z h _ _ i

-- all bits of a list
pub first-all : (k : ℕ) (bs : List Bool) → length bs ≡ k → first_bits k bs ≡ bs
unfolding first_bits
first-all k bs e =
    tabulate-cong (length bs) (λ t. ltb t k && get_or bs t false) (λ t. get_or bs t false) (λ t h. rw (lt-ltb t k (omega arith)))
    ∙ tabulate-get_or bs false

-- an honest run's row
pub length-honest : (c : Circuit) (n p : ℕ) (w tapes : List ℕ) → length (row_bits (honest_run c n w tapes) p) ≡ ands_of c + length c.outputs
unfolding honest_run run_on run_with
length-honest c n p w tapes = length-row n c.outputs c.gates _ _ _ _ _ p
