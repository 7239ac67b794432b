-- What the witness gives: the test of prove that compares it with y.
-- Assumes nothing.
use mathlib.Core.Path.{◌≡◌, sym, ap, ◌∙◌}
use mathlib.Core.Bool.{Bool, true}
use mathlib.Core.List.{List, [], ◌∷◌, ◌++◌}
use Prim.Native.Nat.{ℕ, ◌≤◌}
use native.Mathlib.Omega.{arith}
use borrow.Author.Tests.{eq-eqb}
use lib.ListN.{length, take}
use lib.Seq.{take_at}
use Rattle.bits.specs.Bits.{oct, pack, bit_at, unused_zero}
use Rattle.bits.specs.Bytes.{same_bytes}
use Rattle.refusal.specs.Outcome.{Outcome, done}
use Rattle.circuit.specs.Circuit.{evaluate}
use Rattle.circuit.specs.File.{circuit_of, read_circuit, legal}
use Rattle.circuit.specs.Operations.{evaluate_legal, evaluate_op}
use Rattle.circuit.specs.Answers.{outcome}
use Rattle.refusal.specs.declared.Refusal.{Refusal}
use Rattle.std.specs.Prelude.{⊤, Result}
use Rattle.mpc.specs.Steps.{Known, WitnessFits}
use Rattle.mpc.proofs.Opened.{sized, circuit-inputs, circuit-outputs}
use Rattle.proof.specs.Prove.{witnesses}

-- the output's bytes are few
pub few-output : (s : List ℕ) (i o g a r : ℕ) → Known s (sized i o g a) → r ≡ oct o → r ≤ 32
few-output s i o g a r k e = omega (arith, e, k.legal.laid.few_outputs)

-- a legal file, a witness, and a buffer z for the output
module _ (s : List ℕ) (i o g a : ℕ) (w z : List ℕ) (read : read_circuit s ≡ legal (circuit_of s)) (k : Known s (sized i o g a)) (fits : WitnessFits (sized i o g a) w)
    (room : length z ≡ oct o) where
  -- evaluating fills it
  evaluates : evaluate_op s w z ≡ done (pack (evaluate (circuit_of s) (bit_at w)) ∷ [])
  unfolding evaluate_op evaluate_legal
  evaluates =
      let p : length w ≡ oct (circuit_of s).inputs = fits.size ∙ ap oct (sym (circuit-inputs s i o g a k)) in
      let q : length z ≡ oct (length (circuit_of s).outputs) = room ∙ ap oct (sym (circuit-outputs s i o g a k)) in
      let u : unused_zero (circuit_of s).inputs w ≡ true = ap (λ (x : ℕ). unused_zero x w) (circuit-inputs s i o g a k) ∙ fits.unused in
      rw (read, eq-eqb _ _ p, eq-eqb _ _ q, u)

  -- the test
  pub gives_made : (y left rest : List ℕ) (len : ℕ) (r : Result ⊤ Refusal) (b : Bool) → outcome r left ≡ evaluate_op s w z → length left ≡ len
      → b ≡ same_bytes (take len (left ++ rest)) y → b ≡ witnesses (circuit_of s) w y
  unfolding witnesses
  gives_made y left rest len r b e l f =
      let q : ◌≡◌ {A = List (List ℕ)} (left ∷ []) (pack (evaluate (circuit_of s) (bit_at w)) ∷ []) = ap (λ (x : Outcome). x.left) (e ∙ evaluates) in
      let d : left ≡ pack (evaluate (circuit_of s) (bit_at w)) = cc in
      f ∙ ap (λ (t : List ℕ). same_bytes t y) (take_at left rest len l ∙ d)
