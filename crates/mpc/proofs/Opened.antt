-- A file that reads as legal: its circuit in the numbers that the code carries; and a file that is refused.
-- Assumes nothing.
use mathlib.Core.Path.{◌≡◌, sym, ap, ap₂, ◌∙◌}
use mathlib.Core.List.{List, [], ◌∷◌}
use Prim.Native.Nat.{ℕ, ◌+◌, ◌*◌, ◌≤◌}
use native.Mathlib.Omega.{arith}
use lib.ListN.{length}
use Rattle.bits.specs.Bits.{oct}
use Rattle.bits.proofs.Tabulate.{length-tabulate}
use Rattle.refusal.specs.Refusal.{number_of}
use Rattle.std.specs.Prelude.{Result, Ok, Err}
use Rattle.refusal.specs.Outcome.{refusal_at, success}
use Rattle.parties.specs.Parties.{height_of}
use Rattle.parties.proofs.Counts.{sizes}
use Rattle.circuit.specs.Circuit.{Gate, xor, and, inv, ands}
use Rattle.circuit.specs.Fields as fields
use Rattle.circuit.specs.File.{inputs_of, outputs_of, gates_of, output_wire, gates_in_order, circuit_of, refused, legal, read_circuit}
use Rattle.circuit.specs.Operations.{read_op}
use Rattle.circuit.specs.Answers.{read_paper}
use Rattle.circuit.specs.declared.Sizes.{Sizes}
use Rattle.circuit.specs.declared.Fault.{Fault}
use Rattle.circuit.proofs.Answered.{gates-count, read-legal, read-success, refusal-refused}
use Rattle.circuit.proofs.Outcomes.{legal-passed, legal-sizes}
use Rattle.plain.specs.Tapes.{ands_of, row_bytes}
use Rattle.mpc.specs.Steps.{Known, Parties}

-- the numbers that the code carries, in one
abbrev pub sized : ℕ → ℕ → ℕ → ℕ → Sizes
sized i o g a = record { inputs = i; outputs = o; gates = g; ands = a }

-- a refused file
pub opened-refused : (s : List ℕ) (f : Fault) (r : Result Sizes Fault) → r ≡ Err f → read_paper r ≡ read_op s
    → read_circuit s ≡ refused (number_of f.refusal) f.slot
opened-refused s f r p e =
    let q : refusal_at (number_of f.refusal) f.slot ≡ read_op s = sym (ap read_paper p) ∙ e in
    refusal-refused s (number_of f.refusal) f.slot q

-- a file that reads as legal
module _ (s : List ℕ) (z : Sizes) (r : Result Sizes Fault) (p : r ≡ Ok z) (e : read_paper r ≡ read_op s) where
  -- its numbers are the circuit's
  pub opened : Known s z
  opened =
      let q : success (z.inputs ∷ z.outputs ∷ z.gates ∷ z.ands ∷ []) ≡ success (inputs_of s ∷ outputs_of s ∷ gates_of s ∷ ands (gates_in_order s) ∷ [])
      = sym (ap read_paper p) ∙ e ∙ read-success s (legal-passed s z r p e) in
      let a : z.ands ≡ ands (gates_in_order s) = cc in
      record { legal = legal-sizes s z r p e; ands = a }

  -- it is read as its circuit
  pub opened-legal : read_circuit s ≡ legal (circuit_of s)
  opened-legal = read-legal s (legal-passed s z r p e)

-- a party count
pub counted : (n h : ℕ) → h ≡ height_of n → (h ≡ 0 → ⊥) → Parties n
counted n h e more = let z = sizes n (λ q. more (e ∙ q)) in record { some = omega (arith, z.some); few = z.few }

-- AND gates are gates
ands-le : (gs : List Gate) → ands gs ≤ length gs
unfolding ands
ands-le [] = omega arith
ands-le (xor a b c ∷ gs) = omega (arith, ands-le gs)
ands-le (and a b c ∷ gs) = omega (arith, ands-le gs)
ands-le (inv a c ∷ gs) = omega (arith, ands-le gs)

-- a legal file's circuit, by I, O, G and A
module _ (s : List ℕ) (i o g a : ℕ) (k : Known s (sized i o g a)) where
  pub circuit-inputs : (circuit_of s).inputs ≡ i
  unfolding fields.circuit_of
  circuit-inputs = sym k.legal.laid.inputs

  pub circuit-outputs : length (circuit_of s).outputs ≡ o
  unfolding fields.circuit_of
  circuit-outputs = length-tabulate (outputs_of s) (output_wire s) ∙ sym k.legal.laid.outputs

  pub circuit-gates : length (circuit_of s).gates ≡ g
  unfolding fields.circuit_of
  circuit-gates = gates-count s ∙ sym k.legal.laid.gates

  pub circuit-ands : ands_of (circuit_of s) ≡ a
  unfolding fields.circuit_of
  circuit-ands = sym k.ands

  -- the bytes of its tape rows
  pub circuit-row : row_bytes (circuit_of s) ≡ oct (i + 2 * a)
  circuit-row = ap₂ (λ (x y : ℕ). oct (x + 2 * y)) circuit-inputs circuit-ands

  -- A is at most G
  pub ands-low : a ≤ g
  ands-low = omega (arith, ands-le (gates_in_order s), gates-count s, k.legal.laid.gates, k.ands)
