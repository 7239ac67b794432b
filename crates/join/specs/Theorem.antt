-- What joining makes (document 02, order 8): "Its evaluation is both evaluations side by side, and its AND count is the sum."
-- Assumes nothing.
use Rattle.std.specs.Prelude.{◌≡◌, Bool, List, [], ◌∷◌, ◌++◌, map, ℕ, ◌+◌, ◌*◌, ◌≤◌, length}
use Rattle.refusal.specs.Outcome.{success, Outcome}
use Rattle.circuit.specs.Building.{front}
use Rattle.circuit.specs.Circuit.{Gate, xor, and, inv, Circuit, ands, evaluate}
use Rattle.circuit.specs.File.{max_outputs, max_gates, legal, read_circuit}
use Rattle.circuit.specs.Operations.{read_op}
use Rattle.join.specs.Join.{moved_wire, joined, join_op}

-- a gate with its wires moved
unfoldable pub moved_gate : (ℕ → ℕ) → Gate → Gate
moved_gate up (xor a b c) = xor (up a) (up b) (up c)
moved_gate up (and a b c) = and (up a) (up b) (up c)
moved_gate up (inv a c) = inv (up a) (up c)

-- where a wire of a second circuit stands after the first
abbrev pub up_wire : Circuit → ℕ → ℕ
up_wire c = moved_wire c.inputs (length c.gates)

-- two circuits joined: "the first's outputs then the second's", the first's gates and then the second's, with the second's wires moved
unfoldable pub joined_circuit : Circuit → Circuit → Circuit
joined_circuit c d =
    record {
      inputs = c.inputs;
      outputs = c.outputs ++ map (up_wire c) d.outputs;
      gates = c.gates ++ map (moved_gate (up_wire c)) d.gates;
    }

-- s and t are files of the circuits c and d, "with the same I", whose sums are within the limits
pub record Joins (s t : List ℕ) (c d : Circuit) : Type 0 where
  pub first : read_circuit s ≡ legal c
  pub second : read_circuit t ≡ legal d
  pub inputs : c.inputs ≡ d.inputs
  pub outputs : length c.outputs + length d.outputs ≤ max_outputs
  pub gates : length c.gates + length d.gates ≤ max_gates

-- Theorem, joined: the joined file reads as the joined circuit, with I, O₁ + O₂, G₁ + G₂ and A₁ + A₂; for every witness its evaluation is the
-- first's followed by the second's; it is written where the lent output is long enough
pub record JoinedTheorem : Type 0 where
  pub reads : (s t : List ℕ) (c d : Circuit) → Joins s t c d → read_circuit (joined s t) ≡ legal (joined_circuit c d)
  pub numbers : (s t : List ℕ) (c d : Circuit) → Joins s t c d
      → read_op (joined s t)
      ≡ success
      (c.inputs ∷ (length c.outputs + length d.outputs) ∷ (length c.gates + length d.gates) ∷ (ands c.gates + ands d.gates) ∷ [])
  pub evaluates : (s t : List ℕ) (c d : Circuit) → Joins s t c d → (w : ℕ → Bool)
      → evaluate (joined_circuit c d) w ≡ evaluate c w ++ evaluate d w
  pub size : (s t : List ℕ) (c d : Circuit) → Joins s t c d
      → length (joined s t) ≡ 16 + 4 * (length c.outputs + length d.outputs) + 16 * (length c.gates + length d.gates)
  pub written : (s t out : List ℕ) (c d : Circuit) → Joins s t c d → length (joined s t) ≤ length out
      → ◌≡◌ {A = Outcome} (join_op s t out) (record { answer = success (length (joined s t) ∷ []); left = front (joined s t) out ∷ [] })
