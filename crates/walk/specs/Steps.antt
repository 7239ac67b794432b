-- What only the contracts of steps use: no definition of the paper stands here.
-- What the chain of gates and the output wires do to the work memory.
-- Assumes nothing.
use Rattle.std.specs.Prelude.{◌≡◌, Bool, true, List, ℕ, zero, suc, ◌+◌, ◌-◌, length}
use Rattle.bits.specs.Bits.{tabulate, odd, oct}
use Rattle.circuit.specs.Circuit.{ands}
use Rattle.circuit.specs.File.{inputs_of, output_wire, next_of, head_of, gates_in_order}
use Rattle.circuit.specs.Steps.{gate_of, and_one, gates_from, Laid, Legal, Chained, wired, good_outputs}
use Rattle.circuit.specs.declared.Sizes.{Sizes}
use Rattle.planes.specs.Steps.{Room}
use Rattle.planes.specs.declared.Layout.{Layout}
use Rattle.gates.specs.Steps.{gate_step, output_step, output_value}

-- the layout of the work memory for a circuit: I + G wires
abbrev pub layout_of : Sizes → Layout
layout_of z = record { wires = z.inputs + z.gates; inputs = z.inputs; ands = z.ands; outputs = z.outputs }

-- the chain of the file s from h on, with the work memory
pub record Ready (s : List ℕ) (z : Sizes) (h : ℕ) (m : List ℕ) : Type 0 where
  pub memory : Room (layout_of z) m
  pub chained : Chained s z.inputs z.outputs z.gates h
  pub reads : wired s (z.inputs + z.gates) z.gates h
  pub count : ands (gates_from s z.gates h) ≡ z.ands

-- the output wires of the file s, with the work memory and a buffer for the outputs
pub record Ended (s : List ℕ) (z : Sizes) (m y : List ℕ) : Type 0 where
  pub memory : Room (layout_of z) m
  pub laid : Laid s z.inputs z.outputs z.gates
  pub outputs : good_outputs s z.outputs ≡ true
  pub fits : length y ≡ oct z.outputs

-- a legal file with its I, O, G and A, the work memory and a buffer for the outputs
pub record Lent (s : List ℕ) (z : Sizes) (m y : List ℕ) : Type 0 where
  pub legal : Legal s z.inputs z.outputs z.gates
  pub ands : z.ands ≡ ands (gates_in_order s)
  pub memory : Room (layout_of z) m
  pub fits : length y ≡ oct z.outputs

-- k gates of the file s from slot `slot` on, with t AND gates before them
unfoldable pub walked : Layout → ℕ → List ℕ → ℕ → ℕ → ℕ → List ℕ → List ℕ
walked l hidden s zero slot t m = m
walked l hidden s (suc k) slot t m =
    walked l hidden s k (next_of s slot) (t + and_one (gate_of s slot)) (gate_step l (gate_of s slot) (inputs_of s + slot - 1) t hidden m)

-- the first k output wires of the file s: output wire j is broadcast A + j
unfoldable pub outputs_sent : Layout → ℕ → List ℕ → ℕ → List ℕ → List ℕ
outputs_sent l hidden s zero m = m
outputs_sent l hidden s (suc k) m = output_step l (output_wire s k) (l.ands + k) hidden (outputs_sent l hidden s k m)

-- the value of output wire j
unfoldable pub output_bit : Layout → ℕ → List ℕ → List ℕ → ℕ → Bool
output_bit l hidden s m j = odd (output_value l (output_wire s j) (l.ands + j) hidden (outputs_sent l hidden s j m))

-- the gates of the file s in chain order
unfoldable pub gates_run : List ℕ → Sizes → ℕ → List ℕ → List ℕ
gates_run s z hidden m = walked (layout_of z) hidden s z.gates (head_of s) 0 m

-- and then its output wires
unfoldable pub outputs_run : List ℕ → Sizes → ℕ → List ℕ → List ℕ
outputs_run s z hidden m = outputs_sent (layout_of z) hidden s z.outputs (gates_run s z hidden m)

-- their values
unfoldable pub values_run : List ℕ → Sizes → ℕ → List ℕ → List Bool
values_run s z hidden m = tabulate z.outputs (output_bit (layout_of z) hidden s (gates_run s z hidden m))
