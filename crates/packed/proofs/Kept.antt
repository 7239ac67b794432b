-- The run keeps the length of the memory.
-- Assumes nothing.
use mathlib.Core.Path.{◌≡◌, refl, ◌∙◌}
use mathlib.Core.List.{List}
use Prim.Native.Nat.{ℕ, zero, suc, ◌+◌, ◌-◌}
use lib.ListN.{length}
use Rattle.circuit.specs.File.{inputs_of, head_of, next_of}
use Rattle.circuit.specs.Steps.{gate_of, and_one}
use Rattle.circuit.specs.declared.Gate.{Gate}
use Rattle.circuit.specs.declared.Gate.TheVariants.{Xor, And, Inv}
use Rattle.circuit.specs.declared.Sizes.{Sizes}
use Rattle.planes.specs.Steps.{put_share}
use Rattle.planes.specs.declared.Layout.{Layout}
use Rattle.planes.proofs.Held.{share-length, tape-length, masked-length}
use Rattle.gates.specs.Steps.{put_wire, xor_step, inv_step, and_step, gate_step, output_step}
use Rattle.walk.specs.Steps.{layout_of, walked, outputs_sent, gates_run, outputs_run}

module _ (l : Layout) where
  wire-length : (c x v : ℕ) (m : List ℕ) → length (put_wire l c x v m) ≡ length m
  wire-length c x v m = masked-length l (put_share c x m) c v ∙ share-length l m c x

  gate-length : (g : Gate) (c t hidden : ℕ) (m : List ℕ) → length (gate_step l g c t hidden m) ≡ length m
  unfolding xor_step and_step inv_step
  gate-length (Xor a b) c t hidden m = wire-length c _ _ m
  gate-length (And a b) c t hidden m = wire-length c _ _ _ ∙ tape-length l m _ _
  gate-length (Inv a) c t hidden m = wire-length c _ _ m

  module _ (hidden : ℕ) (s : List ℕ) where
    walked-length : (k slot t : ℕ) (m : List ℕ) → length (walked l hidden s k slot t m) ≡ length m
    unfolding walked
    walked-length zero slot t m = refl
    walked-length (suc k) slot t m =
        walked-length k (next_of s slot) (t + and_one (gate_of s slot)) _ ∙ gate-length (gate_of s slot) (inputs_of s + slot - 1) t hidden m

    outputs-length : (k : ℕ) (m : List ℕ) → length (outputs_sent l hidden s k m) ≡ length m
    unfolding outputs_sent output_step
    outputs-length zero m = refl
    outputs-length (suc k) m = tape-length l (outputs_sent l hidden s k m) _ _ ∙ outputs-length k m

pub run_length : (s : List ℕ) (z : Sizes) (hidden : ℕ) (m : List ℕ) → length (outputs_run s z hidden m) ≡ length m
unfolding outputs_run gates_run
run_length s z hidden m =
    outputs-length (layout_of z) hidden s z.outputs (gates_run s z hidden m) ∙ walked-length (layout_of z) hidden s z.gates (head_of s) 0 m
