-- The bytes that the proof buffer must hold.
-- Assumes nothing.
use mathlib.Core.Path.{◌≡◌, sym, ap, ap₂, ◌∙◌}
use mathlib.Core.List.{List}
use Prim.Native.Nat.{ℕ, ◌+◌, ◌-◌, ◌*◌, ◌≤◌}
use native.Mathlib.Nat.{mul-le-mul}
use native.Mathlib.Omega.{arith}
use mir.Syntax.{w64}
use mir.Val.{Fits}
use lib.ListN.{length}
use Rattle.bits.specs.Bits.{oct}
use Rattle.parties.specs.Parties.{height_of}
use Rattle.parties.proofs.Counts.{height-small}
use Rattle.circuit.specs.File.{circuit_of}
use Rattle.mpc.specs.Steps.{Known}
use Rattle.plain.specs.Tapes.{ands_of}
use Rattle.mpc.proofs.Opened.{sized, circuit-inputs, circuit-outputs, circuit-ands, ands-low}
use Rattle.mpc.proofs.Asks.{small}
use Rattle.instance.specs.Steps.{Tree}
use Rattle.proof.specs.File.{proof_room}

-- a legal file
module _ (s : List ℕ) (i o g a : ℕ) (k : Known s (sized i o g a)) where
  -- m instances, of which tau are chosen; the bytes x, y and z of their parts
  module _ (m tau n h x y z : ℕ) (few : m ≤ 512) (low : tau ≤ m) (tree : Tree n h) (e : x ≡ oct i) (f : y ≡ oct (a + o)) (d : z ≡ oct a) where
    -- the bytes of a chosen stretch
    abbrev chosen : ℕ
    chosen = 16 * h + z + 32 + (x + y)

    -- they are few
    chosen-few : chosen ≤ 32768
    chosen-few =
        omega
        (arith, ands-low s i o g a k, k.legal.laid.few_inputs, k.legal.laid.few_outputs, k.legal.laid.few_gates, height-small n, tree.height)

    -- of all of them
    all-few : tau * chosen ≤ 16777216
    all-few = let b : tau ≤ 512 = omega arith in let p : tau * chosen ≤ 512 * 32768 = mul-le-mul b chosen-few in p

    -- their number fits
    pub all_fit : Fits w64 (tau * chosen)
    all_fit = small (tau * chosen) (omega (arith, all-few))

    -- so does that of the whole proof
    pub room_fits : Fits w64 (70 + 48 * (m - tau) + tau * chosen)
    room_fits = small (70 + 48 * (m - tau) + tau * chosen) (omega (arith, all-few))

    -- the bytes that the buffer must hold
    pub room-made : 70 + 48 * (m - tau) + tau * chosen ≡ proof_room (circuit_of s) m tau n
    unfolding proof_room
    room-made =
        let size : ℕ → ℕ → ℕ → ℕ → ℕ = λ q u v w. 16 * q + oct u + 32 + oct v + oct (u + w) in
        let c : chosen ≡ size h a i o = omega arith in
        let r : size h a i o ≡ size (height_of n) (ands_of (circuit_of s)) (circuit_of s).inputs (length (circuit_of s).outputs)
        = ap₂ (λ (q u : ℕ). size q u i o) tree.height (sym (circuit-ands s i o g a k))
        ∙ ap₂ (size (height_of n) (ands_of (circuit_of s))) (sym (circuit-inputs s i o g a k)) (sym (circuit-outputs s i o g a k)) in
        ap (λ (t : ℕ). 70 + 48 * (m - tau) + tau * t) (c ∙ r)
