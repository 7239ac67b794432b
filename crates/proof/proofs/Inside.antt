-- The opened nodes and the stretches of a proof whose length is the one that its challenge implies.
-- Assumes nothing.
use mathlib.Core.Path.{◌≡◌, refl}
use mathlib.Core.List.{List}
use Prim.Native.Nat.{ℕ, zero, suc, ◌+◌, ◌≤◌, ◌<◌}
use native.Mathlib.Omega.{arith}
use lib.ListN.{length, drop, length-drop}
use lib.Seq.{length-take-le}
use Rattle.circuit.specs.Circuit.{Circuit}
use Rattle.cover.specs.Masters.{cover_bytes}
use Rattle.cover.proofs.Masters.{length-master-from}
use Rattle.instance.specs.Instance.{Asked}
use Rattle.instance.specs.Stretch.{stretch_bytes}
use Rattle.proof.specs.File.{header_bytes, header_salt, hides, nodes_at, master_at, stretch_start, proof_bytes, stretch_at}
use Rattle.proof.proofs.Places.{before}

-- M instances by n parties
module _ (c : Circuit) (n M : ℕ) (ask : ℕ → Asked) where
  -- the stretches come after the opened nodes
  pub stretches-after : (j : ℕ) → header_bytes + cover_bytes M (hides ask) ≤ stretch_start c M n ask j
  unfolding stretch_start
  stretches-after zero = omega arith
  stretches-after (suc j) = omega (arith, stretches-after j)

  -- the stretch of each instance ends inside the proof
  pub stretch-inside : (j : ℕ) → j < M → stretch_start c M n ask j + stretch_bytes c n (ask j) ≤ proof_bytes c M n ask
  unfolding stretch_start
  stretch-inside j h = before (stretch_start c M n ask) (λ i. stretch_bytes c n (ask i)) (λ i. refl) j M h

  -- a proof of that length
  module _ (proof : List ℕ) (e : length proof ≡ proof_bytes c M n ask) where
    -- an opened node has 16 bytes
    pub length-nodesAt : length (nodes_at M ask proof) ≡ cover_bytes M (hides ask)
    unfolding nodes_at
    length-nodesAt =
        length-take-le (cover_bytes M (hides ask)) (drop header_bytes proof) (omega (arith, length-drop header_bytes proof, stretches-after M))

    -- so has a master that follows
    pub length-masterAt : (j : ℕ) → length (master_at M ask proof j) ≡ 16
    unfolding master_at
    length-masterAt j = length-master-from M (hides ask) (header_salt proof) (nodes_at M ask proof) j length-nodesAt

    -- a stretch has the bytes that are asked
    pub length-stretchAt : (j : ℕ) → j < M → length (stretch_at c M n ask proof j) ≡ stretch_bytes c n (ask j)
    unfolding stretch_at
    length-stretchAt j h =
        length-take-le (stretch_bytes c n (ask j)) (drop (stretch_start c M n ask j) proof)
        (omega (arith, length-drop (stretch_start c M n ask j) proof, stretch-inside j h))
