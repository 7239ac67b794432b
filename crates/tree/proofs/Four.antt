-- Four nodes at once: their closed sponges, joined, give out their children.
-- Assumes nothing.
use native.Mathlib.Omega.{arith}
use mathlib.Core.Path.{◌≡◌, ap, ◌∙◌}
use mathlib.Core.List.{List, [], ◌∷◌, ◌++◌}
use Prim.Native.Nat.{ℕ, ◌+◌, ◌*◌}
use lib.ListN.{length, take, drop}
use Rattle.hashing.specs.declared.Context.{Context}
use Rattle.hashing.specs.Inputs.{node_input}
use Rattle.hashing.proofs.Hashes.{bytes-append, bytes_one}
use Rattle.bits.specs.Bytes.{le_bytes}
use Rattle.bits.proofs.Little.{le_bytes-lt}
use Rattle.keccak.specs.Sponge.{shake128}
use Rattle.keccak.specs.Steps.{empty, absorbs, closed, squeezes}
use Rattle.keccak.proofs.Absorbing.{Bytes}
use Rattle.keccak.proofs.Bytes.{bytes_take, bytes_drop}
use Rattle.four.specs.Steps.{state_of, joined}
use Rattle.four_sponges.specs.Steps.{full, four_rows}
use Rattle.four_sponges.proofs.Given.{four-given}
use Rattle.tree.specs.Tree.{children}

-- the lanes of the closed sponge that has taken in node k
abbrev pub node_lanes : Context → ℕ → List ℕ → List ℕ
node_lanes j k value = (closed 168 0x1f (absorbs 168 empty (node_input j k value))).lanes

-- what is hashed of a node is bytes
bytes-node : (j : Context) (k : ℕ) (value : List ℕ) → Bytes j.salt → Bytes value → Bytes (node_input j k value)
unfolding node_input
bytes-node j k value salt bytes =
    let head : List ℕ = le_bytes 2 j.number ++ le_bytes 2 k in
    bytes-append ((2 ∷ j.salt) ++ head) value
    (bytes-append (2 ∷ j.salt) head (bytes-append (2 ∷ []) j.salt (bytes_one 2 (omega arith)) salt)
    (bytes-append (le_bytes 2 j.number) (le_bytes 2 k) (le_bytes-lt 2 j.number) (le_bytes-lt 2 k)))
    bytes

-- four of them
module _ (j : Context) (k : ℕ) (values : List ℕ) (salt : Bytes j.salt) (bytes : Bytes values) (a b c d : List ℕ) where
  pub four-nodes : length a ≡ 25 → length b ≡ 25 → length c ≡ 25 → length d ≡ 25 → a ≡ node_lanes j k (take 16 values)
      → b ≡ node_lanes j (k + 1) (take 16 (drop 16 values)) → c ≡ node_lanes j (k + 2) (take 16 (drop 32 values)) → d ≡ node_lanes j (k + 3) (take 16 (drop 48 values))
      → four_rows (λ i. squeezes 168 32 (full 168 (state_of i (joined a b c d)))) ≡ four_rows (λ i. children j (k + i) (take 16 (drop (16 * i) values)))
  unfolding children shake128
  four-nodes la lb lc ld ea eb ec ed =
      let zero : k ≡ k + 0 = omega arith in
      four-given 168 0x1f 32 (omega arith) (omega arith) (omega arith) (λ i. node_input j (k + i) (take 16 (drop (16 * i) values)))
      (λ i. bytes-node j (k + i) (take 16 (drop (16 * i) values)) salt (bytes_take 16 (drop (16 * i) values) (bytes_drop (16 * i) values bytes)))
      a b c d la lb lc ld (ea ∙ ap (λ (i : ℕ). node_lanes j i (take 16 values)) zero) eb ec ed
