-- Theorem, two proofs from one root: why a root is used once. Two proofs that prove writes from one root and one salt, of one circuit with
-- one n and masters' trees of one height, show both witnesses wherever their challenges hide different parties in the same instance.
-- Assumes nothing.
use Rattle.std.specs.Prelude.{◌≡◌, List, ◌≢◌, ℕ, ◌<◌, take}
use Rattle.circuit.specs.Circuit.{Circuit}
use Rattle.circuit.specs.File.{read_circuit, legal}
use Rattle.openings.specs.Showings.{BothRead}
use Rattle.hashing.specs.Inputs.{context_of}
use Rattle.cover.specs.Masters.{height}
use Rattle.honest.specs.Response.{Chosen, Sent, chosen, bound_in, decode}
use Rattle.honest.specs.Verification.{shown}
use Rattle.honest.specs.Theorems.{AllBytes, Proves}

-- what a proof file sends of instance j, under the circuit file s, y and message
abbrev pub sent_of : Circuit → List ℕ → List ℕ → List ℕ → List ℕ → ℕ → Sent
sent_of c s y message proof j = (decode c (bound_in s y message proof) proof).sent j

-- "the same root went out again under another quantity .. Laid side by side they opened every party" (the request): whatever y and
-- message of the two are, and whatever τ; M may be two where the least power of two that is at least M is one. Both witnesses are read from
-- the two files alone
abbrev pub TwoProofs : Type 0
TwoProofs =
    (s root salt : List ℕ) (c : Circuit) (M M' n : ℕ) → read_circuit s ≡ legal c → height M ≡ height M'
    → (w y message buffer work left : List ℕ) (tau k : ℕ) → AllBytes w → Proves s w y message root salt M tau n buffer work k left
    → (w' y' message' buffer' work' left' : List ℕ) (tau' k' : ℕ) → AllBytes w' → Proves s w' y' message' root salt M' tau' n buffer' work' k' left'
    → (j p q : ℕ) (x x' : Chosen) → j < M → j < M' → p ≢ q
    → sent_of c s y message (take k left) j ≡ chosen p x → sent_of c s y' message' (take k' left') j ≡ chosen q x'
    → BothRead c n p w w' (shown c n (context_of salt j) p x) (shown c n (context_of salt j) q x')
