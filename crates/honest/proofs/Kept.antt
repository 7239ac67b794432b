-- What prove leaves of its buffer.
-- Assumes nothing.
use mathlib.Core.Path.{◌≡◌, sym, ap, ◌∙◌}
use mathlib.Core.List.{List}
use Prim.Native.Nat.{ℕ, ◌≤◌}
use native.Mathlib.Omega.{arith}
use borrow.Author.Tests.{eqb-true, leb-true}
use lib.ListN.{length, drop, length-append, length-drop}
use lib.Seq.{drop_at}
use Rattle.circuit.specs.Circuit.{Circuit}
use Rattle.proof.specs.Protocol.{statement_of}
use Rattle.proof.specs.File.{proof_room}
use Rattle.proof.specs.Prove.{proof_of}
use Rattle.honest.specs.Theorems.{Proves}
use Rattle.honest.proofs.Proved.{proved}
use Rattle.proof.proofs.Room.{proof-fits}

-- k bytes are written inside the buffer, and those beyond them stay
pub record Kept (buffer left : List ℕ) (k : ℕ) : Type 0 where
  pub inside : k ≤ length buffer
  pub size : length left ≡ length buffer
  pub beyond : drop k left ≡ drop k buffer

-- a prove that succeeds writes inside its buffer alone: "bytes beyond it stay"
pub prove-keeps : (s witness y message root salt buffer work left : List ℕ) (M tau n k : ℕ) → Proves s witness y message root salt M tau n buffer work k left
    → Kept buffer left k
prove-keeps s witness y message root salt buffer work left M tau n k e =
    let p = proved s witness y message root salt buffer left M tau n k work e in
    let c : Circuit = p.circuit in
    let proof : List ℕ = proof_of c M tau n salt witness (statement_of salt M tau n s y message) root in
    let size : length proof ≡ k = p.size in
    let fits : length proof ≤ proof_room c M tau n = proof-fits c M tau n salt witness (statement_of salt M tau n s y message) root (eqb-true (length salt) 32 p.salt_size) (eqb-true (length root) 16 p.root-size) p.counts p.parties in
    let room : proof_room c M tau n ≤ length buffer = leb-true (proof_room c M tau n) (length buffer) p.room in
    record {
      inside = omega arith;
      size = ap length (sym p.content) ∙ (length-append proof (drop k buffer) ∙ omega (arith, length-drop k buffer));
      beyond = ap (drop k) (sym p.content) ∙ drop_at proof (drop k buffer) k size;
    }
