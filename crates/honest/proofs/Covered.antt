-- The challenge of an accepted proof covers the whole statement.
-- Assumes nothing.
use native.Mathlib.Omega.{arith}
use mathlib.Core.Path.{◌≡◌, sym, ap, ◌∙◌}
use mathlib.Core.List.{List}
use Prim.Native.Nat.{ℕ}
use lib.ListN.{length, drop, length-drop}
use lib.Seq.{length-take-le}
use Rattle.bits.specs.Bits.{oct}
use Rattle.keccak.specs.Sponge.{sha3_256}
use Rattle.keccak.proofs.Lengths.{length-sha3-256}
use Rattle.parties.proofs.Counts.{Sizes, sizes}
use Rattle.circuit.specs.Circuit.{Circuit}
use Rattle.circuit.specs.File.{read_circuit, legal}
use Rattle.hashing.specs.Statement.{Statement, Fits}
use Rattle.hashing.proofs.Fixed.{statement-fixed}
use Rattle.proof.specs.Protocol.{statement_of}
use Rattle.honest.specs.Response.{decode_header}
use Rattle.honest.specs.Theorems.{GoodHeader, Accepts, StatementCovered}
use Rattle.proof.proofs.Passing.{has-height}
use Rattle.honest.proofs.Published.{same-circuit, check-is-published}

-- what the challenge of a file is drawn from
unfoldable drawn_from : List ℕ → List ℕ → List ℕ → List ℕ → Statement
drawn_from s y message proof =
    record {
      hstar = (decode_header proof).hstar;
      salt = (decode_header proof).salt;
      M = (decode_header proof).M;
      tau = (decode_header proof).tau;
      n = (decode_header proof).n;
      digest = sha3_256 s;
      y = y;
      message = message;
    }

-- the header's h* has 32 bytes
hstar_size : (proof : List ℕ) → GoodHeader proof (decode_header proof) → length (decode_header proof).hstar ≡ 32
unfolding decode_header
hstar_size proof g =
    let a = length-drop 2 proof in
    let b = length-drop 2 (drop 2 proof) in
    length-take-le 32 (drop 2 (drop 2 (drop 2 proof))) (omega (arith, a, b, length-drop 2 (drop 2 (drop 2 proof)), g.size))

-- and so has the salt
salt_size : (proof : List ℕ) → GoodHeader proof (decode_header proof) → length (decode_header proof).salt ≡ 32
unfolding decode_header
salt_size proof g =
    let a = length-drop 2 proof in
    let b = length-drop 2 (drop 2 proof) in
    let d = length-drop 2 (drop 2 (drop 2 proof)) in
    length-take-le 32 (drop 32 (drop 2 (drop 2 (drop 2 proof)))) (omega (arith, a, b, d, length-drop 32 (drop 2 (drop 2 (drop 2 proof))), g.size))

-- with a good header it fits
drawn-fits : (s y message proof : List ℕ) → GoodHeader proof (decode_header proof) → Fits (drawn_from s y message proof)
unfolding drawn_from
drawn-fits s y message proof g =
    let z : Sizes (decode_header proof).n = sizes (decode_header proof).n (has-height (decode_header proof).n g.parties) in
    record {
      hstar = hstar_size proof g;
      salt = salt_size proof g;
      M = omega (arith, g.M_most);
      tau = omega (arith, g.M_most, g.tau_most);
      n = omega (arith, z.few);
      digest = length-sha3-256 s;
    }

-- y is as long as the outputs of its circuit
y_size : (s y message proof : List ℕ) (c : Circuit) → read_circuit s ≡ legal c → Accepts s y message proof → length y ≡ oct (length c.outputs)
y_size s y message proof c r a = a.y_size ∙ ap (λ (z : Circuit). oct (length z.outputs)) (same-circuit s a.circuit c a.read r)

pub statement-covered : StatementCovered
unfolding statement_of drawn_from
statement-covered s y message proof work s' y' message' proof' work' c c' r r' e e' i =
    let a : Accepts s y message proof = check-is-published.sound s y message proof work e in
    let a' : Accepts s' y' message' proof' = check-is-published.sound s' y' message' proof' work' e' in
    let k =
    statement-fixed (drawn_from s y message proof) (drawn_from s' y' message' proof') (drawn-fits s y message proof a.header)
    (drawn-fits s' y' message' proof' a'.header) i in
    let long : oct (length c.outputs) ≡ oct (length c'.outputs) → length y ≡ length y'
    = λ o. y_size s y message proof c r a ∙ o ∙ sym (y_size s' y' message' proof' c' r' a') in
    record {
      hstar = k.hstar;
      salt = k.salt;
      M = k.M;
      tau = k.tau;
      n = k.n;
      circuits = k.digest;
      same_y = λ o. k.y (long o);
      same_message = λ o. k.message (long o);
    }
