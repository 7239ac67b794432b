-- Check from the tests that need no run: where they refuse it refuses, and where they pass the instances decide.
-- Assumes nothing.
use mathlib.Core.Path.{◌≡◌, sym, ap, ap₂, ◌∙◌, subst}
use mathlib.Core.List.{List, []}
use Prim.Native.Nat.{ℕ, ◌+◌, ◌*◌, ◌≤◌}
use Rattle.refusal.specs.Refusal.{number_of}
use Rattle.refusal.specs.declared.Refusal.{Refusal}
use Rattle.refusal.specs.Outcome.{Outcome, refuses, done}
use Rattle.circuit.specs.File.{circuit_of}
use Rattle.circuit.specs.declared.Sizes.{Sizes}
use Rattle.masks.specs.Steps.{wire_count}
use Rattle.proof.specs.Protocol.{statement_of, challenged}
use Rattle.proof.specs.File.{header_m, header_hstar, header_salt}
use Rattle.proof.specs.Check.{check_legal}
use Rattle.proof.specs.Steps.{asks_in}
use Rattle.proof_tests.specs.declared.Shape.{Shape}
use Rattle.std.specs.Prelude.{Result, Ok, Err}
use Rattle.proof_tests.specs.Steps.{judged, legal_tests, Ready, entered, Took}
use Rattle.proof_tests.proofs.Outcomes.{check-tests, tests-refuse, tests-accept}

module _ (s y message proof : List ℕ) (r : Result Shape Refusal) (e : entered r ≡ legal_tests s y message proof (circuit_of s) (done [])) where
  -- they refuse
  pub lent-refused : (k : Refusal) → r ≡ Err k → refuses (number_of k) [] ≡ check_legal s y message proof (circuit_of s)
  lent-refused k q =
      tests-refuse s y message proof (circuit_of s) (number_of k) _ (sym (ap entered q) ∙ e) ∙ sym (check-tests s y message proof (circuit_of s))

  -- they pass
  module _ (z : Sizes) (table marks : Shape → List ℕ) (t : Took r s z y message proof table marks) (f : Shape) (q : r ≡ Ok f) where
    pub lent-taken : (f.sizes ≡ z) × Ready s f y message proof (table f) (marks f)
    lent-taken = subst (λ (x : Result Shape Refusal). Took x s z y message proof table marks) q t

    pub lent-room : (k : ℕ) → 64 * wire_count z + 4096 ≤ k → 64 * wire_count f.sizes + 4096 ≤ k
    lent-room k l = rw lent-taken.0 l

    -- what the instances then say, in the header's numbers
    pub lent-judged : (o : Outcome) → o ≡ judged (circuit_of s) y proof f.counts.instances f.counts.parties (asks_in f.counts.parties (table f))
        → o ≡ check_legal s y message proof (circuit_of s)
    lent-judged o d =
        let h = lent-taken.1.headed in
        d
        ∙ (ap (judged (circuit_of s) y proof f.counts.instances f.counts.parties) lent-taken.1.asks
        ∙ (ap (λ (m : ℕ). judged (circuit_of s) y proof m f.counts.parties (challenged m f.counts.chosen f.counts.parties (header_hstar proof) (statement_of (header_salt proof) m f.counts.chosen f.counts.parties s y message))) h.is_M
        ∙ (ap₂ (λ (u p : ℕ). judged (circuit_of s) y proof (header_m proof) p (challenged (header_m proof) u p (header_hstar proof) (statement_of (header_salt proof) (header_m proof) u p s y message))) h.is_tau h.is_n
        ∙ (tests-accept s y message proof (circuit_of s) _ (sym (ap entered q) ∙ e) ∙ sym (check-tests s y message proof (circuit_of s))))))
