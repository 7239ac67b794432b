-- The operation check (document 01, "Check"; source document 001, Figure 2, "Verification").
-- Assumes nothing.
use Rattle.std.specs.Prelude.{Bool, true, ◌&&◌, List, [], ℕ, zero, suc, eqb, leb, length}
use Rattle.bits.specs.Bits.{unused_zero}
use Rattle.bits.specs.Bytes.{same_bytes}
use Rattle.refusal.specs.Outcome.{Outcome, done, unless}
use Rattle.circuit.specs.Circuit.{Circuit}
use Rattle.circuit.specs.File.{read_circuit}
use Rattle.circuit.specs.Operations.{on_legal_work, holds}
use Rattle.seeds.specs.Operations.{max_message}
use Rattle.instance.specs.Instance.{Asked}
use Rattle.instance.specs.Opened.{stretch_commitments, stretch_online, stretch_unused, stretch_output}
use Rattle.proof.specs.Protocol.{hstar_of, statement_of, challenged}
use Rattle.proof.specs.File.{header_m, header_tau, header_n, header_hstar, header_salt, context_at, good_header, proof_bytes, master_at, stretch_at}

-- a test of the first m instances
unfoldable pub every : ℕ → (ℕ → Bool) → Bool
every zero test = true
every (suc m) test = every m test && test m

-- the tests of a proof whose header is good: "12 a length other than h* implies; 7 unused bits in the proof; 10 a replay with another
-- output; 13 the recomputed h* differs"
unfoldable pub check_proof : Circuit → List ℕ → List ℕ → ℕ → ℕ → (ℕ → Asked) → Outcome
check_proof c y proof M n ask =
    unless (eqb (length proof) (proof_bytes c M n ask)) 12 []
    (unless (every M (λ j. stretch_unused c n (stretch_at c M n ask proof j) (ask j))) 7 []
    (unless (every M (λ j. stretch_output c n (context_at proof j) y (stretch_at c M n ask proof j) (ask j))) 10 []
    (unless
    (same_bytes
    (hstar_of M (λ j. stretch_commitments c n (context_at proof j) (master_at M ask proof j) (stretch_at c M n ask proof j) (ask j)) (λ j. stretch_online c n (context_at proof j) (stretch_at c M n ask proof j) (ask j)))
    (header_hstar proof))
    13 []
    (done []))))

-- "The check draws the challenge from the header's h*", bound to the header's salt, M, τ and n, the circuit file s, y and the message
unfoldable pub check_legal : List ℕ → List ℕ → List ℕ → List ℕ → Circuit → Outcome
check_legal s y message proof c =
    unless (holds (length c.outputs) y && leb (length message) max_message) 6 []
    (unless (unused_zero (length c.outputs) y) 7 []
    (unless (good_header proof) 11 []
    (check_proof c y proof (header_m proof) (header_n proof)
    (challenged (header_m proof) (header_tau proof) (header_n proof) (header_hstar proof)
    (statement_of (header_salt proof) (header_m proof) (header_tau proof) (header_n proof) s y message)))))

-- "Check: 1 to 5" (by document 02, order 2: 1, 2, 3, 19, 20, 21 and 5), then the work buffer (order 7), then these; it is lent no other
-- buffer to fill
unfoldable pub check_op : List ℕ → List ℕ → List ℕ → List ℕ → List ℕ → Outcome
check_op s y message proof work = on_legal_work (read_circuit s) [] work (check_legal s y message proof)
