-- `state_bytes::decoding::read_jobs` meets its contract.
-- Assumes nothing.
use Rattle.state_bytes.proofs.Filled.{Filled}
use Rattle.state_bytes.specs.Steps.{job_of}
use Rattle.state_bytes.proofs.decoding.read_jobs.Given as goal

abbrev pub invariant-loop-i : goal.invariant-loop-i
invariant-loop-i l = Filled 16 (job_of l.s) l.i l.jobs
