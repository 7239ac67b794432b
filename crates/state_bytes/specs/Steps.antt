-- What only the contracts of steps use: no definition of the paper stands here.
-- Assumes nothing.
use Rattle.std.specs.Prelude.{Bool, not, List, ℕ, ◌+◌, ◌*◌, eqb, get_or}
use Rattle.shared.specs.declared.Job.{Job}
use Rattle.state_bytes.specs.Bytes.{slot_length, job_in}

-- whether caller c waits
abbrev pub flag_in : List ℕ → ℕ → Bool
flag_in s c = not (eqb (get_or s (1 + slot_length * c) 0) 0)

-- the proof in the slot of caller c
abbrev pub job_of : List ℕ → ℕ → Job
job_of s c = job_in s (2 + slot_length * c)
