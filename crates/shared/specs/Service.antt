-- One service of the shared checker: an instance of a waiting proof (document 02, order 9).
-- Assumes nothing.
use Rattle.std.specs.Prelude.{Bool, cond, ◌&&◌, ◌||◌, List, [], ℕ, suc, ◌+◌, ◌%◌, eqb, leb, ltb, length, take, drop}
use Rattle.std.proofs.Math.Option.{Option, none, some}
use Rattle.refusal.specs.Outcome as outcomes
use Rattle.refusal.specs.Outcome.{refusal_at, success}
use Rattle.bits.specs.Bytes.{same_bytes}
use Rattle.keccak.specs.declared.sponge.Sponge.{Sponge}
use Rattle.circuit.specs.Circuit.{Circuit}
use Rattle.circuit.specs.File.{Reading, refused, legal, read_circuit, circuit_of}
use Rattle.instance.specs.Instance.{Asked}
use Rattle.instance.specs.Opened.{stretch_commitments, stretch_online, stretch_output}
use Rattle.proof.specs.Protocol.{statement_of, challenged}
use Rattle.proof.specs.File.{header_m, header_tau, header_n, header_hstar, header_salt, context_at, master_at, stretch_at}
use Rattle.proof.specs.Check.{check_legal}
use Rattle.stepping.specs.declared.Running.{Running}
use Rattle.stepping.specs.RunningDigests.{started, more, hstar_in}
use Rattle.schedule.specs.Schedule.{Outcome, goes_on, finished}
use Rattle.shared.specs.declared.Place.{Place}
use Rattle.shared.specs.declared.Places.{Places}
use Rattle.shared.specs.declared.Job.{Job}

-- "Entry names where the inputs lie in one lent buffer": whether a place lies wholly inside it
unfoldable pub inside : List ℕ → Place → Bool
inside buffer p = leb (p.start + p.len) (length buffer)

unfoldable pub all_inside : List ℕ → Places → Bool
all_inside buffer p = inside buffer p.circuit && (inside buffer p.y && (inside buffer p.message && inside buffer p.proof))

-- the bytes that lie there
abbrev pub at : List ℕ → Place → List ℕ
at buffer p = take p.len (drop p.start buffer)

-- the number of an answer, 0 for accepted
abbrev pub number : outcomes.Answer → ℕ
number (success values) = 0
number (refusal_at k slot) = k

-- a number "but 10 or 13": none for these two, and for accepted
unfoldable pub but_late : ℕ → Option ℕ
but_late k = cond (eqb k 0 || (eqb k 10 || eqb k 13)) none (some k)

-- "A proof that the checker refuses with any number but 10 or 13 is refused on entry"
abbrev pub on_entry : Reading → (Circuit → outcomes.Outcome) → Option ℕ
on_entry (refused k slot) check = some k
on_entry (legal c) check = but_late (number (check c).answer)

-- with which number these bytes are refused on entry, if they are
unfoldable pub entry_of : List ℕ → List ℕ → List ℕ → List ℕ → Option ℕ
entry_of s y message proof = on_entry (read_circuit s) (check_legal s y message proof)

-- "a place outside it gives 6"; else the bytes at these places
unfoldable pub entry_at : List ℕ → Places → Option ℕ
entry_at buffer p =
    cond (all_inside buffer p) (entry_of (at buffer p.circuit) (at buffer p.y) (at buffer p.message) (at buffer p.proof)) (some 6)

-- a sponge's fill is below its rate, 136
abbrev pub settled : Sponge → Sponge
settled s = record { lanes = s.lanes; fill = s.fill % 136 }

abbrev pub settled_both : Running → Running
settled_both d = record { commitments = settled d.commitments; online = settled d.online }

-- what the challenge asks
abbrev pub asks : List ℕ → List ℕ → List ℕ → List ℕ → ℕ → Asked
asks s y message proof =
    challenged (header_m proof) (header_tau proof) (header_n proof) (header_hstar proof)
    (statement_of (header_salt proof) (header_m proof) (header_tau proof) (header_n proof) s y message)

-- the proof with one instance more taken in: it goes on, or "is finished by its last instance", and h* decides
unfoldable pub after_instance : List ℕ → Job → Running → Outcome Job ℕ
after_instance proof job d =
    cond (ltb (suc job.next) (header_m proof)) (goes_on (record { places = job.places; next = suc job.next; digests = d }))
    (finished (cond (same_bytes (hstar_in d) (header_hstar proof)) 0 13))

-- the next instance of a proof of M instances with n parties: "its first 10" finishes it; so does, with 13, a header with fewer instances
unfoldable pub next_instance : Circuit → ℕ → ℕ → (ℕ → Asked) → List ℕ → List ℕ → Job → Outcome Job ℕ
next_instance c M n ask y proof job =
    let j : ℕ = job.next in
    let part : List ℕ = stretch_at c M n ask proof j in
    cond (ltb j M)
    (cond (stretch_output c n (context_at proof j) y part (ask j))
    (after_instance proof job (more (settled_both job.digests) (stretch_commitments c n (context_at proof j) (master_at M ask proof j) part (ask j)) (stretch_online c n (context_at proof j) part (ask j))))
    (finished 10))
    (finished 13)

-- of a proof that is not refused on entry
unfoldable pub instance_of : List ℕ → List ℕ → List ℕ → List ℕ → Job → Outcome Job ℕ
instance_of s y message proof job = next_instance (circuit_of s) (header_m proof) (header_n proof) (asks s y message proof) y proof job

abbrev pub unless_refused : {A : Type 0} → Option ℕ → (ℕ → A) → A → A
unless_refused none f a = a
unless_refused (some k) f a = f k

-- a service: "bytes that entry would now refuse" finish the proof, with that number; else its next instance is checked
unfoldable pub service_at : List ℕ → Job → Outcome Job ℕ
service_at buffer job =
    let p : Places = job.places in
    unless_refused (entry_at buffer p) finished (instance_of (at buffer p.circuit) (at buffer p.y) (at buffer p.message) (at buffer p.proof) job)

-- a proof that enters: no instance is taken in
unfoldable pub job_at : Places → Job
job_at p = record { places = p; next = 0; digests = started }
