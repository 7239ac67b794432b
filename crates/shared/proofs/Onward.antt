-- What a service leaves of a proof: one that goes on has its places, and one that is finished has a number that is none of the verdicts' 255.
-- Assumes nothing.
use mathlib.Core.Path.{◌≡◌, refl, sym, ap, ◌∙◌, subst}
use mathlib.Core.Bool.{Bool, true, false, cond, true≢false}
use mathlib.Core.List.{List}
use mathlib.Core.Option.{Option, none, some}
use Prim.Native.Nat.{ℕ, suc, ◌<◌}
use native.Mathlib.Omega.{arith}
use lib.Dec.{ltb}
use Rattle.bits.specs.Bytes.{same_bytes}
use Rattle.circuit.specs.Circuit.{Circuit}
use Rattle.circuit.specs.File.{circuit_of}
use Rattle.instance.specs.Instance.{Asked}
use Rattle.instance.specs.Opened.{stretch_commitments, stretch_online, stretch_output}
use Rattle.proof.specs.File.{header_m, header_n, header_hstar, context_at, master_at, stretch_at}
use Rattle.stepping.specs.declared.Running.{Running}
use Rattle.stepping.specs.RunningDigests.{more, hstar_in}
use Rattle.schedule.specs.Schedule.{Outcome, goes_on, finished}
use Rattle.shared.specs.declared.Places.{Places}
use Rattle.shared.specs.declared.Job.{Job}
use Rattle.shared.specs.Service.{entry_at, settled_both, asks, unless_refused, after_instance, next_instance, instance_of, service_at}

unfoldable pub Kept : Places → Outcome Job ℕ → Type 0
Kept p (goes_on j) = j.places ≡ p
Kept p (finished v) = v < 255

kept-after : (proof : List ℕ) (j : Job) (d : Running) → Kept j.places (after_instance proof j d)
unfolding Kept after_instance
kept-after proof j d = by-case (ltb (suc j.next) (header_m proof)) (same_bytes (hstar_in d) (header_hstar proof))
  where
    by-case : (a b : Bool) → Kept j.places (cond a (goes_on (record { places = j.places; next = suc j.next; digests = d })) (finished (cond b 0 13)))
    by-case true b = refl
    by-case false true = omega arith
    by-case false false = omega arith

kept-two : (p : Places) (a b : Bool) (x : Outcome Job ℕ) → Kept p x → Kept p (cond a (cond b x (finished 10)) (finished 13))
unfolding Kept
kept-two p true true x h = h
kept-two p true false x h = omega arith
kept-two p false b x h = omega arith

pub kept-instance : (s y message proof : List ℕ) (j : Job) → Kept j.places (instance_of s y message proof j)
unfolding instance_of next_instance
kept-instance s y message proof j =
    let c : Circuit = circuit_of s in
    let M : ℕ = header_m proof in
    let n : ℕ = header_n proof in
    let ask : ℕ → Asked = asks s y message proof in
    let i : ℕ = j.next in
    let part : List ℕ = stretch_at c M n ask proof i in
    let d : Running = more (settled_both j.digests) (stretch_commitments c n (context_at proof i) (master_at M ask proof i) part (ask i)) (stretch_online c n (context_at proof i) part (ask i)) in
    kept-two j.places (ltb i M) (stretch_output c n (context_at proof i) y part (ask i)) (after_instance proof j d) (kept-after proof j d)

kept-refused : (p : Places) (o : Option ℕ) (x : Outcome Job ℕ) → ((k : ℕ) → o ≡ some k → k < 255) → Kept p x → Kept p (unless_refused o finished x)
unfolding Kept
kept-refused p none x h a = a
kept-refused p (some k) x h a = h k refl

-- a service, where the bytes are refused with no 255
pub kept-service : (buffer : List ℕ) (j : Job) → ((k : ℕ) → entry_at buffer j.places ≡ some k → k < 255) → Kept j.places (service_at buffer j)
unfolding service_at
kept-service buffer j h = kept-refused j.places (entry_at buffer j.places) _ h (kept-instance _ _ _ _ j)

-- whether a proof goes on
abbrev on : Outcome Job ℕ → Bool
on (goes_on j) = true
on (finished v) = false

kept_on : (p : Places) (o : Option ℕ) (x : Outcome Job ℕ) (k : Job) → Kept p x → unless_refused o finished x ≡ goes_on k → k.places ≡ p
unfolding Kept
kept_on p none x k h e = subst (Kept p) e h
kept_on p (some m) x k h e = absurd (true≢false (sym (ap on e)))

pub service-keeps : (buffer : List ℕ) (p : Places) (j k : Job) → j.places ≡ p → service_at buffer j ≡ goes_on k → k.places ≡ p
unfolding service_at
service-keeps buffer p j k e q = kept_on j.places (entry_at buffer j.places) _ k (kept-instance _ _ _ _ j) q ∙ e
