-- The numbers of the shared checker: each test gives that of a refusal, and a proof that is finished one of these or 0.
-- Assumes nothing.
use mathlib.Core.Path.{◌≡◌, refl, sym, subst, ◌∙◌}
use mathlib.Core.Bool.{Bool, true, false, cond, not, ◌&&◌, ◌||◌}
use mathlib.Core.List.{List, [], ◌∷◌}
use mathlib.Core.Option.{Option, none, some}
use mathlib.Core.Logic.{◌≢◌, ◌⊎◌, inl, inr}
use Prim.Native.Nat.{ℕ, zero, suc, ◌*◌}
use native.Mathlib.Omega.{arith}
use lib.Dec.{eqb, ltb, leb}
use lib.ListN.{length}
use Rattle.bits.specs.Bits.{unused_zero}
use Rattle.bits.specs.Bytes.{same_bytes}
use Rattle.refusal.specs.declared.Refusal.{Refusal}
use Rattle.refusal.specs.declared.Refusal.TheVariants.{Length, Limits, Record, Wire, BufferLength, UnusedBits, Parameter, Output, Header, ProofLength, Digest, BeyondGates, EndsEarly, GoesOn, CallerNumber, AlreadyWaiting, NoneWaiting}
use Rattle.refusal.specs.Refusal.{number_of}
use Rattle.refusal.specs.Outcome as outcomes
use Rattle.refusal.specs.Outcome.{unless, done}
use Rattle.refusal.proofs.Laws.{number_of-range, no_four}
use Rattle.circuit.specs.Circuit.{Circuit}
use Rattle.circuit.specs.Chain.{Walk, ends, fault, walk_from}
use Rattle.circuit.specs.Fields as fields
use Rattle.circuit.specs.File.{Reading, refused, legal, width, max_gates, fields_of, read_circuit, circuit_of}
use Rattle.circuit.specs.Operations.{holds}
use Rattle.proof.specs.File.{header_m, header_n, header_hstar, good_header, proof_bytes}
use Rattle.proof.specs.Check.{check_legal}
use Rattle.proof_tests.specs.Steps.{all_unused, all_outputs, recomputed, tested, judged, legal_tests}
use Rattle.proof_tests.proofs.Outcomes.{check-tests}
use Rattle.instance.specs.Opened.{stretch_commitments, stretch_online, stretch_output}
use Rattle.proof.specs.File.{context_at, master_at, stretch_at}
use Rattle.stepping.specs.declared.Running.{Running}
use Rattle.stepping.specs.RunningDigests.{more, hstar_in}
use Rattle.schedule.specs.Schedule.{Slot, idle, waiting, State, waits, next, Outcome, goes_on, finished, Work, Service, verdict_of, verdict_on, service_of, after_service, unless_none, serve}
use Rattle.schedule.specs.Alone.{or_else, verdict_in}
use Rattle.schedule.specs.Callers.{callers}
use Rattle.shared.specs.declared.Places.{Places}
use Rattle.shared.specs.declared.Job.{Job}
use Rattle.shared.specs.Service.{all_inside, at, number, but_late, on_entry, entry_of, entry_at, settled_both, asks, after_instance, next_instance, instance_of, unless_refused, service_at}
use Rattle.shared.specs.Operations.{long_work, enter_refusal, call_refusal, called}
use Rattle.shared.specs.Numbers.{IsRefusal, SharedNumbers}

is : (r : Refusal) → IsRefusal (number_of r)
is r = record { which = r; same = refl }

-- what a verdict can be
abbrev IsVerdict : ℕ → Type 0
IsVerdict v = (v ≡ 0) ⊎ IsRefusal v

-- of a number, where there is one
abbrev If : (ℕ → Type 0) → Option ℕ → Type 0
If P none = Unit {0}
If P (some k) = P k

if_some : (P : ℕ → Type 0) (o : Option ℕ) (k : ℕ) → If P o → o ≡ some k → P k
if_some P o k h e = subst (If P) e h

-- the walk along a chain

abbrev OfWalk : Walk → Type 0
OfWalk ends = Unit {0}
OfWalk (fault k x) = IsRefusal k

walk-last : (a b : Bool) (x : ℕ) → OfWalk (cond a (fault 19 x) (cond b ends (fault 21 x)))
walk-last true b x = is BeyondGates
walk-last false true x = tt
walk-last false false x = is GoesOn

walk-on : (a b : Bool) (x : ℕ) (w : Walk) → OfWalk w → OfWalk (cond a (fault 19 x) (cond b (fault 20 x) w))
walk-on true b x w h = is BeyondGates
walk-on false true x w h = is EndsEarly
walk-on false false x w h = h

walk-number : (G : ℕ) (link : ℕ → ℕ) (n x : ℕ) → OfWalk (walk_from G link n x)
unfolding walk_from
walk-number G link zero x = walk-last (ltb G (link x)) (eqb (link x) 0) x
walk-number G link (suc n) x = walk-on (ltb G (link x)) (eqb (link x) 0) x (walk_from G link n (link x)) (walk-number G link n (link x))

-- reading a circuit

abbrev OfReading : Reading → Type 0
OfReading (refused k x) = IsRefusal k
OfReading (legal c) = Unit {0}

fields-tested : (a b : Bool) (w : Walk) (c : Circuit) → OfWalk w → OfReading (cond a (refused 3 0) (fields.on_walk w (cond b (refused 5 0) (legal c))))
unfolding fields.on_walk
fields-tested true b w c h = is Record
fields-tested false b (fault k x) c h = h
fields-tested false true ends c h = is Wire
fields-tested false false ends c h = tt

fields-number : (x : fields.Fields) → OfReading (fields.read_fields x)
unfolding fields.read_fields fields.chain_walk
fields-number x =
    fields-tested (not (fields.good_records x (fields.gates_of x))) (not (fields.good_wires x)) (fields.chain_walk x) (fields.circuit_of x)
    (walk-number (fields.gates_of x) (fields.link_of x) (fields.gates_of x) 0)

sizes-tested : (a b c : Bool) (r : Reading) → OfReading r → OfReading (cond a (refused 1 0) (cond b (refused 2 0) (cond c (refused 1 0) r)))
sizes-tested true b c r h = is Length
sizes-tested false true c r h = is Limits
sizes-tested false false true r h = is Length
sizes-tested false false false r h = h

read_number : (s : List ℕ) → OfReading (read_circuit s)
unfolding fields.read_with
read_number s =
    sizes-tested (ltb (length s) (width * 4)) (not (fields.within_limits max_gates (fields_of s))) (not (fields.right_length width s)) (fields.read_fields (fields_of s))
    (fields-number (fields_of s))

-- check

abbrev OfOutcome : outcomes.Outcome → Type 0
OfOutcome o = IsVerdict (number o.answer)

tests-number : (a b c d e f g : Bool)
    → OfOutcome (unless a 6 [] (unless b 7 [] (unless c 11 [] (unless d 12 [] (unless e 7 [] (unless f 10 [] (unless g 13 [] (done []))))))))
tests-number false b c d e f g = inr (is BufferLength)
tests-number true false c d e f g = inr (is UnusedBits)
tests-number true true false d e f g = inr (is Header)
tests-number true true true false e f g = inr (is ProofLength)
tests-number true true true true false f g = inr (is UnusedBits)
tests-number true true true true true false g = inr (is Output)
tests-number true true true true true true false = inr (is Digest)
tests-number true true true true true true true = inl refl

check-number : (s y message proof : List ℕ) (c : Circuit) → OfOutcome (check_legal s y message proof c)
unfolding legal_tests tested judged
check-number s y message proof c =
    let M : ℕ = header_m proof in
    let n : ℕ = header_n proof in
    subst OfOutcome (sym (check-tests s y message proof c))
    (tests-number (holds (length c.outputs) y && leb (length message) 4096) (unused_zero (length c.outputs) y) (good_header proof)
    (eqb (length proof) (proof_bytes c M n (asks s y message proof))) (all_unused c M n (asks s y message proof) proof)
    (all_outputs c M n (asks s y message proof) y proof) (same_bytes (recomputed c M n (asks s y message proof) proof) (header_hstar proof)))

-- an entry

late-tested : (b : Bool) (k : ℕ) → IsRefusal k → If IsRefusal (cond b none (some k))
late-tested true k h = tt
late-tested false k h = h

late-none : If IsRefusal (but_late 0)
unfolding but_late
late-none = tt

late-number : (k : ℕ) → IsVerdict k → If IsRefusal (but_late k)
unfolding but_late
late-number k (inl e) = subst (λ (j : ℕ). If IsRefusal (but_late j)) (sym e) late-none
late-number k (inr h) = late-tested (eqb k 0 || (eqb k 10 || eqb k 13)) k h

on-entry-number : (r : Reading) (f : Circuit → outcomes.Outcome) → OfReading r → ((c : Circuit) → OfOutcome (f c)) → If IsRefusal (on_entry r f)
on-entry-number (refused k x) f h g = h
on-entry-number (legal c) f h g = late-number (number (f c).answer) (g c)

entry-of-number : (s y message proof : List ℕ) → If IsRefusal (entry_of s y message proof)
unfolding entry_of
entry-of-number s y message proof =
    on-entry-number (read_circuit s) (check_legal s y message proof) (read_number s) (check-number s y message proof)

or-six : (b : Bool) (o : Option ℕ) → If IsRefusal o → If IsRefusal (cond b o (some 6))
or-six true o h = h
or-six false o h = is BufferLength

entry-number : (buffer : List ℕ) (p : Places) → If IsRefusal (entry_at buffer p)
unfolding entry_at
entry-number buffer p =
    or-six (all_inside buffer p) (entry_of (at buffer p.circuit) (at buffer p.y) (at buffer p.message) (at buffer p.proof))
    (entry-of-number (at buffer p.circuit) (at buffer p.y) (at buffer p.message) (at buffer p.proof))

callers-tested : (a b : Bool) (o : Option ℕ) → If IsRefusal o → If IsRefusal (cond a (cond b (some 27) o) (some 26))
callers-tested true true o h = is AlreadyWaiting
callers-tested true false o h = h
callers-tested false b o h = is CallerNumber

enter-number : (c : ℕ) (p : Places) (buffer work : List ℕ) (s : State Job) → If IsRefusal (enter_refusal c p buffer work s)
unfolding enter_refusal
enter-number c p buffer work s =
    callers-tested (ltb c callers) (waits s c) (cond (all_inside buffer p) (cond (long_work work) (entry_at buffer p) (some 6)) (some 6))
    (or-six (all_inside buffer p) (cond (long_work work) (entry_at buffer p) (some 6)) (or-six (long_work work) (entry_at buffer p) (entry-number buffer p)))

-- a call

quota-tested : (a b : Bool) (o : Option ℕ) → If IsRefusal (cond a (unless_none o (some 28) (λ c. cond b none (some 6))) (some 8))
quota-tested false b o = is Parameter
quota-tested true b none = is NoneWaiting
quota-tested true true (some c) = tt
quota-tested true false (some c) = is BufferLength

call-number : (quota : ℕ) (work : List ℕ) (s : State Job) → If IsRefusal (call_refusal quota work s)
unfolding call_refusal
call-number quota work s = quota-tested (leb 1 quota && leb quota 512) (long_work work) (next callers s.last (waits s))

-- a service

abbrev OfService : Outcome Job ℕ → Type 0
OfService (goes_on j) = Unit {0}
OfService (finished v) = IsVerdict v

instance-tested : (a b c d : Bool) (job : Job) → OfService (cond a (cond b (cond c (goes_on job) (finished (cond d 0 13))) (finished 10)) (finished 13))
instance-tested false b c d job = inr (is Digest)
instance-tested true false c d job = inr (is Output)
instance-tested true true true d job = tt
instance-tested true true false true job = inl refl
instance-tested true true false false job = inr (is Digest)

instance-number : (s y message proof : List ℕ) (job : Job) → OfService (instance_of s y message proof job)
unfolding instance_of next_instance after_instance
instance-number s y message proof job =
    let j : ℕ = job.next in
    let c : Circuit = circuit_of s in
    let M : ℕ = header_m proof in
    let n : ℕ = header_n proof in
    let part : List ℕ = stretch_at c M n (asks s y message proof) proof j in
    let d : Running =
    more (settled_both job.digests) (stretch_commitments c n (context_at proof j) (master_at M (asks s y message proof) proof j) part (asks s y message proof j)) (stretch_online c n (context_at proof j) part (asks s y message proof j)) in
    instance-tested (ltb j M) (stretch_output c n (context_at proof j) y part (asks s y message proof j)) (ltb (suc j) M) (same_bytes (hstar_in d) (header_hstar proof))
    (record { places = job.places; next = suc job.next; digests = d })

or-refused : (o : Option ℕ) (x : Outcome Job ℕ) → If IsRefusal o → OfService x → OfService (unless_refused o finished x)
or-refused none x h g = g
or-refused (some k) x h g = inr h

service-number : (buffer : List ℕ) (job : Job) → OfService (service_at buffer job)
unfolding service_at
service-number buffer job =
    let p : Places = job.places in
    or-refused (entry_at buffer p) (instance_of (at buffer p.circuit) (at buffer p.y) (at buffer p.message) (at buffer p.proof) job)
    (entry-number buffer p) (instance-number (at buffer p.circuit) (at buffer p.y) (at buffer p.message) (at buffer p.proof) job)

-- the services of a call

outcome-number : (o : Outcome Job ℕ) → OfService o → If IsVerdict (verdict_of o)
outcome-number (goes_on j) h = tt
outcome-number (finished v) h = h

slot-number : (buffer : List ℕ) (x : Slot Job) → If IsVerdict (verdict_on (service_at buffer) x)
slot-number buffer idle = tt
slot-number buffer (waiting j) = outcome-number (service_at buffer j) (service-number buffer j)

first-number : (b : Bool) (x y : Option ℕ) → If IsVerdict x → If IsVerdict y → If IsVerdict (cond b (or_else x y) y)
first-number false x y h g = g
first-number true none y h g = g
first-number true (some v) y h g = h

-- every caller is served by the bytes of the call
abbrev by : List ℕ → Work Job ℕ
by buffer = λ c. service_at buffer

turn-number : (buffer : List ℕ) (c quota : ℕ) (s : State Job) (o : Option ℕ)
    → ((d : ℕ) → If IsVerdict (verdict_in c (serve callers (by buffer) quota (after_service (by buffer) d s)).0))
    → If IsVerdict (verdict_in c (unless_none {A = List (Service ℕ) × State Job} o ([], s) (λ d. (service_of (by buffer) d s ∷ (serve callers (by buffer) quota (after_service (by buffer) d s)).0, (serve callers (by buffer) quota (after_service (by buffer) d s)).1))).0)
unfolding verdict_in
turn-number buffer c quota s none h = tt
turn-number buffer c quota s (some d) h =
    first-number (eqb d c) (verdict_on (service_at buffer) (s.slot d)) (verdict_in c (serve callers (by buffer) quota (after_service (by buffer) d s)).0)
    (slot-number buffer (s.slot d)) (h d)

none-served : (c : ℕ) → If IsVerdict (verdict_in {Verdict = ℕ} c [])
unfolding verdict_in
none-served c = tt

serve-number : (buffer : List ℕ) (c quota : ℕ) (s : State Job) → If IsVerdict (verdict_in c (serve callers (by buffer) quota s).0)
unfolding serve
serve-number buffer c zero s = none-served c
serve-number buffer c (suc quota) s =
    turn-number buffer c quota s (next callers s.last (waits s)) (λ d. serve-number buffer c quota (after_service (by buffer) d s))

or-served : (c : ℕ) (s : State Job) (o : Option ℕ) (x : List (Service ℕ) × State Job) → If IsVerdict (verdict_in c x.0)
    → If IsVerdict (verdict_in c (unless_refused {A = List (Service ℕ) × State Job} o (λ k. ([], s)) x).0)
or-served c s none x h = h
or-served c s (some k) x h = none-served c

called-number : (quota : ℕ) (buffer work : List ℕ) (s : State Job) (c : ℕ) → If IsVerdict (verdict_in c (called quota buffer work s).0)
unfolding called
called-number quota buffer work s c =
    or-served c s (call_refusal quota work s) (serve callers (by buffer) quota s) (serve-number buffer c quota s)

-- none is 0, 4 or 255

not_0 : (k : ℕ) → IsRefusal k → k ≢ 0
not_0 k r e = omega (arith, (number_of-range r.which).0, r.same, e)

not-4 : (k : ℕ) → IsRefusal k → k ≢ 4
not-4 k r e = no_four r.which (r.same ∙ e)

not_255 : IsVerdict 255 → ⊥
not_255 (inl e) = omega (arith, e)
not_255 (inr r) = omega (arith, (number_of-range r.which).1, r.same)

pub shared-numbers : SharedNumbers
shared-numbers = record {
  entry = λ c p buffer work s k. if_some IsRefusal (enter_refusal c p buffer work s) k (enter-number c p buffer work s);
  call = λ quota work s k. if_some IsRefusal (call_refusal quota work s) k (call-number quota work s);
  verdict = λ quota buffer work s c v. if_some IsVerdict (verdict_in c (called quota buffer work s).0) v (called-number quota buffer work s c);
  not_0 = not_0;
  no_four = not-4;
  no_255 = λ quota buffer work s c e. not_255 (if_some IsVerdict (verdict_in c (called quota buffer work s).0) 255 (called-number quota buffer work s c) e);
}
