-- What the operations leave fits the fields of its bytes.
-- Assumes nothing.
use mathlib.Core.Path.{◌≡◌, refl, sym}
use mathlib.Core.Bool.{Bool, true, false, cond, true≢false}
use mathlib.Core.List.{List, [], ◌∷◌}
use mathlib.Core.Logic.{⊎_elim}
use mathlib.Core.Option.{Option, none, some}
use Prim.Native.Nat.{ℕ, zero, suc, ◌+◌, ◌*◌, ◌≤◌, ◌<◌}
use native.Mathlib.Omega.{arith}
use borrow.Author.Tests.{ltb-true}
use lib.Dec.{eqb, ltb}
use lib.ListN.{get_or, drop}
use Rattle.bits.specs.Bytes.{le_at, same_bytes}
use Rattle.bits.proofs.Numbers.{lt-or-le}
use Rattle.bits.proofs.Little.{le_at-lt}
use Rattle.bits.proofs.Tabulate.{length-tabulate, get_d_tabulate, get_or-tabulate-end}
use Rattle.keccak.specs.declared.sponge.Sponge.{Sponge}
use Rattle.keccak.specs.Steps.{empty as emptySponge, absorb_byte, absorbs, xor_byte}
use Rattle.keccak.proofs.Bytes.{Bytes, bytes-tail, bytes_take, bytes_drop, bytes-zeros}
use Rattle.keccak.proofs.Steps.{turned-cases}
use Rattle.keccak.proofs.Absorbing as absorbing
use Rattle.hashing.specs.Inputs.{all_commitments_input, all_online_input}
use Rattle.hashing.specs.Digest.{taken}
use Rattle.hashing.proofs.Hashes.{bytes_one}
use Rattle.circuit.specs.Circuit.{Circuit}
use Rattle.circuit.specs.File.{circuit_of}
use Rattle.instance.specs.Instance.{Asked}
use Rattle.instance.specs.Opened.{stretch_commitments, stretch_online, stretch_output}
use Rattle.proof.specs.File.{header_m, header_n, header_hstar, context_at, master_at, stretch_at}
use Rattle.stepping.specs.declared.Running.{Running}
use Rattle.stepping.specs.RunningDigests.{started, more, hstar_in}
use Rattle.proof_tests.proofs.Hashed.{commitments-bytes, online-bytes, stretch-bytes}
use Rattle.schedule.specs.Schedule.{Slot, idle, waiting, is_waiting, State, Service, empty, put, Outcome, goes_on, finished, leaves, work_on, after_service, service_of, next, waits, unless_none, serve}
use Rattle.schedule.specs.History.{is_free, after_entry}
use Rattle.schedule.proofs.Chain.{Tidy, entry_case, empty-tidy, serve-follows}
use Rattle.schedule.proofs.Flags.{begin-le}
use Rattle.shared.specs.declared.Places.{Places}
use Rattle.shared.specs.declared.Job.{Job}
use Rattle.shared.specs.Service.{at, entry_at, settled, settled_both, asks, unless_refused, after_instance, next_instance, instance_of, service_at, job_at}
use Rattle.shared.specs.Operations.{enter_refusal, entered, call_refusal, called}
use Rattle.state_bytes.specs.Bytes.{place_at, places_at, sponge_at, job_in, slot_in, decode_state}
use Rattle.shared_bytes.specs.Theorem.{PlaceFits, PlacesFit, SpongeFits, JobFits, SlotFits, StateFits}

-- ---- what bytes say fits

module _ (s : List ℕ) (bytes : Bytes s) where
  place-fits : (k : ℕ) → PlaceFits (place_at s k)
  unfolding place_at
  place-fits k = record { start = le_at-lt 8 s k bytes; len = le_at-lt 8 s (k + 8) bytes }

  places-fit : (k : ℕ) → PlacesFit (places_at s k)
  unfolding places_at
  places-fit k = record { circuit = place-fits k; y = place-fits (k + 16); message = place-fits (k + 32); proof = place-fits (k + 48) }

  sponge-fits : (k : ℕ) → SpongeFits (sponge_at s k)
  unfolding sponge_at
  sponge-fits k =
      let f : ℕ → ℕ = λ i. le_at 8 s (k + 8 * i) in
      record {
        long = length-tabulate 25 f;
        small = λ i.
            ⊎_elim
            (λ (l : i < 25). rw (get_d_tabulate 25 f i 0 l) (le_at-lt 8 s (k + 8 * i) bytes))
            (λ (l : 25 ≤ i). rw (get_or-tabulate-end 25 f i 0 l) (omega arith))
            (lt-or-le i 25);
        fill = omega arith;
      }

  job-fits : (k : ℕ) → JobFits (job_in s k)
  unfolding job_in
  job-fits k =
      record { places = places-fit k; next = le_at-lt 4 s (k + 64) bytes; commitments = sponge-fits (k + 68); online = sponge-fits (k + 269) }

  slot-fits : (k : ℕ) → SlotFits (slot_in s k)
  unfolding slot_in
  slot-fits k = by-case (eqb (get_or s k 0) 0)
    where
      by-case : (b : Bool) → SlotFits (cond b idle (waiting (job_in s (k + 1))))
      by-case true = tt
      by-case false = job-fits (k + 1)

  pub decoded-fits : StateFits (decode_state s)
  unfolding decode_state
  decoded-fits =
      record {
        last = begin-le (get_or s 0 0);
        among = λ c t. ltb-true c 16 (among-case (ltb c 16) (slot_in s (1 + 471 * c)) t);
        slots = λ c. by-case (ltb c 16) (slot_in s (1 + 471 * c)) (slot-fits (1 + 471 * c));
      }
    where
      among-case : (b : Bool) (x : Slot Job) → is_waiting (cond b x idle) ≡ true → b ≡ true
      among-case true x t = refl
      among-case false x t = absurd (true≢false (sym t))

      by-case : (b : Bool) (x : Slot Job) → SlotFits x → SlotFits (cond b x idle)
      by-case true x h = h
      by-case false x h = tt

-- ---- sponges

empty-fits : SpongeFits emptySponge
unfolding emptySponge
empty-fits = record { long = refl; small = λ i. omega (arith, bytes-zeros 25 i); fill = omega arith }

absorb-fits : (s : Sponge) (b : ℕ) → SpongeFits s → b < 256 → SpongeFits (absorb_byte 136 s b)
unfolding absorb_byte
absorb-fits s b f h =
    let st : absorbing.State s.lanes = record { long = f.long; small = f.small } in
    let l : List ℕ = xor_byte s.lanes s.fill b in
    let x = absorbing.xor_byte-state s.lanes st s.fill (omega (arith, f.fill)) b h in
    let y = absorbing.permuted-state l in
    turned-cases SpongeFits 136 (record { lanes = l; fill = s.fill + 1 }) (omega (arith, f.fill))
    (λ e. record { long = y.long; small = y.small; fill = omega arith }) (λ q. record { long = x.long; small = x.small; fill = q })

absorbs-fit : (M : List ℕ) (s : Sponge) → SpongeFits s → Bytes M → SpongeFits (absorbs 136 s M)
unfolding absorbs
absorbs-fit [] s f h = f
absorbs-fit (b ∷ M) s f h = absorbs-fit M (absorb_byte 136 s b) (absorb-fits s b f (h 0)) (bytes-tail b M h)

settled-fits : (s : Sponge) → SpongeFits s → SpongeFits (settled s)
settled-fits s f = record { long = f.long; small = f.small; fill = omega arith }

entering-fits : (p : Places) → PlacesFit p → JobFits (job_at p)
unfolding job_at started taken all_commitments_input all_online_input
entering-fits p f =
    record {
      places = f;
      next = omega arith;
      commitments = absorbs-fit (9 ∷ []) emptySponge empty-fits (bytes_one 9 (omega arith));
      online = absorbs-fit (10 ∷ []) emptySponge empty-fits (bytes_one 10 (omega arith));
    }

-- ---- one service

abbrev OutcomeFits : Outcome Job ℕ → Type 0
OutcomeFits (goes_on j) = JobFits j
OutcomeFits (finished v) = Unit {0}

after-fits : (proof : List ℕ) (j : Job) (d : Running) → Bytes proof → PlacesFit j.places → SpongeFits d.commitments → SpongeFits d.online
    → OutcomeFits (after_instance proof j d)
unfolding after_instance
after-fits proof j d bytes p f g = by-case (ltb (suc j.next) (header_m proof)) refl
  where
    by-case : (a : Bool) → ltb (suc j.next) (header_m proof) ≡ a
        → OutcomeFits (cond a (goes_on (record { places = j.places; next = suc j.next; digests = d })) (finished (cond (same_bytes (hstar_in d) (header_hstar proof)) 0 13)))
    by-case true e = record { places = p; next = omega (arith, ltb-true (suc j.next) (header_m proof) e, le_at-lt 2 proof 0 bytes); commitments = f; online = g }
    by-case false e = tt

two-fit : (a b : Bool) (x : Outcome Job ℕ) → OutcomeFits x → OutcomeFits (cond a (cond b x (finished 10)) (finished 13))
two-fit true true x h = h
two-fit true false x h = tt
two-fit false b x h = tt

instance-fits : (s y message proof : List ℕ) (j : Job) → Bytes proof → JobFits j → OutcomeFits (instance_of s y message proof j)
unfolding instance_of next_instance more
instance-fits s y message proof j bytes f =
    let c : Circuit = circuit_of s in
    let M : ℕ = header_m proof in
    let n : ℕ = header_n proof in
    let ask : ℕ → Asked = asks s y message proof in
    let i : ℕ = j.next in
    let part : List ℕ = stretch_at c M n ask proof i in
    let h : List ℕ = stretch_commitments c n (context_at proof i) (master_at M ask proof i) part (ask i) in
    let o : List ℕ = stretch_online c n (context_at proof i) part (ask i) in
    let d : Running = more (settled_both j.digests) h o in
    two-fit (ltb i M) (stretch_output c n (context_at proof i) y part (ask i)) (after_instance proof j d)
    (after-fits proof j d bytes f.places
    (absorbs-fit h (settled j.digests.commitments) (settled-fits j.digests.commitments f.commitments)
    (commitments-bytes c n (context_at proof i) (master_at M ask proof i) part (ask i)))
    (absorbs-fit o (settled j.digests.online) (settled-fits j.digests.online f.online)
    (online-bytes c n (context_at proof i) part (stretch-bytes c M n ask proof bytes i) (ask i))))

service-fits : (buffer : List ℕ) → Bytes buffer → (j : Job) → JobFits j → OutcomeFits (service_at buffer j)
unfolding service_at
service-fits buffer bytes j f = by-case (entry_at buffer j.places) _ (instance-fits _ _ _ (at buffer j.places.proof) j
    (bytes_take j.places.proof.len (drop j.places.proof.start buffer) (bytes_drop j.places.proof.start buffer bytes)) f)
  where
    by-case : (o : Option ℕ) (x : Outcome Job ℕ) → OutcomeFits x → OutcomeFits (unless_refused o finished x)
    by-case none x h = h
    by-case (some k) x h = tt

-- ---- the state after an entry and a call

tidy_of : (s : State Job) → StateFits s → Tidy 16 s
tidy_of s f = record { last = f.last; callers = f.among }

put-fits : (slots : ℕ → Slot Job) (c : ℕ) (x : Slot Job) → ((d : ℕ) → SlotFits (slots d)) → SlotFits x → (d : ℕ) → SlotFits (put slots c x d)
unfolding put
put-fits slots c x h f d = by-case (eqb d c)
  where
    by-case : (b : Bool) → SlotFits (cond b x (slots d))
    by-case true = f
    by-case false = h d

work-fits : (w : Job → Outcome Job ℕ) → ((j : Job) → JobFits j → OutcomeFits (w j)) → (x : Slot Job) → SlotFits x → SlotFits (work_on w x)
work-fits w h idle f = tt
work-fits w h (waiting j) f = by-case (w j) (h j f)
  where
    by-case : (o : Outcome Job ℕ) → OutcomeFits o → SlotFits (leaves o)
    by-case (goes_on k) g = g
    by-case (finished v) g = tt

module _ (buffer : List ℕ) (bytes : Bytes buffer) where
  serve-slots : (quota : ℕ) (s : State Job) → ((c : ℕ) → SlotFits (s.slot c)) → (c : ℕ) → SlotFits ((serve 16 (λ c. service_at buffer) quota s).1.slot c)
  unfolding serve
  serve-slots zero s f c = f c
  serve-slots (suc quota) s f c = by-case (next 16 s.last (waits s)) (λ e. serve-slots quota (after_service (λ c. service_at buffer) e s)
      (put-fits s.slot e (work_on (service_at buffer) (s.slot e)) f (work-fits (service_at buffer) (service-fits buffer bytes) (s.slot e) (f e))) c)
    where
      by-case : (o : Option ℕ) → ((e : ℕ) → SlotFits ((serve 16 (λ c. service_at buffer) quota (after_service (λ c. service_at buffer) e s)).1.slot c))
          → SlotFits ((unless_none {A = List (Service ℕ) × State Job} o ([], s) (λ e. (service_of (λ c. service_at buffer) e s ∷ (serve 16 (λ c. service_at buffer) quota (after_service (λ c. service_at buffer) e s)).0, (serve 16 (λ c. service_at buffer) quota (after_service (λ c. service_at buffer) e s)).1))).1.slot c)
      by-case none h = f c
      by-case (some e) h = h e

  pub called-fits : (quota : ℕ) (work : List ℕ) (s : State Job) → StateFits s → StateFits (called quota buffer work s).1
  unfolding called
  called-fits quota work s f = by-case (call_refusal quota work s)
    where
      by-case : (o : Option ℕ) → StateFits (unless_refused o (λ k. ([], s)) (serve 16 (λ c. service_at buffer) quota s)).1
      by-case none =
          let t = (serve-follows 16 (λ c. service_at buffer) quota s (tidy_of s f)).tidy in
          record { last = t.last; among = t.callers; slots = serve-slots quota s f.slots }
      by-case (some k) = f

pub entered-fits : (c : ℕ) (p : Places) (buffer work : List ℕ) (s : State Job) → PlacesFit p → StateFits s → StateFits (entered c p buffer work s)
unfolding entered after_entry
entered-fits c p buffer work s q f = by-refusal (enter_refusal c p buffer work s)
  where
    slots-fit : (b : Bool) (d : ℕ) → SlotFits ((cond b (record { last = s.last; slot = put s.slot c (waiting (job_at p)) }) s).slot d)
    slots-fit true d = put-fits s.slot c (waiting (job_at p)) f.slots (entering-fits p q) d
    slots-fit false d = f.slots d

    by-refusal : (o : Option ℕ) → StateFits (unless_refused o (λ k. s) (cond (is_free 16 c s) (record { last = s.last; slot = put s.slot c (waiting (job_at p)) }) s))
    by-refusal none =
        let t = entry_case 16 c (job_at p) s (is_free 16 c s) refl (tidy_of s f) in
        record { last = t.last; among = t.callers; slots = slots-fit (is_free 16 c s) }
    by-refusal (some k) = f

pub empty-state-fits : StateFits empty
empty-state-fits = let t = empty-tidy {Job = Job} 16 in record { last = t.last; among = t.callers; slots = λ c. tt }
