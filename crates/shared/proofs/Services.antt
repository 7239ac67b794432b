-- One service in the code, by its cases.
-- Assumes nothing.
use mathlib.Core.Path.{◌≡◌, refl, sym, ap, ap₂, ◌∙◌, subst}
use mathlib.Core.Bool.{Bool, true, false, cond}
use mathlib.Core.List.{List, [], ◌∷◌}
use mathlib.Core.Option.{Option, none, some}
use Prim.Native.Nat.{ℕ, suc, ◌+◌, ◌*◌, ◌^◌, ◌≤◌, ◌<◌}
use lib.ListN.{length, take}
use native.Mathlib.Numerals.{add-one}
use native.Mathlib.Omega.{arith}
use borrow.Author.Tests.{lt-ltb, le-ltb}
use lib.Dec.{ltb}
use Rattle.bits.specs.Bytes.{same_bytes}
use Rattle.keccak.specs.declared.sponge.Sponge.{Sponge}
use Rattle.keccak.specs.Steps.{absorb_byte, absorbs}
use Rattle.keccak.proofs.Steps.{absorb_byte-room}
use Rattle.circuit.specs.Circuit.{Circuit}
use Rattle.circuit.specs.File.{circuit_of}
use Rattle.masks.specs.Steps.{wire_count}
use Rattle.mpc.proofs.Lent.{known-few}
use Rattle.cover.specs.Masters.{height}
use Rattle.proof.specs.Protocol.{statement_of, challenged}
use Rattle.proof.specs.Steps.{asks_in}
use Rattle.proof_tests.specs.declared.Shape.{Shape}
use Rattle.shared.specs.declared.Places.{Places}
use Rattle.std.specs.Prelude.{Result, Ok}
use Rattle.refusal.specs.declared.Refusal.{Refusal}
use Rattle.shared.specs.Steps.{Looking, ReadyAt, instance_at}
use Rattle.instance.specs.Instance.{Asked}
use Rattle.proof.specs.File.{header_m, header_hstar, header_salt}
use Rattle.stepping.specs.declared.Running.{Running}
use Rattle.stepping.specs.RunningDigests.{more, hstar_in}
use Rattle.proof_tests.specs.Steps.{output_at, commitments_at, online_at, Tested}
use Rattle.schedule.specs.Schedule.{Outcome, goes_on, finished}
use Rattle.shared.specs.declared.Job.{Job}
use Rattle.shared.specs.Service.{settled, settled_both, at, all_inside, entry_at, unless_refused, after_instance, next_instance, instance_of, service_at}

-- settled sponges
pub both-made : (d : Running) (a b : Sponge) → a ≡ settled d.commitments → b ≡ settled d.online
    → (◌≡◌ {A = Running} (record { commitments = a; online = b }) (settled_both d)) × ((a.fill < 136) × (b.fill < 136))
both-made d a b p q =
    (rw (p, q), (omega (arith, ap (λ (s : Sponge). s.fill) p), omega (arith, ap (λ (s : Sponge). s.fill) q)))

-- a sponge that takes in bytes has room
pub absorbs-room : (s : Sponge) (bytes : List ℕ) → s.fill < 136 → (absorbs 136 s bytes).fill < 136
unfolding absorbs
absorbs-room s [] l = l
absorbs-room s (b ∷ bytes) l = absorbs-room (absorb_byte 136 s b) bytes (absorb_byte-room 136 (omega arith) s b l)

pub more_room : (d : Running) (h o : List ℕ) → (d.commitments.fill < 136) × (d.online.fill < 136)
    → ((more d h o).commitments.fill < 136) × ((more d h o).online.fill < 136)
unfolding more
more_room d h o l = (absorbs-room d.commitments h l.0, absorbs-room d.online o l.1)

pub more-fits : (d e : Running) (h o : List ℕ) → (d.commitments.fill < 136) × (d.online.fill < 136) → e ≡ more d h o
    → (e.commitments.fill < 136) × (e.online.fill < 136)
more-fits d e h o l q = rw q (more_room d h o l)

-- after an instance
module _ (proof : List ℕ) (job : Job) (d : Running) (m : ℕ) (e : m ≡ header_m proof) where
  pub after_on : job.next + 1 < m → goes_on (record { places = job.places; next = job.next + 1; digests = d }) ≡ after_instance proof job d
  unfolding after_instance
  after_on l =
      let t : ltb (suc job.next) (header_m proof) ≡ true = lt-ltb (suc job.next) (header_m proof) (omega arith) in
      rw (t, add-one)

  pub after-end : m ≤ job.next + 1 → (b : Bool) (v : ℕ) → b ≡ same_bytes (hstar_in d) (header_hstar proof) → v ≡ cond b 0 13
      → finished v ≡ after_instance proof job d
  unfolding after_instance
  after-end l b v p q =
      let t : ltb (suc job.next) (header_m proof) ≡ false = le-ltb (suc job.next) (header_m proof) (omega arith) in
      rw t (ap finished (q ∙ ap (λ (x : Bool). cond x 0 13) p))

  pub after-good : m ≤ job.next + 1 → (b : Bool) (r : Outcome Job ℕ) → b ≡ same_bytes (hstar_in d) (header_hstar proof) → b ≡ true → r ≡ finished 0
      → r ≡ after_instance proof job d
  after-good l b r p t q = q ∙ after-end l b 0 p (rw t refl)

  pub after-bad : m ≤ job.next + 1 → (b : Bool) (r : Outcome Job ℕ) → b ≡ same_bytes (hstar_in d) (header_hstar proof) → b ≡ false → r ≡ finished 13
      → r ≡ after_instance proof job d
  after-bad l b r p t q = q ∙ after-end l b 13 p (rw t refl)

-- the next instance
module _ (c : Circuit) (M n : ℕ) (ask : ℕ → Asked) (y proof : List ℕ) (job : Job) where
  pub next-beyond : M ≤ job.next → finished 13 ≡ next_instance c M n ask y proof job
  unfolding next_instance
  next-beyond l = rw (le-ltb job.next M l)

  module _ (l : job.next < M) where
    pub next-output : output_at c M n ask proof y job.next ≡ false → finished 10 ≡ next_instance c M n ask y proof job
    unfolding next_instance
    next-output f = rw (lt-ltb job.next M l, f)

    pub next-taken : output_at c M n ask proof y job.next ≡ true → (s d : Running) (h o : List ℕ) (r : Outcome Job ℕ) → s ≡ settled_both job.digests
        → h ≡ commitments_at c M n ask proof job.next → o ≡ online_at c M n ask proof job.next → d ≡ more s h o → r ≡ after_instance proof job d
        → r ≡ next_instance c M n ask y proof job
    unfolding next_instance
    next-taken t s d h o r es eh eo ed er = er ∙ rw (lt-ltb job.next M l, t) (ap (after_instance proof job) (ed ∙ rw (es, eh, eo) refl))

-- a proof at its places
module _ (f : Shape) (buffer : List ℕ) (job : Job) (table marks : List ℕ) (t : ReadyAt f buffer job.places table marks) (s y proof : List ℕ)
    (es : s ≡ at buffer job.places.circuit) (ey : y ≡ at buffer job.places.y) (ep : proof ≡ at buffer job.places.proof) where
  -- its facts, of the parts, with r marks
  pub ready-tested : (r : ℕ) → r ≡ 2 ^ suc (height f.counts.instances) → Tested s f proof (take f.counts.instances table) (take r marks)
  ready-tested r e = rw (es, ep, e) t.ready.tested

  pub ready-few : f.counts.instances ≤ 512
  ready-few = t.ready.tested.sized.few

  pub ready-room : (k : ℕ) → 6436864 ≤ k → 64 * wire_count f.sizes + 4096 ≤ k
  ready-room k l = let w = known-few _ f.sizes t.ready.tested.known in omega (arith, w.0, w.1)

  pub ready-header : f.counts.instances ≡ header_m proof
  ready-header = t.ready.headed.is_M ∙ ap header_m (sym ep)

  -- its next instance
  pub ready-instance : (o : Outcome Job ℕ)
      → o ≡ next_instance (circuit_of s) f.counts.instances f.counts.parties (asks_in f.counts.parties (take f.counts.instances table)) y proof job
      → o ≡ instance_at buffer job
  unfolding instance_at instance_of
  ready-instance o e =
      let h = t.ready.headed in
      let P : List ℕ = at buffer job.places.proof in
      let S : List ℕ = at buffer job.places.circuit in
      let Y : List ℕ = at buffer job.places.y in
      let X : List ℕ = at buffer job.places.message in
      e
      ∙ (rw (es, ey, ep) refl
      ∙ (ap (λ (a : ℕ → Asked). next_instance (circuit_of S) f.counts.instances f.counts.parties a Y P job) t.ready.asks
      ∙ (ap (λ (m : ℕ). next_instance (circuit_of S) m f.counts.parties (challenged m f.counts.chosen f.counts.parties (header_hstar P) (statement_of (header_salt P) m f.counts.chosen f.counts.parties S Y X)) Y P job) h.is_M
      ∙ ap₂ (λ (u q : ℕ). next_instance (circuit_of S) (header_m P) q (challenged (header_m P) u q (header_hstar P) (statement_of (header_salt P) (header_m P) u q S Y X)) Y P job) h.is_tau h.is_n)))

-- a service is its next instance, unless its bytes are refused
by-instance : (buffer : List ℕ) (job : Job) → unless_refused (entry_at buffer job.places) finished (instance_at buffer job) ≡ service_at buffer job
unfolding service_at instance_at
by-instance buffer job = refl

-- a service, by its tests
module _ (buffer : List ℕ) (job : Job) where
  pub service-refused : (k : ℕ) → some k ≡ entry_at buffer job.places → (o : Outcome Job ℕ) → o ≡ finished k → o ≡ service_at buffer job
  service-refused k e o q = q ∙ ap (λ (x : Option ℕ). unless_refused x finished (instance_at buffer job)) e ∙ by-instance buffer job

  pub service-ready : none ≡ entry_at buffer job.places → (o : Outcome Job ℕ) → o ≡ instance_at buffer job → o ≡ service_at buffer job
  service-ready e o q = q ∙ ap (λ (x : Option ℕ). unless_refused x finished (instance_at buffer job)) e ∙ by-instance buffer job

-- what the tests leave is what the next instance needs
pub ready_at : (r : Result Shape Refusal) (f : Shape) (buffer : List ℕ) (p : Places) (table marks : List ℕ) → Looking r buffer p table marks → r ≡ Ok f
    → all_inside buffer p ≡ true → length table ≡ 512 → length marks ≡ 1024 → ReadyAt f buffer p table marks
ready_at r f buffer p table marks h q i a b =
    record { inside = i; ready = subst (λ (x : Result Shape Refusal). Looking x buffer p table marks) q h; entries = a; nodes = b }
