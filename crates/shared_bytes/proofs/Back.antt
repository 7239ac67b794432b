-- Decoding gives back what was encoded.
-- Assumes nothing.
use mathlib.Core.Path.{◌≡◌, refl, sym, ap, ◌∙◌, fun_ext}
use mathlib.Core.Bool.{Bool, true, cond}
use mathlib.Core.List.{List, [], ◌∷◌, ◌++◌, flatten}
use mathlib.Core.Logic.{⊎_elim}
use mathlib.Core.Option.{Option, none, some}
use Prim.Native.Nat.{ℕ, zero, suc, ◌+◌, ◌*◌, ◌%◌, ◌^◌, ◌≤◌, ◌<◌}
use native.Mathlib.Nat.{mod-eq_of_lt}
use native.Mathlib.Omega.{arith}
use borrow.Author.Tests.{lt-ltb, le-ltb}
use lib.Dec.{eqb, ltb}
use lib.ListN.{length, get_or, length-append, length-replicate, get_or-append}
use lib.Seq.{get_or-append-add}
use Rattle.bits.specs.Bits.{tabulate}
use Rattle.bits.specs.Bytes.{le_at, le_bytes}
use Rattle.bits.proofs.Numbers.{lt-or-le}
use Rattle.bits.proofs.Little.{le_at-cong, le_at-le_bytes, length-le_bytes}
use Rattle.bits.proofs.Rows.{length-flatten, row_fits, row-get_or, row-tabulate}
use Rattle.bits.proofs.Tabulate.{length-tabulate, get_d_tabulate, tabulate-cong, tabulate-get_or}
use Rattle.permutation.specs.Permutation.{lane_bytes}
use Rattle.permutation.proofs.Strings.{length-lane_bytes}
use Rattle.keccak.specs.declared.sponge.Sponge.{Sponge}
use Rattle.schedule.specs.Schedule.{Slot, idle, waiting, is_waiting, State, begin}
use Rattle.schedule.specs.Callers.{last_served}
use Rattle.shared.specs.declared.Place.{Place}
use Rattle.shared.specs.declared.Places.{Places}
use Rattle.shared.specs.declared.Job.{Job}
use Rattle.state_bytes.specs.Bytes.{place_at, places_at, sponge_at, job_in, slot_in, decode_state, place_bytes, places_bytes, sponge_bytes, job_bytes, slot_bytes, encode_state}
use Rattle.shared_bytes.specs.Theorem.{PlaceFits, PlacesFit, SpongeFits, JobFits, SlotFits, StateFits}
use Rattle.state_bytes.proofs.Written.{length-place, length-places, length-sponge, length_both, two-places, three-places}

-- the bytes v stand in s from place k on
abbrev pub Holds : List ℕ → ℕ → List ℕ → Type 0
Holds s k v = (i : ℕ) → i < length v → get_or s (k + i) 0 ≡ get_or v i 0

holds-left : (s : List ℕ) (k : ℕ) (a b : List ℕ) → Holds s k (a ++ b) → Holds s k a
holds-left s k a b h i l = h i (omega (arith, length-append a b)) ∙ get_or-append a b 0 i l

holds-right : (s : List ℕ) (k n : ℕ) (a b : List ℕ) → length a ≡ n → Holds s k (a ++ b) → Holds s (k + n) b
holds-right s k n a b e h i l =
    let q : k + n + i ≡ k + (length a + i) = omega arith in
    ap (λ (m : ℕ). get_or s m 0) q ∙ h (length a + i) (omega (arith, length-append a b)) ∙ get_or-append-add a b i 0

-- a number
number-back : (n : ℕ) (s : List ℕ) (k x : ℕ) → Holds s k (le_bytes n x) → x < 256 ^ n → le_at n s k ≡ x
number-back n s k x h l =
    le_at-cong n s (le_bytes n x) k 0 (λ i m. h i (omega (arith, length-le_bytes n x)) ∙ ap (λ (j : ℕ). get_or (le_bytes n x) j 0) (omega arith))
    ∙ le_at-le_bytes n x ∙ mod-eq_of_lt l

place-back : (s : List ℕ) (k : ℕ) (p : Place) → Holds s k (place_bytes p) → PlaceFits p → place_at s k ≡ p
unfolding place_at place_bytes
place-back s k p h f =
    let a = number-back 8 s k p.start (holds-left s k (le_bytes 8 p.start) (le_bytes 8 p.len) h) f.start in
    let b = number-back 8 s (k + 8) p.len (holds-right s k 8 (le_bytes 8 p.start) (le_bytes 8 p.len) (length-le_bytes 8 p.start) h) f.len in
    λ i. record { start = a i; len = b i }

places-back : (s : List ℕ) (k : ℕ) (p : Places) → Holds s k (places_bytes p) → PlacesFit p → places_at s k ≡ p
unfolding places_at places_bytes
places-back s k p h f =
    let c : List ℕ = place_bytes p.circuit in
    let y : List ℕ = place_bytes p.y in
    let m : List ℕ = place_bytes p.message in
    let r : List ℕ = place_bytes p.proof in
    let h₃ : Holds s k (c ++ y ++ m) = holds-left s k (c ++ y ++ m) r h in
    let h₂ : Holds s k (c ++ y) = holds-left s k (c ++ y) m h₃ in
    let a₀ = place-back s k p.circuit (holds-left s k c y h₂) f.circuit in
    let a₁ = place-back s (k + 16) p.y (holds-right s k 16 c y (length-place p.circuit) h₂) f.y in
    let a₂ = place-back s (k + 32) p.message (holds-right s k 32 (c ++ y) m (two-places p.circuit p.y) h₃) f.message in
    let a₃ = place-back s (k + 48) p.proof (holds-right s k 48 (c ++ y ++ m) r (three-places p.circuit p.y p.message) h) f.proof in
    λ i. record { circuit = a₀ i; y = a₁ i; message = a₂ i; proof = a₃ i }

-- lane i
lane-held : (s : List ℕ) (k : ℕ) (l : List ℕ) → Holds s k (lane_bytes l) → (i : ℕ) → i < length l → Holds s (k + 8 * i) (le_bytes 8 (get_or l i 0))
unfolding lane_bytes
lane-held s k [] h i m = absurd (omega arith)
lane-held s k (x ∷ l) h zero m = λ j q. ap (λ (n : ℕ). get_or s n 0) (omega arith) ∙ holds-left s k (le_bytes 8 x) (lane_bytes l) h j q
lane-held s k (x ∷ l) h (suc i) m =
    λ j q. ap (λ (n : ℕ). get_or s n 0) (omega arith)
    ∙ lane-held s (k + 8) l (holds-right s k 8 (le_bytes 8 x) (lane_bytes l) (length-le_bytes 8 x) h) i (omega arith) j q

sponge-back : (s : List ℕ) (k : ℕ) (t : Sponge) → Holds s k (sponge_bytes t) → SpongeFits t → sponge_at s k ≡ t
unfolding sponge_at sponge_bytes
sponge-back s k t h f =
    let l : List ℕ = t.lanes in
    let last : List ℕ = t.fill % 136 ∷ [] in
    let n : length (lane_bytes l) ≡ 200 = length-lane_bytes l ∙ ap (λ (m : ℕ). 8 * m) f.long in
    let a : tabulate 25 (λ i. le_at 8 s (k + 8 * i)) ≡ l
    = tabulate-cong 25 (λ i. le_at 8 s (k + 8 * i)) (λ i. get_or l i 0)
    (λ i m. number-back 8 s (k + 8 * i) (get_or l i 0) (lane-held s k l (holds-left s k (lane_bytes l) last h) i (omega (arith, f.long))) (f.small i))
    ∙ ap (λ (m : ℕ). tabulate m (λ i. get_or l i 0)) (sym f.long) ∙ tabulate-get_or l 0 in
    let z : get_or s (k + 200 + 0) 0 ≡ t.fill % 136 = holds-right s k 200 (lane_bytes l) last n h 0 (omega arith) in
    let b : get_or s (k + 200) 0 % 136 ≡ t.fill = ap (λ (m : ℕ). get_or s m 0 % 136) (omega arith) ∙ ap (λ (m : ℕ). m % 136) z ∙ omega (arith, f.fill) in
    λ i. record { lanes = a i; fill = b i }

length-job : (j : Job) → JobFits j → length (job_bytes j) ≡ 470
unfolding job_bytes
length-job j f =
    let p : List ℕ = places_bytes j.places in
    let n : List ℕ = le_bytes 4 j.next in
    let h : List ℕ = sponge_bytes j.digests.commitments in
    length_both (p ++ n ++ h) (sponge_bytes j.digests.online) 269 201
    (length_both (p ++ n) h 68 201 (length_both p n 64 4 (length-places j.places) (length-le_bytes 4 j.next))
    (length-sponge j.digests.commitments f.commitments.long))
    (length-sponge j.digests.online f.online.long)

job-back : (s : List ℕ) (k : ℕ) (j : Job) → Holds s k (job_bytes j) → JobFits j → job_in s k ≡ j
unfolding job_in job_bytes
job-back s k j h f =
    let p : List ℕ = places_bytes j.places in
    let n : List ℕ = le_bytes 4 j.next in
    let g : List ℕ = sponge_bytes j.digests.commitments in
    let o : List ℕ = sponge_bytes j.digests.online in
    let l₁ : length p ≡ 64 = length-places j.places in
    let l₂ : length (p ++ n) ≡ 68 = length_both p n 64 4 l₁ (length-le_bytes 4 j.next) in
    let l₃ : length (p ++ n ++ g) ≡ 269 = length_both (p ++ n) g 68 201 l₂ (length-sponge j.digests.commitments f.commitments.long) in
    let h₃ : Holds s k (p ++ n ++ g) = holds-left s k (p ++ n ++ g) o h in
    let h₂ : Holds s k (p ++ n) = holds-left s k (p ++ n) g h₃ in
    let a = places-back s k j.places (holds-left s k p n h₂) f.places in
    let b = number-back 4 s (k + 64) j.next (holds-right s k 64 p n l₁ h₂) f.next in
    let c = sponge-back s (k + 68) j.digests.commitments (holds-right s k 68 (p ++ n) g l₂ h₃) f.commitments in
    let d = sponge-back s (k + 269) j.digests.online (holds-right s k 269 (p ++ n ++ g) o l₃ h) f.online in
    λ i. record { places = a i; next = b i; digests = record { commitments = c i; online = d i } }

length-slot : (x : Slot Job) → SlotFits x → length (slot_bytes x) ≡ 471
unfolding slot_bytes
length-slot idle f = length-replicate {A = ℕ} 471 0
length-slot (waiting j) f = ap suc (length-job j f)

slot-back : (s : List ℕ) (k : ℕ) (x : Slot Job) → Holds s k (slot_bytes x) → SlotFits x → slot_in s k ≡ x
unfolding slot_in slot_bytes
slot-back s k idle h f =
    let e : get_or s k 0 ≡ 0 = ap (λ (m : ℕ). get_or s m 0) (omega arith) ∙ h 0 (omega (arith, length-replicate {A = ℕ} 471 0)) in
    ap (λ (m : ℕ). cond (eqb m 0) idle (waiting (job_in s (k + 1)))) e
slot-back s k (waiting j) h f =
    let e : get_or s k 0 ≡ 1 = ap (λ (m : ℕ). get_or s m 0) (omega arith) ∙ h 0 (omega arith) in
    ap (λ (m : ℕ). cond (eqb m 0) idle (waiting (job_in s (k + 1)))) e
    ∙ ap waiting (job-back s (k + 1) j (holds-right s k 1 (1 ∷ []) (job_bytes j) refl h) f)

last-back : (o : Option ℕ) → begin o ≤ 16 → last_served (begin o) ≡ o
unfolding last_served
last-back none l = refl
last-back (some c) l = rw (lt-ltb c 16 l)

idle-slot : (x : Slot Job) → (is_waiting x ≡ true → ⊥) → idle ≡ x
idle-slot idle h = refl
idle-slot (waiting j) h = absurd (h refl)

-- the slots one after the other
slots-long : (f : ℕ → List ℕ) → ((c : ℕ) → length (f c) ≡ 471) → length (flatten (tabulate 16 f)) ≡ 16 * 471
slots-long f n =
    length-flatten 471 (tabulate 16 f) (λ k h. ap length (get_d_tabulate 16 f k [] (omega (arith, length-tabulate 16 f))) ∙ n k)
    ∙ ap (λ (k : ℕ). k * 471) (length-tabulate 16 f)

pub state-long : (s : State Job) → StateFits s → length (encode_state s) ≡ 7537
unfolding encode_state
state-long s f = ap suc (slots-long (λ k. slot_bytes (s.slot k)) (λ k. length-slot (s.slot k) (f.slots k)))

-- from byte 1 on
slot_held : (b : ℕ) (f : ℕ → List ℕ) → ((c : ℕ) → length (f c) ≡ 471) → (c : ℕ) → c < 16 → Holds (b ∷ flatten (tabulate 16 f)) (1 + 471 * c) (f c)
slot_held b f n c l i m =
    let rows : List ℕ = flatten (tabulate 16 f) in
    let z : length rows ≡ 16 * 471 = slots-long f n in
    let q : 1 + 471 * c + i ≡ suc (c * 471 + i) = omega arith in
    let u : i < 471 = omega (arith, n c) in
    ap (λ (k : ℕ). get_or (b ∷ rows) k 0) q ∙ sym (row-get_or rows 471 c i (omega (arith, row_fits 16 471 c l, z)) u)
    ∙ ap (λ (r : List ℕ). get_or r i 0) (row-tabulate 471 16 f (λ k h. n k) c l)

pub state-back : (s : State Job) → StateFits s → decode_state (encode_state s) ≡ s
unfolding decode_state encode_state
state-back s f =
    let a = last-back s.last f.last in
    let E : List ℕ = begin s.last ∷ flatten (tabulate 16 (λ c. slot_bytes (s.slot c))) in
    let slot : (c : ℕ) → cond (ltb c 16) (slot_in E (1 + 471 * c)) idle ≡ s.slot c
    = λ c. ⊎_elim
    (λ (l : c < 16).
    ap (λ (x : Bool). cond x (slot_in E (1 + 471 * c)) idle) (lt-ltb c 16 l)
    ∙ slot-back E (1 + 471 * c) (s.slot c)
    (slot_held (begin s.last) (λ k. slot_bytes (s.slot k)) (λ k. length-slot (s.slot k) (f.slots k)) c l) (f.slots c))
    (λ (l : 16 ≤ c).
    ap (λ (x : Bool). cond x (slot_in E (1 + 471 * c)) idle) (le-ltb c 16 l)
    ∙ idle-slot (s.slot c) (λ t. omega (arith, f.among c t)))
    (lt-or-le c 16) in
    let b = fun_ext slot in
    λ i. record { last = a i; slot = b i }
