-- Bytes written one after the other.
-- Assumes nothing.
use mathlib.Core.Path.{◌≡◌, refl, sym, ap, ap₂, ◌∙◌}
use mathlib.Core.Bool.{Bool, true, false, cond}
use mathlib.Core.List.{List, [], ◌∷◌, ◌++◌, flatten, append-nil, append_assoc}
use Prim.Native.Nat.{ℕ, suc, ◌+◌, ◌-◌, ◌*◌, ◌%◌, ◌≤◌, ◌<◌}
use native.Mathlib.Numerals.{add-one}
use native.Mathlib.Omega.{arith}
use borrow.Rule.Slice.PartMut.{mid_of, put_mid}
use lib.ListN.{length, get_or, set, take, drop, replicate, length-append, length-set, length-replicate}
use lib.Seq.{sets, sets-eq, length-sets, take-suc, take-suc-set, take_all, length-take-le, drop-length}
use Rattle.bits.specs.Bits.{tabulate}
use Rattle.bits.specs.Bytes.{le_bytes}
use Rattle.bits.proofs.Copies.{part-cleared}
use Rattle.bits.proofs.Little.{length-le_bytes, sets-append}
use Rattle.bits.proofs.Rows.{flatten-more}
use Rattle.permutation.specs.Permutation.{lane_bytes}
use Rattle.permutation.proofs.Strings.{length-lane_bytes}
use Rattle.keccak.specs.declared.sponge.Sponge.{Sponge}
use Rattle.schedule.specs.Schedule.{idle, waiting, begin}
use Rattle.shared.specs.declared.Place.{Place}
use Rattle.shared.specs.declared.Places.{Places}
use Rattle.shared.specs.declared.Job.{Job}
use Rattle.shared.specs.declared.Shared.{Shared}
use Rattle.shared.specs.StateSteps.{nowhere, slot_of, state_of}
use Rattle.schedule.specs.Callers.{last_served}
use Rattle.state_bytes.specs.Bytes.{place_bytes, places_bytes, sponge_bytes, job_bytes, slot_bytes, encode_state}

-- bytes written after n others
pub then : (s x y a b : List ℕ) (k n : ℕ) → x ≡ sets s k a → length a ≡ n → y ≡ sets x (k + n) b → y ≡ sets s k (a ++ b)
then s x y a b k n p l q = q ∙ ap₂ (λ (z : List ℕ) (m : ℕ). sets z (k + m) b) p (sym l) ∙ sym (sets-append a b s k)

-- ---- lanes

lane_bytes-more : (l : List ℕ) (x : ℕ) → lane_bytes (l ++ (x ∷ [])) ≡ lane_bytes l ++ le_bytes 8 x
unfolding lane_bytes
lane_bytes-more [] x = append-nil (le_bytes 8 x)
lane_bytes-more (y ∷ l) x = ap (λ (t : List ℕ). le_bytes 8 y ++ t) (lane_bytes-more l x) ∙ sym (append_assoc (le_bytes 8 y) (lane_bytes l) (le_bytes 8 x))

-- i lanes are written, from byte k on
pub record Lanes (l : List ℕ) (k i : ℕ) (s x : List ℕ) : Type 0 where
  pub within : i ≤ 25
  pub kept : length x ≡ length s
  pub front : x ≡ sets s k (lane_bytes (take i l))

pub lanes-none : (l : List ℕ) (k : ℕ) (s : List ℕ) → Lanes l k 0 s s
unfolding lane_bytes
lanes-none l k s = record { within = omega arith; kept = refl; front = refl }

pub lanes-more : (l : List ℕ) (k i : ℕ) (s x y : List ℕ) → Lanes l k i s x → i < 25 → length l ≡ 25 → y ≡ sets x (k + 8 * i) (le_bytes 8 (get_or l i 0))
    → Lanes l k (i + 1) s y
lanes-more l k i s x y w h e q =
    record {
      within = omega arith;
      kept = ap length q ∙ length-sets x (k + 8 * i) (le_bytes 8 (get_or l i 0)) ∙ w.kept;
      front =
          then s x y (lane_bytes (take i l)) (le_bytes 8 (get_or l i 0)) k (8 * i) w.front
          (length-lane_bytes (take i l) ∙ ap (λ (n : ℕ). 8 * n) (length-take-le i l (omega arith))) q
          ∙ ap (sets s k)
          (sym (lane_bytes-more (take i l) (get_or l i 0)) ∙ ap lane_bytes (sym (take-suc l i 0 (omega arith)) ∙ ap (λ (n : ℕ). take n l) (sym (add-one i))));
    }

pub lanes_end : (l : List ℕ) (k i : ℕ) (s x : List ℕ) → Lanes l k i s x → length l ≡ 25 → 25 ≤ i → (x ≡ sets s k (lane_bytes l)) × (length l ≡ 25)
lanes_end l k i s x w e h = (w.front ∙ ap (λ (t : List ℕ). sets s k (lane_bytes t)) (take_all i l (omega arith)), e)

-- ---- the fields of a proof

pub length_both : (a b : List ℕ) (n m : ℕ) → length a ≡ n → length b ≡ m → length (a ++ b) ≡ n + m
length_both a b n m p q = length-append a b ∙ ap₂ ◌+◌ p q

pub length-place : (p : Place) → length (place_bytes p) ≡ 16
unfolding place_bytes
length-place p = length_both (le_bytes 8 p.start) (le_bytes 8 p.len) 8 8 (length-le_bytes 8 p.start) (length-le_bytes 8 p.len)

pub place-written : (s x y : List ℕ) (k : ℕ) (p : Place) → x ≡ sets s k (le_bytes 8 p.start) → y ≡ sets x (k + 8) (le_bytes 8 p.len) → y ≡ sets s k (place_bytes p)
unfolding place_bytes
place-written s x y k p a b = then s x y (le_bytes 8 p.start) (le_bytes 8 p.len) k 8 a (length-le_bytes 8 p.start) b

pub two-places : (p q : Place) → length (place_bytes p ++ place_bytes q) ≡ 32
two-places p q = length_both (place_bytes p) (place_bytes q) 16 16 (length-place p) (length-place q)

pub three-places : (p q r : Place) → length (place_bytes p ++ place_bytes q ++ place_bytes r) ≡ 48
three-places p q r = length_both (place_bytes p ++ place_bytes q) (place_bytes r) 32 16 (two-places p q) (length-place r)

pub length-places : (p : Places) → length (places_bytes p) ≡ 64
unfolding places_bytes
length-places p =
    length_both (place_bytes p.circuit ++ place_bytes p.y ++ place_bytes p.message) (place_bytes p.proof) 48 16
    (three-places p.circuit p.y p.message) (length-place p.proof)

pub places-written : (s x y z w : List ℕ) (k : ℕ) (p : Places) → x ≡ sets s k (place_bytes p.circuit) → y ≡ sets x (k + 16) (place_bytes p.y)
    → z ≡ sets y (k + 32) (place_bytes p.message) → w ≡ sets z (k + 48) (place_bytes p.proof) → w ≡ sets s k (places_bytes p)
unfolding places_bytes
places-written s x y z w k p a b c d =
    let e = then s x y (place_bytes p.circuit) (place_bytes p.y) k 16 a (length-place p.circuit) b in
    let f = then s y z (place_bytes p.circuit ++ place_bytes p.y) (place_bytes p.message) k 32 e (two-places p.circuit p.y) c in
    then s z w (place_bytes p.circuit ++ place_bytes p.y ++ place_bytes p.message) (place_bytes p.proof) k 48 f
    (three-places p.circuit p.y p.message) d

pub length-sponge : (t : Sponge) → length t.lanes ≡ 25 → length (sponge_bytes t) ≡ 201
unfolding sponge_bytes
length-sponge t e = length_both (lane_bytes t.lanes) (t.fill % 136 ∷ []) 200 1 (length-lane_bytes t.lanes ∙ ap (λ (n : ℕ). 8 * n) e) refl

pub sponge-written : (s x : List ℕ) (k : ℕ) (t : Sponge) → (x ≡ sets s k (lane_bytes t.lanes)) × (length t.lanes ≡ 25)
    → (set x (k + 200) (t.fill % 136) ≡ sets s k (sponge_bytes t)) × (length (sponge_bytes t) ≡ 201)
unfolding sponge_bytes
sponge-written s x k t p = (
  then s x (set x (k + 200) (t.fill % 136)) (lane_bytes t.lanes) (t.fill % 136 ∷ []) k 200 p.0
      (length-lane_bytes t.lanes ∙ ap (λ (n : ℕ). 8 * n) p.1) refl,
  length-sponge t p.1,
)

pub job-written : (s x y z w : List ℕ) (k : ℕ) (j : Job) → x ≡ sets s k (places_bytes j.places) → y ≡ sets x (k + 64) (le_bytes 4 j.next)
    → (z ≡ sets y (k + 68) (sponge_bytes j.digests.commitments)) × (length (sponge_bytes j.digests.commitments) ≡ 201)
    → (w ≡ sets z (k + 269) (sponge_bytes j.digests.online)) × (length (sponge_bytes j.digests.online) ≡ 201)
    → (w ≡ sets s k (job_bytes j)) × (length (job_bytes j) ≡ 470)
unfolding job_bytes
job-written s x y z w k j a b c d =
    let p : List ℕ = places_bytes j.places in
    let n : List ℕ = le_bytes 4 j.next in
    let h : List ℕ = sponge_bytes j.digests.commitments in
    let g : List ℕ = sponge_bytes j.digests.online in
    let l : length (p ++ n) ≡ 68 = length_both p n 64 4 (length-places j.places) (length-le_bytes 4 j.next) in
    let m : length (p ++ n ++ h) ≡ 269 = length_both (p ++ n) h 68 201 l c.1 in (
      then s z w (p ++ n ++ h) g k 269 (then s y z (p ++ n) h k 68 (then s x y p n k 64 a (length-places j.places) b) l c.0) m d.0,
      length_both (p ++ n ++ h) g 269 201 m d.1,
    )

-- ---- slots

pub waiting-written : (s x : List ℕ) (k : ℕ) (b : Bool) (j : Job) → b ≡ true → (x ≡ sets (set s k 1) (k + 1) (job_bytes j)) × (length (job_bytes j) ≡ 470)
    → (x ≡ sets s k (slot_bytes (cond b (waiting j) idle))) × (length (slot_bytes (cond b (waiting j) idle)) ≡ 471)
unfolding slot_bytes
waiting-written s x k b j t p = rw t (then s (set s k 1) x (1 ∷ []) (job_bytes j) k 1 refl refl p.0, ap suc p.1)

pub idle-written : (s z : List ℕ) (k : ℕ) (b : Bool) (j : Job) → b ≡ false → k + 471 ≤ length s → z ≡ replicate (length (mid_of k (k + 471 - k) s)) 0
    → (put_mid k (k + 471 - k) s z ≡ sets s k (slot_bytes (cond b (waiting j) idle))) × (length (slot_bytes (cond b (waiting j) idle)) ≡ 471)
unfolding slot_bytes
idle-written s z k b j f h q =
    let l : length (replicate {A = ℕ} 471 0) ≡ 471 = length-replicate {A = ℕ} 471 0 in
    rw f
    (part-cleared s s z k 471 h refl q ∙ sym (sets-eq (replicate {A = ℕ} 471 0) s k (omega (arith, l)) ∙ ap (λ (n : ℕ). take k s ++ replicate {A = ℕ} 471 0 ++ drop (k + n) s) l), l)

-- i slots are written, from byte 1 on
pub record Slots (f : ℕ → List ℕ) (i : ℕ) (s x : List ℕ) : Type 0 where
  pub within : i ≤ 16
  pub kept : length x ≡ length s
  pub long : length (flatten (tabulate i f)) ≡ 471 * i
  pub front : x ≡ sets s 1 (flatten (tabulate i f))

pub slots-none : (f : ℕ → List ℕ) (s : List ℕ) → Slots f 0 s s
unfolding flatten
slots-none f s = record { within = omega arith; kept = refl; long = refl; front = refl }

pub slots-more : (f : ℕ → List ℕ) (i : ℕ) (s x y : List ℕ) → Slots f i s x → i < 16 → (y ≡ sets x (1 + 471 * i) (f i)) × (length (f i) ≡ 471) → Slots f (i + 1) s y
slots-more f i s x y h l w =
    let rows : List ℕ = flatten (tabulate i f) in
    let q : rows ++ f i ≡ flatten (tabulate (i + 1) f) = flatten-more i f ∙ ap (λ (n : ℕ). flatten (tabulate n f)) (sym (add-one i)) in
    record {
      within = omega arith;
      kept = ap length w.0 ∙ length-sets x (1 + 471 * i) (f i) ∙ h.kept;
      long = ap length (sym q) ∙ length_both rows (f i) (471 * i) 471 h.long w.1 ∙ omega arith;
      front = then s x y rows (f i) 1 (471 * i) h.front h.long w.0 ∙ ap (sets s 1) q;
    }

-- the slot of caller i, which waits with its proof where its flag is set
pub slot-more : (flags : List Bool) (jobs : List Job) (i : ℕ) (s x y : List ℕ) (j : Job) → Slots (λ (c : ℕ). slot_bytes (slot_of flags jobs c)) i s x → i < 16
    → j ≡ get_or jobs i nowhere
    → (y ≡ sets x (1 + 471 * i) (slot_bytes (cond (get_or flags i false) (waiting j) idle))) × (length (slot_bytes (cond (get_or flags i false) (waiting j) idle)) ≡ 471)
    → Slots (λ (c : ℕ). slot_bytes (slot_of flags jobs c)) (i + 1) s y
unfolding slot_of
slot-more flags jobs i s x y j h l e w = slots-more (λ (c : ℕ). slot_bytes (slot_of flags jobs c)) i s x y h l (rw e at w)

pub slots_end : (f : ℕ → List ℕ) (i : ℕ) (s x : List ℕ) (b : ℕ) → Slots f i (set s 0 b) x → length s ≡ 7537 → 16 ≤ i → x ≡ b ∷ flatten (tabulate 16 f)
slots_end f i s x b w l h =
    let e : i ≡ 16 = omega (arith, w.within) in
    let rows : List ℕ = flatten (tabulate 16 f) in
    let n : length rows ≡ 7536 = ap (λ (k : ℕ). length (flatten (tabulate k f))) (sym e) ∙ w.long ∙ omega arith in
    let m : 1 + length rows ≡ length (set s 0 b) = omega (arith, n, l, length-set s 0 b) in
    w.front ∙ ap (λ (k : ℕ). sets (set s 0 b) 1 (flatten (tabulate k f))) e ∙ sets-eq rows (set s 0 b) 1 (omega (arith, m))
    ∙ ap₂ (λ (p q : List ℕ). p ++ rows ++ q) (take-suc-set s 0 b (omega arith)) (ap (λ (k : ℕ). drop k (set s 0 b)) m ∙ drop-length (set s 0 b))
    ∙ append-nil (b ∷ rows)

-- the state, by its first byte and its slots
pub state-written : (s : Shared) (x : List ℕ) (b : ℕ) → b ≡ begin (last_served s.begin)
    → x ≡ b ∷ flatten (tabulate 16 (λ (c : ℕ). slot_bytes (slot_of s.waiting s.jobs c))) → x ≡ encode_state (state_of s)
unfolding state_of encode_state
state-written s x b e p = p ∙ ap (λ (k : ℕ). k ∷ flatten (tabulate 16 (λ (c : ℕ). slot_bytes (slot_of s.waiting s.jobs c)))) e
