-- An array that a loop fills from its front, and the struct read.
-- Assumes nothing.
use mathlib.Core.Path.{◌≡◌, refl, sym, ap, ap₂, ◌∙◌, fun_ext}
use mathlib.Core.Bool.{Bool, true, false, cond, not}
use mathlib.Core.List.{List, [], ◌∷◌, ◌++◌}
use mathlib.Core.Logic.{⊎_elim}
use Prim.Native.Nat.{ℕ, zero, suc, ◌+◌, ◌*◌, ◌%◌, ◌≤◌, ◌<◌}
use native.Mathlib.Numerals.{add-one}
use native.Mathlib.Omega.{arith}
use borrow.Author.Tests.{lt-ltb, le-ltb}
use lib.Dec.{eqb}
use lib.ListN.{length, get_or, set, take, length-set}
use lib.Seq.{take-suc-set, take_all}
use Rattle.bits.specs.Bits.{tabulate}
use Rattle.bits.specs.Bytes.{le_at}
use Rattle.bits.proofs.Numbers.{lt-or-le}
use Rattle.bits.proofs.Tabulate.{get_d_tabulate, get_or-tabulate-end}
use Rattle.keccak.specs.declared.sponge.Sponge.{Sponge}
use Rattle.schedule.specs.Schedule.{Slot, idle, waiting}
use Rattle.schedule.specs.Callers.{last_served}
use Rattle.shared.specs.declared.Place.{Place}
use Rattle.shared.specs.declared.Places.{Places}
use Rattle.shared.specs.declared.Job.{Job}
use Rattle.shared.specs.StateSteps.{nowhere, slot_of, state_of}
use Rattle.state_bytes.specs.Bytes.{slot_length, place_at, places_at, sponge_at, job_in, slot_in, decode_state}
use Rattle.state_bytes.specs.Steps.{flag_in, job_of}

module _ {A : Type 0} where
  -- one place more
  tabulate-more : (i : ℕ) (f : ℕ → A) → tabulate i f ++ (f i ∷ []) ≡ tabulate (suc i) f
  tabulate-more zero f = refl
  tabulate-more (suc i) f = ap (λ (t : List A). f 0 ∷ t) (tabulate-more i (λ k. f (suc k)))

  -- n places, of which the first i hold f 0, .., f (i - 1)
  pub record Filled (n : ℕ) (f : ℕ → A) (i : ℕ) (l : List A) : Type 0 where
    pub within : i ≤ n
    pub long : length l ≡ n
    pub front : take i l ≡ tabulate i f

  pub filled_none : (n : ℕ) (f : ℕ → A) (l : List A) → length l ≡ n → Filled n f 0 l
  filled_none n f l e = record { within = omega arith; long = e; front = refl }

  pub filled_more : (n : ℕ) (f : ℕ → A) (i : ℕ) (l : List A) (v : A) → Filled n f i l → i < n → v ≡ f i → Filled n f (i + 1) (set l i v)
  filled_more n f i l v h m e =
      record {
        within = omega arith;
        long = length-set l i v ∙ h.long;
        front =
            ap (λ (k : ℕ). take k (set l i v)) (add-one i) ∙ take-suc-set l i v (omega (arith, h.long))
            ∙ ap₂ (λ (t : List A) (x : A). t ++ (x ∷ [])) h.front e ∙ tabulate-more i f ∙ ap (λ (k : ℕ). tabulate k f) (sym (add-one i));
      }

  pub filled-end : (n : ℕ) (f : ℕ → A) (i : ℕ) (l : List A) → Filled n f i l → n ≤ i → l ≡ tabulate n f
  filled-end n f i l h m =
      let e : i ≡ n = omega (arith, h.within) in
      sym (take_all i l (omega (arith, h.long))) ∙ h.front ∙ ap (λ (k : ℕ). tabulate k f) e

-- an element inside is the same whatever stands for those beyond
pub get_or-inside : {A : Type 0} (l : List A) (i : ℕ) (d e : A) → i < length l → get_or l i d ≡ get_or l i e
get_or-inside [] i d e h = absurd (omega arith)
get_or-inside (x ∷ l) zero d e h = refl
get_or-inside (x ∷ l) (suc i) d e h = get_or-inside l i d e (omega arith)

-- a struct, by its fields
pub place-made : (s : List ℕ) (at a b : ℕ) → a ≡ le_at 8 s at → b ≡ le_at 8 s (at + 8) → ◌≡◌ {A = Place} (record { start = a; len = b }) (place_at s at)
unfolding place_at
place-made s at a b p q = rw (p, q)

pub places-made : (s : List ℕ) (at : ℕ) (a b c d : Place) → a ≡ place_at s at → b ≡ place_at s (at + 16) → c ≡ place_at s (at + 32) → d ≡ place_at s (at + 48)
    → ◌≡◌ {A = Places} (record { circuit = a; y = b; message = c; proof = d }) (places_at s at)
unfolding places_at
places-made s at a b c d p q r t = rw (p, q, r, t)

pub sponge-made : (s : List ℕ) (at : ℕ) (l : List ℕ) (x : ℕ) → l ≡ tabulate 25 (λ i. le_at 8 s (at + 8 * i)) → x ≡ get_or s (at + 200) 0 % 136
    → ◌≡◌ {A = Sponge} (record { lanes = l; fill = x }) (sponge_at s at)
unfolding sponge_at
sponge-made s at l x p q = rw (p, q)

pub job-made : (s : List ℕ) (at : ℕ) (p : Places) (n : ℕ) (h g : Sponge) → p ≡ places_at s at → n ≡ le_at 4 s (at + 64) → h ≡ sponge_at s (at + 68) → g ≡ sponge_at s (at + 269)
    → ◌≡◌ {A = Job} (record { places = p; next = n; digests = record { commitments = h; online = g } }) (job_in s at)
unfolding job_in
job-made s at p n h g a b c d = rw (a, b, c, d)

-- the slots that flags and proofs make
slot-made : (s : List ℕ) (k : ℕ) (j : Job) → j ≡ job_in s (k + 1) → cond (not (eqb (get_or s k 0) 0)) (waiting j) idle ≡ slot_in s k
unfolding slot_in
slot-made s k j e = rw e (by-case (eqb (get_or s k 0) 0))
  where
    by-case : (b : Bool) → cond (not b) (waiting (job_in s (k + 1))) idle ≡ cond b idle (waiting (job_in s (k + 1)))
    by-case true = refl
    by-case false = refl

pub state-read : (s : List ℕ) (b : ℕ) (flags : List Bool) (jobs : List Job) → b ≡ get_or s 0 0 → flags ≡ tabulate 16 (flag_in s) → jobs ≡ tabulate 16 (job_of s)
    → state_of (record { begin = b; waiting = flags; jobs = jobs }) ≡ decode_state s
unfolding state_of slot_of decode_state
state-read s b flags jobs e f g =
    rw (e, f, g)
    (ap (λ (x : ℕ → Slot Job). record { last = last_served (get_or s 0 0); slot = x })
    (fun_ext λ c.
    ⊎_elim
    (λ (l : c < 16).
    rw (lt-ltb c 16 l, get_d_tabulate 16 (flag_in s) c false l)
    (slot-made s (1 + slot_length * c) (get_or (tabulate 16 (job_of s)) c nowhere)
    (get_d_tabulate 16 (job_of s) c nowhere l ∙ ap (job_in s) (omega arith))))
    (λ (l : 16 ≤ c). rw (le-ltb c 16 l, get_or-tabulate-end 16 (flag_in s) c false l))
    (lt-or-le c 16)))
