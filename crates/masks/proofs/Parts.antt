-- A memory with a part stored over it: what stands before the part and after it, and bytes and bits put into it.
-- Assumes nothing.
use mathlib.Core.Path.{◌≡◌, refl, sym, ap, ap₂, ◌∙◌}
use mathlib.Core.Bool.{Bool}
use mathlib.Core.List.{List, [], ◌∷◌, ◌++◌, append_assoc}
use mathlib.Core.Logic.{inl}
use Prim.Native.Nat.{ℕ, zero, suc, ◌+◌, ◌-◌, ◌*◌, ◌/◌, ◌%◌, ◌^◌, ◌≤◌, ◌<◌}
use native.Mathlib.Nat.{add-zero}
use native.Mathlib.Numerals.{add-one}
use native.Mathlib.Omega.{arith}
use lib.ListN.{length, get_or, set, take, drop, replicate, length-replicate, length-drop, replicate-append-replicate, take-append-drop}
use lib.Seq.{sets, sets-eq, set_comm, set-set, drop-set-lt, drop_at, length-take-le, take-add, take_at}
use Rattle.bits.specs.Bits.{bit_val, test_bit, bit_at}
use Rattle.bits.specs.Steps.{put_bit}
use Rattle.bits.proofs.Little.{get_d_sets, get_or-sets-other, sets-append}
use Rattle.words.specs.Steps.{at, fill}
use Rattle.masks.specs.Steps.{cleared}

-- a byte before the part
pub byte-before : (vs m : List ℕ) (k i : ℕ) → i < k → at (sets m k vs) i ≡ at m i
byte-before vs m k i h = get_or-sets-other 0 vs m k i (inl h)

-- a bit before it
pub bit-before : (vs m : List ℕ) (k q : ℕ) → q < 8 * k → bit_at (sets m k vs) q ≡ bit_at m q
unfolding bit_at
bit-before vs m k q h = ap (λ (x : ℕ). test_bit x (q % 8)) (byte-before vs m k (q / 8) (omega arith))

-- a store before it
pub set_before : (vs m : List ℕ) (k i x : ℕ) → i < k → set (sets m k vs) i x ≡ sets (set m i x) k vs
set_before [] m k i x h = refl
set_before (v ∷ vs) m k i x h =
    set_before vs (set m k v) (suc k) i x (omega arith) ∙ ap (λ (w : List ℕ). sets w (suc k) vs) (set_comm m k i v x (omega arith))

-- a store within it
set-within : (vs m : List ℕ) (k i x : ℕ) → i < length vs → set (sets m k vs) (k + i) x ≡ sets m k (set vs i x)
set-within [] m k i x h = absurd (omega arith)
set-within (v ∷ vs) m k zero x h =
    ap (λ (j : ℕ). set (sets (set m k v) (suc k) vs) j x) (add-zero k) ∙ set_before vs (set m k v) (suc k) k x (omega arith)
    ∙ ap (λ (w : List ℕ). sets w (suc k) vs) (set-set m k v x)
set-within (v ∷ vs) m k (suc i) x h =
    let e : k + suc i ≡ suc k + i = omega arith in
    ap (λ (j : ℕ). set (sets (set m k v) (suc k) vs) j x) e ∙ set-within vs (set m k v) (suc k) i x (omega arith)

-- a bit put within it
pub put-within : (vs m : List ℕ) (k t : ℕ) (b : Bool) → k + length vs ≤ length m → t < 8 * length vs
    → put_bit (sets m k vs) (8 * k + t) b ≡ sets m k (put_bit vs t b)
unfolding put_bit
put-within vs m k t b h l =
    let w : List ℕ = sets m k vs in
    let e : (8 * k + t) / 8 ≡ k + t / 8 = omega arith in
    let d : (8 * k + t) % 8 ≡ t % 8 = omega arith in
    let f : ℕ → ℕ → ℕ = λ x z. x - bit_val (test_bit x z) * 2 ^ z + bit_val b * 2 ^ z in
    ap₂ (λ (j z : ℕ). set w j (f (get_or w j 0) z)) e d
    ∙ ap (λ (x : ℕ). set w (k + t / 8) (f x (t % 8))) (get_d_sets 0 vs m k (t / 8) h (omega arith))
    ∙ set-within vs m k (t / 8) (f (get_or vs (t / 8) 0) (t % 8)) (omega arith)

-- a part stored over another
pub sets_over : (us vs m : List ℕ) (k : ℕ) → length us ≡ length vs → sets (sets m k us) k vs ≡ sets m k vs
sets_over [] [] m k e = refl
sets_over [] (v ∷ vs) m k e = absurd (omega arith)
sets_over (u ∷ us) [] m k e = absurd (omega arith)
sets_over (u ∷ us) (v ∷ vs) m k e =
    ap (λ (w : List ℕ). sets w (suc k) vs) (set_before us (set m k u) (suc k) k v (omega arith))
    ∙ ap (λ (w : List ℕ). sets (sets w (suc k) us) (suc k) vs) (set-set m k u v) ∙ sets_over us vs (set m k v) (suc k) (omega arith)

-- the part that stands there already
pub sets_same : (m : List ℕ) (k n : ℕ) → k + n ≤ length m → m ≡ sets m k (take n (drop k m))
sets_same m k n h =
    let v : List ℕ = take n (drop k m) in
    let e : length v ≡ n = length-take-le n (drop k m) (rw length-drop (omega arith)) in
    sym
    (sets-eq v m k (omega (arith, e)) ∙ ap (λ (i : ℕ). take k m ++ v ++ drop (k + i) m) e
    ∙ ap (λ (w : List ℕ). w ++ drop (k + n) m) (sym (take-add k n m)) ∙ take-append-drop (k + n) m)

-- what stands after it
pub drop-sets : (vs m : List ℕ) (k j : ℕ) → k + length vs ≤ j → drop j (sets m k vs) ≡ drop j m
drop-sets [] m k j h = refl
drop-sets (v ∷ vs) m k j h = drop-sets vs (set m k v) (suc k) j (omega arith) ∙ drop-set-lt j m k v (omega arith)

-- the part itself
pub part-sets : (vs m : List ℕ) (k n : ℕ) → length vs ≡ n → k + n ≤ length m → take n (drop k (sets m k vs)) ≡ vs
part-sets vs m k n e h =
    let rest : List ℕ = drop (k + length vs) m in
    ap (λ (w : List ℕ). take n (drop k w)) (sets-eq vs m k (omega arith) ∙ append_assoc (take k m) vs rest)
    ∙ ap (take n) (drop_at (take k m) (vs ++ rest) k (length-take-le k m (omega arith))) ∙ take_at vs rest n e

-- zeros, as a part
pub clear-part : (to len : ℕ) (m : List ℕ) → cleared to len m ≡ sets m to (replicate len 0)
unfolding cleared fill
clear-part to zero m = refl
clear-part to (suc n) m =
    let z : List ℕ = replicate n 0 in
    ap (λ (w : List ℕ). set w (to + n) 0) (clear-part to n m) ∙ ap (λ (i : ℕ). set (sets m to z) (to + i) 0) (sym (length-replicate {A = ℕ} n 0))
    ∙ sym (sets-append z (0 ∷ []) m to) ∙ ap (sets m to) (replicate-append-replicate n 1 0 ∙ ap (λ (i : ℕ). replicate i 0) (add-one n))

-- a fill before place k
pub drop-fill : (pos f : ℕ → ℕ) (m : List ℕ) (n k : ℕ) → ((t : ℕ) → t < n → pos t < k) → drop k (fill pos f n m) ≡ drop k m
unfolding fill
drop-fill pos f m zero k h = refl
drop-fill pos f m (suc n) k h = drop-set-lt k (fill pos f n m) (pos n) (f n) (h n (omega arith)) ∙ drop-fill pos f m n k (λ t l. h t (omega arith))
