-- Choosing an instance, and how many are chosen.
-- Assumes nothing.
use native.Mathlib.Omega.{arith}
use native.Mathlib.Nat.{mod-lt}
use native.Mathlib.Numerals.{add-one}
use mathlib.Core.Path.{◌≡◌, refl, sym, ap, ap₂, ◌∙◌}
use mathlib.Core.Bool.{Bool, true, false}
use mathlib.Core.List.{List, [], ◌∷◌, ◌++◌, append_assoc, append-nil}
use Prim.Native.Nat.{ℕ, zero, suc, ◌+◌, ◌-◌, ◌*◌, ◌%◌, ◌≤◌, ◌<◌}
use lib.ListN.{length, get_or, set, take, drop, replicate, length-replicate, length-append, length-drop, drop_of_length-le, get_or-append}
use lib.Seq.{sets, sets-eq, length-sets, length-take-le, take_at, take-suc, take-suc-set, take-set-lt, get_or-take, get_or-set_other, set-append_seam, drop-cons, take_all, append_snoc}
use Rattle.bits.specs.Bytes.{le_at, le_bytes}
use Rattle.bits.proofs.Little.{sets-append, length-le_bytes, le_bytes-lt}
use Rattle.keccak.specs.declared.sponge.Sponge.{Sponge}
use Rattle.keccak.specs.Sponge.{shake256}
use Rattle.keccak.specs.Steps.{padded, squeezes}
use Rattle.keccak.proofs.Absorbing.{Bytes}
use Rattle.keccak.proofs.Squeezing.{shake256-steps}
use Rattle.hashing.specs.Inputs.{bound_of, challenge_input}
use Rattle.choice.specs.Challenge.{choose, drawn, chosen_from, parties_of, beside, instances, hidden_parties, stream_of, challenge_of}
use Rattle.choice.specs.Steps.{ready, Room}
use Rattle.hashing.proofs.Hashes.{bytes-append, bytes_one}

-- the chosen instance at place j is i + j or above
chosen-least : (i : ℕ) (f : List Bool) (j : ℕ) → j < length (chosen_from i f) → i + j ≤ get_or (chosen_from i f) j 0
unfolding chosen_from
chosen-least i [] j h = absurd (omega arith)
chosen-least i (true ∷ f) zero h = omega arith
chosen-least i (true ∷ f) (suc j) h = omega (arith, chosen-least (i + 1) f j (omega arith))
chosen-least i (false ∷ f) j h = omega (arith, chosen-least (i + 1) f j h)

-- the instance at place x among the others goes behind the k chosen ones that are below it
put-chosen : (i x : ℕ) (f : List Bool) (k : ℕ) → x + length (chosen_from i f) < length f → k ≤ length (chosen_from i f)
    → ((j : ℕ) → suc j ≡ k → get_or (chosen_from i f) j 0 < i + x + k) → (k < length (chosen_from i f) → i + x + k < get_or (chosen_from i f) k 0)
    → take k (chosen_from i f) ++ ((i + x + k) ∷ drop k (chosen_from i f)) ≡ chosen_from i (choose x f)
unfolding chosen_from choose
put-chosen i x [] k h w b a = absurd (omega arith)
put-chosen i x (true ∷ f) zero h w b a = absurd (omega (arith, a (omega arith)))
put-chosen i x (true ∷ f) (suc k) h w b a =
    let e : i + x + suc k ≡ i + 1 + x + k = omega arith in
    ap (λ (z : List ℕ). i ∷ z)
    (ap (λ (v : ℕ). take k (chosen_from (i + 1) f) ++ (v ∷ drop k (chosen_from (i + 1) f))) e
    ∙ put-chosen (i + 1) x f k (omega arith) (omega arith) (λ j q. omega (arith, b (suc j) (ap suc q))) (λ q. omega (arith, a (omega arith))))
put-chosen i zero (false ∷ f) zero h w b a = let e : i + 0 + 0 ≡ i = omega arith in ap (λ (v : ℕ). v ∷ chosen_from (i + 1) f) e
put-chosen i zero (false ∷ f) (suc k) h w b a = absurd (omega (arith, b k refl, chosen-least (i + 1) f k (omega arith)))
put-chosen i (suc x) (false ∷ f) k h w b a =
    let e : i + suc x + k ≡ i + 1 + x + k = omega arith in
    ap (λ (v : ℕ). take k (chosen_from (i + 1) f) ++ (v ∷ drop k (chosen_from (i + 1) f))) e
    ∙ put-chosen (i + 1) x f k (omega arith) w (λ j q. omega (arith, b j q)) (λ q. omega (arith, a q))

-- room for one more among the first t, from place t down
module _ (t x : ℕ) (cs : List ℕ) where
  -- the first t
  abbrev C : List ℕ
  C = take t cs

  pub record Moved (k : ℕ) (after : List ℕ) : Type 0 where
    pub within : k ≤ t
    pub above : k < t → x + k < get_or C k 0
    pub free : (v : ℕ) → take (t + 1) (set after k v) ≡ take k C ++ (v ∷ drop k C)

  pub moved_none : t < length cs → Moved t cs
  moved_none h =
      let l : length C ≡ t = length-take-le t cs (omega arith) in
      record {
        within = omega arith;
        above = λ q. absurd (omega arith);
        free = λ v. rw (add-one t, take-suc-set cs t v h, take_all t C (omega (arith, l)), drop_of_length-le C {i = t} (omega (arith, l))) refl;
      }

  -- what is not moved yet
  moved-next : (k : ℕ) (after : List ℕ) → t < length cs → Moved (suc k) after → get_or after k 0 ≡ get_or C k 0
  moved-next k after h m =
      let l : length C ≡ t = length-take-le t cs (omega arith) in
      sym (get_or-take (t + 1) (set after (suc k) 0) k 0 (omega (arith, m.within)) ∙ get_or-set_other after (suc k) k 0 0 (omega arith))
      ∙ (ap (λ (z : List ℕ). get_or z k 0) (m.free 0)
      ∙ (get_or-append (take (suc k) C) (0 ∷ drop (suc k) C) 0 k (omega (arith, length-take-le (suc k) C (omega (arith, l, m.within)))) ∙ get_or-take (suc k) C k 0 (omega arith)))

  -- one more goes up
  moved_more : (k : ℕ) (after : List ℕ) → t < length cs → Moved (suc k) after → x + k < get_or after k 0 → Moved k (set after (suc k) (get_or after k 0))
  moved_more k after h m a =
      let l : length C ≡ t = length-take-le t cs (omega arith) in
      let w : k < length C = omega (arith, l, m.within) in
      let c : ℕ = get_or C k 0 in
      let e : get_or after k 0 ≡ c = moved-next k after h m in
      let p : length (take k C) ≡ k = length-take-le k C (omega arith) in
      let d : take (t + 1) (set after (suc k) c) ≡ take k C ++ (c ∷ c ∷ drop (suc k) C) =
      m.free c ∙ (ap (λ (z : List ℕ). z ++ (c ∷ drop (suc k) C)) (take-suc C k 0 w) ∙ append_snoc (take k C) c (c ∷ drop (suc k) C)) in
      record {
        within = omega (arith, m.within);
        above = λ q. omega (arith, e, a);
        free = λ v. rw (e, take-set-lt (t + 1) (set after (suc k) c) k v (omega (arith, m.within)), d)
            (ap (λ (i : ℕ). set (take k C ++ (c ∷ c ∷ drop (suc k) C)) i v) (sym p)
            ∙ (set-append_seam (take k C) c (c ∷ drop (suc k) C) v ∙ ap (λ (z : List ℕ). take k C ++ (v ∷ z)) (sym (drop-cons C k 0 w))));
      }

  -- the same by the number of those that are not moved yet
  pub moved_down : (k : ℕ) (after : List ℕ) → t < length cs → 0 < k → Moved k after → x + k ≤ get_or after (k - 1) 0 → Moved (k - 1) (set after k (get_or after (k - 1) 0))
  moved_down zero after h p m a = absurd (omega arith)
  moved_down (suc k) after h p m a =
      let e : suc k - 1 ≡ k = omega arith in
      let b : x + suc k ≤ get_or after k 0 = rw e at a in
      rw e (moved_more k after h m (omega (arith, b)))

  -- those that stay are below
  pub room-below : (k : ℕ) (after : List ℕ) → t < length cs → Moved k after → ((j : ℕ) → suc j ≡ k → get_or after j 0 < x + k) → Room t x cs k after
  room-below k after h m b =
      record {
        within = m.within;
        below = λ j q. rw (sym (moved-next j after h (rw (sym q) at m))) (b j q);
        above = m.above;
        free = m.free;
      }

  -- the new one in its place
  pub room-put : (k : ℕ) (after : List ℕ) (f : List Bool) → t < length cs → Room t x cs k after → chosen_from 0 f ≡ take t cs → x + t < length f
      → take (t + 1) (set after k (x + k)) ≡ chosen_from 0 (choose x f)
  room-put k after f h r e w =
      let l : length (chosen_from 0 f) ≡ t = ap length e ∙ length-take-le t cs (omega arith) in
      let z : 0 + x + k ≡ x + k = omega arith in
      r.free (x + k)
      ∙ (ap₂ (λ (v : ℕ) (c : List ℕ). take k c ++ (v ∷ drop k c)) (sym z) (sym e)
      ∙ put-chosen 0 x f k (omega (arith, l)) (omega (arith, l, r.within)) (λ j q. rw (z, e) (r.below j q)) (λ q. rw (z, e) (r.above (omega (arith, l)))))

-- how many are chosen
abbrev count : List Bool → ℕ
count [] = 0
count (true ∷ f) = suc (count f)
count (false ∷ f) = count f

length-chosen : (i : ℕ) (f : List Bool) → length (chosen_from i f) ≡ count f
unfolding chosen_from
length-chosen i [] = refl
length-chosen i (true ∷ f) = ap suc (length-chosen (i + 1) f)
length-chosen i (false ∷ f) = length-chosen (i + 1) f

length-choose : (x : ℕ) (f : List Bool) → length (choose x f) ≡ length f
unfolding choose
length-choose x [] = refl
length-choose x (true ∷ f) = ap suc (length-choose x f)
length-choose zero (false ∷ f) = refl
length-choose (suc x) (false ∷ f) = ap suc (length-choose x f)

count-choose : (x : ℕ) (f : List Bool) → x + count f < length f → count (choose x f) ≡ suc (count f)
unfolding choose
count-choose x [] h = absurd (omega arith)
count-choose x (true ∷ f) h = ap suc (count-choose x f (omega arith))
count-choose zero (false ∷ f) h = refl
count-choose (suc x) (false ∷ f) h = count-choose x f (omega arith)

count_none : (n : ℕ) → count (replicate n false) ≡ 0
count_none zero = refl
count_none (suc n) = count_none n

none-chosen : (i n : ℕ) → chosen_from i (replicate n false) ≡ []
unfolding chosen_from
none-chosen i zero = refl
none-chosen i (suc n) = none-chosen (i + 1) n

pub length-drawn : (M : ℕ) (s : List ℕ) (t : ℕ) → length (drawn M s t) ≡ M
unfolding drawn
length-drawn M s zero = length-replicate M false
length-drawn M s (suc t) = length-choose (le_at 8 s (8 * t) % (M - t)) (drawn M s t) ∙ length-drawn M s t

count-drawn : (M : ℕ) (s : List ℕ) (t : ℕ) → t ≤ M → count (drawn M s t) ≡ t
unfolding drawn
count-drawn M s zero h = count_none M
count-drawn M s (suc t) h =
    let some : 0 < M - t = omega arith in
    let x = le_at 8 s (8 * t) in
    let l : x % (M - t) < M - t = mod-lt x some in
    let c : count (drawn M s t) ≡ t = count-drawn M s t (omega arith) in
    count-choose (x % (M - t)) (drawn M s t) (omega (arith, length-drawn M s t)) ∙ ap suc c

-- t draws choose t instances
pub length-instances : (M : ℕ) (s : List ℕ) (t : ℕ) → t ≤ M → length (chosen_from 0 (drawn M s t)) ≡ t
length-instances M s t h = length-chosen 0 (drawn M s t) ∙ count-drawn M s t h

-- an instance beside its party
pub write-pair : (out : List ℕ) (at i p : ℕ) → set (sets out at (le_bytes 2 i)) (at + 2) p ≡ sets out at (le_bytes 2 i ++ (p ∷ []))
write-pair out at i p = sym (sets-append (le_bytes 2 i) (p ∷ []) out at ∙ ap (λ (k : ℕ). set (sets out at (le_bytes 2 i)) (at + k) p) (length-le_bytes 2 i))

-- where the written part ends
after-pair : (out : List ℕ) (at i p : ℕ) → at + 3 ≤ length out → take (at + 3) (sets out at (le_bytes 2 i ++ (p ∷ []))) ≡ take at out ++ (le_bytes 2 i ++ (p ∷ []))
after-pair out at i p w =
    let vs : List ℕ = le_bytes 2 i ++ (p ∷ []) in
    let n : length vs ≡ 3 = length-append (le_bytes 2 i) (p ∷ []) ∙ omega (arith, length-le_bytes 2 i) in
    rw (sets-eq vs out at (omega arith))
    (take_at (take at out ++ vs) (drop (at + length vs) out) (at + 3) (length-append (take at out) vs ∙ omega (arith, length-take-le at out (omega arith))))

-- one more instance is written beside its party
module _ (is : List ℕ) (n : ℕ) (bytes : List ℕ) where
  pub record Written (out : List ℕ) (k : ℕ) : Type 0 where
    pub within : k ≤ length is
    pub kept : length out ≡ 3 * length is
    pub so_far : take (3 * k) out ++ beside (drop k is) (parties_of n (drop k bytes)) ≡ beside is (parties_of n bytes)

  pub written_none : (out : List ℕ) → length out ≡ 3 * length is → Written out 0
  written_none out e = record { within = omega arith; kept = e; so_far = refl }

  pub written-more : (out out' : List ℕ) (k : ℕ) → length bytes ≡ length is → Written out k → k < length is
      → out' ≡ sets out (3 * k) (le_bytes 2 (get_or is k 0) ++ (get_or bytes k 0 % n ∷ [])) → Written out' (k + 1)
  unfolding parties_of beside
  written-more out out' k l w h o =
      let i : ℕ = get_or is k 0 in
      let p : ℕ = get_or bytes k 0 % n in
      let d : drop k is ≡ i ∷ drop (k + 1) is = rw (add-one k) (drop-cons is k 0 h) in
      let r : drop k bytes ≡ get_or bytes k 0 ∷ drop (k + 1) bytes = rw (add-one k) (drop-cons bytes k 0 (omega arith)) in
      let rest : List ℕ = beside (drop (k + 1) is) (parties_of n (drop (k + 1) bytes)) in
      let three : 3 * (k + 1) ≡ 3 * k + 3 = omega arith in
      let t : take (3 * (k + 1)) out' ≡ take (3 * k) out ++ (le_bytes 2 i ++ (p ∷ [])) = rw (o, three) (after-pair out (3 * k) i p (omega (arith, w.kept))) in
      let s : take (3 * k) out ++ (le_bytes 2 i ++ (p ∷ rest)) ≡ beside is (parties_of n bytes) = rw (d, r) at w.so_far in
      record {
        within = omega arith;
        kept = ap length o ∙ (length-sets out (3 * k) (le_bytes 2 i ++ (p ∷ [])) ∙ w.kept);
        so_far = rw t (simp append_assoc s);
      }

  pub written_all : (out : List ℕ) (k : ℕ) → Written out k → length is ≤ k → out ≡ beside is (parties_of n bytes)
  unfolding beside
  written_all out k w h =
      let d : drop k is ≡ [] = drop_of_length-le is {i = k} h in
      sym (append-nil (take (3 * k) out) ∙ take_all (3 * k) out (omega (arith, w.kept))) ∙ rw d at w.so_far

-- instances drawn from the stream S
module _ (M : ℕ) (S : List ℕ) where
  -- one more, by the next 8 bytes
  pub draw-more : (t v : ℕ) (c c' : List ℕ) → t < M → v ≡ le_at 8 S (8 * t) → take t c ≡ chosen_from 0 (drawn M S t)
      → ((f : List Bool) → chosen_from 0 f ≡ take t c → v % (M - t) + t < length f → take (t + 1) c' ≡ chosen_from 0 (choose (v % (M - t)) f))
      → take (t + 1) c' ≡ chosen_from 0 (drawn M S (t + 1))
  unfolding drawn
  draw-more t v c c' h n e g =
      let l : v % (M - t) < M - t = mod-lt v (omega arith) in
      g (drawn M S t) (sym e) (omega (arith, length-drawn M S t))
      ∙ (ap (λ (y : ℕ). chosen_from 0 (choose (y % (M - t)) (drawn M S t))) n ∙ ap (λ (k : ℕ). chosen_from 0 (drawn M S k)) (sym (add-one t)))

  pub draw-none : (c : List ℕ) → take 0 c ≡ chosen_from 0 (drawn M S 0)
  unfolding drawn
  draw-none c = sym (none-chosen 0 M)

  pub draw-all : (t : ℕ) (c : List ℕ) → length c ≤ t → t ≤ length c → take t c ≡ chosen_from 0 (drawn M S t) → c ≡ instances M (length c) S
  unfolding instances
  draw-all t c w h e = let n : t ≡ length c = omega arith in sym (take_all t c w) ∙ (e ∙ ap (λ (k : ℕ). chosen_from 0 (drawn M S k)) n)

-- the instances are drawn by the first 8 bytes for each, their parties by the bytes after these
pub chosen_is : (M n : ℕ) (bytes given cs chosen out : List ℕ) → given ≡ bytes → length bytes ≡ 9 * length cs → chosen ≡ instances M (length cs) given
    → out ≡ beside chosen (parties_of n (take (length given - 8 * length cs) (drop (8 * length cs) given)))
    → out ≡ beside (instances M (length cs) bytes) (hidden_parties (length cs) n bytes)
unfolding hidden_parties
chosen_is M n bytes given cs chosen out g l e o =
    let k : ℕ = 8 * length cs in
    let r : take (length given - k) (drop k given) ≡ drop k bytes =
    take_all (length given - k) (drop k given) (omega (arith, length-drop k given)) ∙ ap (drop k) g in
    o ∙ ap₂ (λ (i p : List ℕ). beside i (parties_of n p)) (e ∙ ap (instances M (length cs)) g) r

-- the challenge's input is bytes
bytes-challenge : (h g : List ℕ) → Bytes h → Bytes g → Bytes (challenge_input h g)
unfolding challenge_input
bytes-challenge h g p q = bytes-append ((6 ∷ []) ++ h) g (bytes-append (6 ∷ []) h (bytes_one 6 (omega arith)) p) q

-- and so is what it is bound to
pub bytes-bound : (s : List ℕ) (M tau n : ℕ) (d y m : List ℕ) → Bytes s → Bytes d → Bytes y → Bytes m → Bytes (bound_of s M tau n d y m)
unfolding bound_of
bytes-bound s M tau n d y m o p q r =
    let a = bytes-append (le_bytes 2 M) (le_bytes 2 tau) (le_bytes-lt 2 M) (le_bytes-lt 2 tau) in
    let b = bytes-append (le_bytes 2 M ++ le_bytes 2 tau) (le_bytes 1 n) a (le_bytes-lt 1 n) in
    let front : List ℕ = s ++ (le_bytes 2 M ++ le_bytes 2 tau ++ le_bytes 1 n) in
    let e = bytes-append front d (bytes-append s (le_bytes 2 M ++ le_bytes 2 tau ++ le_bytes 1 n) o b) p in
    let f = bytes-append (front ++ d) y e q in
    let g = bytes-append (front ++ d ++ y) (le_bytes 2 (length m)) f (le_bytes-lt 2 (length m)) in
    bytes-append (front ++ d ++ y ++ le_bytes 2 (length m)) m g r

-- the challenge, from the sponge that has taken in its input
pub challenge-is : (M tau n : ℕ) (h g : List ℕ) (s : Sponge) (o : List ℕ) → Bytes h → Bytes g → s ≡ ready (challenge_input h g)
    → o ≡ beside (instances M tau (squeezes 136 (9 * tau) s)) (hidden_parties tau n (squeezes 136 (9 * tau) s)) → o ≡ challenge_of M tau n h g
unfolding challenge_of stream_of ready
challenge-is M tau n h g s o p q e k =
    let t : squeezes 136 (9 * tau) s ≡ shake256 (challenge_input h g) (9 * tau) =
    ap (squeezes 136 (9 * tau)) e ∙ shake256-steps (challenge_input h g) (9 * tau) (bytes-challenge h g p q) in
    k ∙ ap (λ (z : List ℕ). beside (instances M tau z) (hidden_parties tau n z)) t

-- before the first byte of the challenge's stream
pub ready-start : (M : List ℕ) (s : Sponge) → s ≡ ready M → s.fill ≡ 0
unfolding ready padded
ready-start M s e = ap (λ (z : Sponge). z.fill) e
