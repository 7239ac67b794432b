-- Four states in one list: one read and put, the round in parts, and f of each of them.
-- Assumes nothing.
use mathlib.Core.Path.{◌≡◌, refl, sym, ap, ap₂, ◌∙◌}
use mathlib.Core.List.{List, [], ◌∷◌}
use mathlib.Core.Logic.{⊎_elim, ◌≢◌}
use Prim.Native.Nat.{ℕ, zero, suc, ◌+◌, ◌*◌, ◌/◌, ◌%◌, ◌^◌, ◌≤◌, ◌<◌}
use native.Mathlib.Omega.{arith}
use lib.Bits.{bit_xor}
use lib.ListN.{length, get_or, set, replicate}
use lib.Pow.{pow_pos}
use lib.Seq.{ext_get_or}
use native.Mathlib.Numerals.{add-one}
use Rattle.bits.specs.Bits.{tabulate, from_bits}
use Rattle.bits.proofs.Numbers.{eq-or-ne, from_bits-lt, lt-or-le}
use Rattle.bits.proofs.Tabulate.{get_d_tabulate, get_or-tabulate-end, length-tabulate, tabulate-cong, tabulate-get_or}
use Rattle.words.proofs.Fill.{fill-at, fill-length, fill-other}
use Rattle.permutation.specs.Permutation.{StateArray, θ, ρ, π, χ, ι, Rnd, rounds, lane, lanes, lane_array}
use Rattle.permutation.specs.Steps.{round_constant}
use Rattle.permutation.proofs.Agree.{chi-cong, iota-cong, pi-cong, rho-cong}
use Rattle.permutation.proofs.Lanes.{Lanes64, iota-lanes}
use Rattle.permutation.proofs.Rounds.{after, rounds-none, rounds-more}
use Rattle.four.specs.Steps.{state_of, each, put_state, joined, stepped, rounded_by, plane}

-- the four steps one after the other
pub stepped-is : (a t r p s : List ℕ) → t ≡ lanes (θ (lane_array a)) → r ≡ lanes (ρ (lane_array t)) → p ≡ lanes (π (lane_array r))
    → s ≡ lanes (χ (lane_array p)) → s ≡ stepped a
unfolding stepped
stepped-is a t r p s et er ep es =
    let X : StateArray = lane_array a in
    after χ chi-cong (π (ρ (θ X))) p s (after π pi-cong (ρ (θ X)) r p (after ρ rho-cong (θ X) t r et er) ep) es

lanes-length : (X : StateArray) → length (lanes X) ≡ 25
unfolding lanes
lanes-length X = refl

stepped-length : (a : List ℕ) → length (stepped a) ≡ 25
unfolding stepped
stepped-length a = lanes-length (χ (π (ρ (θ (lane_array a)))))

-- five planes one after the other
abbrev planes : List ℕ → List ℕ → List ℕ → List ℕ → List ℕ → List ℕ
planes p q r s t =
    get_or p 0 0 ∷ get_or p 1 0 ∷ get_or p 2 0 ∷ get_or p 3 0 ∷ get_or p 4 0
    ∷ get_or q 0 0 ∷ get_or q 1 0 ∷ get_or q 2 0 ∷ get_or q 3 0 ∷ get_or q 4 0
    ∷ get_or r 0 0 ∷ get_or r 1 0 ∷ get_or r 2 0 ∷ get_or r 3 0 ∷ get_or r 4 0
    ∷ get_or s 0 0 ∷ get_or s 1 0 ∷ get_or s 2 0 ∷ get_or s 3 0 ∷ get_or s 4 0
    ∷ get_or t 0 0 ∷ get_or t 1 0 ∷ get_or t 2 0 ∷ get_or t 3 0 ∷ get_or t 4 0 ∷ []

whole : (a : List ℕ) → length a ≡ 25 → planes (plane 0 a) (plane 1 a) (plane 2 a) (plane 3 a) (plane 4 a) ≡ a
unfolding plane
whole a e =
    let all : planes (plane 0 a) (plane 1 a) (plane 2 a) (plane 3 a) (plane 4 a) ≡ tabulate 25 (λ i. get_or a i 0) = refl in
    all ∙ ap (λ (n : ℕ). tabulate n (λ i. get_or a i 0)) (sym e) ∙ tabulate-get_or a 0

pub planes-joined : (a p q r s t : List ℕ) (c : ℕ) → p ≡ plane 0 (stepped a) → q ≡ plane 1 (stepped a) → r ≡ plane 2 (stepped a)
    → s ≡ plane 3 (stepped a) → t ≡ plane 4 (stepped a) → set (planes p q r s t) 0 (bit_xor (get_or (planes p q r s t) 0 0) c) ≡ rounded_by c a
unfolding rounded_by
planes-joined a p q r s t c ep eq er es et =
    let b : List ℕ = stepped a in
    ap (λ (l : List ℕ). set l 0 (bit_xor (get_or l 0 0) c))
    (ap (λ (x : List ℕ). planes x q r s t) ep ∙ ap (λ (x : List ℕ). planes (plane 0 b) x r s t) eq
    ∙ ap (λ (x : List ℕ). planes (plane 0 b) (plane 1 b) x s t) er ∙ ap (λ (x : List ℕ). planes (plane 0 b) (plane 1 b) (plane 2 b) x t) es
    ∙ ap (planes (plane 0 b) (plane 1 b) (plane 2 b) (plane 3 b)) et ∙ whole b (stepped-length a))

-- the lanes of a state array are numbers of 64 bits
lanes_small : (X : StateArray) → Lanes64 (lanes X)
unfolding lanes lane
lanes_small X k =
    ⊎_elim
    (λ l. rw (get_d_tabulate 25 (λ i. from_bits 64 (X (i % 5) (i / 5))) k 0 l) (from_bits-lt 64 (X (k % 5) (k / 5))))
    (λ l. rw (get_or-tabulate-end 25 (λ i. from_bits 64 (X (i % 5) (i / 5))) k 0 l) (pow_pos 64))
    (lt-or-le k 25)

-- with the constant of the round ir it is the round ir
pub rounded-is : (a : List ℕ) (c ir : ℕ) → c ≡ round_constant ir → rounded_by c a ≡ lanes (Rnd (lane_array a) ir)
unfolding rounded_by stepped Rnd
rounded-is a c ir e =
    let X : StateArray = χ (π (ρ (θ (lane_array a)))) in
    after (λ A. ι A ir) (λ A B k. iota-cong A B k ir) X (lanes X) _ refl (iota-lanes (lanes X) (lanes_small X) (lanes-length X) c ir e)

-- a lane of another state
put_other : (k : ℕ) (b s : List ℕ) (i j : ℕ) → k < 4 → j < 4 → j ≢ k → get_or (put_state k b s) (4 * i + j) 0 ≡ get_or s (4 * i + j) 0
unfolding put_state
put_other k b s i j hk hj n = fill-other (λ t. 4 * t + k) (λ t. get_or b t 0) s 25 (4 * i + j) (λ t l e. n (omega arith))

-- a lane of the state that is put
put_same : (k : ℕ) (b s : List ℕ) (i : ℕ) → k < 4 → i < 25 → length s ≡ 100 → get_or (put_state k b s) (4 * i + k) 0 ≡ get_or b i 0
unfolding put_state
put_same k b s i hk hi e = fill-at (λ t. 4 * t + k) (λ t. get_or b t 0) s 25 i hi (omega arith) (λ u x y. omega arith)

put-length : (k : ℕ) (b s : List ℕ) → length (put_state k b s) ≡ length s
unfolding put_state
put-length k b s = fill-length _ _ s 25

-- the state that is put, and another state
state-same : (k : ℕ) (b s : List ℕ) → k < 4 → length b ≡ 25 → length s ≡ 100 → state_of k (put_state k b s) ≡ b
unfolding state_of
state-same k b s h e l =
    tabulate-cong 25 _ (λ i. get_or b i 0) (λ i q. put_same k b s i h q l) ∙ ap (λ (n : ℕ). tabulate n (λ i. get_or b i 0)) (sym e) ∙ tabulate-get_or b 0

state-other : (k : ℕ) (b s : List ℕ) (j : ℕ) → k < 4 → j < 4 → j ≢ k → state_of j (put_state k b s) ≡ state_of j s
unfolding state_of
state-other k b s j h l n = tabulate-cong 25 _ (λ i. get_or s (4 * i + j) 0) (λ i q. put_other k b s i j h l n)

-- the states of four that are joined
module _ (a b c d : List ℕ) (la : length a ≡ 25) (lb : length b ≡ 25) (lc : length c ≡ 25) (ld : length d ≡ 25) where
  none : List ℕ
  none = replicate 100 0

  size-0 : length none ≡ 100
  unfolding none
  size-0 = refl

  size-1 : length (put_state 0 a none) ≡ 100
  size-1 = put-length 0 a none ∙ size-0

  size-2 : length (put_state 1 b (put_state 0 a none)) ≡ 100
  size-2 = put-length 1 b _ ∙ size-1

  size-3 : length (put_state 2 c (put_state 1 b (put_state 0 a none))) ≡ 100
  size-3 = put-length 2 c _ ∙ size-2

  pub joined-0 : state_of 0 (joined a b c d) ≡ a
  unfolding joined none
  joined-0 =
      state-other 3 d _ 0 (omega arith) (omega arith) (λ e. omega arith) ∙ state-other 2 c _ 0 (omega arith) (omega arith) (λ e. omega arith)
      ∙ state-other 1 b _ 0 (omega arith) (omega arith) (λ e. omega arith) ∙ state-same 0 a none (omega arith) la size-0

  pub joined-1 : state_of 1 (joined a b c d) ≡ b
  unfolding joined none
  joined-1 =
      state-other 3 d _ 1 (omega arith) (omega arith) (λ e. omega arith) ∙ state-other 2 c _ 1 (omega arith) (omega arith) (λ e. omega arith)
      ∙ state-same 1 b (put_state 0 a none) (omega arith) lb size-1

  pub joined-2 : state_of 2 (joined a b c d) ≡ c
  unfolding joined none
  joined-2 =
      state-other 3 d _ 2 (omega arith) (omega arith) (λ e. omega arith) ∙ state-same 2 c (put_state 1 b (put_state 0 a none)) (omega arith) lc size-2

  pub joined-3 : state_of 3 (joined a b c d) ≡ d
  unfolding joined none
  joined-3 = state-same 3 d (put_state 2 c (put_state 1 b (put_state 0 a none))) (omega arith) ld size-3

-- f of the first k states, the others as they were
unfoldable pub each_below : (List ℕ → List ℕ) → ℕ → List ℕ → List ℕ
each_below f zero s = s
each_below f (suc k) s = put_state k (f (state_of k s)) (each_below f k s)

module _ (f : List ℕ → List ℕ) (s : List ℕ) (size : length s ≡ 100) where
  below_length : (k : ℕ) → length (each_below f k s) ≡ 100
  unfolding each_below
  below_length zero = size
  below_length (suc k) = put-length k (f (state_of k s)) (each_below f k s) ∙ below_length k

  below_left : (k i j : ℕ) → k ≤ j → j < 4 → get_or (each_below f k s) (4 * i + j) 0 ≡ get_or s (4 * i + j) 0
  unfolding each_below
  below_left zero i j h l = refl
  below_left (suc k) i j h l =
      put_other k (f (state_of k s)) (each_below f k s) i j (omega arith) l (λ e. omega arith) ∙ below_left k i j (omega arith) l

  below-done : (k i j : ℕ) → k ≤ 4 → j < k → i < 25 → get_or (each_below f k s) (4 * i + j) 0 ≡ get_or (f (state_of j s)) i 0
  unfolding each_below
  below-done zero i j few h l = absurd (omega arith)
  below-done (suc k) i j few h l =
      ⊎_elim
      (λ e. rw e (put_same k (f (state_of k s)) (each_below f k s) i (omega arith) l (below_length k)))
      (λ n.
      put_other k (f (state_of k s)) (each_below f k s) i j (omega arith) (omega arith) n ∙ below-done k i j (omega arith) (omega arith) l)
      (eq-or-ne j k)

  -- state k is as it was
  pub below-state : (k : ℕ) → k < 4 → state_of k (each_below f k s) ≡ state_of k s
  unfolding state_of
  below-state k h = tabulate-cong 25 _ (λ i. get_or s (4 * i + k) 0) (λ i l. below_left k i k (omega arith) h)

  -- f of all four
  pub below_all : each_below f 4 s ≡ each f s
  unfolding each
  below_all =
      let g : ℕ → ℕ = λ j. get_or (f (state_of (j % 4) s)) (j / 4) 0 in
      ext_get_or 0 (each_below f 4 s) (tabulate 100 g) (below_length 4 ∙ sym (length-tabulate 100 g))
      (λ j l.
      let h : j < 100 = omega (arith, below_length 4) in
      let e : j ≡ 4 * (j / 4) + j % 4 = omega arith in
      ap (λ (x : ℕ). get_or (each_below f 4 s) x 0) e ∙ below-done 4 (j / 4) (j % 4) (omega arith) (omega arith) (omega arith)
      ∙ sym (get_d_tabulate 100 g j 0 h))

-- none yet
pub below_none : (f : List ℕ → List ℕ) (s : List ℕ) → s ≡ each_below f 0 s
unfolding each_below
below_none f s = refl

-- one state more
pub below-turn : (f : List ℕ → List ℕ) (s t v b : List ℕ) (k : ℕ) → t ≡ each_below f k s → b ≡ f (state_of k s) → v ≡ put_state k b t → v ≡ each_below f (k + 1) s
unfolding each_below
below-turn f s t v b k e d p = p ∙ ap₂ (put_state k) d e ∙ rw add-one

pub each-length : (f : List ℕ → List ℕ) (s : List ℕ) → length (each f s) ≡ 100
unfolding each
each-length f s = length-tabulate 100 (λ j. get_or (f (state_of (j % 4) s)) (j / 4) 0)

-- a state of f of each
pub each-state : (f : List ℕ → List ℕ) (s : List ℕ) (k : ℕ) → k < 4 → length (f (state_of k s)) ≡ 25 → state_of k (each f s) ≡ f (state_of k s)
unfolding state_of each
each-state f s k h e =
    let g : ℕ → ℕ = λ j. get_or (f (state_of (j % 4) s)) (j / 4) 0 in
    tabulate-cong 25 _ (λ i. get_or (f (state_of k s)) i 0)
    (λ i l.
    let m : (4 * i + k) % 4 ≡ k = omega arith in
    let d : (4 * i + k) / 4 ≡ i = omega arith in
    get_d_tabulate 100 g (4 * i + k) 0 (omega arith) ∙ ap₂ (λ (x y : ℕ). get_or (f (state_of x s)) y 0) m d)
    ∙ ap (λ (n : ℕ). tabulate n (λ i. get_or (f (state_of k s)) i 0)) (sym e) ∙ tabulate-get_or (f (state_of k s)) 0

each-cong : (f g : List ℕ → List ℕ) (s t : List ℕ) → ((k : ℕ) → k < 4 → f (state_of k s) ≡ g (state_of k t)) → each f s ≡ each g t
unfolding each
each-cong f g s t h = tabulate-cong 100 _ (λ j. get_or (g (state_of (j % 4) t)) (j / 4) 0) (λ j l. ap (λ (a : List ℕ). get_or a (j / 4) 0) (h (j % 4) (omega arith)))

-- no round
pub four-none : (s : List ℕ) → length s ≡ 100 → ((k : ℕ) → get_or s k 0 < 2 ^ 64) → s ≡ each (λ a. lanes (rounds 0 (lane_array a))) s
unfolding each state_of
four-none s size small =
    let f : List ℕ → List ℕ = λ a. lanes (rounds 0 (lane_array a)) in
    let g : ℕ → ℕ = λ j. get_or (f (state_of (j % 4) s)) (j / 4) 0 in
    ext_get_or 0 s (tabulate 100 g) (size ∙ sym (length-tabulate 100 g))
    (λ j l.
    let h : j < 100 = omega (arith, size) in
    let e : j ≡ 4 * (j / 4) + j % 4 = omega arith in
    let k : ℕ = j % 4 in
    let own : (i : ℕ) → get_or (state_of k s) i 0 < 2 ^ 64 = λ i.
    ⊎_elim
    (λ q. rw (get_d_tabulate 25 (λ x. get_or s (4 * x + k) 0) i 0 q) (small (4 * i + k)))
    (λ q. rw (get_or-tabulate-end 25 (λ x. get_or s (4 * x + k) 0) i 0 q) (pow_pos 64))
    (lt-or-le i 25) in
    ap (λ (x : ℕ). get_or s x 0) e ∙ sym (get_d_tabulate 25 (λ x. get_or s (4 * x + k) 0) (j / 4) 0 (omega arith))
    ∙ ap (λ (a : List ℕ). get_or a (j / 4) 0) (rounds-none (state_of k s) refl own) ∙ sym (get_d_tabulate 100 g j 0 h))

-- one round more
pub four-more : (s t v : List ℕ) (ir : ℕ) → t ≡ each (λ a. lanes (rounds ir (lane_array a))) s → v ≡ each (λ a. lanes (Rnd (lane_array a) ir)) t
    → v ≡ each (λ a. lanes (rounds (ir + 1) (lane_array a))) s
four-more s t v ir e d =
    let f : List ℕ → List ℕ = λ a. lanes (rounds ir (lane_array a)) in
    let g : List ℕ → List ℕ = λ a. lanes (Rnd (lane_array a) ir) in
    d ∙ ap (each g) e
    ∙ each-cong g (λ a. lanes (rounds (ir + 1) (lane_array a))) (each f s) s
    (λ k h.
    let X : StateArray = lane_array (state_of k s) in
    rounds-more X ir (state_of k (each f s)) (g (state_of k (each f s))) (each-state f s k h (lanes-length (rounds ir X))) refl)
