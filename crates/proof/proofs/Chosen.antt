-- The chosen instances of a challenge: there are tau of them, and so there is one.
-- Assumes nothing.
use mathlib.Core.Path.{◌≡◌, refl, sym, ap, ◌∙◌}
use mathlib.Core.Bool.{true}
use mathlib.Core.List.{List, [], ◌∷◌}
use mathlib.Core.Logic.{⊎_elim}
use Prim.Native.Nat.{ℕ, zero, suc, ◌+◌, ◌≤◌, ◌<◌}
use native.Mathlib.Omega.{arith}
use borrow.Author.Tests.{eq-eqb, ne_eqb}
use lib.ListN.{length}
use Rattle.bits.specs.Bits.{bit_val}
use Rattle.bits.proofs.Numbers.{lt-or-le}
use Rattle.cover.specs.Cover.{those}
use Rattle.cover.proofs.Search.{length-those}
use Rattle.choice.specs.Challenge.{stream_of, instances, hidden_parties, Ascending, more}
use Rattle.choice.proofs.Challenges.{challenge-sound}
use Rattle.seeds.specs.Operations.{are_counts}
use Rattle.seeds.proofs.Instances.{Fit, counts-fit}
use Rattle.instance.specs.Instance.{Asked, opened, hiding, is_chosen}
use Rattle.proof.specs.Protocol.{asked, challenged}
use Rattle.proof.specs.File.{hides}

-- one instance i more is chosen
module _ (i p : ℕ) (is ps : List ℕ) where
  -- it is asked to hide p
  asked-first : asked (i ∷ is) (p ∷ ps) i ≡ hiding p
  unfolding asked
  asked-first = rw (eq-eqb i i refl)

  -- of the others the same is asked
  pub others-stay : (j : ℕ) → (i ≡ j → ⊥) → asked (i ∷ is) (p ∷ ps) j ≡ asked is ps j
  unfolding asked
  others-stay j m = rw (ne_eqb i j m)

-- instances from lo on: none before is chosen
none_before : (hi lo : ℕ) (is ps : List ℕ) → Ascending hi lo is → (j : ℕ) → j < lo → asked is ps j ≡ opened
none_before hi lo [] ps a j h = unfold asked in refl
none_before hi lo (i ∷ is) [] a j h = unfold asked in refl
none_before hi lo (i ∷ is) (p ∷ ps) (more l u a) j h =
    others-stay i p is ps j (λ e. omega (arith, e, l, h)) ∙ none_before hi (i + 1) is ps a j (omega (arith, l, h))

-- whether an instance counts as chosen
bit-opened : (a : Asked) → a ≡ opened → bit_val (is_chosen a) ≡ 0
unfolding is_chosen
bit-opened a e = ap (λ (x : Asked). bit_val (is_chosen x)) e

bit-hiding : (a : Asked) (p : ℕ) → a ≡ hiding p → bit_val (is_chosen a) ≡ 1
unfolding is_chosen
bit-hiding a p e = ap (λ (x : Asked). bit_val (is_chosen x)) e

-- the number of chosen instances below m
abbrev chosen : (ℕ → Asked) → ℕ → ℕ
chosen ask m = length (those m (hides ask))

-- where none is chosen
none-chosen : (ask : ℕ → Asked) → ((j : ℕ) → ask j ≡ opened) → (m : ℕ) → chosen ask m ≡ 0
none-chosen ask h zero = unfold those in refl
none-chosen ask h (suc m) =
    omega (arith, length-those m (hides ask), none-chosen ask h m, bit-opened (ask m) (h m))

-- one instance i more is chosen
module _ (i p : ℕ) (is ps : List ℕ) (new : asked is ps i ≡ opened) where
  -- another counts as before
  same_bit : (m : ℕ) → (i ≡ m → ⊥) → bit_val (hides (asked (i ∷ is) (p ∷ ps)) m) ≡ bit_val (hides (asked is ps) m)
  same_bit m ne = ap (λ (a : Asked). bit_val (is_chosen a)) (others-stay i p is ps m ne)

  -- up to it as many are chosen as without it
  as_many : (m : ℕ) → m ≤ i → chosen (asked (i ∷ is) (p ∷ ps)) m ≡ chosen (asked is ps) m
  as_many zero h = unfold those in refl
  as_many (suc m) h =
      omega (
        arith,
        length-those m (hides (asked (i ∷ is) (p ∷ ps))),
        length-those m (hides (asked is ps)),
        as_many m (omega (arith, h)),
        same_bit m (λ e. omega (arith, e, h)),
      )

  -- after it one more
  one_more : (m : ℕ) → i < m → chosen (asked (i ∷ is) (p ∷ ps)) m ≡ suc (chosen (asked is ps) m)
  one_more zero h = absurd (omega (arith, h))
  one_more (suc m) h =
      let e1 = length-those m (hides (asked (i ∷ is) (p ∷ ps))) in
      let e2 = length-those m (hides (asked is ps)) in
      ⊎_elim (λ (l : i < m). omega (arith, e1, e2, one_more m l, same_bit m (λ e. omega (arith, e, l))))
      (λ (l : m ≤ i).
      let q : i ≡ m = omega (arith, h, l) in
      let b1 = bit-hiding (asked (i ∷ is) (p ∷ ps) m) p (ap (asked (i ∷ is) (p ∷ ps)) (sym q) ∙ asked-first i p is ps) in
      let b2 = bit-opened (asked is ps m) (ap (asked is ps) (sym q) ∙ new) in
      omega (arith, e1, e2, b1, b2, as_many m l))
      (lt-or-le i m)

-- instances below M, ascending: as many are chosen as there are in the list
count-ascending : (M lo : ℕ) (is ps : List ℕ) → Ascending M lo is → length is ≡ length ps → length (those M (hides (asked is ps))) ≡ length is
count-ascending M lo [] ps a e = none-chosen (asked [] ps) (λ j. unfold asked in refl) M
count-ascending M lo (i ∷ is) [] a e = absurd (omega (arith, e))
count-ascending M lo (i ∷ is) (p ∷ ps) (more l u a) e =
    one_more i p is ps (none_before M (i + 1) is ps a i (omega arith)) M u ∙ ap suc (count-ascending M (i + 1) is ps a (omega (arith, e)))

-- one of them
first-chosen : (M lo : ℕ) (is ps : List ℕ) → Ascending M lo is → 1 ≤ length is → length is ≡ length ps
    → (p : ℕ) × (p < M) × (hides (asked is ps) p ≡ true)
first-chosen M lo [] ps a s e = absurd (omega (arith, s))
first-chosen M lo (i ∷ is) [] a s e = absurd (omega (arith, e))
first-chosen M lo (i ∷ is) (p ∷ ps) (more l u a) s e = (i, u, unfold is_chosen in ap is_chosen (asked-first i p is ps))

-- a challenge of tau of M instances
module _ (M tau n : ℕ) (hstar bound : List ℕ) (counts : are_counts M tau ≡ true) (some : 0 < n) where
  -- tau instances are chosen
  pub count-chosen : length (those M (hides (challenged M tau n hstar bound))) ≡ tau
  unfolding challenged
  count-chosen =
      let fit : Fit M tau = counts-fit M tau counts in
      let s = challenge-sound M tau n hstar bound (omega (arith, fit.below)) some in
      count-ascending M 0 (instances M tau (stream_of tau hstar bound)) (hidden_parties tau n (stream_of tau hstar bound)) s.ascending
      (s.count ∙ sym s.paired)
      ∙ s.count

  -- so there is one
  pub some-chosen : (p : ℕ) × (p < M) × (hides (challenged M tau n hstar bound) p ≡ true)
  unfolding challenged
  some-chosen =
      let fit : Fit M tau = counts-fit M tau counts in
      let s = challenge-sound M tau n hstar bound (omega (arith, fit.below)) some in
      first-chosen M 0 (instances M tau (stream_of tau hstar bound)) (hidden_parties tau n (stream_of tau hstar bound)) s.ascending
      (omega (arith, s.count, fit.some))
      (s.count ∙ sym s.paired)
