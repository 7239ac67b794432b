-- The loop that writes the values of the numbers that pass, 16 bytes each, one after the other.
-- Assumes nothing.
use native.Mathlib.Omega.{arith}
use native.Mathlib.Numerals.{add-one}
use mathlib.Core.Path.{◌≡◌, refl, sym, ap, ◌∙◌}
use mathlib.Core.Bool.{Bool, true, false}
use mathlib.Core.List.{List, [], ◌∷◌, ◌++◌, map, flatten, append_assoc, append-nil}
use Prim.Native.Nat.{ℕ, ◌+◌, ◌-◌, ◌*◌, ◌≤◌, ◌<◌}
use lib.ListN.{length, take, drop, length-append}
use lib.Seq.{take_at, take_all, length-take-le}
use borrow.Rule.Slice.PartMut.{put_mid, mid_of, same_len_mid, mid_len}
use Rattle.cover.specs.Cover.{those}
use Rattle.cover.proofs.Rebuilding.{place-lt}

module _ (p : ℕ → Bool) (value : ℕ → List ℕ) where
  -- the first `at` bytes hold the values of the numbers below k that pass
  pub record Written (k at : ℕ) (out : List ℕ) : Type 0 where
    pub place : at ≡ 16 * length (those k p)
    pub held : take at out ≡ flatten (map value (those k p))

  pub written_none : (out : List ℕ) → Written 0 0 out
  unfolding those flatten
  written_none out = record { place = refl; held = refl }

  pub room : (n k at : ℕ) (out : List ℕ) → Written k at out → k < n → p k ≡ true → length out ≡ 16 * length (those n p) → at + 16 ≤ length out
  room n k at out w l t e = omega (arith, place-lt p k n l t, w.place)

  those-skip : (k : ℕ) → p k ≡ false → those (k + 1) p ≡ those k p
  unfolding those
  those-skip k e = rw (add-one, e) (append-nil (those k p))

  those-take : (k : ℕ) → p k ≡ true → those (k + 1) p ≡ those k p ++ (k ∷ [])
  unfolding those
  those-take k e = rw (add-one, e)

  pub written-skip : (k at : ℕ) (out : List ℕ) → Written k at out → p k ≡ false → Written (k + 1) at out
  written-skip k at out w e = record { place = rw (those-skip k e) w.place; held = rw (those-skip k e) w.held }

  values-snoc : (xs : List ℕ) (k : ℕ) → flatten (map value (xs ++ (k ∷ []))) ≡ flatten (map value xs) ++ value k
  unfolding flatten
  values-snoc [] k = append-nil (value k)
  values-snoc (x ∷ xs) k = ap (λ (s : List ℕ). value x ++ s) (values-snoc xs k) ∙ sym (append_assoc (value x) (flatten (map value xs)) (value k))

  pub written-more : (k at : ℕ) (out v : List ℕ) → Written k at out → p k ≡ true → at + 16 ≤ length out
      → length v ≡ length (mid_of at (at + 16 - at) out) → v ≡ value k → Written (k + 1) (at + 16) (put_mid at (at + 16 - at) out v)
  written-more k at out v w t fits l e =
      let n : length v ≡ 16 = l ∙ mid_len at (at + 16) out fits ∙ omega arith in
      let a : length (take at out) ≡ at = length-take-le at out (omega arith) in
      let post : List ℕ = drop (at + 16 - at) (drop at out) in
      record {
        place = rw (those-take k t, length-append (those k p) (k ∷ [])) (omega (arith, w.place));
        held =
            ap (take (at + 16)) (sym (append_assoc (take at out) v post))
            ∙ take_at (take at out ++ v) post (at + 16) (length-append (take at out) v ∙ omega arith)
            ∙ rw (those-take k t, values-snoc (those k p) k, w.held, e) refl;
      }

  pub written_all : (n k at : ℕ) (out : List ℕ) → Written k at out → k ≤ n → n ≤ k → length out ≡ 16 * length (those n p) → out ≡ flatten (map value (those n p))
  written_all n k at out w a b l =
      let e : k ≡ n = omega arith in
      let q : length out ≤ at = omega (arith, w.place, ap (λ (m : ℕ). length (those m p)) e) in
      sym (take_all at out q) ∙ w.held ∙ ap (λ (m : ℕ). flatten (map value (those m p))) e

  -- one turn of the loop, whose branch leaves out' and at'
  module _ (N k at at' : ℕ) (out out' : List ℕ) (w : Written k at out) (e : length out ≡ N) where
    pub turn_more : (v : List ℕ) → p k ≡ true → at + 16 ≤ length out → length v ≡ length (mid_of at (at + 16 - at) out) → v ≡ value k
        → out' ≡ put_mid at (at + 16 - at) out v → at' ≡ at + 16 → (length out' ≡ N) × Written (k + 1) at' out'
    turn_more v t fits m q a b = (ap length a ∙ same_len_mid at (at + 16 - at) out v m ∙ e, rw (a, b) (written-more k at out v w t fits m q))

    pub turn-skip : p k ≡ false → out' ≡ out → at' ≡ at → (length out' ≡ N) × Written (k + 1) at' out'
    turn-skip t a b = (ap length a ∙ e, rw (a, b) (written-skip k at out w t))
