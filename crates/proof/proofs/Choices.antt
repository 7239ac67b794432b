-- The table of the bytes of a challenge, filled three bytes at a time from the end.
-- Assumes nothing.
use mathlib.Core.Path.{◌≡◌, refl, sym, ap, ap₂, ◌∙◌}
use mathlib.Core.Bool.{Bool, cond}
use mathlib.Core.List.{List, [], ◌∷◌}
use Prim.Native.Nat.{ℕ, zero, suc, ◌+◌, ◌-◌, ◌*◌, ◌/◌, ◌≤◌, ◌<◌}
use native.Mathlib.Numerals.{add-one}
use native.Mathlib.Omega.{arith}
use lib.Dec.{eqb, eqb-zero-suc, eqb-suc-zero, eqb-suc-suc}
use lib.ListN.{length, get_or, set, drop, replicate, length-drop}
use lib.Seq.{drop-cons, set_out}
use Rattle.bits.specs.Bits.{tabulate}
use Rattle.bits.specs.Bytes.{le_at}
use Rattle.bits.proofs.Tabulate.{tabulate-cong}
use Rattle.proof.specs.Steps.{party_in, table_of}

-- fewer than three bytes choose no instance
few-none : (n j : ℕ) (s : List ℕ) → length s < 3 → party_in n j s ≡ n
unfolding party_in
few-none n j [] h = refl
few-none n j (a ∷ []) h = refl
few-none n j (a ∷ b ∷ []) h = refl
few-none n j (a ∷ b ∷ p ∷ s) h = absurd (omega arith)

-- the three bytes at a place, and the rest
three-more : (s : List ℕ) (at : ℕ) → at + 3 ≤ length s → drop at s ≡ get_or s at 0 ∷ get_or s (at + 1) 0 ∷ get_or s (at + 2) 0 ∷ drop (at + 3) s
three-more s at h =
    let one : drop at s ≡ get_or s at 0 ∷ drop (at + 1) s = drop-cons s at 0 (omega arith) ∙ ap (λ (i : ℕ). get_or s at 0 ∷ drop i s) (sym (add-one at)) in
    let e2 : suc (at + 1) ≡ at + 2 = omega arith in
    let e3 : suc (at + 2) ≡ at + 3 = omega arith in
    let two : drop (at + 1) s ≡ get_or s (at + 1) 0 ∷ drop (at + 2) s =
    drop-cons s (at + 1) 0 (omega arith) ∙ ap (λ (i : ℕ). get_or s (at + 1) 0 ∷ drop i s) e2 in
    let three : drop (at + 2) s ≡ get_or s (at + 2) 0 ∷ drop (at + 3) s =
    drop-cons s (at + 2) 0 (omega arith) ∙ ap (λ (i : ℕ). get_or s (at + 2) 0 ∷ drop i s) e3 in
    one ∙ ap (λ (t : List ℕ). get_or s at 0 ∷ t) (two ∙ ap (λ (t : List ℕ). get_or s (at + 1) 0 ∷ t) three)

-- the number in two bytes
two_bytes : (s : List ℕ) (at : ℕ) → le_at 2 s at ≡ get_or s at 0 + 256 * get_or s (at + 1) 0
unfolding le_at
two_bytes s at = omega arith

-- one chosen instance more
choices-more : (n j : ℕ) (s : List ℕ) (at : ℕ) → at + 3 ≤ length s
    → party_in n j (drop at s) ≡ cond (eqb (le_at 2 s at) j) (get_or s (at + 2) 0) (party_in n j (drop (at + 3) s))
unfolding party_in
choices-more n j s at h =
    ap (party_in n j) (three-more s at h)
    ∙ ap (λ (x : ℕ). cond (eqb x j) (get_or s (at + 2) 0) (party_in n j (drop (at + 3) s))) (sym (two_bytes s at))

-- an entry inside is the same whatever stands for none
pub entry-inside : (s : List ℕ) (n j : ℕ) → j < length s → get_or s j 0 ≡ get_or s j n
entry-inside [] n j h = absurd (omega arith)
entry-inside (x ∷ s) n zero h = refl
entry-inside (x ∷ s) n (suc j) h = entry-inside s n j (omega arith)

-- equal entries
same-table : (M n : ℕ) → replicate M n ≡ tabulate M (λ j. n)
same-table zero n = refl
same-table (suc M) n = ap (λ (t : List ℕ). n ∷ t) (same-table M n)

-- another entry i
set-table : (M : ℕ) (f g : ℕ → ℕ) (i p : ℕ) → ((j : ℕ) → g j ≡ cond (eqb i j) p (f j)) → set (tabulate M f) i p ≡ tabulate M g
set-table zero f g i p h = refl
set-table (suc M) f g zero p h =
    ap₂ ◌∷◌ (sym (h 0))
    (tabulate-cong M (λ j. f (suc j)) (λ j. g (suc j))
    (λ j l. sym (h (suc j) ∙ ap (λ (b : Bool). cond b p (f (suc j))) (eqb-zero-suc j))))
set-table (suc M) f g (suc i) p h =
    ap₂ ◌∷◌ (sym (h 0 ∙ ap (λ (b : Bool). cond b p (f 0)) (eqb-suc-zero i)))
    (set-table M (λ j. f (suc j)) (λ j. g (suc j)) i p (λ j. h (suc j) ∙ ap (λ (b : Bool). cond b p (f (suc j))) (eqb-suc-suc i j)))

-- no instance is entered: the rest after the last whole three chooses none
pub table_none : (M n : ℕ) (s t : List ℕ) → t ≡ replicate M n → t ≡ table_of M n (drop (3 * (length s / 3)) s)
unfolding table_of
table_none M n s t e =
    e ∙ same-table M n
    ∙ tabulate-cong M (λ j. n) (λ j. party_in n j (drop (3 * (length s / 3)) s))
    (λ j l. sym (few-none n j (drop (3 * (length s / 3)) s) (omega (arith, length-drop (3 * (length s / 3)) s))))

-- the turn before, where k threes are left, and the three name instance x
module _ (M n : ℕ) (s t : List ℕ) (k x : ℕ) (some : 0 < k) (inside : 3 * k ≤ length s) (read : x ≡ le_at 2 s (3 * (k - 1)))
    (known : t ≡ table_of M n (drop (3 * k) s)) where
  turn : set t x (get_or s (3 * (k - 1) + 2) 0) ≡ table_of M n (drop (3 * (k - 1)) s)
  unfolding table_of
  turn =
      let e : 3 * (k - 1) + 3 ≡ 3 * k = omega arith in
      let p : ℕ = get_or s (3 * (k - 1) + 2) 0 in
      ap (λ (l : List ℕ). set l x p) known
      ∙ set-table M (λ j. party_in n j (drop (3 * k) s)) (λ j. party_in n j (drop (3 * (k - 1)) s)) x p
      (λ j. choices-more n j s (3 * (k - 1)) (omega arith)
      ∙ ap₂ (λ (y : ℕ) (i : ℕ). cond (eqb y j) p (party_in n j (drop i s))) (sym read) e)

  -- it has an entry
  pub turn-entered : (y : ℕ) → y ≡ x → set t y (get_or s (3 * (k - 1) + 2) 0) ≡ table_of M n (drop (3 * (k - 1)) s)
  turn-entered y e = ap (λ (i : ℕ). set t i (get_or s (3 * (k - 1) + 2) 0)) e ∙ turn

  -- it has none
  pub turn-beyond : length t ≤ x → t ≡ table_of M n (drop (3 * (k - 1)) s)
  turn-beyond l = sym (set_out t x (get_or s (3 * (k - 1) + 2) 0) l) ∙ turn

-- no threes are left
pub table-whole : (M n : ℕ) (s t : List ℕ) (k : ℕ) → k ≤ 0 → t ≡ table_of M n (drop (3 * k) s) → t ≡ table_of M n s
table-whole M n s t k h e =
    let z : 3 * k ≡ 0 = omega arith in
    e ∙ ap (λ (i : ℕ). table_of M n (drop i s)) z
