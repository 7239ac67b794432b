-- Fields as bytes: their number, the fields that are read again, their order, and that every file is its fields.
-- Assumes nothing.
use mathlib.Core.Path.{◌≡◌, refl, sym, ap, ap₂, subst, ◌∙◌, fun_ext}
use mathlib.Core.List.{List, [], ◌∷◌, ◌++◌}
use mathlib.Core.Logic.{inl, ⊎_elim}
use Prim.{tt}
use Prim.Native.Nat.{ℕ, zero, suc, ◌+◌, ◌-◌, ◌*◌, ◌%◌, ◌≤◌, ◌<◌}
use native.Mathlib.Omega.{arith}
use lib.ListN.{length, get_or, take, drop, length-append, get_or-append}
use lib.Seq.{take-add, drop-drop, take_all, get_or-append-add}
use Rattle.bits.specs.Bits.{tabulate}
use Rattle.bits.specs.Bytes.{le_at, le_bytes}
use Rattle.bits.proofs.Little.{length-le_bytes, le_at-le_bytes, le_bytes-lt, le_bytes-le_at}
use Rattle.bits.proofs.Numbers.{lt-or-le}
use Rattle.bits.proofs.Tabulate.{tabulate-cong}
use Rattle.circuit.specs.Fields.{field}
use Rattle.circuit.specs.File.{width}
use Rattle.circuit.proofs.Places.{le_at-left, le_at-right}
use Rattle.small.specs.Order.{Before}
use Rattle.small.specs.Small.{in_bytes}
use Rattle.small.proofs.Order.{before-append}

pub bytes-length : (xs : List ℕ) → length (in_bytes xs) ≡ width * length xs
unfolding in_bytes
bytes-length [] = refl
bytes-length (x ∷ xs) = omega (arith, length-append (le_bytes width x) (in_bytes xs), length-le_bytes width x, bytes-length xs)

pub bytes-byte : (xs : List ℕ) (i : ℕ) → get_or (in_bytes xs) i 0 < 256
unfolding in_bytes
bytes-byte [] i = omega arith
bytes-byte (x ∷ xs) i =
    let n = length-le_bytes width x in
    ⊎_elim
    (λ l. subst (λ (y : ℕ). y < 256) (sym (get_or-append (le_bytes width x) (in_bytes xs) 0 i (omega arith))) (le_bytes-lt width x i))
    (λ l.
    let j : ℕ = i - 4 in
    let e : i ≡ length (le_bytes width x) + j = omega arith in
    subst (λ (y : ℕ). y < 256)
    (sym (ap (λ (k : ℕ). get_or (le_bytes width x ++ in_bytes xs) k 0) e ∙ get_or-append-add (le_bytes width x) (in_bytes xs) j 0)) (bytes-byte xs j))
    (lt-or-le i 4)

-- there is nothing in an empty string
nothing : (j : ℕ) → le_at width [] j ≡ 0
unfolding le_at
nothing j = omega arith

-- the fields are read again
pub bytes-at : (xs : List ℕ) (k : ℕ) → ((i : ℕ) → get_or xs i 0 < 4294967296) → field width (in_bytes xs) k ≡ get_or xs k 0
unfolding in_bytes field
bytes-at [] k small = nothing (width * k)
bytes-at (x ∷ xs) zero small =
    let m : x % 4294967296 ≡ x = omega (arith, small 0) in
    le_at-left width (le_bytes width x) (in_bytes xs) 0 (omega (arith, length-le_bytes width x)) ∙ le_at-le_bytes width x ∙ m
bytes-at (x ∷ xs) (suc k) small =
    le_at-right width (le_bytes width x) (in_bytes xs) (width * suc k) (width * k) (omega (arith, length-le_bytes width x))
    ∙ bytes-at xs k (λ i. small (suc i))

pub bytes-fields : (xs : List ℕ) → ((i : ℕ) → get_or xs i 0 < 4294967296) → field width (in_bytes xs) ≡ (λ k. get_or xs k 0)
bytes-fields xs small = fun_ext (λ k. bytes-at xs k small)

first : (y : ℕ) (t : List ℕ) → Before [] (le_bytes width y ++ t)
unfolding Before le_bytes
first y t = tt

lower : (x y : ℕ) (s t : List ℕ) → x % 256 < y % 256 → Before (le_bytes width x ++ s) (le_bytes width y ++ t)
unfolding Before le_bytes
lower x y s t l = inl l

-- fields of one byte are in the order of their bytes
pub bytes-before : (xs ys : List ℕ) → ((i : ℕ) → get_or xs i 0 < 256) → ((i : ℕ) → get_or ys i 0 < 256) → Before xs ys → Before (in_bytes xs) (in_bytes ys)
unfolding Before in_bytes
bytes-before [] [] p q h = h
bytes-before [] (y ∷ ys) p q h = first y (in_bytes ys)
bytes-before (x ∷ xs) [] p q h = absurd h
bytes-before (x ∷ xs) (y ∷ ys) p q h =
    ⊎_elim (λ l. lower x y (in_bytes xs) (in_bytes ys) (omega (arith, p 0, q 0)))
    (λ e.
    subst (λ (z : ℕ). Before (le_bytes width x ++ in_bytes xs) (le_bytes width z ++ in_bytes ys)) e.0
    (before-append (le_bytes width x) (in_bytes xs) (in_bytes ys) (bytes-before xs ys (λ i. p (suc i)) (λ i. q (suc i)) e.1))) h

-- n fields from field k on
module _ (s : List ℕ) (byte : (i : ℕ) → get_or s i 0 < 256) where
  fields-from : (n k : ℕ) → width * (k + n) ≤ length s → in_bytes (tabulate n (λ i. field width s (k + i))) ≡ take (width * n) (drop (width * k) s)
  unfolding in_bytes field
  fields-from zero k h = refl
  fields-from (suc n) k h =
      let p : width * (k + 0) ≡ width * k = omega arith in
      let q : width * suc n ≡ width + width * n = omega arith in
      let r : width * k + width ≡ width * suc k = omega arith in
      ap₂ ◌++◌
      (ap (λ (i : ℕ). le_bytes width (le_at width s i)) p ∙ le_bytes-le_at width s (width * k) byte (omega arith))
      (ap in_bytes (tabulate-cong n _ (λ i. field width s (suc k + i)) (λ i l. let e : k + suc i ≡ suc k + i = omega arith in ap (λ (j : ℕ). le_at width s (width * j)) e))
      ∙ fields-from n (suc k) (omega arith)
      ∙ ap (λ (i : ℕ). take (width * n) (drop i s)) (sym r)
      ∙ ap (take (width * n)) (sym (drop-drop width (width * k) s)))
      ∙ sym (take-add width (width * n) (drop (width * k) s))
      ∙ ap (λ (i : ℕ). take i (drop (width * k) s)) (sym q)

  -- a file of n fields is their bytes
  pub bytes_whole : (n : ℕ) → length s ≡ width * n → s ≡ in_bytes (tabulate n (field width s))
  bytes_whole n h =
      sym
      (ap in_bytes (tabulate-cong n (field width s) (λ i. field width s (0 + i)) (λ i l. let e : i ≡ 0 + i = omega arith in ap (field width s) e))
      ∙ fields-from n 0 (omega arith)
      ∙ take_all (width * n) s (omega arith))
