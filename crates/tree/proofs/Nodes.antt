-- The rules of the tree at a height that is not 0, and the room for its node numbers.
-- Assumes nothing.
use native.Mathlib.Omega.{arith}
use native.Mathlib.Nat.{pow-succ', one-mul, pow-le-pow_right, mod-eq_of_lt, mul_assoc, mul_comm, mul-le-mul_right}
use native.Mathlib.Numerals.{add-one}
use mathlib.Core.Path.{◌≡◌, sym, ap, ◌∙◌}
use mathlib.Core.List.{List, [], ◌∷◌, ◌++◌, append-nil}
use Prim.Native.Nat.{ℕ, suc, ◌+◌, ◌-◌, ◌*◌, ◌/◌, ◌%◌, ◌^◌, ◌≤◌, ◌<◌}
use mathlib.Core.Logic.{⊎_elim}
use Rattle.hashing.specs.declared.Context.{Context}
use Rattle.bits.proofs.Numbers.{lt-or-le}
use borrow.Author.Tests.{lt-ltb, le-ltb}
use lib.Pow.{pow_pos, pow-lt}
use lib.ListN.{length, take, drop, replicate, length-append, length-take, length-drop, drop_of_length-le}
use lib.Seq.{take_all, take_at, drop_at, length-take-le}
use borrow.Rule.Slice.PartMut.{put_mid}
use mir.Syntax.{w32}
use mir.Val.{Fits}
use Rattle.tree.specs.Tree.{children, left_child, right_child, leaves_below, siblings_below, opened_below}

-- what is left of a height that is not 0
one_less : (h : ℕ) → (h ≡ 0 → ⊥) → h ≡ suc (h - 1)
one_less h more = omega (arith, add-one (h - 1), more)

pub pow-half : (h : ℕ) → (h ≡ 0 → ⊥) → 2 ^ h ≡ 2 * 2 ^ (h - 1)
pow-half h more = ap (λ (x : ℕ). 2 ^ x) (one_less h more) ∙ pow-succ' 2 (h - 1)

-- 1 moved up by h places
pub one_shl : (h : ℕ) → h < 32 → 1 * 2 ^ h % 4294967296 ≡ 2 ^ h
one_shl h w = rw (one-mul (2 ^ h)) (mod-eq_of_lt (pow-lt w))

-- a height whose leaves are few is below 32
pow-short : (x : ℕ) → 2 ^ x ≤ 32768 → x < 32
pow-short x w = ⊎_elim (λ l. l) (λ g. let m : 2 ^ 32 ≤ 2 ^ x = pow-le-pow_right {n = 2} (omega arith) g in absurd (omega arith)) (lt-or-le x 32)

-- the room below node k at a height h that is not 0: for its children's numbers, and for the leaves below each
pub record Room (k h : ℕ) : Type 0 where
  pub some : 1 ≤ h
  pub number : k < 32768
  pub half : 2 ^ h ≡ 2 * 2 ^ (h - 1)
  pub small : 2 ^ (h - 1) ≤ 32768
  pub short : h - 1 < 32
  pub left : (2 * k + 1) * 2 ^ (h - 1) ≤ 65536
  pub right : (2 * k + 1 + 1) * 2 ^ (h - 1) ≤ 65536

pub room : (k h : ℕ) → (h ≡ 0 → ⊥) → (k + 1) * 2 ^ h ≤ 65536 → Room k h
room k h more fits =
    let x : ℕ = 2 ^ (h - 1) in
    let half : 2 ^ h ≡ 2 * x = pow-half h more in
    let two : (k + 1) * 2 ≡ 2 * k + 1 + 1 = omega arith in
    let both : (k + 1) * 2 ^ h ≡ (2 * k + 1 + 1) * x = ap (λ (y : ℕ). (k + 1) * y) half ∙ sym (mul_assoc (k + 1) 2 x) ∙ ap (λ (y : ℕ). y * x) two in
    let right : (2 * k + 1 + 1) * x ≤ 65536 = omega arith in
    let less : (2 * k + 1) * x ≤ (2 * k + 1 + 1) * x = mul-le-mul_right x (omega arith) in
    let pos : 0 < x = pow_pos (h - 1) in
    let one : (2 * k + 1 + 1) * 1 ≤ (2 * k + 1 + 1) * x = rw (mul_comm (2 * k + 1 + 1) 1, mul_comm (2 * k + 1 + 1) x) (mul-le-mul_right (2 * k + 1 + 1) pos) in
    let two-x : 2 * x ≤ (2 * k + 1 + 1) * x = mul-le-mul_right x (omega arith) in
    record { some = omega (arith, more); number = omega arith; half = half; small = omega arith; short = pow-short (h - 1) (omega arith); left = omega arith; right = right }

-- a list of which the first a places were lent and written, then the others
pub both-parts : (out L R : List ℕ) (a : ℕ) → length L ≡ a
    → put_mid a (length (L ++ drop a out) - a) (L ++ drop a out) R ≡ L ++ R
both-parts out L R a l =
    let W : List ℕ = L ++ drop a out in
    let none : drop (length W - a) (drop a W) ≡ [] = drop_of_length-le (drop a W) {i = length W - a} (rw (length-drop a W) (omega arith)) in
    rw (take_at L (drop a out) a l) (ap (λ (z : List ℕ). L ++ (R ++ z)) none ∙ ap (λ (z : List ℕ). L ++ z) (append-nil R))

-- that list's length
pub both-length : (out L : List ℕ) (a : ℕ) → length L ≡ a → a ≤ length out → length (L ++ drop a out) ≡ length out
both-length out L a l w = rw (length-append, length-drop) (omega arith)

-- what is lent of it as the second part
pub second-part : (out L : List ℕ) (a : ℕ) → length L ≡ a → a ≤ length out
    → length (take (length (L ++ drop a out) - a) (drop a (L ++ drop a out))) ≡ length out - a
second-part out L a l w =
    rw (drop_at L (drop a out) a l, both-length out L a l w)
    (rw (length-take, length-drop) (omega arith))

-- both written, the list has its length
pub both-kept : (out L R : List ℕ) (a : ℕ) → length L ≡ a → a ≤ length out
    → length R ≡ length (take (length (L ++ drop a out) - a) (drop a (L ++ drop a out)))
    → length (put_mid a (length (L ++ drop a out) - a) (L ++ drop a out) R) ≡ length out
both-kept out L R a l w r =
    let e : length R ≡ length out - a = r ∙ second-part out L a l w in
    ap length (both-parts out L R a l) ∙ (length-append L R ∙ omega arith)

-- the two children in 32 bytes
pub left-part : (j : Context) (k : ℕ) (v c : List ℕ) → c ≡ children j k v → take 16 c ≡ left_child j k v
unfolding left_child
left-part j k v c e = ap (take 16) e

pub right-part : (j : Context) (k : ℕ) (v c : List ℕ) → c ≡ children j k v → length c ≡ 32 → take 16 (drop 16 c) ≡ right_child j k v
unfolding right_child
right-part j k v c e l = take_all 16 (drop 16 c) (rw length-drop (omega arith)) ∙ ap (drop 16) e

-- the length of the right child, and of its part
pub right-length : (c : List ℕ) → length c ≡ 32 → length (take 16 (drop 16 c)) ≡ 16
right-length c l = length-take-le 16 (drop 16 c) (rw length-drop (omega arith))

-- what is left after the first sibling
pub rest-length : (s : List ℕ) → length (take (length s - 16) (drop 16 s)) ≡ length s - 16
rest-length s = length-take-le (length s - 16) (drop 16 s) (rw length-drop (omega arith))

-- the height of a child is below that of its node
pub falls-one : {t h : ℕ} → h ≡ t → 1 ≤ h → h - 1 < t
falls-one e some = omega arith

-- the numbers of a node's children fit 32 bits
pub twice-fits : {k h : ℕ} → Room k h → Fits w32 (2 * k)
twice-fits r = record { fits = omega arith }

pub twice-one-fits : {k h : ℕ} → Room k h → Fits w32 (2 * k + 1)
twice-one-fits r = record { fits = omega arith }

-- leaf p of the right child
pub right-leaf : {k h p half : ℕ} → Room k h → half ≡ 2 ^ (h - 1) → half ≤ p → p < 2 ^ h → p - half < 2 ^ (h - 1)
right-leaf r e w v = omega arith

-- the first 16 of 16 h places
pub first_fits : {h n : ℕ} → 1 ≤ h → n ≡ 16 * h → 16 ≤ n
first_fits some e = omega arith

pub first-length : {h : ℕ} (s : List ℕ) → 1 ≤ h → length s ≡ 16 * h → length (take 16 s) ≡ 16
first-length s some e = length-take-le 16 s (first_fits some e)

pub left-length : (c : List ℕ) → length c ≡ 32 → length (take 16 c) ≡ 16
left-length c l = length-take-le 16 c (omega arith)

-- what is left of 16 h places
pub rest-is : (h : ℕ) (s : List ℕ) → length s ≡ 16 * h → length (take (length s - 16) (drop 16 s)) ≡ 16 * (h - 1)
rest-is h s e = rest-length s ∙ omega arith

-- half of the places
pub half_le : (n : ℕ) → n / 2 ≤ n
half_le n = omega arith

pub half_length : (out : List ℕ) → length (take (length out / 2) out) ≡ length out / 2
half_length out = length-take-le (length out / 2) out (half_le (length out))

pub half_of : (n : ℕ) (out : List ℕ) → length out ≡ 2 * n → length (take (length out / 2) out) ≡ n
half_of n out o = half_length out ∙ omega arith

pub half_is : {k h : ℕ} (out : List ℕ) → Room k h → length out ≡ 16 * 2 ^ h → length (take (length out / 2) out) ≡ 16 * 2 ^ (h - 1)
half_is out r o = half_of _ out (omega arith)

-- places of which the first half is written
module _ (out L : List ℕ) (l : length L ≡ length (take (length out / 2) out)) where
  pub halves-room : length out / 2 ≤ length (L ++ drop (length out / 2) out)
  halves-room = rw (both-length out L (length out / 2) (l ∙ half_length out) (half_le (length out))) (half_le (length out))

  pub second-of : (n : ℕ) → length out ≡ 2 * n
      → length (take (length (L ++ drop (length out / 2) out) - length out / 2) (drop (length out / 2) (L ++ drop (length out / 2) out))) ≡ n
  second-of n o = second-part out L (length out / 2) (l ∙ half_length out) (half_le (length out)) ∙ omega arith

  pub halves-second : {k h : ℕ} → Room k h → length out ≡ 16 * 2 ^ h
      → length (take (length (L ++ drop (length out / 2) out) - length out / 2) (drop (length out / 2) (L ++ drop (length out / 2) out))) ≡ 16 * 2 ^ (h - 1)
  halves-second r o = second-of _ (omega arith)

  pub halves-kept : (R : List ℕ) → length R ≡ length (take (length (L ++ drop (length out / 2) out) - length out / 2) (drop (length out / 2) (L ++ drop (length out / 2) out)))
      → length (put_mid (length out / 2) (length (L ++ drop (length out / 2) out) - length out / 2) (L ++ drop (length out / 2) out) R) ≡ length out
  halves-kept R = both-kept out L R (length out / 2) (l ∙ half_length out) (half_le (length out))

-- 16 h places, of which the first 16 are written
module _ (h : ℕ) (out L : List ℕ) (some : 1 ≤ h) (o : length out ≡ 16 * h) (l : length L ≡ length (take 16 out)) where
  pub first-room : 16 ≤ length (L ++ drop 16 out)
  first-room = rw (both-length out L 16 (l ∙ first-length out some o) (first_fits some o)) (first_fits some o)

  pub first-second : length (take (length (L ++ drop 16 out) - 16) (drop 16 (L ++ drop 16 out))) ≡ 16 * (h - 1)
  first-second = second-part out L 16 (l ∙ first-length out some o) (first_fits some o) ∙ omega arith

  pub first-kept : (R : List ℕ) → length R ≡ length (take (length (L ++ drop 16 out) - 16) (drop 16 (L ++ drop 16 out)))
      → length (put_mid 16 (length (L ++ drop 16 out) - 16) (L ++ drop 16 out) R) ≡ length out
  first-kept R = both-kept out L R 16 (l ∙ first-length out some o) (first_fits some o)

-- a leaf is its own subtree
pub leaves_none : (j : Context) (k h : ℕ) (v : List ℕ) → h ≡ 0 → v ≡ leaves_below j h k v
unfolding leaves_below
leaves_none j k h v e = rw e

-- a node's subtree is the same rule applied to its two children
pub leaves-more : (j : Context) (k h : ℕ) (v : List ℕ) → (h ≡ 0 → ⊥)
    → leaves_below j h k v ≡ leaves_below j (h - 1) (2 * k) (left_child j k v) ++ leaves_below j (h - 1) (2 * k + 1) (right_child j k v)
unfolding leaves_below
leaves-more j k h v more = ap (λ (x : ℕ). leaves_below j x k v) (one_less h more)

-- what the two calls below node k leave in the lent leaves
pub leaves-joined : (j : Context) (k h : ℕ) (v c out L R : List ℕ) → (h ≡ 0 → ⊥) → length out ≡ 16 * 2 ^ h
    → c ≡ children j k v → length c ≡ 32
    → length L ≡ length (take (length out / 2) out)
    → L ≡ leaves_below j (h - 1) (2 * k) (take 16 c)
    → R ≡ leaves_below j (h - 1) (2 * k + 1) (take 16 (drop 16 c))
    → put_mid (length out / 2) (length (L ++ drop (length out / 2) out) - length out / 2) (L ++ drop (length out / 2) out) R ≡ leaves_below j h k v
leaves-joined j k h v c out L R more o e n l p q =
    both-parts out L R (length out / 2) (l ∙ length-take-le _ out (omega arith))
    ∙ (rw (p, q, left-part j k v c e, right-part j k v c e n) (sym (leaves-more j k h v more)))

-- no siblings at height 0
pub siblings-none : (j : Context) (k h p : ℕ) (v out : List ℕ) → h ≡ 0 → length out ≡ 16 * h → out ≡ siblings_below j h k p v
unfolding siblings_below
siblings-none j k h p v [] e l = rw e
siblings-none j k h p v (x ∷ out) e l = absurd (omega arith)

-- leaf p is below the left child, or below the right one
pub siblings-left : (j : Context) (k h p : ℕ) (v : List ℕ) → (h ≡ 0 → ⊥) → p < 2 ^ (h - 1)
    → siblings_below j h k p v ≡ right_child j k v ++ siblings_below j (h - 1) (2 * k) p (left_child j k v)
unfolding siblings_below
siblings-left j k h p v more w = ap (λ (x : ℕ). siblings_below j x k p v) (one_less h more) ∙ rw (lt-ltb _ _ w)

pub siblings-right : (j : Context) (k h p : ℕ) (v : List ℕ) → (h ≡ 0 → ⊥) → 2 ^ (h - 1) ≤ p
    → siblings_below j h k p v ≡ left_child j k v ++ siblings_below j (h - 1) (2 * k + 1) (p - 2 ^ (h - 1)) (right_child j k v)
unfolding siblings_below
siblings-right j k h p v more w = ap (λ (x : ℕ). siblings_below j x k p v) (one_less h more) ∙ rw (le-ltb _ _ w)

pub opened-left : (j : Context) (k h p : ℕ) (s : List ℕ) → (h ≡ 0 → ⊥) → p < 2 ^ (h - 1)
    → opened_below j h k p s ≡ opened_below j (h - 1) (2 * k) p (drop 16 s) ++ leaves_below j (h - 1) (2 * k + 1) (take 16 s)
unfolding opened_below
opened-left j k h p s more w = ap (λ (x : ℕ). opened_below j x k p s) (one_less h more) ∙ rw (lt-ltb _ _ w)

pub opened-right : (j : Context) (k h p : ℕ) (s : List ℕ) → (h ≡ 0 → ⊥) → 2 ^ (h - 1) ≤ p
    → opened_below j h k p s ≡ leaves_below j (h - 1) (2 * k) (take 16 s) ++ opened_below j (h - 1) (2 * k + 1) (p - 2 ^ (h - 1)) (drop 16 s)
unfolding opened_below
opened-right j k h p s more w = ap (λ (x : ℕ). opened_below j x k p s) (one_less h more) ∙ rw (le-ltb _ _ w)

pub opened-none : (j : Context) (k h p : ℕ) (s : List ℕ) (n : ℕ) → h ≡ 0 → n ≡ 16 * 2 ^ h → replicate n 0 ≡ opened_below j h k p s
unfolding opened_below
opened-none j k h p s n e l = rw (l, e)

-- what a copy and a call leave in the lent siblings
module _ (j : Context) (k h p half : ℕ) (v c out L R : List ℕ) (more : h ≡ 0 → ⊥) (is : half ≡ 2 ^ (h - 1)) (e : c ≡ children j k v) (n : length c ≡ 32) where
  pub siblings-joined-left : p < half → L ≡ take 16 (drop 16 c) → R ≡ siblings_below j (h - 1) (2 * k) p (take 16 c)
      → put_mid 16 (length (L ++ drop 16 out) - 16) (L ++ drop 16 out) R ≡ siblings_below j h k p v
  siblings-joined-left w l r =
      both-parts out L R 16 (ap length l ∙ right-length c n)
      ∙ (rw (l, r, left-part j k v c e, right-part j k v c e n) (sym (siblings-left j k h p v more (omega arith))))

  pub siblings-joined-right : half ≤ p → L ≡ take 16 c → R ≡ siblings_below j (h - 1) (2 * k + 1) (p - half) (take 16 (drop 16 c))
      → put_mid 16 (length (L ++ drop 16 out) - 16) (L ++ drop 16 out) R ≡ siblings_below j h k p v
  siblings-joined-right w l r =
      both-parts out L R 16 (ap length l ∙ length-take-le 16 c (omega arith))
      ∙ (rw (l, r, left-part j k v c e, right-part j k v c e n, is) (sym (siblings-right j k h p v more (omega arith))))

-- what two calls leave in the lent leaves of an opening
module _ (j : Context) (k h p half : ℕ) (s out L R : List ℕ) (more : h ≡ 0 → ⊥) (is : half ≡ 2 ^ (h - 1)) (o : length out ≡ 16 * 2 ^ h) (n : length L ≡ length (take (length out / 2) out)) where
  rest : take (length s - 16) (drop 16 s) ≡ drop 16 s
  rest = take_all (length s - 16) (drop 16 s) (rw length-drop (omega arith))

  pub opened-joined-left : p < half → L ≡ opened_below j (h - 1) (2 * k) p (take (length s - 16) (drop 16 s)) → R ≡ leaves_below j (h - 1) (2 * k + 1) (take 16 s)
      → put_mid (length out / 2) (length (L ++ drop (length out / 2) out) - length out / 2) (L ++ drop (length out / 2) out) R ≡ opened_below j h k p s
  opened-joined-left w l r =
      both-parts out L R (length out / 2) (n ∙ length-take-le _ out (omega arith))
      ∙ (rw (l, r, rest) (sym (opened-left j k h p s more (omega arith))))

  pub opened-joined-right : half ≤ p → L ≡ leaves_below j (h - 1) (2 * k) (take 16 s) → R ≡ opened_below j (h - 1) (2 * k + 1) (p - half) (take (length s - 16) (drop 16 s))
      → put_mid (length out / 2) (length (L ++ drop (length out / 2) out) - length out / 2) (L ++ drop (length out / 2) out) R ≡ opened_below j h k p s
  opened-joined-right w l r =
      both-parts out L R (length out / 2) (n ∙ length-take-le _ out (omega arith))
      ∙ (rw (l, r, rest, is) (sym (opened-right j k h p s more (omega arith))))
