-- The leaves below four nodes that follow one another: those below their eight children, four by four.
-- Assumes nothing.
use native.Mathlib.Omega.{arith}
use native.Mathlib.Nat.{mul_assoc, mul_comm, mul-le-mul_right}
use mathlib.Core.Path.{◌≡◌, refl, sym, ap, ap₂, ◌∙◌}
use mathlib.Core.List.{List, ◌++◌, append_assoc}
use Prim.Native.Nat.{ℕ, ◌+◌, ◌-◌, ◌*◌, ◌/◌, ◌^◌, ◌≤◌, ◌<◌}
use borrow.Rule.Slice.PartMut.{put_mid}
use lib.Pow.{pow_pos}
use lib.ListN.{length, take, drop, length-append, length-drop, take-append-drop}
use lib.Seq.{take_all, take_at, drop_at, drop-drop, take-append-le, drop-append-le, length-take-le}
use Rattle.hashing.specs.declared.Context.{Context}
use Rattle.four_sponges.specs.Steps.{four_rows}
use Rattle.four_sponges.proofs.Rows.{four-eq}
use Rattle.tree.specs.Tree.{children, left_child, right_child, leaves_below}
use Rattle.tree.proofs.Nodes.{pow-half, leaves-more, both-parts, left-part, right-part, half_length}
use Rattle.tree.proofs.Lengths.{length-children}

-- the room below nodes k to k + 3 at a height h that is not 0: for their children's numbers, and for the leaves below these
pub record FourRoom (k h : ℕ) : Type 0 where
  pub number : k + 4 ≤ 32768
  pub half : 2 ^ h ≡ 2 * 2 ^ (h - 1)
  pub left : (2 * k + 4) * 2 ^ (h - 1) ≤ 65536
  pub right : (2 * k + 4 + 4) * 2 ^ (h - 1) ≤ 65536

pub four-room : (k h : ℕ) → (h ≡ 0 → ⊥) → (k + 4) * 2 ^ h ≤ 65536 → FourRoom k h
four-room k h more fits =
    let x : ℕ = 2 ^ (h - 1) in
    let n : ℕ = 2 * k + 4 + 4 in
    let half : 2 ^ h ≡ 2 * x = pow-half h more in
    let two : (k + 4) * 2 ≡ n = omega arith in
    let both : (k + 4) * 2 ^ h ≡ n * x = ap (λ (y : ℕ). (k + 4) * y) half ∙ sym (mul_assoc (k + 4) 2 x) ∙ ap (λ (y : ℕ). y * x) two in
    let less : (2 * k + 4) * x ≤ n * x = mul-le-mul_right x (omega arith) in
    let one : n * 1 ≤ n * x = rw (mul_comm n 1, mul_comm n x) (mul-le-mul_right n (pow_pos (h - 1))) in
    record { number = omega arith; half = half; left = omega arith; right = omega arith }

-- the leaves below the first two nodes are half of all
pub four-half : {k h : ℕ} (n : ℕ) → FourRoom k h → n ≡ 64 * 2 ^ h → n ≡ 2 * (64 * 2 ^ (h - 1))
four-half n r o = omega arith

-- a height that is not 0, and one that is not 1 either
pub not-zero : {h : ℕ} → 1 ≤ h → h ≡ 0 → ⊥
not-zero w e = omega arith

pub one_left : {h : ℕ} → 1 ≤ h → (h ≡ 1 → ⊥) → 1 ≤ h - 1
one_left w more = omega (arith, more)

-- four of eight children
pub front_length : (c : List ℕ) → length c ≡ 128 → length (take 64 c) ≡ 64
front_length c l = length-take-le 64 c (omega arith)

pub back-length : (c : List ℕ) → length c ≡ 128 → length (take 64 (drop 64 c)) ≡ 64
back-length c l = length-take-le 64 (drop 64 c) (rw length-drop (omega arith))

-- the room below the grandchildren of node k
pub record GrandRoom (k h : ℕ) : Type 0 where
  pub number : k < 8192
  pub more : 1 ≤ h - 2
  pub places : 16 * 2 ^ h ≡ 64 * 2 ^ (h - 2)
  pub fits : (4 * k + 4) * 2 ^ (h - 2) ≤ 65536

pub grand-room : (k h : ℕ) → 3 ≤ h → (k + 1) * 2 ^ h ≤ 65536 → GrandRoom k h
grand-room k h some fits =
    let y : ℕ = 2 ^ (h - 2) in
    let e : h - 1 - 1 ≡ h - 2 = omega arith in
    let q : 2 ^ (h - 1 - 1) ≡ y = ap (λ (n : ℕ). 2 ^ n) e in
    let four : 2 ^ h ≡ 4 * y = omega (arith, pow-half h (λ z. omega arith), pow-half (h - 1) (λ z. omega arith)) in
    let two : (k + 1) * 4 ≡ 4 * k + 4 = omega arith in
    let all : (k + 1) * 2 ^ h ≡ (4 * k + 4) * y = ap (λ (n : ℕ). (k + 1) * n) four ∙ sym (mul_assoc (k + 1) 4 y) ∙ ap (λ (n : ℕ). n * y) two in
    let h3 : h - 2 ≡ 0 → ⊥ = λ z. omega arith in
    let z : 2 ≤ y = omega (arith, pow-half (h - 2) h3, pow_pos (h - 2 - 1)) in
    let low : (4 * k + 4) * 2 ≤ (4 * k + 4) * y = rw (mul_comm (4 * k + 4) 2, mul_comm (4 * k + 4) y) (mul-le-mul_right (4 * k + 4) z) in
    record { number = omega arith; more = omega arith; places = omega arith; fits = omega arith }

-- 16 bytes at a time of two nodes' children
module _ (u w : List ℕ) (lu : length u ≡ 32) (lw : length w ≡ 32) where
  in_two : (f : ℕ → List ℕ → List ℕ)
      → four_rows (λ i. f i (take 16 (drop (16 * i) (u ++ w)))) ≡ (f 0 (take 16 u) ++ f 1 (drop 16 u)) ++ (f 2 (take 16 w) ++ f 3 (drop 16 w))
  in_two f =
      let du : length (drop 16 u) ≡ 16 = length-drop 16 u ∙ omega arith in
      let dw : length (drop 16 w) ≡ 16 = length-drop 16 w ∙ omega arith in
      let e0 : take 16 (u ++ w) ≡ take 16 u = take-append-le 16 u w (omega arith) in
      let e1 : take 16 (drop 16 (u ++ w)) ≡ drop 16 u = ap (take 16) (drop-append-le 16 u w (omega arith)) ∙ take_at (drop 16 u) w 16 du in
      let e2 : take 16 (drop 32 (u ++ w)) ≡ take 16 w = ap (take 16) (drop_at u w 32 lu) in
      let e3 : take 16 (drop 48 (u ++ w)) ≡ drop 16 w =
      ap (take 16) (sym (drop-drop 16 32 (u ++ w)) ∙ ap (drop 16) (drop_at u w 32 lu)) ∙ take_all 16 (drop 16 w) (omega arith) in
      ap₂ ◌++◌ (ap₂ ◌++◌ (ap₂ ◌++◌ (ap (f 0) e0) (ap (f 1) e1)) (ap (f 2) e2)) (ap (f 3) e3)
      ∙ append_assoc (f 0 (take 16 u) ++ f 1 (drop 16 u)) (f 2 (take 16 w)) (f 3 (drop 16 w))

module _ (j : Context) where
  more-is : (h n : ℕ) (v : List ℕ) → (h ≡ 0 → ⊥)
      → leaves_below j h n v ≡ leaves_below j (h - 1) (2 * n) (take 16 (children j n v)) ++ leaves_below j (h - 1) (2 * n + 1) (drop 16 (children j n v))
  unfolding left_child right_child
  more-is h n v more = leaves-more j n h v more

  -- the leaves below the four children of two nodes
  pub pair-below : (h a m n : ℕ) (x y z : List ℕ) → (h ≡ 0 → ⊥) → a ≡ 2 * m → n ≡ m + 1 → z ≡ children j m x ++ children j n y
      → four_rows (λ i. leaves_below j (h - 1) (a + i) (take 16 (drop (16 * i) z))) ≡ leaves_below j h m x ++ leaves_below j h n y
  pair-below h a m n x y z more ea en ez =
      let u : List ℕ = children j m x in
      let w : List ℕ = children j n y in
      let L : ℕ → List ℕ → List ℕ = leaves_below j (h - 1) in
      let i0 : a + 0 ≡ 2 * m = omega arith in
      let i1 : a + 1 ≡ 2 * m + 1 = omega arith in
      let i2 : a + 2 ≡ 2 * n = omega arith in
      let i3 : a + 3 ≡ 2 * n + 1 = omega arith in
      ap (λ (t : List ℕ). four_rows (λ i. L (a + i) (take 16 (drop (16 * i) t)))) ez
      ∙ in_two u w (length-children j m x) (length-children j n y) (λ i t. L (a + i) t)
      ∙ ap₂ ◌++◌ (ap₂ (λ (p q : ℕ). L p (take 16 u) ++ L q (drop 16 u)) i0 i1 ∙ sym (more-is h m x more))
      (ap₂ (λ (p q : ℕ). L p (take 16 w) ++ L q (drop 16 w)) i2 i3 ∙ sym (more-is h n y more))

  -- one level below four nodes
  pub four-leaves-one : (h k : ℕ) (v z : List ℕ) → h ≡ 1 → z ≡ four_rows (λ i. children j (k + i) (take 16 (drop (16 * i) v)))
      → z ≡ four_rows (λ i. leaves_below j h (k + i) (take 16 (drop (16 * i) v)))
  unfolding leaves_below left_child right_child
  four-leaves-one h k v z e d =
      let one : (n : ℕ) (x : List ℕ) → children j n x ≡ leaves_below j h n x = λ n x. rw e (sym (take-append-drop 16 (children j n x))) in
      d ∙ four-eq (λ i. children j (k + i) (take 16 (drop (16 * i) v))) (λ i. leaves_below j h (k + i) (take 16 (drop (16 * i) v)))
      (one (k + 0) _) (one (k + 1) _) (one (k + 2) _) (one (k + 3) _)

  -- what the two calls below four nodes leave in the lent leaves
  pub four-leaves-joined : (k h : ℕ) (v c out L R : List ℕ) → (h ≡ 0 → ⊥)
      → c ≡ four_rows (λ i. children j (k + i) (take 16 (drop (16 * i) v)))
      → length L ≡ length (take (length out / 2) out)
      → L ≡ four_rows (λ i. leaves_below j (h - 1) (2 * k + i) (take 16 (drop (16 * i) (take 64 c))))
      → R ≡ four_rows (λ i. leaves_below j (h - 1) (2 * k + 4 + i) (take 16 (drop (16 * i) (take 64 (drop 64 c)))))
      → put_mid (length out / 2) (length (L ++ drop (length out / 2) out) - length out / 2) (L ++ drop (length out / 2) out) R
      ≡ four_rows (λ i. leaves_below j h (k + i) (take 16 (drop (16 * i) v)))
  four-leaves-joined k h v c out L R more e l p q =
      let x : ℕ → List ℕ = λ i. take 16 (drop (16 * i) v) in
      let g : ℕ → List ℕ = λ i. children j (k + i) (x i) in
      let lg : (i : ℕ) → length (g i) ≡ 32 = λ i. length-children j (k + i) (x i) in
      let first : length (g 0 ++ g 1) ≡ 64 = length-append (g 0) (g 1) ∙ omega (arith, lg 0, lg 1) in
      let second : length (g 2 ++ g 3) ≡ 64 = length-append (g 2) (g 3) ∙ omega (arith, lg 2, lg 3) in
      let both : c ≡ (g 0 ++ g 1) ++ (g 2 ++ g 3) = e ∙ append_assoc (g 0 ++ g 1) (g 2) (g 3) in
      let front : take 64 c ≡ g 0 ++ g 1 = ap (take 64) both ∙ take_at (g 0 ++ g 1) (g 2 ++ g 3) 64 first in
      let back : take 64 (drop 64 c) ≡ g 2 ++ g 3 =
      ap (take 64) (ap (drop 64) both ∙ drop_at (g 0 ++ g 1) (g 2 ++ g 3) 64 first) ∙ take_all 64 (g 2 ++ g 3) (omega arith) in
      both-parts out L R (length out / 2) (l ∙ half_length out)
      ∙ ap₂ ◌++◌ (p ∙ pair-below h (2 * k) (k + 0) (k + 1) (x 0) (x 1) (take 64 c) more (omega arith) (omega arith) front)
      (q ∙ pair-below h (2 * k + 4) (k + 2) (k + 3) (x 2) (x 3) (take 64 (drop 64 c)) more (omega arith) (omega arith) back)
      ∙ sym (append_assoc (leaves_below j h (k + 0) (x 0) ++ leaves_below j h (k + 1) (x 1)) (leaves_below j h (k + 2) (x 2)) (leaves_below j h (k + 3) (x 3)))

  -- the leaves below a node from its grandchildren
  pub leaves-from-four : (k h : ℕ) (v z out : List ℕ) → 2 ≤ h → z ≡ children j (2 * k) (left_child j k v) ++ children j (2 * k + 1) (right_child j k v)
      → out ≡ four_rows (λ i. leaves_below j (h - 2) (4 * k + i) (take 16 (drop (16 * i) z))) → out ≡ leaves_below j h k v
  leaves-from-four k h v z out w e d =
      let two : h - 2 ≡ h - 1 - 1 = omega arith in
      d ∙ ap (λ (n : ℕ). four_rows (λ i. leaves_below j n (4 * k + i) (take 16 (drop (16 * i) z)))) two
      ∙ pair-below (h - 1) (4 * k) (2 * k) (2 * k + 1) (left_child j k v) (right_child j k v) z (λ q. omega arith) (omega arith) refl e
      ∙ sym (leaves-more j k h v (λ q. omega arith))

  -- what the two calls below a node's children leave in the lent grandchildren
  pub grand-joined : (k : ℕ) (v c out L R : List ℕ) → c ≡ children j k v → length L ≡ 32 → L ≡ children j (2 * k) (take 16 c)
      → R ≡ children j (2 * k + 1) (take 16 (drop 16 c))
      → put_mid 32 (length (L ++ drop 32 out) - 32) (L ++ drop 32 out) R ≡ children j (2 * k) (left_child j k v) ++ children j (2 * k + 1) (right_child j k v)
  grand-joined k v c out L R e l p q =
      both-parts out L R 32 l
      ∙ ap₂ ◌++◌ (p ∙ ap (children j (2 * k)) (left-part j k v c e)) (q ∙ ap (children j (2 * k + 1)) (right-part j k v c e (ap length e ∙ length-children j k v)))
