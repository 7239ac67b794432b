-- The leaves that follow from siblings, by their nodes' numbers.
-- Assumes nothing.
use mathlib.Core.Path.{◌≡◌, sym, ap, ap₂, ◌∙◌}
use mathlib.Core.Bool.{cond}
use mathlib.Core.List.{List}
use mathlib.Core.Logic.{◌≢◌, ⊎_elim}
use Prim.Native.Nat.{ℕ, zero, suc, ◌+◌, ◌-◌, ◌*◌, ◌/◌, ◌%◌, ◌^◌, ◌≤◌, ◌<◌}
use native.Mathlib.Nat.{pow-succ', mul_assoc, mul_comm, mul-add, mul-suc, mul-le-mul_left}
use native.Mathlib.Omega.{arith}
use borrow.Author.Tests.{eq-eqb, ne_eqb, lt-ltb, le-ltb}
use lib.Dec.{eqb}
use lib.ListN.{length, take, drop, length-drop}
use lib.Seq.{length-take-le, drop-drop}
use Rattle.hashing.specs.declared.Context.{Context}
use Rattle.bits.specs.Bytes.{row_of}
use Rattle.bits.proofs.Numbers.{lt-or-le, eq-or-ne}
use Rattle.bits.proofs.Rows.{row_inside}
use Rattle.parties.specs.Parties.{height_of}
use Rattle.parties.proofs.Counts.{height-pow}
use Rattle.tree.specs.Tree.{left_child, right_child, node_value, leaves_below, opened_below}
use Rattle.tree.proofs.Lengths.{length-leaves, length-opened}
use Rattle.tree.proofs.Numbering.{row_first, row-second, leaf-below}
use Rattle.honest.specs.Response.{Chosen}
use Rattle.honest.specs.Verification.{value_beside, opened_leaf}

-- row i + 1 is row i of what follows the first row
row_next : (s : List ℕ) (i : ℕ) → suc i * 16 + 16 ≤ length s → row_of s 16 (suc i) ≡ row_of (drop 16 s) 16 i
row_next s i h =
    let e : suc i * 16 ≡ 16 + i * 16 = omega arith in
    row_inside s 16 (suc i) h
    ∙ (ap (λ (k : ℕ). take 16 (drop k s)) e
    ∙ (ap (take 16) (sym (drop-drop (i * 16) 16 s)) ∙ sym (row_inside (drop 16 s) 16 i (omega (arith, length-drop 16 s)))))

-- the first row
row-start : (s : List ℕ) → 16 ≤ length s → row_of s 16 0 ≡ take 16 s
row-start s h = row_inside s 16 0 (omega arith)

-- node x stands h levels below node c
record Under (h c x : ℕ) : Type 0 where
  least : 2 ^ h * c ≤ x
  most : x < 2 ^ h * c + 2 ^ h

-- so does its parent, one level less
above : (h c x : ℕ) → Under (suc h) c x → Under h c (x / 2)
above h c x u =
    let t : 2 ^ suc h ≡ 2 * 2 ^ h = pow-succ' 2 h in
    let p : 2 ^ suc h * c ≡ 2 * (2 ^ h * c) = ap (λ (y : ℕ). y * c) t ∙ mul_assoc 2 (2 ^ h) c in
    record { least = omega arith; most = omega arith }

-- below one node are no nodes of a later one
under-before : (h c c' x x' : ℕ) → c < c' → Under h c x → Under h c' x' → x < x'
under-before h c c' x x' l a b =
    let t : 2 ^ h * suc c ≤ 2 ^ h * c' = mul-le-mul_left (2 ^ h) l in
    omega (arith, mul-suc (2 ^ h) c)

-- nor of another
under-other : (h c c' x x' : ℕ) → c ≢ c' → Under h c x → Under h c' x' → x' ≢ x
under-other h c c' x x' m a b e =
    ⊎_elim (λ (l : c < c'). omega (arith, under-before h c c' x x' l a b))
    (λ (l : c' ≤ c). omega (arith, under-before h c' c x' x (omega (arith, m)) b a))
    (lt-or-le c c')

-- an instance j
module _ (j : Context) where
  -- a node beside the path, and not a sibling on it, is a child of the node above it
  step_down : (S : List ℕ) (d q x : ℕ) → x / 2 ≢ q / 2
      → value_beside j S (suc d) q x
      ≡ cond (eqb (x % 2) 0) (left_child j (x / 2) (value_beside j S d (q / 2) (x / 2))) (right_child j (x / 2) (value_beside j S d (q / 2) (x / 2)))
  unfolding value_beside
  step_down S d q x m = rw (ne_eqb (x / 2) (q / 2) m)

  -- a sibling on it is as sent
  step-sibling : (S : List ℕ) (d q x : ℕ) → x / 2 ≡ q / 2 → value_beside j S (suc d) q x ≡ row_of S 16 d
  unfolding value_beside
  step-sibling S d q x e = rw (eq-eqb (x / 2) (q / 2) e)

  -- below the child of a node that is on the path, the first sibling plays no part
  same_half : (S : List ℕ) (h c q x : ℕ) → 16 * suc h ≤ length S → Under h c q → Under h c x → x ≢ q
      → value_beside j S (suc h) q x ≡ value_beside j (drop 16 S) h q x
  same_half S zero c q x l a b m = absurd (m (omega arith))
  same_half S (suc h) c q x l a b m =
      ⊎_elim
      (λ e. step-sibling S (suc h) q x e ∙ (row_next S h (omega arith) ∙ sym (step-sibling (drop 16 S) h q x e)))
      (λ e.
      step_down S (suc h) q x e
      ∙ (ap (λ (v : List ℕ). cond (eqb (x % 2) 0) (left_child j (x / 2) v) (right_child j (x / 2) v))
      (same_half S h c (q / 2) (x / 2) (omega arith) (above h c q a) (above h c x b) e)
      ∙ sym (step_down (drop 16 S) h q x e)))
      (eq-or-ne (x / 2) (q / 2))

  -- below the other child, a node follows from the first sibling
  other_half : (S : List ℕ) (h c c' q x : ℕ) → c / 2 ≡ c' / 2 → c ≢ c' → Under h c q → Under h c' x
      → value_beside j S (suc h) q x ≡ node_value j (row_of S 16 0) h x
  unfolding node_value
  other_half S zero c c' q x e m a b =
      let f : q ≡ c = omega arith in
      let g : x ≡ c' = omega arith in
      step-sibling S 0 q x (ap (λ (z : ℕ). z / 2) g ∙ (sym e ∙ ap (λ (z : ℕ). z / 2) (sym f)))
  other_half S (suc h) c c' q x e m a b =
      let o : x / 2 ≢ q / 2 = under-other h c c' (q / 2) (x / 2) m (above h c q a) (above h c' x b) in
      step_down S (suc h) q x o
      ∙ ap (λ (v : List ℕ). cond (eqb (x % 2) 0) (left_child j (x / 2) v) (right_child j (x / 2) v))
      (other_half S h c c' (q / 2) (x / 2) e m (above h c q a) (above h c' x b))

  -- the leaves h levels below node k that follow from the siblings are the nodes from 2 ^ h * k on
  leaf-beside : (h k p i : ℕ) (S : List ℕ) → length S ≡ 16 * h → p < 2 ^ h → i < 2 ^ h → i ≢ p
      → row_of (opened_below j h k p S) 16 i ≡ value_beside j S h (2 ^ h * k + p) (2 ^ h * k + i)
  unfolding opened_below
  leaf-beside zero k p i S l a b m = absurd (m (omega arith))
  leaf-beside (suc h) k p i S l a b m =
      let t : 2 ^ suc h ≡ 2 * 2 ^ h = pow-succ' 2 h in
      let z : 2 ^ suc h * k ≡ 2 ^ h * (2 * k) = ap (λ (y : ℕ). y * k) (t ∙ mul_comm 2 (2 ^ h)) ∙ mul_assoc (2 ^ h) 2 k in
      let w : 2 ^ h * (2 * k + 1) ≡ 2 ^ h * (2 * k) + 2 ^ h * 1 = mul-add (2 ^ h) (2 * k) 1 in
      let q : ℕ = 2 ^ suc h * k + p in
      let x : ℕ = 2 ^ suc h * k + i in
      let first : List ℕ = take 16 S in
      let rest : List ℕ = drop 16 S in
      let lf : length first ≡ 16 = length-take-le 16 S (omega arith) in
      let lr : length rest ≡ 16 * h = length-drop 16 S ∙ omega arith in
      let f : row_of S 16 0 ≡ first = row-start S (omega arith) in
      ⊎_elim
      (λ (s : p < 2 ^ h).
      let A : List ℕ = opened_below j h (2 * k) p rest in
      let B : List ℕ = leaves_below j h (2 * k + 1) first in
      let la : length A ≡ 16 * 2 ^ h = length-opened j h (2 * k) p rest lr in
      let lb : length B ≡ 16 * 2 ^ h = length-leaves j h (2 * k + 1) first lf in
      let uq : Under h (2 * k) q = record { least = omega arith; most = omega arith } in
      rw (lt-ltb _ _ s)
      (⊎_elim
      (λ (r : i < 2 ^ h).
      let ux : Under h (2 * k) x = record { least = omega arith; most = omega arith } in
      row_first A B i (omega arith)
      ∙ (leaf-beside h (2 * k) p i rest lr s r m
      ∙ (ap₂ (λ (y y' : ℕ). value_beside j rest h y y') (omega arith) (omega arith)
      ∙ sym (same_half S h (2 * k) q x (omega arith) uq ux (omega (arith, m))))))
      (λ (r : 2 ^ h ≤ i).
      let ux : Under h (2 * k + 1) x = record { least = omega arith; most = omega arith } in
      row-second A B (2 ^ h) i la r (omega arith)
      ∙ (leaf-below j h (2 * k + 1) (i - 2 ^ h) first lf (omega arith)
      ∙ (ap₂ (λ (v : List ℕ) (y : ℕ). node_value j v h y) (sym f) (omega arith)
      ∙ sym (other_half S h (2 * k) (2 * k + 1) q x (omega arith) (omega arith) uq ux))))
      (lt-or-le i (2 ^ h))))
      (λ (s : 2 ^ h ≤ p).
      let A : List ℕ = leaves_below j h (2 * k) first in
      let B : List ℕ = opened_below j h (2 * k + 1) (p - 2 ^ h) rest in
      let la : length A ≡ 16 * 2 ^ h = length-leaves j h (2 * k) first lf in
      let lb : length B ≡ 16 * 2 ^ h = length-opened j h (2 * k + 1) (p - 2 ^ h) rest lr in
      let uq : Under h (2 * k + 1) q = record { least = omega arith; most = omega arith } in
      rw (le-ltb _ _ s)
      (⊎_elim
      (λ (r : i < 2 ^ h).
      let ux : Under h (2 * k) x = record { least = omega arith; most = omega arith } in
      row_first A B i (omega arith)
      ∙ (leaf-below j h (2 * k) i first lf r
      ∙ (ap₂ (λ (v : List ℕ) (y : ℕ). node_value j v h y) (sym f) (omega arith)
      ∙ sym (other_half S h (2 * k + 1) (2 * k) q x (omega arith) (omega arith) uq ux))))
      (λ (r : 2 ^ h ≤ i).
      let ux : Under h (2 * k + 1) x = record { least = omega arith; most = omega arith } in
      row-second A B (2 ^ h) i la r (omega arith)
      ∙ (leaf-beside h (2 * k + 1) (p - 2 ^ h) (i - 2 ^ h) rest lr (omega arith) (omega arith) (omega (arith, m))
      ∙ (ap₂ (λ (y y' : ℕ). value_beside j rest h y y') (omega arith) (omega arith)
      ∙ sym (same_half S h (2 * k + 1) q x (omega arith) uq ux (omega (arith, m))))))
      (lt-or-le i (2 ^ h))))
      (lt-or-le p (2 ^ h))

  -- the leaf of each party but p
  pub opened-leaf : (n p i : ℕ) (x : Chosen) → (height_of n ≡ 0 → ⊥) → length x.siblings ≡ 16 * height_of n → p < n → i < n → i ≢ p
      → opened_leaf n j p x i ≡ row_of (opened_below j (height_of n) 1 p x.siblings) 16 i
  unfolding opened_leaf
  opened-leaf n p i x count size a b m =
      let e : 2 ^ height_of n ≡ n = height-pow n count in
      ap₂ (λ (y y' : ℕ). value_beside j x.siblings (height_of n) y y') (omega arith) (omega arith)
      ∙ sym (leaf-beside (height_of n) 1 p i x.siblings size (omega arith) (omega arith) m)
