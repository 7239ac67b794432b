-- The nodes of the masters' tree, and their marks, at the front of a buffer.
-- Assumes nothing.
use native.Mathlib.Omega.{arith}
use native.Mathlib.Nat.{pow-succ'}
use mathlib.Core.Path.{◌≡◌, sym, ap, ap₂, ◌∙◌}
use mathlib.Core.Bool.{Bool, true}
use mathlib.Core.List.{List, ◌++◌, map, flatten}
use Prim.Native.Nat.{ℕ, suc, ◌+◌, ◌-◌, ◌*◌, ◌^◌, ◌≤◌}
use borrow.Author.Tests.{leb-true}
use lib.Dec.{leb}
use lib.ListN.{length, take, drop, length-append, length-drop}
use lib.Pow.{pow_mono}
use lib.Seq.{take_at, take-append-le, drop-append-le}
use Rattle.bits.specs.Bits.{tabulate}
use Rattle.bits.specs.Bytes.{row_of}
use Rattle.cover.specs.Cover.{those, cover}
use Rattle.cover.specs.Masters.{height, child_of, masters_context, master_of, cover_of, cover_bytes}
use Rattle.cover.specs.Steps.{marks_of, opened_by, cover_by, nodes_of}
use Rattle.cover.proofs.Search.{and_second, length-others}
use Rattle.cover.proofs.Least.{least-height, height-low}
use Rattle.growing.proofs.Marking.{cover-marked, length-marks}
use Rattle.growing.proofs.Growing.{length-grown, gather-cover, masters-part}
use Rattle.seeds.specs.Operations.{is_tree_size}

-- a tree over up to 512 masters
module _ (M h n : ℕ) (most : M ≤ 512) (e : h ≡ height M) (f : n ≡ 2 ^ h) where
  pub height-few : h ≤ 9
  height-few = omega (arith, height-low M most)

  pub leaves-few : n ≤ 512
  leaves-few = omega (arith, pow_mono {i = h} {j = 9} height-few)

  pub leaves-hold : M ≤ n
  leaves-hold = omega (arith, least-height.fits M, ap (λ (k : ℕ). 2 ^ k) e)

  -- the masters are a part of its nodes
  pub masters-there : (k : ℕ) (salt root z rest : List ℕ) → length root ≡ 16 → k ≡ 16 * M → z ≡ nodes_of (child_of (masters_context salt)) root h
      → take (16 * n + k - 16 * n) (drop (16 * n) (z ++ rest)) ≡ flatten (tabulate M (master_of M salt root))
  masters-there k salt root z rest l g q =
      let p : n ≡ 2 ^ height M = f ∙ ap (λ (x : ℕ). 2 ^ x) e in
      let len : length z ≡ 16 * (2 * n) = ap length q ∙ length-grown (masters_context salt) root l h ∙ omega (arith, pow-succ' 2 h) in
      let a : 16 * n + k - 16 * n ≡ M * 16 = omega arith in
      let b : 16 * n ≡ 2 ^ height M * 16 = omega arith in
      ap (take (16 * n + k - 16 * n)) (drop-append-le (16 * n) z rest (omega arith))
      ∙ take-append-le (16 * n + k - 16 * n) (drop (16 * n) z) rest (rw (length-drop (16 * n) z) (omega (arith, leaves-hold)))
      ∙ ap₂ (λ (x y : ℕ). take x (drop y z)) a b
      ∙ ap (λ (s : List ℕ). take (M * 16) (drop (2 ^ height M * 16) s)) (q ∙ ap (nodes_of (child_of (masters_context salt)) root) e)
      ∙ masters-part M salt root l

-- what is at the front of a buffer is inside it
pub front-holds : (a b : ℕ) (z rest : List ℕ) → length z ≡ b → a ≤ b → a ≤ length (z ++ rest)
front-holds a b z rest e w = omega (arith, length-append z rest)

pub front-is : (b : ℕ) (z rest : List ℕ) → length z ≡ b → length (take b (z ++ rest)) ≡ b
front-is b z rest e = ap length (take_at z rest b e) ∙ e

pub front-reaches : (b : ℕ) (z rest : List ℕ) → length z ≡ b → b ≤ length (take b (z ++ rest))
front-reaches b z rest e = omega (arith, front-is b z rest e)

pub marks-few : (h : ℕ) → h ≤ 9 → 2 ^ suc h ≤ 1024
marks-few h w = pow_mono {i = suc h} {j = 10} (omega arith)

pub size-most : (M : ℕ) → is_tree_size M ≡ true → M ≤ 512
unfolding is_tree_size
size-most M e = leb-true M 512 (and_second (leb 2 M) _ e)

-- the marks at the front of a buffer
pub length-front-marks : (M h n : ℕ) (hides : ℕ → Bool) (z : List ℕ) → n ≡ 2 ^ h → z ≡ marks_of h M hides → length z ≡ 2 * n
length-front-marks M h n hides z f q = ap length q ∙ length-marks h M hides ∙ omega (arith, pow-succ' 2 h)

module _ (M h n : ℕ) (hides : ℕ → Bool) (e : h ≡ height M) (f : n ≡ 2 ^ h) (z rest : List ℕ) (q : z ≡ marks_of h M hides) where
  front-marks : take (2 * n) (z ++ rest) ≡ marks_of h M hides
  front-marks = take_at z rest (2 * n) (length-front-marks M h n hides z f q) ∙ q

  pub front_length : length (take (2 * n) (z ++ rest)) ≡ 2 ^ suc h
  front_length = ap length front-marks ∙ length-marks h M hides

  -- the count of the opened nodes, and their bytes
  module _ (k : ℕ) (g : k ≡ length (those (2 * n) (opened_by (take (2 * n) (z ++ rest))))) where
    pub count-few : k ≤ 2 * n
    count-few = omega (arith, length-others (2 * n) (opened_by (take (2 * n) (z ++ rest))))

    pub count-front : 16 * k ≡ 16 * length (cover_by (take (2 * n) (z ++ rest)))
    count-front =
        let l : 2 * n ≡ length (take (2 * n) (z ++ rest)) = sym (front-is (2 * n) z rest (length-front-marks M h n hides z f q)) in
        ap (λ (m : ℕ). 16 * m) (g ∙ ap (λ (m : ℕ). length (those m (opened_by (take (2 * n) (z ++ rest))))) l)

    pub count-bytes : 16 * k ≡ cover_bytes M hides
    unfolding cover_bytes
    count-bytes =
        count-front
        ∙ ap (λ (s : List ℕ). 16 * length s) (ap cover_by front-marks ∙ cover-marked h M hides)
        ∙ ap (λ (x : ℕ). 16 * length (cover x M hides)) e

  -- the opened nodes, by the marks
  pub opened-bytes : (salt root : List ℕ) → length root ≡ 16
      → flatten (map (row_of (nodes_of (child_of (masters_context salt)) root h) 16) (cover_by (take (2 * n) (z ++ rest)))) ≡ cover_of M hides salt root
  opened-bytes salt root l =
      ap (λ (s : List ℕ). flatten (map (row_of (nodes_of (child_of (masters_context salt)) root h) 16) (cover_by s))) front-marks
      ∙ ap (λ (x : ℕ). flatten (map (row_of (nodes_of (child_of (masters_context salt)) root x) 16) (cover_by (marks_of x M hides)))) e
      ∙ gather-cover M hides salt root l
