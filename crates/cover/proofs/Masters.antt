-- The masters and the cover's bytes: their lengths, and that they hang on the leaves below M alone.
-- Assumes nothing.
use native.Mathlib.Omega.{arith}
use mathlib.Core.Path.{◌≡◌, refl, ap, ap₂, fun_ext, ◌∙◌}
use mathlib.Core.Bool.{Bool, true, false, cond, not, ◌&&◌}
use mathlib.Core.Logic.{⊎_elim}
use mathlib.Core.List.{List, map}
use Prim.Native.Nat.{ℕ, zero, suc, ◌+◌, ◌*◌, ◌/◌, ◌^◌, ◌≤◌, ◌<◌}
use borrow.Author.Tests.{le-ltb}
use lib.ListN.{length, get_or, length-map, length-replicate}
use Rattle.hashing.specs.declared.Context.{Context}
use Rattle.bits.specs.Bits.{bit_val, tabulate}
use Rattle.bits.proofs.Numbers.{lt-or-le}
use Rattle.bits.proofs.Rows.{row-length, length-flatten}
use Rattle.cover.specs.Cover.{those, has_leaf, hidden, unhidden, opened, cover}
use Rattle.cover.specs.Masters.{height, value_of, child_of, masters_context, opening, given, from_above, leaf_from, master_of, cover_of, cover_bytes, master_from}
use Rattle.cover.specs.Steps.{mark_of, marks_of}
use Rattle.cover.proofs.Covering.{opened-node}
use Rattle.cover.proofs.Rebuilding.{place-lt, get_d_map, length-value, length-child}

-- lengths: a node has 16 bytes
pub length-opening : (j : Context) (h M : ℕ) (hides : ℕ → Bool) (root : List ℕ) → length root ≡ 16 → length (opening h M hides (child_of j) root) ≡ 16 * length (cover h M hides)
unfolding opening
length-opening j h M hides root l =
    let nodes : List ℕ = cover h M hides in
    let n : length (map (value_of (child_of j) root h) nodes) ≡ length nodes = length-map nodes (value_of (child_of j) root h) in
    length-flatten 16 (map (value_of (child_of j) root h) nodes)
    (λ a b. ap length (get_d_map (value_of (child_of j) root h) nodes a (omega arith)) ∙ length-value (child_of j) root (length-child j) l h (get_or nodes a 0))
    ∙ omega arith

pub length-cover-of : (M : ℕ) (hides : ℕ → Bool) (salt root : List ℕ) → length root ≡ 16 → length (cover_of M hides salt root) ≡ cover_bytes M hides
unfolding cover_of cover_bytes
length-cover-of M hides salt root l = length-opening (masters_context salt) (height M) M hides root l

pub length-master : (M : ℕ) (salt root : List ℕ) (j : ℕ) → length root ≡ 16 → length (master_of M salt root j) ≡ 16
unfolding master_of
length-master M salt root j l = length-value (child_of (masters_context salt)) root (length-child (masters_context salt)) l (height M) (2 ^ height M + j)

-- a node that follows has 16 bytes too
pub length-from-above : (j : Context) (h M : ℕ) (hides : ℕ → Bool) (values : List ℕ) (d x : ℕ) → length values ≡ 16 * length (cover h M hides)
    → length (from_above (opened h M hides) (child_of j) values d x) ≡ 16
unfolding from_above given cover
length-from-above j h M hides values zero x l = length-replicate {A = ℕ} 16 0
length-from-above j h M hides values (suc d) x l = go (opened h M hides x) refl
  where
    go : (b : Bool) → opened h M hides x ≡ b
        → length (cond b (given (opened h M hides) values x) (child_of j x (from_above (opened h M hides) (child_of j) values d (x / 2)))) ≡ 16
    go true t =
        row-length values 16 (length (those x (opened h M hides)))
        (omega (arith, place-lt (opened h M hides) x (2 ^ suc h) (opened-node h M hides x t) t))
    go false t = length-child j x _

pub length-master-from : (M : ℕ) (hides : ℕ → Bool) (salt values : List ℕ) (i : ℕ) → length values ≡ cover_bytes M hides
    → length (master_from M hides salt values i) ≡ 16
unfolding master_from leaf_from cover_bytes
length-master-from M hides salt values i l = length-from-above (masters_context salt) (height M) M hides values (suc (height M)) (2 ^ height M + i) l

-- where two sets agree on the leaves below M
module _ (M : ℕ) (hides hides' : ℕ → Bool) (same : (i : ℕ) → i < M → hides i ≡ hides' i) where
  hidden-same : hidden M hides ≡ hidden M hides'
  unfolding hidden
  hidden-same = fun_ext (λ i. ⊎_elim (λ (l : i < M). rw (same i l)) (λ (l : M ≤ i). rw (le-ltb i M l)) (lt-or-le i M))

  unhidden-same : unhidden M hides ≡ unhidden M hides'
  unfolding unhidden
  unhidden-same = fun_ext (λ i. ⊎_elim (λ (l : i < M). rw (same i l)) (λ (l : M ≤ i). rw (le-ltb i M l)) (lt-or-le i M))

  pub opened-same : (h : ℕ) → opened h M hides ≡ opened h M hides'
  unfolding opened
  opened-same h =
      fun_ext (λ k. ap₂ (λ (u t : ℕ → Bool). has_leaf h u k && (not (has_leaf h t k) && has_leaf h t (k / 2))) unhidden-same hidden-same)

  pub marks-same : (h : ℕ) → marks_of h M hides ≡ marks_of h M hides'
  unfolding marks_of mark_of
  marks-same h =
      ap (tabulate (2 ^ suc h))
      (fun_ext (λ k. ap₂ (λ (u t : ℕ → Bool). bit_val (has_leaf h u k) + 2 * bit_val (has_leaf h t k)) unhidden-same hidden-same))

  pub cover-same : (h : ℕ) → cover h M hides ≡ cover h M hides'
  unfolding cover
  cover-same h = ap (those (2 ^ suc h)) (opened-same h)

  pub cover-of-same : (salt root : List ℕ) → cover_of M hides salt root ≡ cover_of M hides' salt root
  unfolding cover_of opening
  cover-of-same salt root = rw (cover-same (height M))

  pub cover-bytes-same : cover_bytes M hides ≡ cover_bytes M hides'
  unfolding cover_bytes
  cover-bytes-same = ap (λ (s : List ℕ). 16 * length s) (cover-same (height M))

  pub master-from-same : (salt values : List ℕ) (i : ℕ) → master_from M hides salt values i ≡ master_from M hides' salt values i
  unfolding master_from leaf_from
  master-from-same salt values i =
      ap (λ (o : ℕ → Bool). from_above o (child_of (masters_context salt)) values (suc (height M)) (2 ^ height M + i)) (opened-same (height M))
