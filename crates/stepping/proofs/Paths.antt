-- The master of an instance by the path from the opened node above its leaf.
-- Assumes nothing.
use mathlib.Core.Path.{◌≡◌, refl, sym, ap, ◌∙◌}
use mathlib.Core.Bool.{Bool, true, false, cond, not, true≢false}
use mathlib.Core.List.{List}
use mathlib.Core.Logic.{◌≢◌, ⊎_elim}
use Prim.Native.Nat.{ℕ, suc, ◌+◌, ◌-◌, ◌*◌, ◌/◌, ◌%◌, ◌^◌, ◌≤◌, ◌<◌}
use native.Mathlib.Nat.{pow-succ'}
use native.Mathlib.Numerals.{add-one}
use native.Mathlib.Omega.{arith}
use borrow.Author.Tests.{eq-eqb, ne_eqb}
use lib.Dec.{eqb}
use lib.ListN.{length, get_or, take, drop, length-drop, replicate}
use lib.Pow.{pow_mono}
use lib.Seq.{take_all}
use Rattle.hashing.specs.declared.Context.{Context}
use Rattle.bits.specs.Bytes.{row_of}
use Rattle.bits.proofs.Numbers.{eq-or-ne}
use Rattle.bits.proofs.Rows.{row_inside}
use Rattle.tree.specs.Tree.{children, left_child, right_child}
use Rattle.tree.proofs.Lengths.{length-children}
use Rattle.cover.specs.Cover.{those}
use Rattle.cover.specs.Masters.{height, child_of, masters_context, given, from_above, leaf_from, master_from}
use Rattle.cover.specs.Steps.{hidden_by, marks_of, opened_by}
use Rattle.growing.proofs.Marking.{same-opened}
use Rattle.cover.proofs.Least.{least-height}
use Rattle.cover.proofs.Masters.{master-from-same}
use Rattle.instance.specs.Instance.{is_chosen}
use Rattle.proof.specs.File.{header_salt, hides, master_at}
use Rattle.proof.specs.Steps.{ask_of, asks_in}
use Rattle.proof.proofs.Leaves.{hides-table, masters-low}
use Rattle.proof.proofs.Sizes.{ask-hiding}
use Rattle.proof_tests.specs.declared.Shape.{Shape}
use Rattle.proof_tests.specs.Steps.{Tested}
use Rattle.proof_tests.proofs.Checks.{opened-are}

-- a node is one of the two halves of one hash
module _ (tree : Context) (x : ℕ) (v pair : List ℕ) (e : pair ≡ children tree (x / 2) v) where
  pair_row : (i : ℕ) → i ≤ 1 → row_of pair 16 i ≡ take 16 (drop (i * 16) (children tree (x / 2) v))
  pair_row i l =
      row_inside pair 16 i (omega (arith, ap length e, length-children tree (x / 2) v)) ∙ ap (λ (p : List ℕ). take 16 (drop (i * 16) p)) e

  child-left : x % 2 ≡ 0 → take 16 (drop (0 * 16) (children tree (x / 2) v)) ≡ child_of tree x v
  unfolding child_of left_child
  child-left z = rw (eq-eqb (x % 2) 0 z)

  child-right : (x % 2 ≡ 0 → ⊥) → take 16 (drop (1 * 16) (children tree (x / 2) v)) ≡ child_of tree x v
  unfolding child_of right_child
  child-right z =
      rw (ne_eqb (x % 2) 0 z)
      (take_all 16 (drop 16 (children tree (x / 2) v)) (omega (arith, length-drop 16 (children tree (x / 2) v), length-children tree (x / 2) v)))

  pub child-row : row_of pair 16 (x % 2) ≡ child_of tree x v
  child-row =
      ⊎_elim
      (λ (z : x % 2 ≡ 0). ap (row_of pair 16) z ∙ (pair_row 0 (omega arith) ∙ child-left z))
      (λ (n : x % 2 ≢ 0). let z : x % 2 ≡ 1 = omega arith in ap (row_of pair 16) z ∙ (pair_row 1 (omega arith) ∙ child-right n))
      (eq-or-ne (x % 2) 0)

-- node x from above, less than d levels up
module _ (tree : Context) (o : ℕ → Bool) (values : List ℕ) (d x : ℕ) where
  pub above-end : d ≡ 0 → replicate 16 0 ≡ from_above o (child_of tree) values d x
  unfolding from_above
  above-end e = rw e

  step-opened : (k : ℕ) → o x ≡ true → row_of values 16 (length (those x o)) ≡ from_above o (child_of tree) values (suc k) x
  unfolding from_above given
  step-opened k t = rw t

  step-child : (k : ℕ) → o x ≡ false → child_of tree x (from_above o (child_of tree) values k (x / 2)) ≡ from_above o (child_of tree) values (suc k) x
  unfolding from_above
  step-child k t = rw t

  -- d is not 0
  module _ (some : d ≢ 0) where
    level : suc (d - 1) ≡ d
    level = omega arith

    pub above-opened : (r : List ℕ) → o x ≡ true → r ≡ row_of values 16 (length (those x o)) → r ≡ from_above o (child_of tree) values d x
    above-opened r t e = e ∙ (step-opened (d - 1) t ∙ ap (λ (k : ℕ). from_above o (child_of tree) values k x) level)

    pub above-child : (v r : List ℕ) → o x ≡ false → v ≡ from_above o (child_of tree) values (d - 1) (x / 2) → r ≡ child_of tree x v
        → r ≡ from_above o (child_of tree) values d x
    above-child v r t e q = q ∙ (ap (child_of tree x) e ∙ (step-child (d - 1) t ∙ ap (λ (k : ℕ). from_above o (child_of tree) values k x) level))

-- by the marks
path-from : (M : ℕ) (salt values : List ℕ) (j : ℕ) (hidden : ℕ → Bool)
    → from_above (opened_by (marks_of (height M) M hidden)) (child_of (masters_context salt)) values (suc (height M)) (2 ^ height M + j) ≡ master_from M hidden salt values j
unfolding master_from leaf_from
path-from M salt values j hidden =
    ap (λ (o : ℕ → Bool). from_above o (child_of (masters_context salt)) values (suc (height M)) (2 ^ height M + j)) (same-opened (height M) M hidden)

-- the master of an instance of a proof that passes the tests
module _ (s : List ℕ) (f : Shape) (proof table marks : List ℕ) (t : Tested s f proof table marks) (j : ℕ) (low : j < f.counts.instances) where
  abbrev path_by : Context → List ℕ
  path_by tree =
      from_above (opened_by marks) (child_of tree) (take (70 + f.opened - 70) (drop 70 proof)) (suc (height f.counts.instances)) (2 ^ height f.counts.instances + j)

  abbrev path_of : List ℕ
  path_of = path_by (masters_context (header_salt proof))

  path-master : path_of ≡ master_at f.counts.instances (asks_in f.counts.parties table) proof j
  unfolding master_at
  path-master =
      let M : ℕ = f.counts.instances in
      let n : ℕ = f.counts.parties in
      let values : List ℕ = take (70 + f.opened - 70) (drop 70 proof) in
      ap (λ (m : List ℕ). from_above (opened_by m) (child_of (masters_context (header_salt proof))) values (suc (height M)) (2 ^ height M + j)) t.marked
      ∙ (path-from M (header_salt proof) values j (hidden_by table n)
      ∙ (master-from-same M (hidden_by table n) (hides (asks_in n table)) (hides-table M n table t.sized.entries) (header_salt proof) values j
      ∙ ap (λ (v : List ℕ). master_from M (hides (asks_in n table)) (header_salt proof) v j) (opened-are s f proof table marks t)))

  -- it is made where the instance is not chosen
  module _ (p : ℕ) (e : p ≡ get_or table j f.counts.parties) (seed : List ℕ) (tree : Context)
      (et : tree ≡ masters_context (header_salt proof)) (q : seed ≡ cond (not (eqb p f.counts.parties)) (replicate 16 0) (path_by tree)) where
    chosen-one : p ≢ f.counts.parties → hides (asks_in f.counts.parties table) j ≡ true
    unfolding is_chosen
    chosen-one ne =
        ap (λ (i : ℕ). is_chosen (ask_of f.counts.parties i)) (sym e) ∙ ap is_chosen (ask-hiding f.counts.parties p ne)

    pub path-seen : hides (asks_in f.counts.parties table) j ≡ false → seed ≡ master_at f.counts.instances (asks_in f.counts.parties table) proof j
    path-seen h =
        ⊎_elim
        (λ (z : p ≡ f.counts.parties). q ∙ (rw (eq-eqb p f.counts.parties z) refl ∙ (ap path_by et ∙ path-master)))
        (λ (ne : p ≢ f.counts.parties). absurd (true≢false (sym (chosen-one ne) ∙ h)))
        (eq-or-ne p f.counts.parties)

-- leaf j of the tree over m masters, in the numbers that are computed
pub masters-inside : (m j h l : ℕ) → m ≤ 512 → j < m → h ≡ height m → l ≡ 2 ^ h → (l + j < 2 ^ suc (height m)) × (2 ^ suc (height m) ≤ 1024)
masters-inside m j h l few low eh el =
    let e : l ≡ 2 ^ height m = el ∙ ap (λ (i : ℕ). 2 ^ i) eh in
    let a = least-height.fits m in
    let b = pow_mono {i = suc (height m)} {j = 10} (omega (arith, masters-low m few)) in
    (omega (arith, pow-succ' 2 (height m)), b)

-- a chosen instance's master is zeros
pub master-chosen : (b : Bool) (z v : List ℕ) → b ≡ true → z ≡ cond b z v
master-chosen b z v e = rw e

-- else it is that of the path
pub master-path : (tree : Context) (b : Bool) (marks values r : List ℕ) (m j h l : ℕ) → b ≡ false → h ≡ height m → l ≡ 2 ^ h
    → r ≡ from_above (opened_by marks) (child_of tree) values (h + 1) (l + j)
    → r ≡ cond b (replicate 16 0) (from_above (opened_by marks) (child_of tree) values (suc (height m)) (2 ^ height m + j))
master-path tree b marks values r m j h l t eh el q =
    q
    ∙ (ap (λ (i : ℕ). from_above (opened_by marks) (child_of tree) values (h + 1) (i + j)) (el ∙ ap (λ (i : ℕ). 2 ^ i) eh)
    ∙ (ap (λ (i : ℕ). from_above (opened_by marks) (child_of tree) values i (2 ^ height m + j)) (add-one h ∙ ap suc eh) ∙ rw t refl))
