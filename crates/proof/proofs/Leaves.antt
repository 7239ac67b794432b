-- The nodes of the masters' tree: their number, the masters that a table hides, and the bytes of the opened ones.
-- Assumes nothing.
use mathlib.Core.Path.{◌≡◌, refl, ap, ◌∙◌}
use mathlib.Core.Bool.{Bool, true, false, not, cond}
use mathlib.Core.List.{List, [], ◌∷◌, ◌++◌}
use Prim.Native.Nat.{ℕ, zero, suc, ◌+◌, ◌*◌, ◌/◌, ◌^◌, ◌≤◌, ◌<◌}
use native.Mathlib.Omega.{arith}
use native.Mathlib.Nat.{pow-succ'}
use lib.Dec.{eqb}
use lib.ListN.{length, get_or, length-append}
use lib.Pow.{pow_mono}
use Rattle.bits.proofs.Rows.{row-length}
use Rattle.cover.specs.Cover.{those, opened, cover}
use Rattle.cover.specs.Masters.{height, cover_bytes}
use Rattle.cover.specs.Steps.{hidden_by, marks_of, cover_by}
use Rattle.cover.proofs.Least.{least-height}
use Rattle.growing.proofs.Marking.{cover-marked}
use Rattle.cover.proofs.Masters.{cover-same}
use Rattle.choice.specs.Challenge.{max_instances}
use Rattle.instance.specs.Instance.{is_chosen}
use Rattle.instance.specs.Instance as asked
use Rattle.proof.specs.File.{hides}
use Rattle.proof.specs.Steps.{ask_of, asks_in, marks_in, master_in}
use Rattle.proof.proofs.Choices.{entry-inside}

-- the numbers below n that pass are n at most
those-few : (n : ℕ) (f : ℕ → Bool) → length (those n f) ≤ n
unfolding those
those-few zero f = omega arith
those-few (suc n) f = go (f n) (those-few n f)
  where
    go : (b : Bool) → length (those n f) ≤ n → length (those n f ++ cond b (n ∷ []) []) ≤ suc n
    go true l = omega (arith, length-append (those n f) (n ∷ []))
    go false l = omega (arith, length-append {A = ℕ} (those n f) [])

-- up to 512 masters
module _ (M : ℕ) (few : M ≤ max_instances) where
  -- their tree is low
  pub masters-low : height M ≤ 9
  masters-low = least-height.least M 9 (omega arith)

  -- it has few rows
  pub rows_few : 2 ^ suc (height M) ≤ 1024
  rows_few = pow_mono {i = suc (height M)} {j = 10} (omega (arith, masters-low))

  -- their number, from that of its leaves
  pub rows_made : (h r : ℕ) → h ≡ height M → r ≡ 2 ^ h → (2 * r ≡ 2 ^ suc (height M)) × (2 * r ≤ 1024)
  rows_made h r e f =
      let q : r ≡ 2 ^ height M = f ∙ ap (λ (i : ℕ). 2 ^ i) e in
      (omega (arith, q, pow-succ' 2 (height M)), omega (arith, q, pow-succ' 2 (height M), rows_few))

  -- and few bytes
  pub opened-few : (h : ℕ → Bool) → cover_bytes M h ≤ 16384
  unfolding cover_bytes cover
  opened-few h = omega (arith, rows_few, those-few (2 ^ suc (height M)) (opened (height M) M h))

-- the second half of the rows holds the masters
module _ (M : ℕ) (nodes : List ℕ) (rows : length nodes ≡ 16 * 2 ^ suc (height M)) where
  -- their first row
  pub leaves_at : length nodes / 32 ≡ 2 ^ height M
  leaves_at = omega (arith, rows, pow-succ' 2 (height M))

  -- each has 16 bytes
  pub length-master_in : (j : ℕ) → j < M → length (master_in nodes j) ≡ 16
  length-master_in j l =
      row-length nodes 16 (length nodes / 32 + j) (omega (arith, rows, leaves_at, pow-succ' 2 (height M), least-height.fits M))

-- up to 512 masters
module _ (M : ℕ) (few : M ≤ max_instances) (nodes : List ℕ) (rows : length nodes ≡ 16 * 2 ^ suc (height M)) where
  -- the number of the rows
  pub rows_right : length nodes / 16 ≡ 2 ^ suc (height M)
  rows_right = omega (arith, rows)

  -- an array of 1024 bytes holds their marks
  pub rows-low : length nodes / 16 ≤ 1024
  rows-low = omega (arith, rows_right, rows_few M few)

-- a number asks for a party where it is not n
ask-chosen : (n p : ℕ) → not (eqb p n) ≡ is_chosen (ask_of n p)
unfolding is_chosen ask_of
ask-chosen n p = go (eqb p n)
  where
    go : (b : Bool) → not b ≡ is_chosen (cond b asked.opened (asked.hiding p))
    go true = refl
    go false = refl

-- the marks by a table
pub marks-made : (M n : ℕ) (table : List ℕ) (h : ℕ) (marks : List ℕ) → h ≡ height M → marks ≡ marks_of h M (hidden_by table n) → marks ≡ marks_in M n table
marks-made M n table h marks e f = f ∙ ap (λ (i : ℕ). marks_of i M (hidden_by table n)) e

-- a table of M entries
module _ (M n : ℕ) (table : List ℕ) (entries : length table ≡ M) where
  -- hides the masters of the chosen instances
  pub hides-table : (i : ℕ) → i < M → hidden_by table n i ≡ hides (asks_in n table) i
  unfolding hidden_by
  hides-table i l = ap (λ (p : ℕ). not (eqb p n)) (entry-inside table n i (omega (arith, entries))) ∙ ask-chosen n (get_or table i n)

  -- the opened nodes by its marks
  pub cover-in : cover_by (marks_in M n table) ≡ cover (height M) M (hides (asks_in n table))
  cover-in =
      cover-marked (height M) M (hidden_by table n)
      ∙ cover-same M (hidden_by table n) (hides (asks_in n table)) hides-table (height M)

  -- and their bytes
  pub opened-bytes : (marks : List ℕ) (r : ℕ) → marks ≡ marks_in M n table → r ≡ length (cover_by marks) → 16 * r ≡ cover_bytes M (hides (asks_in n table))
  unfolding cover_bytes
  opened-bytes marks r e f =
      ap (λ (k : ℕ). 16 * k) (f ∙ ap (λ (m : List ℕ). length (cover_by m)) e ∙ ap length cover-in)
