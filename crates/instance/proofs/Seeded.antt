-- Seeds from leaves and tapes from seeds, as rows in the memory: one turn of each loop, and what the memory then holds.
-- Assumes nothing.
use mathlib.Core.Path.{◌≡◌, refl, sym, ap, ap₂, ◌∙◌}
use mathlib.Core.Bool.{cond}
use mathlib.Core.List.{List, flatten}
use Prim.Native.Nat.{ℕ, suc, ◌+◌, ◌*◌, ◌^◌, ◌≤◌, ◌<◌}
use native.Mathlib.Omega.{arith}
use borrow.Author.Tests.{eq-eqb, ne_eqb}
use lib.Dec.{eqb}
use lib.ListN.{length, take, drop, replicate, length-replicate}
use lib.Seq.{sets, length-sets, take-take}
use Rattle.hashing.specs.declared.Context.{Context}
use Rattle.bits.specs.Bits.{tabulate, oct}
use Rattle.bits.specs.Bytes.{row_of}
use Rattle.keccak.proofs.Lengths.{length-shake128}
use Rattle.parties.specs.Parties.{height_of}
use Rattle.circuit.specs.Circuit.{Circuit}
use Rattle.circuit.specs.File.{circuit_of}
use Rattle.circuit.specs.declared.Sizes.{Sizes}
use Rattle.plain.specs.Tapes.{row_bytes, used_bits}
use Rattle.planes.specs.Steps.{tape_words, rows_at, seeds_at, leaves_at}
use Rattle.planes.specs.declared.Layout.{Layout}
use Rattle.planes.proofs.Fits.{seeds-before}
use Rattle.walk.specs.Steps.{layout_of}
use Rattle.packed.specs.Steps.{tapes_held}
use Rattle.packed.proofs.Runs.{room-planes, room-end}
use Rattle.mpc.specs.Steps.{Known}
use Rattle.mpc.proofs.Opened.{sized, circuit-inputs, circuit-ands, circuit-row}
use Rattle.tree.specs.Tree.{leaves_below}
use Rattle.party.specs.Derive.{seed_row}
use Rattle.party.specs.Derive as derive
use Rattle.party.proofs.Clearing.{length-tape}
use Rattle.instance.specs.Instance.{leaves_of, seeds_of, seeds_but, master_seeds, master_tapes, seed_of, tapes_of}
use Rattle.instance.specs.Steps.{Tree, Lent, seeds_held, seed_but, tape_but, tapes_but}
use Rattle.instance.proofs.Trees.{tree-sizes}
use Rattle.instance.proofs.Written.{sets-here, part-ahead, row-part, rows-length, row_kept, either-length}

-- the sizes of a tree of height h
module _ (n h : ℕ) (tree : Tree n h) where
  pub tree-few : n ≤ 64
  tree-few = (tree-sizes n h tree).few

  pub tree-leaves : 2 ^ h ≡ n
  tree-leaves = ap (λ (k : ℕ). 2 ^ k) tree.height ∙ (tree-sizes n h tree).leaves

  -- nodes are numbered in two bytes
  pub tree-small : (1 + 1) * 2 ^ h ≤ 65536
  tree-small = omega (arith, tree-few, tree-leaves)

-- the seeds of all parties but p
module _ (p : ℕ) (j : Context) (leaves : List ℕ) where
  pub seed-size : (i : ℕ) → length (seed_but p j leaves i) ≡ 32
  unfolding seed_row
  seed-size i = either-length (eqb i p) (replicate 32 0) (seed_row j i (row_of leaves 16 i)) 32 (length-replicate {A = ℕ} 32 0) (length-shake128 _ 32)

  pub seed-zero : (i k : ℕ) (z : List ℕ) → i ≡ p → k ≡ 32 → z ≡ replicate k 0 → z ≡ seed_but p j leaves i
  seed-zero i k z e q h = h ∙ ap (λ (x : ℕ). replicate x 0) q ∙ rw (eq-eqb i p e) refl

  pub seed-derived : (i : ℕ) (leaf z : List ℕ) → (i ≡ p → ⊥) → leaf ≡ row_of leaves 16 i → z ≡ seed_row j i leaf → z ≡ seed_but p j leaves i
  seed-derived i leaf z e q h = h ∙ ap (seed_row j i) q ∙ rw (ne_eqb i p e) refl

  seeds-size : (n : ℕ) → length (seeds_but n p j leaves) ≡ 32 * n
  unfolding seeds_but
  seeds-size n = omega (arith, rows-length 32 (seed_but p j leaves) seed-size n)

  -- all rows
  pub seeds-end : (n i to : ℕ) (m w : List ℕ) → i ≡ n → w ≡ sets m to (flatten (tabulate i (seed_but p j leaves))) → w ≡ sets m to (seeds_but n p j leaves)
  unfolding seeds_but
  seeds-end n i to m w e h = h ∙ ap (λ (k : ℕ). sets m to (flatten (tabulate k (seed_but p j leaves)))) e

-- leaf i in the memory
pub leaf-here : (n i a k : ℕ) (m : List ℕ) → i < n → a + 16 * n ≤ length m → k ≡ a + 16 * i → take 16 (drop k m) ≡ row_of (take (16 * n) (drop a m)) 16 i
leaf-here n i a k m h l e =
    let x : k ≡ a + i * 16 = omega arith in
    let y : n * 16 ≡ 16 * n = omega arith in
    ap (λ (t : ℕ). take 16 (drop t m)) x ∙ sym (row-part 16 n i a m h (omega arith)) ∙ ap (λ (t : ℕ). row_of (take t (drop a m)) 16 i) y

-- the tapes of all parties but p
module _ (c : Circuit) (n p : ℕ) (j : Context) (seeds : List ℕ) where
  pub tape-size : (len : ℕ) → len ≡ row_bytes c → (i : ℕ) → length (tape_but c n p j seeds i) ≡ len
  tape-size len e i =
      either-length (eqb i p) (replicate (row_bytes c) 0) (derive.tape_row j i (seed_of seeds i) (used_bits c n i) (row_bytes c)) len
      (length-replicate {A = ℕ} (row_bytes c) 0 ∙ sym e) (length-tape j i (seed_of seeds i) (used_bits c n i) (row_bytes c) ∙ sym e)

  pub tape-zero : (i k : ℕ) (z : List ℕ) → i ≡ p → k ≡ row_bytes c → z ≡ replicate k 0 → z ≡ tape_but c n p j seeds i
  tape-zero i k z e q h = h ∙ ap (λ (x : ℕ). replicate x 0) q ∙ rw (eq-eqb i p e) refl

  pub tape-derived : (i used k : ℕ) (seed z : List ℕ) → (i ≡ p → ⊥) → seed ≡ seed_of seeds i → used ≡ used_bits c n i → k ≡ row_bytes c
      → z ≡ derive.tape_row j i seed used k → z ≡ tape_but c n p j seeds i
  tape-derived i used k seed z e q u v h =
      h ∙ ap (λ (x : List ℕ). derive.tape_row j i x used k) q ∙ ap₂ (derive.tape_row j i (seed_of seeds i)) u v ∙ rw (ne_eqb i p e) refl

  tapes-size : length (tapes_but c n p j seeds) ≡ n * row_bytes c
  unfolding tapes_but
  tapes-size = rows-length (row_bytes c) (tape_but c n p j seeds) (tape-size (row_bytes c) refl) n

  -- all rows
  pub tapes-end : (i to : ℕ) (m w : List ℕ) → i ≡ n → w ≡ sets m to (flatten (tabulate i (tape_but c n p j seeds))) → w ≡ sets m to (tapes_but c n p j seeds)
  unfolding tapes_but
  tapes-end i to m w e h = h ∙ ap (λ (k : ℕ). sets m to (flatten (tabulate k (tape_but c n p j seeds)))) e

-- seed i in the memory
pub seed-here : (n i a k : ℕ) (m : List ℕ) → i < n → a + 32 * n ≤ length m → k ≡ a + 32 * i → take 16 (drop k m) ≡ seed_of (take (32 * n) (drop a m)) i
seed-here n i a k m h l e =
    let x : k ≡ a + i * 32 = omega arith in
    let y : n * 32 ≡ 32 * n = omega arith in
    ap (λ (t : ℕ). take 16 (drop t m)) x ∙ sym (take-take 16 32 (drop (a + i * 32) m) (omega arith))
    ∙ ap (take 16) (sym (row-part 32 n i a m h (omega arith)) ∙ ap (λ (t : ℕ). row_of (take t (drop a m)) 32 i) y)

-- the bits that party k uses, by I and A
pub used-is : (s : List ℕ) (i o g a : ℕ) → Known s (sized i o g a) → (n k used : ℕ) → used ≡ cond (eqb (suc k) n) (i + a) (i + 2 * a)
    → used ≡ used_bits (circuit_of s) n k
unfolding used_bits
used-is s i o g a known n k used e =
    e ∙ sym (ap₂ (λ (x y : ℕ). cond (eqb (suc k) n) (x + y) (x + 2 * y)) (circuit-inputs s i o g a known) (circuit-ands s i o g a known))

-- leaves, seeds and tapes are written one after the other: the seeds stand first, the leaves last
module _ (c : Circuit) (n p : ℕ) (j : Context) (leaves seeds rows : ℕ) (m m₁ m₂ m₃ L : List ℕ) (size : length L ≡ 16 * n) (fits : leaves + 16 * n ≤ length m)
    (low : seeds + 32 * n ≤ rows) (below : rows + n * row_bytes c ≤ leaves) (e₁ : m₁ ≡ sets m leaves L)
    (e₂ : m₂ ≡ sets m₁ seeds (seeds_but n p j (take (16 * n) (drop leaves m₁))))
    (e₃ : m₃ ≡ sets m₂ rows (tapes_but c n p j (take (32 * n) (drop seeds m₂)))) where
  abbrev S : List ℕ
  S = seeds_but n p j L

  seeds-written : take (32 * n) (drop seeds m₂) ≡ S
  seeds-written =
      let l : take (16 * n) (drop leaves m₁) ≡ L
      = ap (λ (t : List ℕ). take (16 * n) (drop leaves t)) e₁ ∙ sets-here m leaves (16 * n) L size fits in
      ap (λ (t : List ℕ). take (32 * n) (drop seeds t)) (e₂ ∙ ap (λ (t : List ℕ). sets m₁ seeds (seeds_but n p j t)) l)
      ∙ sets-here m₁ seeds (32 * n) S (seeds-size p j L n) (omega (arith, ap length e₁, length-sets m leaves L))

  abbrev T : List ℕ
  T = tapes_but c n p j S

  e₄ : m₃ ≡ sets m₂ rows T
  e₄ = e₃ ∙ ap (λ (t : List ℕ). sets m₂ rows (tapes_but c n p j t)) seeds-written

  length₂ : length m₂ ≡ length m
  length₂ =
      ap length e₂ ∙ length-sets m₁ seeds (seeds_but n p j (take (16 * n) (drop leaves m₁))) ∙ ap length e₁ ∙ length-sets m leaves L

  pub seeds-held : take (32 * n) (drop seeds m₃) ≡ S
  seeds-held =
      ap (λ (t : List ℕ). take (32 * n) (drop seeds t)) e₄ ∙ part-ahead (32 * n) seeds rows m₂ T low ∙ seeds-written

  pub tapes-held : take (n * row_bytes c) (drop rows m₃) ≡ T
  tapes-held =
      ap (λ (t : List ℕ). take (n * row_bytes c) (drop rows t)) e₄
      ∙ sets-here m₂ rows (n * row_bytes c) T (tapes-size c n p j S) (omega (arith, length₂))

-- no party is left out
pub seeds-all : (n : ℕ) (j : Context) (leaves : List ℕ) → seeds_but n n j leaves ≡ seeds_of n j leaves
unfolding seeds_but seeds_of
seeds-all n j leaves = row_kept n (λ i. seed_row j i (row_of leaves 16 i)) (replicate 32 0)

pub tapes-all : (c : Circuit) (n : ℕ) (j : Context) (seeds : List ℕ) → tapes_but c n n j seeds ≡ tapes_of c n j seeds
unfolding tapes_but tapes_of
tapes-all c n j seeds = row_kept n (λ i. derive.tape_row j i (seed_of seeds i) (used_bits c n i) (row_bytes c)) (replicate (row_bytes c) 0)

-- a master's leaves give its seeds and its tapes
module _ (n : ℕ) (j : Context) (h : ℕ) (master L : List ℕ) (e : h ≡ height_of n) (d : L ≡ leaves_below j h 1 master) where
  pub master-seeds : seeds_but n n j L ≡ master_seeds n j master
  unfolding master_seeds leaves_of
  master-seeds = seeds-all n j L ∙ ap (seeds_of n j) (d ∙ ap (λ (k : ℕ). leaves_below j k 1 master) e)

  pub master-tapes : (c : Circuit) → tapes_but c n n j (seeds_but n n j L) ≡ master_tapes c n j master
  unfolding master_tapes
  master-tapes c = tapes-all c n j (seeds_but n n j L) ∙ ap (tapes_of c n j) master-seeds

-- the places in a memory that is lent, by the layout l
module _ (s : List ℕ) (z : Sizes) (n h : ℕ) (m : List ℕ) (lent : Lent s z n h m) (l : Layout) (e : l ≡ layout_of z) where
  few : n ≤ 64
  few = tree-few n h lent.tree

  some : 1 ≤ n
  some = omega (arith, (tree-sizes n h lent.tree).some)

  -- what the places ask
  pub places-room : (l.wires ≤ 1048576) × ((tape_words l ≤ 4194304) × (n ≤ 64))
  places-room =
      let r = room-planes s z lent.known.legal lent.known.ands n m some few lent.room in
      rw e (r.few_wires, (r.few_words, omega (arith, few)))

  -- leaves, seeds and tapes fit
  pub leaves-fit : (leaves : ℕ) → leaves ≡ leaves_at l n → leaves + 16 * n ≤ length m
  leaves-fit leaves el =
      omega (arith, el ∙ ap (λ (x : Layout). leaves_at x n) e, room-end s z lent.known.legal lent.known.ands n m some few lent.room)

  module _ (leaves seeds rows : ℕ) (el : leaves ≡ leaves_at l n) (es : seeds ≡ seeds_at l) (er : rows ≡ rows_at l) where
    pub seeds-fit : seeds + 32 * n ≤ rows
    seeds-fit = omega (arith, es, er, seeds-before l, few)

    pub tapes_fit : rows + n * oct (z.inputs + 2 * z.ands) ≤ leaves
    tapes_fit = omega (arith, er ∙ ap (λ (x : Layout). rows_at x) e, el ∙ ap (λ (x : Layout). leaves_at x n) e)

    -- what is held when they are written
    module _ (p : ℕ) (j : Context) (m₁ m₂ m₃ L : List ℕ) (size : length L ≡ 16 * n) (e₁ : m₁ ≡ sets m leaves L)
        (e₂ : m₂ ≡ sets m₁ seeds (seeds_but n p j (take (16 * n) (drop leaves m₁))))
        (e₃ : m₃ ≡ sets m₂ rows (tapes_but (circuit_of s) n p j (take (32 * n) (drop seeds m₂)))) where
      row : row_bytes (circuit_of s) ≡ oct (z.inputs + 2 * z.ands)
      row = circuit-row s z.inputs z.outputs z.gates z.ands lent.known

      below : rows + n * row_bytes (circuit_of s) ≤ leaves
      below = omega (arith, tapes_fit, ap (λ (x : ℕ). n * x) row)

      pub seeds-are : seeds_held z n m₃ ≡ seeds_but n p j L
      seeds-are =
          ap (λ (x : ℕ). take (32 * n) (drop x m₃)) (sym (es ∙ ap seeds_at e))
          ∙ seeds-held (circuit_of s) n p j leaves seeds rows m m₁ m₂ m₃ L size (leaves-fit leaves el) seeds-fit below e₁ e₂ e₃

      pub tapes-are : tapes_held z n m₃ ≡ tapes_but (circuit_of s) n p j (seeds_but n p j L)
      tapes-are =
          ap₂ (λ (x y : ℕ). take (n * x) (drop y m₃)) (sym row) (sym (er ∙ ap (λ (x : Layout). rows_at x) e))
          ∙ tapes-held (circuit_of s) n p j leaves seeds rows m m₁ m₂ m₃ L size (leaves-fit leaves el) seeds-fit below e₁ e₂ e₃
