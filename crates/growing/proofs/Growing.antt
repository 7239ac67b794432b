-- The values of the nodes in their rows: the two rows below a node follow from its own.
-- Assumes nothing.
use native.Mathlib.Omega.{arith}
use native.Mathlib.Nat.{pow-succ'}
use native.Mathlib.Numerals.{add-one}
use mathlib.Core.Path.{◌≡◌, refl, sym, ap, ap₂, ◌∙◌}
use mathlib.Core.Bool.{Bool, true, false, cond}
use mathlib.Core.List.{List, [], ◌∷◌, ◌++◌, map, flatten, append_assoc, append-nil}
use Prim.Native.Nat.{ℕ, zero, suc, ◌+◌, ◌-◌, ◌*◌, ◌/◌, ◌%◌, ◌^◌, ◌≤◌, ◌<◌}
use borrow.Author.Tests.{eq-eqb, ne_eqb}
use borrow.Rule.Slice.PartMut.{put_mid, Post-is}
use lib.Dec.{eqb}
use lib.ListN.{length, take, drop, replicate, length-append, length-drop, length-replicate, take-append-drop}
use lib.Pow.{pow_pos, pow_mono}
use lib.Seq.{take_all, take_at, drop_at, drop-drop, take-append-le, drop-append-le, length-take-le}
use Rattle.hashing.specs.declared.Context.{Context}
use Rattle.bits.specs.Bits.{tabulate}
use Rattle.bits.specs.Bytes.{row_of}
use Rattle.bits.proofs.Rows.{row_inside, row-tabulate, length-flatten, flatten-more, rows-turn}
use Rattle.bits.proofs.Tabulate.{length-tabulate, get_d_tabulate, tabulate-cong}
use Rattle.tree.specs.Tree.{children, left_child, right_child}
use Rattle.cover.specs.Cover.{those, unhidden, opened, cover}
use Rattle.cover.specs.Masters.{height, value_of, child_of, masters_context, opening, master_of, cover_of}
use Rattle.cover.specs.Steps.{marks_of, cover_by, node_row, nodes_of, put_row}
use Rattle.cover.proofs.Levels.{has-node}
use Rattle.cover.proofs.Covering.{opened-unhidden}
use Rattle.cover.proofs.Least.{least-height}
use Rattle.cover.proofs.Rebuilding.{length-value, value-step, length-child}
use Rattle.growing.proofs.Marking.{cover-marked}

-- a row of the first n bytes is that row of all
pub row-front : (s : List ℕ) (len i n : ℕ) → i * len + len ≤ n → n ≤ length s → row_of s len i ≡ row_of (take n s) len i
row-front s len i n w u =
    let t : length (take n s) ≡ n = length-take-le n s u in
    row_inside s len i (omega arith)
    ∙ ap (λ (z : List ℕ). take len (drop (i * len) z)) (sym (take-append-drop n s))
    ∙ ap (take len) (drop-append-le (i * len) (take n s) (drop n s) (omega arith))
    ∙ take-append-le len (drop (i * len) (take n s)) (drop n s) (rw (length-drop (i * len) (take n s)) (omega arith))
    ∙ sym (row_inside (take n s) len i (omega arith))

-- another row k, as a part that was lent and written
module _ (len k a e : ℕ) (from : a ≡ k * len) (to : e ≡ a + len) (s v : List ℕ) where
  pub row_put : put_mid a (e - a) s v ≡ put_row len s k v
  unfolding put_row
  row_put =
      ap (λ (z : List ℕ). take a s ++ (v ++ z)) (Post-is a e s (omega arith))
      ∙ ap (λ (z : ℕ). take z s ++ (v ++ drop e s)) from
      ∙ ap (λ (z : ℕ). take (k * len) s ++ (v ++ drop z s)) (to ∙ ap (λ (z : ℕ). z + len) from)

-- zeros and the root, in two parts
pub root-put : (nodes z r root : List ℕ) → 32 ≤ length nodes → z ≡ replicate (length (take 16 nodes)) 0 → r ≡ root
    → put_mid 16 16 (z ++ drop 16 nodes) r ≡ put_row 32 nodes 0 (replicate 16 0 ++ root)
unfolding put_row
root-put nodes z r root w e f =
    let q : z ≡ replicate 16 0 = e ∙ ap (λ (n : ℕ). replicate n 0) (length-take-le 16 nodes (omega arith)) in
    let lz : length z ≡ 16 = ap length q ∙ length-replicate {A = ℕ} 16 0 in
    ap₂ (λ (a b : List ℕ). a ++ (r ++ b)) (take_at z (drop 16 nodes) 16 lz) (ap (drop 16) (drop_at z (drop 16 nodes) 16 lz) ∙ drop-drop 16 16 nodes)
    ∙ ap₂ (λ (a b : List ℕ). a ++ (b ++ drop 32 nodes)) q f
    ∙ sym (append_assoc (replicate 16 0) root (drop 32 nodes))

-- a height up to 15 has few leaves
pub few-leaves : (h : ℕ) → h ≤ 15 → 2 ^ h ≤ 32768
few-leaves h w = pow_mono {i = h} {j = 15} w

-- nodes 2k and 2k + 1 are the two halves of one hash
pub children-pair : (j : Context) (k : ℕ) (v : List ℕ) → children j k v ≡ child_of j (2 * k) v ++ child_of j (2 * k + 1) v
unfolding child_of left_child right_child
children-pair j k v =
    let a : 2 * k / 2 ≡ k = omega arith in
    let b : (2 * k + 1) / 2 ≡ k = omega arith in
    let o : (2 * k + 1) % 2 ≡ 0 → ⊥ = λ z. omega arith in
    rw (eq-eqb (2 * k % 2) 0 (omega arith), ne_eqb ((2 * k + 1) % 2) 0 o, a, b) (sym (take-append-drop 16 (children j k v)))

value-first : (rule : ℕ → List ℕ → List ℕ) (root : List ℕ) (h : ℕ) → value_of rule root h 1 ≡ root
unfolding value_of
value-first rule root zero = refl
value-first rule root (suc h) = refl

-- rows one after the other, in two parts
flatten-split : (a b : ℕ) (f : ℕ → List ℕ) → flatten (tabulate (a + b) f) ≡ flatten (tabulate a f) ++ flatten (tabulate b (λ i. f (a + i)))
unfolding flatten
flatten-split a zero f =
    let e : a + 0 ≡ a = omega arith in
    ap (λ (m : ℕ). flatten (tabulate m f)) e ∙ sym (append-nil (flatten (tabulate a f)))
flatten-split a (suc b) f =
    let e : a + suc b ≡ suc (a + b) = omega arith in
    ap (λ (m : ℕ). flatten (tabulate m f)) e
    ∙ sym (flatten-more (a + b) f)
    ∙ ap (λ (z : List ℕ). z ++ f (a + b)) (flatten-split a b f)
    ∙ append_assoc (flatten (tabulate a f)) (flatten (tabulate b (λ i. f (a + i)))) (f (a + b))
    ∙ ap (λ (z : List ℕ). flatten (tabulate a f) ++ z) (flatten-more b (λ i. f (a + i)))

pub length-rows : (len n : ℕ) (f : ℕ → List ℕ) → ((i : ℕ) → length (f i) ≡ len) → length (flatten (tabulate n f)) ≡ n * len
length-rows len n f each =
    length-flatten len (tabulate n f) (λ i w. ap length (get_d_tabulate n f i [] (omega (arith, length-tabulate n f))) ∙ each i)
    ∙ ap (λ (m : ℕ). m * len) (length-tabulate n f)

-- b rows of len bytes, from row a on
module _ (len : ℕ) (f : ℕ → List ℕ) (each : (i : ℕ) → length (f i) ≡ len) where
  rows-part : (n a b : ℕ) → a + b ≤ n → take (b * len) (drop (a * len) (flatten (tabulate n f))) ≡ flatten (tabulate b (λ i. f (a + i)))
  rows-part n a b w =
      let c : ℕ = n - (a + b) in
      let e : n ≡ a + b + c = omega arith in
      let g : ℕ → List ℕ = λ i. f (a + b + i) in
      ap (λ (m : ℕ). take (b * len) (drop (a * len) (flatten (tabulate m f)))) e
      ∙ ap (λ (z : List ℕ). take (b * len) (drop (a * len) z)) (flatten-split (a + b) c f ∙ ap (λ (z : List ℕ). z ++ flatten (tabulate c g)) (flatten-split a b f)
      ∙ append_assoc (flatten (tabulate a f)) (flatten (tabulate b (λ i. f (a + i)))) (flatten (tabulate c g)))
      ∙ ap (take (b * len)) (drop_at (flatten (tabulate a f)) (flatten (tabulate b (λ i. f (a + i))) ++ flatten (tabulate c g)) (a * len) (length-rows len a f each))
      ∙ take_at (flatten (tabulate b (λ i. f (a + i)))) (flatten (tabulate c g)) (b * len) (length-rows len b (λ i. f (a + i)) (λ i. each (a + i)))

-- a tree by any rule
module _ (rule : ℕ → List ℕ → List ℕ) (root : List ℕ) (h : ℕ) where
  -- the two rows of node k's children
  pair : ℕ → List ℕ
  pair k = node_row rule root h (2 * k) ++ node_row rule root h (2 * k + 1)

  -- the rows of the children of every node below k stand
  pub Grown : ℕ → List ℕ → Type 0
  Grown k nodes = take (k * 32) nodes ≡ flatten (tabulate k pair)

-- that gives 16 bytes
module _ (rule : ℕ → List ℕ → List ℕ) (root : List ℕ) (sized : (x : ℕ) (v : List ℕ) → length (rule x v) ≡ 16) (l : length root ≡ 16) (h : ℕ) where
  length-row : (x : ℕ) → length (node_row rule root h x) ≡ 16
  unfolding node_row
  length-row x = go (eqb x 0)
    where
      go : (b : Bool) → length (cond b (replicate 16 0) (value_of rule root h x)) ≡ 16
      go true = length-replicate {A = ℕ} 16 0
      go false = length-value rule root sized l h x

  row-node : (x : ℕ) → 1 ≤ x → node_row rule root h x ≡ value_of rule root h x
  unfolding node_row
  row-node x p = rw (ne_eqb x 0 (λ e. omega arith))

  row_zero : node_row rule root h 0 ≡ replicate 16 0
  unfolding node_row
  row_zero = refl

  pairs : (n : ℕ) → flatten (tabulate n (pair rule root h)) ≡ flatten (tabulate (2 * n) (node_row rule root h))
  unfolding pair
  pairs zero = refl
  pairs (suc n) =
      let f : ℕ → List ℕ = node_row rule root h in
      let e : suc (2 * n + 1) ≡ 2 * suc n = omega arith in
      sym (flatten-more n (pair rule root h))
      ∙ ap (λ (z : List ℕ). z ++ pair rule root h n) (pairs n)
      ∙ sym (append_assoc (flatten (tabulate (2 * n) f)) (f (2 * n)) (f (2 * n + 1)))
      ∙ ap (λ (z : List ℕ). z ++ f (2 * n + 1)) (flatten-more (2 * n) f ∙ ap (λ (m : ℕ). flatten (tabulate m f)) (sym (add-one (2 * n))))
      ∙ flatten-more (2 * n + 1) f
      ∙ ap (λ (m : ℕ). flatten (tabulate m f)) e

  pub grown-one : (nodes nodes' : List ℕ) → nodes' ≡ put_row 32 nodes 0 (replicate 16 0 ++ root) → Grown rule root h 1 nodes'
  unfolding Grown pair flatten put_row
  grown-one nodes nodes' e =
      let n : length (replicate 16 0 ++ root) ≡ 32 = length-append (replicate 16 0) root ∙ omega (arith, length-replicate {A = ℕ} 16 0) in
      ap (take 32) e
      ∙ take_at (replicate 16 0 ++ root) (drop 32 nodes) 32 n
      ∙ ap₂ ◌++◌ (sym row_zero) (sym (row-node 1 (omega arith) ∙ value-first rule root h))
      ∙ flatten-more 0 (pair rule root h)

  -- among them that of node k itself
  pub grown-row : (k : ℕ) (nodes : List ℕ) → 1 ≤ k → k * 32 ≤ length nodes → Grown rule root h k nodes → row_of nodes 16 k ≡ value_of rule root h k
  unfolding Grown
  grown-row k nodes p u g =
      row-front nodes 16 k (k * 32) (omega arith) u
      ∙ ap (λ (z : List ℕ). row_of z 16 k) (g ∙ pairs k)
      ∙ row-tabulate 16 (2 * k) (node_row rule root h) (λ i w. length-row i) k (omega arith)
      ∙ row-node k p

  pub grown-more : (k : ℕ) (nodes nodes' : List ℕ) → 1 ≤ k → k < 2 ^ h → length nodes ≡ 2 ^ h * 32 → Grown rule root h k nodes
      → nodes' ≡ put_row 32 nodes k (rule (2 * k) (row_of nodes 16 k) ++ rule (2 * k + 1) (row_of nodes 16 k)) → Grown rule root h (k + 1) nodes'
  unfolding Grown pair
  grown-more k nodes nodes' p u n g e =
      let v : List ℕ = row_of nodes 16 k in
      let z : List ℕ = rule (2 * k) v ++ rule (2 * k + 1) v in
      let i : v ≡ value_of rule root h k = grown-row k nodes p (omega arith) g in
      let a : k ≡ 2 * k / 2 = omega arith in
      let b : k ≡ (2 * k + 1) / 2 = omega arith in
      let child : (x : ℕ) → k ≡ x / 2 → 2 ≤ x → x < 2 ^ suc h → rule x v ≡ node_row rule root h x =
      λ x q two w.
      ap (rule x) (i ∙ ap (value_of rule root h) q) ∙ sym (value-step rule root sized l h x two w) ∙ sym (row-node x (omega arith)) in
      let lz : length z ≡ 32 = length-append (rule (2 * k) v) (rule (2 * k + 1) v) ∙ omega (arith, sized (2 * k) v, sized (2 * k + 1) v) in
      ap (take ((k + 1) * 32)) (e ∙ sym (row_put 32 k (k * 32) (k * 32 + 32) refl refl nodes z))
      ∙ rows-turn 32 k (k * 32) (k * 32 + 32) refl refl nodes (omega arith) (pair rule root h) z lz g
      (ap₂ ◌++◌ (child (2 * k) a (omega arith) (omega (arith, pow-succ' 2 h))) (child (2 * k + 1) b (omega arith) (omega (arith, pow-succ' 2 h))))

  pub grown-all : (k : ℕ) (nodes : List ℕ) → 2 ^ h ≤ k → k ≤ 2 ^ h → length nodes ≡ 2 ^ h * 32 → Grown rule root h k nodes → nodes ≡ nodes_of rule root h
  unfolding Grown nodes_of
  grown-all k nodes a b n g =
      let e : 2 * k ≡ 2 ^ suc h = omega (arith, pow-succ' 2 h) in
      sym (take_all (k * 32) nodes (omega arith)) ∙ g ∙ pairs k ∙ ap (λ (m : ℕ). flatten (tabulate m (node_row rule root h))) e

  -- row x of the nodes is node x
  pub node_row_lem : (x : ℕ) → 1 ≤ x → x < 2 ^ suc h → row_of (nodes_of rule root h) 16 x ≡ value_of rule root h x
  unfolding nodes_of
  node_row_lem x p u = row-tabulate 16 (2 ^ suc h) (node_row rule root h) (λ i w. length-row i) x u ∙ row-node x p

  pub length-nodes : length (nodes_of rule root h) ≡ 16 * 2 ^ suc h
  unfolding nodes_of
  length-nodes = length-rows 16 (2 ^ suc h) (node_row rule root h) length-row ∙ omega arith

map-append : (f : ℕ → List ℕ) (xs ys : List ℕ) → map f (xs ++ ys) ≡ map f xs ++ map f ys
map-append f [] ys = refl
map-append f (x ∷ xs) ys = ap (λ (s : List (List ℕ)). f x ∷ s) (map-append f xs ys)

map-those : (p : ℕ → Bool) (f g : ℕ → List ℕ) (n : ℕ) → ((x : ℕ) → x < n → p x ≡ true → f x ≡ g x) → map f (those n p) ≡ map g (those n p)
unfolding those
map-those p f g zero same = refl
map-those p f g (suc n) same =
    map-append f (those n p) (cond (p n) (n ∷ []) [])
    ∙ ap₂ ◌++◌ (map-those p f g n (λ x w t. same x (omega arith) t)) (last (p n) refl)
    ∙ sym (map-append g (those n p) (cond (p n) (n ∷ []) []))
  where
    last : (b : Bool) → p n ≡ b → map f (cond b (n ∷ []) []) ≡ map g (cond b (n ∷ []) [])
    last true t = ap (λ (r : List ℕ). r ∷ []) (same n (omega arith) t)
    last false t = refl

-- the tree of instance j
module _ (j : Context) (root : List ℕ) (l : length root ≡ 16) where
  -- row k of the grown nodes is node k
  pub grow-row : (h k : ℕ) → 1 ≤ k → k < 2 ^ suc h → row_of (nodes_of (child_of j) root h) 16 k ≡ value_of (child_of j) root h k
  grow-row h = node_row_lem (child_of j) root (length-child j) l h

  pub length-grown : (h : ℕ) → length (nodes_of (child_of j) root h) ≡ 16 * 2 ^ suc h
  length-grown h = length-nodes (child_of j) root (length-child j) l h

  -- the opened nodes, gathered from all nodes
  pub gather-opening : (h M : ℕ) (hides : ℕ → Bool)
      → flatten (map (row_of (nodes_of (child_of j) root h) 16) (cover_by (marks_of h M hides))) ≡ opening h M hides (child_of j) root
  unfolding opening cover
  gather-opening h M hides =
      ap (λ (s : List ℕ). flatten (map (row_of (nodes_of (child_of j) root h) 16) s)) (cover-marked h M hides)
      ∙ ap flatten (map-those (opened h M hides) (row_of (nodes_of (child_of j) root h) 16) (value_of (child_of j) root h) (2 ^ suc h)
      (λ x w o. grow-row h x (has-node h (unhidden M hides) x (opened-unhidden h M hides x o)) w))

-- the bytes of the cover, gathered from the nodes of the masters' tree
pub gather-cover : (M : ℕ) (hides : ℕ → Bool) (salt root : List ℕ) → length root ≡ 16
    → flatten (map (row_of (nodes_of (child_of (masters_context salt)) root (height M)) 16) (cover_by (marks_of (height M) M hides))) ≡ cover_of M hides salt root
unfolding cover_of
gather-cover M hides salt root l = gather-opening (masters_context salt) root l (height M) M hides

-- the masters among them
pub grow-master : (M : ℕ) (salt root : List ℕ) (i : ℕ) → length root ≡ 16 → i < M
    → row_of (nodes_of (child_of (masters_context salt)) root (height M)) 16 (2 ^ height M + i) ≡ master_of M salt root i
unfolding master_of
grow-master M salt root i l w =
    grow-row (masters_context salt) root l (height M) (2 ^ height M + i) (omega (arith, pow_pos (height M))) (omega (arith, pow-succ' 2 (height M), least-height.fits M))

-- all of them, one after the other
pub masters-part : (M : ℕ) (salt root : List ℕ) → length root ≡ 16
    → take (M * 16) (drop (2 ^ height M * 16) (nodes_of (child_of (masters_context salt)) root (height M))) ≡ flatten (tabulate M (master_of M salt root))
unfolding master_of nodes_of
masters-part M salt root l =
    let h : ℕ = height M in
    let f : ℕ → List ℕ = node_row (child_of (masters_context salt)) root h in
    rows-part 16 f (length-row (child_of (masters_context salt)) root (length-child (masters_context salt)) l h) (2 ^ suc h) (2 ^ h) M (omega (arith, pow-succ' 2 h, least-height.fits M))
    ∙ ap flatten (tabulate-cong M (λ i. f (2 ^ h + i)) (λ i. value_of (child_of (masters_context salt)) root h (2 ^ h + i))
    (λ i w. row-node (child_of (masters_context salt)) root (length-child (masters_context salt)) l h (2 ^ h + i) (omega (arith, pow_pos h))))
