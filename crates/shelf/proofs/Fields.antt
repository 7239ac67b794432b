-- The fields of a page after a slot has moved.
-- Assumes nothing.
use mathlib.Core.Path.{◌≡◌, refl, sym, ◌∙◌}
use mathlib.Core.List.{List}
use mathlib.Core.Logic.{◌≢◌, ◌⊎◌, inl, inr, ⊎_elim}
use Prim.Native.Nat.{ℕ, ◌+◌, ◌≤◌, ◌<◌}
use native.Mathlib.Omega.{arith}
use lib.ListN.{length, take, drop, length-take, length-drop}
use lib.Seq.{sets, length-sets, get_or-take, get_or-drop, ext_get_or}
use Rattle.bits.specs.Bytes.{le_at, le_bytes}
use Rattle.bits.proofs.Numbers.{lt-or-le}
use Rattle.bits.proofs.Little.{le_at-sets, le_at-sets-other, length-le_bytes, get_or-sets-other}
use Rattle.shelf_page.specs.Page.{size_of, ready_head, spare_head, zero_field, draws_of, slot_at, next_of, root_of}
use Rattle.shelf_slots.specs.Slots.{put_slot, put_heads}
use Rattle.shelf_slots.proofs.Bytes.{part-put}

-- a part that a run of stores does not reach
pub part_same : (vs l : List ℕ) (j k n : ℕ) → (k + n ≤ j) ⊎ (j + length vs ≤ k) → take n (drop k (sets l j vs)) ≡ take n (drop k l)
part_same vs l j k n o =
    let e : length (take n (drop k (sets l j vs))) ≡ length (take n (drop k l)) = simp (length-take, length-drop, length-sets) in
    ext_get_or 0 (take n (drop k (sets l j vs))) (take n (drop k l)) e
    (λ i m.
    let q : i < n = below i m in
    get_or-take n (drop k (sets l j vs)) i 0 q ∙ get_or-drop k (sets l j vs) i 0
    ∙ get_or-sets-other 0 vs l j (k + i) (⊎_elim (λ w. inl (omega arith)) (λ w. inr (omega arith)) o)
    ∙ sym (get_or-take n (drop k l) i 0 q ∙ get_or-drop k l i 0))
  where
    below : (i : ℕ) → i < length (take n (drop k (sets l j vs))) → i < n
    below i m = omega (arith, length-take n (drop k (sets l j vs)))

-- slot k of page p has moved, with a new next slot and root; the heads are a and b
pub record Moved (p : List ℕ) (k next : ℕ) (root : List ℕ) (a b : ℕ) (q : List ℕ) : Type 0 where
  pub long : length q ≡ length p
  pub size : size_of q ≡ size_of p
  pub zeroed : zero_field q ≡ zero_field p
  pub ready : ready_head q ≡ a
  pub spare : spare_head q ≡ b
  pub next_here : next_of q k ≡ next
  pub next_there : (j : ℕ) → j ≢ 0 → j ≢ k → next_of q j ≡ next_of p j
  pub root_here : root_of q k ≡ root
  pub root_there : (j : ℕ) → j ≢ 0 → j ≢ k → root_of q j ≡ root_of p j

-- two slots are apart
apart : (j k : ℕ) → j ≢ 0 → k ≢ 0 → j ≢ k → (slot_at j + 18 ≤ slot_at k) ⊎ (slot_at k + 18 ≤ slot_at j)
apart j k z y n = ⊎_elim (λ (l : j < k). inl (omega arith)) (λ (l : k ≤ j). inr (omega arith)) (lt-or-le j k)

module _ (p : List ℕ) (k next : ℕ) (root : List ℕ) (a b : ℕ) (z : k ≢ 0) (l : length root ≡ 16) where
  q1 : List ℕ
  q1 = sets p (slot_at k) (le_bytes 2 next)

  q2 : List ℕ
  q2 = sets q1 (slot_at k + 2) root

  q3 : List ℕ
  q3 = sets q2 2 (le_bytes 2 a)

  q4 : List ℕ
  q4 = sets q3 4 (le_bytes 2 b)

  moved-is : put_heads a b (put_slot k next root p) ≡ q4
  unfolding put_heads put_slot q1 q2 q3 q4
  moved-is = refl

  lengths : (length q1 ≡ length p) × ((length q2 ≡ length p) × ((length q3 ≡ length p) × (length q4 ≡ length p)))
  unfolding q1 q2 q3 q4
  lengths =
      let e1 = length-sets p (slot_at k) (le_bytes 2 next) in
      let e2 = length-sets q1 (slot_at k + 2) root in
      let e3 = length-sets q2 2 (le_bytes 2 a) in
      let e4 = length-sets q3 4 (le_bytes 2 b) in
      (e1, (e2 ∙ e1, (e3 ∙ e2 ∙ e1, e4 ∙ e3 ∙ e2 ∙ e1)))

  -- a number that no write reaches
  num : (m j : ℕ) → (j + m ≤ 2) ⊎ (6 ≤ j) → (j + m ≤ slot_at k) ⊎ (slot_at k + 18 ≤ j) → le_at m q4 j ≡ le_at m p j
  unfolding q1 q2 q3 q4
  num m j g h =
      let la = length-le_bytes 2 a in
      let lb = length-le_bytes 2 b in
      let ln = length-le_bytes 2 next in
      le_at-sets-other m (le_bytes 2 b) q3 4 j (⊎_elim (λ w. inl (omega arith)) (λ w. inr (omega arith)) g)
      ∙ le_at-sets-other m (le_bytes 2 a) q2 2 j (⊎_elim (λ w. inl (omega arith)) (λ w. inr (omega arith)) g)
      ∙ le_at-sets-other m root q1 (slot_at k + 2) j (⊎_elim (λ w. inl (omega arith)) (λ w. inr (omega arith)) h)
      ∙ le_at-sets-other m (le_bytes 2 next) p (slot_at k) j (⊎_elim (λ w. inl (omega arith)) (λ w. inr (omega arith)) h)

  -- a root that no write reaches
  part : (j : ℕ) → 12 ≤ j → (j + 16 ≤ slot_at k) ⊎ (slot_at k + 18 ≤ j) → take 16 (drop j q4) ≡ take 16 (drop j p)
  unfolding q1 q2 q3 q4
  part j g h =
      let la = length-le_bytes 2 a in
      let lb = length-le_bytes 2 b in
      let ln = length-le_bytes 2 next in
      part_same (le_bytes 2 b) q3 4 j 16 (inr (omega arith))
      ∙ part_same (le_bytes 2 a) q2 2 j 16 (inr (omega arith))
      ∙ part_same root q1 (slot_at k + 2) j 16 (⊎_elim (λ w. inl (omega arith)) (λ w. inr (omega arith)) h)
      ∙ part_same (le_bytes 2 next) p (slot_at k) j 16 (⊎_elim (λ w. inl (omega arith)) (λ w. inr (omega arith)) h)

  module _ (f : slot_at k + 18 ≤ length p) (hn : next < 65536) (ha : a < 65536) (hb : b < 65536) where
    at_ready : le_at 2 q4 2 ≡ a
    unfolding q4 q3
    at_ready =
        let n3 = lengths.1.0 in
        le_at-sets-other 2 (le_bytes 2 b) q3 4 2 (inl (omega arith)) ∙ le_at-sets 2 q2 2 a (omega arith) ∙ omega arith

    at-spare : le_at 2 q4 4 ≡ b
    unfolding q4
    at-spare = let n3 = lengths.1.1.0 in le_at-sets 2 q3 4 b (omega arith) ∙ omega arith

    at_next : le_at 2 q4 (slot_at k) ≡ next
    unfolding q1 q2 q3 q4
    at_next =
        let la = length-le_bytes 2 a in
        let lb = length-le_bytes 2 b in
        le_at-sets-other 2 (le_bytes 2 b) q3 4 (slot_at k) (inr (omega arith))
        ∙ le_at-sets-other 2 (le_bytes 2 a) q2 2 (slot_at k) (inr (omega arith))
        ∙ le_at-sets-other 2 root q1 (slot_at k + 2) (slot_at k) (inl (omega arith))
        ∙ le_at-sets 2 p (slot_at k) next (omega arith) ∙ omega arith

    at-root : take 16 (drop (slot_at k + 2) q4) ≡ root
    unfolding q2 q3 q4
    at-root =
        let la = length-le_bytes 2 a in
        let lb = length-le_bytes 2 b in
        let n1 = lengths.0 in
        part_same (le_bytes 2 b) q3 4 (slot_at k + 2) 16 (inr (omega arith))
        ∙ part_same (le_bytes 2 a) q2 2 (slot_at k + 2) 16 (inr (omega arith))
        ∙ part-put root q1 (slot_at k + 2) 16 l (omega arith)

    pub moved : Moved p k next root a b (put_heads a b (put_slot k next root p))
    unfolding size_of ready_head spare_head zero_field next_of root_of
    moved =
        rw moved-is
        (record {
          long = lengths.1.1.1;
          size = num 2 0 (inl (omega arith)) (inl (omega arith));
          zeroed = num 2 6 (inr (omega arith)) (inl (omega arith));
          ready = at_ready;
          spare = at-spare;
          next_here = at_next;
          next_there =
              λ j y n. num 2 (slot_at j) (inr (omega arith)) (⊎_elim (λ (w : slot_at j + 18 ≤ slot_at k). inl (omega arith)) (λ (w : slot_at k + 18 ≤ slot_at j). inr (omega arith)) (apart j k y z n));
          root_here = at-root;
          root_there =
              λ j y n. part (slot_at j + 2) (omega arith) (⊎_elim (λ (w : slot_at j + 18 ≤ slot_at k). inl (omega arith)) (λ (w : slot_at k + 18 ≤ slot_at j). inr (omega arith)) (apart j k y z n));
        })

    pub moved-draws : draws_of (put_heads a b (put_slot k next root p)) ≡ draws_of p
    unfolding draws_of
    moved-draws = rw moved-is (num 4 8 (inr (omega arith)) (inl (omega arith)))

-- draws written besides
module _ (p : List ℕ) (k next : ℕ) (root : List ℕ) (a b : ℕ) (q : List ℕ) (d : ℕ) (c : Moved p k next root a b q) where
  pub moved-counted : Moved p k next root a b (sets q 8 (le_bytes 4 d))
  unfolding size_of ready_head spare_head zero_field next_of root_of
  moved-counted =
      let ld = length-le_bytes 4 d in
      let vs = le_bytes 4 d in
      record {
        long = length-sets q 8 vs ∙ c.long;
        size = le_at-sets-other 2 vs q 8 0 (inl (omega arith)) ∙ c.size;
        zeroed = le_at-sets-other 2 vs q 8 6 (inl (omega arith)) ∙ c.zeroed;
        ready = le_at-sets-other 2 vs q 8 2 (inl (omega arith)) ∙ c.ready;
        spare = le_at-sets-other 2 vs q 8 4 (inl (omega arith)) ∙ c.spare;
        next_here = le_at-sets-other 2 vs q 8 (slot_at k) (inr (omega arith)) ∙ c.next_here;
        next_there = λ j y n. le_at-sets-other 2 vs q 8 (slot_at j) (inr (omega arith)) ∙ c.next_there j y n;
        root_here = part_same vs q 8 (slot_at k + 2) 16 (inr (omega arith)) ∙ c.root_here;
        root_there = λ j y n. part_same vs q 8 (slot_at j + 2) 16 (inr (omega arith)) ∙ c.root_there j y n;
      }

-- draws as they are read
pub counted-draws : (q : List ℕ) (d : ℕ) → 12 ≤ length q → d < 4294967296 → draws_of (sets q 8 (le_bytes 4 d)) ≡ d
unfolding draws_of
counted-draws q d l h = le_at-sets 4 q 8 d (omega arith) ∙ omega arith
