-- The stretch of a chosen instance as it is written: its five parts, one after the other.
-- Assumes nothing.
use mathlib.Core.Path.{◌≡◌, refl, sym, ap, ap₂, ◌∙◌}
use mathlib.Core.Bool.{Bool, true, false, cond, ◌&&◌}
use mathlib.Core.List.{List, [], ◌++◌, append-nil, append_assoc}
use Prim.Native.Nat.{ℕ, suc, ◌+◌, ◌-◌, ◌*◌, ◌^◌, ◌≤◌, ◌<◌}
use native.Mathlib.Omega.{arith}
use borrow.Rule.Slice.PartMut.{put_mid, Post-is, mid_len}
use lib.Dec.{eqb, ltb}
use lib.ListN.{length, take, drop, length-append, length-drop, drop_of_length-le}
use lib.Seq.{take_at, drop_at, drop-drop}
use Rattle.hashing.specs.declared.Context.{Context}
use Rattle.bits.specs.Bits.{tabulate, oct, pack}
use Rattle.bits.specs.Bytes.{row_of}
use Rattle.parties.specs.Parties.{height_of}
use Rattle.circuit.specs.File.{circuit_of}
use Rattle.circuit.specs.declared.Sizes.{Sizes}
use Rattle.planes.specs.Steps.{Room, corrections_at, rows_at, broadcast_word, tape_words}
use Rattle.planes.specs.declared.Layout.{Layout}
use Rattle.walk.specs.Steps.{layout_of}
use Rattle.packed.specs.Steps.{corrections_held, broadcast_bytes, sent_bit}
use Rattle.mpc.specs.Steps.{Known}
use Rattle.mpc.proofs.Opened.{circuit-inputs, circuit-outputs, circuit-ands}
use Rattle.party.specs.Derive.{commitment_to, commitment_of}
use Rattle.tree.specs.Tree.{siblings_below}
use Rattle.instance.specs.Instance.{hiding, master_seeds, master_masked, sent_corrections, stretch_of}
use Rattle.instance.specs.Stretch.{correction_bytes, stretch_bytes}
use Rattle.instance.specs.Steps.{Tree, held_bytes, row_sent, Ran}
use Rattle.instance.proofs.Trees.{tree-sizes}
use Rattle.instance.proofs.Sent.{corrections-part}
use Rattle.instance.proofs.Checks.{sent-few}

-- x is written at a place
module _ (at : ℕ) (x p : List ℕ) (l : at + length x ≤ length p) where
  pub put-part : length (take (at + length x - at) (drop at p)) ≡ length x
  put-part = mid_len at (at + length x) p l ∙ omega arith

  pub put-made : (z : List ℕ) → z ≡ x → take at p ++ (z ++ drop (at + length x - at) (drop at p)) ≡ take at p ++ x ++ drop (at + length x) p
  put-made z e =
      ap₂ (λ (y t : List ℕ). take at p ++ (y ++ t)) e (Post-is at (at + length x) p (omega arith))
      ∙ sym (append_assoc (take at p) x (drop (at + length x) p))

-- after a front
put_front : (pre x p q : List ℕ) (at to : ℕ) → length pre ≡ at → take at p ≡ pre → to ≡ at + length x
    → q ≡ take at p ++ x ++ drop (at + length x) p → (length (pre ++ x) ≡ to) × ((take to q ≡ pre ++ x) × (q ≡ pre ++ x ++ drop to p))
put_front pre x p q at to l t e y =
    let n : length (pre ++ x) ≡ to = length-append pre x ∙ omega (arith, l, e) in
    let d : q ≡ pre ++ x ++ drop (at + length x) p = y ∙ ap (λ (u : List ℕ). u ++ x ++ drop (at + length x) p) t in
    (n, (ap (take to) d ∙ take_at (pre ++ x) (drop (at + length x) p) to n, d ∙ ap (λ (k : ℕ). pre ++ x ++ drop k p) (sym e)))

-- what stands after it is as it was
front_rest : (pre p : List ℕ) (to k : ℕ) → length pre ≡ to → to ≤ k → drop k (pre ++ drop to p) ≡ drop k p
front_rest pre p to k l h =
    let d : to + (k - to) ≡ k = omega arith in
    ap (λ (i : ℕ). drop i (pre ++ drop to p)) (sym d) ∙ sym (drop-drop (k - to) to (pre ++ drop to p))
    ∙ ap (drop (k - to)) (drop_at pre (drop to p) to l) ∙ drop-drop (k - to) to p ∙ ap (λ (i : ℕ). drop i p) d

-- the three parts before the run's
pub three-parts : (first second third : ℕ) (p0 z1 x y p2 p3 : List ℕ) → length z1 ≡ first → second ≡ first + length x
    → p2 ≡ take first (z1 ++ drop first p0) ++ x ++ drop (first + length x) (z1 ++ drop first p0) → third ≡ second + length y
    → p3 ≡ take second p2 ++ y ++ drop (second + length y) p2 → p3 ≡ z1 ++ x ++ y ++ drop third p0
three-parts first second third p0 z1 x y p2 p3 l1 e2 q2 e3 q3 =
    let p1 : List ℕ = z1 ++ drop first p0 in
    let f2 = put_front z1 x (z1 ++ drop first p0) p2 first second l1 (take_at z1 (drop first p0) first l1) e2 q2 in
    let f3 = put_front (z1 ++ x) y p2 p3 second third f2.0 f2.1.0 e3 q3 in
    f3.1.1
    ∙ ap (λ (t : List ℕ). z1 ++ x ++ y ++ t)
    (ap (drop third) f2.1.1 ∙ front_rest (z1 ++ x) (z1 ++ drop first p0) second third f2.0 (omega (arith, e3))
    ∙ front_rest z1 p0 first third l1 (omega (arith, e2, e3)))

-- the two parts of the run after a front of b bytes
two-parts : (third b fourth k : ℕ) (front p0 p1 p2 v w : List ℕ) → third ≡ b → p1 ≡ front ++ drop b p0 → length p1 ≡ length p0 → third ≤ length p0
    → fourth ≡ third + length v → p2 ≡ take third p1 ++ v ++ drop (third + length v) p1 → length p2 ≤ fourth + k
    → take fourth p2 ++ (w ++ drop k (drop fourth p2)) ≡ front ++ v ++ w
two-parts third b fourth k front p0 p1 p2 v w eb e l inside f q h =
    let rest : List ℕ = drop (third + length v) p1 in
    let size : length front ≡ third = omega (arith, ap length e, length-append front (drop b p0), length-drop b p0, l, eb, inside) in
    let a : take third p1 ≡ front = ap (take third) e ∙ take_at front (drop b p0) third size in
    let c : p2 ≡ front ++ v ++ rest = q ∙ ap (λ (t : List ℕ). t ++ v ++ rest) a in
    let n : length (front ++ v) ≡ fourth = length-append front v ∙ omega (arith, size, f) in
    ap₂ (λ (u t : List ℕ). u ++ (w ++ t)) (ap (take fourth) c ∙ take_at (front ++ v) rest fourth n)
    (drop_of_length-le (drop fourth p2) {i = k} (omega (arith, length-drop fourth p2, h)))
    ∙ ap (λ (t : List ℕ). front ++ v ++ t) (append-nil w)

-- the corrections that are sent, of all that stand in the memory
sent_front : (b : Bool) (a v c : ℕ) (x : List ℕ) → v ≡ cond b 0 a → take v (drop c x) ≡ cond b [] (take a (drop c x))
sent_front true a v c x e = rw e refl
sent_front false a v c x e = rw e refl

-- what the siblings ask
pub siblings-asks : (n h p : ℕ) → Tree n h → p < n → ((1 + 1) * 2 ^ h ≤ 65536) × (p < 2 ^ h)
siblings-asks n h p tree few =
    let e : 2 ^ h ≡ n = ap (λ (t : ℕ). 2 ^ t) tree.height ∙ (tree-sizes n h tree).leaves in
    (omega (arith, e, (tree-sizes n h tree).few), omega (arith, e, few))

-- v bytes of corrections are sent of a memory m
module _ (z : Sizes) (n p v : ℕ) (m : List ℕ) (sent : v ≡ cond (eqb (suc p) n) 0 (oct z.ands)) where
  sent-part : (l : Layout) (at : ℕ) → l ≡ layout_of z → at ≡ corrections_at l → take (at + v - at) (drop at m) ≡ sent_corrections n p (corrections_held z m)
  unfolding sent_corrections
  sent-part l at e ea =
      let d : at + v - at ≡ v = omega arith in
      ap₂ (λ (x y : ℕ). take x (drop y m)) d (ea ∙ ap corrections_at e)
      ∙ sent_front (eqb (suc p) n) (oct z.ands) v (corrections_at (layout_of z)) m sent

  -- what is written of it is as stated, in the places that the code has
  pub held-laid : (h : ℕ) (j : Context) (third : ℕ) (l : Layout) (at rows : ℕ) (master own p0 z1 y p3 : List ℕ) → l ≡ layout_of z → at ≡ corrections_at l → rows ≡ rows_at l
      → z1 ≡ siblings_below j h 1 p master → y ≡ commitment_to j n p own (take (rows - at) (drop at m)) → third ≡ held_bytes z n h p
      → p3 ≡ z1 ++ take (at + v - at) (drop at m) ++ y ++ drop third p0
      → p3 ≡ siblings_below j h 1 p master ++ sent_corrections n p (corrections_held z m)
      ++ commitment_to j n p own (corrections_held z m) ++ drop (held_bytes z n h p) p0
  held-laid h j third l at rows master own p0 z1 y p3 e ea er e1 e2 e3 q =
      q
      ∙ ap₂ ◌++◌
      (ap₂ ◌++◌ (ap₂ ◌++◌ e1 (sent-part l at e ea))
      (e2 ∙ ap (commitment_to j n p own) (corrections-part z n l e m at rows ea er)))
      (ap (λ (k : ℕ). drop k p0) e3)

-- the corrections that are sent are some of all
pub sent-most : (z : Sizes) (n p v : ℕ) → v ≡ cond (eqb (suc p) n) 0 (oct z.ands) → v ≤ oct z.ands
sent-most z n p v e = sent-few (eqb (suc p) n) v (oct z.ands) e

-- the bytes before the run's are few
pub held-few : (z : Sizes) (n h p : ℕ) → held_bytes z n h p ≤ 16 * h + oct z.ands + 32
held-few z n h p = omega (arith, sent-most z n p (cond (eqb (suc p) n) 0 (oct z.ands)) refl)

-- what the broadcast row asks, of t bytes
pub row-asks : (z : Sizes) (l : Layout) (p t : ℕ) (m : List ℕ) → Room (layout_of z) m → l ≡ layout_of z → p < 64 → t ≡ broadcast_bytes z
    → Room l m × ((p < 64) × ((broadcast_word l (z.ands + z.outputs) ≤ tape_words l) × (oct (z.ands + z.outputs) ≤ t)))
row-asks z l p t m room e few et = rw e (room, (omega arith, (omega arith, omega (arith, et))))

-- the stretch of a legal file's circuit has as many bytes as its five parts
pub stretch-size : (s : List ℕ) (z : Sizes) (n h p : ℕ) → Known s z → Tree n h
    → stretch_bytes (circuit_of s) n (hiding p) ≡ held_bytes z n h p + oct z.inputs + broadcast_bytes z
unfolding stretch_bytes correction_bytes
stretch-size s z n h p k tree =
    let size : ℕ → ℕ → ℕ → ℕ → ℕ = λ x y t q. 16 * q + cond (eqb (suc p) n) 0 (oct x) + 32 + oct y + oct (x + t) in
    ap₂ (λ (x y : ℕ). size x y (length (circuit_of s).outputs) (height_of n)) (circuit-ands s z.inputs z.outputs z.gates z.ands k)
    (circuit-inputs s z.inputs z.outputs z.gates z.ands k)
    ∙ ap₂ (size z.ands z.inputs) (circuit-outputs s z.inputs z.outputs z.gates z.ands k) (sym tree.height)

-- the stretch is as stated: of a memory m that holds the run
pub stretch-made : (s : List ℕ) (z : Sizes) (n h : ℕ) (j : Context) (p : ℕ) (w master own m x part : List ℕ) → p < n → Tree n h → own ≡ row_of (master_seeds n j master) 32 p
    → Ran (circuit_of s) z n j w master m → x ≡ master_masked (circuit_of s) n j w master
    → part ≡ siblings_below j h 1 p master ++ sent_corrections n p (corrections_held z m)
    ++ commitment_to j n p own (corrections_held z m) ++ x ++ row_sent z p m → part ≡ stretch_of (circuit_of s) n j w master (hiding p)
unfolding stretch_of commitment_of
stretch-made s z n h j p w master own m x part few tree eo ran ex q =
    q
    ∙ ap₂ ◌++◌
    (ap₂ ◌++◌
    (ap₂ ◌++◌
    (ap₂ ◌++◌ (ap (λ (k : ℕ). siblings_below j k 1 p master) tree.height) (ap (sent_corrections n p) ran.corrections))
    (ap₂ (commitment_to j n p) eo ran.corrections))
    ex)
    (ran.row p few)

-- the masked inputs x and the row r are written after the parts that need no run
pub ran-laid : (z : Sizes) (n h : ℕ) (j : Context) (p third fourth k t : ℕ) (l : Layout) (master own m p0 p1 p2 x r : List ℕ) → third ≡ held_bytes z n h p
    → p1 ≡ siblings_below j h 1 p master ++ sent_corrections n p (corrections_held z m)
    ++ commitment_to j n p own (corrections_held z m) ++ drop (held_bytes z n h p) p0 → length p1 ≡ length p0 → third ≤ length p0
    → fourth ≡ third + length x → p2 ≡ take third p1 ++ x ++ drop (third + length x) p1 → length p2 ≤ fourth + k → l ≡ layout_of z → t ≡ broadcast_bytes z
    → r ≡ pack (tabulate (8 * t) (λ q. ltb q (z.ands + z.outputs) && sent_bit l m p q))
    → put_mid fourth k p2 r
    ≡ siblings_below j h 1 p master ++ sent_corrections n p (corrections_held z m)
    ++ commitment_to j n p own (corrections_held z m) ++ x ++ row_sent z p m
unfolding row_sent
ran-laid z n h j p third fourth k t l master own m p0 p1 p2 x r e3 e1 l1 inside e4 e2 h4 el et er =
    let front : List ℕ = siblings_below j h 1 p master ++ sent_corrections n p (corrections_held z m) ++ commitment_to j n p own (corrections_held z m) in
    two-parts third (held_bytes z n h p) fourth k front p0 p1 p2 x r e3 e1 l1 inside e4 e2 h4
    ∙ ap (λ (y : List ℕ). front ++ x ++ y)
    (er ∙ ap₂ (λ (y : Layout) (i : ℕ). pack (tabulate (8 * i) (λ q. ltb q (z.ands + z.outputs) && sent_bit y m p q))) el et)
