-- A file whose slots hold the gates of a text, each linked to the next: its chain, its gates, and what they read.
-- Assumes nothing.
use mathlib.Core.Path.{◌≡◌, refl, ap, ◌∙◌}
use mathlib.Core.Bool.{Bool, true, false, cond, ◌&&◌, ◌||◌}
use mathlib.Core.List.{List, [], ◌∷◌, ◌++◌, map}
use Prim.Native.Nat.{ℕ, ◌+◌, ◌≤◌}
use native.Mathlib.Omega.{arith}
use lib.Dec.{eqb, ltb}
use lib.ListN.{length}
use borrow.Author.Tests.{le-leb, eqb-true}
use Rattle.bits.proofs.Tests.{and-true-left, and-true-right}
use Rattle.circuit.specs.Circuit as paper
use Rattle.circuit.specs.Steps.{walks, gate_at, good_record}
use Rattle.circuit.specs.Fields as form
use Rattle.circuit.specs.FieldSteps as steps
use Rattle.circuit.specs.File.{gates_of, next_of, chain_from, reads_written}
use Rattle.bits.specs.Counting.{count}
use Rattle.bristol_lines.specs.Rules.{GateLine, xor, and, inv, writes, written, readable, writable, fits_below}
use Rattle.bristol_lines.specs.Conversion.{as_gate, slot_of, first_slot}
use Rattle.bristol_lines.proofs.Accepted.{Fits}

module _ (s : List ℕ) (I : ℕ) where
  -- each gate stands in its slot, whose link leads to the slot of the next
  pub record Stands (g : GateLine) (gs : List GateLine) : Type 0 where
    pub gate : gate_at s (slot_of I g) ≡ as_gate g
    pub next : next_of s (slot_of I g) ≡ first_slot I gs
    pub low : 1 ≤ slot_of I g
    pub high : slot_of I g ≤ gates_of s
    pub good : good_record s (slot_of I g) ≡ true

  unfoldable pub Linked : List GateLine → Type 0
  Linked [] = Unit {0}
  Linked (g ∷ gs) = Stands g gs × Linked gs

  -- the chain visits them all and ends
  pub linked-walks : (gs : List GateLine) → Linked gs → walks s (length gs) (first_slot I gs) ≡ true
  unfolding Linked steps.walks first_slot
  linked-walks [] l = refl
  linked-walks (g ∷ gs) l =
      rw (le-leb 1 (slot_of I g) l.0.low, le-leb (slot_of I g) (gates_of s) l.0.high, l.0.next) (linked-walks gs l.1)

  -- the gates on it are those of the text, in the text's order
  pub linked-gates : (gs : List GateLine) → Linked gs → map (gate_at s) (chain_from s (length gs) (first_slot I gs)) ≡ map as_gate gs
  unfolding Linked form.chain_from first_slot
  linked-gates [] l = refl
  linked-gates (g ∷ gs) l = rw (l.0.gate, l.0.next) (ap (λ (r : List paper.Gate). as_gate g ∷ r) (linked-gates gs l.1))

  -- every slot that the chain visits has a good record
  good_more : (k x rest : ℕ) (b : Bool) → eqb k x ≡ b → good_record s x ≡ true → (1 ≤ rest → good_record s k ≡ true) → 1 ≤ cond b 1 0 + rest
      → good_record s k ≡ true
  good_more k x rest true e g f h = rw (eqb-true k x e) g
  good_more k x rest false e g f h = f (omega arith)

  pub linked-good : (gs : List GateLine) → Linked gs → (k : ℕ) → 1 ≤ count k (chain_from s (length gs) (first_slot I gs)) → good_record s k ≡ true
  unfolding Linked form.chain_from first_slot count
  linked-good [] l k h = absurd (omega arith)
  linked-good (g ∷ gs) l k h =
      good_more k (slot_of I g) (count k (chain_from s (length gs) (next_of s (slot_of I g)))) (eqb k (slot_of I g)) refl l.0.good
      (λ r. linked-good gs l.1 k (rw l.0.next at r)) h

-- a wire is written by some lines and one more if by those or by that one
pub written-more : (above : List GateLine) (g : GateLine) (w : ℕ) → written (above ++ (g ∷ [])) w ≡ written above w || eqb w (writes g)
unfolding written
written-more [] g w = or-false (eqb w (writes g))
  where
    or-false : (b : Bool) → b || false ≡ b
    or-false true = refl
    or-false false = refl
written-more (h ∷ above) g w = step (eqb w (writes h)) (written-more above g w)
  where
    step : (b : Bool) → written (above ++ (g ∷ [])) w ≡ written above w || eqb w (writes g)
        → b || written (above ++ (g ∷ [])) w ≡ b || written above w || eqb w (writes g)
    step true e = refl
    step false e = e

module _ (I G : ℕ) where
  -- v is 1 at the wires that are readable below some lines
  abbrev Marks : (ℕ → Bool) → List GateLine → Type 0
  Marks v above = (w : ℕ) → v w ≡ readable I G above w

  marks-more : (v : ℕ → Bool) (above : List GateLine) (g : GateLine) → Marks v above → Marks (paper.put v (writes g) true) (above ++ (g ∷ []))
  unfolding readable paper.put
  marks-more v above g m w =
      rw (written-more above g w) (join (eqb w (writes g)) (v w) (ltb w I) (written above w) (m w))
    where
      join : (b x y z : Bool) → x ≡ y || z → cond b true x ≡ y || (z || b)
      join true x true z e = refl
      join true x false true e = refl
      join true x false false e = refl
      join false x true z e = e
      join false x false true e = e
      join false x false false e = e

  -- gate lines that fit read only inputs and what is written above
  pub fits-reads : (v : ℕ → Bool) (above gs : List GateLine) → Marks v above → Fits I G above gs → reads_written v (map as_gate gs) ≡ true
  unfolding reads_written as_gate Fits fits_below writes
  fits-reads v above [] m f = refl
  fits-reads v above (xor a b c ∷ gs) m f =
      let two = and-true-left (readable I G above a && readable I G above b) (writable I G above c) f.0 in
      rw (m a ∙ and-true-left (readable I G above a) _ two, m b ∙ and-true-right (readable I G above a) (readable I G above b) two)
      (fits-reads (paper.put v c true) (above ++ (xor a b c ∷ [])) gs (marks-more v above (xor a b c) m) f.1)
  fits-reads v above (and a b c ∷ gs) m f =
      let two = and-true-left (readable I G above a && readable I G above b) (writable I G above c) f.0 in
      rw (m a ∙ and-true-left (readable I G above a) _ two, m b ∙ and-true-right (readable I G above a) (readable I G above b) two)
      (fits-reads (paper.put v c true) (above ++ (and a b c ∷ [])) gs (marks-more v above (and a b c) m) f.1)
  fits-reads v above (inv a c ∷ gs) m f =
      rw (m a ∙ and-true-left (readable I G above a) (writable I G above c) f.0)
      (fits-reads (paper.put v c true) (above ++ (inv a c ∷ [])) gs (marks-more v above (inv a c) m) f.1)
