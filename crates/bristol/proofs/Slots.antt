-- The slots of the file of an accepted text: each holds its gate, linked to the next line's.
-- Assumes nothing.
use mathlib.Core.Path.{◌≡◌, refl, sym, ap, ◌∙◌}
use mathlib.Core.Bool.{Bool, true, false, cond, not, ◌&&◌, ◌||◌}
use mathlib.Core.List.{List, [], ◌∷◌, ◌++◌, append_assoc}
use Prim.Native.Nat.{ℕ, ◌+◌, ◌-◌, ◌≤◌, ◌<◌}
use native.Mathlib.Omega.{arith}
use lib.Dec.{eqb, leb, ltb}
use lib.ListN.{length}
use borrow.Author.Tests.{leb-true, ltb-true, eqb-true, not-true}
use Rattle.bits.proofs.Tests.{and-true-left, and-true-right}
use Rattle.circuit.specs.Circuit as paper
use Rattle.circuit.specs.Fields as form
use Rattle.circuit.specs.File.{inputs_of, next_of}
use Rattle.circuit.specs.Steps.{kind_of, wire_a, wire_b, gate_at, good_record}
use Rattle.building.specs.Files.{Four, SmallFour}
use Rattle.bristol_lines.specs.Rules.{GateLine, xor, and, inv, Text, writes, written, readable, writable, fits_below}
use Rattle.bristol_lines.specs.Conversion.{as_gate, slot_of, first_slot, record_of, record_for, parts_of, text_file}
use Rattle.bristol_lines.proofs.Accepted.{Accepted, Fits}
use Rattle.bristol_lines.proofs.Chained.{Stands, Linked, written-more}
use Rattle.bristol.proofs.Filed.{for-line, file-inputs, file-gates, slot-kind, slot-a, slot-b, slot_next}

-- what a slot holds
record Holds (s : List ℕ) (x : ℕ) (q : Four) : Type 0 where
  kind-is : kind_of s x ≡ q.first
  a-is : wire_a s x ≡ q.second
  b-is : wire_b s x ≡ q.third
  next-is : next_of s x ≡ q.fourth

pick : ℕ → ℕ → ℕ → ℕ → paper.Gate
pick n a b c = cond (eqb n 1) (paper.xor a b c) (cond (eqb n 2) (paper.and a b c) (paper.inv a c))

passes : ℕ → ℕ → Bool
passes n b = eqb n 1 || eqb n 2 || (eqb n 3 && eqb b 0)

holds-gate : (s : List ℕ) (x : ℕ) (q : Four) (c : ℕ) → Holds s x q → inputs_of s + x - 1 ≡ c → gate_at s x ≡ pick q.first q.second q.third c
unfolding form.gate_at pick
holds-gate s x q c h e = same h.kind-is h.a-is h.b-is e
  where
    same : {n₁ n₂ a₁ a₂ b₁ b₂ c₁ c₂ : ℕ} → n₁ ≡ n₂ → a₁ ≡ a₂ → b₁ ≡ b₂ → c₁ ≡ c₂ → pick n₁ a₁ b₁ c₁ ≡ pick n₂ a₂ b₂ c₂
    same p q r s = cc

holds-good : (s : List ℕ) (x : ℕ) (q : Four) → Holds s x q → good_record s x ≡ passes q.first q.third
unfolding form.good_record passes
holds-good s x q h = same h.kind-is h.b-is
  where
    same : {n₁ n₂ b₁ b₂ : ℕ} → n₁ ≡ n₂ → b₁ ≡ b₂ → passes n₁ b₁ ≡ passes n₂ b₂
    same p q = cc

or_elim : {P : Type 0} (a b : Bool) → a || b ≡ true → (a ≡ true → P) → (b ≡ true → P) → P
or_elim true b e f g = f refl
or_elim false b e f g = g e

module _ (t : Text) (k : Accepted t) where
  abbrev I : ℕ
  I = t.inputs

  abbrev G : ℕ
  G = length t.gates

  abbrev f : List ℕ
  f = text_file t

  -- a line that fits writes a wire above the inputs, not written before
  record Fresh (before : List GateLine) (g : GateLine) : Type 0 where
    low : I ≤ writes g
    high : writes g < I + G
    new : written before (writes g) ≡ false

  -- the wires written are wires
  abbrev Small : List GateLine → Type 0
  Small before = (w : ℕ) → written before w ≡ true → w < I + G

  fresh-from : (before : List GateLine) (g : GateLine) → writable I G before (writes g) ≡ true → Fresh before g
  unfolding writable
  fresh-from before g e =
      let w : ℕ = writes g in
      let two = and-true-left (leb I w && ltb w (I + G)) (not (written before w)) e in
      record {
        low = leb-true I w (and-true-left (leb I w) (ltb w (I + G)) two);
        high = ltb-true w (I + G) (and-true-right (leb I w) (ltb w (I + G)) two);
        new = not-true (written before w) (and-true-right (leb I w && ltb w (I + G)) (not (written before w)) e);
      }

  fresh : (before : List GateLine) (g : GateLine) → fits_below I G before g ≡ true → Fresh before g
  unfolding fits_below writes
  fresh before (xor a b c) e = fresh-from before (xor a b c) (and-true-right (readable I G before a && readable I G before b) (writable I G before c) e)
  fresh before (and a b c) e = fresh-from before (and a b c) (and-true-right (readable I G before a && readable I G before b) (writable I G before c) e)
  fresh before (inv a c) e = fresh-from before (inv a c) (and-true-right (readable I G before a) (writable I G before c) e)

  small-more : (before : List GateLine) (g : GateLine) → Small before → writes g < I + G → Small (before ++ (g ∷ []))
  small-more before g m h w e =
      or_elim (written before w) (eqb w (writes g)) (sym (written-more before g w) ∙ e) (m w) (λ d. omega (arith, eqb-true w (writes g) d))

  small-read : (before : List GateLine) (w : ℕ) → Small before → readable I G before w ≡ true → w < 4294967296
  unfolding readable
  small-read before w m e =
      or_elim (ltb w I) (written before w) e (λ d. omega (arith, ltb-true w I d, k.few_inputs)) (λ d. omega (arith, m w d, k.few_inputs, k.few_gates))

  first_small : (before gs : List GateLine) → Fits I G before gs → first_slot I gs ≤ G
  unfolding Fits first_slot slot_of
  first_small before [] h = omega arith
  first_small before (g ∷ gs) h =
      let n = fresh before g h.0 in
      omega (arith, n.low, n.high)

  -- the slot of a line
  module _ (before : List GateLine) (g : GateLine) (after : List GateLine) (e : t.gates ≡ before ++ (g ∷ after)) (n : Fresh before g) where
    abbrev q : Four
    q = record_of g (first_slot I after)

    own-wire : inputs_of f + slot_of I g - 1 ≡ writes g
    unfolding slot_of
    own-wire = omega (arith, file-inputs t k, n.low)

    own-low : 1 ≤ slot_of I g
    unfolding slot_of
    own-low = omega arith

    own-high : slot_of I g ≤ G
    unfolding slot_of
    own-high = omega (arith, n.low, n.high)

    -- has its record
    own-record : (parts_of t).slot (slot_of I g) ≡ q
    unfolding slot_of parts_of
    own-record =
        let w : I + (writes g - I + 1) - 1 ≡ writes g = omega (arith, n.low) in
        ap (λ (x : ℕ). record_for I x t.gates) w ∙ ap (record_for I (writes g)) e ∙ for-line I before g after n.new

    held : SmallFour q → Holds f (slot_of I g) q
    held s =
        let r = own-record in
        let small : SmallFour ((parts_of t).slot (slot_of I g)) = rw r s in
        record {
          kind-is = slot-kind t k (slot_of I g) own-low own-high small ∙ ap (λ (x : Four). x.first) r;
          a-is = slot-a t k (slot_of I g) own-low own-high small ∙ ap (λ (x : Four). x.second) r;
          b-is = slot-b t k (slot_of I g) own-low own-high small ∙ ap (λ (x : Four). x.third) r;
          next-is = slot_next t k (slot_of I g) own-low own-high small ∙ ap (λ (x : Four). x.fourth) r;
        }

    -- so it holds the line's gate
    made : SmallFour q → pick q.first q.second q.third (writes g) ≡ as_gate g → q.fourth ≡ first_slot I after → passes q.first q.third ≡ true
        → Stands f I g after
    made s same next good =
        record {
          gate = holds-gate f (slot_of I g) q (writes g) (held s) own-wire ∙ same;
          next = (held s).next-is ∙ next;
          low = own-low;
          high = omega (arith, own-high, file-gates t k);
          good = holds-good f (slot_of I g) q (held s) ∙ good;
        }

  next_fits : (after : List GateLine) → first_slot I after ≤ G → first_slot I after < 4294967296
  next_fits after d = omega (arith, d, k.few_gates)

  stands : (before : List GateLine) (g : GateLine) (after : List GateLine) → t.gates ≡ before ++ (g ∷ after) → fits_below I G before g ≡ true
      → Small before → first_slot I after ≤ G → Stands f I g after
  unfolding fits_below record_of pick passes as_gate writes
  stands before (xor a b c) after e h m d =
      let two = and-true-left (readable I G before a && readable I G before b) (writable I G before c) h in
      made before (xor a b c) after e (fresh before (xor a b c) h)
      (record {
        first = omega arith;
        second = small-read before a m (and-true-left (readable I G before a) (readable I G before b) two);
        third = small-read before b m (and-true-right (readable I G before a) (readable I G before b) two);
        fourth = next_fits after d;
      })
      refl refl refl
  stands before (and a b c) after e h m d =
      let two = and-true-left (readable I G before a && readable I G before b) (writable I G before c) h in
      made before (and a b c) after e (fresh before (and a b c) h)
      (record {
        first = omega arith;
        second = small-read before a m (and-true-left (readable I G before a) (readable I G before b) two);
        third = small-read before b m (and-true-right (readable I G before a) (readable I G before b) two);
        fourth = next_fits after d;
      })
      refl refl refl
  stands before (inv a c) after e h m d =
      made before (inv a c) after e (fresh before (inv a c) h)
      (record {
        first = omega arith;
        second = small-read before a m (and-true-left (readable I G before a) (writable I G before c) h);
        third = omega arith;
        fourth = next_fits after d;
      })
      refl refl refl

  -- by induction on the lines that are left
  linked : (before gs : List GateLine) → t.gates ≡ before ++ gs → Fits I G before gs → Small before → Linked f I gs
  unfolding Linked Fits
  linked before [] e h m = tt
  linked before (g ∷ gs) e h m =
      let n : Fresh before g = fresh before g h.0 in (
        stands before g gs e h.0 m (first_small (before ++ (g ∷ [])) gs h.1),
        linked (before ++ (g ∷ [])) gs (e ∙ sym (append_assoc before (g ∷ []) gs)) h.1 (small-more before g m n.high),
      )

  pub all-linked : Linked f I t.gates
  unfolding written
  all-linked = linked [] t.gates refl k.fits (λ w e. let z : ◌≡◌ {A = ℕ} 0 1 = cc in absurd (omega arith))

  pub head_small : first_slot I t.gates < 4294967296
  head_small = omega (arith, first_small [] t.gates k.fits, k.few_gates)
