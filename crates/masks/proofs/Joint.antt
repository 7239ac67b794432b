-- The walk in one memory, with the corrections as a part of it after all that is read, is the walk and the corrections apart.
-- Assumes nothing.
use mathlib.Core.Path.{◌≡◌, refl, ap, ap₂, ◌∙◌}
use mathlib.Core.Bool.{true}
use mathlib.Core.List.{List}
use Prim.Native.Nat.{ℕ, zero, suc, ◌+◌, ◌-◌, ◌*◌, ◌≤◌}
use native.Mathlib.Nat.{zero-add}
use native.Mathlib.Omega.{arith}
use lib.Bits.{bit_xor, bit_and}
use lib.ListN.{length, set, take, drop, length-set, length-drop}
use lib.Seq.{sets, length-take-le}
use Rattle.bits.specs.Bits.{oct, odd, bit_val}
use Rattle.bits.specs.Steps.{put_bit}
use Rattle.bits.proofs.Packing.{length-put_bit}
use Rattle.circuit.specs.Circuit.{ands}
use Rattle.circuit.specs.File.{inputs_of, gates_of, next_of}
use Rattle.circuit.specs.Steps.{gate_of, and_one, gates_from, within, walks, wired}
use Rattle.circuit.specs.declared.Gate.{Gate}
use Rattle.circuit.specs.declared.Gate.TheVariants.{Xor, And, Inv}
use Rattle.circuit.specs.declared.Sizes.{Sizes}
use Rattle.circuit.proofs.Chain.{here}
use Rattle.masks.specs.Steps.{wire_count, masks_from, products_from, mask_byte, corrected, walked, made, Ready}
use Rattle.masks.proofs.Parts.{byte-before, bit-before, put-within, set_before, sets_same}
use Rattle.masks.proofs.Turns.{ands-here, joint}

-- as many corrections as before
corrected-length : (p t : ℕ) (g : Gate) (m cs : List ℕ) → length (corrected p g t m cs) ≡ length cs
corrected-length p t (Xor a b) m cs = refl
corrected-length p t (And a b) m cs = length-put_bit cs t _
corrected-length p t (Inv a) m cs = refl

-- a gate whose W wires and whose bits stand before the part cs
module _ (W at : ℕ) (low : W ≤ at) (m cs : List ℕ) where
  -- the mask of its output
  mask-before : (q : ℕ) (g : Gate) → within W g → q + and_one g ≤ 8 * at → mask_byte q g (sets m at cs) ≡ mask_byte q g m
  mask-before q (Xor a b) (ha, hb) l = ap₂ bit_xor (byte-before cs m at a (omega arith)) (byte-before cs m at b (omega arith))
  mask-before q (And a b) h l = ap bit_val (bit-before cs m at q (omega arith))
  mask-before q (Inv a) ha l = byte-before cs m at a (omega arith)

  -- its correction
  corrected-within : (p t : ℕ) (g : Gate) → within W g → p + and_one g ≤ 8 * at → t + and_one g ≤ 8 * length cs → at + length cs ≤ length m
      → corrected p g (8 * at + t) (sets m at cs) (sets m at cs) ≡ sets m at (corrected p g t m cs)
  corrected-within p t (Xor a b) h l d r = refl
  corrected-within p t (And a b) (ha, hb) l d r =
      ap (λ (x : ℕ). put_bit (sets m at cs) (8 * at + t) (odd x))
      (ap₂ bit_xor (ap₂ bit_and (byte-before cs m at a (omega arith)) (byte-before cs m at b (omega arith))) (ap bit_val (bit-before cs m at p (omega arith))))
      ∙ put-within cs m at t _ r (omega arith)
  corrected-within p t (Inv a) h l d r = refl

module _ (s : List ℕ) (W A masks at : ℕ) (fit : inputs_of s + gates_of s ≤ W) (low : W ≤ at) (mask-row : masks + A ≤ 8 * at) where
  -- the walk does not read the part, nor write in it
  pub walked-before : (k slot t : ℕ) → walks s k slot ≡ true → wired s W k slot → t + ands (gates_from s k slot) ≡ A → (m cs : List ℕ)
      → walked s masks k slot t (sets m at cs) ≡ sets (walked s masks k slot t m) at cs
  unfolding walked wired
  walked-before zero slot t e d count m cs = refl
  walked-before (suc k) slot t e d count m cs =
      let y : suc k - 1 ≡ k = omega arith in
      let v = here s (suc k) slot (omega arith) e in
      let g = gate_of s slot in
      let w = inputs_of s + slot - 1 in
      let r : ℕ = t + and_one g in
      let more : r + ands (gates_from s k (next_of s slot)) ≡ A = omega (arith, count, rw y at (ands-here s (suc k) slot (omega arith))) in
      ap (λ (x : ℕ). walked s masks k (next_of s slot) r (set (sets m at cs) w x)) (mask-before W at low m cs (masks + t) g d.0 (omega (arith, more)))
      ∙ ap (walked s masks k (next_of s slot) r) (set_before cs m at w _ (omega arith))
      ∙ walked-before k (next_of s slot) r (rw y at v.rest) d.1 more (set m w (mask_byte (masks + t) g m)) cs

  -- the two walks
  pub joint-parts : (products : ℕ) → products + A ≤ 8 * at → (k slot t : ℕ) → walks s k slot ≡ true → wired s W k slot → t + ands (gates_from s k slot) ≡ A
      → (m cs : List ℕ) → A ≤ 8 * length cs → at + length cs ≤ length m
      → joint s masks products at k slot t (sets m at cs) ≡ sets (walked s masks k slot t m) at (made s masks products k slot t m cs)
  unfolding walked made joint wired
  joint-parts products row zero slot t e d count m cs bits room = refl
  joint-parts products row (suc k) slot t e d count m cs bits room =
      let y : suc k - 1 ≡ k = omega arith in
      let v = here s (suc k) slot (omega arith) e in
      let g = gate_of s slot in
      let w = inputs_of s + slot - 1 in
      let r : ℕ = t + and_one g in
      let more : r + ands (gates_from s k (next_of s slot)) ≡ A = omega (arith, count, rw y at (ands-here s (suc k) slot (omega arith))) in
      let new : List ℕ = corrected (products + t) g t m cs in
      let size : length new ≡ length cs = corrected-length (products + t) t g m cs in
      ap (λ (u : List ℕ). joint s masks products at k (next_of s slot) r (set u w (mask_byte (masks + t) g u)))
      (corrected-within W at low m cs (products + t) t g d.0 (omega (arith, more)) (omega (arith, more)) room)
      ∙ ap (λ (x : ℕ). joint s masks products at k (next_of s slot) r (set (sets m at new) w x))
      (mask-before W at low m new (masks + t) g d.0 (omega (arith, more)))
      ∙ ap (joint s masks products at k (next_of s slot) r) (set_before new m at w _ (omega arith))
      ∙ joint-parts products row k (next_of s slot) r (rw y at v.rest) d.1 more (set m w (mask_byte (masks + t) g m)) new (omega (arith, size))
      (omega (arith, size, length-set m w (mask_byte (masks + t) g m)))

-- what the walk of the code leaves
pub ready-parts : (s : List ℕ) (z : Sizes) (h at : ℕ) (m : List ℕ) → Ready s z h at m
    → joint s (masks_from z) (products_from z) at z.gates h 0 m
    ≡ sets (walked s (masks_from z) z.gates h 0 m) at (made s (masks_from z) (products_from z) z.gates h 0 m (take (oct z.ands) (drop at m)))
ready-parts s z h at m r =
    let cs : List ℕ = take (oct z.ands) (drop at m) in
    let row = r.row in
    let room = r.room in
    let size : length cs ≡ oct z.ands = length-take-le (oct z.ands) (drop at m) (rw length-drop (omega (arith, room))) in
    ap (joint s (masks_from z) (products_from z) at z.gates h 0) (sets_same m at (oct z.ands) room)
    ∙ joint-parts s (wire_count z) z.ands (masks_from z) at (omega (arith, r.chained.laid)) (omega (arith, row)) (omega (arith, row)) (products_from z)
    (omega (arith, row)) z.gates h 0 r.chained.chain r.reads (zero-add _ ∙ r.count) m cs (omega (arith, size)) (omega (arith, size, room))
