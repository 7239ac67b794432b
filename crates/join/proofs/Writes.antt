-- The fields of the joined file as the code writes them.
-- Assumes nothing.
use mathlib.Core.Path.{◌≡◌, refl, sym, ap, ap₂, ◌∙◌}
use mathlib.Core.List.{List, [], ◌∷◌}
use Prim.Native.Nat.{ℕ, zero, suc, ◌+◌, ◌-◌, ◌*◌, ◌≤◌, ◌<◌}
use native.Mathlib.Omega.{arith}
use native.Mathlib.Numerals.{add-one}
use lib.ListN.{length}
use lib.Seq.{sets, length-sets}
use Rattle.bits.specs.Bytes.{le_bytes}
use Rattle.refusal.specs.Outcome.{success, refuses, Outcome}
use Rattle.circuit.specs.Building.{front, builds}
use Rattle.circuit.specs.Fields.{Fields, field, inputs_of, outputs_of, gates_of, head_of, output_wire, record_at, field_count}
use Rattle.circuit.specs.File.{width, max_gates, fields_of}
use Rattle.circuit.specs.declared.Sizes.{Sizes}
use Rattle.building.specs.Files.{Four, bytes_of, file_of}
use Rattle.building.specs.Steps.{four_bytes}
use Rattle.building.proofs.Bytes.{bytes-length, bytes-more, bytes-none, four-apart, at_front}
use Rattle.building.proofs.Built.{built, not-built}
use Rattle.join.specs.Join.{moved_wire, moved_link, led_on, first_slot, second_slot, joined}
use Rattle.join.specs.Steps.{Slot, Pair, slots_at, fields_in, onward, joined_fields, four_of, placed}
use Rattle.join.proofs.Places.{Holds, joined-inputs, joined-outputs, joined-gates, joined-head, first-output, second-output, first-slot, second-slot}

-- no field is placed yet; one more; and some after others
module _ (x : Fields) where
  pub placed-none : (k : ℕ) (out : List ℕ) → out ≡ placed x k 0 out
  unfolding placed
  placed-none k out = refl

  pub placed-more : (k n : ℕ) (out₀ out new : List ℕ) (v : ℕ) → out ≡ placed x k n out₀ → v ≡ x (k + n) → new ≡ sets out (width * (k + n)) (le_bytes width v)
      → new ≡ placed x k (n + 1) out₀
  unfolding placed
  placed-more k n out₀ out new v e f g =
      g ∙ ap₂ (λ (l : List ℕ) (i : ℕ). sets l (width * (k + n)) (le_bytes width i)) e f ∙ ap (λ (i : ℕ). placed x k i out₀) (sym (add-one n))

  pub placed-append : (k n m : ℕ) (out : List ℕ) → placed x (k + n) m (placed x k n out) ≡ placed x k (n + m) out
  unfolding placed
  placed-append k n zero out = let e : n ≡ n + zero = omega arith in ap (λ (i : ℕ). placed x k i out) e
  placed-append k n (suc m) out =
      let a : k + n + m ≡ k + (n + m) = omega arith in
      let b : suc (n + m) ≡ n + suc m = omega arith in
      ap₂ (λ (l : List ℕ) (i : ℕ). sets l (width * i) (le_bytes width (x i))) (placed-append k n m out) a ∙ ap (λ (i : ℕ). placed x k i out) b

  pub length-placed : (k n : ℕ) (out : List ℕ) → length (placed x k n out) ≡ length out
  unfolding placed
  length-placed k zero out = refl
  length-placed k (suc n) out = length-sets (placed x k n out) (width * (k + n)) (le_bytes width (x (k + n))) ∙ length-placed k n out

  -- the fields from the first on are the bytes of the file
  placed-bytes : (n : ℕ) (out : List ℕ) → placed x 0 n out ≡ sets out 0 (bytes_of x n)
  unfolding placed
  placed-bytes zero out = bytes-none x out
  placed-bytes (suc n) out =
      let z : 0 + n ≡ n = omega arith in
      ap (λ (i : ℕ). sets (placed x 0 n out) (width * i) (le_bytes width (x i))) z
      ∙ bytes-more x out (placed x 0 n out) (sets (placed x 0 n out) (width * n) (le_bytes width (x n))) n (x n) (placed-bytes n out) refl refl
      ∙ ap (λ (i : ℕ). sets out 0 (bytes_of x i)) (add-one n)

  -- four fields at once
  pub four-placed : (at : ℕ) (q : Four) (out : List ℕ) → q.first ≡ x at → q.second ≡ x (at + 1) → q.third ≡ x (at + 2) → q.fourth ≡ x (at + 3)
      → sets out (width * at) (four_of q) ≡ placed x at 4 out
  four-placed at q out a b c d =
      let p₀ : width * at ≡ width * (at + 0) = omega arith in
      let p₁ : width * at + width ≡ width * (at + 1) = omega arith in
      let p₂ : width * at + 2 * width ≡ width * (at + 2) = omega arith in
      let p₃ : width * at + 3 * width ≡ width * (at + 3) = omega arith in
      let z : at ≡ at + 0 = omega arith in
      let l₁ : List ℕ = sets out (width * at) (le_bytes width q.first) in
      let l₂ : List ℕ = sets l₁ (width * at + width) (le_bytes width q.second) in
      let l₃ : List ℕ = sets l₂ (width * at + 2 * width) (le_bytes width q.third) in
      let e₁ : l₁ ≡ placed x at 1 out = placed-more at 0 out out l₁ q.first (placed-none at out) (a ∙ ap x z) (ap (λ (i : ℕ). sets out i (le_bytes width q.first)) p₀) in
      let e₂ : l₂ ≡ placed x at 2 out = placed-more at 1 out l₁ l₂ q.second e₁ b (ap (λ (i : ℕ). sets l₁ i (le_bytes width q.second)) p₁) in
      let e₃ : l₃ ≡ placed x at 3 out = placed-more at 2 out l₂ l₃ q.third e₂ c (ap (λ (i : ℕ). sets l₂ i (le_bytes width q.third)) p₂) in
      sym (four-apart out (width * at) q.first q.second q.third q.fourth)
      ∙ placed-more at 3 out l₃ _ q.fourth e₃ d (ap (λ (i : ℕ). sets l₃ i (le_bytes width q.fourth)) p₃)

  pub slot_placed : (i at : ℕ) (q : Four) (out : List ℕ) → Holds x i q → at ≡ record_at x i → sets out (width * at) (four_of q) ≡ placed x at 4 out
  slot_placed i at q out h e =
      four-placed at q out (sym h.kind ∙ ap x (sym e)) (sym h.a ∙ ap (λ (j : ℕ). x (j + 1)) (sym e)) (sym h.b ∙ ap (λ (j : ℕ). x (j + 2)) (sym e))
      (sym h.next ∙ ap (λ (j : ℕ). x (j + 3)) (sym e))

-- the fields of a slot as they are read
module _ (s : List ℕ) (o k : ℕ) (h : Slot s o k) (kind a b next : ℕ) (e₀ : kind ≡ field width s (4 + o + 4 * k)) (e₁ : a ≡ field width s (4 + o + 4 * k + 1))
    (e₂ : b ≡ field width s (4 + o + 4 * k + 2)) (e₃ : next ≡ field width s (4 + o + 4 * k + 3)) where
  at : 4 + o + 4 * k ≡ record_at (fields_of s) (1 + k)
  at = omega (arith, h.outputs)

  same-fields : Holds (fields_of s) (1 + k) (record { first = kind; second = a; third = b; fourth = next })
  same-fields =
      record {
        kind = sym (e₀ ∙ ap (fields_of s) at);
        a = sym (e₁ ∙ ap (λ (j : ℕ). fields_of s (j + 1)) at);
        b = sym (e₂ ∙ ap (λ (j : ℕ). fields_of s (j + 2)) at);
        next = sym (e₃ ∙ ap (λ (j : ℕ). fields_of s (j + 3)) at);
      }

  pub first-four : (to n : ℕ) → n ≡ led_on to next → four_bytes kind a b n ≡ four_of (first_slot to (fields_of s) (1 + k))
  unfolding first_slot
  first-four to n f = let q = same-fields in rw (sym q.kind, sym q.a, sym q.b, f ∙ ap (led_on to) (sym q.next))

  pub second-four : (I up a' b' n : ℕ) → a' ≡ moved_wire I up a → b' ≡ moved_wire I up b → n ≡ moved_link up next
      → four_bytes kind a' b' n ≡ four_of (second_slot I up (fields_of s) (1 + k))
  unfolding second_slot
  second-four I up a' b' n f g m =
      let q = same-fields in
      rw (sym q.kind, f ∙ ap (moved_wire I up) (sym q.a), g ∙ ap (moved_wire I up) (sym q.b), m ∙ ap (moved_link up) (sym q.next))

  -- so they are small
  pub small-a : (up : ℕ) → up ≤ max_gates → a + up < 4294967296
  small-a up l = omega (arith, h.fits.a, same-fields.a)

  pub small_b : (up : ℕ) → up ≤ max_gates → b + up < 4294967296
  small_b up l = omega (arith, h.fits.b, same-fields.b)

  pub small-next : (up : ℕ) → up ≤ max_gates → next + up < 4294967296
  small-next up l = omega (arith, h.fits.next, h.few, same-fields.next)

-- two legal files of these sizes
module _ (s t : List ℕ) (y z : Sizes) (p : Pair s t y z) where
  abbrev x : Fields
  x = joined_fields s t

  -- the output wires
  pub output-first : (j r : ℕ) → j < y.outputs → r ≡ field width s (4 + j) → r ≡ x (4 + j)
  output-first j r l e = e ∙ sym (first-output (fields_of s) (fields_of t) j (omega (arith, p.first.outputs)))

  pub output-small : (j w : ℕ) → y.outputs ≤ j → j < y.outputs + z.outputs → w ≡ field width t (4 + (j - y.outputs)) → w + y.gates < 4294967296
  output-small j w a b e = omega (arith, e, p.second_fits.output (j - y.outputs) (omega (arith, p.second.outputs)), p.first.few_gates)

  pub output-second : (j w r : ℕ) → y.outputs ≤ j → j < y.outputs + z.outputs → w ≡ field width t (4 + (j - y.outputs))
      → r ≡ moved_wire y.inputs y.gates w → r ≡ x (4 + j)
  output-second j w r a b e f =
      let i : ℕ = j - y.outputs in
      let q : outputs_of (fields_of s) + i ≡ j = omega (arith, p.first.outputs) in
      f ∙ ap (moved_wire y.inputs y.gates) e
      ∙ ap₂ (λ (g h : ℕ). moved_wire g h (output_wire (fields_of t) i)) p.first.inputs p.first.gates
      ∙ sym (second-output (fields_of s) (fields_of t) i (omega (arith, p.second.outputs)))
      ∙ ap (λ (k : ℕ). x (4 + k)) q

  -- the slots
  pub inside-first : (k : ℕ) → k < y.gates → Slot s y.outputs k
  inside-first k l =
      record {
        outputs = p.first.outputs;
        room = omega (arith, p.first.whole);
        fits = p.first_fits.slot (1 + k) (omega arith) (omega (arith, p.first.gates));
        few = omega (arith, p.first.gates, p.first.few_gates);
      }

  pub inside-second : (k : ℕ) → k < z.gates → Slot t z.outputs k
  inside-second k l =
      record {
        outputs = p.second.outputs;
        room = omega (arith, p.second.whole);
        fits = p.second_fits.slot (1 + k) (omega arith) (omega (arith, p.second.gates));
        few = omega (arith, p.second.gates, p.second.few_gates);
      }

  -- the place of slot k + 1
  place : (k : ℕ) → slots_at y z + 4 * k ≡ record_at x (1 + k)
  place k = omega (arith, joined-outputs (fields_of s) (fields_of t), p.first.outputs, p.second.outputs)

  pub placed_first : (to k : ℕ) (out : List ℕ) → to ≡ onward s t → k < y.gates
      → sets out (width * (slots_at y z + 4 * k)) (four_of (first_slot to (fields_of s) (1 + k)))
      ≡ placed x (slots_at y z + 4 * k) 4 out
  placed_first to k out e l =
      ap (λ (i : ℕ). sets out (width * (slots_at y z + 4 * k)) (four_of (first_slot i (fields_of s) (1 + k)))) e
      ∙ slot_placed x (1 + k) _ (first_slot (onward s t) (fields_of s) (1 + k)) out
      (first-slot (fields_of s) (fields_of t) (1 + k) (omega arith) (omega (arith, p.first.gates))) (place k)

  pub placed-second : (k : ℕ) (out : List ℕ) → y.gates ≤ k → k < y.gates + z.gates
      → sets out (width * (slots_at y z + 4 * k)) (four_of (second_slot y.inputs y.gates (fields_of t) (1 + (k - y.gates))))
      ≡ placed x (slots_at y z + 4 * k) 4 out
  placed-second k out a l =
      let i : ℕ = 1 + (k - y.gates) in
      let e : i + gates_of (fields_of s) ≡ 1 + k = omega (arith, p.first.gates) in
      let q : Four = second_slot (inputs_of (fields_of s)) (gates_of (fields_of s)) (fields_of t) i in
      let h : Holds x (1 + k) q = rw e at (second-slot (fields_of s) (fields_of t) i (omega arith) (omega (arith, p.second.gates))) in
      ap₂ (λ (g u : ℕ). sets out (width * (slots_at y z + 4 * k)) (four_of (second_slot g u (fields_of t) i))) p.first.inputs p.first.gates
      ∙ slot_placed x (1 + k) _ q out h (place k)

  -- one slot more
  pub slot-more : (k : ℕ) (out₀ out new : List ℕ) → let at : ℕ = slots_at y z in
      out ≡ placed x at (4 * k) out₀ → new ≡ placed x (at + 4 * k) 4 out → new ≡ placed x at (4 * (k + 1)) out₀
  slot-more k out₀ out new e f =
      let at : ℕ = slots_at y z in
      let q : 4 * k + 4 ≡ 4 * (k + 1) = omega arith in
      f ∙ ap (placed x (at + 4 * k) 4) e ∙ placed-append x at (4 * k) 4 out₀ ∙ ap (λ (i : ℕ). placed x at i out₀) q

  -- the header
  pub header-placed : (i o g head : ℕ) (out : List ℕ) → i ≡ y.inputs → o ≡ y.outputs + z.outputs → g ≡ y.gates + z.gates
      → head ≡ led_on (onward s t) (head_of (fields_of s)) → sets out (width * 0) (four_bytes i o g head) ≡ placed x 0 4 out
  header-placed i o g head out a b c d =
      four-placed x 0 (record { first = i; second = o; third = g; fourth = head }) out
      (a ∙ p.first.inputs ∙ sym (joined-inputs (fields_of s) (fields_of t)))
      (omega (arith, p.first.outputs, p.second.outputs, joined-outputs (fields_of s) (fields_of t)))
      (omega (arith, p.first.gates, p.second.gates, joined-gates (fields_of s) (fields_of t)))
      (d ∙ sym (joined-head (fields_of s) (fields_of t)))

  -- the whole file: header, output wires, slots
  pub all_placed : (out one two three : List ℕ) → let o : ℕ = y.outputs + z.outputs in let g : ℕ = y.gates + z.gates in
      one ≡ placed x 0 4 out → two ≡ placed x 4 o one → three ≡ placed x (4 + o) (4 * g) two → three ≡ placed x 0 (4 + o + 4 * g) out
  all_placed out one two three a b c =
      let o : ℕ = y.outputs + z.outputs in
      let g : ℕ = y.gates + z.gates in
      let e : two ≡ placed x 0 (4 + o) out = b ∙ ap (placed x 4 o) a ∙ placed-append x 0 4 o out in
      let q : 4 + o ≡ 0 + (4 + o) = omega arith in
      c ∙ ap₂ (λ (l : List ℕ) (i : ℕ). placed x i (4 * g) l) e q ∙ placed-append x 0 (4 + o) (4 * g) out

  -- how many fields the file has
  count : field_count x ≡ fields_in y z
  count =
      omega
      (arith, joined-outputs (fields_of s) (fields_of t), joined-gates (fields_of s) (fields_of t), p.first.outputs, p.second.outputs, p.first.gates, p.second.gates)

  size : length (joined s t) ≡ width * fields_in y z
  unfolding joined file_of
  size = bytes-length x (field_count x) ∙ ap (λ (i : ℕ). width * i) count

  -- what building leaves: the output is too short, or the file stands at its front
  pub short-output : (out : List ℕ) (n : ℕ) → n ≡ width * fields_in y z → length out < n
      → refuses 6 (out ∷ []) ≡ builds (joined s t) out
  short-output out n e h = sym (not-built (joined s t) out (omega (arith, size)))

  pub long-output : (out new : List ℕ) (n : ℕ) → n ≡ width * fields_in y z → n ≤ length out
      → new ≡ placed x 0 (fields_in y z) out
      → ◌≡◌ {A = Outcome} (record { answer = success (n ∷ []); left = new ∷ [] }) (builds (joined s t) out)
  unfolding joined file_of
  long-output out new n e h f =
      let l : n ≡ length (joined s t) = e ∙ sym size in
      let g : new ≡ front (joined s t) out =
      f ∙ placed-bytes x (fields_in y z) out ∙ ap (λ (i : ℕ). sets out 0 (bytes_of x i)) (sym count)
      ∙ at_front (joined s t) out (omega (arith, l)) in
      ap₂ (λ (k : ℕ) (r : List ℕ). record { answer = success (k ∷ []); left = r ∷ [] }) l g ∙ sym (built (joined s t) out (omega (arith, l)))
