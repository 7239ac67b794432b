-- The walk that stores the records of good gate lines, and what a buffer holds after it.
-- Assumes nothing.
use mathlib.Core.Path.{◌≡◌, refl, sym, ap, ap₂, ◌∙◌}
use mathlib.Core.Bool.{Bool, true, false, cond, not}
use mathlib.Core.List.{List, [], ◌∷◌, ◌++◌, flatten}
use mathlib.Core.Option.{Option, none, some}
use Rattle.std.specs.Prelude.{Result, Ok, IsOk}
use Prim.Native.Nat.{ℕ, suc, ◌+◌, ◌-◌, ◌≤◌, ◌<◌}
use native.Mathlib.Omega.{arith}
use lib.ListN.{length, drop}
use lib.Seq.{sets, length-sets}
use Rattle.refusal.specs.Outcome.{success, refuses}
use Rattle.refusal.specs.declared.Refusal.{Refusal}
use Rattle.bits.specs.Bits.{tabulate}
use Rattle.bits.specs.Bytes.{le_bytes}
use Rattle.circuit.specs.Building.{front}
use Rattle.circuit.specs.File.{width}
use Rattle.circuit.specs.Steps.{output_place, record_place}
use Rattle.building.specs.Steps.{four_bytes}
use Rattle.building.proofs.Built.{built, not-built}
use Rattle.bristol_text.specs.Text.{Line, lines}
use Rattle.bristol_lines.specs.Rules.{GateLine, Text, Reading, refused, says, is_known, kind_on, gate_on, writes, fits_below, last_wire, gate_else22, gate_lines}
use Rattle.bristol_lines.specs.Conversion.{slot_of, first_slot, text_file}
use Rattle.bristol.specs.Operations.{conversion}
use Rattle.bristol_lines.specs.Steps.{record_bytes, line_of, gate_of, read_as, gate_read, first_gate, GateAt, Few, gates_at, refusal_of, gate_before, gates_from, Going, Output, Room, Started, stored, filed}
use Rattle.bristol_lines.specs.declared.Gate.{Gate}
use Rattle.bristol_lines.specs.declared.Sizes.{Sizes}
use Rattle.bristol_lines.proofs.Accepted.{Accepted, More, gates-accepted, below, accepted}
use Rattle.bristol.proofs.Filed.{header_part, output_part, file-length}
use Rattle.bristol_lines.proofs.Lined.{line-of-gate}
use Rattle.bristol.proofs.Stored.{fits-writes, all-stored, gates-from}

-- the first of good gate lines, of which one is left at least
pub record Passed (I O G n : ℕ) (above : List GateLine) (ls : List Line) : Type 0 where
  pub gate : Gate
  pub read : first_gate ls ≡ Ok gate
  pub fits : fits_below I G above (line_of gate) ≡ true
  pub good : refusal_of (gate_lines I O G n (above ++ (line_of gate ∷ [])) (drop 1 ls)) ≡ none
  pub gates : gates_from ls ≡ line_of gate ∷ gates_from (drop 1 ls)

module _ (I O G n : ℕ) (above : List GateLine) where
  fit_of : (l : Line) (ls : List Line) (g : GateLine) (f : Bool) → fits_below I G above g ≡ f → is_known (kind_on l.bytes) ≡ true → gate_on l ≡ some g
      → refusal_of (cond (not f) (refused 22) (gate_lines I O G n (above ++ (g ∷ [])) ls)) ≡ none → Passed I O G n above (l ∷ ls)
  unfolding refusal_of first_gate gate_read read_as gates_from gate_before
  fit_of l ls g false p b o e =
      let z : ◌≡◌ {A = ℕ} 0 1 = cc in
      absurd (omega arith)
  fit_of l ls g true p b o e =
      record {
        gate = gate_of g;
        read = rw (b, o);
        fits = rw (line-of-gate g) p;
        good = rw (line-of-gate g) e;
        gates = rw (o, line-of-gate g);
      }

  line-of : (l : Line) (ls : List Line) (b : Bool) (o : Option GateLine) → is_known (kind_on l.bytes) ≡ b → gate_on l ≡ o
      → refusal_of (cond (not b) (refused 23) (gate_else22 o (λ g. cond (not (fits_below I G above g)) (refused 22) (gate_lines I O G n (above ++ (g ∷ [])) ls)))) ≡ none
      → Passed I O G n above (l ∷ ls)
  unfolding refusal_of gate_else22
  line-of l ls false o p q e =
      let z : ◌≡◌ {A = ℕ} 0 1 = cc in
      absurd (omega arith)
  line-of l ls true none p q e =
      let z : ◌≡◌ {A = ℕ} 0 1 = cc in
      absurd (omega arith)
  line-of l ls true (some g) p q e = fit_of l ls g (fits_below I G above g) refl p q e

  pub going_step : (ls : List Line) → refusal_of (gate_lines I O G (suc n) above ls) ≡ none → Passed I O G n above ls
  unfolding refusal_of gate_lines
  going_step [] e =
      let z : ◌≡◌ {A = ℕ} 0 1 = cc in
      absurd (omega arith)
  going_step (l ∷ ls) e = line-of l ls (is_known (kind_on l.bytes)) (gate_on l) refl refl e

  pub going_end : (ls : List Line) → refusal_of (gate_lines I O G 0 above ls) ≡ none → gates_from ls ≡ []
  unfolding refusal_of gate_lines gates_from
  going_end [] e = refl
  going_end (l ∷ ls) e =
      let z : ◌≡◌ {A = ℕ} 0 1 = cc in
      absurd (omega arith)

-- the next of good gate lines, as it is read
pub record Next (s : List ℕ) (z : Sizes) (left at next : ℕ) (g : Gate) : Type 0 where
  pub going : Going s z (left - 1) next
  pub wire : Output z (writes (line_of g))
  pub gates : gates_from (lines (drop at s)) ≡ line_of g ∷ gates_from (lines (drop next s))

module _ (s : List ℕ) (z : Sizes) (left at : ℕ) (go : Going s z left at) (h : 1 ≤ left) (r : Result Gate Refusal) (next : ℕ) (l : GateAt s at r next) where
  first-line : Passed z.inputs z.outputs z.gates (left - 1) go.above (lines (drop at s))
  first-line =
      let p : left ≡ suc (left - 1) = omega arith in
      going_step z.inputs z.outputs z.gates (left - 1) go.above (lines (drop at s))
      (ap (λ (i : ℕ). refusal_of (gate_lines z.inputs z.outputs z.gates i go.above (lines (drop at s)))) (sym p) ∙ go.good)

  is_read : r ≡ Ok first-line.gate
  is_read = l.read ∙ first-line.read

  -- it has a gate
  pub always-ok : IsOk r
  always-ok = rw is_read refl

  pub next-line : (g : Gate) → r ≡ Ok g → Next s z left at next g
  next-line g e =
      let q : first-line.gate ≡ g = cc is_read in
      let w = fits-writes z.inputs z.gates go.above (line_of first-line.gate) first-line.fits in
      record {
        going = record { above = go.above ++ (line_of first-line.gate ∷ []); good = rw l.rest first-line.good };
        wire = rw (← q) (record { low = w.0; high = w.1.0 });
        gates = rw (← q, l.rest) first-line.gates;
      }

-- what is known where g is the last gate that was read
pub record Held (s : List ℕ) (z : Sizes) (out₀ : List ℕ) (x : List ℕ) (out : List ℕ) (g : Gate) (left at : ℕ) : Type 0 where
  pub few : left ≤ z.gates
  pub size : length out ≡ length out₀
  pub wire : Output z (writes (line_of g))
  pub going : Going s z left at
  pub same : stored z.inputs z.outputs (line_of g ∷ gates_from (lines (drop at s))) out ≡ x

module _ (s : List ℕ) (z : Sizes) (out₀ x : List ℕ) where
  module _ (out : List ℕ) (g : Gate) (left at : ℕ) (k : Held s z out₀ x out g left at) where
    -- the record of the gate that is held, with the slot of the next
    pub held_more : 1 ≤ left → (r : Result Gate Refusal) (next : ℕ) → GateAt s at r next → (h : Gate) → r ≡ Ok h → (slot : ℕ) → slot ≡ writes (line_of h) - z.inputs + 1
        → (new : List ℕ) → new ≡ sets out (record_place z.outputs (writes (line_of g) - z.inputs)) (record_bytes (line_of g) slot)
        → Held s z out₀ x new h (left - 1) next
    unfolding stored first_slot slot_of
    held_more p r next l h e slot f new q =
        let n = next-line s z left at k.going p r next l h e in
        record {
          few = omega (arith, k.few);
          size = ap length q ∙ length-sets out (record_place z.outputs (writes (line_of g) - z.inputs)) (record_bytes (line_of g) slot) ∙ k.size;
          wire = n.wire;
          going = n.going;
          same =
              rw (q, f)
              (sym (ap (λ (gs : List GateLine). stored z.inputs z.outputs (line_of g ∷ gs) out) n.gates) ∙ k.same);
        }

    -- the last record
    pub held_all : left ≤ 0 → (new : List ℕ) → new ≡ sets out (record_place z.outputs (writes (line_of g) - z.inputs)) (record_bytes (line_of g) 0) → new ≡ x
    unfolding stored first_slot
    held_all p new q =
        let e : left ≡ 0 = omega arith in
        let none_left = going_end z.inputs z.outputs z.gates 0 k.going.above (lines (drop at s))
        (ap (λ (i : ℕ). refusal_of (gate_lines z.inputs z.outputs z.gates i k.going.above (lines (drop at s)))) (sym e) ∙ k.going.good) in
        q ∙ sym (ap (λ (gs : List GateLine). stored z.inputs z.outputs (line_of g ∷ gs) out) none_left) ∙ k.same

-- the stores of a header, the output wires and the records
unfoldable whole_of : ℕ → ℕ → ℕ → ℕ → List GateLine → List ℕ → List ℕ
whole_of I O G head gs out = stored I O gs (sets (sets out 0 (four_bytes I O G head)) (output_place 0) (flatten (tabulate O (λ k. le_bytes width (I + G - O + k)))))

record SaysSome (x : Reading) : Type 0 where
  text : Text
  same : x ≡ says text

some-text : (x : Reading) → refusal_of x ≡ none → SaysSome x
unfolding refusal_of
some-text (refused k) e =
    let z : ◌≡◌ {A = ℕ} 0 1 = cc in
    absurd (omega arith)
some-text (says t) e = record { text = t; same = refl }

module _ (s : List ℕ) (z : Sizes) (at : ℕ) (few : Few z) where
  -- an accepted text with these sizes
  module _ (t : Text) (e : gates_at s z at ≡ says t) where
    more : More z.inputs z.outputs z.gates z.gates [] t
    unfolding gates_at
    more = gates-accepted z.inputs z.outputs z.gates t z.gates [] (lines (drop at s)) e

    pub inputs_are : t.inputs ≡ z.inputs
    inputs_are = ap (λ (x : Text). x.inputs) more.text

    pub outputs-are : t.outputs ≡ z.outputs
    outputs-are = ap (λ (x : Text). x.outputs) more.text

    pub gates-are : length t.gates ≡ z.gates
    gates-are = ap (λ (x : Text). length x.gates) more.text ∙ more.so-many

    pub sizes-accepted : Accepted t
    sizes-accepted =
        accepted t z.inputs z.gates few.some_inputs few.few_inputs few.few_gates
        (below t z.inputs z.outputs z.gates few.some_outputs few.few_outputs few.enough more)

    same-gates : t.gates ≡ gates_from (lines (drop at s))
    unfolding gates_at
    same-gates = gates-from z.inputs z.outputs z.gates t z.gates [] (lines (drop at s)) e

    text-stored : (out : List ℕ) (head : ℕ) → record_place z.outputs z.gates ≤ length out → head ≡ first_slot z.inputs (gates_from (lines (drop at s)))
        → whole_of z.inputs z.outputs z.gates head (gates_from (lines (drop at s))) out ≡ front (text_file t) out
    unfolding whole_of header_part output_part last_wire
    text-stored out head room h =
        let a = inputs_are in
        let b = outputs-are in
        let c = gates-are in
        let d = same-gates in
        let same : whole_of z.inputs z.outputs z.gates head (gates_from (lines (drop at s))) out
        ≡ whole_of t.inputs t.outputs (length t.gates) (first_slot t.inputs t.gates) t.gates out = cc in
        same ∙ all-stored t sizes-accepted out (omega arith)

  module _ (good : refusal_of (gates_at s z at) ≡ none) where
    pub going_start : Going s z z.gates at
    unfolding gates_at
    going_start = record { above = []; good = good }

    all-filed : (out : List ℕ) (head : ℕ) → record_place z.outputs z.gates ≤ length out → head ≡ first_slot z.inputs (gates_from (lines (drop at s)))
        → whole_of z.inputs z.outputs z.gates head (gates_from (lines (drop at s))) out ≡ filed (gates_at s z at) out
    unfolding filed
    all-filed out head room h =
        let k = some-text (gates_at s z at) good in
        text-stored k.text k.same out head room h ∙ sym (ap (λ (x : Reading). filed x out) k.same)

    -- a text without gates
    pub filed-none : (out : List ℕ) → record_place z.outputs z.gates ≤ length out → z.gates ≡ 0
        → sets (sets out 0 (four_bytes z.inputs z.outputs z.gates 0)) (output_place 0) (flatten (tabulate z.outputs (λ k. le_bytes width (z.inputs + z.gates - z.outputs + k)))) ≡ filed (gates_at s z at) out
    unfolding whole_of stored first_slot gates_at
    filed-none out room e =
        let ls = lines (drop at s) in
        let none_left : gates_from ls ≡ [] =
        going_end z.inputs z.outputs z.gates 0 [] ls
        (ap (λ (i : ℕ). refusal_of (gate_lines z.inputs z.outputs z.gates i [] ls)) (sym e) ∙ good) in
        sym (ap (λ (gs : List GateLine). whole_of z.inputs z.outputs z.gates 0 gs out) none_left)
        ∙ all-filed out 0 room (sym (ap (first_slot z.inputs) none_left))

    -- a text with gates, of which g is the first
    pub filed-some : (out : List ℕ) → record_place z.outputs z.gates ≤ length out → (left next : ℕ) (g : Gate) → Next s z left at next g
        → (slot : ℕ) → slot ≡ writes (line_of g) - z.inputs + 1
        → stored z.inputs z.outputs (line_of g ∷ gates_from (lines (drop next s)))
        (sets (sets out 0 (four_bytes z.inputs z.outputs z.gates slot)) (output_place 0) (flatten (tabulate z.outputs (λ k. le_bytes width (z.inputs + z.gates - z.outputs + k))))) ≡ filed (gates_at s z at) out
    unfolding whole_of first_slot slot_of
    filed-some out room left next g n slot f =
        sym (ap (λ (gs : List GateLine). whole_of z.inputs z.outputs z.gates slot gs out) n.gates)
        ∙ all-filed out slot room (f ∙ sym (ap (first_slot z.inputs) n.gates))

    file-size : (t : Text) → gates_at s z at ≡ says t → length (text_file t) ≡ record_place z.outputs z.gates
    file-size t e = omega (arith, file-length t, outputs-are t e, gates-are t e)

    -- an output that is too short, and one that is long enough
    pub convert-short : (out : List ℕ) → length out < record_place z.outputs z.gates → refuses 6 (out ∷ []) ≡ conversion (gates_at s z at) out
    unfolding conversion
    convert-short out h =
        let k = some-text (gates_at s z at) good in
        sym (ap (λ (x : Reading). conversion x out) k.same ∙ not-built (text_file k.text) out (omega (arith, file-size k.text k.same)))

    pub convert-long : (out : List ℕ) → record_place z.outputs z.gates ≤ length out → (size : ℕ) → size ≡ record_place z.outputs z.gates → (new : List ℕ)
        → new ≡ filed (gates_at s z at) out → record { answer = success (size ∷ []); left = new ∷ [] } ≡ conversion (gates_at s z at) out
    unfolding conversion filed
    convert-long out h size p new e =
        let k = some-text (gates_at s z at) good in
        let n : length (text_file k.text) ≡ size = file-size k.text k.same ∙ sym p in
        let f : new ≡ front (text_file k.text) out = e ∙ ap (λ (x : Reading). filed x out) k.same in
        sym
        (ap (λ (x : Reading). conversion x out) k.same
        ∙ built (text_file k.text) out (omega arith)
        ∙ ap₂ (λ (i : ℕ) (l : List ℕ). record { answer = success (i ∷ []); left = l ∷ [] }) n (sym f))

-- a reading that is refused
pub convert-refused : (x : Reading) (n : ℕ) (out : List ℕ) → some n ≡ refusal_of x → refuses n (out ∷ []) ≡ conversion x out
unfolding refusal_of conversion
convert-refused (refused k) n out e =
    let p : n ≡ k = cc in
    ap (λ (i : ℕ). refuses i (out ∷ [])) p
convert-refused (says t) n out e =
    let z : ◌≡◌ {A = ℕ} 0 1 = cc in
    absurd (omega arith)

pub room-same : (z : Sizes) (out new : List ℕ) → Room z out → length new ≡ length out → Room z new
room-same z out new r e = record { few = r.few; room = omega (arith, r.room) }

pub room-sets : (z : Sizes) (out new : List ℕ) → Room z out → (at : ℕ) (vs : List ℕ) → new ≡ sets out at vs → Room z new
room-sets z out new r at vs e = room-same z out new r (ap length e ∙ length-sets out at vs)

pub held_start : (s : List ℕ) (z : Sizes) (out : List ℕ) (g : Gate) (at : ℕ) → Started s z at (writes (line_of g)) out
    → Held s z out (stored z.inputs z.outputs (line_of g ∷ gates_from (lines (drop at s))) out) out g (z.gates - 1) at
held_start s z out g at k = record { few = omega arith; size = refl; wire = k.wire; going = k.going; same = refl }
