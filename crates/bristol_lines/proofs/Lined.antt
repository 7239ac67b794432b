-- Gate lines: what is read on one, and its place among the others.
-- Assumes nothing.
use mathlib.Core.Path.{◌≡◌, refl, sym, ap, ap₂, ◌∙◌}
use mathlib.Core.Bool.{Bool, true, false, cond, not, ◌&&◌, ◌||◌}
use mathlib.Core.List.{List, [], ◌∷◌, ◌++◌}
use mathlib.Core.Logic.{⊎_elim}
use mathlib.Core.Option.{Option, none, some}
use Rattle.std.specs.Prelude.{Ok, Err}
use Prim.Native.Nat.{ℕ, suc, ◌+◌, ◌-◌, ◌*◌, ◌≤◌, ◌<◌}
use Rattle.bits.proofs.Numbers.{eq-or-ne, odd-bit_val}
use native.Mathlib.Omega.{arith}
use lib.Dec.{eqb, leb, ltb}
use lib.ListN.{length, get_or, take, drop}
use borrow.Author.Tests.{eq-eqb, ne_eqb, lt-ltb, le-ltb, le-leb, lt-leb, ltb-true, eqb-true}
use Rattle.bits.specs.Bits.{bit_val, bit_at, odd}
use Rattle.bits.specs.Steps.{put_bit}
use Rattle.bits.proofs.Packing.{length-put_bit, bit_at-end, bit_at-put_bit, bit_at-put_bit-other}
use Rattle.bits.proofs.Tests.{and-true-left, and-true-right}
use Rattle.circuit.specs.Steps.{wire_bytes}
use Rattle.bristol_text.specs.Text.{Line, lines}
use Rattle.bristol_text.specs.Steps.{LineAt, values_before, are_fields, FirstFive}
use Rattle.bristol_text.specs.declared.Fields.{Fields}
use Rattle.refusal.specs.declared.Refusal.TheVariants as refusal
use Rattle.bristol_text.proofs.Lines.{lines_end, line_after, no_line, line-here}
use Rattle.bristol_lines.specs.Rules.{GateLine, xor, and, inv, Reading, refused, is_known, kind_on, begins, gate_named, gate_on, writes, written, readable, writable, fits_below, gate_else22, gate_lines}
use Rattle.bristol_lines.specs.Steps.{line_of, gate_of, read_as, gate_read, gate_from, starts_with, first_gate, GateAt, flagged, may_read, may_write, fits_flags, line_refusal, Writing, Few, gates_at, refusal_of}
use Rattle.bristol_lines.specs.declared.Kind.{Kind}
use Rattle.bristol_lines.specs.declared.Kind.TheVariants.{Xor, And, Inv, Other}
use Rattle.bristol_lines.specs.declared.Gate.{Gate}
use Rattle.bristol_lines.specs.declared.Sizes.{Sizes}
use Rattle.bristol_lines.proofs.Chained.{written-more}

-- a bit is 1 where it is set
pub bit-set : (b : Bool) → eqb (bit_val b) 1 ≡ b
bit-set true = refl
bit-set false = refl

-- the tests on a wire
module _ (I G w : ℕ) (flags : List ℕ) where
  pub write-input : w < I → false ≡ may_write I G flags w
  unfolding may_write
  write-input h = rw (lt-leb I w h)

  pub write-flag : (b : ℕ) → b ≡ bit_val (bit_at flags w) → I ≤ w → w < I + G → not (eqb b 1) ≡ may_write I G flags w
  unfolding may_write flagged
  write-flag b e h l = rw (le-leb I w h, lt-ltb w (I + G) l) (ap (λ (i : ℕ). not (eqb i 1)) e ∙ ap not (bit-set (bit_at flags w)))

  pub write-none : I ≤ w → I + G ≤ w → false ≡ may_write I G flags w
  unfolding may_write
  write-none h l = rw (le-leb I w h, le-ltb w (I + G) l)

module _ (I c w : ℕ) (flags : List ℕ) where
  pub read-input : w < I → true ≡ may_read I flags c w
  unfolding may_read
  read-input h = rw (lt-ltb w I h)

  pub read-flag : (b : ℕ) → b ≡ bit_val (bit_at flags w) → I ≤ w → (w ≡ c → ⊥) → eqb b 1 ≡ may_read I flags c w
  unfolding may_read flagged
  read-flag b e h n = rw (le-ltb w I h, ne_eqb w c n) (ap (λ (i : ℕ). eqb i 1) e ∙ bit-set (bit_at flags w))

  pub read-own : I ≤ w → w ≡ c → false ≡ may_read I flags c w
  unfolding may_read
  read-own h e = rw (le-ltb w I h, eq-eqb w c e)

  pub read-end : I ≤ w → (w ≡ c → ⊥) → 8 * length flags ≤ w → false ≡ may_read I flags c w
  unfolding may_read flagged
  read-end h n end = rw (le-ltb w I h, ne_eqb w c n, bit_at-end flags w end)

-- a gate by the numbers before its kind
read-cond : (b : Bool) (g : GateLine) → cond b (Ok (gate_of g)) (Err refusal.Text) ≡ read_as (cond b (some g) none)
unfolding read_as
read-cond true g = refl
read-cond false g = refl

module _ (l : List ℕ) (five : Fields) (f : FirstFive l five) where
  abbrev vs : List ℕ
  vs = values_before l

  abbrev count : ℕ
  count = five.count

  abbrev ns : List ℕ
  ns = five.numbers

  same-value : (i j : ℕ) → count ≡ i + 3 → i ≤ 2 → j < i + 3 → get_or ns j 0 ≡ get_or vs j 0
  same-value i j e h k = sym (f.values j (omega arith) (omega arith))

  -- the gate with i inputs
  module _ (i : ℕ) (low : 1 ≤ i) (high : i ≤ 2) (g : ℕ → ℕ → ℕ → GateLine) where
    by_count : (b : Bool) → eqb count (i + 3) ≡ b
        → cond (starts_with i count (get_or ns 0 0) (get_or ns 1 0)) (Ok (gate_of (g (get_or ns 2 0) (get_or ns 3 0) (get_or ns (i + 2) 0)))) (Err refusal.Text)
        ≡ read_as (cond (begins i (i + 3) vs) (some (g (get_or vs 2 0) (get_or vs 3 0) (get_or vs (i + 2) 0))) none)
    unfolding starts_with begins read_as
    by_count false e = rw (sym f.counted, e)
    by_count true e =
        let n : count ≡ i + 3 = eqb-true count (i + 3) e in
        rw (sym f.counted, same-value i 0 n high (omega arith), same-value i 1 n high (omega arith), same-value i 2 n high (omega arith), same-value i 3 n high (omega arith), same-value i (i + 2) n high (omega arith))
        (read-cond (eqb count (i + 3) && eqb (get_or vs 0 0) i && eqb (get_or vs 1 0) 1) (g (get_or vs 2 0) (get_or vs 3 0) (get_or vs (i + 2) 0)))

  pub gate_same : (k : Kind) → is_known k ≡ true → gate_from k count ns ≡ read_as (gate_named k vs)
  unfolding gate_from gate_named is_known
  gate_same Xor e = by_count 2 (omega arith) (omega arith) xor (eqb count 5) refl
  gate_same And e = by_count 2 (omega arith) (omega arith) and (eqb count 5) refl
  gate_same Inv e = by_count 1 (omega arith) (omega arith) (λ a b c. inv a c) (eqb count 4) refl
  gate_same Other e = cc

and-false : (b : Bool) → b && false ≡ false
and-false true = refl
and-false false = refl

pub known_kind : (k : Kind) → (k ≡ Other → ⊥) → is_known k ≡ true
unfolding is_known
known_kind Xor n = refl
known_kind And n = refl
known_kind Inv n = refl
known_kind Other n = absurd (n refl)

-- a gate line: another kind, then no numbers before it or no LF, then by its numbers
module _ (l : Line) where
  pub gate_unknown : kind_on l.bytes ≡ Other → gate_read l ≡ Err refusal.GateKind
  unfolding gate_read is_known
  gate_unknown e = rw e

  module _ (known : is_known (kind_on l.bytes) ≡ true) where
    malformed : l.ended && are_fields l.bytes ≡ false → Err refusal.Text ≡ gate_read l
    unfolding gate_read gate_on are_fields read_as
    malformed e = rw (known, e)

    pub gate-unfielded : are_fields l.bytes ≡ false → Err refusal.Text ≡ gate_read l
    gate-unfielded e = malformed (ap (λ (b : Bool). l.ended && b) e ∙ and-false l.ended)

    pub gate-unended : l.ended ≡ false → Err refusal.Text ≡ gate_read l
    gate-unended e = malformed (ap (λ (b : Bool). b && are_fields l.bytes) e)

    pub gate-good : (f : Fields) → FirstFive l.bytes f → l.ended ≡ true → gate_from (kind_on l.bytes) f.count f.numbers ≡ gate_read l
    unfolding gate_read gate_on are_fields values_before
    gate-good f k e = gate_same l.bytes f k (kind_on l.bytes) known ∙ rw (known, e, k.tested)

-- the next line as a gate line
module _ (s : List ℕ) (at first last : ℕ) (k : LineAt s at first last) where
  pub gate-none : length s ≤ first → GateAt s at (Err refusal.Text) last
  unfolding first_gate
  gate-none h =
      let e = no_line s at first last k h in
      record {
        read = sym (ap first_gate e);
        rest = lines_end s last (omega (arith, line_after s at first last k)) ∙ sym (ap (drop 1) e);
      }

  pub read_here : first < length s → first_gate (lines (drop at s)) ≡ gate_read (record { bytes = take (last - first) (drop first s); ended = ltb last (length s) })
  unfolding first_gate
  read_here h = ap first_gate (line-here s at first last k h)

  pub rest_here : first < length s → lines (drop last s) ≡ drop 1 (lines (drop at s))
  rest_here h = sym (ap (drop 1) (line-here s at first last k h))

-- a gate line among the others
pub line-of-gate : (g : GateLine) → line_of (gate_of g) ≡ g
line-of-gate (xor a b c) = refl
line-of-gate (and a b c) = refl
line-of-gate (inv a c) = refl

read_step : (b : Bool) (o : Option GateLine) (f : GateLine → Reading) (q : Gate) → cond (not b) (Err refusal.GateKind) (read_as o) ≡ Ok q
    → cond (not b) (refused 23) (gate_else22 o f) ≡ f (line_of q)
unfolding read_as gate_else22
read_step false o f q e =
    let z : ◌≡◌ {A = ℕ} 0 1 = cc in
    absurd (omega arith)
read_step true none f q e =
    let z : ◌≡◌ {A = ℕ} 0 1 = cc in
    absurd (omega arith)
read_step true (some g) f q e =
    let p : gate_of g ≡ q = cc in
    ap f (sym (line-of-gate g) ∙ ap line_of p)

refused-fits : (b : Bool) (k : ℕ) (r : Reading) → ◌≡◌ {A = Option ℕ} (cond b none (some 22)) (some k) → cond (not b) (refused 22) r ≡ refused k
refused-fits true k r e =
    let z : ◌≡◌ {A = ℕ} 0 1 = cc in
    absurd (omega arith)
refused-fits false k r e = ap refused (cc)

module _ (I O G : ℕ) (flags : List ℕ) (above : List GateLine) (marks : (w : ℕ) → flagged flags w ≡ written above w) where
  may-write : (w : ℕ) → may_write I G flags w ≡ writable I G above w
  unfolding may_write writable
  may-write w = rw (marks w)

  -- where the wire that a line writes is not written above, the line reads as if it wrote none
  may-read : (c w : ℕ) → flagged flags c ≡ false → may_read I flags c w ≡ readable I G above w
  unfolding may_read readable flagged
  may-read c w h =
      ⊎_elim
      (λ e. rw (eq-eqb w c e) (ap (λ (b : Bool). ltb w I || b) (sym (ap (written above) e ∙ sym (marks c) ∙ h))))
      (λ n. rw (ne_eqb w c n) (ap (λ (b : Bool). ltb w I || b) (marks w)))
      (eq-or-ne w c)

  never : (c : ℕ) → flagged flags c ≡ true → may_write I G flags c ≡ false
  unfolding may_write
  never c e = rw e (and-false (leb I c && ltb c (I + G)))

  by_flag : (c : ℕ) (p q : Bool) → (flagged flags c ≡ false → p ≡ q) → p && may_write I G flags c ≡ q && writable I G above c
  by_flag c p q f = cases (flagged flags c) refl
    where
      cases : (b : Bool) → flagged flags c ≡ b → p && may_write I G flags c ≡ q && writable I G above c
      cases true e = rw (sym (may-write c), never c e) (and-false p ∙ sym (and-false q))
      cases false e = rw (f e, may-write c)

  fits-same : (g : GateLine) → fits_flags I G flags g ≡ fits_below I G above g
  unfolding fits_flags fits_below
  fits-same (xor a b c) =
      by_flag c (may_read I flags c a && may_read I flags c b) (readable I G above a && readable I G above b) (λ h. rw (may-read c a h, may-read c b h))
  fits-same (and a b c) =
      by_flag c (may_read I flags c a && may_read I flags c b) (readable I G above a && readable I G above b) (λ h. rw (may-read c a h, may-read c b h))
  fits-same (inv a c) = by_flag c _ _ (may-read c a)

  refusal-step : (b : Bool) (o : Option GateLine) (f : GateLine → Reading) (k : ℕ) → line_refusal I G flags (cond (not b) (Err refusal.GateKind) (read_as o)) ≡ some k
      → cond (not b) (refused 23) (gate_else22 o (λ g. cond (not (fits_below I G above g)) (refused 22) (f g))) ≡ refused k
  unfolding read_as gate_else22 line_refusal
  refusal-step false o f k e = ap refused (cc)
  refusal-step true none f k e = ap refused (cc)
  refusal-step true (some g) f k e =
      refused-fits (fits_below I G above g) k (f g)
      (ap (λ (b : Bool). cond b none (some 22)) (sym (fits-same g)) ∙ ap (λ (h : GateLine). cond (fits_flags I G flags h) none (some 22)) (sym (line-of-gate g)) ∙ e)

  pub line_refused : (n k : ℕ) (ls : List Line) → line_refusal I G flags (first_gate ls) ≡ some k → gate_lines I O G (suc n) above ls ≡ refused k
  unfolding first_gate gate_read gate_lines line_refusal
  line_refused n k [] e = ap refused (cc)
  line_refused n k (l ∷ ls) e = refusal-step (is_known (kind_on l.bytes)) (gate_on l) (λ g. gate_lines I O G n (above ++ (g ∷ [])) ls) k e

  pub line-passed : (n : ℕ) (q : Gate) (ls : List Line) → first_gate ls ≡ Ok q → fits_flags I G flags (line_of q) ≡ true
      → gate_lines I O G (suc n) above ls ≡ gate_lines I O G n (above ++ (line_of q ∷ [])) (drop 1 ls)
  unfolding first_gate gate_read gate_lines
  line-passed n q [] e f =
      let z : ◌≡◌ {A = ℕ} 0 1 = cc in
      absurd (omega arith)
  line-passed n q (l ∷ ls) e f =
      read_step (is_known (kind_on l.bytes)) (gate_on l) (λ g. cond (not (fits_below I G above g)) (refused 22) (gate_lines I O G n (above ++ (g ∷ [])) ls)) q e
      ∙ rw (sym (fits-same (line_of q)) ∙ f)

  -- the flag of the wire that a line writes is set
  pub marks-more : (g : GateLine) → writes g < 8 * length flags → (w : ℕ) → flagged (put_bit flags (writes g) true) w ≡ written (above ++ (g ∷ [])) w
  unfolding flagged
  marks-more g h w = ⊎_elim same other (eq-or-ne w (writes g))
    where
      or-true : (b : Bool) → b || true ≡ true
      or-true true = refl
      or-true false = refl

      or-false : (b : Bool) → b || false ≡ b
      or-false true = refl
      or-false false = refl

      same : w ≡ writes g → bit_at (put_bit flags (writes g) true) w ≡ written (above ++ (g ∷ [])) w
      same e =
          ap (bit_at (put_bit flags (writes g) true)) e ∙ bit_at-put_bit flags (writes g) true h
          ∙ sym (written-more above g w ∙ ap (λ (b : Bool). written above w || b) (eq-eqb w (writes g) e) ∙ or-true (written above w))

      other : (w ≡ writes g → ⊥) → bit_at (put_bit flags (writes g) true) w ≡ written (above ++ (g ∷ [])) w
      other n =
          bit_at-put_bit-other flags (writes g) true w n ∙ marks w
          ∙ sym (written-more above g w ∙ ap (λ (b : Bool). written above w || b) (ne_eqb w (writes g) n) ∙ or-false (written above w))

-- a wire that may be written is below I + G
write_low : (I G : ℕ) (flags : List ℕ) (w : ℕ) → may_write I G flags w ≡ true → w < I + G
unfolding may_write
write_low I G flags w e = ltb-true w (I + G) (and-true-right (leb I w) (ltb w (I + G)) (and-true-left (leb I w && ltb w (I + G)) _ e))

pub fits_low : (I G : ℕ) (flags : List ℕ) (g : GateLine) → fits_flags I G flags g ≡ true → writes g < I + G
unfolding fits_flags writes
fits_low I G flags (xor a b c) e = write_low I G flags c (and-true-right (may_read I flags c a && may_read I flags c b) _ e)
fits_low I G flags (and a b c) e = write_low I G flags c (and-true-right (may_read I flags c a && may_read I flags c b) _ e)
fits_low I G flags (inv a c) e = write_low I G flags c (and-true-right (may_read I flags c a) _ e)

-- what is known after some of the gate lines: what the lines that are left give is what all of them give
pub record Walked (s : List ℕ) (z : Sizes) (start : ℕ) (flags : List ℕ) (left at : ℕ) : Type 0 where
  pub above : List GateLine
  pub few : left ≤ z.gates
  pub room : length flags ≡ wire_bytes
  pub marks : (w : ℕ) → flagged flags w ≡ written above w
  pub same : gate_lines z.inputs z.outputs z.gates left above (lines (drop at s)) ≡ gates_at s z start

module _ (s : List ℕ) (z : Sizes) (start : ℕ) where
  pub walked_none : (flags : List ℕ) → length flags ≡ wire_bytes → ((w : ℕ) → bit_at flags w ≡ false) → Walked s z start flags (z.gates - 0) start
  unfolding gates_at flagged written
  walked_none flags r n =
      let e : z.gates - 0 ≡ z.gates = omega arith in
      rw e (record { above = []; few = omega arith; room = r; marks = n; same = refl })

  module _ (flags : List ℕ) (left at : ℕ) (k : Walked s z start flags left at) where
    abbrev I : ℕ
    I = z.inputs

    abbrev G : ℕ
    G = z.gates

    pub walked-refused : (n : ℕ) → 0 < left → line_refusal I G flags (first_gate (lines (drop at s))) ≡ some n → some n ≡ refusal_of (gates_at s z start)
    unfolding refusal_of
    walked-refused n h e =
        let p : suc (left - 1) ≡ left = omega arith in
        sym (ap refusal_of
        (sym k.same ∙ ap (λ (i : ℕ). gate_lines I z.outputs G i k.above (lines (drop at s))) (sym p)
        ∙ line_refused I z.outputs G flags k.above k.marks (left - 1) n (lines (drop at s)) e))

    pub writes-inside : Few z → (w next : ℕ) → Writing s z at flags w next → w < 8 * length flags
    writes-inside f w next g = omega (arith, g.wire, fits_low I G flags (line_of g.gate) g.fits, f.few_inputs, f.few_gates, k.room)

    pub walked_more : Few z → 0 < left → (w next : ℕ) → Writing s z at flags w next → (new : List ℕ) → new ≡ put_bit flags w (odd 1)
        → Walked s z start new (left - 1) next
    walked_more f h w next g new e =
        let p : suc (left - 1) ≡ left = omega arith in
        let put : new ≡ put_bit flags (writes (line_of g.gate)) true = e ∙ ap₂ (put_bit flags) g.wire (odd-bit_val true) in
        let low : writes (line_of g.gate) < 8 * length flags = omega (arith, g.wire, writes-inside f w next g) in
        record {
          above = k.above ++ (line_of g.gate ∷ []);
          few = omega (arith, k.few);
          room = ap length put ∙ length-put_bit flags (writes (line_of g.gate)) true ∙ k.room;
          marks = λ i. ap (λ (f : List ℕ). flagged f i) put ∙ marks-more I z.outputs G flags k.above k.marks (line_of g.gate) low i;
          same =
              rw g.rest
              (sym (line-passed I z.outputs G flags k.above k.marks (left - 1) g.gate (lines (drop at s)) g.read g.fits)
              ∙ ap (λ (i : ℕ). gate_lines I z.outputs G i k.above (lines (drop at s))) p ∙ k.same);
        }

    at-end : left ≤ 0 → (ls : List Line) → lines (drop at s) ≡ ls → gate_lines I z.outputs G 0 k.above ls ≡ gates_at s z start
    at-end h ls e =
        let p : left ≡ 0 = omega arith in
        sym (ap (gate_lines I z.outputs G 0 k.above) e) ∙ ap (λ (i : ℕ). gate_lines I z.outputs G i k.above (lines (drop at s))) (sym p) ∙ k.same

    module _ (h : left ≤ 0) (first last : ℕ) (n : LineAt s at first last) where
      pub walked-over : first < length s → some 22 ≡ refusal_of (gates_at s z start)
      unfolding refusal_of gate_lines
      walked-over l = ap refusal_of (at-end h _ (line-here s at first last n l))

      pub walked_all : length s ≤ first → none ≡ refusal_of (gates_at s z start)
      unfolding refusal_of gate_lines
      walked_all l = ap refusal_of (at-end h _ (no_line s at first last n l))
