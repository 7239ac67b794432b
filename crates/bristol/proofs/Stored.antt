-- The records of a text's gates, stored in the text's order, are the records of the file.
-- Assumes nothing.
use mathlib.Core.Path.{◌≡◌, refl, sym, ap, ap₂, ◌∙◌}
use mathlib.Core.Bool.{Bool, true, false, cond, not, ◌&&◌, ◌||◌}
use mathlib.Core.List.{List, [], ◌∷◌, ◌++◌, map, flatten, append_assoc, append-nil}
use mathlib.Core.Logic.{⊎_elim}
use mathlib.Core.Option.{Option, none, some}
use Prim.Native.Nat.{ℕ, zero, suc, ◌+◌, ◌-◌, ◌*◌, ◌≤◌, ◌<◌}
use native.Mathlib.Omega.{arith}
use lib.Dec.{eqb, leb, ltb}
use lib.ListN.{length, take, drop, length-append, length-drop, take-append-drop}
use lib.Seq.{sets, drop-drop, length-take-le}
use borrow.Author.Tests.{eq-eqb, ne_eqb, eqb-true, leb-true, ltb-true, not-true}
use Rattle.bits.specs.Bits.{tabulate, bit_val}
use Rattle.bits.specs.Counting.{count}
use Rattle.bits.proofs.Numbers.{eq-or-ne}
use Rattle.bits.proofs.Tabulate.{tabulate-cong}
use Rattle.bits.proofs.Tests.{and-true-left, and-true-right}
use Rattle.circuit.specs.Fields as form
use Rattle.circuit.specs.Building.{front}
use Rattle.circuit.specs.Steps.{record_size, output_place, record_place}
use Rattle.circuit.specs.File.{width, gates_of, head_of, chain_from}
use Rattle.circuit.proofs.Visits.{chain-theorem}
use Rattle.bristol_text.specs.Text.{Line}
use Rattle.bristol_lines.specs.Rules.{GateLine, xor, and, inv, Text, refused, says, is_known, kind_on, gate_on, writes, written, readable, writable, fits_below, gate_else22, gate_lines}
use Rattle.bristol_lines.specs.Conversion.{slot_of, first_slot, record_of, record_for, text_file}
use Rattle.bristol_lines.specs.Steps.{four_of, record_bytes, stored, gate_before, gates_from}
use Rattle.bristol_lines.proofs.Accepted.{Fits, Accepted, after}
use Rattle.bristol_lines.proofs.Chained.{Linked, written-more}
use Rattle.bristol.proofs.Converts.{chain-good, head}
use Rattle.bristol.proofs.Filed.{header_part, output_part, record_part, four-length, file-gates, file-length, file-parts, header-length, output-length}
use Rattle.bristol.proofs.Slots.{all-linked}
use Rattle.bristol.proofs.Stores.{sets-at, parts-of, put_at, put-here, put_other, put-part}

or-true : (b : Bool) → b || true ≡ true
or-true true = refl
or-true false = refl

write-parts : (I G : ℕ) (above : List GateLine) (w : ℕ) → writable I G above w ≡ true → (I ≤ w) × ((w < I + G) × (written above w ≡ false))
unfolding writable
write-parts I G above w e =
    let two = and-true-left (leb I w && ltb w (I + G)) (not (written above w)) e in (
      leb-true I w (and-true-left (leb I w) (ltb w (I + G)) two),
      (
        ltb-true w (I + G) (and-true-right (leb I w) (ltb w (I + G)) two),
        not-true (written above w) (and-true-right (leb I w && ltb w (I + G)) (not (written above w)) e),
      ),
    )

-- a gate line that fits writes a wire above the inputs, which no line above it writes
pub fits-writes : (I G : ℕ) (above : List GateLine) (g : GateLine) → fits_below I G above g ≡ true → (I ≤ writes g) × ((writes g < I + G) × (written above (writes g) ≡ false))
unfolding fits_below writes
fits-writes I G above (xor a b c) e = write-parts I G above c (and-true-right (readable I G above a && readable I G above b) (writable I G above c) e)
fits-writes I G above (and a b c) e = write-parts I G above c (and-true-right (readable I G above a && readable I G above b) (writable I G above c) e)
fits-writes I G above (inv a c) e = write-parts I G above c (and-true-right (readable I G above a) (writable I G above c) e)

-- a wire that lines write is not written by lines that fit below them
later : (I G : ℕ) (above gs : List GateLine) → Fits I G above gs → (w : ℕ) → written above w ≡ true → written gs w ≡ false
unfolding Fits written
later I G above [] f w e = refl
later I G above (g ∷ gs) f w e =
    let n = fits-writes I G above g f.0 in
    rw (ne_eqb w (writes g) (λ q. differ (written above (writes g)) n.1.1 (sym (ap (written above) q) ∙ e)))
    (later I G (above ++ (g ∷ [])) gs f.1 w (written-more above g w ∙ rw e))
  where
    differ : (b : Bool) → b ≡ false → b ≡ true → ⊥
    differ b p q = let z : ◌≡◌ {A = ℕ} 0 1 = cc in omega arith

module _ (I G : ℕ) where
  -- the records after those of some gates
  unfoldable filled_by : List GateLine → (ℕ → List ℕ) → ℕ → List ℕ
  filled_by [] f = f
  filled_by (g ∷ gs) f = filled_by gs (put_at f (writes g - I) (record_bytes g (first_slot I gs)))

  put-length : (f : ℕ → List ℕ) (g : GateLine) (x j : ℕ) → ((k : ℕ) → k < G → length (f k) ≡ record_size) → (k : ℕ) → k < G → length (put_at f j (record_bytes g x) k) ≡ record_size
  put-length f g x j e k h =
      ⊎_elim (λ q. ap length (put-here f j (record_bytes g x) k q) ∙ four-length (record_of g x)) (λ n. ap length (put_other f j (record_bytes g x) k n) ∙ e k h) (eq-or-ne k j)

  stored-parts : (O : ℕ) (a c : List ℕ) → length a ≡ record_place O 0 → (above gs : List GateLine) → Fits I G above gs → (f : ℕ → List ℕ) → ((k : ℕ) → k < G → length (f k) ≡ record_size)
      → stored I O gs (a ++ (flatten (tabulate G f) ++ c)) ≡ a ++ (flatten (tabulate G (filled_by gs f)) ++ c)
  unfolding stored filled_by Fits
  stored-parts O a c l above [] w f e = refl
  stored-parts O a c l above (g ∷ gs) w f e =
      let n = fits-writes I G above g w.0 in
      let r = record_bytes g (first_slot I gs) in
      let j : writes g - I < G = omega arith in
      ap (stored I O gs) (put-part a c G f (writes g - I) r (record_place O (writes g - I)) j e (four-length (record_of g (first_slot I gs))) (omega arith))
      ∙ stored-parts O a c l (above ++ (g ∷ [])) gs w.1 (put_at f (writes g - I) r) (put-length f g (first_slot I gs) (writes g - I) e)

  -- what each record then is
  filled_at : (above gs : List GateLine) → Fits I G above gs → (f : ℕ → List ℕ) (j : ℕ) → filled_by gs f j ≡ cond (written gs (I + j)) (four_of (record_for I (I + j) gs)) (f j)
  unfolding filled_by Fits written record_for
  filled_at above [] w f j = refl
  filled_at above (g ∷ gs) w f j = filled_at (above ++ (g ∷ [])) gs w.1 (put_at f (writes g - I) r) j ∙ ⊎_elim same other (eq-or-ne (I + j) (writes g))
    where
      r : List ℕ
      r = record_bytes g (first_slot I gs)

      low : I ≤ writes g
      low = (fits-writes I G above g w.0).0

      mine : written (above ++ (g ∷ [])) (writes g) ≡ true
      mine = written-more above g (writes g) ∙ rw (eq-eqb (writes g) (writes g) refl) (or-true (written above (writes g)))

      same : I + j ≡ writes g → cond (written gs (I + j)) (four_of (record_for I (I + j) gs)) (put_at f (writes g - I) r j)
          ≡ cond (eqb (I + j) (writes g) || written gs (I + j)) (four_of (cond (eqb (I + j) (writes g)) (record_of g (first_slot I gs)) (record_for I (I + j) gs))) (f j)
      same e =
          rw (ap (written gs) e ∙ later I G (above ++ (g ∷ [])) gs w.1 (writes g) mine, eq-eqb (I + j) (writes g) e)
          (put-here f (writes g - I) r j (omega arith))

      other : (I + j ≡ writes g → ⊥) → cond (written gs (I + j)) (four_of (record_for I (I + j) gs)) (put_at f (writes g - I) r j)
          ≡ cond (eqb (I + j) (writes g) || written gs (I + j)) (four_of (cond (eqb (I + j) (writes g)) (record_of g (first_slot I gs)) (record_for I (I + j) gs))) (f j)
      other n = rw (ne_eqb (I + j) (writes g) n, put_other f (writes g - I) r j (λ q. n (omega (arith, low))))

-- the chain visits the slots of the gate lines
linked-chain : (s : List ℕ) (I : ℕ) (gs : List GateLine) → Linked s I gs → chain_from s (length gs) (first_slot I gs) ≡ map (slot_of I) gs
unfolding Linked form.chain_from first_slot
linked-chain s I [] l = refl
linked-chain s I (g ∷ gs) l = rw l.0.next (ap (λ (r : List ℕ). slot_of I g ∷ r) (linked-chain s I gs l.1))

counted-more : (I j rest : ℕ) (g : GateLine) (gs : List GateLine) (b : Bool) → eqb (suc j) (writes g - I + 1) ≡ b → I ≤ writes g → 1 ≤ bit_val b + rest
    → (1 ≤ rest → written gs (I + j) ≡ true) → eqb (I + j) (writes g) || written gs (I + j) ≡ true
counted-more I j rest g gs true e l h f =
    let p = eqb-true (suc j) (writes g - I + 1) e in
    rw (eq-eqb (I + j) (writes g) (omega arith))
counted-more I j rest g gs false e l h f = rw (f (omega arith)) (or-true (eqb (I + j) (writes g)))

-- a slot that is visited is that of a line
counted-written : (I G : ℕ) (above gs : List GateLine) → Fits I G above gs → (j : ℕ) → 1 ≤ count (suc j) (map (slot_of I) gs) → written gs (I + j) ≡ true
unfolding Fits count slot_of written
counted-written I G above [] f j h = absurd (omega arith)
counted-written I G above (g ∷ gs) f j h =
    counted-more I j (count (suc j) (map (slot_of I) gs)) g gs (eqb (suc j) (writes g - I + 1)) refl (fits-writes I G above g f.0).0 h
    (counted-written I G (above ++ (g ∷ [])) gs f.1 j)

module _ (t : Text) (k : Accepted t) where
  abbrev I : ℕ
  I = t.inputs

  abbrev G : ℕ
  G = length t.gates

  -- every wire above the inputs is written
  all-written : (j : ℕ) → j < G → written t.gates (I + j) ≡ true
  all-written j h =
      let f = text_file t in
      let once : count (suc j) (chain_from f (gates_of f) (head_of f)) ≡ 1 =
      (chain-theorem.sound f (chain-good t k)).once (suc j) (omega arith) (omega (arith, file-gates t k)) in
      let some : count (suc j) (chain_from f G (first_slot I t.gates)) ≡ 1 = rw (file-gates t k, head t k) at once in
      let slots : count (suc j) (map (slot_of I) t.gates) ≡ 1 = rw (linked-chain f I t.gates (all-linked t k)) at some in
      counted-written I G [] t.gates k.fits j (omega arith)

  module _ (out : List ℕ) (room : record_place t.outputs G ≤ length out) where
    abbrev O : ℕ
    O = t.outputs

    -- what stands where the records go, and its parts
    abbrev rest : List ℕ
    rest = drop (width * O) (drop record_size out)

    abbrev part : ℕ → List ℕ
    part j = take record_size (drop (j * record_size) rest)

    rest-length : length rest ≡ length out - record_place O 0
    rest-length = omega (arith, length-drop (width * O) (drop record_size out), length-drop record_size out)

    part_length : (j : ℕ) → j < G → length (part j) ≡ record_size
    part_length j h = length-take-le record_size (drop (j * record_size) rest) (omega (arith, length-drop (j * record_size) rest, rest-length))

    front-parts : sets (sets out 0 (header_part t)) (output_place 0) (output_part t) ≡ header_part t ++ (output_part t ++ rest)
    front-parts =
        let hp = header_part t in
        let op = output_part t in
        ap (λ (l : List ℕ). sets l (output_place 0) op)
        (sets-at out [] (take record_size out) (drop record_size out) hp 0 (sym (take-append-drop record_size out)) refl (length-take-le record_size out (omega arith) ∙ sym (header-length t)))
        ∙ sets-at (hp ++ drop record_size out) hp (take (width * O) (drop record_size out)) rest op (output_place 0) (ap (λ (l : List ℕ). hp ++ l) (sym (take-append-drop (width * O) (drop record_size out)))) (header-length t)
        (length-take-le (width * O) (drop record_size out) (omega (arith, length-drop record_size out)) ∙ omega (arith, output-length t))

    filled-record : (j : ℕ) → j < G → filled_by I G t.gates part j ≡ four_of (record_for I (I + j) t.gates)
    filled-record j h = filled_at I G [] t.gates k.fits part j ∙ rw (all-written j h)

    beyond : drop (G * record_size) rest ≡ drop (length (text_file t)) out
    beyond =
        let e : record_size + (width * O + G * record_size) ≡ length (text_file t) = omega (arith, file-length t) in
        drop-drop (G * record_size) (width * O) (drop record_size out) ∙ drop-drop (width * O + G * record_size) record_size out ∙ ap (λ (i : ℕ). drop i out) e

    -- the whole is the file
    pub all-stored : stored I O t.gates (sets (sets out 0 (header_part t)) (output_place 0) (output_part t)) ≡ front (text_file t) out
    unfolding record_part
    all-stored =
        let hp = header_part t in
        let op = output_part t in
        let rp = flatten (tabulate G (λ j. four_of (record_for I (I + j) t.gates))) in
        let c = drop (G * record_size) rest in
        let len : length (hp ++ op) ≡ record_place O 0 = omega (arith, length-append hp op, header-length t, output-length t) in
        ap (stored I O t.gates)
        (front-parts ∙ ap (λ (l : List ℕ). hp ++ (op ++ l)) (sym (take-append-drop (G * record_size) rest) ∙ ap (λ (l : List ℕ). l ++ c) (sym (parts-of record_size G rest)))
        ∙ sym (append_assoc hp op (flatten (tabulate G part) ++ c)))
        ∙ stored-parts I G O (hp ++ op) c len [] t.gates k.fits part part_length
        ∙ ap (λ (l : List ℕ). (hp ++ op) ++ (l ++ c)) (ap flatten (tabulate-cong G (filled_by I G t.gates part) (λ j. four_of (record_for I (I + j) t.gates)) filled-record))
        ∙ append_assoc hp op (rp ++ c)
        ∙ sym (append_assoc hp (op ++ rp) c ∙ ap (λ (l : List ℕ). hp ++ l) (append_assoc op rp c))
        ∙ ap₂ (λ (a b : List ℕ). a ++ b) (sym (file-parts t)) beyond

-- the gates of an accepted text are those on its lines
module _ (I O G : ℕ) (t : Text) where
  from_more : (n : ℕ) (above : List GateLine) (o : Option GateLine) (ls : List Line)
      → gate_else22 o (λ g. cond (not (fits_below I G above g)) (refused 22) (gate_lines I O G n (above ++ (g ∷ [])) ls)) ≡ says t
      → ((g : GateLine) → gate_lines I O G n (above ++ (g ∷ [])) ls ≡ says t → t.gates ≡ (above ++ (g ∷ [])) ++ gates_from ls)
      → t.gates ≡ above ++ gate_before o (gates_from ls)
  unfolding gate_else22 gate_before
  from_more n above none ls e f =
      let z : ◌≡◌ {A = ℕ} 0 1 = cc in
      absurd (omega arith)
  from_more n above (some g) ls e f =
      f g (after (fits_below I G above g) 22 (gate_lines I O G n (above ++ (g ∷ [])) ls) e) ∙ append_assoc above (g ∷ []) (gates_from ls)

  pub gates-from : (n : ℕ) (above : List GateLine) (ls : List Line) → gate_lines I O G n above ls ≡ says t → t.gates ≡ above ++ gates_from ls
  unfolding gate_lines gates_from
  gates-from zero above [] e =
      let same : record { inputs = I; outputs = O; gates = above } ≡ t = cc in
      ap (λ (x : Text). x.gates) (sym same) ∙ sym (append-nil above)
  gates-from zero above (l ∷ ls) e =
      let z : ◌≡◌ {A = ℕ} 0 1 = cc in
      absurd (omega arith)
  gates-from (suc n) above [] e =
      let z : ◌≡◌ {A = ℕ} 0 1 = cc in
      absurd (omega arith)
  gates-from (suc n) above (l ∷ ls) e =
      from_more n above (gate_on l) ls (after (is_known (kind_on l.bytes)) 23 _ e) (λ g. gates-from n (above ++ (g ∷ [])) ls)
