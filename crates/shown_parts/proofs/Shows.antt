-- What show makes and answers: the bits that a cut shows, the hidden row, the four parts, and each refusal.
-- Assumes nothing.
use mathlib.Core.Path.{◌≡◌, sym, ap, ap₂, ◌∙◌, fun_ext}
use mathlib.Core.Bool.{Bool, true, false, not, cond, ◌&&◌}
use mathlib.Core.List.{List, [], ◌∷◌, ◌++◌}
use Prim.Native.Nat.{ℕ, suc, ◌+◌, ◌*◌, ◌≤◌, ◌<◌}
use native.Mathlib.Omega.{arith}
use native.Mathlib.Numerals.{add-one}
use borrow.Author.Tests.{lt-ltb, le-ltb, le-leb, lt-leb, eqb-true, eq-eqb, ne_eqb, not-false}
use lib.Dec.{eqb, leb, ltb}
use lib.ListN.{length, take, drop, replicate}
use Rattle.bits.specs.Bits.{tabulate, oct, bit_at, pack, unused_zero}
use Rattle.bits.proofs.Packing.{bit_at-pack}
use Rattle.bits.proofs.Tests.{and-true-left, and-true-right}
use Rattle.refusal.specs.declared.Refusal.{Refusal}
use Rattle.refusal.specs.declared.Refusal.TheVariants.{BufferLength, UnusedBits, Parameter, Index}
use Rattle.parties.specs.Parties.{height_of}
use Rattle.parties.proofs.Counts.{count_yes, count_no}
use Rattle.circuit.specs.Circuit.{Circuit}
use Rattle.circuit.specs.File.{circuit_of}
use Rattle.circuit.specs.Operations.{read_op, holds}
use Rattle.circuit.specs.Answers.{read_paper}
use Rattle.circuit.specs.declared.Sizes.{Sizes}
use Rattle.circuit.specs.declared.Fault.{Fault}
use Rattle.circuit.proofs.Answered.{fell, held}
use Rattle.plain.specs.Run.{Transcript}
use Rattle.plain.specs.Tapes.{ands_of, unused_rows, with_row}
use Rattle.plain.specs.Showing as shown
use Rattle.plain.specs.Showing.{correction_bits, run_on, honest_run, row_bits, shown_bits, first_bits, Showing, hidden, showing}
use Rattle.planes.specs.Steps.{Room, tape_words, broadcast_word}
use Rattle.planes.specs.declared.Layout.{Layout}
use Rattle.walk.specs.Steps.{layout_of}
use Rattle.packed.specs.Steps.{Held, broadcast_bytes, tapes_held, corrections_held, ran_memory, sent_bit}
use Rattle.packed.proofs.Runs.{row-ran}
use Rattle.mpc.specs.Operations.{holds_rows, tape_bits, parts_of, holds_showing, show_legal, show_op}
use Rattle.mpc.specs.Answers.{outcome}
use Rattle.mpc.specs.Steps.{Known, memory_bytes, Working, TapesFit, ShowLent, ShowingFits, prepared}
use Rattle.std.specs.Prelude.{⊤, Result, Ok, Err}
use Rattle.mpc.proofs.Opened.{sized, circuit-inputs, circuit-outputs, circuit-gates, circuit-ands, circuit-row}
use Rattle.mpc.proofs.Lent.{work-refused, work-short, work-left}
use Rattle.mpc.proofs.Places.{working-kept, memory-held, prepared-length, prepared-tapes, prepared-corrections}
use Rattle.shown_parts.proofs.Shown.{shown-few}

-- the corrections, where they are the hidden party's
pub corrections-hidden : (p n : ℕ) (y x z : List ℕ) → p + 1 ≡ n → y ≡ x → y ≡ cond (eqb (suc p) n) x z
corrections-hidden p n y x z e q = rw (eq-eqb (suc p) n (sym (add-one p) ∙ e)) q

-- and where they are not
pub corrections-shown : (p n : ℕ) (y x z : List ℕ) → (p + 1 ≡ n → ⊥) → y ≡ z → y ≡ cond (eqb (suc p) n) x z
corrections-shown p n y x z e q = rw (ne_eqb (suc p) n (λ t. e (add-one p ∙ t))) q

-- what pack_row asks, for the bits that a cut shows
pub row-asks : (s : List ℕ) (z : Sizes) (cut r p : ℕ) (l : Layout) (m row : List ℕ) → Known s z → r ≡ shown_bits (circuit_of s) cut → l ≡ layout_of z
    → Room (layout_of z) m → p < 64 → length row ≡ broadcast_bytes z
    → Room l m × ((p < 64) × ((broadcast_word l r ≤ tape_words l) × (oct r ≤ length row)))
row-asks s z cut r p l m row k e el room hp fit =
    let few = shown-few s z.inputs z.outputs z.gates z.ands k cut in
    rw el (room, (hp, (omega (arith, e, few), omega (arith, e, few, fit))))

-- the row as pack_row leaves it
pub row-packed : (s : List ℕ) (z : Sizes) (cut r p : ℕ) (l : Layout) (m row x : List ℕ) → r ≡ shown_bits (circuit_of s) cut → l ≡ layout_of z
    → length row ≡ broadcast_bytes z → x ≡ pack (tabulate (8 * length row) (λ t. ltb t r && sent_bit l m p t))
    → x ≡ pack (tabulate (8 * broadcast_bytes z) (λ t. ltb t (shown_bits (circuit_of s) cut) && sent_bit (layout_of z) m p t))
row-packed s z cut r p l m row x e el fit q =
    q ∙ ap₂ (λ (i j : ℕ). pack (tabulate (8 * i) (λ t. ltb t j && sent_bit l m p t))) fit e
    ∙ ap (λ (i : Layout). pack (tabulate (8 * broadcast_bytes z) (λ t. ltb t (shown_bits (circuit_of s) cut) && sent_bit i m p t))) el

-- the run with the corrections of the tapes, packed, is the honest one
honest-is : (c : Circuit) (n : ℕ) (w tapes : List ℕ) → run_on c n w tapes (bit_at (pack (correction_bits c n tapes))) ≡ honest_run c n w tapes
unfolding honest_run
honest-is c n w tapes = ap (run_on c n w tapes) (fun_ext (λ t. bit_at-pack (correction_bits c n tapes) t))

-- m1 the memory with the tapes brought in and the corrections made, and m2 after the run
module _ (s : List ℕ) (z : Sizes) (n : ℕ) (w tapes m m1 m2 : List ℕ) (k : Known s z) (b : Working z n m) (fit : TapesFit z n tapes)
    (unused : unused_rows (circuit_of s) n tapes n ≡ true) (e1 : m1 ≡ prepared s z n tapes m) (e2 : m2 ≡ ran_memory s z n w m1) where
  tapes-there : tapes_held z n m1 ≡ tapes
  tapes-there = ap (tapes_held z n) e1 ∙ prepared-tapes s z n tapes m k b fit

  corrections-there : corrections_held z m1 ≡ pack (correction_bits (circuit_of s) n tapes)
  corrections-there = ap (corrections_held z) e1 ∙ prepared-corrections s z n tapes m k b fit unused

  here : Held s z n m1
  here = memory-held s z n k m1 (working-kept z n m m1 (ap length e1 ∙ prepared-length s z n tapes m k b fit) b)

  -- the corrections
  pub corrections-made : (p : ℕ) (x : List ℕ) → x ≡ cond (eqb (suc p) n) (replicate (oct z.ands) 0) (corrections_held z m1)
      → x ≡ cond (eqb (suc p) n) (replicate (oct (ands_of (circuit_of s))) 0) (pack (correction_bits (circuit_of s) n tapes))
  corrections-made p x q =
      let a = sym (circuit-ands s z.inputs z.outputs z.gates z.ands k) in
      q ∙ ap₂ (λ (j : ℕ) (y : List ℕ). cond (eqb (suc p) n) (replicate (oct j) 0) y) a corrections-there

  -- the masked inputs
  pub masked-made : (x : List ℕ) → x ≡ shown.masked_inputs (circuit_of s) n w (tapes_held z n m1) → x ≡ shown.masked_inputs (circuit_of s) n w tapes
  masked-made x q = q ∙ ap (shown.masked_inputs (circuit_of s) n w) tapes-there

  -- the bits of row p that the cut shows
  pub row_made : (p cut : ℕ) (x : List ℕ) → p < n
      → x ≡ pack (tabulate (8 * broadcast_bytes z) (λ t. ltb t (shown_bits (circuit_of s) cut) && sent_bit (layout_of z) m2 p t))
      → x ≡ pack (first_bits (shown_bits (circuit_of s) cut) (row_bits (honest_run (circuit_of s) n w tapes) p))
  row_made p cut x hp q =
      let c = circuit_of s in
      q ∙ ap (λ (y : List ℕ). pack (tabulate (8 * broadcast_bytes z) (λ t. ltb t (shown_bits c cut) && sent_bit (layout_of z) y p t))) e2
      ∙ row-ran s z n m1 here w p (shown_bits c cut) hp
      ∙ ap (λ (r : Transcript). pack (first_bits (shown_bits c cut) (row_bits r p)))
      (ap₂ (λ (x y : List ℕ). run_on c n w x (bit_at y)) tapes-there corrections-there ∙ honest-is c n w tapes)

-- the tapes with row p hidden
pub hidden-made : (s : List ℕ) (i o g a : ℕ) → Known s (sized i o g a) → (len p : ℕ) (tapes x : List ℕ) → len ≡ oct (i + 2 * a)
    → x ≡ take (p * len) tapes ++ replicate len 0 ++ drop (p * len + len) tapes → x ≡ hidden (circuit_of s) p tapes
unfolding with_row
hidden-made s i o g a k len p tapes x l q =
    q ∙ ap (λ (j : ℕ). take (p * j) tapes ++ replicate j 0 ++ drop (p * j + j) tapes) (l ∙ sym (circuit-row s i o g a k))

-- the four parts are the showing
pub show-made : (c : Circuit) (n p cut : ℕ) (w tapes x y z u : List ℕ) → x ≡ hidden c p tapes
    → y ≡ cond (eqb (suc p) n) (replicate (oct (ands_of c)) 0) (pack (correction_bits c n tapes)) → z ≡ shown.masked_inputs c n w tapes
    → u ≡ pack (first_bits (shown_bits c cut) (row_bits (honest_run c n w tapes) p)) → x ∷ y ∷ z ∷ u ∷ [] ≡ parts_of (showing c n p cut w tapes)
unfolding showing
show-made c n p cut w tapes x y z u d e f h = ap₂ ◌∷◌ d (ap₂ ◌∷◌ e (ap₂ ◌∷◌ f (ap (λ (v : List ℕ). v ∷ []) h)))

-- the lengths in the numbers that the code carries
abbrev pub lengths_of : (i o a n : ℕ) (w tapes b c m u : List ℕ) → Bool
lengths_of i o a n w tapes b c m u =
    eqb (length w) (oct i) && eqb (length tapes) (n * oct (i + 2 * a))
    && (eqb (length b) (n * oct (i + 2 * a)) && eqb (length c) (oct a) && eqb (length m) (oct i) && eqb (length u) (oct (a + o)))

-- what the tests of the lengths and of the unused bits say
module _ (i o g a n : ℕ) (w tapes b c m u : List ℕ) (r : Bool) (e : r ≡ lengths_of i o a n w tapes b c m u) (t : not r ≡ false) where
  -- all six hold
  six : lengths_of i o a n w tapes b c m u ≡ true
  six = held (lengths_of i o a n w tapes b c m u) r e t

  -- those of the inputs
  ins : eqb (length w) (oct i) && eqb (length tapes) (n * oct (i + 2 * a)) ≡ true
  ins = and-true-left _ (eqb (length b) (n * oct (i + 2 * a)) && eqb (length c) (oct a) && eqb (length m) (oct i) && eqb (length u) (oct (a + o))) six

  -- those of the parts
  outs : eqb (length b) (n * oct (i + 2 * a)) && eqb (length c) (oct a) && eqb (length m) (oct i) && eqb (length u) (oct (a + o)) ≡ true
  outs = and-true-right (eqb (length w) (oct i) && eqb (length tapes) (n * oct (i + 2 * a))) _ six

  -- the witness and the tapes
  pub inputs-tested : (s : List ℕ) (x y : Bool) → y ≡ unused_rows (circuit_of s) n tapes n → not (x && y) ≡ false → ShowLent s (sized i o g a) n w tapes
  inputs-tested s x y p h =
      record {
        witness_fits = eqb-true (length w) (oct i) (and-true-left _ (eqb (length tapes) (n * oct (i + 2 * a))) ins);
        tapes_fit = eqb-true (length tapes) (n * oct (i + 2 * a)) (and-true-right (eqb (length w) (oct i)) _ ins);
        unused = sym p ∙ and-true-right x y (not-false (x && y) h);
      }

  -- the parts
  pub parts-tested : ShowingFits (sized i o g a) n b c m u
  parts-tested =
      let q = and-true-left _ (eqb (length u) (oct (a + o))) outs in
      let p = and-true-left _ (eqb (length m) (oct i)) q in
      record {
        tapes_fit = eqb-true (length b) (n * oct (i + 2 * a)) (and-true-left _ (eqb (length c) (oct a)) p);
        corrections_fit = eqb-true (length c) (oct a) (and-true-right (eqb (length b) (n * oct (i + 2 * a))) _ p);
        masked_fit = eqb-true (length m) (oct i) (and-true-right (eqb (length b) (n * oct (i + 2 * a)) && eqb (length c) (oct a)) _ q);
        row_fits = eqb-true (length u) (oct (a + o)) (and-true-right (eqb (length b) (n * oct (i + 2 * a)) && eqb (length c) (oct a) && eqb (length m) (oct i)) _ outs);
      }

-- the answers on a legal file
module _ (s : List ℕ) (i o g a : ℕ) (k : Known s (sized i o g a)) (n h p cut : ℕ) (w tapes b c m u : List ℕ) (count : h ≡ height_of n) where
  -- what is lent for the parts
  abbrev lent : Showing
  lent = record { tapes = b; corrections = c; masked_inputs = m; row = u }

  -- the lengths in the circuit's numbers
  lengths : lengths_of i o a n w tapes b c m u
      ≡ holds (circuit_of s).inputs w && holds_rows n (tape_bits (circuit_of s)) tapes && holds_showing (circuit_of s) n lent
  unfolding holds_showing
  lengths =
      ap₂ (λ (x y : ℕ). lengths_of x o y n w tapes b c m u) (sym (circuit-inputs s i o g a k)) (sym (circuit-ands s i o g a k))
      ∙ ap (λ (x : ℕ). lengths_of (circuit_of s).inputs x (ands_of (circuit_of s)) n w tapes b c m u) (sym (circuit-outputs s i o g a k))

  -- no party count
  pub show-parties : h ≡ 0 → outcome (Err Parameter) (b ∷ c ∷ m ∷ u ∷ []) ≡ show_legal n p cut w tapes lent (circuit_of s)
  unfolding show_legal
  show-parties e = rw (count_no n (sym count ∙ e))

  -- a party count
  module _ (more : h ≡ 0 → ⊥) where
    -- a party beyond
    pub show-party : n ≤ p → outcome (Err Index) (b ∷ c ∷ m ∷ u ∷ []) ≡ show_legal n p cut w tapes lent (circuit_of s)
    unfolding show_legal
    show-party t = rw (count_yes n (λ z. more (count ∙ z)), le-ltb p n t)

    -- a cut beyond
    pub show-cut : p < n → g < cut → outcome (Err Index) (b ∷ c ∷ m ∷ u ∷ []) ≡ show_legal n p cut w tapes lent (circuit_of s)
    unfolding show_legal
    show-cut t v = rw (count_yes n (λ z. more (count ∙ z)), lt-ltb p n t, circuit-gates s i o g a k, lt-leb cut g v)

    module _ (r : p < n) (t : cut ≤ g) (q : Bool) (f : q ≡ lengths_of i o a n w tapes b c m u) where
      -- the test of the indices
      tested : ltb p n && leb cut (length (circuit_of s).gates) ≡ true
      tested = ap₂ ◌&&◌ (lt-ltb p n r) (ap (leb cut) (circuit-gates s i o g a k) ∙ le-leb cut g t)

      -- a lent length not as stated
      pub show-length : not q ≡ true → outcome (Err BufferLength) (b ∷ c ∷ m ∷ u ∷ []) ≡ show_legal n p cut w tapes lent (circuit_of s)
      unfolding show_legal
      show-length v = rw (count_yes n (λ z. more (count ∙ z)), tested, fell _ q (f ∙ lengths) v)

      module _ (v : not q ≡ false) (x y : Bool) (d : x ≡ unused_zero i w) (l : y ≡ unused_rows (circuit_of s) n tapes n) where
        -- the test of the unused bits
        used : x && y ≡ unused_zero (circuit_of s).inputs w && unused_rows (circuit_of s) n tapes n
        used = ap₂ ◌&&◌ (d ∙ ap (λ (x : ℕ). unused_zero x w) (sym (circuit-inputs s i o g a k))) l

        -- a nonzero unused bit
        pub show-unused : not (x && y) ≡ true → outcome (Err UnusedBits) (b ∷ c ∷ m ∷ u ∷ []) ≡ show_legal n p cut w tapes lent (circuit_of s)
        unfolding show_legal
        show-unused α = rw (count_yes n (λ z. more (count ∙ z)), tested, held _ q (f ∙ lengths) v, fell _ (x && y) used α)

        -- success
        pub show-done : not (x && y) ≡ false → (filled : List (List ℕ)) → filled ≡ parts_of (showing (circuit_of s) n p cut w tapes)
            → outcome (Ok tt) filled ≡ show_legal n p cut w tapes lent (circuit_of s)
        unfolding show_legal
        show-done α filled full = rw (count_yes n (λ z. more (count ∙ z)), tested, held _ q (f ∙ lengths) v, held _ (x && y) used α, full)

-- the file is read first
module _ (s : List ℕ) (n p cut : ℕ) (w tapes : List ℕ) (out : Showing) (work : List ℕ) (r : Result Sizes Fault) (e : read_paper r ≡ read_op s) where
  pub show-refused : (k : Fault) → r ≡ Err k
      → outcome (Err k.refusal) (out.tapes ∷ out.corrections ∷ out.masked_inputs ∷ out.row ∷ work ∷ []) ≡ show_op s n p cut w tapes out work
  unfolding show_op
  show-refused k q = work-refused s (parts_of out) work (show_legal n p cut w tapes out) r e k q

  -- then the work buffer is tested
  module _ (z : Sizes) (q : r ≡ Ok z) (need : ℕ) (f : need ≡ memory_bytes z) where
    pub show-short : length work < need
        → outcome (Err BufferLength) (out.tapes ∷ out.corrections ∷ out.masked_inputs ∷ out.row ∷ work ∷ []) ≡ show_op s n p cut w tapes out work
    unfolding show_op
    show-short l = work-short s (parts_of out) work (show_legal n p cut w tapes out) r e z q need f l

    pub show-left : need ≤ length work → (a : Result ⊤ Refusal) (x1 x2 x3 x4 : List ℕ)
        → outcome a (x1 ∷ x2 ∷ x3 ∷ x4 ∷ []) ≡ show_legal n p cut w tapes out (circuit_of s) → (x : List ℕ)
        → x ≡ replicate (length work) 0
        → outcome a (x1 ∷ x2 ∷ x3 ∷ x4 ∷ x ∷ []) ≡ show_op s n p cut w tapes out work
    unfolding show_op
    show-left l a x1 x2 x3 x4 t x u =
        work-left s (parts_of out) work (show_legal n p cut w tapes out) r e z q need f l (outcome a (x1 ∷ x2 ∷ x3 ∷ x4 ∷ [])) t x u
