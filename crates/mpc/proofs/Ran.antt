-- What run answers and leaves: masked inputs, broadcast rows and output as the work memory gives them, and each refusal.
-- Assumes nothing.
use mathlib.Core.Path.{◌≡◌, sym, ap, ap₂, ◌∙◌}
use mathlib.Core.Bool.{Bool, true, false, not, ◌&&◌}
use mathlib.Core.List.{List, [], ◌∷◌}
use Prim.Native.Nat.{ℕ, ◌+◌, ◌*◌, ◌≤◌, ◌<◌}
use borrow.Author.Tests.{eqb-true, not-false}
use lib.Dec.{eqb}
use lib.ListN.{length, replicate}
use Rattle.bits.specs.Bits.{oct, pack, bit_at, unused_zero}
use Rattle.bits.proofs.Tests.{and-true-left, and-true-right}
use Rattle.refusal.specs.declared.Refusal.{Refusal}
use Rattle.refusal.specs.declared.Refusal.TheVariants.{BufferLength, UnusedBits, Parameter}
use Rattle.parties.specs.Parties.{height_of}
use Rattle.parties.proofs.Counts.{count_yes, count_no}
use Rattle.circuit.specs.File.{circuit_of}
use Rattle.circuit.specs.Operations.{read_op}
use Rattle.circuit.specs.Answers.{read_paper}
use Rattle.circuit.specs.declared.Sizes.{Sizes}
use Rattle.circuit.specs.declared.Fault.{Fault}
use Rattle.circuit.proofs.Answered.{fell, held}
use Rattle.plain.specs.Tapes.{ands_of, unused_rows}
use Rattle.plain.specs.Showing.{masked_inputs, run_on, rows_of}
use Rattle.walk.specs.Steps.{layout_of}
use Rattle.packed.specs.Steps.{broadcast_bytes, tapes_held, corrections_held, ran_memory, rows_sent}
use Rattle.packed.proofs.Runs.{rows-ran}
use Rattle.mpc.specs.Operations.{ran, run_legal, run_op}
use Rattle.mpc.specs.Answers.{outcome}
use Rattle.mpc.specs.Steps.{Known, memory_bytes, Working, TapesFit, RunLent, with_both}
use Rattle.std.specs.Prelude.{⊤, Result, Ok, Err}
use Rattle.mpc.proofs.Opened.{sized, circuit-inputs, circuit-outputs, circuit-ands}
use Rattle.mpc.proofs.Lent.{work-refused, work-short, work-left}
use Rattle.mpc.proofs.Places.{working-kept, memory-held, placed, both-length, both-tapes, both-corrections}

-- what the run in a work memory leaves: m1 the memory with the tapes and the corrections brought in, m2 the memory after the run
pub run-made : (s : List ℕ) (z : Sizes) (n : ℕ) (tapes corr w m : List ℕ) → Known s z → Working z n m → TapesFit z n tapes → length corr ≡ oct z.ands
    → (m1 m2 masked rows y : List ℕ) → m1 ≡ with_both z tapes corr m → masked ≡ masked_inputs (circuit_of s) n w (tapes_held z n m1)
    → y ≡ pack (run_on (circuit_of s) n w (tapes_held z n m1) (bit_at (corrections_held z m1))).output → m2 ≡ ran_memory s z n w m1
    → rows ≡ rows_sent (layout_of z) n (broadcast_bytes z) m2 → masked ∷ rows ∷ y ∷ [] ≡ ran (circuit_of s) n w tapes corr
unfolding ran
run-made s z n tapes corr w m k b fit fits m1 m2 masked rows y e1 em ey e2 er =
    let c = circuit_of s in
    let p = placed s z n k m b in
    let t : tapes_held z n m1 ≡ tapes = ap (tapes_held z n) e1 ∙ both-tapes z n tapes m p fit corr fits in
    let a : corrections_held z m1 ≡ corr = ap (corrections_held z) e1 ∙ both-corrections z n tapes m p fit corr fits in
    let h = memory-held s z n k m1 (working-kept z n m m1 (ap length e1 ∙ both-length z n tapes m p fit corr fits) b) in
    let rs = er ∙ ap (rows_sent (layout_of z) n (broadcast_bytes z)) e2 ∙ rows-ran s z n m1 h w in
    ap₂ ◌∷◌ (em ∙ ap (masked_inputs c n w) t)
    (ap₂ (λ (x y : List ℕ). x ∷ y ∷ []) (rs ∙ ap₂ (λ (x y : List ℕ). rows_of n (run_on c n w x (bit_at y))) t a)
    (ey ∙ ap₂ (λ (x y : List ℕ). pack (run_on c n w x (bit_at y)).output) t a))

-- six tests that hold together
six : (b1 b2 b3 b4 b5 b6 : Bool) → b1 && b2 && b3 && b4 && b5 && b6 ≡ true
    → (b1 ≡ true) × ((b2 ≡ true) × ((b3 ≡ true) × ((b4 ≡ true) × ((b5 ≡ true) × (b6 ≡ true)))))
six b1 b2 b3 b4 b5 b6 z =
    let z5 = and-true-left (b1 && b2 && b3 && b4 && b5) b6 z in
    let z4 = and-true-left (b1 && b2 && b3 && b4) b5 z5 in
    let z3 = and-true-left (b1 && b2 && b3) b4 z4 in
    let z2 = and-true-left (b1 && b2) b3 z3 in (
      and-true-left b1 b2 z2,
      (
        and-true-right b1 b2 z2,
        (
          and-true-right (b1 && b2) b3 z3,
          (and-true-right (b1 && b2 && b3) b4 z4, (and-true-right (b1 && b2 && b3 && b4) b5 z5, and-true-right (b1 && b2 && b3 && b4 && b5) b6 z)),
        ),
      ),
    )

-- the answers on a legal file
module _ (s : List ℕ) (i o g a : ℕ) (k : Known s (sized i o g a)) (n h : ℕ) (w tapes corr masked rows y : List ℕ) (count : h ≡ height_of n) where
  -- what is lent
  abbrev lent : List (List ℕ)
  lent = masked ∷ rows ∷ y ∷ []

  -- the test of the lengths, in the numbers that the code carries
  abbrev lengths : ℕ → ℕ → ℕ → Bool
  lengths i o a =
      eqb (length w) (oct i) && eqb (length tapes) (n * oct (i + 2 * a)) && eqb (length corr) (oct a) && eqb (length masked) (oct i)
      && eqb (length rows) (n * oct (a + o)) && eqb (length y) (oct o)

  -- in those of the circuit
  lengths-right : lengths i o a ≡ lengths (circuit_of s).inputs (length (circuit_of s).outputs) (ands_of (circuit_of s))
  lengths-right =
      ap₂ (λ (x z : ℕ). lengths x z a) (sym (circuit-inputs s i o g a k)) (sym (circuit-outputs s i o g a k))
      ∙ ap (lengths (circuit_of s).inputs (length (circuit_of s).outputs)) (sym (circuit-ands s i o g a k))

  -- no party count
  pub run-parties : h ≡ 0 → outcome (Err Parameter) lent ≡ run_legal n w tapes corr masked rows y (circuit_of s)
  unfolding run_legal
  run-parties e = rw (count_no n (sym count ∙ e))

  -- a party count
  module _ (more : h ≡ 0 → ⊥) (r : Bool) (e : r ≡ lengths i o a) where
    -- a lent length not as stated
    pub run_length : not r ≡ true → outcome (Err BufferLength) lent ≡ run_legal n w tapes corr masked rows y (circuit_of s)
    unfolding run_legal
    run_length t = rw (count_yes n (λ z. more (count ∙ z)), fell _ r (e ∙ lengths-right) t)

    -- what is lent is as stated
    pub run-lent-fits : not r ≡ false → (length w ≡ oct i) × RunLent (sized i o g a) n tapes corr masked rows y
    run-lent-fits t =
        let z =
        six (eqb (length w) (oct i)) (eqb (length tapes) (n * oct (i + 2 * a))) (eqb (length corr) (oct a)) (eqb (length masked) (oct i))
        (eqb (length rows) (n * oct (a + o))) (eqb (length y) (oct o)) (sym e ∙ not-false r t) in (
          eqb-true _ _ z.0,
          record {
            tapes_fit = eqb-true _ _ z.1.0;
            corrections_fit = eqb-true _ _ z.1.1.0;
            masked_fit = eqb-true _ _ z.1.1.1.0;
            rows_fit = eqb-true _ _ z.1.1.1.1.0;
            y_fits = eqb-true _ _ z.1.1.1.1.1;
          },
        )

    -- lengths as stated
    module _ (t : not r ≡ false) (b1 b2 b3 : Bool) (f1 : b1 ≡ unused_zero i w) (f2 : b2 ≡ unused_rows (circuit_of s) n tapes n)
        (f3 : b3 ≡ unused_zero a corr) where
      -- the test of the unused bits
      unused-right : b1 && b2 && b3 ≡ unused_zero (circuit_of s).inputs w && unused_rows (circuit_of s) n tapes n && unused_zero (ands_of (circuit_of s)) corr
      unused-right =
          ap₂ ◌&&◌ (ap₂ ◌&&◌ f1 f2) f3
          ∙ ap₂ (λ (x z : ℕ). unused_zero x w && unused_rows (circuit_of s) n tapes n && unused_zero z corr) (sym (circuit-inputs s i o g a k)) (sym (circuit-ands s i o g a k))

      -- a nonzero unused bit
      pub run-unused : not (b1 && b2 && b3) ≡ true → outcome (Err UnusedBits) lent ≡ run_legal n w tapes corr masked rows y (circuit_of s)
      unfolding run_legal
      run-unused u = rw (count_yes n (λ z. more (count ∙ z)), held _ r (e ∙ lengths-right) t, fell _ (b1 && b2 && b3) unused-right u)

      -- success
      pub run-done : not (b1 && b2 && b3) ≡ false → (p q x : List ℕ) → p ∷ q ∷ x ∷ [] ≡ ran (circuit_of s) n w tapes corr
          → outcome (Ok tt) (p ∷ q ∷ x ∷ []) ≡ run_legal n w tapes corr masked rows y (circuit_of s)
      unfolding run_legal
      run-done u p q x z =
          ap (outcome (Ok tt)) z ∙ rw (count_yes n (λ z. more (count ∙ z)), held _ r (e ∙ lengths-right) t, held _ (b1 && b2 && b3) unused-right u)

-- the file is read first
module _ (s : List ℕ) (n : ℕ) (w tapes corr masked rows y work : List ℕ) (r : Result Sizes Fault) (e : read_paper r ≡ read_op s) where
  pub run-refused : (k : Fault) → r ≡ Err k
      → outcome (Err k.refusal) (masked ∷ rows ∷ y ∷ work ∷ []) ≡ run_op s n w tapes corr masked rows y work
  unfolding run_op
  run-refused k p = work-refused s (masked ∷ rows ∷ y ∷ []) work (run_legal n w tapes corr masked rows y) r e k p

  -- then the work buffer is tested
  module _ (z : Sizes) (p : r ≡ Ok z) (need : ℕ) (q : need ≡ memory_bytes z) where
    pub run_short : length work < need → outcome (Err BufferLength) (masked ∷ rows ∷ y ∷ work ∷ []) ≡ run_op s n w tapes corr masked rows y work
    unfolding run_op
    run_short l = work-short s (masked ∷ rows ∷ y ∷ []) work (run_legal n w tapes corr masked rows y) r e z p need q l

    pub run-left : need ≤ length work → (a : Result ⊤ Refusal) (x1 x2 x3 : List ℕ)
        → outcome a (x1 ∷ x2 ∷ x3 ∷ []) ≡ run_legal n w tapes corr masked rows y (circuit_of s) → (x : List ℕ)
        → x ≡ replicate (length work) 0
        → outcome a (x1 ∷ x2 ∷ x3 ∷ x ∷ []) ≡ run_op s n w tapes corr masked rows y work
    unfolding run_op
    run-left l a x1 x2 x3 t x u =
        work-left s (masked ∷ rows ∷ y ∷ []) work (run_legal n w tapes corr masked rows y) r e z p need q l (outcome a (x1 ∷ x2 ∷ x3 ∷ [])) t x u
