-- What prepare answers and leaves: the corrections, and each refusal.
-- Assumes nothing.
use mathlib.Core.Path.{◌≡◌, sym, ap₂, ◌∙◌}
use mathlib.Core.Bool.{Bool, true, false, not, ◌&&◌}
use mathlib.Core.List.{List, [], ◌∷◌}
use Prim.Native.Nat.{ℕ, ◌+◌, ◌*◌, ◌≤◌, ◌<◌}
use lib.Dec.{eqb}
use lib.ListN.{length, replicate}
use Rattle.bits.specs.Bits.{oct, pack}
use Rattle.refusal.specs.declared.Refusal.{Refusal}
use Rattle.refusal.specs.declared.Refusal.TheVariants.{BufferLength, UnusedBits, Parameter}
use Rattle.parties.specs.Parties.{height_of}
use Rattle.parties.proofs.Counts.{count_yes, count_no}
use Rattle.circuit.specs.File.{circuit_of}
use Rattle.circuit.specs.Operations.{read_op, holds}
use Rattle.circuit.specs.Answers.{read_paper}
use Rattle.circuit.specs.declared.Sizes.{Sizes}
use Rattle.circuit.specs.declared.Fault.{Fault}
use Rattle.circuit.proofs.Answered.{fell, held}
use Rattle.plain.specs.Tapes.{ands_of, unused_rows}
use Rattle.plain.specs.Showing.{correction_bits}
use Rattle.mpc.specs.Operations.{holds_rows, tape_bits, prepare_legal, prepare_op}
use Rattle.mpc.specs.Answers.{outcome}
use Rattle.mpc.specs.Steps.{Known, memory_bytes}
use Rattle.std.specs.Prelude.{⊤, Result, Ok, Err}
use Rattle.mpc.proofs.Opened.{sized, circuit-inputs, circuit-ands}
use Rattle.mpc.proofs.Lent.{work-refused, work-short, work-left}

-- the answers on a legal file
module _ (s : List ℕ) (i o g a : ℕ) (k : Known s (sized i o g a)) (n h : ℕ) (tapes out : List ℕ) (count : h ≡ height_of n) where
  -- the lengths in the numbers that the code carries
  lengths : eqb (length tapes) (n * oct (i + 2 * a)) && eqb (length out) (oct a) ≡ holds_rows n (tape_bits (circuit_of s)) tapes && holds (ands_of (circuit_of s)) out
  lengths =
      ap₂ (λ (x y : ℕ). eqb (length tapes) (n * oct (x + 2 * y)) && eqb (length out) (oct y)) (sym (circuit-inputs s i o g a k)) (sym (circuit-ands s i o g a k))

  -- no party count
  pub prepare-parties : h ≡ 0 → outcome (Err Parameter) (out ∷ []) ≡ prepare_legal n tapes out (circuit_of s)
  unfolding prepare_legal
  prepare-parties e = rw (count_no n (sym count ∙ e))

  -- a party count
  module _ (more : h ≡ 0 → ⊥) (r : Bool) (q : r ≡ eqb (length tapes) (n * oct (i + 2 * a)) && eqb (length out) (oct a)) where
    -- the test of the lengths
    tested : r ≡ holds_rows n (tape_bits (circuit_of s)) tapes && holds (ands_of (circuit_of s)) out
    tested = q ∙ lengths

    -- a lent length not as stated
    pub prepare-length : not r ≡ true → outcome (Err BufferLength) (out ∷ []) ≡ prepare_legal n tapes out (circuit_of s)
    unfolding prepare_legal
    prepare-length t = rw (count_yes n (λ z. more (count ∙ z)), fell _ r tested t)

    -- a nonzero unused bit
    pub prepare-unused : not r ≡ false → (u : Bool) → u ≡ unused_rows (circuit_of s) n tapes n → not u ≡ true
        → outcome (Err UnusedBits) (out ∷ []) ≡ prepare_legal n tapes out (circuit_of s)
    unfolding prepare_legal
    prepare-unused t u z w = rw (count_yes n (λ z. more (count ∙ z)), held _ r tested t, fell _ u z w)

    -- success
    pub prepare-done : not r ≡ false → (u : Bool) → u ≡ unused_rows (circuit_of s) n tapes n → not u ≡ false → (x : List ℕ)
        → x ≡ pack (correction_bits (circuit_of s) n tapes) → outcome (Ok tt) (x ∷ []) ≡ prepare_legal n tapes out (circuit_of s)
    unfolding prepare_legal
    prepare-done t u z w x y = rw (count_yes n (λ z. more (count ∙ z)), held _ r tested t, held _ u z w, y)

-- the file is read first
module _ (s : List ℕ) (n : ℕ) (tapes out work : List ℕ) (r : Result Sizes Fault) (e : read_paper r ≡ read_op s) where
  pub prepare-refused : (k : Fault) → r ≡ Err k → outcome (Err k.refusal) (out ∷ work ∷ []) ≡ prepare_op s n tapes out work
  unfolding prepare_op
  prepare-refused k p = work-refused s (out ∷ []) work (prepare_legal n tapes out) r e k p

  -- then the work buffer is tested
  module _ (z : Sizes) (p : r ≡ Ok z) (need : ℕ) (q : need ≡ memory_bytes z) where
    pub prepare-short : length work < need → outcome (Err BufferLength) (out ∷ work ∷ []) ≡ prepare_op s n tapes out work
    unfolding prepare_op
    prepare-short l = work-short s (out ∷ []) work (prepare_legal n tapes out) r e z p need q l

    pub prepare-left : need ≤ length work → (a : Result ⊤ Refusal) (x : List ℕ) → outcome a (x ∷ []) ≡ prepare_legal n tapes out (circuit_of s)
        → (w : List ℕ) → w ≡ replicate (length work) 0 → outcome a (x ∷ w ∷ []) ≡ prepare_op s n tapes out work
    unfolding prepare_op
    prepare-left l a x t w u = work-left s (out ∷ []) work (prepare_legal n tapes out) r e z p need q l (outcome a (x ∷ [])) t w u
