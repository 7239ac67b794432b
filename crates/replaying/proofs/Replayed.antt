-- What replay answers and leaves: what its steps ask, the rows and the output that the work memory gives, and each refusal.
-- Assumes nothing.
use mathlib.Core.Path.{◌≡◌, sym, ap, ap₂, ◌∙◌}
use mathlib.Core.Bool.{Bool, true, false, not, cond, ◌&&◌, ◌||◌}
use mathlib.Core.List.{List, [], ◌∷◌, ◌++◌}
use Prim.Native.Nat.{ℕ, ◌+◌, ◌*◌, ◌≤◌, ◌<◌}
use native.Mathlib.Omega.{arith}
use native.Mathlib.Numerals.{add-one}
use borrow.Author.Tests.{lt-ltb, le-ltb, eqb-true}
use lib.Dec.{eqb}
use lib.ListN.{length, take, replicate, length-append}
use lib.Seq.{take_at}
use Rattle.bits.specs.Bits.{oct, pack, unused_zero}
use Rattle.bits.specs.Bytes.{same_bytes, row_of}
use Rattle.bits.proofs.Tests.{and-true-left, and-true-right}
use Rattle.refusal.specs.declared.Refusal.{Refusal}
use Rattle.refusal.specs.declared.Refusal.TheVariants.{BufferLength, UnusedBits, Parameter, Index, Output}
use Rattle.parties.specs.Parties.{height_of, is_party_count}
use Rattle.parties.proofs.Counts.{count_yes, count_no}
use Rattle.circuit.specs.File.{circuit_of}
use Rattle.circuit.specs.Operations.{read_op, holds}
use Rattle.circuit.specs.Answers.{read_paper}
use Rattle.circuit.specs.declared.Sizes.{Sizes}
use Rattle.circuit.specs.declared.Fault.{Fault}
use Rattle.circuit.proofs.Answered.{fell, held}
use Rattle.plain.specs.Tapes.{ands_of, unused_rows}
use Rattle.plain.specs.Showing.{Showing, rows_of, replay_of}
use Rattle.walk.specs.Steps.{layout_of}
use Rattle.packed.specs.Steps.{broadcast_bytes, tapes_held, corrections_held, showing_of, replayed_memory, rows_sent}
use Rattle.packed.proofs.Runs.{rows-replayed}
use Rattle.mpc.specs.Operations.{holds_rows, holds_showing, broadcast_bits, unused_showing, replay_legal, replay_op}
use Rattle.mpc.specs.Answers.{outcome}
use Rattle.mpc.specs.Steps.{Known, memory_bytes, Working, TapesFit, ShowingFits, with_both}
use Rattle.std.specs.Prelude.{⊤, Result, Ok, Err}
use Rattle.mpc.proofs.Opened.{sized, circuit-inputs, circuit-outputs, circuit-ands, circuit-row}
use Rattle.mpc.proofs.Lent.{work-refused, work-short, work-left}
use Rattle.mpc.proofs.Places.{working-kept, memory-held, placed, both-length, both-tapes, both-corrections}

-- six tests, one after the other
all-six : (a b c d e f a' b' c' d' e' f' : Bool) → a ≡ a' → b ≡ b' → c ≡ c' → d ≡ d' → e ≡ e' → f ≡ f'
    → a && b && c && d && e && f ≡ a' && b' && c' && d' && e' && f'
all-six a b c d e f a' b' c' d' e' f' ea eb ec ed ee ef =
    ap₂ ◌&&◌ (ap₂ ◌&&◌ (ap₂ ◌&&◌ (ap₂ ◌&&◌ (ap₂ ◌&&◌ ea eb) ec) ed) ee) ef

-- that all hold
six-true : (a b c d e f : Bool) → a && b && c && d && e && f ≡ true
    → (a ≡ true) × ((b ≡ true) × ((c ≡ true) × ((d ≡ true) × ((e ≡ true) × (f ≡ true)))))
six-true a b c d e f h =
    let h5 = and-true-left (a && b && c && d && e) f h in
    let h4 = and-true-left (a && b && c && d) e h5 in
    let h3 = and-true-left (a && b && c) d h4 in
    let h2 = and-true-left (a && b) c h3 in
    (and-true-left a b h2, (and-true-right a b h2, (and-true-right (a && b) c h3, (and-true-right (a && b && c) d h4, (and-true-right (a && b && c && d) e h5, and-true-right (a && b && c && d && e) f h)))))

-- such a part z, with what lies after it
module _ (k : ℕ) (z w : List ℕ) (l : length z ≡ k) where
  pub prefix-inside : k ≤ length (z ++ w)
  prefix-inside = omega (arith, l, length-append z w)

  pub prefix-taken : k ≡ length (take k (z ++ w))
  prefix-taken = sym (ap length (take_at z w k l) ∙ l)

  pub prefix_same : (y x : List ℕ) (r : Bool) → z ≡ x → r ≡ same_bytes (take k (z ++ w)) y → r ≡ same_bytes x y
  prefix_same y x r e h = h ∙ ap (λ (t : List ℕ). same_bytes t y) (take_at z w k l ∙ e)

-- the rows given where good
module _ (good : Bool) (given rows : List ℕ) where
  pub given-good : good ≡ true → (x : List ℕ) → x ≡ given → x ≡ cond good given rows
  given-good t x e = e ∙ sym (ap (λ (j : Bool). cond j given rows) t)

  pub given-not : good ≡ false → rows ≡ cond good given rows
  given-not t = sym (ap (λ (j : Bool). cond j given rows) t)

-- the answer, and the rows x that are left: m1 the memory with the tapes and the corrections brought in, m2 the memory after the replay
pub replayed-right : (s : List ℕ) (z : Sizes) (n p : ℕ) (tapes corr masked row m : List ℕ) → Known s z → Working z n m → p < n → TapesFit z n tapes
    → length corr ≡ oct z.ands → (m1 m2 part y x rows : List ℕ) (r : Bool)
    → let v : Showing = record { tapes = tapes; corrections = corr; masked_inputs = masked; row = row } in m1 ≡ with_both z tapes corr m
    → part ≡ pack (replay_of (circuit_of s) n p (showing_of (tapes_held z n m1) (corrections_held z m1) masked row)).output
    → r ≡ same_bytes part y → m2 ≡ replayed_memory s z n p masked row m1 → x ≡ cond r (rows_sent (layout_of z) n (broadcast_bytes z) m2) rows
    → (r ≡ same_bytes (pack (replay_of (circuit_of s) n p v).output) y) × (x ≡ cond r (rows_of n (replay_of (circuit_of s) n p v)) rows)
replayed-right s z n p tapes corr masked row m k b hp fit fits m1 m2 part y x rows r e1 ep er e2 ex =
    let c = circuit_of s in
    let w = placed s z n k m b in
    let t : tapes_held z n m1 ≡ tapes = ap (tapes_held z n) e1 ∙ both-tapes z n tapes m w fit corr fits in
    let a : corrections_held z m1 ≡ corr = ap (corrections_held z) e1 ∙ both-corrections z n tapes m w fit corr fits in
    let h = memory-held s z n k m1 (working-kept z n m m1 (ap length e1 ∙ both-length z n tapes m w fit corr fits) b) in
    let rs = ap (rows_sent (layout_of z) n (broadcast_bytes z)) e2 ∙ rows-replayed s z n m1 h p masked row hp in (
      er ∙ ap (λ (j : List ℕ). same_bytes j y) (ep ∙ ap₂ (λ (i j : List ℕ). pack (replay_of c n p (showing_of i j masked row)).output) t a),
      ex ∙ ap (λ (j : List ℕ). cond r j rows) (rs ∙ ap₂ (λ (i j : List ℕ). rows_of n (replay_of c n p (showing_of i j masked row))) t a),
    )

-- the lengths in the numbers that the code carries
abbrev lengths_hold : ℕ → ℕ → ℕ → ℕ → List ℕ → List ℕ → List ℕ → List ℕ → List ℕ → List ℕ → Bool
lengths_hold i o a n tapes corr masked row y rows =
    (eqb (length tapes) (n * oct (i + 2 * a)) && eqb (length corr) (oct a) && eqb (length masked) (oct i) && eqb (length row) (oct (a + o)))
    && eqb (length y) (oct o) && eqb (length rows) (n * oct (a + o))

-- where they are as stated
pub lengths-parts : (i o g a n : ℕ) (tapes corr masked row y rows : List ℕ) (r : Bool) → r ≡ lengths_hold i o a n tapes corr masked row y rows → not r ≡ false
    → ShowingFits (sized i o g a) n tapes corr masked row × (length rows ≡ n * oct (a + o))
lengths-parts i o g a n tapes corr masked row y rows r e t =
    let z = six-true (eqb (length tapes) (n * oct (i + 2 * a))) (eqb (length corr) (oct a)) (eqb (length masked) (oct i)) (eqb (length row) (oct (a + o)))
    (eqb (length y) (oct o)) (eqb (length rows) (n * oct (a + o))) (held _ r e t) in (
      record {
        tapes_fit = eqb-true _ _ z.0;
        corrections_fit = eqb-true _ _ z.1.0;
        masked_fit = eqb-true _ _ z.1.1.0;
        row_fits = eqb-true _ _ z.1.1.1.0;
      },
      eqb-true _ _ z.1.1.1.1.1,
    )

-- a legal file
module _ (s : List ℕ) (i o g a : ℕ) (k : Known s (sized i o g a)) (n p : ℕ) (tapes corr masked row : List ℕ) where
  -- the showing
  abbrev lent : Showing
  lent = record { tapes = tapes; corrections = corr; masked_inputs = masked; row = row }

  -- the test of its unused bits
  pub unused-right : (len : ℕ) (own : List ℕ) (u v w x y d : Bool) → len ≡ oct (i + 2 * a) → own ≡ row_of tapes len p
      → u ≡ unused_rows (circuit_of s) n tapes n → v ≡ unused_zero a corr → w ≡ unused_zero i masked → x ≡ unused_zero (a + o) row → y ≡ unused_zero 0 own
      → d ≡ unused_zero 0 corr → u && v && w && x && y && (not (eqb (p + 1) n) || d) ≡ unused_showing (circuit_of s) n p lent
  unfolding unused_showing
  unused-right len own u v w x y d l e hu hv hw hx hy hd =
      let ii = sym (circuit-inputs s i o g a k) in
      let oo = sym (circuit-outputs s i o g a k) in
      let aa = sym (circuit-ands s i o g a k) in
      all-six u v w x y (not (eqb (p + 1) n) || d) _ _ _ _ _ _ hu (hv ∙ ap (λ (j : ℕ). unused_zero j corr) aa) (hw ∙ ap (λ (j : ℕ). unused_zero j masked) ii)
      (hx ∙ ap₂ (λ (j m : ℕ). unused_zero (j + m) row) aa oo)
      (hy ∙ ap (unused_zero 0) (e ∙ ap (λ (j : ℕ). row_of tapes j p) (l ∙ sym (circuit-row s i o g a k))))
      (ap₂ (λ (j : ℕ) (m : Bool). not (eqb j n) || m) (add-one p) hd)

  -- the answers
  module _ (h : ℕ) (y rows : List ℕ) (count : h ≡ height_of n) where
    lengths : lengths_hold i o a n tapes corr masked row y rows
        ≡ holds_showing (circuit_of s) n lent && holds (length (circuit_of s).outputs) y && holds_rows n (broadcast_bits (circuit_of s)) rows
    unfolding holds_showing
    lengths =
        ap₂ (λ (x z : ℕ). lengths_hold x o z n tapes corr masked row y rows) (sym (circuit-inputs s i o g a k)) (sym (circuit-ands s i o g a k))
        ∙ ap (λ (x : ℕ). lengths_hold (circuit_of s).inputs x (ands_of (circuit_of s)) n tapes corr masked row y rows) (sym (circuit-outputs s i o g a k))

    -- no party count
    pub replay-parties : h ≡ 0 → outcome (Err Parameter) (rows ∷ []) ≡ replay_legal n p lent y rows (circuit_of s)
    unfolding replay_legal
    replay-parties e = rw (count_no n (sym count ∙ e))

    module _ (more : h ≡ 0 → ⊥) where
      -- a party count
      counts : is_party_count n ≡ true
      counts = count_yes n (λ z. more (count ∙ z))

      -- no party of these
      pub replay-index : n ≤ p → outcome (Err Index) (rows ∷ []) ≡ replay_legal n p lent y rows (circuit_of s)
      unfolding replay_legal
      replay-index e = rw (counts, le-ltb p n e)

      module _ (hp : p < n) (r : Bool) (e : r ≡ lengths_hold i o a n tapes corr masked row y rows) where
        -- a lent length not as stated
        pub replay-length : not r ≡ true → outcome (Err BufferLength) (rows ∷ []) ≡ replay_legal n p lent y rows (circuit_of s)
        unfolding replay_legal
        replay-length t = rw (counts, lt-ltb p n hp, fell _ r (e ∙ lengths) t)

        module _ (t : not r ≡ false) (u v : Bool) (eu : u ≡ unused_showing (circuit_of s) n p lent) (ev : v ≡ unused_zero o y) where
          tested : u && v ≡ unused_showing (circuit_of s) n p lent && unused_zero (length (circuit_of s).outputs) y
          tested = ap₂ ◌&&◌ eu (ev ∙ ap (λ (j : ℕ). unused_zero j y) (sym (circuit-outputs s i o g a k)))

          -- a nonzero unused bit
          pub replay-unused : not (u && v) ≡ true → outcome (Err UnusedBits) (rows ∷ []) ≡ replay_legal n p lent y rows (circuit_of s)
          unfolding replay_legal
          replay-unused z = rw (counts, lt-ltb p n hp, held _ r (e ∙ lengths) t, fell _ (u && v) tested z)

          module _ (z : not (u && v) ≡ false) (w : Bool) (x : List ℕ) (ew : w ≡ same_bytes (pack (replay_of (circuit_of s) n p lent).output) y)
              (ex : x ≡ cond w (rows_of n (replay_of (circuit_of s) n p lent)) rows) where
            -- success
            pub replay-done : w ≡ true → outcome (Ok tt) (x ∷ []) ≡ replay_legal n p lent y rows (circuit_of s)
            unfolding replay_legal
            replay-done c =
                let f : x ≡ rows_of n (replay_of (circuit_of s) n p lent) = ex ∙ ap (λ (j : Bool). cond j (rows_of n (replay_of (circuit_of s) n p lent)) rows) c in
                rw (counts, lt-ltb p n hp, held _ r (e ∙ lengths) t, held _ (u && v) tested z, sym ew ∙ c, f)

            -- the output differs
            pub replay-output : w ≡ false → outcome (Err Output) (x ∷ []) ≡ replay_legal n p lent y rows (circuit_of s)
            unfolding replay_legal
            replay-output c =
                let f : x ≡ rows = ex ∙ ap (λ (j : Bool). cond j (rows_of n (replay_of (circuit_of s) n p lent)) rows) c in
                rw (counts, lt-ltb p n hp, held _ r (e ∙ lengths) t, held _ (u && v) tested z, sym ew ∙ c, f)

-- the file is read first
module _ (s : List ℕ) (n p : ℕ) (x : Showing) (y rows work : List ℕ) (r : Result Sizes Fault) (e : read_paper r ≡ read_op s) where
  pub replay-refused : (k : Fault) → r ≡ Err k → outcome (Err k.refusal) (rows ∷ work ∷ []) ≡ replay_op s n p x y rows work
  unfolding replay_op
  replay-refused k q = work-refused s (rows ∷ []) work (replay_legal n p x y rows) r e k q

  -- then the work buffer is tested
  module _ (z : Sizes) (q : r ≡ Ok z) (need : ℕ) (f : need ≡ memory_bytes z) where
    pub replay-short : length work < need → outcome (Err BufferLength) (rows ∷ work ∷ []) ≡ replay_op s n p x y rows work
    unfolding replay_op
    replay-short l = work-short s (rows ∷ []) work (replay_legal n p x y rows) r e z q need f l

    pub replay-left : need ≤ length work → (a : Result ⊤ Refusal) (filled : List ℕ) → outcome a (filled ∷ []) ≡ replay_legal n p x y rows (circuit_of s)
        → (w : List ℕ) → w ≡ replicate (length work) 0 → outcome a (filled ∷ w ∷ []) ≡ replay_op s n p x y rows work
    unfolding replay_op
    replay-left l a filled t w u =
        work-left s (rows ∷ []) work (replay_legal n p x y rows) r e z q need f l (outcome a (filled ∷ [])) t w u
