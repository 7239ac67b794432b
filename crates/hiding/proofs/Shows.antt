-- Hiding over the operation show: tapes with another row of party p are tapes, so the calls succeed and fill what the showings are.
-- Assumes nothing.
use mathlib.Core.Path.{◌≡◌, refl, sym, ap, ap₂, ◌∙◌}
use mathlib.Core.Bool.{true}
use mathlib.Core.List.{List, [], ◌∷◌}
use mathlib.Core.Logic.{◌≢◌, inl, inr, ⊎_elim}
use Prim.Native.Nat.{ℕ, zero, suc, ◌+◌, ◌-◌, ◌*◌, ◌≤◌, ◌<◌}
use native.Mathlib.Omega.{arith}
use borrow.Author.Tests.{eq-eqb, lt-ltb, le-leb}
use lib.ListN.{length, get_or, replicate}
use Rattle.bits.specs.Bits.{unused_zero}
use Rattle.bits.proofs.Numbers.{lt-or-le, eq-or-ne}
use Rattle.bits.proofs.Rows.{row-get_or, row_fits}
use Rattle.bits.proofs.Tests.{and-true-left, and-true-right}
use Rattle.refusal.specs.Outcome.{Outcome, done}
use Rattle.parties.specs.Parties.{is_party_count}
use Rattle.circuit.specs.Circuit.{Circuit}
use Rattle.circuit.specs.File.{legal, read_circuit}
use Rattle.circuit.specs.Operations.{work_bytes, leaving}
use Rattle.plain.specs.Tapes.{row_bytes, tape_row, used_bits, unused_rows, with_row}
use Rattle.plain.specs.Showing.{Showing, showing}
use Rattle.mpc.specs.Operations.{parts_of, holds_showing, show_legal, show_op}
use Rattle.mpc.proofs.Succeeding.{work-enough}
use Rattle.hiding.specs.Hiding.{Row, Tapes, Witness, Partner, four_parts, PartnerShown, HidingShown}
use Rattle.hiding.proofs.Rows.{byte-other, length-with_row, row_here, row_other}
use Rattle.hiding.proofs.Theorem.{hiding}

-- the tapes of n parties, with r as party p's row
module _ (c : Circuit) (n p : ℕ) (l : p < n) (tapes : List ℕ) (ht : Tapes c n tapes) (r : List ℕ) (hr : Row c n p r) where
  abbrev size : length tapes ≡ n * row_bytes c
  size = ht.bytes.size

  abbrev held : List ℕ
  held = with_row c p r tapes

  held-size : length held ≡ n * row_bytes c
  held-size = length-with_row c n p l tapes size r hr.bytes.size ∙ size

  -- bytes of the row, and outside it
  held-inside : (k : ℕ) → k < row_bytes c → get_or held (p * row_bytes c + k) 0 < 256
  held-inside k h =
      let e = row-get_or held (row_bytes c) p k (omega (arith, held-size, row_fits n (row_bytes c) p l)) h in
      let f : get_or (tape_row c held p) k 0 ≡ get_or r k 0 = ap (λ (t : List ℕ). get_or t k 0) (row_here c n p l tapes size r hr.bytes.size) in
      omega (arith, hr.bytes.small k)

  held_small : (k : ℕ) → get_or held k 0 < 256
  held_small k =
      ⊎_elim
      (λ (a : k < p * row_bytes c). omega (arith, byte-other c n p l tapes size r hr.bytes.size k (inl a), ht.bytes.small k))
      (λ (a : p * row_bytes c ≤ k).
      ⊎_elim
      (λ (b : k < p * row_bytes c + row_bytes c).
      let i : ℕ = k - p * row_bytes c in
      let e : p * row_bytes c + i ≡ k = omega arith in
      rw e at (held-inside i (omega arith)))
      (λ (b : p * row_bytes c + row_bytes c ≤ k). omega (arith, byte-other c n p l tapes size r hr.bytes.size k (inr b), ht.bytes.small k))
      (lt-or-le k (p * row_bytes c + row_bytes c)))
      (lt-or-le k (p * row_bytes c))

  -- the rows of the first m parties have their unused bits zero
  held-unused : (m : ℕ) → unused_rows c n tapes m ≡ true → unused_rows c n held m ≡ true
  unfolding unused_rows
  held-unused zero h = refl
  held-unused (suc i) h =
      let a = held-unused i (and-true-left (unused_rows c n tapes i) (unused_zero (used_bits c n i) (tape_row c tapes i)) h) in
      let b = and-true-right (unused_rows c n tapes i) (unused_zero (used_bits c n i) (tape_row c tapes i)) h in
      ⊎_elim
      (λ (e : i ≡ p). rw (e, row_here c n p l tapes size r hr.bytes.size, hr.unused, rw e at a))
      (λ (e : i ≢ p). rw (row_other c n p l tapes size r hr.bytes.size i e, a, b))
      (eq-or-ne i p)

  -- they are tapes
  pub tapes-with_row : Tapes c n held
  tapes-with_row = record { bytes = record { size = held-size; small = held_small }; unused = held-unused n ht.unused }

-- show on a legal circuit succeeds, and fills the showing's four parts
show-legal : (c : Circuit) (n p g : ℕ) (w tapes : List ℕ) (out : Showing) → is_party_count n ≡ true → p < n → g ≤ length c.gates
    → Witness c w → Tapes c n tapes → holds_showing c n out ≡ true → show_legal n p g w tapes out c ≡ done (parts_of (showing c n p g w tapes))
unfolding show_legal
show-legal c n p g w tapes out hn l h hw ht ho =
    rw (hn, lt-ltb p n l, le-leb g (length c.gates) h, eq-eqb (length w) _ hw.bytes.size, eq-eqb (length tapes) _ ht.bytes.size, ho, hw.unused, ht.unused)

-- a success that fills the four parts, and leaves a work buffer of k bytes all zero
abbrev pub filling : Showing → ℕ → Outcome
filling x k = done (x.tapes ∷ x.corrections ∷ x.masked_inputs ∷ x.row ∷ replicate k 0 ∷ [])

pub show-fills : (s : List ℕ) (c : Circuit) (n p g : ℕ) (w tapes : List ℕ) (out : Showing) → read_circuit s ≡ legal c → is_party_count n ≡ true
    → p < n → g ≤ length c.gates → Witness c w → Tapes c n tapes → holds_showing c n out ≡ true
    → (work : List ℕ) → work_bytes c ≤ length work → show_op s n p g w tapes out work ≡ filling (showing c n p g w tapes) (length work)
unfolding show_op
show-fills s c n p g w tapes out e hn l h hw ht ho work long =
    work-enough s c (parts_of out) work (show_legal n p g w tapes out) e long
    ∙ ap (λ (o : Outcome). leaving o (replicate (length work) 0)) (show-legal c n p g w tapes out hn l h hw ht ho)

-- what calls fill alike are equal showings
left-same : (a b : Outcome) (x y : Showing) (k m : ℕ) → a ≡ filling x k → b ≡ filling y m → four_parts a ≡ four_parts b → x ≡ y
left-same a b x y k m p q g =
    let e : parts_of x ≡ parts_of y = sym (ap four_parts p) ∙ g ∙ ap four_parts q in
    let a : x.tapes ≡ y.tapes = cc in
    let b : x.corrections ≡ y.corrections = cc in
    let d : x.masked_inputs ≡ y.masked_inputs = cc in
    let f : x.row ≡ y.row = cc in
    λ j. record { tapes = a j; corrections = b j; masked_inputs = d j; row = f j }

-- calls of show on the file of a legal circuit, with tapes of which one row is p's
module _ (s : List ℕ) (c : Circuit) (e : read_circuit s ≡ legal c) (n p : ℕ) (hn : is_party_count n ≡ true) (l : p < n) (tapes : List ℕ) (ht : Tapes c n tapes) where
  call-fills : (v x : List ℕ) → Witness c v → Row c n p x → (g : ℕ) → g ≤ length c.gates → (out : Showing) → holds_showing c n out ≡ true
      → (work : List ℕ) → work_bytes c ≤ length work → show_op s n p g v (with_row c p x tapes) out work ≡ filling (showing c n p g v (with_row c p x tapes)) (length work)
  call-fills v x hv hx g h out q work long = show-fills s c n p g v (with_row c p x tapes) out e hn l h hv (tapes-with_row c n p l tapes ht x hx) q work long

  -- a partner is one over the calls
  partner-shown : (w w' : List ℕ) → Witness c w → Witness c w' → (r r' : List ℕ) → Row c n p r → Partner c n p tapes w w' r r'
      → PartnerShown s c n p tapes w w' r r'
  partner-shown w w' hw hw' r r' hr partner =
      record {
        row = partner.row;
        cuts = λ g h out out' q q' work work' long size. record {
          filled = (filling (showing c n p g w (with_row c p r tapes)) (length work)).left;
          one = call-fills w r hw hr g h out q work long;
          other = call-fills w' r' hw' partner.row g h out' q' work' (omega (arith, long, size)) ∙ ap₂ filling (sym (partner.cuts g h)) (sym size);
        };
        only = λ x hx out out' q q' work work' long long' same.
            partner.only x hx
            (left-same _ _ _ _ (length work) (length work') (call-fills w r hw hr (length c.gates) (omega arith) out q work long)
            (call-fills w' x hw' hx (length c.gates) (omega arith) out' q' work' long') same);
      }

-- "Demand 3's first half is about showings, as show fills them"
pub hiding-shown : HidingShown
hiding-shown s c e n p hn l tapes ht w w' hw hw' o r hr =
    let found = hiding s c e n p l tapes ht w w' hw hw' o r hr in
    (found.0, partner-shown s c e n p hn l tapes ht w w' hw hw' r found.0 hr found.1)
