-- What was found is whether the output is in the list.
-- Assumes nothing.
use mathlib.Core.Path.{◌≡◌, refl, sym, ap, ◌∙◌}
use mathlib.Core.Bool.{Bool, true, false, not, cond, ◌||◌}
use mathlib.Core.List.{List}
use mathlib.Core.Logic.{⊎_elim}
use Prim.Native.Nat.{ℕ, zero, suc, ◌≤◌, ◌<◌}
use native.Mathlib.Omega.{arith}
use native.Mathlib.Nat.{eq-or-lt_of_le, le_of_suc-le-suc}
use lib.ListN.{length, get_or}
use Rattle.bits.specs.Bits.{tabulate, oct, pack, unpack, bit_at, unused_zero}
use Rattle.bits.specs.Bytes.{same_bytes}
use Rattle.bits.proofs.Equal.{same-eq, eq-same}
use Rattle.bits.proofs.Packing.{bit_at-pack, pack-unpack}
use Rattle.bits.proofs.Rows.{inside, row-length, row_lt}
use Rattle.bits.proofs.Tabulate.{get_d_tabulate, tabulate-cong}
use Rattle.bits.proofs.Tests.{and-true-left, and-true-right}
use Rattle.circuit.specs.Fields.{Fields, outputs_of, output_wire}
use Rattle.circuit.specs.Meaning.{Exactly}
use Rattle.one_of.specs.OneOf.{entries, entry, among, repeated, unused_entries}
use Rattle.one_of.specs.Theorem.{Listed}
use Rattle.one_of.proofs.Values.{same, agrees, found}

-- one of two tests holds
or-true : {A : Type 0} (a b : Bool) → a || b ≡ true → (a ≡ true → A) → (b ≡ true → A) → A
or-true true b e f g = f refl
or-true false b e f g = g e

or_left : (a b : Bool) → a ≡ true → a || b ≡ true
or_left a b e = rw e

or_right : (a b : Bool) → b ≡ true → a || b ≡ true
or_right true b e = refl
or_right false b e = e

-- an entry that was listed before: one of the first n entries is the same
pub among-some : (O : ℕ) (list : List ℕ) (e n : ℕ) → among O list e n ≡ true → (i : ℕ) × ((i < n) × (entry O list i ≡ entry O list e))
unfolding among
among-some O list e zero t = absurd (let z : ◌≡◌ {A = ℕ} 0 1 = cc in omega arith)
among-some O list e (suc n) t =
    or-true (among O list e n) (same_bytes (entry O list n) (entry O list e)) t
    (λ a. let r = among-some O list e n a in (r.0, (omega (arith, r.1.0), r.1.1)))
    (λ b. (n, (omega arith, same-eq (entry O list n) (entry O list e) b)))

pub some-among : (O : ℕ) (list : List ℕ) (e n i : ℕ) → i < n → entry O list i ≡ entry O list e → among O list e n ≡ true
unfolding among
some-among O list e zero i h q = absurd (omega arith)
some-among O list e (suc n) i h q =
    ⊎_elim
    (λ (z : i ≡ n). or_right (among O list e n) _ (eq-same (entry O list n) (entry O list e) (rw (sym z) q)))
    (λ l. or_left (among O list e n) _ (some-among O list e n i l q))
    (eq-or-lt_of_le (le_of_suc-le-suc h))

-- the unused bits of each entry are zero
pub entry-unused : (O : ℕ) (list : List ℕ) (n : ℕ) → unused_entries O list n ≡ true → (e : ℕ) → e < n → unused_zero O (entry O list e) ≡ true
unfolding unused_entries
entry-unused O list zero t e h = absurd (omega arith)
entry-unused O list (suc n) t e h =
    ⊎_elim
    (λ (z : e ≡ n). rw z (and-true-right (unused_entries O list n) _ t))
    (λ l. entry-unused O list n (and-true-left (unused_entries O list n) _ t) e l)
    (eq-or-lt_of_le (le_of_suc-le-suc h))

module _ (x : Fields) (list : List ℕ) (v : ℕ → Bool) where
  abbrev O : ℕ
  O = outputs_of x

  -- the output bits
  abbrev pub out_bits : List Bool
  out_bits = tabulate O (λ j. v (output_wire x j))

  -- bits that are the entry's
  agrees-bit : (e n : ℕ) → agrees x list v e n ≡ true → (j : ℕ) → j < n → bit_at (entry O list e) j ≡ v (output_wire x j)
  unfolding agrees same
  agrees-bit e zero t j h = absurd (omega arith)
  agrees-bit e (suc n) t j h =
      ⊎_elim
      (λ (z : j ≡ n). rw z (pick (bit_at (entry O list e) n) (v (output_wire x n)) (and-true-right (agrees x list v e n) (same x list v e n) t)))
      (λ l. agrees-bit e n (and-true-left (agrees x list v e n) (same x list v e n) t) j l)
      (eq-or-lt_of_le (le_of_suc-le-suc h))
    where
      pick : (a b : Bool) → cond a b (not b) ≡ true → a ≡ b
      pick true true e = refl
      pick true false e = sym e
      pick false true e = e
      pick false false e = refl

  bit-agrees : (e n : ℕ) → ((j : ℕ) → j < n → bit_at (entry O list e) j ≡ v (output_wire x j)) → agrees x list v e n ≡ true
  unfolding agrees same
  bit-agrees e zero h = refl
  bit-agrees e (suc n) h = rw (bit-agrees e n (λ j l. h j (omega arith)), h n (omega arith)) (pick (v (output_wire x n)))
    where
      pick : (b : Bool) → cond b b (not b) ≡ true
      pick true = refl
      pick false = refl

  -- what was found
  found_some : (n : ℕ) → found x list v n ≡ true → (e : ℕ) × ((e < n) × (agrees x list v e O ≡ true))
  unfolding found
  found_some zero t = absurd (let z : ◌≡◌ {A = ℕ} 0 1 = cc in omega arith)
  found_some (suc n) t =
      or-true (found x list v n) (agrees x list v n O) t
      (λ a. let r = found_some n a in (r.0, (omega (arith, r.1.0), r.1.1)))
      (λ b. (n, (omega arith, b)))

  some-found : (n e : ℕ) → e < n → agrees x list v e O ≡ true → found x list v n ≡ true
  unfolding found
  some-found zero e h t = absurd (omega arith)
  some-found (suc n) e h t =
      ⊎_elim
      (λ (z : e ≡ n). or_right (found x list v n) (agrees x list v n O) (rw (sym z) t))
      (λ l. or_left (found x list v n) (agrees x list v n O) (some-found n e l t))
      (eq-or-lt_of_le (le_of_suc-le-suc h))

  module _ (some : 1 ≤ O) (bytes : (i : ℕ) → get_or list i 0 < 256) (unused : unused_entries O list (entries O list) ≡ true) where
    -- an entry whose bits are those of the output is the output
    agrees-entry : (e : ℕ) → e < entries O list → agrees x list v e O ≡ true → entry O list e ≡ pack out_bits
    unfolding unpack
    agrees-entry e h t =
        sym (pack-unpack O (entry O list e) (row_lt list (oct O) e bytes) (row-length list (oct O) e (inside (length list) (oct O) e (omega arith) h))
        (entry-unused O list (entries O list) unused e h))
        ∙ ap pack (tabulate-cong O (bit_at (entry O list e)) (λ j. v (output_wire x j)) (agrees-bit e O t))

    entry-agrees : (e : ℕ) → entry O list e ≡ pack out_bits → agrees x list v e O ≡ true
    entry-agrees e q =
        bit-agrees e O (λ j l. ap (λ (s : List ℕ). bit_at s j) q ∙ bit_at-pack out_bits j ∙ get_d_tabulate O (λ j. v (output_wire x j)) j false l)

    -- an output that is entry e, and one before it, is one that was listed before
    pub apart : (e : ℕ) → e < entries O list → repeated O list e ≡ false → found x list v e ≡ true → agrees x list v e O ≡ true → ⊥
    apart e h r f a =
        let s = found_some e f in
        let q : entry O list s.0 ≡ entry O list e = agrees-entry s.0 (omega (arith, s.1.0)) s.1.1 ∙ sym (agrees-entry e h a) in
        let t : true ≡ false = sym (some-among O list e e s.0 s.1.0 q) ∙ r in
        absurd (let z : ◌≡◌ {A = ℕ} 0 1 = cc in omega arith)

    pub already : (e : ℕ) → e < entries O list → repeated O list e ≡ true → agrees x list v e O ≡ true → found x list v e ≡ true
    already e h r a =
        let s = among-some O list e e r in
        some-found e s.0 s.1.0 (entry-agrees s.0 (s.1.1 ∙ agrees-entry e h a))

    -- found among all entries exactly if listed
    pub found-listed : Exactly (found x list v (entries O list) ≡ true) (Listed O list (pack out_bits))
    found-listed = (
      (λ t. let s = found_some (entries O list) t in (s.0, (s.1.0, agrees-entry s.0 s.1.0 s.1.1))),
      (λ l. some-found (entries O list) l.0 l.1.0 (entry-agrees l.0 l.1.1)),
    )
