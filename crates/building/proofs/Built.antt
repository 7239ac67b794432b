-- Theorem, built: the file of small parts has them in their places and reads as they do; and what a builder leaves.
-- Assumes nothing.
use mathlib.Core.Path.{◌≡◌, sym, ap, ◌∙◌, fun_ext}
use mathlib.Core.Bool.{Bool, true, false, cond}
use mathlib.Core.List.{List, [], ◌∷◌}
use mathlib.Core.Logic.{⊎_elim}
use Prim.Native.Nat.{ℕ, ◌+◌, ◌-◌, ◌*◌, ◌/◌, ◌%◌, ◌≤◌, ◌<◌}
use native.Mathlib.Omega.{arith}
use borrow.Author.Tests.{eq-eqb, le-leb, lt-leb}
use lib.Dec.{eqb, ltb}
use lib.ListN.{length}
use Rattle.bits.proofs.Numbers.{lt-or-le}
use Rattle.refusal.specs.Outcome.{success, refuses, Outcome}
use Rattle.circuit.specs.Building.{front, builds}
use Rattle.circuit.specs.Fields.{field, field_count, within_limits, right_length, read_fields}
use Rattle.circuit.specs.File.{width, max_gates, read_circuit}
use Rattle.circuit.proofs.Alike.{beyond}
use Rattle.circuit.proofs.Readings.{read-rest}
use Rattle.building.specs.Files.{Four, Parts, among, laid, file_of, SmallFour, Small, BuiltTheorem}
use Rattle.building.proofs.Bytes.{bytes-length, bytes-field}
use Rattle.building.proofs.Places.{laid-count, laid-beyond}

-- each of four small fields is small
among-small : (q : Four) → SmallFour q → (r : ℕ) → among q r < 4294967296
unfolding among
among-small q s r = pick (eqb r 0) (eqb r 1) (eqb r 2)
  where
    pick : (a b c : Bool) → cond a q.first (cond b q.second (cond c q.third q.fourth)) < 4294967296
    pick true b c = s.first
    pick false true c = s.second
    pick false false true = s.third
    pick false false false = s.fourth

module _ (p : Parts) where
  pub file-length : length (file_of (laid p)) ≡ 16 + 4 * p.header.second + 16 * p.header.third
  unfolding file_of
  file-length = omega (arith, bytes-length (laid p) (field_count (laid p)), laid-count p)

  module _ (s : Small p) where
    pub laid-small : (k : ℕ) → laid p k < 4294967296
    unfolding laid
    laid-small k = pick (ltb k 4) (ltb k (4 + O)) (ltb k (4 + O + 4 * p.header.third))
      where
        O : ℕ
        O = p.header.second

        j : ℕ
        j = k - 4 - O

        pick : (a b c : Bool) → cond a (among p.header k) (cond b (p.output (k - 4)) (cond c (among (p.slot (1 + j / 4)) (j % 4)) 0)) < 4294967296
        pick true b c = among-small p.header s.header k
        pick false true c = s.output (k - 4)
        pick false false true = among-small (p.slot (1 + j / 4)) (s.slot (1 + j / 4)) (j % 4)
        pick false false false = omega arith

    pub file-fields : field width (file_of (laid p)) ≡ laid p
    unfolding file_of field
    file-fields =
        fun_ext (λ k.
        ⊎_elim
        (λ l. bytes-field (laid p) (field_count (laid p)) k l (laid-small k))
        (λ l.
        beyond width (file_of (laid p)) (width * k) (omega (arith, file-length, laid-count p))
        ∙ sym (laid-beyond p k (omega (arith, laid-count p))))
        (lt-or-le k (field_count (laid p))))

    pub file-right : right_length width (file_of (laid p)) ≡ true
    unfolding right_length
    file-right =
        let c : field_count (field width (file_of (laid p))) ≡ field_count (laid p) = ap field_count file-fields in
        eq-eqb (length (file_of (laid p))) (width * field_count (field width (file_of (laid p)))) (omega (arith, file-length, c, laid-count p))

    pub file-reads : within_limits max_gates (laid p) ≡ true → read_circuit (file_of (laid p)) ≡ read_fields (laid p)
    file-reads h =
        read-rest width max_gates (file_of (laid p)) (omega (arith, file-length)) (ap (within_limits max_gates) file-fields ∙ h) file-right
        ∙ ap read_fields file-fields

-- Theorem, built
pub built-theorem : BuiltTheorem
built-theorem = record { size = file-length; same = file-fields; reads = file-reads }

-- a builder's ending: the file is written where the output is long enough, else 6
pub built : (file out : List ℕ) → length file ≤ length out
    → ◌≡◌ {A = Outcome} (builds file out) (record { answer = success (length file ∷ []); left = front file out ∷ [] })
unfolding builds
built file out h = rw (le-leb (length file) (length out) h)

pub not-built : (file out : List ℕ) → length out < length file → builds file out ≡ refuses 6 (out ∷ [])
unfolding builds
not-built file out h = rw (lt-leb (length file) (length out) h)
