-- Theorem, converted-same: the new file has the old one's fields and reads as the same circuit; a damaged file is refused as the old
-- reading refuses it.
-- Assumes nothing.
use mathlib.Core.Path.{◌≡◌, refl, sym, ap, ap₂, ◌∙◌}
use mathlib.Core.Bool.{not, true}
use mathlib.Core.List.{List, ◌∷◌, []}
use mathlib.Core.Logic.{◌≢◌}
use Prim.Native.Nat.{ℕ, ◌*◌, ◌/◌, ◌≤◌, ◌<◌}
use native.Mathlib.Omega.{arith}
use borrow.Author.Tests.{eq-eqb, eqb-true, not-false}
use lib.Dec.{ltb}
use lib.ListN.{length, get_or}
use lib.Seq.{sets}
use Rattle.bits.proofs.Little.{le_at-lt}
use Rattle.refusal.specs.Outcome.{refusal_at, success, refuses, Outcome}
use Rattle.circuit.specs.Building.{front, builds}
use Rattle.circuit.specs.Circuit.{Circuit}
use Rattle.circuit.specs.Fields.{field, field_count, within_limits, right_length, Reading, refused, legal, read_with}
use Rattle.circuit.specs.File.{width, max_gates, read_circuit}
use Rattle.circuit.specs.Meaning.{SameFields}
use Rattle.circuit.specs.Operations.{read_answer}
use Rattle.circuit.specs.Answers.{read_paper}
use Rattle.circuit.specs.declared.Fault.{Fault}
use Rattle.circuit.specs.declared.Sizes.{Sizes}
use Rattle.refusal.specs.Refusal.{number_of}
use Rattle.std.specs.Prelude.{Result, Ok, Err}
use Rattle.circuit.proofs.Alike.{fields-theorem}
use Rattle.building.specs.Files.{bytes_of, file_of}
use Rattle.building.proofs.Bytes.{bytes-length, bytes-field, at_front}
use Rattle.building.proofs.Built.{built, not-built}
use Rattle.circuit.proofs.Answered.{not-refused}
use Rattle.upgrade.specs.Upgrade.{old_width, old_gates, old_fields, read_old, upgraded, upgrade_op}
use Rattle.upgrade.specs.Answers.{outcome}
use Rattle.upgrade.specs.Theorem.{ConvertedSame}

-- a legal file has the right length
legal-right : (s : List ℕ) (c : Circuit) → read_old s ≡ legal c → right_length old_width s ≡ true
unfolding read_with
legal-right s c e =
    let a = not-refused (ltb (length s) (old_width * 4)) _ _ c e in
    let b = not-refused (not (within_limits old_gates (old_fields s))) _ _ c a.1 in
    let d = not-refused (not (right_length old_width s)) _ _ c b.1 in
    not-false _ d.0

-- so that its bytes are those of its fields
right-count : (s : List ℕ) → right_length old_width s ≡ true → length s ≡ old_width * field_count (old_fields s)
unfolding right_length
right-count s e = eqb-true (length s) (old_width * field_count (old_fields s)) e

new-length : (s : List ℕ) → length (upgraded s) ≡ width * field_count (old_fields s)
unfolding upgraded file_of
new-length s = bytes-length (old_fields s) (field_count (old_fields s))

module _ (s : List ℕ) (byte : (i : ℕ) → get_or s i 0 < 256) where
  small : (k : ℕ) → old_fields s k < 4294967296
  unfolding field
  small k = omega (arith, le_at-lt old_width s (old_width * k) byte)

  new-field : (k : ℕ) → k < field_count (old_fields s) → field width (upgraded s) k ≡ old_fields s k
  unfolding upgraded file_of
  new-field k h = bytes-field (old_fields s) (field_count (old_fields s)) k h (small k)

  new-right : right_length width (upgraded s) ≡ true
  unfolding right_length
  new-right =
      let o = new-field 1 (omega arith) in
      let g = new-field 2 (omega arith) in
      eq-eqb (length (upgraded s)) (width * field_count (field width (upgraded s))) (omega (arith, new-length s, o, g))

  module _ (c : Circuit) (e : read_old s ≡ legal c) where
    same-fields : SameFields old_width width s (upgraded s)
    same-fields = record { right = legal-right s c e; right_too = new-right; same = λ k h. sym (new-field k h) }

    not-two : read_old s ≢ refused 2 0
    not-two q = let z : ◌≡◌ {A = ℕ} 0 1 = cc in omega arith

    same-circuit : read_circuit (upgraded s) ≡ legal c
    same-circuit = fields-theorem.alike old_width width old_gates max_gates s (upgraded s) same-fields (omega arith) not-two ∙ e

-- where the old reading succeeds, the new file is built; else its refusal is the answer
upgrade-legal : (s out : List ℕ) (c : Circuit) → read_old s ≡ legal c → upgrade_op s out ≡ builds (upgraded s) out
unfolding upgrade_op
upgrade-legal s out c e = rw e

upgrade-damaged : (s out : List ℕ) (k x : ℕ) → read_old s ≡ refused k x
    → ◌≡◌ {A = Outcome} (upgrade_op s out) (record { answer = refusal_at k x; left = out ∷ [] })
unfolding upgrade_op
upgrade-damaged s out k x e = rw e

-- what the code leaves, where n fields make the old file: the output is too short, or the new file stands at its front
module _ (s out : List ℕ) (right : right_length old_width s ≡ true) (n : ℕ) (count : n ≡ length s / old_width) where
  count-fields : n ≡ field_count (old_fields s)
  count-fields = omega (arith, right-count s right)

  pub short-output : length out < width * n → refuses 6 (out ∷ []) ≡ builds (upgraded s) out
  short-output h = sym (not-built (upgraded s) out (omega (arith, new-length s, count-fields)))

  pub long-output : width * n ≤ length out → (new : List ℕ) → new ≡ sets out 0 (bytes_of (old_fields s) n)
      → ◌≡◌ {A = Outcome} (record { answer = success (width * n ∷ []); left = new ∷ [] }) (builds (upgraded s) out)
  unfolding upgraded file_of
  long-output h new e =
      let l : width * n ≡ length (upgraded s) = omega (arith, new-length s, count-fields) in
      let f : new ≡ front (upgraded s) out =
      e ∙ ap (λ (k : ℕ). sets out 0 (bytes_of (old_fields s) k)) count-fields ∙ at_front (upgraded s) out (omega arith) in
      ap₂ (λ (k : ℕ) (x : List ℕ). record { answer = success (k ∷ []); left = x ∷ [] }) l f ∙ sym (built (upgraded s) out (omega arith))

-- Theorem, converted-same
pub converted-same : ConvertedSame
converted-same =
    record {
      fields = λ s c b e. same-fields s b c e;
      same = λ s c b e. same-circuit s b c e;
      written = λ s out c e h. upgrade-legal s out c e ∙ built (upgraded s) out h;
      damaged = upgrade-damaged;
    }

-- what an answer of the old reading says of the file
module _ (s out : List ℕ) where
  told-legal : (l : List ℕ) (r : Reading) → read_old s ≡ r → success l ≡ read_answer r → (right_length old_width s ≡ true) × (upgrade_op s out ≡ builds (upgraded s) out)
  unfolding read_answer
  told-legal l (refused k x) p q = absurd (let z : ◌≡◌ {A = ℕ} 0 1 = cc in omega arith)
  told-legal l (legal c) p q = (legal-right s c p, upgrade-legal s out c p)

  told-damaged : (k x : ℕ) (r : Reading) → read_old s ≡ r → refusal_at k x ≡ read_answer r → read_old s ≡ refused k x
  unfolding read_answer
  told-damaged k x (refused j y) p q = cc
  told-damaged k x (legal c) p q = absurd (let z : ◌≡◌ {A = ℕ} 0 1 = cc in omega arith)

  module _ (r : Result Sizes Fault) (e : read_paper r ≡ read_answer (read_old s)) where
    pub answered-legal : (z : Sizes) → r ≡ Ok z → (right_length old_width s ≡ true) × (upgrade_op s out ≡ builds (upgraded s) out)
    answered-legal z p = told-legal _ (read_old s) refl (sym (ap read_paper p) ∙ e)

    pub answered-damaged : (f : Fault) → r ≡ Err f → outcome (Err f) out ≡ upgrade_op s out
    answered-damaged f p =
        sym (upgrade-damaged s out (number_of f.refusal) f.slot (told-damaged (number_of f.refusal) f.slot (read_old s) refl (sym (ap read_paper p) ∙ e)))
