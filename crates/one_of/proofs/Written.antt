-- Writing the new file: its header and its one output, one slot more, and the whole; and what building answers.
-- Assumes nothing.
use mathlib.Core.Path.{◌≡◌, sym, ap, ◌∙◌}
use mathlib.Core.List.{List}
use Prim.Native.Nat.{ℕ, ◌+◌, ◌-◌, ◌*◌, ◌≤◌, ◌<◌}
use native.Mathlib.Omega.{arith}
use lib.ListN.{length}
use lib.Seq.{sets, length-sets}
use Rattle.bits.specs.Bytes.{le_bytes}
use Rattle.circuit.specs.Fields.{Fields, outputs_of, head_of, field_count, record_at}
use Rattle.circuit.specs.File.{width, fields_of}
use Rattle.circuit.specs.declared.Sizes.{Sizes}
use Rattle.building.specs.Files.{Four, bytes_of, file_of}
use Rattle.building.specs.Steps.{four_bytes}
use Rattle.building.proofs.Bytes.{bytes-none, bytes-more, bytes-four}
use Rattle.one_of.specs.OneOf.{entries, sum_wire, relinked, total, slot_of, one_of_file}
use Rattle.one_of.specs.Steps.{as_four, Room}
use Rattle.one_of.specs.declared.Record.{Record}
use Rattle.one_of.proofs.Coded.{all_same}
use Rattle.one_of.proofs.Slots.{new, new-inputs, new-outputs, new-gates, new-head, new-output, new-kind, new-a, new-b, new-next}

-- the first k slots are written, where header and output were before
abbrev pub Slots : List ℕ → List ℕ → List ℕ → List ℕ → ℕ → Type 0
Slots s list out₀ out k =
    (length out ≡ length out₀) × ((first : List ℕ) → out₀ ≡ sets first 0 (bytes_of (new (fields_of s) list) 5) → out ≡ sets first 0 (bytes_of (new (fields_of s) list) (5 + 4 * k)))

module _ (s list : List ℕ) (z : Sizes) (all : ℕ) (out : List ℕ) (r : Room s list z all out) where
  abbrev x : Fields
  x = fields_of s

  same : all ≡ total x list
  same = all_same s list z all r.given r.all

  -- the header and the one output
  pub header-written : (one two : List ℕ) (head w : ℕ) → w ≡ z.inputs + all - 1 → head ≡ relinked x (head_of x) → one ≡ sets out (width * 0) (four_bytes z.inputs 1 all head)
      → two ≡ sets one (width * 4) (le_bytes width w) → two ≡ sets out 0 (bytes_of (new x list) 5)
  header-written one two head w v h p q =
      let a = bytes-four (new x list) out out one 0 z.inputs 1 all head (bytes-none (new x list) out) (r.given.laid.inputs ∙ sym (new-inputs x list)) (sym (new-outputs x list))
      (same ∙ sym (new-gates x list)) (h ∙ sym (new-head x list)) p in
      let e : w ≡ sum_wire x (entries (outputs_of x) list) = omega (arith, r.given.laid.inputs, same) in
      bytes-more (new x list) out one two 4 w a (e ∙ sym (new-output x list)) q

  -- one slot more
  pub slot-written : (k : ℕ) (q : Record) (mid end first : List ℕ) → k < all → as_four q ≡ slot_of x list (k + 1)
      → end ≡ sets mid (width * (5 + 4 * k)) (four_bytes q.kind q.a q.b q.next) → mid ≡ sets first 0 (bytes_of (new x list) (5 + 4 * k))
      → end ≡ sets first 0 (bytes_of (new x list) (5 + 4 * (k + 1)))
  slot-written k q mid end first h e p m =
      let b : k + 1 ≤ total x list = omega (arith, same) in
      let at : record_at (new x list) (k + 1) ≡ 5 + 4 * k = omega (arith, new-outputs x list) in
      let f : (i : ℕ) → new x list (record_at (new x list) (k + 1) + i) ≡ new x list (5 + 4 * k + i) = λ i. ap (λ (n : ℕ). new x list (n + i)) at in
      bytes-four (new x list) first mid end (5 + 4 * k) q.kind q.a q.b q.next m
      (ap (λ (t : Four). t.first) e ∙ sym (new-kind x list (k + 1) (omega arith) b) ∙ ap (new x list) at)
      (ap (λ (t : Four). t.second) e ∙ sym (new-a x list (k + 1) (omega arith) b) ∙ f 1)
      (ap (λ (t : Four). t.third) e ∙ sym (new-b x list (k + 1) (omega arith) b) ∙ f 2)
      (ap (λ (t : Four). t.fourth) e ∙ sym (new-next x list (k + 1) (omega arith) b) ∙ f 3)
      p
      ∙ ap (λ (n : ℕ). sets first 0 (bytes_of (new x list) n)) (omega arith)

  -- the whole file
  pub all-written : (k : ℕ) (end : List ℕ) → k ≡ all → end ≡ sets out 0 (bytes_of (new x list) (5 + 4 * k)) → end ≡ sets out 0 (one_of_file s list)
  unfolding one_of_file file_of
  all-written k end e p =
      let n : 5 + 4 * k ≡ field_count (new x list) = omega (arith, same, new-outputs x list, new-gates x list) in
      p ∙ ap (λ (n : ℕ). sets out 0 (bytes_of (new x list) n)) n

  pub slots-more : (k : ℕ) (q : Record) (out₀ mid end : List ℕ) → k < all → as_four q ≡ slot_of x list (k + 1)
      → end ≡ sets mid (width * (5 + 4 * k)) (four_bytes q.kind q.a q.b q.next) → Slots s list out₀ mid k → Slots s list out₀ end (k + 1)
  slots-more k q out₀ mid end h e p i = (
    ap length p ∙ length-sets mid (width * (5 + 4 * k)) (four_bytes q.kind q.a q.b q.next) ∙ i.0,
    λ first f. slot-written k q mid end first h e p (i.1 first f),
  )
