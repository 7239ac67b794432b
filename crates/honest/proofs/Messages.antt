-- The messages of the hidden party are those sent.
-- Assumes nothing.
use mathlib.Core.Path.{◌≡◌, refl, sym, ap, subst, subst₂, ◌∙◌}
use mathlib.Core.Bool.{true}
use mathlib.Core.List.{List}
use mathlib.Core.Logic.{⊎_elim}
use Prim.Native.Nat.{ℕ, ◌+◌, ◌*◌, ◌<◌, ◌≤◌}
use native.Mathlib.Omega.{arith}
use lib.ListN.{length, take, drop, length-take, length-drop, get_or-eq_default}
use lib.Seq.{get_or-take, get_or-drop}
use Rattle.hashing.specs.Inputs.{context_of}
use Rattle.hashing.specs.declared.Context.{Context}
use Rattle.bits.specs.Bits.{oct, pack, unused_zero}
use Rattle.bits.proofs.Numbers.{lt-or-le}
use Rattle.bits.proofs.Packing.{length-pack}
use Rattle.bits.proofs.Rows.{row-tabulate}
use Rattle.parties.specs.Parties.{height_of}
use Rattle.circuit.specs.Circuit.{Circuit}
use Rattle.plain.specs.Tapes.{ands_of}
use Rattle.plain.specs.Showing.{run_with, row_bits, rows_of, replay_of}
use Rattle.plain.proofs.Lengths.{length-row}
use Rattle.hiding.proofs.Kept.{replay-keeps-row}
use Rattle.instance.specs.Instance.{Asked, opened, hiding}
use Rattle.instance.specs.Stretch.{correction_bytes, stretch_bytes, row_part}
use Rattle.proof.specs.File.{stretch_start, proof_bytes, stretch_at}
use Rattle.honest.specs.Response.{Chosen, chosen, decode_header, bound_in, challenge_in, decode, implied_length, UnusedZero}
use Rattle.honest.specs.Verification.{simulation, msgs}
use Rattle.honest.specs.Theorems.{AllBytes, MessagesAsSent}
use Rattle.honest.proofs.Asking.{Below}
use Rattle.proof.proofs.Inside.{length-stretchAt}
use Rattle.honest.proofs.Decoded.{parts_of, decoded-parts}
use Rattle.honest.proofs.Published.{check-is-published, same-circuit, chosen-party, chosen-sent, all-below, implied-is}

-- parts of bytes are bytes
bytes_take : (k : ℕ) (s : List ℕ) → AllBytes s → AllBytes (take k s)
bytes_take k s b i =
    ⊎_elim (λ l. rw (get_or-take k s i 0 l) (b i))
    (λ (l : k ≤ i). rw (get_or-eq_default (take k s) 0 {n = i} (omega (arith, length-take k s))) (omega arith)) (lt-or-le i k)

bytes_drop : (k : ℕ) (s : List ℕ) → AllBytes s → AllBytes (drop k s)
bytes_drop k s b i = rw (get_or-drop k s i 0) (b (k + i))

bytes-stretch : (c : Circuit) (M n : ℕ) (ask : ℕ → Asked) (proof : List ℕ) → AllBytes proof → (j : ℕ) → AllBytes (stretch_at c M n ask proof j)
unfolding stretch_at
bytes-stretch c M n ask proof b j =
    let start : ℕ = stretch_start c M n ask j in
    bytes_take (stretch_bytes c n (ask j)) (drop start proof) (bytes_drop start proof b)

-- a row of A + O bits, unused bits zero, is the one that p sends in the simulation
msgs-kept : (c : Circuit) (n : ℕ) (j : Context) (p : ℕ) (x : Chosen) → p < n → length x.msgs_p ≡ oct (ands_of c + length c.outputs) → AllBytes x.msgs_p
    → unused_zero (ands_of c + length c.outputs) x.msgs_p ≡ true → msgs c n j p x p ≡ x.msgs_p
unfolding msgs simulation rows_of replay_of run_with
msgs-kept c n j p x l size small unused =
    sym
    (row-tabulate (oct (ands_of c + length c.outputs)) n (λ i. pack (row_bits (simulation c n j p x) i))
    (λ i h. length-pack (row_bits (simulation c n j p x) i) ∙ ap oct (length-row n c.outputs c.gates _ _ _ _ _ i)) p l)
    ∙ replay-keeps-row c n p l _ (record { size = size; small = small }) unused

-- what is known of a row that is sent
record Row (c : Circuit) (n p : ℕ) (x : Chosen) : Type 0 where
  party : p < n
  size : length x.msgs_p ≡ oct (ands_of c + length c.outputs)
  bytes : AllBytes x.msgs_p

-- an instance of n parties, and its stretch s
module _ (c : Circuit) (n : ℕ) (s : List ℕ) (b : AllBytes s) where
  -- where p's row starts
  abbrev before : ℕ → ℕ
  before p = 16 * height_of n + correction_bytes c n p + 32 + oct c.inputs

  row-size : (p : ℕ) → length s ≡ stretch_bytes c n (hiding p) → length (row_part c n p s) ≡ oct (ands_of c + length c.outputs)
  unfolding row_part stretch_bytes
  row-size p l = length-drop (before p) s ∙ omega arith

  row-bytes : (p : ℕ) → AllBytes (row_part c n p s)
  unfolding row_part
  row-bytes p = bytes_drop (before p) s b

  -- the row that is sent of it
  row-sent : (a : Asked) → length s ≡ stretch_bytes c n a → Below n a → (p : ℕ) (x : Chosen) → parts_of c n a s ≡ chosen p x → Row c n p x
  row-sent opened l w p x e = let z : ◌≡◌ {A = ℕ} 0 1 = cc in absurd (omega arith)
  row-sent (hiding q) l w p x e =
      subst₂ (Row c n) (chosen-party q p _ x e) (chosen-sent q p _ x e) (record { party = w q refl; size = row-size q l; bytes = row-bytes q })

-- in every accepted file
pub messages-as-sent : MessagesAsSent
unfolding decode
messages-as-sent s y message proof work c b r e j p x l f =
    let h = check-is-published.sound s y message proof work e in
    let q : h.circuit ≡ c = same-circuit s h.circuit c h.read r in
    let n : ℕ = (decode_header proof).n in
    let M : ℕ = (decode_header proof).M in
    let ask : ℕ → Asked = challenge_in (bound_in s y message proof) proof in
    let size : length proof ≡ proof_bytes c M n ask =
    h.size ∙ (ap (λ (z : Circuit). implied_length z (bound_in s y message proof) proof) q ∙ implied-is c (bound_in s y message proof) proof) in
    let t : Row c n p x =
    row-sent c n (stretch_at c M n ask proof j) (bytes-stretch c M n ask proof b j) (ask j) (length-stretchAt c n M ask proof size j l)
    (all-below (bound_in s y message proof) proof h.header j) p x (sym (decoded-parts c n ask M proof j) ∙ f) in
    let u : UnusedZero h.circuit x = h.unused j p x l (ap (λ (z : Circuit). (decode z (bound_in s y message proof) proof).sent j) q ∙ f) in
    let v : UnusedZero c x = subst (λ (z : Circuit). UnusedZero z x) q u in
    msgs-kept c n (context_of (decode_header proof).salt j) p x t.party t.size t.bytes v.msgs
