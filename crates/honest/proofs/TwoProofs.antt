-- Two proofs from one root: what each shows of an instance is a showing of its run on the tapes of that instance's master, which both have.
-- Assumes nothing.
use mathlib.Core.Path.{◌≡◌, refl, sym, ap, subst, subst₂, ◌∙◌}
use mathlib.Core.Bool.{true}
use mathlib.Core.List.{List}
use Prim.Native.Nat.{ℕ, ◌*◌, ◌<◌}
use native.Mathlib.Omega.{arith}
use borrow.Author.Tests.{eqb-true}
use lib.ListN.{length, take, drop}
use lib.Seq.{take_at}
use Rattle.hashing.specs.declared.Context.{Context}
use Rattle.hashing.specs.Inputs.{context_of}
use Rattle.bits.specs.Bits.{oct}
use Rattle.parties.specs.Parties.{height_of, is_party_count}
use Rattle.parties.proofs.Counts.{sizes}
use Rattle.circuit.specs.Circuit.{Circuit}
use Rattle.circuit.specs.File.{read_circuit, legal}
use Rattle.plain.specs.Tapes.{row_bytes}
use Rattle.plain.specs.Showing.{showing}
use Rattle.hiding.specs.Hiding.{Witness}
use Rattle.openings.specs.Showings.{BothRead}
use Rattle.openings.proofs.Showings.{two-showings}
use Rattle.seeds.specs.Operations.{are_counts}
use Rattle.seeds.proofs.Instances.{counts-fit}
use Rattle.cover.specs.Masters.{height, master_of}
use Rattle.cover.proofs.Masters.{length-master}
use Rattle.instance.specs.Instance.{Asked, opened, hiding, master_seeds, master_tapes, stretch_of}
use Rattle.proof.specs.Protocol.{first_message, statement_of, challenged}
use Rattle.proof.specs.File.{header_bytes}
use Rattle.proof.specs.Prove.{proof_of}
use Rattle.proof.proofs.Passing.{has-height}
use Rattle.proof.proofs.Parts.{length-stretch}
use Rattle.proof.proofs.Written.{stretch-there}
use Rattle.honest.specs.Response.{Chosen, Sent, chosen, Header, decode_header, decode_sent, bytes_from, nodes_bytes, decode}
use Rattle.honest.specs.Verification.{shown}
use Rattle.honest.specs.Theorems.{AllBytes, Proves}
use Rattle.honest.specs.TwoProofs.{sent_of, TwoProofs}
use Rattle.honest.proofs.Asking.{Below, challenged-below}
use Rattle.honest.proofs.Decoded.{parts_of, decoded-parts}
use Rattle.honest.proofs.Derived.{length-tapes}
use Rattle.honest.proofs.Opened.{showing-back}
use Rattle.honest.proofs.Proved.{Proved, proved}
use Rattle.honest.proofs.Published.{chosen-party, chosen-sent, same-circuit}
use Rattle.honest.proofs.Seeds.{asks_with, header-there}
use Rattle.honest.proofs.Verifies.{shown-is}

-- a master's tapes are n rows
length-master-tapes : (c : Circuit) (n : ℕ) (j : Context) (master : List ℕ) → length (master_tapes c n j master) ≡ n * row_bytes c
unfolding master_tapes
length-master-tapes c n j master = length-tapes c n j (master_seeds n j master)

-- what is shown of a chosen instance: the showing of the run on its master's tapes
record Whole (c : Circuit) (n : ℕ) (j : Context) (w master : List ℕ) (p : ℕ) (x : Chosen) : Type 0 where
  party : p < n
  whole : shown c n j p x ≡ showing c n p (length c.gates) w (master_tapes c n j master)

-- instance j of n parties, by its stretch
module _ (c : Circuit) (n : ℕ) (j : Context) (count : height_of n ≡ 0 → ⊥) (w master : List ℕ) (size : length master ≡ 16) where
  part-shown : (a : Asked) → Below n a → (p : ℕ) (x : Chosen) → parts_of c n a (stretch_of c n j w master a) ≡ chosen p x → Whole c n j w master p x
  part-shown opened b p x e = let z : ◌≡◌ {A = ℕ} 0 1 = cc in absurd (omega arith)
  part-shown (hiding q) b p x e =
      subst₂ (Whole c n j w master) (chosen-party q p _ x e) (chosen-sent q p _ x e)
      (record {
        party = b q refl;
        whole = shown-is c n j q count (b q refl) (stretch_of c n j w master (hiding q)) (length-stretch c n j w master (hiding q))
            ∙ showing-back c n j q count (b q refl) w master size;
      })

-- what a file with the header g sends of instance j
abbrev sent_with : Circuit → List ℕ → List ℕ → List ℕ → List ℕ → ℕ → Header → Sent
sent_with c s y message file j g =
    (decode_sent c g.n (asks_with s y message g j)
    (bytes_from c g.n (asks_with s y message g) (drop (nodes_bytes g.M (asks_with s y message g)) (drop header_bytes file)) j)).0

sent-with : (c : Circuit) (s y message file : List ℕ) (j : ℕ) → sent_of c s y message file j ≡ sent_with c s y message file j (decode_header file)
unfolding decode
sent-with c s y message file j = refl

-- an honest proof, with counts in their limits
module _ (c : Circuit) (s w y message root salt : List ℕ) (M tau n : ℕ) (salt_size : length salt ≡ 32) (root-size : length root ≡ 16)
    (counts : are_counts M tau ≡ true) (parties : is_party_count n ≡ true) where
  abbrev bound : List ℕ
  bound = statement_of salt M tau n s y message

  abbrev file : List ℕ
  file = proof_of c M tau n salt w bound root

  abbrev ask : ℕ → Asked
  ask = challenged M tau n (first_message c M n salt w (master_of M salt root)) bound

  -- what is sent of instance j is the parts of its stretch
  sent-parts : (j : ℕ) → j < M
      → sent_of c s y message file j ≡ parts_of c n (ask j) (stretch_of c n (context_of salt j) w (master_of M salt root j) (ask j))
  sent-parts j h =
      sent-with c s y message file j
      ∙ (ap (sent_with c s y message file j) (header-there c M tau n salt w bound root salt_size root-size counts parties)
      ∙ (decoded-parts c n ask M file j ∙ ap (parts_of c n (ask j)) (stretch-there c M tau n salt w bound root salt_size root-size j h)))

  -- so what is shown of it is the showing of its run
  sent-shown : (j p : ℕ) (x : Chosen) → j < M → sent_of c s y message file j ≡ chosen p x → Whole c n (context_of salt j) w (master_of M salt root j) p x
  sent-shown j p x h e =
      let some = has-height n parties in
      let fit = counts-fit M tau counts in
      part-shown c n (context_of salt j) some w (master_of M salt root j) (length-master M salt root j root-size) (ask j)
      (challenged-below M tau n _ bound (omega (arith, fit.below)) (omega (arith, (sizes n some).some)) j) p x (sym (sent-parts j h) ∙ e)

-- in the bytes that prove writes
module _ (s w y message root salt buffer work left : List ℕ) (M tau n k : ℕ) (c : Circuit) (r : read_circuit s ≡ legal c) (small : AllBytes w)
    (e : Proves s w y message root salt M tau n buffer work k left) where
  -- what prove has tested
  tested : Proved s w y message root salt buffer left M tau n k
  tested = proved s w y message root salt buffer left M tau n k work e

  abbrev own : Circuit
  own = tested.circuit

  same : own ≡ c
  same = same-circuit s own c tested.read r

  -- its witness is one
  is-witness : Witness c w
  is-witness =
      subst (λ (z : Circuit). Witness z w) same
      (record { bytes = record { size = eqb-true (length w) (oct own.inputs) tested.inputs; small = small }; unused = tested.unused-inputs })

  root-size : length root ≡ 16
  root-size = eqb-true (length root) 16 tested.root-size

  -- what it shows of an instance
  written-shown : (j p : ℕ) (x : Chosen) → j < M → sent_of c s y message (take k left) j ≡ chosen p x → Whole c n (context_of salt j) w (master_of M salt root j) p x
  written-shown =
      let bytes : List ℕ = proof_of own M tau n salt w (statement_of salt M tau n s y message) root in
      let written : take k left ≡ bytes = ap (take k) (sym tested.content) ∙ take_at bytes (drop k buffer) k tested.size in
      subst (λ (z : Circuit). (j p : ℕ) (x : Chosen) → j < M → sent_of z s y message (take k left) j ≡ chosen p x → Whole z n (context_of salt j) w (master_of M salt root j) p x) same
      (λ j p x h f.
      sent-shown own s w y message root salt M tau n (eqb-true (length salt) 32 tested.salt_size) root-size tested.counts tested.parties j p x h
      (ap (λ (z : List ℕ). sent_of own s y message z j) (sym written) ∙ f))

-- a master follows from the root and the height of the tree
master-same : (M M' : ℕ) (salt root : List ℕ) (j : ℕ) → height M ≡ height M' → master_of M salt root j ≡ master_of M' salt root j
unfolding master_of
master-same M M' salt root j e = rw e

-- both witnesses are read
pub two-proofs : TwoProofs
two-proofs s root salt c M M' n r same w y message buffer work left tau k small e w' y' message' buffer' work' left' tau' k' small' e' j p q x x' h h' d f f' =
    let a = written-shown s w y message root salt buffer work left M tau n k c r small e j p x h f in
    let b = written-shown s w' y' message' root salt buffer' work' left' M' tau' n k' c r small' e' j q x' h' f' in
    let m : List ℕ = master_of M salt root j in
    let g : ℕ = length c.gates in
    let other : shown c n (context_of salt j) q x' ≡ showing c n q g w' (master_tapes c n (context_of salt j) m) =
    b.whole ∙ ap (λ (z : List ℕ). showing c n q g w' (master_tapes c n (context_of salt j) z)) (sym (master-same M M' salt root j same)) in
    subst₂ (BothRead c n p w w') (sym a.whole) (sym other)
    (two-showings c n p q g g a.party b.party d (master_tapes c n (context_of salt j) m) w w' (length-master-tapes c n (context_of salt j) m)
    (is-witness s w y message root salt buffer work left M tau n k c r small e)
    (is-witness s w' y' message' root salt buffer' work' left' M' tau' n k' c r small' e'))
