-- Theorem, every honest proof passes.
-- Assumes nothing.
use mathlib.Core.Path.{◌≡◌, refl, sym, ap, ◌∙◌, subst}
use mathlib.Core.Bool.{true, ◌&&◌}
use mathlib.Core.List.{List, []}
use Prim.Native.Nat.{ℕ, ◌<◌}
use native.Mathlib.Omega.{arith}
use borrow.Author.Tests.{eqb-true}
use lib.Dec.{leb}
use lib.ListN.{length, take, drop, replicate}
use lib.Seq.{take_at}
use Rattle.hashing.specs.Inputs.{context_of}
use Rattle.bits.specs.Bits.{oct, pack, bit_at, unused_zero}
use Rattle.bits.proofs.Equal.{same-eq}
use Rattle.bits.proofs.Tabulate.{tabulate-cong}
use Rattle.refusal.specs.Outcome.{Outcome, done}
use Rattle.parties.specs.Parties.{height_of, is_party_count}
use Rattle.parties.proofs.Counts.{sizes}
use Rattle.circuit.specs.Circuit.{Circuit, evaluate}
use Rattle.circuit.specs.Operations.{holds, leaving}
use Rattle.hiding.specs.Hiding.{Witness}
use Rattle.seeds.specs.Operations.{are_counts}
use Rattle.seeds.proofs.Instances.{Fit, counts-fit}
use Rattle.cover.specs.Masters.{master_of}
use Rattle.cover.proofs.Masters.{length-master}
use Rattle.instance.specs.Instance.{Asked, master_commitments, master_online, stretch_of}
use Rattle.proof.specs.Protocol.{hstar_of, first_message, statement_of, challenged}
use Rattle.proof.specs.File.{header_m, header_tau, header_n, header_hstar, good_header, master_at, stretch_at, header_salt}
use Rattle.proof.specs.Prove.{proof_of, witnesses}
use Rattle.instance.specs.Opened.{opened_run}
use Rattle.proof.specs.Check.{check_proof, check_legal, check_op}
use Rattle.mpc.proofs.Succeeding.{work-enough}
use Rattle.honest.specs.Theorems.{Complete}
use Rattle.proof.proofs.Passing.{and-true}
use Rattle.honest.proofs.Opened.{opened-output}
use Rattle.honest.proofs.Asking.{Below, challenged-below}
use Rattle.honest.proofs.Seeds.{master-follows}
use Rattle.honest.proofs.Stretches.{commitments-given, online-given, unused-given}
use Rattle.proof.proofs.Written.{length-proof, stretch-there, hstar-there, salt-there, M-there, tau-there, n-there, good-there}
use Rattle.proof.proofs.Passing.{has-height}
use Rattle.honest.proofs.Proved.{proved}
use Rattle.honest.proofs.Published.{same-circuit}
use Rattle.honest.proofs.Tests.{master_with, ProofTests, proof-accepted}

-- equal digests of all instances give one h*
hstar-cong : (M : ℕ) (f f' g g' : ℕ → List ℕ) → ((j : ℕ) → j < M → f j ≡ f' j) → ((j : ℕ) → j < M → g j ≡ g' j)
    → hstar_of M f g ≡ hstar_of M f' g'
unfolding hstar_of
hstar-cong M f f' g g' p q = rw (tabulate-cong M f f' p, tabulate-cong M g g' q)

-- check accepts a proof with a good header, where it accepts with the header's numbers
legal-accepts : (c : Circuit) (s y message proof : List ℕ) (M tau n : ℕ) (h z : List ℕ)
    → header_m proof ≡ M → header_tau proof ≡ tau → header_n proof ≡ n → header_hstar proof ≡ h → header_salt proof ≡ z
    → holds (length c.outputs) y && leb (length message) 4096 ≡ true → unused_zero (length c.outputs) y ≡ true → good_header proof ≡ true
    → check_proof c y proof M n (challenged M tau n h (statement_of z M tau n s y message)) ≡ done [] → check_legal s y message proof c ≡ done []
unfolding check_legal
legal-accepts c s y message proof M tau n h z eM et en eh ez a b d e = rw (a, b, d, eM, et, en, eh, ez) e

-- an honest proof, from a witness of y and with counts in their limits
module _ (c : Circuit) (M tau n : ℕ) (salt witness bound root : List ℕ) (salt_size : length salt ≡ 32) (root-size : length root ≡ 16) (y : List ℕ) (hw : Witness c witness)
    (hy : pack (evaluate c (bit_at witness)) ≡ y) (counts : are_counts M tau ≡ true) (parties : is_party_count n ≡ true) where
  -- its first message, its challenge, and the proof
  abbrev hstar : List ℕ
  hstar = first_message c M n salt witness (master_of M salt root)

  abbrev ask : ℕ → Asked
  ask = challenged M tau n hstar bound

  abbrev proof : List ℕ
  proof = proof_of c M tau n salt witness bound root

  abbrev master : ℕ → List ℕ
  master j = master_of M salt root j

  -- the counts are in their limits
  fit : Fit M tau
  fit = counts-fit M tau counts

  height : height_of n ≡ 0 → ⊥
  height = has-height n parties

  -- every hidden party is below n
  below : (j : ℕ) → Below n (ask j)
  below = challenged-below M tau n hstar bound (omega (arith, fit.below)) (omega (arith, (sizes n height).some))

  -- a master has 16 bytes
  master-size : (j : ℕ) → length (master j) ≡ 16
  master-size j = length-master M salt root j root-size

  -- the stretch of each instance
  stretch-is : (j : ℕ) → j < M → stretch_at c M n ask proof j ≡ stretch_of c n (context_of salt j) witness (master j) (ask j)
  stretch-is = stretch-there c M tau n salt witness bound root salt_size root-size

  -- the salt of its header
  salted : header_salt proof ≡ salt
  salted = salt-there c M tau n salt witness bound root salt_size root-size

  -- the tests of an honest proof pass
  honest : ProofTests c y proof (header_hstar proof) salt M n ask
  unfolding first_message master_at
  honest = record {
    size = length-proof c M tau n salt witness bound root salt_size root-size;
    unused = λ j h. rw (stretch-is j h) (unused-given c n (context_of salt j) height witness (master j) (master-size j) (ask j) (below j));
    output = λ j p h e.
        ap (λ (s : List ℕ). pack (opened_run c n (context_of salt j) p s).output) (stretch-is j h ∙ ap (stretch_of c n (context_of salt j) witness (master j)) e)
        ∙ (ap pack (opened-output c n (context_of salt j) p height (below j p e) witness (master j) (master-size j) hw) ∙ hy);
    digest =
        hstar-cong M _ (λ j. master_commitments c n (context_of salt j) (master j)) _ (λ j. master_online c n (context_of salt j) witness (master j))
        (λ j h.
        rw (stretch-is j h)
        (commitments-given c n (context_of salt j) height witness (master j) (master-size j) (ask j) (below j) (master_with M ask salt proof j)
        (λ e. ap (λ (z : List ℕ). master_with M ask z proof j) (sym salted) ∙ master-follows c M tau n salt witness bound root salt_size root-size counts parties j h e)))
        (λ j h. rw (stretch-is j h) (online-given c n (context_of salt j) height witness (master j) (master-size j) hw (ask j) (below j)))
        ∙ sym (hstar-there c M tau n salt witness bound root salt_size root-size);
  }

  -- check accepts it, where it is bound to the statement
  accepts : (s message : List ℕ) → bound ≡ statement_of salt M tau n s y message → holds (length c.outputs) y && leb (length message) 4096 ≡ true
      → unused_zero (length c.outputs) y ≡ true → check_legal s y message proof c ≡ done []
  accepts s message same a b =
      let m : M < 65536 = omega (arith, fit.most) in
      let t : tau < 65536 = omega (arith, fit.below) in
      legal-accepts c s y message proof M tau n hstar salt (M-there c M tau n salt witness bound root salt_size root-size m)
      (tau-there c M tau n salt witness bound root salt_size root-size t) (n-there c M tau n salt witness bound root salt_size root-size)
      (hstar-there c M tau n salt witness bound root salt_size root-size) salted a b
      (good-there c M tau n salt witness bound root salt_size root-size m t counts parties)
      (ap (λ (z : List ℕ). check_proof c y proof M n (challenged M tau n hstar z)) (sym same) ∙ proof-accepted c y proof M n ask (subst (λ (z : List ℕ). ProofTests c y proof (header_hstar proof) z M n ask) (sym salted) honest))

-- every honest proof passes
pub complete : Complete
unfolding witnesses check_op
complete s witness y message root salt buffer work left M tau n k bytes e d r lent long =
    let p = proved s witness y message root salt buffer left M tau n k work e in
    let c : Circuit = p.circuit in
    let same : d ≡ c = same-circuit s d c r p.read in
    let proof : List ℕ = proof_of c M tau n salt witness (statement_of salt M tau n s y message) root in
    let hw : Witness c witness = record {
      bytes = record { size = eqb-true (length witness) (oct c.inputs) p.inputs; small = bytes };
      unused = p.unused-inputs;
    } in
    let q : take k left ≡ proof = ap (take k) (sym p.content) ∙ take_at proof (drop k buffer) k p.size in
    let a : check_legal s y message proof c ≡ done [] =
    accepts c M tau n salt witness (statement_of salt M tau n s y message) root (eqb-true (length salt) 32 p.salt_size) (eqb-true (length root) 16 p.root-size) y hw
    (same-eq (pack (evaluate c (bit_at witness))) y p.gives) p.counts p.parties s message refl (and-true _ _ p.outputs p.short) p.unused-outputs in
    work-enough s c [] lent (check_legal s y message (take k left)) p.read (rw same at long)
    ∙ ap (λ (o : Outcome). leaving o (replicate (length lent) 0)) (ap (λ (x : List ℕ). check_legal s y message x c) q ∙ a)
