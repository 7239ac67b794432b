-- Check is the published check, and the length of a proof that it accepts.
-- Assumes nothing.
use mathlib.Core.Path.{◌≡◌, refl, sym, ap, ap₂, subst, ◌∙◌}
use mathlib.Core.Bool.{Bool, true, ◌&&◌}
use mathlib.Core.List.{List, flatten}
use Prim.Native.Nat.{ℕ, ◌+◌, ◌≤◌, ◌<◌}
use native.Mathlib.Omega.{arith}
use borrow.Author.Tests.{eq-eqb, eqb-true, le-leb, leb-true, lt-ltb}
use lib.Dec.{eqb, leb}
use lib.ListN.{length, take, drop}
use Rattle.hashing.specs.declared.Context.{Context}
use Rattle.bits.specs.Bits.{pack, unused_zero}
use Rattle.bits.proofs.Tabulate.{tabulate-cong}
use Rattle.bits.proofs.Tests.{and-true-left, and-true-right}
use Rattle.keccak.specs.Sponge.{sha3_256}
use Rattle.parties.specs.Parties.{height_of, is_party_count}
use Rattle.parties.proofs.Counts.{sizes}
use Rattle.circuit.specs.Circuit.{Circuit}
use Rattle.circuit.specs.File.{legal, read_circuit}
use Rattle.circuit.specs.Operations.{work_bytes}
use Rattle.plain.specs.Run.{Transcript}
use Rattle.plain.specs.Tapes.{ands_of}
use Rattle.hashing.specs.Inputs.{context_of, commitments_input, online_input, all_commitments_input, all_online_input}
use Rattle.hashing.specs.Digest.{transcript_of}
use Rattle.seeds.specs.Operations.{are_counts}
use Rattle.seeds.proofs.Instances.{Fit, counts-fit}
use Rattle.instance.specs.Instance.{Asked, opened, hiding}
use Rattle.instance.specs.Stretch.{stretch_bytes, corrections_part, masked_part, row_part}
use Rattle.instance.specs.Opened.{opened_run, stretch_commitments, stretch_online, stretch_unused}
use Rattle.proof.specs.Protocol.{hstar_of, statement_of, challenged}
use Rattle.proof.specs.File.{header_m, header_tau, header_n, header_zero, header_hstar, header_bytes, nodes_at, good_header, proof_bytes, stretch_at, header_salt, hides}
use Rattle.cover.proofs.Masters.{length-master-from}
use Rattle.honest.specs.Response.{Unchosen, Chosen, Sent, unchosen, chosen, Response, answered, Header, decode_header, bound_in, challenge_in, decode_sent, bytes_from, nodes_bytes, decode, implied_length, UnusedZero}
use Rattle.honest.specs.Verification.{all, seed*, honest_com, opened_com, simulation, msgs, Verified}
use Rattle.honest.specs.Theorems.{Accepted, GoodHeader, Accepts, CheckIsPublished, AcceptedLength}
use Rattle.proof.proofs.Passing.{and-true}
use Rattle.honest.proofs.Tests.{master_with, ProofTests, CheckTests, passed, accepted}
use Rattle.honest.proofs.Asking.{Below, challenged-below}
use Rattle.proof.proofs.Inside.{length-stretchAt, length-nodesAt}
use Rattle.proof.proofs.Passing.{has-height}
use Rattle.honest.proofs.Decoded.{header_is, parts_of, decoded-parts, all-bytes}
use Rattle.honest.proofs.Verifies.{unchosen-hj, chosen-hj, simulation-is, chosen-h'j}

-- what is sent of two chosen instances is equal if its parts are
pub chosen-party : (p q : ℕ) (x z : Chosen) → chosen p x ≡ chosen q z → p ≡ q
chosen-party p q x z e = cc

pub chosen-sent : (p q : ℕ) (x z : Chosen) → chosen p x ≡ chosen q z → x ≡ z
chosen-sent p q x z e = cc

-- what is sent of instance j, by its stretch s
module _ (c : Circuit) (n : ℕ) (j : Context) (count : height_of n ≡ 0 → ⊥) where
  -- it answers what is asked
  parts-answer : (a : Asked) (s : List ℕ) → answered (parts_of c n a s) ≡ a
  unfolding answered
  parts-answer opened s = refl
  parts-answer (hiding p) s = refl

  -- the digests of step 1, 2 and 3, and the output of step 3
  abbrev hj-chosen : ℕ → Chosen → List ℕ
  hj-chosen p x = sha3_256 (commitments_input j.number (all n (opened_com n j p x)))

  abbrev hj-unchosen : List ℕ → List ℕ
  hj-unchosen seed = sha3_256 (commitments_input j.number (all n (honest_com c n j seed)))

  abbrev h'j-chosen : ℕ → Chosen → List ℕ
  h'j-chosen p x = sha3_256 (online_input j.number x.masked (all n (msgs c n j p x)))

  -- h_j
  commitments-chosen : (a : Asked) (m s : List ℕ) → length s ≡ stretch_bytes c n a → Below n a
      → (p : ℕ) (x : Chosen) → parts_of c n a s ≡ chosen p x → stretch_commitments c n j m s a ≡ hj-chosen p x
  unfolding stretch_commitments
  commitments-chosen opened m s l b p x e = cc
  commitments-chosen (hiding q) m s l b p x e = sym (chosen-hj c n j q count (b q refl) s l) ∙ ap₂ hj-chosen (chosen-party q p _ x e) (chosen-sent q p _ x e)

  commitments-unchosen : (a : Asked) (m s : List ℕ) → length m ≡ 16
      → (u : Unchosen) → parts_of c n a s ≡ unchosen u → stretch_commitments c n j m s a ≡ hj-unchosen m
  unfolding stretch_commitments
  commitments-unchosen opened m s l u e = sym (unchosen-hj c n j count m l)
  commitments-unchosen (hiding q) m s l u e = cc

  -- h'_j
  online-chosen : (a : Asked) (s : List ℕ) → length s ≡ stretch_bytes c n a → Below n a
      → (p : ℕ) (x : Chosen) → parts_of c n a s ≡ chosen p x → stretch_online c n j s a ≡ h'j-chosen p x
  unfolding stretch_online
  online-chosen opened s l b p x e = cc
  online-chosen (hiding q) s l b p x e = sym (chosen-h'j c n j q count (b q refl) s l) ∙ ap₂ h'j-chosen (chosen-party q p _ x e) (chosen-sent q p _ x e)

  online-unchosen : (a : Asked) (s : List ℕ) (u : Unchosen) → parts_of c n a s ≡ unchosen u → stretch_online c n j s a ≡ u.h'
  unfolding stretch_online
  online-unchosen opened s u e = let f : record { h' = s } ≡ u = cc in ap (λ (z : Unchosen). z.h') f
  online-unchosen (hiding q) s u e = cc

  -- two digests are equal if they are what each kind of instance gives
  either_way : (a : Asked) (s v w : List ℕ) (f : ℕ → Chosen → List ℕ) (g : Unchosen → List ℕ)
      → ((p : ℕ) (x : Chosen) → parts_of c n a s ≡ chosen p x → v ≡ f p x) → ((u : Unchosen) → parts_of c n a s ≡ unchosen u → v ≡ g u)
      → ((p : ℕ) (x : Chosen) → parts_of c n a s ≡ chosen p x → w ≡ f p x) → ((u : Unchosen) → parts_of c n a s ≡ unchosen u → w ≡ g u) → v ≡ w
  either_way opened s v w f g v₁ v₂ w₁ w₂ = v₂ _ refl ∙ sym (w₂ _ refl)
  either_way (hiding p) s v w f g v₁ v₂ w₁ w₂ = v₁ p _ refl ∙ sym (w₁ p _ refl)

  -- its unused bits
  unused-step : (a : Asked) (s : List ℕ) → ((p : ℕ) (x : Chosen) → parts_of c n a s ≡ chosen p x → UnusedZero c x) → stretch_unused c n s a ≡ true
  unfolding stretch_unused
  unused-step opened s f = refl
  unused-step (hiding p) s f = let u = f p _ refl in and-true _ _ u.aux (and-true _ _ u.masked u.msgs)

  unused-chosen : (a : Asked) (s : List ℕ) → stretch_unused c n s a ≡ true → (p : ℕ) (x : Chosen) → parts_of c n a s ≡ chosen p x → UnusedZero c x
  unfolding stretch_unused
  unused-chosen opened s t p x e = let z : ◌≡◌ {A = ℕ} 0 1 = cc in absurd (omega arith)
  unused-chosen (hiding q) s t p x e =
      let a : Bool = unused_zero (ands_of c) (corrections_part c n q s) in
      let m : Bool = unused_zero c.inputs (masked_part c n q s) in
      let r : Bool = unused_zero (ands_of c + length c.outputs) (row_part c n q s) in
      let u : m && r ≡ true = and-true-right a (m && r) t in
      subst (UnusedZero c) (chosen-sent q p _ x e)
      (record { aux = and-true-left a (m && r) t; masked = and-true-left m r u; msgs = and-true-right m r u })

  -- its output
  output-chosen : (a : Asked) (s y : List ℕ) → length s ≡ stretch_bytes c n a → Below n a
      → ((p : ℕ) → a ≡ hiding p → pack (opened_run c n j p s).output ≡ y)
      → (p : ℕ) (x : Chosen) → parts_of c n a s ≡ chosen p x → pack (simulation c n j p x).output ≡ y
  output-chosen opened s y l b f p x e = cc
  output-chosen (hiding q) s y l b f p x e =
      ap₂ (λ (z : ℕ) (v : Chosen). pack (simulation c n j z v).output) (sym (chosen-party q p _ x e)) (sym (chosen-sent q p _ x e))
      ∙ (ap (λ (r : Transcript). pack r.output) (simulation-is c n j q count (b q refl) s l) ∙ f q refl)

  output-step : (a : Asked) (s y : List ℕ) → length s ≡ stretch_bytes c n a → Below n a
      → ((p : ℕ) (x : Chosen) → parts_of c n a s ≡ chosen p x → pack (simulation c n j p x).output ≡ y)
      → (p : ℕ) → a ≡ hiding p → pack (opened_run c n j p s).output ≡ y
  output-step opened s y l b f p e = cc
  output-step (hiding q) s y l b f p e =
      let g : q ≡ p = cc in
      ap (λ (z : ℕ). pack (opened_run c n j z s).output) (sym g)
      ∙ (ap (λ (r : Transcript). pack r.output) (sym (simulation-is c n j q count (b q refl) s l)) ∙ f q _ refl)

-- M instances by n parties, where `ask` says what is asked of each, and the length of the proof is right
module _ (c : Circuit) (y proof hstar salt : List ℕ) (M n : ℕ) (ask : ℕ → Asked) (count : height_of n ≡ 0 → ⊥) (below : (j : ℕ) → Below n (ask j))
    (size : length proof ≡ proof_bytes c M n ask) where
  -- the stretch of an instance, and what is decoded of it
  abbrev part : ℕ → List ℕ
  part j = stretch_at c M n ask proof j

  abbrev response : Response
  response = record {
    nodes = take (nodes_bytes M ask) (drop header_bytes proof);
    sent = λ j. (decode_sent c n (ask j) (bytes_from c n ask (drop (nodes_bytes M ask) (drop header_bytes proof)) j)).0;
  }

  abbrev sent : ℕ → Sent
  sent j = response.sent j

  -- the master of an instance that is not chosen, as it follows from the opened nodes
  abbrev master : ℕ → List ℕ
  master j = master_with M ask salt proof j

  master-size : (j : ℕ) → length (master j) ≡ 16
  master-size j = length-master-from M (hides ask) salt (nodes_at M ask proof) j (length-nodesAt c n M ask proof size)

  -- it is seed*_j
  seed-is : (j : ℕ) → seed* M salt ask response j ≡ master j
  unfolding seed* nodes_at nodes_bytes
  seed-is j = refl

  part-size : (j : ℕ) → j < M → length (part j) ≡ stretch_bytes c n (ask j)
  part-size j l = length-stretchAt c n M ask proof size j l

  -- the parts are what is sent
  parts_are : (j : ℕ) (z : Sent) → sent j ≡ z → parts_of c n (ask j) (part j) ≡ z
  parts_are j z e = sym (decoded-parts c n ask M proof j) ∙ e

  sent-are : (j : ℕ) (z : Sent) → parts_of c n (ask j) (part j) ≡ z → sent j ≡ z
  sent-are j z e = decoded-parts c n ask M proof j ∙ e

  -- what passes the tests is verified
  verified : ProofTests c y proof hstar salt M n ask → Verified c y hstar salt M n ask response
  unfolding hstar_of transcript_of
  verified t = record {
    answers = λ j l. ap answered (decoded-parts c n ask M proof j) ∙ parts-answer c n (context_of salt j) count (ask j) (part j);
    hj = λ j. stretch_commitments c n (context_of salt j) (master j) (part j) (ask j);
    h = sha3_256 (all_commitments_input (all M (λ j. stretch_commitments c n (context_of salt j) (master j) (part j) (ask j))));
    h'j = λ j. stretch_online c n (context_of salt j) (part j) (ask j);
    h' = sha3_256 (all_online_input (all M (λ j. stretch_online c n (context_of salt j) (part j) (ask j))));
    step_1 = λ j p x l e. commitments-chosen c n (context_of salt j) count (ask j) (master j) (part j) (part-size j l) (below j) p x (parts_are j _ e);
    step_2 = λ j u l e.
        commitments-unchosen c n (context_of salt j) count (ask j) (master j) (part j) (master-size j) u (parts_are j _ e) ∙ ap (hj-unchosen c n (context_of salt j) count) (sym (seed-is j));
    step_2_h = refl;
    step_3_output = λ j p x l e. output-chosen c n (context_of salt j) count (ask j) (part j) y (part-size j l) (below j) (λ q r. t.output j q l r) p x (parts_are j _ e);
    step_3 = λ j p x l e. online-chosen c n (context_of salt j) count (ask j) (part j) (part-size j l) (below j) p x (parts_are j _ e);
    step_3_sent = λ j u l e. online-unchosen c n (context_of salt j) count (ask j) (part j) u (parts_are j _ e);
    step_3_h' = refl;
    step_4 = t.digest;
  }

  -- the digests of what is verified
  commitments-are : (v : Verified c y hstar salt M n ask response) (j : ℕ) → j < M → stretch_commitments c n (context_of salt j) (master j) (part j) (ask j) ≡ v.hj j
  commitments-are v j l =
      either_way c n (context_of salt j) count (ask j) (part j) (stretch_commitments c n (context_of salt j) (master j) (part j) (ask j)) (v.hj j) (hj-chosen c n (context_of salt j) count) (λ u. hj-unchosen c n (context_of salt j) count (master j))
      (commitments-chosen c n (context_of salt j) count (ask j) (master j) (part j) (part-size j l) (below j))
      (commitments-unchosen c n (context_of salt j) count (ask j) (master j) (part j) (master-size j))
      (λ p x e. v.step_1 j p x l (sent-are j _ e))
      (λ u e. v.step_2 j u l (sent-are j _ e) ∙ ap (hj-unchosen c n (context_of salt j) count) (seed-is j))

  online-are : (v : Verified c y hstar salt M n ask response) (j : ℕ) → j < M → stretch_online c n (context_of salt j) (part j) (ask j) ≡ v.h'j j
  online-are v j l =
      either_way c n (context_of salt j) count (ask j) (part j) (stretch_online c n (context_of salt j) (part j) (ask j)) (v.h'j j) (h'j-chosen c n (context_of salt j) count) (λ u. u.h')
      (online-chosen c n (context_of salt j) count (ask j) (part j) (part-size j l) (below j))
      (online-unchosen c n (context_of salt j) count (ask j) (part j))
      (λ p x e. v.step_3 j p x l (sent-are j _ e))
      (λ u e. v.step_3_sent j u l (sent-are j _ e))

  -- and the other way round, where the unused bits are zero
  tested : ((j p : ℕ) (x : Chosen) → j < M → sent j ≡ chosen p x → UnusedZero c x) → Verified c y hstar salt M n ask response → ProofTests c y proof hstar salt M n ask
  unfolding hstar_of transcript_of
  tested clean v = record {
    size = size;
    unused = λ j l. unused-step c n (context_of salt j) count (ask j) (part j) (λ p x e. clean j p x l (sent-are j _ e));
    output = λ j p l e. output-step c n (context_of salt j) count (ask j) (part j) y (part-size j l) (below j) (λ q x r. v.step_3_output j q x l (sent-are j _ r)) p e;
    digest =
        ap₂ transcript_of
        (ap (λ (t : List (List ℕ)). sha3_256 (all_commitments_input (flatten t))) (tabulate-cong M _ v.hj (commitments-are v)) ∙ sym v.step_2_h)
        (ap (λ (t : List (List ℕ)). sha3_256 (all_online_input (flatten t))) (tabulate-cong M _ v.h'j (online-are v)) ∙ sym v.step_3_h')
        ∙ v.step_4;
  }

-- the header of a proof is good
header-passed : (proof : List ℕ) → good_header proof ≡ true
    → GoodHeader proof (record { M = header_m proof; tau = header_tau proof; n = header_n proof; hstar = header_hstar proof; salt = header_salt proof })
unfolding good_header
header-passed proof t =
    let a : Bool = leb 70 (length proof) in
    let b : Bool = are_counts (header_m proof) (header_tau proof) in
    let d : Bool = is_party_count (header_n proof) in
    let e : Bool = eqb (header_zero proof) 0 in
    let u : b && (d && e) ≡ true = and-true-right a (b && (d && e)) t in
    let v : d && e ≡ true = and-true-right b (d && e) u in
    let f : Fit (header_m proof) (header_tau proof) = counts-fit (header_m proof) (header_tau proof) (and-true-left b (d && e) u) in
    record {
      size = leb-true 70 (length proof) (and-true-left a (b && (d && e)) t);
      M_least = f.least;
      M_most = f.most;
      tau_least = f.some;
      tau_most = f.below;
      parties = and-true-left d e v;
      zero = eqb-true (header_zero proof) 0 (and-true-right d e v);
    }

-- its counts are in their limits
pub counts-good : (proof : List ℕ) (h : Header) → GoodHeader proof h → are_counts h.M h.tau ≡ true
unfolding are_counts
counts-good proof h g =
    and-true _ _ (le-leb 2 h.M g.M_least)
    (and-true _ _ (le-leb h.M 512 g.M_most) (and-true _ _ (le-leb 1 h.tau g.tau_least) (lt-ltb h.tau h.M g.tau_most)))

-- so it is for check
header-accepted : (proof : List ℕ)
    → GoodHeader proof (record { M = header_m proof; tau = header_tau proof; n = header_n proof; hstar = header_hstar proof; salt = header_salt proof }) → good_header proof ≡ true
unfolding good_header
header-accepted proof g =
    and-true _ _ (le-leb 70 (length proof) g.size)
    (and-true _ _ (counts-good proof _ g) (and-true _ _ g.parties (eq-eqb (header_zero proof) 0 g.zero)))

-- the tests of a proof with the header h
abbrev TestsWith : Circuit → List ℕ → List ℕ → List ℕ → List ℕ → Header → Type 0
TestsWith c s y message proof h =
    ProofTests c y proof h.hstar h.salt h.M h.n (challenged h.M h.tau h.n h.hstar (statement_of h.salt h.M h.tau h.n s y message))

-- a good header
module _ (bound proof : List ℕ) (good : GoodHeader proof (decode_header proof)) where
  abbrev pub parties : ℕ
  parties = (decode_header proof).n

  pub height : height_of parties ≡ 0 → ⊥
  height = has-height parties good.parties

  -- every hidden party is one of them
  pub all-below : (j : ℕ) → Below parties (challenge_in bound proof j)
  all-below =
      challenged-below (decode_header proof).M (decode_header proof).tau parties (decode_header proof).hstar bound (omega (arith, good.tau_most))
      (omega (arith, (sizes parties height).some))

-- the length that h* implies is the one that check computes
pub implied-is : (c : Circuit) (bound proof : List ℕ)
    → implied_length c bound proof ≡ proof_bytes c (decode_header proof).M (decode_header proof).n (challenge_in bound proof)
unfolding implied_length
implied-is c bound proof = all-bytes c (decode_header proof).n (challenge_in bound proof) (decode_header proof).M (decode_header proof).M

-- what passes the tests meets the published check
tests-accept : (s y message proof : List ℕ) → CheckTests s y message proof → Accepts s y message proof
unfolding decode
tests-accept s y message proof t =
    let c : Circuit = t.circuit in
    let good : GoodHeader proof (decode_header proof) = subst (GoodHeader proof) (sym (header_is proof)) (header-passed proof t.header) in
    let tests : TestsWith c s y message proof (decode_header proof) = subst (TestsWith c s y message proof) (sym (header_is proof)) t.proof-tests in
    record {
      circuit = c;
      read = t.read;
      y_size = t.y_size;
      message_size = t.short;
      y_unused = t.y_unused;
      header = good;
      size = tests.size ∙ sym (implied-is c (bound_in s y message proof) proof);
      unused = λ j p x l e.
          unused-chosen c (decode_header proof).n (context_of (decode_header proof).salt j) (height (bound_in s y message proof) proof good) (challenge_in (bound_in s y message proof) proof j) _ (tests.unused j l) p x
          (sym (decoded-parts c (decode_header proof).n (challenge_in (bound_in s y message proof) proof) (decode_header proof).M proof j) ∙ e);
      verified = verified c y proof (decode_header proof).hstar (decode_header proof).salt (decode_header proof).M (decode_header proof).n (challenge_in (bound_in s y message proof) proof)
          (height (bound_in s y message proof) proof good) (all-below (bound_in s y message proof) proof good) tests.size tests;
    }

-- and the other way round
accept-tests : (s y message proof : List ℕ) → Accepts s y message proof → CheckTests s y message proof
unfolding decode
accept-tests s y message proof h =
    let c : Circuit = h.circuit in
    let tests : TestsWith c s y message proof (decode_header proof) =
    tested c y proof (decode_header proof).hstar (decode_header proof).salt (decode_header proof).M (decode_header proof).n (challenge_in (bound_in s y message proof) proof)
    (height (bound_in s y message proof) proof h.header) (all-below (bound_in s y message proof) proof h.header) (h.size ∙ implied-is c (bound_in s y message proof) proof) h.unused h.verified in
    record {
      circuit = c;
      read = h.read;
      y_size = h.y_size;
      short = h.message_size;
      y_unused = h.y_unused;
      header = header-accepted proof (subst (GoodHeader proof) (header_is proof) h.header);
      proof-tests = subst (TestsWith c s y message proof) (header_is proof) tests;
    }

-- a circuit that is read is read as one
pub same-circuit : (s : List ℕ) (c d : Circuit) → read_circuit s ≡ legal c → read_circuit s ≡ legal d → c ≡ d
same-circuit s c d e f = cc

-- check accepts where the published check does
published-accepted : (s y message proof work : List ℕ) (h : Accepts s y message proof) → work_bytes h.circuit ≤ length work → Accepted s y message proof work
published-accepted s y message proof work h long =
    let t : CheckTests s y message proof = accept-tests s y message proof h in
    let same : h.circuit ≡ t.circuit = same-circuit s h.circuit t.circuit h.read t.read in
    accepted s y message proof work t (subst (λ (c : Circuit). work_bytes c ≤ length work) same long)

-- check is the published check
pub check-is-published : CheckIsPublished
check-is-published = record {
  sound = λ s y message proof work e. tests-accept s y message proof (passed s y message proof work e);
  complete = published-accepted;
}

-- the length of every accepted proof is the one its challenge implies
pub accepted-length : AcceptedLength
accepted-length s y message proof work c r e =
    let h = check-is-published.sound s y message proof work e in
    h.size ∙ ap (λ (z : Circuit). implied_length z (bound_in s y message proof) proof) (same-circuit s h.circuit c h.read r)
