-- The tests of a proof with a good header: what the table of its challenge asks, the answer after each test, and what is known of a
-- proof that passes.
-- Assumes nothing.
use mathlib.Core.Path.{◌≡◌, sym, ap, ◌∙◌}
use mathlib.Core.Bool.{Bool, true, false, not}
use mathlib.Core.List.{List, [], ◌++◌}
use Prim.Native.Nat.{ℕ, suc, ◌+◌, ◌-◌, ◌*◌, ◌^◌, ◌≤◌, ◌<◌}
use native.Mathlib.Omega.{arith}
use borrow.Author.Tests.{eq-eqb, ne_eqb}
use lib.ListN.{length, take, drop, replicate}
use lib.Seq.{take_at}
use Rattle.hashing.specs.declared.Context.{Context}
use Rattle.bits.specs.Bytes.{row_of, same_bytes}
use Rattle.bits.proofs.Tabulate.{length-tabulate}
use Rattle.refusal.specs.Outcome.{refuses, done}
use Rattle.circuit.specs.Circuit.{Circuit}
use Rattle.circuit.specs.File.{circuit_of}
use Rattle.circuit.specs.declared.Sizes.{Sizes}
use Rattle.circuit.proofs.Answered.{fell, held}
use Rattle.choice.specs.Challenge.{challenge_of}
use Rattle.cover.specs.Masters.{masters_context, height, cover_bytes, master_from}
use Rattle.cover.specs.Steps.{hidden_by, marks_of, cover_by, nodes_of, follow_of}
use Rattle.growing.proofs.Following.{length-regrown, regrow-master}
use Rattle.cover.proofs.Masters.{cover-bytes-same, master-from-same}
use Rattle.instance.specs.Instance.{Asked}
use Rattle.instance.specs.Steps.{Tree}
use Rattle.mpc.specs.Steps.{Known}
use Rattle.proof.specs.Protocol.{statement_of, challenged}
use Rattle.proof.specs.File.{header_hstar, header_salt, hides, nodes_at, master_at, proof_bytes}
use Rattle.proof.specs.Steps.{table_of, asks_in, Asking, marks_in, master_in, Drawable}
use Rattle.proof.proofs.Chosen.{some-chosen}
use Rattle.proof.proofs.Inside.{stretches-after, length-nodesAt}
use Rattle.proof.proofs.Leaves.{leaves_at, hides-table, cover-in}
use Rattle.proof.proofs.Askings.{asks-same, asking-challenge, length-table}
use Rattle.proof_tests.specs.declared.Shape.{Shape}
use Rattle.std.specs.Prelude.{Result, Ok, Err}
use Rattle.refusal.specs.declared.Refusal.{Refusal}
use Rattle.proof_tests.specs.Steps.{all_unused, all_outputs, recomputed, tested, judged, Sized, Rebuilt, Headed, Tested, Ready, Took, in_table, in_marks}
use Rattle.proof_tests.proofs.Headers.{hstar-length, salt-length, headed-counts, headed-parties, headed-some, headed-few}

-- the opened nodes of a proof, where the nodes are marked by a table
module _ (M n : ℕ) (table proof : List ℕ) (entries : length table ≡ M)
    (size : length (nodes_at M (asks_in n table) proof) ≡ cover_bytes M (hides (asks_in n table)))
    (marks values : List ℕ) (em : marks ≡ marks_in M n table) (ev : values ≡ nodes_at M (asks_in n table) proof) where
  -- they have their bytes
  values-size : length values ≡ cover_bytes M (hides (asks_in n table))
  values-size = ap length ev ∙ size

  -- by the marks
  values-marked : length values ≡ 16 * length (cover_by marks)
  unfolding cover_bytes
  values-marked = values-size ∙ ap (λ (l : List ℕ). 16 * length l) (sym (ap cover_by em ∙ cover-in M n table entries))

  -- the rows of the masters' tree, grown again from them, where a master p is hidden
  module _ (p : ℕ) (low : p < M) (hidden : hides (asks_in n table) p ≡ true) (h : ℕ) (nodes : List ℕ) (eh : h ≡ height M)
      (en : nodes ≡ nodes_of (follow_of (masters_context (header_salt proof)) marks values) (replicate 16 0) h) where
    -- a row for each node
    rebuilt-rows : length nodes ≡ 16 * 2 ^ suc (height M)
    rebuilt-rows = ap length en ∙ (length-regrown marks values values-marked (masters_context (header_salt proof)) h ∙ ap (λ (i : ℕ). 16 * 2 ^ suc i) eh)

    -- all nodes by the table
    nodes-are : nodes ≡ nodes_of (follow_of (masters_context (header_salt proof)) (marks_of (height M) M (hidden_by table n)) values) (replicate 16 0) (height M)
    nodes-are =
        en ∙ (ap (λ (m : List ℕ). nodes_of (follow_of (masters_context (header_salt proof)) m values) (replicate 16 0) h) em
        ∙ ap (nodes_of (follow_of (masters_context (header_salt proof)) (marks_in M n table) values) (replicate 16 0)) eh)

    -- the masters that follow
    rebuilt-masters : (j : ℕ) → j < M → hides (asks_in n table) j ≡ false → master_in nodes j ≡ master_at M (asks_in n table) proof j
    unfolding master_at
    rebuilt-masters j l t =
        ap (λ (k : ℕ). row_of nodes 16 (k + j)) (leaves_at M nodes rebuilt-rows)
        ∙ (ap (λ (s : List ℕ). row_of s 16 (2 ^ height M + j)) nodes-are
        ∙ (regrow-master M (hidden_by table n) (header_salt proof) values p j (values-size ∙ sym (cover-bytes-same M (hidden_by table n) (hides (asks_in n table)) (hides-table M n table entries))) low (hides-table M n table entries p low ∙ hidden) l (hides-table M n table entries j l ∙ t)
        ∙ (master-from-same M (hidden_by table n) (hides (asks_in n table)) (hides-table M n table entries) (header_salt proof) values j
        ∙ ap (λ (v : List ℕ). master_from M (hides (asks_in n table)) (header_salt proof) v j) ev)))

    rebuilt-nodes : Rebuilt M n table proof nodes
    rebuilt-nodes = record { rows = rebuilt-rows; masters = rebuilt-masters }

-- the tests that need no run, made with what is asked
module _ (c : Circuit) (proof : List ℕ) (M n : ℕ) (ask : ℕ → Asked) where
  -- another length than is implied
  asked-length : (length proof ≡ proof_bytes c M n ask → ⊥) → refuses 12 [] ≡ tested c proof M n ask (done [])
  unfolding tested
  asked-length t = rw (ne_eqb (length proof) (proof_bytes c M n ask) t)

  -- the length that is implied; unused bits
  module _ (size : length proof ≡ proof_bytes c M n ask) where
    asked-unused : all_unused c M n ask proof ≡ false → refuses 7 [] ≡ tested c proof M n ask (done [])
    unfolding tested
    asked-unused u = rw (eq-eqb (length proof) (proof_bytes c M n ask) size, u)

    -- no unused bits
    asked-passed : all_unused c M n ask proof ≡ true → done [] ≡ tested c proof M n ask (done [])
    unfolding tested
    asked-passed u = rw (eq-eqb (length proof) (proof_bytes c M n ask) size, u)

-- the rest of check; b is the test of the outputs
module _ (c : Circuit) (y proof : List ℕ) (M n : ℕ) (ask : ℕ → Asked) (b : Bool) (f : b ≡ all_outputs c M n ask y proof) where
  -- it fails
  pub judged-output : not b ≡ true → refuses 10 [] ≡ judged c y proof M n ask
  unfolding judged
  judged-output t = rw (fell _ b f t)

  -- it passes; the test of the recomputed h*
  module _ (t : not b ≡ false) (hstar : List ℕ) (e : hstar ≡ recomputed c M n ask proof) (d : Bool) (g : d ≡ same_bytes hstar (header_hstar proof)) where
    same-right : d ≡ same_bytes (recomputed c M n ask proof) (header_hstar proof)
    same-right = g ∙ ap (λ (z : List ℕ). same_bytes z (header_hstar proof)) e

    -- it fails
    pub judged-digest : not d ≡ true → refuses 13 [] ≡ judged c y proof M n ask
    unfolding judged
    judged-digest u = rw (held _ b f t, fell _ d same-right u)

    -- it passes
    pub judged-accepted : not d ≡ false → done [] ≡ judged c y proof M n ask
    unfolding judged
    judged-accepted u = rw (held _ b f t, held _ d same-right u)

-- h* of a good header: the challenge can be drawn from it
pub header-drawable : (M tau n : ℕ) (y message proof : List ℕ) → Headed M tau n y message proof
    → Drawable M tau n (header_hstar proof) (header_salt proof) y message
header-drawable M tau n y message proof head =
    record {
      counts = headed-counts M tau n y message proof head;
      parties = headed-parties M tau n y message proof head;
      hstar_size = hstar-length proof head.good;
      salt_size = salt-length proof head.good;
      y_least = head.y_least;
      y_most = head.y_most;
      short = head.short;
    }

-- the challenge to a proof with a good header, bound to the statement, in its table
module _ (s : List ℕ) (M tau n : ℕ) (y message proof table : List ℕ) (head : Headed M tau n y message proof)
    (table_is : table ≡ table_of M n (challenge_of M tau n (header_hstar proof) (statement_of (header_salt proof) M tau n s y message))) where
  -- it asks what the challenge asks
  table-ask : asks_in n table ≡ challenged M tau n (header_hstar proof) (statement_of (header_salt proof) M tau n s y message)
  table-ask =
      ap (asks_in n) table_is
      ∙ asks-same M tau n (header_hstar proof) (statement_of (header_salt proof) M tau n s y message) (headed-counts M tau n y message proof head)
      (headed-some M tau n y message proof head)

  -- it names parties of n
  pub table-asking : Asking n table
  table-asking =
      rw table_is (asking-challenge M tau n (header_hstar proof) (statement_of (header_salt proof) M tau n s y message) (headed-counts M tau n y message proof head) (headed-some M tau n y message proof head))

  -- it has an entry for each instance
  table-entries : length table ≡ M
  table-entries = ap length table_is ∙ length-table M n _

  -- it hides a master
  chosen-one : (p : ℕ) × (p < M) × (hides (asks_in n table) p ≡ true)
  chosen-one =
      let q = some-chosen M tau n (header_hstar proof) (statement_of (header_salt proof) M tau n s y message) (headed-counts M tau n y message proof head) (headed-some M tau n y message proof head) in
      (q.0, q.1, ap (λ (f : ℕ → Asked). hides f q.0) table-ask ∙ q.2)

  -- the tests of the proof, as they are made with this table: first the length, which is to be x
  module _ (x : ℕ) (e : x ≡ proof_bytes (circuit_of s) M n (asks_in n table)) where
    -- another length
    pub check-length : (length proof ≡ x → ⊥) → refuses 12 [] ≡ tested (circuit_of s) proof M n (challenged M tau n (header_hstar proof) (statement_of (header_salt proof) M tau n s y message)) (done [])
    check-length t =
        asked-length (circuit_of s) proof M n (asks_in n table) (λ q. t (q ∙ sym e))
        ∙ ap (λ (a : ℕ → Asked). tested (circuit_of s) proof M n a (done [])) table-ask

    -- this length
    module _ (size : length proof ≡ x) where
      pub check-sized : Sized s M n table proof
      check-sized = record { few = headed-few M tau n y message proof head; entries = table-entries; asking = table-asking; size = size ∙ e }

      -- the test of the unused bits
      module _ (b : Bool) (f : b ≡ all_unused (circuit_of s) M n (asks_in n table) proof) where
        -- it fails
        pub check-unused : not b ≡ true → refuses 7 [] ≡ tested (circuit_of s) proof M n (challenged M tau n (header_hstar proof) (statement_of (header_salt proof) M tau n s y message)) (done [])
        check-unused t =
            asked-unused (circuit_of s) proof M n (asks_in n table) (size ∙ e) (fell _ b f t)
            ∙ ap (λ (a : ℕ → Asked). tested (circuit_of s) proof M n a (done [])) table-ask

        -- it passes
        module _ (t : not b ≡ false) where
          pub check-passed : done [] ≡ tested (circuit_of s) proof M n (challenged M tau n (header_hstar proof) (statement_of (header_salt proof) M tau n s y message)) (done [])
          check-passed =
              asked-passed (circuit_of s) proof M n (asks_in n table) (size ∙ e) (held _ b f t)
              ∙ ap (λ (a : ℕ → Asked). tested (circuit_of s) proof M n a (done [])) table-ask

          -- what is then known
          pub check-ready : (z : Sizes) (h o : ℕ) (marks : List ℕ) → Known s z → Tree n h → o ≡ cover_bytes M (hides (asks_in n table)) → marks ≡ marks_in M n table
              → Ready s (record { sizes = z; counts = record { instances = M; chosen = tau; parties = n; height = h }; opened = o }) y message proof table marks
          check-ready z h o marks kn tr eo em =
              record {
                tested =
                    record {
                      known = kn;
                      tree = tr;
                      sized = check-sized;
                      unused = held _ b f t;
                      cover = eo;
                      marked = em;
                      chosen = chosen-one;
                    };
                headed = head;
                asks = table-ask;
              }

-- a proof that passes these tests
module _ (s : List ℕ) (f : Shape) (proof table marks : List ℕ) (t : Tested s f proof table marks) where
  -- its opened nodes end inside it
  pub tested-opened : 70 + f.opened ≤ length proof
  tested-opened =
      omega (arith, t.sized.size, t.cover, stretches-after (circuit_of s) f.counts.parties f.counts.instances (asks_in f.counts.parties table) f.counts.instances)

  pub opened-are : take (70 + f.opened - 70) (drop 70 proof) ≡ nodes_at f.counts.instances (asks_in f.counts.parties table) proof
  unfolding nodes_at
  opened-are =
      let d : 70 + f.opened - 70 ≡ cover_bytes f.counts.instances (hides (asks_in f.counts.parties table)) = omega (arith, t.cover) in
      ap (λ (k : ℕ). take k (drop 70 proof)) d

  opened-size : length (nodes_at f.counts.instances (asks_in f.counts.parties table) proof) ≡ cover_bytes f.counts.instances (hides (asks_in f.counts.parties table))
  opened-size = length-nodesAt (circuit_of s) f.counts.parties f.counts.instances (asks_in f.counts.parties table) proof t.sized.size

  -- they have their bytes, by the marks
  pub tested-values : length (take (70 + f.opened - 70) (drop 70 proof)) ≡ 16 * length (cover_by marks)
  tested-values =
      values-marked f.counts.instances f.counts.parties table proof t.sized.entries opened-size marks (take (70 + f.opened - 70) (drop 70 proof)) t.marked opened-are

  -- a mark for each node
  pub tested-marks : length marks ≡ 2 ^ suc (height f.counts.instances)
  unfolding marks_of
  tested-marks = ap length t.marked ∙ length-tabulate (2 ^ suc (height f.counts.instances)) _

  -- and all nodes are grown again from them
  pub tested-rebuilt : (tree : Context) → tree ≡ masters_context (header_salt proof) → (h : ℕ) (nodes : List ℕ) → h ≡ height f.counts.instances
      → nodes ≡ nodes_of (follow_of tree marks (take (70 + f.opened - 70) (drop 70 proof))) (replicate 16 0) h
      → Rebuilt f.counts.instances f.counts.parties table proof nodes
  tested-rebuilt tree et h nodes eh en =
      rebuilt-nodes f.counts.instances f.counts.parties table proof t.sized.entries opened-size marks (take (70 + f.opened - 70) (drop 70 proof)) t.marked opened-are
      t.chosen.0 t.chosen.1 t.chosen.2 h nodes eh
      (en ∙ ap (λ (u : Context). nodes_of (follow_of u marks (take (70 + f.opened - 70) (drop 70 proof))) (replicate 16 0) h) et)

-- what stands in front of a longer table, and of longer marks
pub took-front : (r : Result Shape Refusal) (s : List ℕ) (z : Sizes) (y message proof table marks more rest : List ℕ)
    → Took r s z y message proof (λ (f : Shape). table) (λ (f : Shape). marks)
    → Took r s z y message proof (in_table (table ++ more)) (in_marks (marks ++ rest))
took-front (Err k) s z y message proof table marks more rest t = tt
took-front (Ok f) s z y message proof table marks more rest t =
    let a : in_table (table ++ more) f ≡ table = take_at table more f.counts.instances t.1.tested.sized.entries in
    let b : in_marks (marks ++ rest) f ≡ marks =
    take_at marks rest (2 ^ suc (height f.counts.instances)) (tested-marks s f proof table marks t.1.tested) in
    (t.0, rw (a, b) t.1)
