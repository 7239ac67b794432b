-- The table of a challenge asks of each instance what the challenge does.
-- Assumes nothing.
use mathlib.Core.Path.{◌≡◌, refl, sym, ap, ◌∙◌, fun_ext}
use mathlib.Core.Bool.{Bool, true, false, cond}
use mathlib.Core.List.{List, [], ◌∷◌}
use mathlib.Core.Logic.{⊎_elim}
use Prim.Native.Nat.{ℕ, suc, ◌+◌, ◌*◌, ◌/◌, ◌%◌, ◌≤◌, ◌<◌}
use native.Mathlib.Omega.{arith}
use borrow.Author.Tests.{eq-eqb, ne_eqb, le-leb}
use lib.Dec.{eqb}
use lib.ListN.{length, get_or}
use Rattle.bits.specs.Bytes.{le_bytes}
use Rattle.bits.proofs.Numbers.{lt-or-le}
use Rattle.bits.proofs.Tabulate.{length-tabulate, get_d_tabulate, get_or-tabulate-end}
use Rattle.parties.specs.Parties.{height_of}
use Rattle.refusal.specs.Outcome.{Outcome, done}
use Rattle.std.specs.Prelude.{⊤, Result}
use Rattle.refusal.specs.declared.Refusal.{Refusal}
use Rattle.keccak.specs.Sponge.{sha3_256}
use Rattle.keccak.proofs.Lengths.{length-sha3-256}
use Rattle.choice.specs.Challenge.{stream_of, instances, hidden_parties, beside, challenge_of, Ascending, more}
use Rattle.seeds.specs.Operations.{outcome, max_message, max_output_bytes, are_counts, statement_fits, challenge_op}
use Rattle.choice.proofs.Challenges.{challenge-sound}
use Rattle.seeds.proofs.Instances.{Fit, counts-fit}
use Rattle.instance.specs.Instance.{hiding}
use Rattle.instance.specs.Steps.{Tree}
use Rattle.instance.proofs.Trees.{tree-sizes}
use Rattle.proof.specs.Protocol.{statement_of, asked, challenged}
use Rattle.proof.specs.Steps.{ask_of, party_in, table_of, asks_in, Asking, Drawable}
use Rattle.proof.proofs.Sizes.{ask-opened, ask-hiding}

-- an instance number of two bytes is read as it was written
two_bytes : (i : ℕ) → i < 65536 → i % 256 + 256 * (i / 256 % 256) ≡ i
two_bytes i h = omega arith

-- one chosen instance more, below 65536
party-more : (n j i p : ℕ) (is ps : List ℕ) → i < 65536 → party_in n j (beside (i ∷ is) (p ∷ ps)) ≡ cond (eqb i j) p (party_in n j (beside is ps))
unfolding party_in beside le_bytes
party-more n j i p is ps h = ap (λ (x : ℕ). cond (eqb x j) p (party_in n j (beside is ps))) (two_bytes i h)

-- what is asked of instance j by the bytes of the chosen instances, each beside its hidden party
asks-beside : (n hi lo : ℕ) (is ps : List ℕ) → hi ≤ 65536 → Ascending hi lo is → ((k : ℕ) → get_or ps k 0 < n) → (j : ℕ)
    → ask_of n (party_in n j (beside is ps)) ≡ asked is ps j
unfolding asked
asks-beside n hi lo [] ps w a h j = unfold beside party_in in ask-opened n n refl
asks-beside n hi lo (i ∷ is) [] w a h j = unfold beside party_in in ask-opened n n refl
asks-beside n hi lo (i ∷ is) (p ∷ ps) w (more l u a) h j =
    ap (ask_of n) (party-more n j i p is ps (omega arith)) ∙ go (eqb i j) (asks-beside n hi (i + 1) is ps w a (λ k. h (suc k)) j)
  where
    go : (b : Bool) → ask_of n (party_in n j (beside is ps)) ≡ asked is ps j → ask_of n (cond b p (party_in n j (beside is ps))) ≡ cond b (hiding p) (asked is ps j)
    go true e = ask-hiding n p (λ e. omega (arith, h 0))
    go false e = e

-- the parties that they name
party-beside : (n : ℕ) (is ps : List ℕ) → ((k : ℕ) → get_or ps k 0 < n) → (j : ℕ) → party_in n j (beside is ps) ≤ n
unfolding party_in beside le_bytes
party-beside n [] ps h j = omega arith
party-beside n (i ∷ is) [] h j = omega arith
party-beside n (i ∷ is) (p ∷ ps) h j = go (eqb (i % 256 + 256 * (i / 256 % 256)) j) (party-beside n is ps (λ k. h (suc k)) j)
  where
    go : (b : Bool) → party_in n j (beside is ps) ≤ n → cond b p (party_in n j (beside is ps)) ≤ n
    go true l = omega (arith, h 0)
    go false l = l

-- they name none for an instance from hi on
beyond-beside : (n hi lo : ℕ) (is ps : List ℕ) → hi ≤ 65536 → Ascending hi lo is → (j : ℕ) → hi ≤ j → party_in n j (beside is ps) ≡ n
beyond-beside n hi lo [] ps w a j l = unfold beside party_in in refl
beyond-beside n hi lo (i ∷ is) [] w a j l = unfold beside party_in in refl
beyond-beside n hi lo (i ∷ is) (p ∷ ps) w (more low high a) j l =
    party-more n j i p is ps (omega arith)
    ∙ ap (λ (b : Bool). cond b p (party_in n j (beside is ps))) (ne_eqb i j (omega arith))
    ∙ beyond-beside n hi (i + 1) is ps w a j l

-- a table asks what its bytes name, below M
table_below : (M n : ℕ) (choices : List ℕ) (j : ℕ) → j < M → get_or (table_of M n choices) j n ≡ party_in n j choices
unfolding table_of
table_below M n choices j l = get_d_tabulate M (λ k. party_in n k choices) j n l

-- and nothing beyond
table-beyond : (M n : ℕ) (choices : List ℕ) (j : ℕ) → M ≤ j → get_or (table_of M n choices) j n ≡ n
unfolding table_of
table-beyond M n choices j l = get_or-tabulate-end M (λ k. party_in n k choices) j n l

-- it has M entries
pub length-table : (M n : ℕ) (choices : List ℕ) → length (table_of M n choices) ≡ M
unfolding table_of
length-table M n choices = length-tabulate M (λ j. party_in n j choices)

-- M instances of which tau are chosen, by n parties
module _ (M tau n : ℕ) (hstar bound : List ℕ) (counts : are_counts M tau ≡ true) (some : 0 < n) where
  -- the table of the challenge
  abbrev table : List ℕ
  table = table_of M n (challenge_of M tau n hstar bound)

  -- an entry is what the bytes name
  entry : (j : ℕ) → get_or table j n ≡ party_in n j (challenge_of M tau n hstar bound)
  unfolding challenge_of
  entry j =
      let fit : Fit M tau = counts-fit M tau counts in
      let s = challenge-sound M tau n hstar bound (omega (arith, fit.below)) some in
      ⊎_elim
      (λ (l : j < M). table_below M n (challenge_of M tau n hstar bound) j l)
      (λ (l : M ≤ j). table-beyond M n (challenge_of M tau n hstar bound) j l
      ∙ sym (beyond-beside n M 0 (instances M tau (stream_of tau hstar bound)) (hidden_parties tau n (stream_of tau hstar bound)) (omega (arith, fit.most))
      s.ascending j l))
      (lt-or-le j M)

  -- the table asks what the challenge asks
  asks-challenged : (j : ℕ) → asks_in n table j ≡ challenged M tau n hstar bound j
  unfolding challenge_of challenged
  asks-challenged j =
      let fit : Fit M tau = counts-fit M tau counts in
      let s = challenge-sound M tau n hstar bound (omega (arith, fit.below)) some in
      ap (ask_of n) (entry j)
      ∙ asks-beside n M 0 (instances M tau (stream_of tau hstar bound)) (hidden_parties tau n (stream_of tau hstar bound)) (omega (arith, fit.most))
      s.ascending s.hidden j

  -- of all instances
  pub asks-same : asks_in n table ≡ challenged M tau n hstar bound
  asks-same = fun_ext asks-challenged

  -- no party beyond n is named
  pub asking-challenge : Asking n table
  unfolding challenge_of
  asking-challenge =
      let fit : Fit M tau = counts-fit M tau counts in
      let s = challenge-sound M tau n hstar bound (omega (arith, fit.below)) some in
      let low = party-beside n (instances M tau (stream_of tau hstar bound)) (hidden_parties tau n (stream_of tau hstar bound)) s.hidden in
      record { parties = λ j. rw (entry j) (low j) }

-- what a challenge can be drawn from
module _ (M tau n : ℕ) (hstar salt y message : List ℕ) (d : Drawable M tau n hstar salt y message) where
  -- an array of 1533 bytes holds the challenge
  pub few-choices : 3 * tau ≤ 1533
  few-choices = let fit : Fit M tau = counts-fit M tau d.counts in omega (arith, fit.most, fit.below)

  -- the number of parties is a byte
  pub few-parties : n < 256
  few-parties =
      let tree : Tree n (height_of n) = record { parties = d.parties; height = refl } in
      omega (arith, (tree-sizes n (height_of n) tree).few)

-- the tests of the lengths, where they pass
statement-fits : (hstar salt digest y message : List ℕ) → length hstar ≡ 32 → length salt ≡ 32 → length digest ≡ 32 → 1 ≤ length y → length y ≤ max_output_bytes
    → length message ≤ max_message → statement_fits hstar salt digest y message ≡ true
unfolding statement_fits
statement-fits hstar salt digest y message a z b c d e =
    rw (
      eq-eqb (length hstar) 32 a,
      eq-eqb (length salt) 32 z,
      eq-eqb (length digest) 32 b,
      le-leb 1 (length y) c,
      le-leb (length y) max_output_bytes d,
      le-leb (length message) max_message e,
    )

-- the operation on the digest of a file, where its tests pass: what it leaves
module _ (s : List ℕ) (M tau n : ℕ) (hstar salt y message lent : List ℕ) (h : Drawable M tau n hstar salt y message)
    (room : length lent ≡ 3 * tau) where
  challenge-passed : challenge_op M tau n hstar salt (sha3_256 s) y message lent ≡ done (challenge_of M tau n hstar (statement_of salt M tau n s y message) ∷ [])
  unfolding challenge_op statement_of
  challenge-passed =
      rw (
        h.counts,
        h.parties,
        statement-fits hstar salt (sha3_256 s) y message h.hstar_size h.salt_size (length-sha3-256 s) h.y_least h.y_most h.short,
        eq-eqb (length lent) (3 * tau) room,
      )

  pub challenge-drawn : (digest left : List ℕ) (r : Result ⊤ Refusal) → digest ≡ sha3_256 s → outcome r left ≡ challenge_op M tau n hstar salt digest y message lent
      → left ≡ challenge_of M tau n hstar (statement_of salt M tau n s y message)
  challenge-drawn digest left r d e =
      ap (λ (o : Outcome). get_or o.left 0 [])
      (e ∙ ap (λ (z : List ℕ). challenge_op M tau n hstar salt z y message lent) d ∙ challenge-passed)
