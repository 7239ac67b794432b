-- The header of a proof: its test as the code makes it, and what a good header says of its numbers.
-- Assumes nothing.
use mathlib.Core.Path.{◌≡◌, refl, sym, ap, ap₂, ◌∙◌}
use mathlib.Core.Bool.{Bool, true, false, not, ◌&&◌, and-false}
use mathlib.Core.List.{List}
use mathlib.Core.Logic.{◌⊎◌, inl, inr}
use Prim.Native.Nat.{ℕ, ◌≤◌, ◌<◌}
use native.Mathlib.Omega.{arith}
use borrow.Author.Tests.{leb-true, le-leb, lt-leb, eq-eqb, ne_eqb}
use lib.Dec.{eqb, leb}
use Rattle.std.specs.Prelude.{cond, Option, Some, None}
use Rattle.std.proofs.lemmas.Option.{none-some, cond_some}
use lib.ListN.{length, drop, length-drop}
use lib.Seq.{length-take-le}
use Rattle.bits.proofs.Tests.{and-true-left, and-true-right}
use Rattle.parties.specs.Parties.{height_of, is_party_count}
use Rattle.parties.proofs.Counts.{Sizes, sizes, Count, count_yes, count_no}
use Rattle.seeds.specs.Operations.{are_counts}
use Rattle.seeds.proofs.Instances.{counts-fit}
use Rattle.proof.proofs.Passing.{has-height}
use Rattle.proof.specs.File.{header_m, header_tau, header_n, header_zero, header_hstar, header_salt, good_header}
use Rattle.proof.specs.declared.Counts.{Counts}
use Rattle.proof_tests.specs.Steps.{counts_of, header_counts, Headed}

-- no counts, where the header is not good
none-is : (proof : List ℕ) → good_header proof ≡ false → None ≡ header_counts proof
unfolding header_counts
none-is proof e = rw e refl

-- fewer bytes than a header has
pub short-header : (proof : List ℕ) → length proof < 70 → None ≡ header_counts proof
unfolding header_counts good_header
short-header proof l = rw (lt-leb 70 (length proof) l) refl

-- 70 bytes or more: the other tests, in the numbers that are read
module _ (proof : List ℕ) (m tau n : ℕ) (long : 70 ≤ length proof) (e1 : m ≡ header_m proof) (e2 : tau ≡ header_tau proof) (e3 : n ≡ header_n proof) where
  tests-read : are_counts m tau && (is_party_count n && eqb (header_zero proof) 0) ≡ good_header proof
  unfolding good_header
  tests-read =
      ap₂ ◌&&◌ (ap₂ are_counts e1 e2) (ap (λ (x : ℕ). is_party_count x && eqb (header_zero proof) 0) e3)
      ∙ rw (le-leb 70 (length proof) long)

  -- n is no party count
  pub header-lone : height_of n ≡ 0 → None ≡ header_counts proof
  header-lone e = none-is proof (sym tests-read ∙ rw (count_no n e) (and-false (are_counts m tau)))

  -- the test of M and tau is a; it fails, or that of the zero byte fails
  module _ (a : Bool) (f1 : a ≡ are_counts m tau) where
    pub header-fails : (a ≡ false) ⊎ ((a ≡ true) × (header_zero proof ≡ 0 → ⊥)) → None ≡ header_counts proof
    header-fails (inl p) = none-is proof (sym tests-read ∙ rw (sym f1 ∙ p) refl)
    header-fails (inr p) = none-is proof (sym tests-read ∙ rw (ne_eqb (header_zero proof) 0 p.1, and-false (is_party_count n)) (and-false (are_counts m tau)))

    -- they pass
    module _ (h : ℕ) (c : Count n h) (t : a ≡ true) (z : header_zero proof ≡ 0) where
      passes : good_header proof ≡ true
      passes = sym tests-read ∙ rw (sym f1 ∙ t, count_yes n c.some, eq-eqb (header_zero proof) 0 z) refl

      read-so : h ≡ height_of (header_n proof)
      read-so = c.is ∙ ap height_of e3

      pub header-passes : Some (record { instances = m; chosen = tau; parties = n; height = h }) ≡ header_counts proof
      unfolding header_counts counts_of
      header-passes = rw passes (λ i. Some (record { instances = e1 i; chosen = e2 i; parties = e3 i; height = read-so i }))

-- the counts of a good header
pub record Header (proof : List ℕ) (k : Counts) : Type 0 where
  pub good : not (good_header proof) ≡ false
  pub is_M : k.instances ≡ header_m proof
  pub is_tau : k.chosen ≡ header_tau proof
  pub is_n : k.parties ≡ header_n proof
  pub is_height : k.height ≡ height_of k.parties

pub header-some : (proof : List ℕ) (k : Counts) (o : Option Counts) → o ≡ header_counts proof → o ≡ Some k → Header proof k
unfolding header_counts counts_of
header-some proof k o e i =
    let p = cond_some (good_header proof) (counts_of proof) k (sym e ∙ i) in
    let n : header_n proof ≡ k.parties = ap (λ (x : Counts). x.parties) p.1 in
    record {
      good = ap not p.0;
      is_M = sym (ap (λ (x : Counts). x.instances) p.1);
      is_tau = sym (ap (λ (x : Counts). x.chosen) p.1);
      is_n = sym n;
      is_height = sym (ap (λ (x : Counts). x.height) p.1) ∙ ap height_of n;
    }

pub header-none : (proof : List ℕ) (o : Option Counts) → o ≡ header_counts proof → o ≡ None → not (good_header proof) ≡ true
unfolding header_counts
header-none proof o e i = fallen (good_header proof) (counts_of proof) (sym e ∙ i)
  where
    fallen : (b : Bool) (x : Counts) → cond b (Some x) None ≡ None → not b ≡ true
    fallen true x q = absurd (none-some x (sym q))
    fallen false x q = refl

-- a good header
module _ (proof : List ℕ) (good : good_header proof ≡ true) where
  -- its tests, one by one
  tests : (leb 70 (length proof) ≡ true) × ((are_counts (header_m proof) (header_tau proof) ≡ true) × (is_party_count (header_n proof) ≡ true))
  unfolding good_header
  tests =
      let a : Bool = leb 70 (length proof) in
      let b : Bool = are_counts (header_m proof) (header_tau proof) in
      let c : Bool = is_party_count (header_n proof) in
      let d : Bool = eqb (header_zero proof) 0 in
      let bcd = and-true-right a (b && (c && d)) good in
      (and-true-left a (b && (c && d)) good, (and-true-left b (c && d) bcd, and-true-left c d (and-true-right b (c && d) bcd)))

  -- its bytes are there
  pub header-long : 70 ≤ length proof
  header-long = leb-true 70 (length proof) tests.0

  -- M and tau are within the limits
  pub header-counts : are_counts (header_m proof) (header_tau proof) ≡ true
  header-counts = tests.1.0

  -- n is a party count
  pub header-parties : is_party_count (header_n proof) ≡ true
  header-parties = tests.1.1

  -- the salt has 32 bytes
  pub salt-length : length (header_salt proof) ≡ 32
  salt-length = length-take-le 32 (drop 38 proof) (omega (arith, length-drop 38 proof, header-long))

  -- h* has 32 bytes
  pub hstar-length : length (header_hstar proof) ≡ 32
  hstar-length = length-take-le 32 (drop 6 proof) (omega (arith, length-drop 6 proof, header-long))

-- the numbers of a good header
module _ (M tau n : ℕ) (y message proof : List ℕ) (head : Headed M tau n y message proof) where
  pub headed-counts : are_counts M tau ≡ true
  headed-counts = ap₂ are_counts head.is_M head.is_tau ∙ header-counts proof head.good

  pub headed-parties : is_party_count n ≡ true
  headed-parties = ap is_party_count head.is_n ∙ header-parties proof head.good

  -- there are parties
  pub headed-some : 0 < n
  headed-some = let z : Sizes n = sizes n (has-height n headed-parties) in omega (arith, z.some)

  -- the instances are few
  pub headed-few : M ≤ 512
  headed-few = (counts-fit M tau headed-counts).most
