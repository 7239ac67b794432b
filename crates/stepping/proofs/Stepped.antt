-- The digests over the instances so far, one instance more, and at the end.
-- Assumes nothing.
use mathlib.Core.Path.{◌≡◌, refl, sym, ap, ap₂, ◌∙◌}
use mathlib.Core.Bool.{Bool}
use mathlib.Core.List.{List, [], flatten}
use Prim.Native.Nat.{ℕ, ◌+◌, ◌<◌}
use Rattle.bits.specs.Bits.{tabulate}
use Rattle.bits.specs.Bytes.{same_bytes}
use Rattle.keccak.specs.declared.sponge.Sponge.{Sponge}
use Rattle.keccak.specs.Steps.{absorbs}
use Rattle.keccak.proofs.Absorbing.{Bytes}
use Rattle.circuit.specs.Circuit.{Circuit}
use Rattle.hashing.specs.Inputs.{all_commitments_input, all_online_input}
use Rattle.hashing.specs.Digest.{transcript_of, taken, given}
use Rattle.instance.specs.Instance.{Asked}
use Rattle.proof.specs.File.{header_hstar}
use Rattle.stepping.specs.declared.Running.{Running}
use Rattle.stepping.specs.RunningDigests.{started, more, hstar_in}
use Rattle.proof_tests.specs.Steps.{commitments_at, online_at, recomputed}
use Rattle.proof_tests.proofs.Verified.{sponge-room, commitments-none, commitments-turn, online-none, online-turn, hstar-made}

pub started-both : (a o : Sponge) → a ≡ taken (all_commitments_input []) → o ≡ taken (all_online_input []) → ◌≡◌ {A = Running} (record { commitments = a; online = o }) started
unfolding started
started-both a o p q = rw (p, q)

pub more-both : (d : Running) (h g : List ℕ) (a o : Sponge) → a ≡ absorbs 136 d.commitments h → o ≡ absorbs 136 d.online g
    → ◌≡◌ {A = Running} (record { commitments = a; online = o }) (more d h g)
unfolding more
more-both d h g a o p q = rw (p, q)

pub hstar-same : (d : Running) (proof h g hstar : List ℕ) (b : Bool) → h ≡ given d.commitments → g ≡ given d.online → hstar ≡ transcript_of h g
    → b ≡ same_bytes hstar (header_hstar proof) → b ≡ same_bytes (hstar_in d) (header_hstar proof)
unfolding hstar_in
hstar-same d proof h g hstar b p q r e = e ∙ ap (λ (x : List ℕ). same_bytes x (header_hstar proof)) (r ∙ ap₂ transcript_of p q)

-- the instances of a proof
module _ (c : Circuit) (M n : ℕ) (ask : ℕ → Asked) (proof : List ℕ) where
  -- the sponges after j of them
  abbrev pub running : ℕ → Running
  running j =
      record {
        commitments = taken (all_commitments_input (flatten (tabulate j (commitments_at c M n ask proof))));
        online = taken (all_online_input (flatten (tabulate j (online_at c M n ask proof))));
      }

  pub running_none : started ≡ running 0
  unfolding started
  running_none = rw (sym (commitments-none (commitments_at c M n ask proof) _ refl), sym (online-none (online_at c M n ask proof) _ refl))

  -- one more
  pub running_more : (j : ℕ) → more (running j) (commitments_at c M n ask proof j) (online_at c M n ask proof j) ≡ running (j + 1)
  unfolding more
  running_more j =
      rw (
        commitments-turn (commitments_at c M n ask proof) j _ _ _ refl refl refl,
        online-turn (online_at c M n ask proof) j _ _ _ refl refl refl,
      )

  -- they have room for the next digest
  pub running-room : (j : ℕ) → ((running j).commitments.fill < 136) × ((running j).online.fill < 136)
  running-room j = (sponge-room _ _ refl, sponge-room _ _ refl)

  -- after the last, their h* is the recomputed one
  pub running-end : Bytes proof → hstar_in (running M) ≡ recomputed c M n ask proof
  unfolding hstar_in
  running-end bytes = hstar-made c M n ask proof bytes M M _ _ _ _ _ refl refl refl refl refl refl
