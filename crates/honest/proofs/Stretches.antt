-- The stretch of an instance, checked: the digests, the unused bits and the output that it gives.
-- Assumes nothing.
use mathlib.Core.Path.{◌≡◌, refl, ap}
use mathlib.Core.Bool.{true, false}
use mathlib.Core.List.{List}
use Prim.Native.Nat.{ℕ}
use lib.ListN.{length}
use Rattle.hashing.specs.declared.Context.{Context}
use Rattle.parties.specs.Parties.{height_of}
use Rattle.circuit.specs.Circuit.{Circuit}
use Rattle.hiding.specs.Hiding.{Witness}
use Rattle.instance.specs.Instance.{Asked, opened, hiding, is_chosen, master_commitments, master_online, stretch_of}
use Rattle.instance.specs.Opened.{stretch_commitments, stretch_online, stretch_unused}
use Rattle.honest.proofs.Opened.{unused-back, opened-commitments, opened-online}
use Rattle.honest.proofs.Asking.{Below}

-- instance j of n parties on a witness
module _ (c : Circuit) (n : ℕ) (j : Context) (count : height_of n ≡ 0 → ⊥) (witness master : List ℕ) (size : length master ≡ 16) where
  -- h_j, where its master is known if it is not chosen
  pub commitments-given : (a : Asked) → Below n a → (known : List ℕ) → (is_chosen a ≡ false → known ≡ master)
      → stretch_commitments c n j known (stretch_of c n j witness master a) a ≡ master_commitments c n j master
  unfolding stretch_commitments is_chosen
  commitments-given opened b known same = ap (master_commitments c n j) (same refl)
  commitments-given (hiding p) b known same = opened-commitments c n j p count (b p refl) witness master size

  -- h'_j
  pub online-given : Witness c witness → (a : Asked) → Below n a
      → stretch_online c n j (stretch_of c n j witness master a) a ≡ master_online c n j witness master
  unfolding stretch_online stretch_of
  online-given hw opened b = refl
  online-given hw (hiding p) b = opened-online c n j p count (b p refl) witness master size hw

  -- no unused bit is set
  pub unused-given : (a : Asked) → Below n a → stretch_unused c n (stretch_of c n j witness master a) a ≡ true
  unfolding stretch_unused
  unused-given opened b = refl
  unused-given (hiding p) b = unused-back c n j p count (b p refl) witness master size
