-- An honest proof fits into the buffer that prove asks for.
-- Assumes nothing.
use mathlib.Core.Path.{◌≡◌, refl, sym, ap, ◌∙◌}
use mathlib.Core.Bool.{Bool, true, false, cond}
use mathlib.Core.List.{List, [], ◌∷◌}
use mathlib.Core.Logic.{⊎_elim}
use Prim.Native.Nat.{ℕ, zero, suc, ◌+◌, ◌-◌, ◌*◌, ◌≤◌, ◌<◌}
use native.Mathlib.Nat.{suc-mul, zero-mul}
use native.Mathlib.Omega.{arith}
use lib.Dec.{eqb}
use lib.ListN.{length}
use Rattle.bits.specs.Bits.{oct}
use Rattle.bits.proofs.Numbers.{lt-or-le}
use Rattle.parties.specs.Parties.{height_of, is_party_count}
use Rattle.parties.proofs.Counts.{sizes}
use Rattle.circuit.specs.Circuit.{Circuit}
use Rattle.plain.specs.Tapes.{ands_of}
use Rattle.cover.specs.Masters.{height, master_of, cover_bytes}
use Rattle.cover.proofs.Covering.{cover-length}
use Rattle.cover.proofs.Least.{least-height}
use Rattle.choice.specs.Challenge.{stream_of, instances, hidden_parties, Sound}
use Rattle.choice.proofs.Challenges.{challenge-sound}
use Rattle.seeds.specs.Operations.{are_counts}
use Rattle.seeds.proofs.Instances.{Fit, counts-fit}
use Rattle.instance.specs.Instance.{Asked, opened, hiding}
use Rattle.instance.specs.Stretch.{correction_bytes, stretch_bytes}
use Rattle.proof.specs.Protocol.{asked, challenged, first_message}
use Rattle.proof.specs.File.{hides, stretch_start, proof_bytes, proof_room}
use Rattle.proof.specs.Prove.{proof_of}
use Rattle.proof.proofs.Chosen.{others-stay, count-chosen}
use Rattle.proof.proofs.Written.{length-proof}
use Rattle.proof.proofs.Passing.{has-height}

-- n parties
module _ (c : Circuit) (n : ℕ) where
  -- the bytes of the longest stretch
  abbrev longest : ℕ
  longest = 16 * height_of n + oct (ands_of c) + 32 + oct c.inputs + oct (ands_of c + length c.outputs)

  -- the corrections that are sent are all, or none
  corrections-most : (p : ℕ) → correction_bytes c n p ≤ oct (ands_of c)
  unfolding correction_bytes
  corrections-most p = go (eqb (suc p) n)
    where
      go : (b : Bool) → cond b 0 (oct (ands_of c)) ≤ oct (ands_of c)
      go true = omega arith
      go false = omega arith

  -- no stretch is longer, and none is shorter than 32 bytes
  stretch-most : (a : Asked) → stretch_bytes c n a ≤ longest
  unfolding stretch_bytes
  stretch-most opened = omega arith
  stretch-most (hiding p) = omega (arith, corrections-most p)

  stretch-least : (a : Asked) → 32 ≤ stretch_bytes c n a
  unfolding stretch_bytes
  stretch-least opened = omega arith
  stretch-least (hiding p) = omega arith

  -- the bytes of the first m stretches
  stretches : (ℕ → Asked) → ℕ → ℕ
  stretches ask zero = 0
  stretches ask (suc m) = stretches ask m + stretch_bytes c n (ask m)

  -- they come after the header and the opened nodes
  start_is : (M : ℕ) (ask : ℕ → Asked) (m : ℕ) → stretch_start c M n ask m ≡ 70 + cover_bytes M (hides ask) + stretches ask m
  unfolding stretch_start stretches
  start_is M ask zero = omega arith
  start_is M ask (suc m) = omega (arith, start_is M ask m)

  -- one instance i more is chosen
  module _ (i p : ℕ) (is ps : List ℕ) where
    -- the stretches up to it stay as they were
    stretches-stay : (m : ℕ) → m ≤ i → stretches (asked (i ∷ is) (p ∷ ps)) m ≡ stretches (asked is ps) m
    unfolding stretches
    stretches-stay zero h = refl
    stretches-stay (suc m) h = rw (stretches-stay m (omega arith), others-stay i p is ps m (omega arith))

    -- the others move by the difference of the longest and the shortest stretch, or less
    stretches-move : (m : ℕ) → stretches (asked (i ∷ is) (p ∷ ps)) m + 32 ≤ stretches (asked is ps) m + longest
    unfolding stretches
    stretches-move zero = omega arith
    stretches-move (suc m) =
        ⊎_elim
        (λ (h : m < suc i).
        let e : stretches (asked (i ∷ is) (p ∷ ps)) m ≡ stretches (asked is ps) m = stretches-stay m (omega arith) in
        omega (arith, stretch-most (asked (i ∷ is) (p ∷ ps) m), stretch-least (asked is ps m)))
        (λ (h : suc i ≤ m).
        let e : stretch_bytes c n (asked (i ∷ is) (p ∷ ps) m) ≡ stretch_bytes c n (asked is ps m) =
        ap (stretch_bytes c n) (others-stay i p is ps m (omega arith)) in
        omega (arith, stretches-move m))
        (lt-or-le m (suc i))

  -- none chosen
  stretches-opened : (ps : List ℕ) (m : ℕ) → stretches (asked [] ps) m ≡ 32 * m
  unfolding stretches asked stretch_bytes
  stretches-opened ps zero = refl
  stretches-opened ps (suc m) = omega (arith, stretches-opened ps m)

  -- the bytes, where the instances is are chosen
  stretches-most : (is ps : List ℕ) → length is ≡ length ps → (m : ℕ)
      → stretches (asked is ps) m + 32 * length is ≤ 32 * m + length is * longest
  stretches-most [] ps e m = omega (arith, stretches-opened ps m, zero-mul longest)
  stretches-most (i ∷ is) [] e m = absurd (omega arith)
  stretches-most (i ∷ is) (p ∷ ps) e m =
      omega (arith, stretches-move i p is ps m, stretches-most is ps (omega arith) m, suc-mul (length is) longest)

-- a challenge of tau of M instances, by n parties
module _ (c : Circuit) (M tau n : ℕ) (hstar bound : List ℕ) (counts : are_counts M tau ≡ true) (parties : is_party_count n ≡ true) where
  abbrev ask : ℕ → Asked
  ask = challenged M tau n hstar bound

  some : 0 < n
  some = omega (arith, (sizes n (has-height n parties)).some)

  -- at most a node is opened for each instance that is not chosen
  pub nodes-most : cover_bytes M (hides ask) ≤ 16 * (M - tau)
  unfolding cover_bytes
  nodes-most =
      let l = cover-length (height M) M tau (hides ask) (least-height.fits M) (count-chosen M tau n hstar bound counts some) in
      omega (arith, l)

  -- the stretches
  stretches-fit : stretches c n ask M + 32 * tau ≤ 32 * M + tau * longest c n
  unfolding challenged
  stretches-fit =
      let fit : Fit M tau = counts-fit M tau counts in
      let is : List ℕ = instances M tau (stream_of tau hstar bound) in
      let ps : List ℕ = hidden_parties tau n (stream_of tau hstar bound) in
      let s : Sound M tau n is ps = challenge-sound M tau n hstar bound (omega (arith, fit.below)) some in
      rw s.count at (stretches-most c n is ps (s.count ∙ sym s.paired) M)

  -- the length that a challenge implies is at most the room that prove asks for
  pub challenge-fits : proof_bytes c M n ask ≤ proof_room c M tau n
  unfolding proof_room
  challenge-fits =
      let fit : Fit M tau = counts-fit M tau counts in
      omega (arith, start_is c n M ask M, nodes-most, stretches-fit, fit.below)

-- so is that of an honest proof
pub proof-fits : (c : Circuit) (M tau n : ℕ) (salt witness bound root : List ℕ) → length salt ≡ 32 → length root ≡ 16 → are_counts M tau ≡ true → is_party_count n ≡ true
    → length (proof_of c M tau n salt witness bound root) ≤ proof_room c M tau n
proof-fits c M tau n salt witness bound root salted size h i =
    omega (
      arith,
      length-proof c M tau n salt witness bound root salted size,
      challenge-fits c M tau n (first_message c M n salt witness (master_of M salt root)) bound h i,
    )
