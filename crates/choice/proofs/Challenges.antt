-- What holds of every challenge.
-- Assumes nothing.
use native.Mathlib.Omega.{arith}
use native.Mathlib.Nat.{mod-lt, le_trans}
use mathlib.Core.Path.{◌≡◌, refl, sym, ap, ◌∙◌}
use mathlib.Core.Bool.{Bool, true, false}
use mathlib.Core.List.{List, [], ◌∷◌}
use Prim.Native.Nat.{ℕ, zero, suc, ◌+◌, ◌*◌, ◌≤◌, ◌<◌}
use lib.ListN.{length, get_or, drop, length-drop, length-append}
use Rattle.bits.specs.Bytes.{le_bytes}
use Rattle.bits.proofs.Little.{length-le_bytes}
use Rattle.choice.specs.Challenge.{drawn, chosen_from, parties_of, stream_of, instances, hidden_parties, beside, challenge_of, Ascending, none, more, ChallengeSound, ChallengeLength}
use Rattle.keccak.proofs.Lengths.{length-shake256}
use Rattle.choice.proofs.Choosing.{length-drawn, length-instances}

-- from a lower number on
lower : {hi lo lo' : ℕ} {is : List ℕ} → lo' ≤ lo → Ascending hi lo is → Ascending hi lo' is
lower w none = none
lower w (more a b r) = more (le_trans w a) b r

-- the chosen instances are ascending, and below the number of instances
pub chosen-ascending : (hi i : ℕ) (f : List Bool) → i + length f ≤ hi → Ascending hi i (chosen_from i f)
unfolding chosen_from
chosen-ascending hi i [] w = none
chosen-ascending hi i (true ∷ f) w = more {lo = i} {i = i} (omega arith) (omega arith) (chosen-ascending hi (i + 1) f (omega arith))
chosen-ascending hi i (false ∷ f) w = lower {lo = i + 1} {lo' = i} (omega arith) (chosen-ascending hi (i + 1) f (omega arith))

-- each hidden party is below n
pub parties-below : (n : ℕ) (bytes : List ℕ) → 0 < n → (k : ℕ) → get_or (parties_of n bytes) k 0 < n
unfolding parties_of
parties-below n [] h k = h
parties-below n (b ∷ bytes) h zero = mod-lt b h
parties-below n (b ∷ bytes) h (suc k) = parties-below n bytes h k

length-parties : (n : ℕ) (bytes : List ℕ) → length (parties_of n bytes) ≡ length bytes
unfolding parties_of
length-parties n [] = refl
length-parties n (b ∷ bytes) = ap suc (length-parties n bytes)

length-beside : (is ps : List ℕ) → length is ≡ length ps → length (beside is ps) ≡ 3 * length is
unfolding beside
length-beside [] ps e = refl
length-beside (i ∷ is) [] e = absurd (omega arith)
length-beside (i ∷ is) (p ∷ ps) e =
    length-append (le_bytes 2 i) (p ∷ beside is ps) ∙ omega (arith, length-le_bytes 2 i, length-beside is ps (omega arith))

-- a challenge has tau instances below M, ascending and all different, each with a hidden party below n
pub challenge-sound : ChallengeSound
unfolding instances hidden_parties stream_of
challenge-sound M tau n hstar bound w h =
    let s : List ℕ = stream_of tau hstar bound in
    let l : length s ≡ 9 * tau = length-shake256 _ (9 * tau) in
    record {
      count = length-instances M s tau w;
      ascending = chosen-ascending M 0 (drawn M s tau) (omega (arith, length-drawn M s tau));
      paired = length-parties n (drop (8 * tau) s) ∙ (length-drop (8 * tau) s ∙ omega arith);
      hidden = parties-below n (drop (8 * tau) s) h;
    }

pub length-challenge : ChallengeLength
unfolding challenge_of
length-challenge M tau n hstar bound w h =
    let s : List ℕ = stream_of tau hstar bound in
    let k = challenge-sound M tau n hstar bound w h in
    length-beside (instances M tau s) (hidden_parties tau n s) (k.count ∙ sym k.paired) ∙ ap (λ (y : ℕ). 3 * y) k.count
