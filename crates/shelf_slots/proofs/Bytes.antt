-- Runs of stores, and parts of a list.
-- Assumes nothing.
use mathlib.Core.Path.{◌≡◌, sym, ◌∙◌}
use mathlib.Core.List.{List}
use Prim.Native.Nat.{ℕ, ◌+◌, ◌≤◌, ◌<◌}
use native.Mathlib.Omega.{arith}
use lib.ListN.{length, get_or, take, drop, length-drop}
use lib.Seq.{sets, length-take-le, length-sets, get_or-take, get_or-drop, ext_get_or}
use Rattle.bits.proofs.Little.{get_d_sets}

-- n bytes from place k on, known byte by byte
pub part_ext : (r l : List ℕ) (k n : ℕ) → length r ≡ n → k + n ≤ length l → ((i : ℕ) → i < n → get_or r i 0 ≡ get_or l (k + i) 0) → r ≡ take n (drop k l)
part_ext r l k n e h f =
    let z : length (take n (drop k l)) ≡ n = length-take-le n (drop k l) (rw length-drop (omega arith)) in
    ext_get_or 0 r (take n (drop k l)) (e ∙ sym z)
    (λ i m. let q : i < n = omega arith in f i q ∙ sym (get_or-take n (drop k l) i 0 q ∙ get_or-drop k l i 0))

-- the part that a run of stores fills
pub part-put : (vs l : List ℕ) (k n : ℕ) → length vs ≡ n → k + n ≤ length l → take n (drop k (sets l k vs)) ≡ vs
part-put vs l k n e h =
    sym (part_ext vs (sets l k vs) k n e (omega (arith, length-sets l k vs)) (λ i m. sym (get_d_sets 0 vs l k i (omega arith) (omega arith))))
