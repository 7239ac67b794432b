-- Every sound page can start a history: beside it stands a plain shelf whose ready roots are named past the places in the list of events.
-- Assumes nothing.
use mathlib.Core.Path.{◌≡◌, refl, ap, ◌∙◌}
use mathlib.Core.Bool.{true}
use mathlib.Core.List.{List, [], ◌∷◌}
use mathlib.Core.Logic.{◌≢◌, ⊎_elim}
use Prim.Native.Nat.{ℕ, suc, ◌≤◌, ◌<◌}
use native.Mathlib.Omega.{arith}
use lib.ListN.{length, get_or}
use Rattle.bits.proofs.Numbers.{eq-or-ne}
use Rattle.bits.specs.Counting.{count}
use Rattle.bits.proofs.Counting.{count-nil, count_same, count-other}
use Rattle.shelf_page.specs.Page.{size_of, draws_of, ready_roots, sound}
use Rattle.shelf.specs.Plain.{Named, Plain, names, roots}
use Rattle.shelf.specs.History.{Event, IsStart}

-- the roots of a list, named n, n + 1, ..
named : ℕ → List (List ℕ) → List Named
named n [] = []
named n (r ∷ l) = record { name = n; root = r } ∷ named (suc n) l

-- names aside, they are the roots
roots-named : (n : ℕ) (l : List (List ℕ)) → roots (named n l) ≡ l
unfolding named
roots-named n [] = refl
roots-named n (r ∷ l) = ap (λ (t : List (List ℕ)). r ∷ t) (roots-named (suc n) l)

-- no name is below n
named_past : (n : ℕ) (l : List (List ℕ)) (x : ℕ) → x < n → count x (names (named n l)) ≡ 0
unfolding named
named_past n [] x h = count-nil x
named_past n (r ∷ l) x h = count-other x n (names (named (suc n) l)) (λ e. absurd (omega arith)) ∙ named_past (suc n) l x (omega arith)

-- no two names are alike
named-once : (n : ℕ) (l : List (List ℕ)) (x : ℕ) → count x (names (named n l)) ≤ 1
unfolding named
named-once n [] x = omega (arith, count-nil x)
named-once n (r ∷ l) x =
    ⊎_elim
    (λ (e : x ≡ n). rw e (omega (arith, count_same n (names (named (suc n) l)), named_past (suc n) l n (omega arith))))
    (λ (e : x ≢ n). omega (arith, count-other x n (names (named (suc n) l)) e, named-once (suc n) l x))
    (eq-or-ne x n)

-- "It starts at any sound page whose draws equals the log's count": whatever the events, there is a plain shelf to start with
pub start-exists : (page : List ℕ) (log : ℕ) (events : List Event) → ((i : ℕ) → get_or page i 0 < 256) → sound page ≡ true → draws_of page ≡ log
    → (plain : Plain) × IsStart page log plain events
start-exists page log events bytes is_sound is_log =
    let n = length events in
    let l = ready_roots page in (
      record { size = size_of page; draws = draws_of page; ready = named n l },
      record {
        bytes = bytes;
        is_sound = is_sound;
        is_log = is_log;
        size = refl;
        draws = refl;
        ready = roots-named n l;
        distinct = named-once n l;
        no_place = named_past n l;
      },
    )
