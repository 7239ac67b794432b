-- The two promises of order 9 on who is served, over every history.
-- Assumes nothing.
use mathlib.Core.Path.{◌≡◌, refl, sym, ap, ◌∙◌, subst}
use mathlib.Core.Bool.{Bool, true, false, ◌||◌, true≢false}
use mathlib.Core.List.{List, [], ◌∷◌, ◌++◌, append_assoc}
use mathlib.Core.Option.{Option, none, some}
use mathlib.Core.Logic.{◌≢◌}
use Prim.Native.Nat.{ℕ, suc, ◌≤◌, ◌<◌}
use native.Mathlib.Omega.{arith}
use borrow.Author.Tests.{eqb-false}
use lib.Dec.{eqb}
use lib.ListN.{length}
use Rattle.schedule.specs.Schedule.{begin, Service}
use Rattle.schedule.specs.History.{Event, services}
use Rattle.schedule.specs.Fair.{waits_at, served_in, Within, Between}
use Rattle.schedule.proofs.Order.{rank, rank_lt, rank-after, rank-apart, rank-last, next-first}
use Rattle.schedule.proofs.Chain.{and_first, and_second, Follows, last_of, follows-first, follows-rest, last_within, history-follows}

pub or-first : (a b : Bool) → a || b ≡ false → a ≡ false
or-first true b e = e
or-first false b e = refl

pub or-second : (a b : Bool) → a || b ≡ false → b ≡ false
or-second true b e = absurd (true≢false e)
or-second false b e = e

module _ {Verdict : Type 0} (N c : ℕ) (cN : c < N) where
  -- a service of another while c waits: that one stands before c
  before-c : (last : Option ℕ) (s : Service Verdict) (ss : List (Service Verdict)) → begin last ≤ N → Follows N last (s ∷ ss) → s.waited c ≡ true
      → s.caller ≢ c → (s.caller < N) × (rank N (begin last) s.caller < rank N (begin last) c)
  unfolding Follows
  before-c last s ss l f w ne =
      let n = next-first N last s.waited s.caller l f.0 in
      let m = n.least c cN w in
      let a : rank N (begin last) s.caller ≢ rank N (begin last) c =
      λ e. ne (rank-apart N (begin last) c l cN s.caller n.within e) in
      (n.within, omega arith)

  -- services that are all others' while c waits are at most as many as stand before c
  short : (last : Option ℕ) (row : List (Service Verdict)) → begin last ≤ N → Follows N last row → waits_at c row ≡ true → served_in c row ≡ false
      → length row ≤ rank N (begin last) c
  unfolding Follows waits_at served_in
  short last [] l f w n = omega arith
  short last (s ∷ ss) l f w n =
      let e = s.caller in
      let b = before-c last s ss l f (and_first (s.waited c) (waits_at c ss) w) (eqb-false e c (or-first (eqb e c) (served_in c ss) n)) in
      let h = short (some e) ss b.0 f.2 (and_second (s.waited c) (waits_at c ss) w) (or-second (eqb e c) (served_in c ss) n) in
      omega (arith, rank-after N (begin last) c l cN e b.0 b.1)

  -- while c waits and is not served, no caller is served before which c stands
  not-passed : (last : Option ℕ) (row : List (Service Verdict)) (s : Service Verdict) → begin last ≤ N → Follows N last (row ++ (s ∷ [])) → s.caller < N
      → rank N (begin last) c < rank N (begin last) s.caller → waits_at c (row ++ (s ∷ [])) ≡ true → served_in c row ≡ false → ⊥
  unfolding Follows waits_at served_in
  not-passed last [] s l f aN r w n =
      let m = (next-first N last s.waited s.caller l f.0).least c cN (and_first (s.waited c) true w) in
      omega arith
  not-passed last (t ∷ row) s l f aN r w n =
      let e = t.caller in
      let x = waits_at c (row ++ (s ∷ [])) in
      let y = served_in c row in
      let b = before-c last t (row ++ (s ∷ [])) l f (and_first (t.waited c) x w) (eqb-false e c (or-first (eqb e c) y n)) in
      let u = rank-after N (begin last) c l cN e b.0 b.1 in
      let v = rank-after N (begin last) s.caller l aN e b.0 (omega (arith, b.1)) in
      not-passed (some e) row s b.0 f.2 aN (omega arith) (and_second (t.waited c) x w) (or-second (eqb e c) y n)

-- a test that is not false is true
pub is_true : (t : Bool) → (t ≡ false → ⊥) → t ≡ true
is_true true h = refl
is_true false h = absurd (h refl)

-- a part of a history: its services follow one another after those before
part : {Job Verdict : Type 0} (N : ℕ) (events : List (Event Job Verdict)) (before rest : List (Service Verdict)) → services N events ≡ before ++ rest
    → (begin (last_of none before) ≤ N) × Follows N (last_of none before) rest
part N events before rest e =
    let f = subst (Follows N none) e (history-follows N events) in
    (last_within N none before (omega arith) (follows-first N none before rest f), follows-rest N none before rest f)

-- of any N services in a row at which a caller waits, one is its own
pub within : Within
within Job Verdict N events before row after c e len cN w =
    let p = part N events before (row ++ after) (e ∙ append_assoc before row after) in
    let last = last_of none before in
    is_true (served_in c row) λ n.
    let h = short N c cN last row p.0 (follows-first N last row after p.1) w n in
    omega (arith, rank_lt N (begin last) c p.0 cN)

-- who waits at all of these waits at the last
waits-last : {Verdict : Type 0} (c : ℕ) (row : List (Service Verdict)) (s : Service Verdict) → waits_at c (row ++ (s ∷ [])) ≡ true → s.waited c ≡ true
unfolding waits_at
waits-last c [] s w = and_first (s.waited c) true w
waits-last c (t ∷ row) s w = waits-last c row s (and_second (t.waited c) (waits_at c (row ++ (s ∷ []))) w)

-- between two services of one caller every other that waits all that while is served
pub between : Between
unfolding Follows
between Job Verdict N events before row after first second c e same ne w =
    let a = first.caller in
    let p = part N events before (first ∷ (row ++ (second ∷ after))) (e ∙ append_assoc before (first ∷ row) (second ∷ after)) in
    let f = p.1.2 in
    let aN = (next-first N (last_of none before) first.waited a p.0 p.1.0).within in
    let cN = (follows-rest N (some a) row (second ∷ after) f).1 c (waits-last c row second w) in
    let g : Follows N (some a) (row ++ (second ∷ []) ++ after) = subst (Follows N (some a)) (sym (append_assoc row (second ∷ []) after)) f in
    let r : rank N (suc a) c ≢ rank N (suc a) a = λ q. ne (rank-apart N (suc a) a aN aN c cN q) in
    let l : rank N (suc a) c < rank N (suc a) a = omega (arith, rank-last N a aN, rank_lt N (suc a) c aN cN) in
    is_true (served_in c row) λ n.
    not-passed N c cN (some a) row second aN (follows-first N (some a) (row ++ (second ∷ [])) after g) (rw same at aN) (omega (arith, ap (rank N (suc a)) same)) w n
