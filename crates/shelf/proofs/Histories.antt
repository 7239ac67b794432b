-- Demand 3, second half: the claim about every history.
-- Assumes nothing.
use mathlib.Core.Path.{refl, sym, subst}
use mathlib.Core.List.{List, []}
use Prim.Native.Nat.{ℕ, ◌-◌}
use native.Mathlib.Omega.{arith}
use lib.ListN.{length}
use lib.Seq.{drop-nil}
use Rattle.bits.proofs.Counting.{count-nil}
use Rattle.shelf.specs.Plain.{Plain}
use Rattle.shelf.specs.History.{Event, Host, present, start, run, plain_run, IsStart, Agrees, Histories}
use Rattle.shelf.proofs.Simulation.{draws-u32, Beside, Along, run_along}
use Rattle.shelf.proofs.Names.{Clean, run-clean}

-- the start, on both sides
start-beside : (page : List ℕ) (log : ℕ) (plain : Plain) (events : List Event) → IsStart page log plain events → Beside page plain
start-beside page log plain events s =
    record {
      same = record { is_sound = s.is_sound; size = sym s.size; draws = sym s.draws; ready = sym s.ready };
      u32 = draws-u32 page s.bytes;
    }

start-along : (page : List ℕ) (log : ℕ) (plain : Plain) (events : List Event) → IsStart page log plain events → Along (start page log) (start plain log)
start-along page log plain events s = record { place = refl; log = refl; each = λ k l. start-beside page log plain events s }

start-clean : (page : List ℕ) (log : ℕ) (plain : Plain) (events : List Event) → IsStart page log plain events → Clean (length events) (start plain log) []
start-clean page log plain events s =
    record {
      few = λ x. omega (arith, count-nil x);
      fresh = λ x a b. count-nil x;
      each =
          λ k l.
          record {
            behind = omega (arith, s.draws, s.is_log);
            apart = λ x. rw (drop-nil (log - plain.draws)) (omega (arith, count-nil x, s.distinct x));
            fresh = λ x a b. s.no_place x b;
          };
    }

-- each answer is the plain shelf's; afterwards the page is sound, with the plain shelf's S, draws and ready roots; no stocked root is drawn twice
pub histories : Histories
histories page log plain events legal s =
    let a = run_along events (start page log) (start plain log) (start-along page log plain events s) legal in
    let n = run-clean (length events) events (start plain log) [] (omega arith) legal (start-clean page log plain events s) in
    record {
      answers = a.0;
      after = final (run (start page log) events).1 (plain_run (start plain log) events).host a.1;
      once = λ x. omega (arith, n x);
    }
  where
    final : (g : Host (List ℕ)) (h : Host Plain) → Along g h → Agrees (present g) (present h)
    final g h c = subst (λ (k : ℕ). Agrees (g.pages g.place) (h.pages k)) c.place (c.each g.place (omega arith)).same
