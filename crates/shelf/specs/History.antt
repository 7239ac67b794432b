-- Histories (document 01, "Shelf"): "a list of stockings, draws and pages put back, refused calls included".
-- The host with its pages, the plain shelf beside it, and the claim about the whole list.
-- Assumes nothing.
use Rattle.std.specs.Prelude.{true, cond, ◌≡◌, List, [], ◌∷◌, ◌++◌, ℕ, suc, ◌+◌, ◌≤◌, ◌<◌, leb, length, get_or, take}
use Rattle.bits.specs.Counting.{count}
use Rattle.refusal.specs.Outcome.{Answer, refusal_at, success}
use Rattle.shelf_page.specs.Page.{size_of, draws_of, ready_roots, sound}
use Rattle.shelf.specs.Operations.{page_left, stock_op, draw_op}
use Rattle.shelf.specs.Plain.{Plain, names, roots, plain_stock, plain_draw}

-- "a list of stockings, draws and pages put back": the bytes lent as the root; the k of the page put back
pub data Event : Type 0 where
  stock : List ℕ → Event
  draw : Event
  back : ℕ → Event

-- the number of events so far; what the page was after the first k of them; the log's count
pub record Host (P : Type 0) : Type 0 where
  pub place : ℕ
  pub pages : ℕ → P
  pub log : ℕ

-- "the page as the event before left it"
abbrev pub present : {P : Type 0} → Host P → P
present h = h.pages h.place

-- one event more, after which the page is p and the log's count n
unfoldable pub next : {P : Type 0} → Host P → P → ℕ → Host P
next h p n = record { place = suc h.place; pages = λ k. cond (leb k h.place) (h.pages k) p; log = n }

-- the log "has counted each accepted draw before the next call"
abbrev pub counted : Answer → ℕ → ℕ
counted (refusal_at k x) n = n
counted (success root) n = n + 1

-- "Each call is lent the page as the event before left it, a draw the log's count too"
unfoldable pub step : Host (List ℕ) → Event → Answer × Host (List ℕ)
step h (stock r) = ((stock_op (present h) r).answer, next h (page_left (stock_op (present h) r)) h.log)
step h draw = (
  (draw_op (present h) h.log).answer,
  next h (page_left (draw_op (present h) h.log)) (counted (draw_op (present h) h.log).answer h.log),
)
step h (back k) = (success [], next h (h.pages k) h.log)

-- the answers to a list of events, one by one, and the host after them
unfoldable pub run : Host (List ℕ) → List Event → List Answer × Host (List ℕ)
run h [] = ([], h)
run h (e ∷ es) = ((step h e).0 ∷ (run (step h e).1 es).0, (run (step h e).1 es).1)

-- what the plain shelf does at an event: its answer, the name given, if any, and the plain host
pub record PlainStep : Type 0 where
  pub reply : Answer
  pub given : List ℕ
  pub host : Host Plain

-- the plain shelf: a stocking is "named by its place in the list";
-- "Putting back restores draws and named roots as after those k events, not the log's count."
unfoldable pub plain_step : Host Plain → Event → PlainStep
plain_step h (stock r) = record {
  reply = (plain_stock h.place r (present h)).0;
  given = [];
  host = next h (plain_stock h.place r (present h)).1 h.log;
}
plain_step h draw = record {
  reply = (plain_draw h.log (present h)).answer;
  given = (plain_draw h.log (present h)).given;
  host = next h (plain_draw h.log (present h)).shelf (counted (plain_draw h.log (present h)).answer h.log);
}
plain_step h (back k) = record { reply = success []; given = []; host = next h (h.pages k) h.log }

-- the plain shelf's answers, the names given by accepted draws in order, and the plain host afterwards
pub record PlainRun : Type 0 where
  pub replies : List Answer
  pub given : List ℕ
  pub host : Host Plain

unfoldable pub plain_run : Host Plain → List Event → PlainRun
plain_run h [] = record { replies = []; given = []; host = h }
plain_run h (e ∷ es) = record {
  replies = (plain_step h e).reply ∷ (plain_run (plain_step h e).host es).replies;
  given = (plain_step h e).given ++ (plain_run (plain_step h e).host es).given;
  host = (plain_run (plain_step h e).host es).host;
}

-- "a page put back is one that this history has had, whole, after its first k events": k is at most the i events so far
unfoldable pub IsHistory : ℕ → List Event → Type 0
IsHistory i [] = Unit {0}
IsHistory i (stock r ∷ es) = IsHistory (suc i) es
IsHistory i (draw ∷ es) = IsHistory (suc i) es
IsHistory i (back k ∷ es) = (k ≤ i) × IsHistory (suc i) es

-- before the first event the history has had the starting page, and no other
abbrev pub start : {P : Type 0} → P → ℕ → Host P
start p n = record { place = 0; pages = λ k. p; log = n }

-- "It starts at any sound page whose draws equals the log's count, its ready roots counted as stocked";
-- "those ready at the start have a name each, no two alike and none a place in the list"
pub record IsStart (page : List ℕ) (log : ℕ) (plain : Plain) (events : List Event) : Type 0 where
  pub bytes : (i : ℕ) → get_or page i 0 < 256
  pub is_sound : sound page ≡ true
  pub is_log : draws_of page ≡ log
  pub size : plain.size ≡ size_of page
  pub draws : plain.draws ≡ draws_of page
  pub ready : roots plain.ready ≡ ready_roots page
  pub distinct : (x : ℕ) → count x (names plain.ready) ≤ 1
  pub no_place : (x : ℕ) → x < length events → count x (names plain.ready) ≡ 0

-- the page is sound and has the plain shelf's S, draws and ready roots in chain order
pub record Agrees (page : List ℕ) (plain : Plain) : Type 0 where
  pub is_sound : sound page ≡ true
  pub size : size_of page ≡ plain.size
  pub draws : draws_of page ≡ plain.draws
  pub ready : ready_roots page ≡ roots plain.ready

-- "Each answer is this shelf's; afterwards the page is sound, with this shelf's S, draws and ready roots in chain order";
-- "a root is drawn twice if two accepted draws give the same name"
pub record Claim (page : List ℕ) (log : ℕ) (plain : Plain) (events : List Event) : Type 0 where
  pub answers : (run (start page log) events).0 ≡ (plain_run (start plain log) events).replies
  pub after : Agrees (present (run (start page log) events).1) (present (plain_run (start plain log) events).host)
  pub once : (x : ℕ) → count x (plain_run (start plain log) events).given ≤ 1

-- demand 3, second half: "one claim about the whole list"
abbrev pub Histories : Type 0
Histories =
    (page : List ℕ) (log : ℕ) (plain : Plain) (events : List Event) →
    IsHistory 0 events → IsStart page log plain events → Claim page log plain events

-- what a host can count on of its counts: the page's draws do not exceed the log's count, which is a u32 and so can be lent to draw
pub record CountsFit (h : Host (List ℕ)) : Type 0 where
  pub draws : draws_of (present h) ≤ h.log
  pub log : h.log ≤ 4294967295

-- so they are before each call: after the first k events of a history, whatever k
abbrev pub HistoryCounts : Type 0
HistoryCounts =
    (page : List ℕ) (log : ℕ) (events : List Event) →
    IsHistory 0 events → ((i : ℕ) → get_or page i 0 < 256) → sound page ≡ true → draws_of page ≡ log →
    (k : ℕ) → CountsFit (run (start page log) (take k events)).1
