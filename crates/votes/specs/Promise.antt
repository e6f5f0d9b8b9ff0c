-- What is promised of a machine's span.
use Rattle.std.specs.Prelude.{◌≡◌, ℕ, suc, ◌-◌, ◌*◌, ◌<◌, ◌≤◌, List, [], ◌∷◌, length, take, Some, Ok, Option}
use mathlib.Core.List.{Memᴰ}
use Rattle.clocks.specs.declared.growth.Answer.{Answer}
use Rattle.clocks.specs.declared.growth.Span.{Span}
use Rattle.clocks.specs.Time.{RunsFrom, Holds, highest}
use Rattle.votes.specs.declared.types.Exchange.{Exchange}
use Rattle.votes.specs.Counts.{count}
use Rattle.votes.specs.Exchanges.{View, grown_exchange, spans_at, span_reply}

-- Something holds of all elements of a list but at most so many.
pub data AllBut {A : Type 0} (P : A → Type 0) : ℕ → List A → Type 0 where
  none : {f : ℕ} → AllBut P f []
  good : {f : ℕ} {x : A} {xs : List A} → P x → AllBut P f xs → AllBut P f (x ∷ xs)
  faulty : {f : ℕ} {x : A} {xs : List A} → AllBut P f xs → AllBut P (suc f) (x ∷ xs)

-- A time server did not lie, as seen at a true time by a machine whose clock is c from its start on: it has answered, and its last answer held
-- the true time at some moment between its ask and its answer.
pub record Honest (c : ℕ → ℕ) (start time : ℕ) (e : Exchange) : Type 0 where
  pub answer : Answer
  pub known : e.known ≡ Some answer
  pub asked : ℕ
  pub held : ℕ
  pub answered : ℕ
  pub started : start ≤ asked
  pub early : asked ≤ held
  pub late : held ≤ answered
  pub past : answered ≤ time
  pub asked_reads : c asked ≡ answer.asked
  pub answered_reads : c answered ≡ answer.answered
  pub holds : Holds answer.span held

-- the time servers that count
abbrev pub servers_of : View → List Exchange
servers_of v = take v.servers v.exchanges

-- A span is from the lowest of the lower ends that lie in at least k of the spans to the highest of the upper ends that do.
pub record Outermost (k : ℕ) (ss : List (Option Span)) (s : Span) : Type 0 where
  pub low_end : (x : Span) × Memᴰ (Some x) ss × (x.low ≡ s.low)
  pub low_in : k ≤ count s.low ss
  pub lowest : (x : Span) → Memᴰ (Some x) ss → k ≤ count x.low ss → s.low ≤ x.low
  pub high_end : (x : Span) × Memᴰ (Some x) ss × (x.high ≡ s.high)
  pub high_in : k ≤ count s.high ss
  pub highest : (x : Span) → Memᴰ (Some x) ss → k ≤ count x.high ss → x.high ≤ s.high

-- The machine's clock runs within its error from a start on, shows this reading at this true time, and at most f of its servers lie or haven't
-- answered.
pub record Trusted (v : View) (clock : ℕ) (c : ℕ → ℕ) (start time : ℕ) : Type 0 where
  pub runs : RunsFrom v.rate start c
  pub reads : c time ≡ clock
  pub below : time ≤ highest
  pub servers : AllBut (Honest c start time) v.faulty (servers_of v)

-- a time server that is honest, and its span, grown to now
pub record Witness (v : View) (clock : ℕ) (c : ℕ → ℕ) (start time : ℕ) : Type 0 where
  pub server : Exchange
  pub member : Memᴰ server (servers_of v)
  pub honest : Honest c start time server
  pub span : Span
  pub grown : grown_exchange v.rate clock server ≡ Some span

-- OF A SPAN THAT IS GIVEN: it is what the rule says, and in order; and whenever the machine's clock and servers are to be trusted, the true time is in
-- it, and it lies within spans of honest servers.
pub record Lawful (v : View) (clock : ℕ) (s : Span) : Type 0 where
  pub rule : Outermost (v.servers - v.faulty) (spans_at v clock) s
  pub ordered : s.low ≤ s.high
  pub true_time : (c : ℕ → ℕ) (start time : ℕ) → Trusted v clock c start time → Holds s time
  pub above : (c : ℕ → ℕ) (start time : ℕ) → Trusted v clock c start time → (w : Witness v clock c start time) × (w.span.low ≤ s.low)
  pub below : (c : ℕ → ℕ) (start time : ℕ) → Trusted v clock c start time → (w : Witness v clock c start time) × (s.high ≤ w.span.high)

-- OF A REFUSAL FOR WANT OF VOTES: no time lies in enough of the spans, and so the clock or the servers were not to be trusted.
pub record NoVotes (v : View) (clock : ℕ) : Type 0 where
  pub nowhere : (t : ℕ) → count t (spans_at v clock) < v.servers - v.faulty
  pub too_many : (c : ℕ → ℕ) (start time : ℕ) → Trusted v clock c start time → ⊥

-- THE PROMISE OF A SPAN: whenever the machine's clock and servers are to be trusted, and the reading is not below an earlier one, a span is given and
-- the true time is in it. (The machine's numbers are in range, as those of every machine that can be made.)
abbrev pub SpanGiven : Type 0
SpanGiven =
    (v : View) (clock : ℕ) → v.rate ≤ 1000 → 2 * v.faulty < v.servers → v.servers ≤ length v.exchanges → v.latest ≤ clock →
    (c : ℕ → ℕ) (start time : ℕ) → Trusted v clock c start time → (s : Span) × (span_reply v clock ≡ Ok s) × Holds s time
