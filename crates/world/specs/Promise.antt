-- What is promised of a world, over every list of actions.
use Rattle.std.specs.Prelude.{◌≡◌, ℕ, ◌<◌, ◌≤◌, true, List, [], ◌∷◌, length, Some, Ok, Err, Result}
use Rattle.std.specs.List.{range_with_len}
use Rattle.clocks.specs.Time.{RunsFrom, Holds}
use Rattle.votes.specs.declared.types.Setup.{Setup}
use Rattle.votes.specs.declared.types.Ask.{Ask}
use Rattle.clocks.specs.declared.growth.Answer.{Answer}
use Rattle.votes.specs.declared.types.Refusal.{Refusal}
use Rattle.votes.specs.Exchanges.{exchange}
use Rattle.votes.specs.Promise.{AllBut}
use Rattle.world.specs.declared.actions.Input.TheVariants as input
use Rattle.world.specs.declared.actions.Action.{Action}
use Rattle.world.specs.declared.actions.Action.TheVariants as action
use Rattle.world.specs.declared.actions.Reply.{Reply}
use Rattle.world.specs.declared.actions.Reply.TheVariants as reply
use Rattle.world.specs.declared.machine.Machine.{Machine}
use Rattle.world.specs.Step.{WorldView, moment_of, machine_of, valid, start, reply_of, step, run}

-- A time server did not lie: it has answered, and its last answer held the true time at some moment between its ask and its taking.
pub record Truthful (m : Machine) (server : ℕ) : Type 0 where
  pub answer : Answer
  pub known : (exchange m.votes server).known ≡ Some answer
  pub held : ℕ
  pub early : (moment_of m server).begun ≤ held
  pub late : held ≤ (moment_of m server).answered
  pub holds : Holds answer.span held

-- At most f of a machine's time servers lie or haven't answered.
abbrev pub FewFaulty : Machine → Type 0
FewFaulty m = AllBut (Truthful m) m.votes.faulty (range_with_len 0 m.votes.servers)

-- What a machine noted of its clock's readings is what the clock c showed at those true times.
pub record Noted (c : ℕ → ℕ) (m : Machine) : Type 0 where
  pub latest : m.votes.latest ≤ c m.looked
  pub asks : (i : ℕ) (a : Ask) → (exchange m.votes i).ask ≡ Some a → a.clock ≡ c (moment_of m i).asked
  pub begun : (i : ℕ) (a : Answer) → (exchange m.votes i).known ≡ Some a → a.asked ≡ c (moment_of m i).begun
  pub answered : (i : ℕ) (a : Answer) → (exchange m.votes i).known ≡ Some a → a.answered ≡ c (moment_of m i).answered

-- a span was given, and it holds this time
abbrev pub Given : Result Reply Refusal → ℕ → Type 0
Given (Ok reply.Passed) t = ⊥
Given (Ok (reply.Asked n)) t = ⊥
Given (Ok reply.Taken) t = ⊥
Given (Ok (reply.Span s)) t = Holds s t
Given (Err e) t = ⊥

-- A machine is to be trusted when its clock, which shows this reading now, runs within its error and has shown what the machine noted, and at
-- most f of its time servers lie or haven't answered.
pub record Trusted (c : ℕ → ℕ) (w : WorldView) (k clock : ℕ) : Type 0 where
  pub there : k < length w.machines
  pub runs : RunsFrom (machine_of w k).votes.rate 0 c
  pub noted : Noted c (machine_of w k)
  pub reads : c w.now ≡ clock
  pub servers : FewFaulty (machine_of w k)

-- OF ONE ACTION: a machine that is to be trusted, asked for its span, gives one, and the true time is in it.
abbrev pub SpanTrue : WorldView → Action → Result Reply Refusal → Type 0
SpanTrue w a r = (k clock : ℕ) → a ≡ action.Input k clock input.Span → (c : ℕ → ℕ) → Trusted c w k clock → Given r w.now

-- The readings that come with a machine's inputs, over a list of actions, are those of a clock c.
abbrev pub Reads : ℕ → (ℕ → ℕ) → WorldView → List Action → Type 0
Reads k c w [] = Unit {0}
Reads k c w (action.Pass by ∷ rest) = Reads k c (step w (action.Pass by)) rest
Reads k c w (action.Input j clock i ∷ rest) = (j ≡ k → clock ≡ c w.now) × Reads k c (step w (action.Input j clock i)) rest

-- THE PROMISE OVER EVERY LIST OF ACTIONS. Whatever happened since the beginning: if a machine's readings are those of some clock that runs within its
-- error, and at most f of its time servers lie or haven't answered, the machine gives a span, and the true time is in it.
abbrev pub SpansHold : Type 0
SpansHold =
    (ss : List Setup) → valid ss ≡ true → (actions : List Action) (k clock : ℕ) (c : ℕ → ℕ) → k < length ss → RunsFrom (machine_of (start ss) k).votes.rate 0 c →
    Reads k c (start ss) actions → c (run (start ss) actions).now ≡ clock → FewFaulty (machine_of (run (start ss) actions) k) →
    Given (reply_of (run (start ss) actions) (action.Input k clock input.Span)) (run (start ss) actions).now

-- A world that came about: some list of actions led to it from its beginning.
pub record Reached (w : WorldView) : Type 0 where
  pub setups : List Setup
  pub actions : List Action
  pub made : valid setups ≡ true
  pub leads : w ≡ run (start setups) actions
