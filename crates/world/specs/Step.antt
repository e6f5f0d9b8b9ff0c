-- What one action does to a world, as total functions on its view.
use Rattle.std.specs.Prelude.{◌≡◌, ℕ, ◌+◌, Bool, true, false, cond, ◌&&◌, List, [], fold, map, length, replicate, is_ok, None, Ok, Err, Option, Result, nat_le, nat_lt, slice_index_or, slice_set}
use Rattle.std.specs.List.{list_all}
use Rattle.clocks.specs.declared.growth.Span.{Span}
use Rattle.clocks.specs.Time.{highest}
use Rattle.votes.specs.declared.types.Setup.{Setup}
use Rattle.votes.specs.declared.types.Refusal.{Refusal}
use Rattle.votes.specs.declared.types.Refusal.TheVariants.{Invalid}
use Rattle.votes.specs.Exchanges.{valid_setup, opened, last_number, ask_reply, ask_after, answer_reply, answer_after, span_reply, span_after}
use Rattle.world.specs.declared.actions.Input.{Input}
use Rattle.world.specs.declared.actions.Input.TheVariants as input
use Rattle.world.specs.declared.actions.Action.{Action}
use Rattle.world.specs.declared.actions.Action.TheVariants as action
use Rattle.world.specs.declared.actions.Reply.{Reply}
use Rattle.world.specs.declared.actions.Reply.TheVariants as reply
use Rattle.world.specs.declared.actions.NotMade.{NotMade}
use Rattle.world.specs.declared.actions.NotMade.TheVariants as not_made
use Rattle.world.specs.declared.machine.Machine.{Machine}
use Rattle.world.specs.declared.machine.Moments.{Moments}

-- A world: the true time, and its machines.
pub record WorldView : Type 0 where
  pub now : ℕ
  pub machines : List Machine

-- MAKING

abbrev pub never : Moments
never = record { asked = 0; begun = 0; answered = 0 }

abbrev pub made : Setup → Machine
made s = record { votes = opened s; moments = replicate 16 never; looked = 0 }

-- 1 to 8 machines, each in range
abbrev pub valid : List Setup → Bool
valid ss = nat_le 1 (length ss) && nat_le (length ss) 8 && list_all valid_setup ss

-- why a world is not made: a number of machines or a setup that is out of range, or else want of memory; each with its number
abbrev pub number_of : NotMade → ℕ
number_of not_made.Invalid = 1
number_of not_made.Memory = 99

abbrev pub Refused : List Setup → NotMade → Type 0
Refused ss not_made.Invalid = valid ss ≡ false
Refused ss not_made.Memory = valid ss ≡ true

abbrev pub start : List Setup → WorldView
start ss = record { now = 0; machines = map made ss }

-- a world that was made from setups, which are in range, and in which nothing has happened
abbrev pub IsStart : List Setup → WorldView → Type 0
IsStart ss w = (valid ss ≡ true) × (w ≡ start ss)

-- ONE MACHINE, at a true time and a clock reading

abbrev pub asked : Result ℕ Refusal → Result Reply Refusal
asked (Ok n) = Ok (reply.Asked n)
asked (Err e) = Err e

abbrev pub taken : Result (Unit {0}) Refusal → Result Reply Refusal
taken (Ok x) = Ok reply.Taken
taken (Err e) = Err e

abbrev pub spanned : Result Span Refusal → Result Reply Refusal
spanned (Ok s) = Ok (reply.Span s)
spanned (Err e) = Err e

abbrev pub machine_reply : Machine → ℕ → Input → Result Reply Refusal
machine_reply m clock (input.Ask server) = asked (ask_reply m.votes server clock)
machine_reply m clock (input.Answer server number s) = taken (answer_reply m.votes server number s clock)
machine_reply m clock input.Span = spanned (span_reply m.votes clock)

-- the exchange with a server is noted at a true time
abbrev pub moment_of : Machine → ℕ → Moments
moment_of m server = slice_index_or m.moments server never

abbrev pub note_ask : Machine → ℕ → ℕ → List Moments
note_ask m server time =
    slice_set m.moments server (record { asked = time; begun = (moment_of m server).begun; answered = (moment_of m server).answered })

abbrev pub note_answer : Machine → ℕ → ℕ → List Moments
note_answer m server time =
    slice_set m.moments server (record { asked = (moment_of m server).asked; begun = (moment_of m server).asked; answered = time })

abbrev pub machine_after : Machine → ℕ → ℕ → Input → Machine
machine_after m time clock (input.Ask server) =
    cond (is_ok (ask_reply m.votes server clock)) (record { votes = ask_after m.votes server clock; moments = note_ask m server time; looked = time }) m
machine_after m time clock (input.Answer server number s) =
    cond (is_ok (answer_reply m.votes server number s clock)) (record { votes = answer_after m.votes server number s clock; moments = note_answer m server time; looked = time }) m
machine_after m time clock input.Span =
    cond (is_ok (span_reply m.votes clock)) (record { votes = span_after m.votes clock; moments = m.moments; looked = time }) m

-- THE WORLD

abbrev pub nobody : Machine
nobody = record { votes = opened (record { servers = 0; faulty = 0; rate = 0; first = 0 }); moments = []; looked = 0 }

abbrev pub machine_of : WorldView → ℕ → Machine
machine_of w k = slice_index_or w.machines k nobody

-- the number of a machine's last ask of a server, if both are there and it was asked
abbrev pub last_ask : WorldView → ℕ → ℕ → Option ℕ
last_ask w k server = cond (nat_lt k (length w.machines)) (last_number (machine_of w k).votes server) None

abbrev pub reply_of : WorldView → Action → Result Reply Refusal
reply_of w (action.Pass by) = cond (nat_le (w.now + by) highest) (Ok reply.Passed) (Err Invalid)
reply_of w (action.Input k clock i) = cond (nat_lt k (length w.machines)) (machine_reply (machine_of w k) clock i) (Err Invalid)

abbrev pub step : WorldView → Action → WorldView
step w (action.Pass by) = cond (nat_le (w.now + by) highest) (record { now = w.now + by; machines = w.machines }) w
step w (action.Input k clock i) =
    cond (nat_lt k (length w.machines)) (record { now = w.now; machines = slice_set w.machines k (machine_after (machine_of w k) w.now clock i) }) w

-- a list of actions, one after another
abbrev pub run : WorldView → List Action → WorldView
run w actions = fold step w actions
