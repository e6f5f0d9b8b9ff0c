-- What is said to each request of a script, and what it leaves behind.
use Rattle.std.specs.Prelude.{◌≡◌, ℕ, true, ◌⊎◌, Some, None, Ok, Err, Option, Result}
use Rattle.answers.specs.declared.Said.{Said}
use Rattle.answers.specs.declared.Said.TheVariants as said
use Rattle.answers.specs.declared.Reply.{Reply as Answer}
use Rattle.answers.specs.declared.Reply.TheVariants as answer
use Rattle.lines.specs.declared.Unreadable.{Unreadable}
use Rattle.lines.specs.declared.scripts.ScriptRequest.{ScriptRequest}
use Rattle.lines.specs.declared.scripts.ScriptRequest.TheVariants as request
use Rattle.clocks.specs.declared.counting.Drift.{Drift}
use Rattle.votes.specs.declared.types.Setup.{Setup}
use Rattle.votes.specs.declared.types.Refusal.{Refusal}
use Rattle.votes.specs.declared.types.Refusal.TheVariants.{Invalid}
use Rattle.votes.specs.Exchanges.{number_of, setup_of}
use Rattle.world.specs.declared.actions.Input.{Input}
use Rattle.world.specs.declared.actions.Input.TheVariants as input
use Rattle.world.specs.declared.actions.Reply.{Reply}
use Rattle.world.specs.declared.actions.Reply.TheVariants as reply
use Rattle.world.specs.declared.actions.NotMade.{NotMade}
use Rattle.world.specs.Step.{number_of as not_made_number}
use Rattle.rehearse.specs.Rehearsals.{RehearsalView, input_reply, input_after, answer_input, around_now, pace_reply, pace_after, pass_reply, pass_after, can_open, opening, NotOpened}

abbrev pub refused_as : Refusal → Said
refused_as e = said.Number (number_of e)

-- a span, or that it was done
abbrev pub said_of : Reply → Said
said_of reply.Passed = said.Ok
said_of (reply.Asked n) = said.Ok
said_of reply.Taken = said.Ok
said_of (reply.Span s) = said.Span s

-- the world's answer, and a machine's, whose number stands before it unless it was refused
abbrev pub world_says : ℕ → Result Reply Refusal → Answer
world_says time (Ok r) = answer.World time (said_of r)
world_says time (Err e) = answer.World time (refused_as e)

abbrev pub machine_says : ℕ → ℕ → Result Reply Refusal → Answer
machine_says time machine (Ok r) = answer.Machine time machine (said_of r)
machine_says time machine (Err e) = answer.World time (refused_as e)

abbrev pub pace_done : Result (Unit {0}) Refusal → Result Reply Refusal
pace_done (Ok x) = Ok reply.Taken
pace_done (Err e) = Err e

-- an input to a machine
abbrev pub OnInput : RehearsalView → ℕ → Input → RehearsalView → Answer → Type 0
OnInput v machine i exit r = (exit ≡ input_after v machine i) × (r ≡ machine_says exit.world.now machine (input_reply v machine i))

-- a change of a machine's pace
abbrev pub OnPace : RehearsalView → ℕ → Drift → RehearsalView → Answer → Type 0
OnPace v machine d exit r = (exit ≡ pace_after v machine d) × (r ≡ machine_says exit.world.now machine (pace_done (pace_reply v machine d)))

-- time that passes
abbrev pub OnPass : RehearsalView → ℕ → RehearsalView → Answer → Type 0
OnPass v by exit r = (exit ≡ pass_after v by) × (r ≡ world_says exit.world.now (pass_reply v by))

abbrev pub Answered : (Answer → Type 0) → Option Answer → Type 0
Answered P None = ⊥
Answered P (Some a) = P a

-- EACH REQUEST; a new world is not the old one's to begin
abbrev pub Responds : RehearsalView → ScriptRequest → RehearsalView → Option Answer → Type 0
Responds v (request.World machines servers faulty rate) exit r = (exit ≡ v) × (r ≡ None)
Responds v (request.Pass by) exit r = Answered (OnPass v by exit) r
Responds v (request.Clock machine d) exit r = Answered (OnPace v machine d exit) r
Responds v (request.Ask machine server) exit r = Answered (OnInput v machine (input.Ask server) exit) r
Responds v (request.Answer machine server span) exit r = Answered (OnInput v machine (answer_input v machine server span) exit) r
Responds v (request.Honest machine server less more) exit r =
    Answered (OnInput v machine (answer_input v machine server (around_now v less more)) exit) r
Responds v (request.Span machine) exit r = Answered (OnInput v machine input.Span exit) r

-- A SCRIPT: nothing before its first world
abbrev pub time_of : Option RehearsalView → ℕ
time_of None = 0
time_of (Some v) = v.world.now

-- a new world takes the place of the old one, or it is refused and the old one stays
abbrev pub Begins : Option RehearsalView → ℕ → Setup → Option RehearsalView → Answer → Type 0
Begins v machines s exit r =
    ((can_open machines s ≡ true) × (exit ≡ Some (opening machines s)) × (r ≡ answer.World 0 said.Ok))
    ⊎ ((e : NotMade) × NotOpened machines s e × (exit ≡ v) × (r ≡ answer.World (time_of v) (said.Number (not_made_number e))))

-- what is said where nothing is done
abbrev pub not_taken : Option RehearsalView → Answer
not_taken v = answer.World (time_of v) (refused_as Invalid)

-- any other request goes to the world that is there
abbrev pub Goes : Option RehearsalView → ScriptRequest → Option RehearsalView → Answer → Type 0
Goes None q exit r = (exit ≡ None) × (r ≡ not_taken None)
Goes (Some v) q None r = ⊥
Goes (Some v) q (Some exit) r = Responds v q exit (Some r)

abbrev pub Scripted : Option RehearsalView → ScriptRequest → Option RehearsalView → Answer → Type 0
Scripted v (request.World machines servers faulty rate) exit r = Begins v machines (setup_of servers faulty rate) exit r
Scripted v (request.Pass by) exit r = Goes v (request.Pass by) exit r
Scripted v (request.Clock machine drift) exit r = Goes v (request.Clock machine drift) exit r
Scripted v (request.Ask machine server) exit r = Goes v (request.Ask machine server) exit r
Scripted v (request.Answer machine server span) exit r = Goes v (request.Answer machine server span) exit r
Scripted v (request.Honest machine server less more) exit r = Goes v (request.Honest machine server less more) exit r
Scripted v (request.Span machine) exit r = Goes v (request.Span machine) exit r

-- EACH LINE
abbrev pub Heard : Option RehearsalView → Option (Result ScriptRequest Unreadable) → Option RehearsalView → Option Answer → Type 0
Heard v None exit r = (exit ≡ v) × (r ≡ None)
Heard v (Some (Ok q)) exit r = Answered (Scripted v q exit) r
Heard v (Some (Err e)) exit r = (exit ≡ v) × (r ≡ Some (not_taken v))
