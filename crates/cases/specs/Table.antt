-- The worked cases, and the theorem about every one of them.
use Rattle.std.specs.Prelude.{◌≡◌, ℕ, List, [], ◌∷◌, Ok, Err, Result}
use Rattle.clocks.specs.declared.growth.Span.{Span}
use Rattle.votes.specs.declared.types.Setup.{Setup}
use Rattle.world.specs.declared.actions.Input.{Input}
use Rattle.world.specs.declared.actions.Input.TheVariants as input
use Rattle.world.specs.declared.actions.Action.TheVariants as action
use Rattle.world.specs.declared.actions.Reply.{Reply}
use Rattle.world.specs.declared.actions.Reply.TheVariants as reply
use Rattle.votes.specs.declared.types.Refusal.{Refusal}
use Rattle.votes.specs.declared.types.Refusal.TheVariants.{Invalid, WrongNumber, NoSpan}
use Rattle.world.specs.Step.{WorldView, start, reply_of, step}
use Rattle.cases.specs.declared.Case.{Case}
use Rattle.cases.specs.declared.Case.TheVariants.{A, B, Stays, Wraps, Refuses, Ends}
use Rattle.cases.specs.declared.Play.{Play}

-- an input to the one machine, at a clock reading, and the reply that must come of it
abbrev at : ℕ → Input → Result Reply Refusal → Play
at clock i r = record { action = action.Input 0 clock i; reply = r }

abbrev span : ℕ → ℕ → Span
span l h = record { low = l; high = h }

-- every case, in order
abbrev pub all_cases : List Case
all_cases = A ∷ B ∷ Stays ∷ Wraps ∷ Refuses ∷ Ends ∷ []

abbrev pub setup_with : (servers faulty rate first : ℕ) → Setup
setup_with servers faulty rate first = record { servers = servers; faulty = faulty; rate = rate; first = first }

abbrev pub setup_of : Case → Setup
setup_of A = setup_with 1 0 0 1
setup_of B = setup_with 3 1 0 1
setup_of Stays = setup_with 1 0 0 1
setup_of Wraps = setup_with 1 0 0 4294967295
setup_of Refuses = setup_with 2 0 1000 1
setup_of Ends = setup_with 1 0 1000 1

-- A: one time server, asked at 100 and answered at 140 with 5,000 to 5,010: at 200 the span is 5,059 to 5,112
-- B: three time servers of which one may be faulty, whose spans have grown to 10 to 20, 15 to 30 and 90 to 95: the span is 15 to 20
-- Stays: an answer stays when its server is asked again, and goes on growing from the ask that it answered
-- Wraps: numbers of asks wrap, and only the last one's is taken
-- Refuses: refusals of each number: no answers, a server that is not there, one that was never asked, readings that go back, ends out of order
-- Ends: readings, spans and the true time at 0 and at the highest number
abbrev pub plays_of : Case → List Play
plays_of A =
    at 100 (input.Ask 0) (Ok (reply.Asked 1))
    ∷ at 140 (input.Answer 0 1 (span 5000 5010)) (Ok reply.Taken)
    ∷ at 200 input.Span (Ok (reply.Span (span 5059 5112)))
    ∷ []
plays_of B =
    at 0 (input.Ask 0) (Ok (reply.Asked 1))
    ∷ at 0 (input.Ask 1) (Ok (reply.Asked 1))
    ∷ at 0 (input.Ask 2) (Ok (reply.Asked 1))
    ∷ at 0 (input.Answer 0 1 (span 10 18)) (Ok reply.Taken)
    ∷ at 0 (input.Answer 1 1 (span 15 28)) (Ok reply.Taken)
    ∷ at 0 (input.Answer 2 1 (span 90 93)) (Ok reply.Taken)
    ∷ at 0 input.Span (Ok (reply.Span (span 15 20)))
    ∷ []
plays_of Stays =
    at 100 (input.Ask 0) (Ok (reply.Asked 1))
    ∷ at 140 (input.Answer 0 1 (span 5000 5010)) (Ok reply.Taken)
    ∷ at 150 (input.Ask 0) (Ok (reply.Asked 2))
    ∷ at 200 input.Span (Ok (reply.Span (span 5059 5112)))
    ∷ []
plays_of Wraps =
    at 0 (input.Ask 0) (Ok (reply.Asked 4294967295))
    ∷ at 0 (input.Ask 0) (Ok (reply.Asked 0))
    ∷ at 5 (input.Answer 0 4294967295 (span 1 2)) (Err WrongNumber)
    ∷ at 5 (input.Answer 0 0 (span 1 2)) (Ok reply.Taken)
    ∷ []
plays_of Refuses =
    at 10 input.Span (Err NoSpan)
    ∷ at 10 (input.Ask 2) (Err Invalid)
    ∷ at 10 (input.Answer 0 1 (span 1 2)) (Err WrongNumber)
    ∷ at 10 (input.Ask 0) (Ok (reply.Asked 1))
    ∷ at 9 (input.Ask 0) (Err Invalid)
    ∷ at 10 (input.Answer 0 1 (span 7 6)) (Err Invalid)
    ∷ at 9 input.Span (Err Invalid)
    ∷ at 10 (input.Answer 0 1 (span 7 7)) (Ok reply.Taken)
    ∷ at 10 input.Span (Err NoSpan)
    ∷ []
plays_of Ends =
    at 0 (input.Ask 0) (Ok (reply.Asked 1))
    ∷ at 0 (input.Answer 0 1 (span 0 0)) (Ok reply.Taken)
    ∷ at 0 input.Span (Ok (reply.Span (span 0 2)))
    ∷ at 18446744073709551615 (input.Answer 0 1 (span 0 18446744073709551615)) (Ok reply.Taken)
    ∷ at 18446744073709551615 input.Span (Ok (reply.Span (span 0 18446744073709551615)))
    ∷ at 18446744073709551615 (input.Answer 0 1 (span 18446744073709551615 18446744073709551615)) (Ok reply.Taken)
    ∷ at 18446744073709551615 input.Span (Ok (reply.Span (span 18446744073709551615 18446744073709551615)))
    ∷ record { action = action.Pass 18446744073709551615; reply = Ok reply.Passed }
    ∷ record { action = action.Pass 1; reply = Err Invalid }
    ∷ []

-- the replies of a world to a list of actions are those that must come
abbrev pub Comes : WorldView → List Play → Type 0
Comes w [] = Unit {0}
Comes w (p ∷ rest) = (reply_of w p.action ≡ p.reply) × Comes (step w p.action) rest

-- THE THEOREM: every row comes out.
abbrev pub EveryRow : Type 0
EveryRow = (case : Case) → Comes (start (setup_of case ∷ [])) (plays_of case)
