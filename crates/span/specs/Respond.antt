-- What is said to each request, and what it leaves behind, by what the calls of a machine answer.
use Rattle.std.specs.Prelude.{ℕ, Some, None, Ok, Err, Option, Result}
use Rattle.std.specs.Option.{unwrap_or}
use Rattle.clocks.specs.declared.growth.Span.{Span}
use Rattle.votes.specs.declared.types.Refusal.{Refusal}
use Rattle.votes.specs.declared.types.Refusal.TheVariants.{Invalid}
use Rattle.votes.specs.Exchanges.{View, number_of, last_number, ask_reply, ask_after, answer_reply, answer_after, span_reply, span_after}
use Rattle.answers.specs.declared.Said.{Said}
use Rattle.answers.specs.declared.Said.TheVariants as said
use Rattle.lines.specs.declared.Unreadable.{Unreadable}
use Rattle.lines.specs.declared.spans.SpanRequest.{SpanRequest}
use Rattle.lines.specs.declared.spans.SpanRequest.TheVariants as request

-- what is said where only whether it was taken counts
abbrev pub taken : {A : Type 0} → Result A Refusal → Said
taken (Ok x) = said.Ok
taken (Err e) = said.Number (number_of e)

abbrev pub spanned : Result Span Refusal → Said
spanned (Ok s) = said.Span s
spanned (Err e) = said.Number (number_of e)

-- an answer is to the last ask of its server; where there was none, no number fits
abbrev last_of : View → ℕ → ℕ
last_of v server = unwrap_or (last_number v server) 0

abbrev pub said_of : View → SpanRequest → Said
said_of v (request.Asked server clock) = taken (ask_reply v server clock)
said_of v (request.Answer server clock span) = taken (answer_reply v server (last_of v server) span clock)
said_of v (request.Now clock) = spanned (span_reply v clock)

abbrev pub after_of : View → SpanRequest → View
after_of v (request.Asked server clock) = ask_after v server clock
after_of v (request.Answer server clock span) = answer_after v server (last_of v server) span clock
after_of v (request.Now clock) = span_after v clock

-- EACH LINE
abbrev pub heard : View → Option (Result SpanRequest Unreadable) → Option Said
heard v None = None
heard v (Some (Ok q)) = Some (said_of v q)
heard v (Some (Err e)) = Some (said.Number (number_of Invalid))

abbrev pub heard_after : View → Option (Result SpanRequest Unreadable) → View
heard_after v None = v
heard_after v (Some (Ok q)) = after_of v q
heard_after v (Some (Err e)) = v
