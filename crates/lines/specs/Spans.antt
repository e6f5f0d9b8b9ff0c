-- The lines of the program `span`: a keyword, and behind it exactly so many numbers.
use Rattle.std.specs.Prelude.{ℕ, ◌^◌, ◌<◌, cond, List, [], ◌∷◌, None, slice_index, codes, decimal, Option}
use Rattle.std.specs.Option.{option_map}
use Rattle.std.specs.Str.{bytes_eq}
use Rattle.lines.specs.declared.spans.SpanRequest.{SpanRequest}
use Rattle.lines.specs.declared.spans.SpanRequest.TheVariants.{Asked, Answer, Now}
use Rattle.lines.specs.Lines.{ReadsBack, line_by}
use Rattle.words.specs.Numbers.{numbers_of}

-- what the words behind each keyword are read as
abbrev pub asked_of : List (List ℕ) → Option SpanRequest
asked_of ws = option_map (λ ns. Asked (slice_index ns 0) (slice_index ns 1)) (numbers_of 2 ws)

abbrev pub answer_of : List (List ℕ) → Option SpanRequest
answer_of ws = option_map (λ ns. Answer (slice_index ns 0) (slice_index ns 1) (record { low = slice_index ns 2; high = slice_index ns 3 })) (numbers_of 4 ws)

abbrev pub now_of : List (List ℕ) → Option SpanRequest
now_of ws = option_map (λ ns. Now (slice_index ns 0)) (numbers_of 1 ws)

-- the request that words are, if they are one
abbrev pub span_request : List (List ℕ) → Option SpanRequest
span_request [] = None
span_request (k ∷ ws) =
    cond (bytes_eq k (codes "asked")) (asked_of ws)
    (cond (bytes_eq k (codes "answer")) (answer_of ws)
    (cond (bytes_eq k (codes "now")) (now_of ws) None))

-- the words that a request is written as; `decimal n` is what `{n}` writes of a number
abbrev pub span_words : SpanRequest → List (List ℕ)
span_words (Asked server clock) = codes "asked" ∷ decimal server ∷ decimal clock ∷ []
span_words (Answer server clock span) = codes "answer" ∷ decimal server ∷ decimal clock ∷ decimal span.low ∷ decimal span.high ∷ []
span_words (Now clock) = codes "now" ∷ decimal clock ∷ []

-- the numbers of a request are below 2 ^ 64
abbrev pub SpanFits : SpanRequest → Type 0
SpanFits (Asked server clock) = (server < 2 ^ 64) × (clock < 2 ^ 64)
SpanFits (Answer server clock span) = (server < 2 ^ 64) × (clock < 2 ^ 64) × (span.low < 2 ^ 64) × (span.high < 2 ^ 64)
SpanFits (Now clock) = clock < 2 ^ 64

-- the line of every request reads back as that request
abbrev pub SpansReadBack : Type 0
SpansReadBack = ReadsBack span_words SpanFits (line_by span_request)
