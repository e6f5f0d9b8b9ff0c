-- The lines of the program `rehearse`: a keyword, and behind it exactly so many numbers; `clock` has `fast` or `slow` between two.
use Rattle.std.specs.Prelude.{ℕ, ◌^◌, ◌<◌, cond, List, [], ◌∷◌, Some, None, slice_index, codes, decimal, Option}
use Rattle.std.specs.Option.{option_map, option_and_then}
use Rattle.std.specs.Str.{bytes_eq}
use Rattle.clocks.specs.declared.counting.Drift.{Drift}
use Rattle.clocks.specs.declared.counting.Drift.TheVariants.{Fast, Slow}
use Rattle.clocks.specs.Dials.{parts_of}
use Rattle.lines.specs.declared.scripts.ScriptRequest.{ScriptRequest}
use Rattle.lines.specs.declared.scripts.ScriptRequest.TheVariants.{World, Pass, Clock, Ask, Answer, Honest, Span}
use Rattle.lines.specs.Lines.{ReadsBack, line_by}
use Rattle.words.specs.Numbers.{number_of, one_of, numbers_of}

-- what the words behind each keyword are read as
abbrev pub world_of : List (List ℕ) → Option ScriptRequest
world_of ws = option_map (λ ns. World (slice_index ns 0) (slice_index ns 1) (slice_index ns 2) (slice_index ns 3)) (numbers_of 4 ws)

abbrev pub pass_of : List (List ℕ) → Option ScriptRequest
pass_of ws = option_map (λ ns. Pass (slice_index ns 0)) (numbers_of 1 ws)

-- how a clock runs, by the word for it and so many parts in a million
abbrev pub drift_of : List ℕ → ℕ → Option Drift
drift_of way parts = cond (bytes_eq way (codes "fast")) (Some (Fast parts)) (cond (bytes_eq way (codes "slow")) (Some (Slow parts)) None)

abbrev pub clock_of : List (List ℕ) → Option ScriptRequest
clock_of [] = None
clock_of (h ∷ []) = None
clock_of (h ∷ way ∷ ws) = option_and_then (λ machine. option_and_then (λ parts. option_map (Clock machine) (drift_of way parts)) (one_of ws)) (number_of h)

abbrev pub ask_of : List (List ℕ) → Option ScriptRequest
ask_of ws = option_map (λ ns. Ask (slice_index ns 0) (slice_index ns 1)) (numbers_of 2 ws)

abbrev pub answer_of : List (List ℕ) → Option ScriptRequest
answer_of ws = option_map (λ ns. Answer (slice_index ns 0) (slice_index ns 1) (record { low = slice_index ns 2; high = slice_index ns 3 })) (numbers_of 4 ws)

abbrev pub honest_of : List (List ℕ) → Option ScriptRequest
honest_of ws = option_map (λ ns. Honest (slice_index ns 0) (slice_index ns 1) (slice_index ns 2) (slice_index ns 3)) (numbers_of 4 ws)

abbrev pub span_of : List (List ℕ) → Option ScriptRequest
span_of ws = option_map (λ ns. Span (slice_index ns 0)) (numbers_of 1 ws)

-- the request that words are, if they are one
abbrev pub script_request : List (List ℕ) → Option ScriptRequest
script_request [] = None
script_request (k ∷ ws) =
    cond (bytes_eq k (codes "world")) (world_of ws)
    (cond (bytes_eq k (codes "pass")) (pass_of ws)
    (cond (bytes_eq k (codes "clock")) (clock_of ws)
    (cond (bytes_eq k (codes "ask")) (ask_of ws)
    (cond (bytes_eq k (codes "answer")) (answer_of ws)
    (cond (bytes_eq k (codes "honest")) (honest_of ws)
    (cond (bytes_eq k (codes "span")) (span_of ws) None))))))

abbrev pub drift_words : Drift → List (List ℕ)
drift_words (Fast parts) = codes "fast" ∷ decimal parts ∷ []
drift_words (Slow parts) = codes "slow" ∷ decimal parts ∷ []

-- the words that a request is written as; `decimal n` is what `{n}` writes of a number
abbrev pub script_words : ScriptRequest → List (List ℕ)
script_words (World machines servers faulty rate) = codes "world" ∷ decimal machines ∷ decimal servers ∷ decimal faulty ∷ decimal rate ∷ []
script_words (Pass by) = codes "pass" ∷ decimal by ∷ []
script_words (Clock machine drift) = codes "clock" ∷ decimal machine ∷ drift_words drift
script_words (Ask machine server) = codes "ask" ∷ decimal machine ∷ decimal server ∷ []
script_words (Answer machine server span) = codes "answer" ∷ decimal machine ∷ decimal server ∷ decimal span.low ∷ decimal span.high ∷ []
script_words (Honest machine server less more) = codes "honest" ∷ decimal machine ∷ decimal server ∷ decimal less ∷ decimal more ∷ []
script_words (Span machine) = codes "span" ∷ decimal machine ∷ []

-- the numbers of a request are below 2 ^ 64
abbrev pub ScriptFits : ScriptRequest → Type 0
ScriptFits (World machines servers faulty rate) = (machines < 2 ^ 64) × (servers < 2 ^ 64) × (faulty < 2 ^ 64) × (rate < 2 ^ 64)
ScriptFits (Pass by) = by < 2 ^ 64
ScriptFits (Clock machine drift) = (machine < 2 ^ 64) × (parts_of drift < 2 ^ 64)
ScriptFits (Ask machine server) = (machine < 2 ^ 64) × (server < 2 ^ 64)
ScriptFits (Answer machine server span) = (machine < 2 ^ 64) × (server < 2 ^ 64) × (span.low < 2 ^ 64) × (span.high < 2 ^ 64)
ScriptFits (Honest machine server less more) = (machine < 2 ^ 64) × (server < 2 ^ 64) × (less < 2 ^ 64) × (more < 2 ^ 64)
ScriptFits (Span machine) = machine < 2 ^ 64

-- the line of every request reads back as that request
abbrev pub ScriptsReadBack : Type 0
ScriptsReadBack = ReadsBack script_words ScriptFits (line_by script_request)
