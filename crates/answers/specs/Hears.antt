-- Answers, read back from their words.
use Rattle.std.specs.Prelude.{◌≡◌, ℕ, ◌^◌, ◌<◌, cond, List, [], ◌∷◌, Some, None, codes, Option, ◌==◌, ◌≢◌}
use Rattle.std.specs.Option.{option_map, option_and_then}
use Rattle.std.specs.List.{AllByRecursion}
use Rattle.std.specs.Str.{bytes_eq}
use Rattle.words.specs.Numbers.{number_of, one_of, two_of}
use Rattle.words.specs.Words.{words_of, joined}
use Rattle.answers.specs.declared.Said.{Said}
use Rattle.answers.specs.declared.Said.TheVariants.{Ok, Number, Span}
use Rattle.answers.specs.declared.Reply.{Reply}
use Rattle.answers.specs.declared.Reply.TheVariants.{Plain, World, Machine}
use Rattle.answers.specs.Answers.{reply_words}

-- what words say
abbrev pub ok_of : List (List ℕ) → Option Said
ok_of [] = Some Ok
ok_of (w ∷ ws) = None

abbrev pub said_of : List (List ℕ) → Option Said
said_of [] = None
said_of (k ∷ ws) =
    cond (bytes_eq k (codes "ok")) (ok_of ws)
    (cond (bytes_eq k (codes "number")) (option_map Number (one_of ws))
    (cond (bytes_eq k (codes "span")) (option_map (λ p. Span (record { low = p.0; high = p.1 })) (two_of ws)) None))

-- a word that ends with a colon (58), without it
abbrev pub before_colon : List ℕ → Option (List ℕ)
before_colon [] = None
before_colon (b ∷ []) = cond (b == 58) (Some []) None
before_colon (b ∷ c ∷ bs) = option_map (λ w. b ∷ w) (before_colon (c ∷ bs))

-- the time that a word with a colon behind it is
abbrev pub time_of : List ℕ → Option ℕ
time_of w = option_and_then number_of (before_colon w)

-- an answer: what is said, behind a time or not, and then behind a machine's number or not
abbrev pub from_machine : ℕ → Option ℕ → List ℕ → List (List ℕ) → Option Reply
from_machine time None w ws = option_map (World time) (said_of (w ∷ ws))
from_machine time (Some machine) w ws = option_map (Machine time machine) (said_of ws)

abbrev pub behind_time : ℕ → List (List ℕ) → Option Reply
behind_time time [] = None
behind_time time (w ∷ ws) = from_machine time (number_of w) w ws

abbrev pub from_time : Option ℕ → List ℕ → List (List ℕ) → Option Reply
from_time None w ws = option_map Plain (said_of (w ∷ ws))
from_time (Some time) w ws = behind_time time ws

abbrev pub reply_of : List (List ℕ) → Option Reply
reply_of [] = None
reply_of (w ∷ ws) = from_time (time_of w) w ws

-- the numbers of an answer are below 2 ^ 64
abbrev pub SaidFits : Said → Type 0
SaidFits Ok = Unit {0}
SaidFits (Number n) = n < 2 ^ 64
SaidFits (Span s) = (s.low < 2 ^ 64) × (s.high < 2 ^ 64)

abbrev pub ReplyFits : Reply → Type 0
ReplyFits (Plain said) = SaidFits said
ReplyFits (World time said) = (time < 2 ^ 64) × SaidFits said
ReplyFits (Machine time machine said) = (time < 2 ^ 64) × (machine < 2 ^ 64) × SaidFits said

-- the line of an answer has no newline (10) before the one that ends it, and its words read back as that answer
abbrev pub ReadsBack : Reply → Type 0
ReadsBack reply = ReplyFits reply → AllByRecursion (λ b. b ≢ 10) (joined (reply_words reply)) × (reply_of (words_of (joined (reply_words reply))) ≡ Some reply)
