-- What is answered, as words and as the bytes of a line.
use Rattle.std.specs.Prelude.{ℕ, List, [], ◌∷◌, ◌++◌, codes, decimal}
use Rattle.answers.specs.declared.Said.{Said}
use Rattle.answers.specs.declared.Said.TheVariants.{Ok, Number, Span}
use Rattle.answers.specs.declared.Reply.{Reply}
use Rattle.answers.specs.declared.Reply.TheVariants.{Plain, World, Machine}
use Rattle.words.specs.Words.{joined}

-- what is said, as words; `decimal n` is what `{n}` writes of a number
abbrev pub said_words : Said → List (List ℕ)
said_words Ok = codes "ok" ∷ []
said_words (Number n) = codes "number" ∷ decimal n ∷ []
said_words (Span s) = codes "span" ∷ decimal s.low ∷ decimal s.high ∷ []

-- a time with a colon (58) behind it
abbrev pub stamped : ℕ → List ℕ
stamped time = decimal time ++ 58 ∷ []

abbrev pub reply_words : Reply → List (List ℕ)
reply_words (Plain said) = said_words said
reply_words (World time said) = stamped time ∷ said_words said
reply_words (Machine time machine said) = stamped time ∷ decimal machine ∷ said_words said

-- the bytes of an answer's line, with the newline (10) that ends it
abbrev pub spoken : Reply → List ℕ
spoken reply = joined (reply_words reply) ++ 10 ∷ []
