-- What is written reads back.
use Rattle.std.specs.Prelude.{◌≡◌, ℕ, ◌^◌, ◌<◌, List, ◌∷◌, Some, decimal, ◌≢◌, slice_index}
use Rattle.std.specs.List.{AllByRecursion}
use Rattle.words.specs.Numbers.{number_of}
use Rattle.words.specs.Words.{words_of, joined}

-- a word with no space in it
abbrev pub Whole : List ℕ → Type 0
Whole w = AllByRecursion (λ b. b ≢ 32) w

-- the digits that `{n}` writes of a number are read as that number
abbrev pub NumbersReadBack : Type 0
NumbersReadBack = (n : ℕ) → n < 2 ^ 64 → number_of (decimal n) ≡ Some n

-- and the first of them is no zero, but for the number 0
abbrev pub NoZeroInFront : Type 0
NoZeroInFront = (n : ℕ) → n < 2 ^ 64 → 0 < n → 48 < slice_index (decimal n) 0

-- words that are joined to a line are its words
abbrev pub WordsReadBack : Type 0
WordsReadBack = (w : List ℕ) (ws : List (List ℕ)) → AllByRecursion Whole (w ∷ ws) → words_of (joined (w ∷ ws)) ≡ w ∷ ws

-- the words of a line have no space in them, and joined they are the line
abbrev pub LinesReadBack : Type 0
LinesReadBack = (bs : List ℕ) → AllByRecursion Whole (words_of bs) × (joined (words_of bs) ≡ bs)
