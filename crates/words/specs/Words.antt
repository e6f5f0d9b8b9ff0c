-- The words of a line. Lines and words are lists of bytes, of any kind.
use Rattle.std.specs.Prelude.{ℕ, List, [], Some, None, Option, ◌==◌}
use Rattle.std.specs.Borrow.{Bor}
use Rattle.std.specs.List.{slice_split, join_with_byte}

-- The words of a line: each space (the byte 32) ends one and begins the next. So two spaces in a row have an empty word between
-- them, and so has a space at an end of the line; an empty line has one word, which is empty.
abbrev pub words_of : List ℕ → List (List ℕ)
words_of bs = slice_split (λ b. b == 32) bs

-- words with single spaces between them
abbrev pub joined : List (List ℕ) → List ℕ
joined ws = join_with_byte 32 ws

-- the words of what is left of a line, which may be nothing
abbrev pub left : Option (Bor (List ℕ)) → List (List ℕ)
left None = []
left (Some rest) = words_of rest.now
