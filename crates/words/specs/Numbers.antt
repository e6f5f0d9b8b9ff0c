-- Numbers as words.
use Rattle.std.specs.Prelude.{◌≡◌, ℕ, ◌+◌, ◌-◌, ◌*◌, ◌^◌, Bool, cond, ◌&&◌, List, [], ◌∷◌, length, Some, None, decimal, Option, nat_lt, slice_index, ◌==◌}
use Rattle.std.specs.Char.{is_ascii_digit}
use Rattle.std.specs.Option.{option_map, option_and_then}
use Rattle.std.specs.Str.{all_ascii_digits}
use Rattle.std.specs.Str.Parse.{digits_value, digits_value_after}

-- one or more digits (48 to 57) and nothing else, of a value below 2 ^ 64; `digits_value 10` is the number that they write in base ten
abbrev pub is_number : List ℕ → Bool
is_number w = nat_lt 0 (length w) && (all_ascii_digits w && nat_lt (digits_value 10 w) (2 ^ 64))

-- the number that a word is, if it is one
abbrev pub number_of : List ℕ → Option ℕ
number_of w = cond (is_number w) (Some (digits_value 10 w)) None

-- the number n with one more digit behind it, if the byte b is a digit and the number is below 2 ^ 64
abbrev pub next_digit : ℕ → ℕ → Option ℕ
next_digit n b = cond (is_ascii_digit b && nat_lt (n * 10 + (b - 48)) (2 ^ 64)) (Some (n * 10 + (b - 48))) None

-- the number that a word is behind digits of the value n, which may be nothing
abbrev pub read_from : ℕ → List ℕ → Option ℕ
read_from n w = cond (all_ascii_digits w && nat_lt (digits_value_after 10 n w) (2 ^ 64)) (Some (digits_value_after 10 n w)) None

-- the first of the words is read, and the result is the number that it is; without a word there is no number
abbrev pub NextNumber : List (List ℕ) → List (List ℕ) → Option ℕ → Type 0
NextNumber [] after result = (after ≡ []) × (result ≡ None)
NextNumber (w ∷ ws) after result = (after ≡ ws) × (result ≡ number_of w)

-- the numbers that words are, if each of them is one
abbrev pub all_numbers : List (List ℕ) → Option (List ℕ)
all_numbers [] = Some []
all_numbers (w ∷ ws) = option_and_then (λ n. option_map (λ ns. n ∷ ns) (all_numbers ws)) (number_of w)

-- words that are exactly so many numbers
abbrev pub numbers_of : ℕ → List (List ℕ) → Option (List ℕ)
numbers_of count ws = cond (length ws == count) (all_numbers ws) None

-- words that are exactly one number, or two
abbrev pub one_of : List (List ℕ) → Option ℕ
one_of ws = option_map (λ ns. slice_index ns 0) (numbers_of 1 ws)

abbrev pub two_of : List (List ℕ) → Option (ℕ × ℕ)
two_of ws = option_map (λ ns. (slice_index ns 0, slice_index ns 1)) (numbers_of 2 ws)

-- a word without the zeros in front where it is a number, and as it is where it is none; `decimal n` is what `{n}` writes of a number
abbrev pub plain_by : List ℕ → Option ℕ → List ℕ
plain_by w None = w
plain_by w (Some n) = decimal n

abbrev pub plain : List ℕ → List ℕ
plain w = plain_by w (number_of w)
