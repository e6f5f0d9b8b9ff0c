-- A number that is written reads back.
use Rattle.std.proofs.Common.{◌≡◌, ℕ, ◌^◌, ◌<◌, true, ◌&&◌, ltb, List, length, Some, None, decimal, ap, ◌∙◌, arith}
use Rattle.std.specs.Str.{all_ascii_digits}
use Rattle.std.specs.Str.Parse.{digits_value}
use Rattle.std.proofs.lemmas.Fmt.{decimal_nonempty, digits_decimal, digits_value-decimal}
use Rattle.std.proofs.lemmas.Str.Parse.{IsNumeralModel, numerals_by_value, tells_all_ascii_digits}
use Rattle.std.proofs.lemmas.Bool.{and_from, and_parts, ltb-true, cond-true, lt-ltb}
use Rattle.words.specs.Laws.{NumbersReadBack}
use Rattle.words.specs.Numbers.{is_number, number_of}

pub own : IsNumeralModel (λ ds. all_ascii_digits ds ≡ true) (digits_value 10)
own = numerals_by_value _ tells_all_ascii_digits

pub number_parts : (w : List ℕ) → is_number w ≡ true → (0 < length w) × (all_ascii_digits w ≡ true) × (digits_value 10 w < 2 ^ 64)
number_parts w e =
    let p = and_parts (ltb 0 (length w)) (all_ascii_digits w && ltb (digits_value 10 w) (2 ^ 64)) e in
    let q = and_parts (all_ascii_digits w) (ltb (digits_value 10 w) (2 ^ 64)) p.1 in
    (ltb-true 0 (length w) p.0, q.0, ltb-true (digits_value 10 w) (2 ^ 64) q.1)

pub number_is : (w : List ℕ) (n : ℕ) → 0 < length w → all_ascii_digits w ≡ true → digits_value 10 w ≡ n → n < 2 ^ 64 → number_of w ≡ Some n
number_is w n some digits e h =
    let fits : digits_value 10 w < 2 ^ 64 = omega (arith, e) in
    cond-true (is_number w) (Some (digits_value 10 w)) None (and_from (ltb 0 (length w)) (all_ascii_digits w && ltb (digits_value 10 w) (2 ^ 64)) (lt-ltb 0 (length w) some) (and_from (all_ascii_digits w) (ltb (digits_value 10 w) (2 ^ 64)) digits (lt-ltb (digits_value 10 w) (2 ^ 64) fits))) ∙ ap Some e

pub numbers_read_back_lem : NumbersReadBack
numbers_read_back_lem n h = number_is (decimal n) n (decimal_nonempty n h) (digits_decimal own n h) (digits_value-decimal own n h) h

pub decimal_digits : (n : ℕ) → n < 2 ^ 64 → all_ascii_digits (decimal n) ≡ true
decimal_digits n h = digits_decimal own n h
