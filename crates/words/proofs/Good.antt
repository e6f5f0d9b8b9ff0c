-- Words that are written as they are read: keywords and digits with no zeros in front.
use Rattle.std.proofs.Common.{◌≡◌, ℕ, ◌^◌, ◌<◌, Bool, true, not, ◌&&◌, eqb, List, [], ◌∷◌, map, None, decimal, refl, ap}
use Rattle.std.specs.Char.{is_ascii_digit}
use Rattle.std.specs.List.{AllByRecursion}
use Rattle.std.specs.Str.{all_ascii_digits}
use Rattle.std.proofs.lemmas.Bool.{and_parts, eqb-false, not-true, both_ways}
use Rattle.words.specs.Laws.{Whole}
use Rattle.words.specs.Numbers.{number_of, plain, plain_by}
use Rattle.words.proofs.Plainly.{plain_number}
use Rattle.words.proofs.Writes.{numbers_read_back_lem, decimal_digits}

pub record Good (w : List ℕ) : Type 0 where
  pub same : plain w ≡ w
  pub whole : Whole w

-- whether a word has no space
abbrev spaceless : List ℕ → Bool
spaceless [] = true
spaceless (b ∷ bs) = not (eqb b 32) && spaceless bs

whole_by : (w : List ℕ) → spaceless w ≡ true → Whole w
whole_by [] e = tt
whole_by (b ∷ bs) e = let p = and_parts (not (eqb b 32)) (spaceless bs) e in (eqb-false b 32 (not-true (eqb b 32) p.0), whole_by bs p.1)

whole_digits : (w : List ℕ) → all_ascii_digits w ≡ true → Whole w
whole_digits [] e = tt
whole_digits (b ∷ bs) e =
    let p = and_parts (is_ascii_digit b) (all_ascii_digits bs) e in
    ((λ s. both_ways (is_ascii_digit b) (ap is_ascii_digit s) p.0), whole_digits bs p.1)

pub good_key : (key : List ℕ) → number_of key ≡ None → spaceless key ≡ true → Good key
good_key key n s = record { same = ap (plain_by key) n; whole = whole_by key s }

pub good_decimal : (n : ℕ) → n < 2 ^ 64 → Good (decimal n)
good_decimal n h = record { same = plain_number (decimal n) n (numbers_read_back_lem n h); whole = whole_digits (decimal n) (decimal_digits n h) }

pub all_same : (ws : List (List ℕ)) → AllByRecursion Good ws → map plain ws ≡ ws
all_same [] h = refl
all_same (w ∷ ws) h = λ i. h.0.same i ∷ all_same ws h.1 i

pub all_whole : (ws : List (List ℕ)) → AllByRecursion Good ws → AllByRecursion Whole ws
all_whole [] h = tt
all_whole (w ∷ ws) h = (h.0.whole, all_whole ws h.1)
