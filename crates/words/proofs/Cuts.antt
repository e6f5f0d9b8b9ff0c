-- A line is cut at its first space.
use Rattle.std.proofs.Common.{◌≡◌, ℕ, ◌+◌, ◌-◌, ◌≤◌, Bool, true, false, cond, eqb, ltb, List, [], ◌∷◌, length, take, drop, Some, None, Option, sym, refl, ap, ◌∙◌, arith}
use Rattle.std.specs.List.{onto_first, position_or_len}
use Rattle.std.proofs.lemmas.List.Splits.{slice_split-cons_no, slice_split_first, slice_split_none}
use Rattle.std.proofs.lemmas.Bool.{ne_eqb, ltb-true, ltb-false}
use Rattle.std.proofs.lemmas.List.{take_rest}
use Rattle.std.proofs.lemmas.List.Sums.{fails_before_first}
use Rattle.std.proofs.lemmas.Option.{none-some, cond_some}
use Rattle.words.specs.Words.{words_of}

pub words_byte : (x : ℕ) (xs : List ℕ) → (x ≡ 32 → ⊥) → words_of (x ∷ xs) ≡ onto_first x (words_of xs)
words_byte x xs e = slice_split-cons_no (λ b. eqb b 32) x xs (ne_eqb x 32 e)

abbrev space : ℕ → Bool
space b = eqb b 32

-- what `position` says of where the first space stands
abbrev pub first_space : List ℕ → Option ℕ
first_space xs = cond (ltb (position_or_len space xs) (length xs)) (Some (position_or_len space xs)) None

pub cut_at : (xs : List ℕ) (n : ℕ) → Some n ≡ first_space xs → words_of xs ≡ take n xs ∷ words_of (take (length xs - (n + 1)) (drop (n + 1) xs))
cut_at xs n e =
    let p = cond_some (ltb (position_or_len space xs) (length xs)) (position_or_len space xs) n (sym e) in
    slice_split_first space xs 0 (ltb-true (position_or_len space xs) (length xs) p.0) ∙ ap (λ k. take k xs ∷ words_of (drop (k + 1) xs)) p.1 ∙ ap (λ ys. take n xs ∷ words_of ys) (sym (take_rest xs (n + 1)))

pub cut_none : (xs : List ℕ) → None ≡ first_space xs → words_of xs ≡ xs ∷ []
cut_none xs e = slice_split_none space xs (λ k d h. fails_before_first space xs k d (omega (arith, by (ltb (position_or_len space xs) (length xs)) refl e)))
  where
    by : (t : Bool) → ltb (position_or_len space xs) (length xs) ≡ t → None ≡ cond t (Some (position_or_len space xs)) None → length xs ≤ position_or_len space xs
    by true is e = absurd (none-some (position_or_len space xs) e)
    by false is e = ltb-false (position_or_len space xs) (length xs) is
