-- Words are joined to a line, and a line is cut into its words.
use Rattle.std.proofs.Common.{◌≡◌, ℕ, ◌<◌, Bool, true, false, cond, eqb, List, [], ◌∷◌, ◌++◌, length, refl, ap, ◌∙◌, arith}
use Rattle.std.specs.List.{AllByRecursion}
use Rattle.std.proofs.lemmas.Bool.{eqb-false}
use Rattle.std.specs.List.{onto_first}
use Rattle.std.proofs.lemmas.List.Splits.{join_with_byte-slice_split}
use Rattle.words.specs.Words.{words_of, joined}
use Rattle.words.specs.Laws.{Whole, WordsReadBack, LinesReadBack}
use Rattle.words.proofs.Cuts.{words_byte}

one_word : (w : List ℕ) → Whole w → words_of w ≡ w ∷ []
one_word [] h = refl
one_word (b ∷ bs) h = words_byte b bs h.0 ∙ ap (onto_first b) (one_word bs h.1)

pub next_word : (w bs : List ℕ) → Whole w → words_of (w ++ 32 ∷ bs) ≡ w ∷ words_of bs
next_word [] bs h = refl
next_word (b ∷ w) bs h = words_byte b (w ++ 32 ∷ bs) h.0 ∙ ap (onto_first b) (next_word w bs h.1)

pub words_read_back_lem : WordsReadBack
words_read_back_lem w [] h = one_word w h.0
words_read_back_lem w (v ∷ ws) h = next_word w (joined (v ∷ ws)) h.0 ∙ ap (λ x. w ∷ x) (words_read_back_lem v ws h.1)

whole_onto : (b : ℕ) (ws : List (List ℕ)) → (b ≡ 32 → ⊥) → AllByRecursion Whole ws → AllByRecursion Whole (onto_first b ws)
whole_onto b [] n h = ((n, tt), tt)
whole_onto b (w ∷ ws) n h = ((n, h.0), h.1)

-- one more byte in front, by whether it is a space
whole_more : (b : ℕ) (ws : List (List ℕ)) (t : Bool) → eqb b 32 ≡ t → AllByRecursion Whole ws → AllByRecursion Whole (cond t ([] ∷ ws) (onto_first b ws))
whole_more b ws true e h = (tt, h)
whole_more b ws false e h = whole_onto b ws (eqb-false b 32 e) h

whole_words : (bs : List ℕ) → AllByRecursion Whole (words_of bs)
whole_words [] = (tt, tt)
whole_words (b ∷ bs) = whole_more b (words_of bs) (eqb b 32) refl (whole_words bs)

pub lines_read_back : LinesReadBack
lines_read_back bs = (whole_words bs, join_with_byte-slice_split 32 bs)

-- the same of words in one list
pub joined_words : (ws : List (List ℕ)) → 0 < length ws → AllByRecursion Whole ws → words_of (joined ws) ≡ ws
joined_words [] some h = absurd (omega arith)
joined_words (w ∷ ws) some h = words_read_back_lem w ws h
