-- Numbers are read one after another.
use Rattle.std.proofs.Common.{◌≡◌, ℕ, ◌+◌, ◌<◌, ◌≤◌, eqb, Bool, true, false, cond, List, [], ◌∷◌, ◌++◌, length, take, set, Some, None, Option, sym, refl, ap, ◌∙◌, append_assoc, append-nil, length-set, arith}
use Rattle.std.specs.Option.{option_map, option_and_then}
use Rattle.std.proofs.lemmas.List.{take_more_set, take_all}
use Rattle.std.proofs.lemmas.Bool.{eq-eqb, ne_eqb, cond-true, cond-false}
use Rattle.words.specs.Numbers.{NextNumber, all_numbers, numbers_of}
use Rattle.std.proofs.lemmas.List.Splits.{length-slice_split}
use Rattle.std.proofs.lemmas.Option.{none-some}
use Rattle.words.specs.Words.{words_of}

-- the first i of the words are read, and are the first i of so many numbers
pub record Read (size : ℕ) (start rest : List (List ℕ)) (ns : List ℕ) (i : ℕ) : Type 0 where
  pub room : length ns ≡ size
  pub count : length start ≡ i + length rest
  pub numbers : all_numbers start ≡ option_map (λ ms. take i ns ++ ms) (all_numbers rest)

pub begun : (size : ℕ) (ws : List (List ℕ)) (ns : List ℕ) → length ns ≡ size → Read size ws ws ns 0
begun size ws ns e = record { room = e; count = omega arith; numbers = by (all_numbers ws) }
  where
    by : (o : Option (List ℕ)) → o ≡ option_map (λ ms. take 0 ns ++ ms) o
    by None = refl
    by (Some ms) = refl

onto_more : (ms ks : List ℕ) (n : ℕ) (o : Option (List ℕ)) → ks ≡ ms ++ n ∷ [] → option_map (λ js. ms ++ js) (option_map (λ js. n ∷ js) o) ≡ option_map (λ js. ks ++ js) o
onto_more ms ks n None e = refl
onto_more ms ks n (Some js) e = ap Some (sym (append_assoc ms (n ∷ []) js) ∙ ap (λ is. is ++ js) (sym e))

-- one number more
pub go_on : (size : ℕ) (start rest after : List (List ℕ)) (ns : List ℕ) (i n : ℕ) → i < size → NextNumber rest after (Some n) → Read size start rest ns i → Read size start after (set ns i n) (i + 1)
go_on size start [] after ns i n h e r = absurd (none-some n (sym e.1))
go_on size start (w ∷ ws) after ns i n h e r = record {
  room = omega (arith, r.room, length-set {A = ℕ});
  count = omega (arith, r.count, ap length e.0);
  numbers =
      r.numbers
      ∙ ap (option_map (λ ms. take i ns ++ ms)) (ap (option_and_then (λ m. option_map (λ ms. m ∷ ms) (all_numbers ws))) (sym e.1))
      ∙ onto_more (take i ns) (take (i + 1) (set ns i n)) n (all_numbers ws) (take_more_set ns i n (omega (arith, r.room)))
      ∙ ap (λ vs. option_map (λ ms. take (i + 1) (set ns i n) ++ ms) (all_numbers vs)) (sym e.0);
}

otherwise : (size : ℕ) (ws : List (List ℕ)) → (length ws ≡ size → ⊥) → None ≡ numbers_of size ws
otherwise size ws h = sym (cond-false (eqb (length ws) size) (all_numbers ws) None (ne_eqb (length ws) size h))

-- a word is missing, or is no number
pub stop : (size : ℕ) (start rest after : List (List ℕ)) (ns : List ℕ) (i : ℕ) → i < size → NextNumber rest after None → Read size start rest ns i → None ≡ numbers_of size start
stop size start [] after ns i h e r = otherwise size start (λ s. omega (arith, r.count, r.room))
stop size start (w ∷ ws) after ns i h e r = by (eqb (length start) size)
  where
    none : all_numbers start ≡ None
    none = r.numbers ∙ ap (λ o. option_map (λ ms. take i ns ++ ms) (option_and_then (λ m. option_map (λ ms. m ∷ ms) (all_numbers ws)) o)) (sym e.1)

    by : (t : Bool) → None ≡ cond t (all_numbers start) None
    by true = sym none
    by false = refl

-- nothing is left behind the last number, or a word is
pub full : (size : ℕ) (start rest : List (List ℕ)) (ns : List ℕ) (i : ℕ) → size ≤ i → i ≤ size → rest ≡ [] → Read size start rest ns i → Some ns ≡ numbers_of size start
full size start rest ns i h k e r =
    sym (cond-true (eqb (length start) size) (all_numbers start) None (eq-eqb (length start) size (omega (arith, r.count, r.room, ap length e)))
    ∙ r.numbers ∙ ap (λ ws. option_map (λ ms. take i ns ++ ms) (all_numbers ws)) e ∙ ap Some (append-nil (take i ns) ∙ take_all i ns (omega (arith, r.room))))

pub over : (size : ℕ) (start rest ws : List (List ℕ)) (w ns : List ℕ) (i : ℕ) → size ≤ i → i ≤ size → rest ≡ w ∷ ws → Read size start rest ns i → None ≡ numbers_of size start
over size start rest ws w ns i h k e r = otherwise size start (λ s. omega (arith, r.count, r.room, ap length e))

-- a line has a word
pub has_word : (line : List ℕ) → words_of line ≡ [] → ⊥
has_word line e = omega (arith, ap length e, length-slice_split (λ b. eqb b 32) line)

-- the same, of what stands behind a space
pub over_line : (size : ℕ) (start rest : List (List ℕ)) (line ns : List ℕ) (i : ℕ) → size ≤ i → i ≤ size → rest ≡ words_of line → Read size start rest ns i → None ≡ numbers_of size start
over_line size start rest line ns i h k e r = otherwise size start (λ s. omega (arith, r.count, r.room, ap length e, length-slice_split (λ b. eqb b 32) line))
