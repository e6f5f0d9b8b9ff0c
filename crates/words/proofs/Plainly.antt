-- Words up to zeros in front: what is read as numbers is, without them, those numbers' digits, and the other way round.
use Rattle.std.specs.Prelude.{slice_index}
use Rattle.std.proofs.Common.{◌≡◌, ℕ, ◌^◌, ◌<◌, Bool, true, false, cond, eqb, List, [], ◌∷◌, map, length, Some, None, decimal, Option, sym, refl, ap, ◌∙◌, subst, arith}
use Rattle.std.specs.Option.{option_map, option_and_then}
use Rattle.std.specs.List.{AllByRecursion}
use Rattle.std.specs.Str.Parse.{digits_value}
use Rattle.std.proofs.lemmas.Option.{cond_some, none-some, same_Some, option_and_then_some}
use Rattle.std.proofs.lemmas.List.{length-map}
use Rattle.std.proofs.lemmas.Fmt.{decimal_injective}
use Rattle.std.proofs.lemmas.Bool.{cond-true, eq-eqb, eqb-true}
use Rattle.words.specs.Numbers.{is_number, number_of, plain, plain_by, all_numbers, numbers_of, one_of, two_of}
use Rattle.words.proofs.Writes.{number_parts, numbers_read_back_lem}

pub mapped_some : {X Y : Type 0} (f : X → Y) (o : Option X) (y : Y) → option_map f o ≡ Some y → (x : X) × (o ≡ Some x) × (f x ≡ y)
mapped_some f None y e = absurd (none-some y e)
mapped_some f (Some x) y e = (x, refl, cc)

-- the number that a word is
pub number_fits : (w : List ℕ) (n : ℕ) → number_of w ≡ Some n → n < 2 ^ 64
number_fits w n e =
    let p = cond_some (is_number w) (digits_value 10 w) n e in
    let q = number_parts w p.0 in
    omega (arith, q.2, p.1)

pub plain_number : (w : List ℕ) (n : ℕ) → number_of w ≡ Some n → plain w ≡ decimal n
plain_number w n e = ap (plain_by w) e

number_by : (w : List ℕ) (n : ℕ) (o : Option ℕ) → number_of w ≡ o → n < 2 ^ 64 → plain_by w o ≡ decimal n → number_of w ≡ Some n
number_by w n None is h e = ap number_of e ∙ numbers_read_back_lem n h
number_by w n (Some m) is h e = is ∙ ap Some (decimal_injective m n (number_fits w m is) h e)

pub number_plain : (w : List ℕ) (n : ℕ) → n < 2 ^ 64 → plain w ≡ decimal n → number_of w ≡ Some n
number_plain w n h e = number_by w n (number_of w) refl h e

-- a word that is no number stays as it is, and no other word becomes it
key_by : (w key : List ℕ) (o : Option ℕ) → number_of w ≡ o → number_of key ≡ None → plain_by w o ≡ key → w ≡ key
key_by w key None is none e = e
key_by w key (Some m) is none e = absurd (none-some m (sym none ∙ ap number_of (sym e) ∙ numbers_read_back_lem m (number_fits w m is)))

pub key_plain : (w key : List ℕ) → number_of key ≡ None → plain w ≡ key → w ≡ key
key_plain w key none e = key_by w key (number_of w) refl none e

-- one number after another
abbrev pub Fit : List ℕ → Type 0
Fit ns = AllByRecursion (λ n. n < 2 ^ 64) ns

-- words that are numbers are plainly those numbers' digits
pub all_sound : (ws : List (List ℕ)) (ns : List ℕ) → all_numbers ws ≡ Some ns → (map plain ws ≡ map decimal ns) × Fit ns
all_sound [] [] e = (refl, tt)
all_sound [] (n ∷ ns) e = absurd (omega (arith, ap length (same_Some [] (n ∷ ns) e)))
all_sound (w ∷ ws) ns e =
    option_and_then_some (λ a. option_map (λ ks. a ∷ ks) (all_numbers ws)) (number_of w) ns e (λ n is f.
    let m = mapped_some (λ ks. n ∷ ks) (all_numbers ws) ns f in
    let o = all_sound ws m.0 m.1 in
    subst (λ k. (map plain (w ∷ ws) ≡ map decimal k) × Fit k) m.2 ((λ i. plain_number w n is i ∷ o.0 i), (number_fits w n is, o.1)))

-- and the other way round
pub all_complete : (ws : List (List ℕ)) (ns : List ℕ) → Fit ns → map plain ws ≡ map decimal ns → all_numbers ws ≡ Some ns
all_complete [] [] h e = refl
all_complete [] (n ∷ ns) h e = absurd (omega (arith, ap length e))
all_complete (w ∷ ws) [] h e = absurd (omega (arith, ap length e))
all_complete (w ∷ ws) (n ∷ ns) h e =
    ap (option_and_then (λ x. option_map (λ ks. x ∷ ks) (all_numbers ws))) (number_plain w n h.0 (cc)) ∙ ap (option_map (λ ks. n ∷ ks)) (all_complete ws ns h.1 (cc))

-- the same of exactly so many numbers
pub numbers_sound : (count : ℕ) (ws : List (List ℕ)) (ns : List ℕ) → numbers_of count ws ≡ Some ns → (map plain ws ≡ map decimal ns) × Fit ns × (length ns ≡ count)
numbers_sound count ws ns e = by (eqb (length ws) count) refl e
  where
    by : (t : Bool) → eqb (length ws) count ≡ t → cond t (all_numbers ws) None ≡ Some ns → (map plain ws ≡ map decimal ns) × Fit ns × (length ns ≡ count)
    by true is e = let a = all_sound ws ns e in (a.0, a.1, omega (arith, eqb-true (length ws) count is, ap length a.0, length-map ws plain, length-map ns decimal))
    by false is e = absurd (none-some ns e)

pub numbers_complete : (ws : List (List ℕ)) (ns : List ℕ) → Fit ns → map plain ws ≡ map decimal ns → numbers_of (length ns) ws ≡ Some ns
numbers_complete ws ns h e =
    let same : length ws ≡ length ns = omega (arith, ap length e, length-map ws plain, length-map ns decimal) in
    cond-true (eqb (length ws) (length ns)) (all_numbers ws) None (eq-eqb (length ws) (length ns) same) ∙ all_complete ws ns h e

pub one_sound : (ws : List (List ℕ)) (a : ℕ) → one_of ws ≡ Some a → (map plain ws ≡ decimal a ∷ []) × (a < 2 ^ 64)
one_sound ws a e = let m = mapped_some (λ ns. slice_index ns 0) (numbers_of 1 ws) a e in by m.0 (numbers_sound 1 ws m.0 m.1) m.2
  where
    by : (ns : List ℕ) → (map plain ws ≡ map decimal ns) × Fit ns × (length ns ≡ 1) → slice_index ns 0 ≡ a → (map plain ws ≡ decimal a ∷ []) × (a < 2 ^ 64)
    by [] h e = absurd (omega (arith, h.2))
    by (n ∷ []) h e = (h.0 ∙ ap (λ k. decimal k ∷ []) e, omega (arith, h.1.0, e))
    by (n ∷ k ∷ ns) h e = absurd (omega (arith, h.2))

pub one_complete : (ws : List (List ℕ)) (a : ℕ) → a < 2 ^ 64 → map plain ws ≡ decimal a ∷ [] → one_of ws ≡ Some a
one_complete ws a h e = ap (option_map (λ ns. slice_index ns 0)) (numbers_complete ws (a ∷ []) (h, tt) e)

pub two_complete : (ws : List (List ℕ)) (a b : ℕ) → a < 2 ^ 64 → b < 2 ^ 64 → map plain ws ≡ decimal a ∷ decimal b ∷ [] → two_of ws ≡ Some (a, b)
two_complete ws a b h k e = ap (option_map (λ ns. (slice_index ns 0, slice_index ns 1))) (numbers_complete ws (a ∷ b ∷ []) (h, (k, tt)) e)
