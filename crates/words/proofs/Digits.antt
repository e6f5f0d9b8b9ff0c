-- A number is read digit by digit.
use Rattle.std.proofs.Common.{◌≡◌, ℕ, ◌+◌, ◌-◌, ◌*◌, ◌^◌, ◌<◌, ◌≤◌, leb, Bool, true, false, cond, ◌&&◌, ltb, ◌⊎◌, List, [], ◌∷◌, length, get_or, drop, Some, None, Option, sym, refl, ap, ◌∙◌, inl, inr, ⊎_elim, arith}
use Rattle.std.specs.Char.{digit_value, is_ascii_digit}
use Rattle.std.specs.Str.{all_ascii_digits}
use Rattle.std.specs.Str.Parse.{digits_value_after}
use Rattle.std.proofs.lemmas.List.{at_drop_more, at_drop_all}
use Rattle.std.proofs.lemmas.Bool.{and_parts, and_right, cond-true, cond-false, lt-ltb, le-ltb, leb-true, ltb-false, ltb-true}
use Rattle.std.proofs.lemmas.Str.{digit_value_digit}
use Rattle.words.specs.Numbers.{next_digit, read_from}

pub value_ge : (n : ℕ) (bs : List ℕ) → n ≤ digits_value_after 10 n bs
value_ge n [] = omega arith
value_ge n (b ∷ bs) = omega (arith, value_ge (n * 10 + digit_value b) bs)

some_by : (d s : Bool) (x m : ℕ) → cond (d && s) (Some x) None ≡ Some m → (d ≡ true) × (s ≡ true) × (x ≡ m)
some_by true true x m e = (refl, refl, cc)
some_by true false x m e = absurd (let z : ◌≡◌ {A = ℕ} 0 1 = cc in omega arith)
some_by false s x m e = absurd (let z : ◌≡◌ {A = ℕ} 0 1 = cc in omega arith)

none_by : (d s : Bool) (x : ℕ) → cond (d && s) (Some x) None ≡ None → (d ≡ false) ⊎ ((d ≡ true) × (s ≡ false))
none_by true true x e = absurd (let z : ◌≡◌ {A = ℕ} 0 1 = cc in omega arith)
none_by true false x e = inr (refl, refl)
none_by false s x e = inl refl

past_digit : (d y z : Bool) (v : Option ℕ) → d ≡ true → cond ((d && y) && z) v None ≡ cond (y && z) v None
past_digit true y z v e = refl
past_digit false y z v e = absurd (let z : ◌≡◌ {A = ℕ} 0 1 = cc in omega arith)

no_digit : (d y z : Bool) (v : Option ℕ) → d ≡ false → cond ((d && y) && z) v None ≡ None
no_digit true y z v e = absurd (let z : ◌≡◌ {A = ℕ} 0 1 = cc in omega arith)
no_digit false y z v e = refl

too_large : (y z : Bool) (v : Option ℕ) → z ≡ false → cond (y && z) v None ≡ None
too_large y z v e = cond-false (y && z) v None (and_right y z e)

-- the value of an ASCII digit, as std tells it
digit_is : (n b : ℕ) → is_ascii_digit b ≡ true → n * 10 + digit_value b ≡ n * 10 + (b - 48)
digit_is n b d =
    let p = and_parts (leb 48 b) (leb b 57) d in
    let low = leb-true 48 b p.0 in
    omega (arith, low, digit_value_digit b (low, leb-true b 57 p.1))

read_more : (n b m : ℕ) (bs : List ℕ) → next_digit n b ≡ Some m → read_from n (b ∷ bs) ≡ read_from m bs
read_more n b m bs e =
    let p = some_by (is_ascii_digit b) (ltb (n * 10 + (b - 48)) (2 ^ 64)) (n * 10 + (b - 48)) m e in
    let v : ℕ = digits_value_after 10 (n * 10 + digit_value b) bs in
    past_digit (is_ascii_digit b) (all_ascii_digits bs) (ltb v (2 ^ 64)) (Some v) p.0 ∙ ap (λ k. read_from k bs) (digit_is n b p.0 ∙ p.2)

read_stop : (n b : ℕ) (bs : List ℕ) → next_digit n b ≡ None → read_from n (b ∷ bs) ≡ None
read_stop n b bs e =
    let x : ℕ = n * 10 + (b - 48) in
    let v : ℕ = digits_value_after 10 (n * 10 + digit_value b) bs in
    ⊎_elim
    (λ d. no_digit (is_ascii_digit b) (all_ascii_digits bs) (ltb v (2 ^ 64)) (Some v) d)
    (λ s. too_large (is_ascii_digit b && all_ascii_digits bs) (ltb v (2 ^ 64)) (Some v) (le-ltb v (2 ^ 64) (omega (arith, value_ge (n * 10 + digit_value b) bs, digit_is n b s.0, ltb-false x (2 ^ 64) s.1))))
    (none_by (is_ascii_digit b) (ltb x (2 ^ 64)) x e)

-- what the loop keeps: the digits that are left give the same number behind n as the whole word
pub record Reading (w : List ℕ) (i n : ℕ) : Type 0 where
  pub same : read_from n (drop i w) ≡ read_from 0 w
  pub fits : n < 2 ^ 64

-- one turn of the loop, its early end and its end
pub turn : (w : List ℕ) (i n m : ℕ) → i < length w → next_digit n (get_or w i 0) ≡ Some m → Reading w i n → Reading w (i + 1) m
turn w i n m h e inv =
    let b : ℕ = get_or w i 0 in
    let p = some_by (is_ascii_digit b) (ltb (n * 10 + (b - 48)) (2 ^ 64)) (n * 10 + (b - 48)) m e in
    record {
      same = sym (read_more n b m (drop (i + 1) w) e) ∙ sym (at_drop_more (read_from n) w i 0 h) ∙ inv.same;
      fits = omega (arith, ltb-true (n * 10 + (b - 48)) (2 ^ 64) p.1, p.2);
    }

pub stop : (w : List ℕ) (i n : ℕ) → i < length w → next_digit n (get_or w i 0) ≡ None → Reading w i n → None ≡ read_from 0 w
stop w i n h e inv = sym (read_stop n (get_or w i 0) (drop (i + 1) w) e) ∙ sym (at_drop_more (read_from n) w i 0 h) ∙ inv.same

pub end : (w : List ℕ) (i n : ℕ) → length w ≤ i → Reading w i n → Some n ≡ read_from 0 w
end w i n h inv = sym (cond-true (ltb n (2 ^ 64)) (Some n) None (lt-ltb n (2 ^ 64) inv.fits)) ∙ sym (at_drop_all (read_from n) w i h) ∙ inv.same
