-- How words are read as a keyword and numbers, whatever request they make.
use Rattle.std.specs.Prelude.{slice_index}
use Rattle.std.proofs.Common.{◌≡◌, ℕ, zero, suc, ◌<◌, Bool, true, false, cond, List, [], ◌∷◌, map, length, Some, decimal, Option, sym, refl, ap, ◌∙◌, subst, arith}
use Rattle.std.specs.Option.{option_map}
use Rattle.std.specs.Str.{bytes_eq}
use Rattle.std.proofs.lemmas.Slice.Eq.{bytes_eq-Decides}
use Rattle.words.specs.Numbers.{plain, numbers_of}
use Rattle.words.proofs.Plainly.{Fit, mapped_some, numbers_sound}

-- one of two ways to read
pub pick : {X : Type 0} (t : Bool) (x y : Option X) (q : X) (P : Type 0) → (t ≡ true → x ≡ Some q → P) → (y ≡ Some q → P) → cond t x y ≡ Some q → P
pick true x y q P f g e = f refl e
pick false x y q P f g e = g e

pub keyed : (k key : List ℕ) → bytes_eq k key ≡ true → k ≡ key
keyed k key t = (bytes_eq-Decides k key).0 t

-- no words are those of no request
pub no_words : {P : Type 0} (ws : List (List ℕ)) → 0 < length ws → [] ≡ ws → P
no_words ws some e = absurd (omega (arith, ap length e))

-- the values at 0, 1 and so on, so many of them
abbrev pub picked : ℕ → (ℕ → ℕ) → List ℕ
picked zero at = []
picked (suc n) at = at 0 ∷ picked n (λ k. at (suc k))

picked_all : (ns : List ℕ) → picked (length ns) (slice_index ns) ≡ ns
picked_all [] = refl
picked_all (n ∷ ns) = ap (λ ms. n ∷ ms) (picked_all ns)

module _ {R : Type 0} (written : R → List (List ℕ)) (Fits : R → Type 0) where
  -- words are those of a request
  abbrev pub Reads : List (List ℕ) → R → Type 0
  Reads ws q = Fits q × (map plain ws ≡ written q)

  -- a keyword and numbers are those of the request that they are read as
  pub read_numbers : (count : ℕ) (make : List ℕ → R) (key : List ℕ) → plain key ≡ key → ((ns : List ℕ) → written (make ns) ≡ key ∷ map decimal (picked count (slice_index ns))) → ((ns : List ℕ) → Fit (picked count (slice_index ns)) → Fits (make ns)) → (k : List ℕ) (ws : List (List ℕ)) (q : R) → k ≡ key → option_map make (numbers_of count ws) ≡ Some q → Reads (k ∷ ws) q
  read_numbers count make key is words fits k ws q e h =
      let m = mapped_some make (numbers_of count ws) q h in
      let o = numbers_sound count ws m.0 m.1 in
      let same : picked count (slice_index m.0) ≡ m.0 = ap (λ n. picked n (slice_index m.0)) (sym o.2) ∙ picked_all m.0 in
      subst (Reads (k ∷ ws)) m.2 (fits m.0 (subst Fit (sym same) o.1), (λ i. (ap plain e ∙ is) i ∷ o.0 i) ∙ ap (λ ns. key ∷ map decimal ns) (sym same) ∙ sym (words m.0))
