-- A list that is filled place by place with what a function gives of another list's elements.
use Rattle.std.proofs.Common.{◌≡◌, ℕ, ◌+◌, ◌<◌, ◌≤◌, List, [], ◌∷◌, ◌++◌, map, length, get_or, take, set, sym, ap, ◌∙◌, add-one, take_all, take-suc-set}
use Rattle.std.proofs.lemmas.List.{map_more}

module _ {X Y : Type 0} (f : X → Y) (xs : List X) (ys : List Y) where
  pub fill_more : (i : ℕ) (d : X) (y : Y) → i < length xs → i < length ys → take i ys ≡ map f (take i xs) → y ≡ f (get_or xs i d) →
      take (i + 1) (set ys i y) ≡ map f (take (i + 1) xs)
  fill_more i d y hx hy e v =
      ap (λ n. take n (set ys i y)) (add-one i) ∙ (take-suc-set ys i y hy ∙ (ap (λ l. l ++ (y ∷ [])) e ∙ (ap (λ z. map f (take i xs) ++ (z ∷ [])) v ∙ sym (map_more f xs i d hx))))

  pub fill_all : (n : ℕ) → length xs ≤ n → length ys ≤ n → take n ys ≡ map f (take n xs) → ys ≡ map f xs
  fill_all n hx hy e = sym (take_all n ys hy) ∙ (e ∙ ap (map f) (take_all n xs hx))
