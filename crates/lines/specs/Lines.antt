-- What a line is: passed over, a request, or unreadable.
use Rattle.std.specs.Prelude.{◌≡◌, ℕ, Bool, true, false, cond, List, [], ◌∷◌, map, Some, None, Option, Ok, Err, Result, ◌==◌, ◌≢◌}
use Rattle.std.specs.Option.{ok_or}
use Rattle.lines.specs.declared.Unreadable.{Unreadable}
use Rattle.words.specs.Numbers.{plain}
use Rattle.words.specs.Words.{words_of, joined}

-- a line that is empty or begins with `#` (35) is passed over
abbrev pub skipped : List ℕ → Bool
skipped [] = true
skipped (b ∷ bs) = b == 35

-- what a line is, where `read` reads the words of requests: nothing where it is passed over
abbrev pub line_by : {R : Type 0} → (List (List ℕ) → Option R) → List ℕ → Option (Result R Unreadable)
line_by read bs = cond (skipped bs) None (Some (ok_or (read (words_of bs)) (record {})))

-- What a line is, told by the words that requests are written as: without zeros in front of its numbers, its words are those of the
-- request that it is read as, and of no request where it is unreadable. `Fits` says of a request that its numbers are below 2 ^ 64.
abbrev pub Told : {R : Type 0} → (R → List (List ℕ)) → (R → Type 0) → List ℕ → Option (Result R Unreadable) → Type 0
Told written Fits bs None = skipped bs ≡ true
Told written Fits bs (Some (Ok q)) = (skipped bs ≡ false) × Fits q × (map plain (words_of bs) ≡ written q)
Told {R} written Fits bs (Some (Err e)) = (skipped bs ≡ false) × ((q : R) → Fits q → map plain (words_of bs) ≢ written q)

-- the line that a request is written as is read as that request
abbrev pub ReadsBack : {R : Type 0} → (R → List (List ℕ)) → (R → Type 0) → (List ℕ → Option (Result R Unreadable)) → Type 0
ReadsBack {R} written Fits line = (q : R) → Fits q → line (joined (written q)) ≡ Some (Ok q)

-- What a kind of requests keeps. Words are read as a request exactly if, without zeros in front of numbers, they are those that the
-- request is written as; and these have no such zeros, are the words of their line, and that line is not passed over.
pub record RequestLaws {R : Type 0} (written : R → List (List ℕ)) (Fits : R → Type 0) (read : List (List ℕ) → Option R) : Type 0 where
  pub sound : (ws : List (List ℕ)) (q : R) → read ws ≡ Some q → Fits q × (map plain ws ≡ written q)
  pub complete : (ws : List (List ℕ)) (q : R) → Fits q → map plain ws ≡ written q → read ws ≡ Some q
  pub same : (q : R) → Fits q → map plain (written q) ≡ written q
  pub cut : (q : R) → Fits q → words_of (joined (written q)) ≡ written q
  pub begins : (q : R) → skipped (joined (written q)) ≡ false
