-- What is made in pieces is appended whole.
use Rattle.std.proofs.Common.{◌≡◌, ℕ, Bool, List, ◌++◌, Some, None, IfSome, Option, if◌then◌else◌, ap, ◌∙◌}

pub appended : (o : Option (List ℕ)) (Wrote : List ℕ → Type 0) (bytes : List ℕ) (t : Bool) (was now : List ℕ) → IfSome o Wrote → ((text : List ℕ) → Wrote text → bytes ≡ text) → now ≡ (if t then was ++ bytes else was) → IfSome o (λ text. now ≡ (if t then was ++ text else was))
appended None Wrote bytes t was now wrote whole is = tt
appended (Some text) Wrote bytes t was now wrote whole is = is ∙ ap (λ l. if t then was ++ l else was) (whole text wrote)
