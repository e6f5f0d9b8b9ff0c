-- The votes of the spans, one after another.
use Rattle.std.proofs.Common.{◌≡◌, ℕ, ◌+◌, ◌≤◌, true, false, cond, List, ◌∷◌, Option, arith}
use Rattle.std.proofs.lemmas.List.Sums.{sum_by-cons}
use Rattle.clocks.specs.declared.growth.Span.{Span}
use Rattle.votes.specs.Counts.{lies_in, count}

-- whether a time lies in a span, as a number
abbrev pub vote : ℕ → Option Span → ℕ
vote t s = cond (lies_in t s) 1 0

pub vote_short : (t : ℕ) (s : Option Span) → vote t s ≤ 1
vote_short t s = elim (lies_in t s) as (λ b. cond b 1 0 ≤ 1) [ true ↦ omega arith | false ↦ omega arith ]

pub count-cons : (t : ℕ) (s : Option Span) (ss : List (Option Span)) → count t (s ∷ ss) ≡ vote t s + count t ss
count-cons t s ss = sum_by-cons (vote t) s ss
