-- The lowest of the lower ends, and the highest of the upper ends, that lie in at least so many of some spans. A time server
-- that hasn't answered has no span: it offers no end, and no time lies in it.
use Rattle.std.specs.Prelude.{ℕ, min, max, Bool, false, cond, List, fold, count_by, Some, None, Option, nat_le}
use Rattle.std.specs.Option.{option_map_or}
use Rattle.clocks.specs.declared.growth.Span.{Span}
use Rattle.clocks.specs.Time.{covers}

-- whether a time lies in a span, if there is one
abbrev pub lies_in : ℕ → Option Span → Bool
lies_in t None = false
lies_in t (Some s) = covers t s

-- how many of the spans a time lies in
abbrev pub count : ℕ → List (Option Span) → ℕ
count t ss = count_by (lies_in t) ss

-- the best so far and one more, of which one is picked
abbrev pub picked : (ℕ → ℕ → ℕ) → Option ℕ → ℕ → ℕ
picked pick best t = option_map_or (λ b. pick b t) best t

-- one span more: its end is taken if it lies in at least k of all the spans
abbrev pub end_step : (end : Span → ℕ) (pick : ℕ → ℕ → ℕ) → ℕ → List (Option Span) → Option ℕ → Option Span → Option ℕ
end_step end pick k all best None = best
end_step end pick k all best (Some s) = cond (nat_le k (count (end s) all)) (Some (picked pick best (end s))) best

abbrev pub outer : (end : Span → ℕ) (pick : ℕ → ℕ → ℕ) → ℕ → List (Option Span) → Option ℕ
outer end pick k all = fold (end_step end pick k all) None all

abbrev pub low_end : Span → ℕ
low_end s = s.low

abbrev pub high_end : Span → ℕ
high_end s = s.high

-- the lowest of the lower ends of the spans, and the highest of their upper ends, that lie in at least k of them
abbrev pub lowest : ℕ → List (Option Span) → Option ℕ
lowest k ss = outer low_end min k ss

abbrev pub highest : ℕ → List (Option Span) → Option ℕ
highest k ss = outer high_end max k ss
