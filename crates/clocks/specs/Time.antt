-- Clocks that run a little fast or slow, spans that hold the true time, and how a span grows with a clock. Times and clock
-- readings are whole microseconds.
use Rattle.std.specs.Prelude.{ℕ, ◌+◌, ◌-◌, ◌*◌, ◌/◌, ◌≤◌, min, Bool, ◌&&◌, nat_le}
use Rattle.clocks.specs.declared.growth.Span.{Span}

abbrev pub million : ℕ
million = 1000000

abbrev pub highest : ℕ
highest = 18446744073709551615

-- A clock, as what it shows at each true time, runs within a rate from its start on: over t of true time it counts at least t - t * rate / million - 1 and at
-- most t + t * rate / million + 1, and it never goes back. Nothing is asked of the time before its start, when its machine was not up.
pub record RunsFrom (rate start : ℕ) (c : ℕ → ℕ) : Type 0 where
  pub slow : (t u : ℕ) → start ≤ t → t ≤ u → (u - t) * (million - rate) ≤ (c u - c t + 1) * million
  pub fast : (t u : ℕ) → start ≤ t → t ≤ u → (c u - c t) * million ≤ (u - t) * (million + rate) + million
  pub onward : (t u : ℕ) → start ≤ t → t ≤ u → c t ≤ c u

-- A span holds a time.
abbrev pub Holds : Span → ℕ → Type 0
Holds s t = (s.low ≤ t) × (t ≤ s.high)

-- The same as a test.
abbrev pub covers : ℕ → Span → Bool
covers t s = nat_le s.low t && nat_le t s.high

-- the most true time that can have gone by while a clock went on by d, and the least
abbrev pub most : ℕ → ℕ → ℕ
most rate d = (d + 1) * million / (million - rate) + 1

abbrev pub least : ℕ → ℕ → ℕ
least rate d = (d - 1) * million / (million + rate)

-- The span of an exchange at a later clock reading. Asked when the clock showed asked, answered with span s when it showed answered; the
-- clock shows now. What would pass the highest number stays there.
abbrev pub grown_to : (rate asked answered now : ℕ) → Span → Span
grown_to rate asked answered now s =
    record { low = min (s.low + least rate (now - answered)) highest; high = min (s.high + most rate (now - asked)) highest }

-- THE THEOREM ON GROWTH. For a clock that runs within its rate from its start on: if the time server's span held the true time at some
-- moment between ask and answer, the grown span holds it at every later moment, as long as the true time is below 2^64.
abbrev pub GrowthHolds : Type 0
GrowthHolds =
    (rate start : ℕ) (c : ℕ → ℕ) → rate ≤ 1000 → RunsFrom rate start c → (asked at answered now : ℕ) (s : Span) → start ≤ asked → asked ≤ at → at ≤ answered → answered ≤ now →
    now ≤ highest → Holds s at → Holds (grown_to rate (c asked) (c answered) (c now) s) now

-- Its premise can be met: a clock that shows what has gone by since its start runs within every rate.
abbrev pub CanRun : Type 0
CanRun = (rate start : ℕ) → rate ≤ 1000 → RunsFrom rate start (λ t. t - start)
