-- A clock that counts millionths of a microsecond at a pace, and its history as a list of turns.
use Rattle.std.specs.Prelude.{◌≡◌, ℕ, ◌+◌, ◌-◌, ◌*◌, ◌/◌, ◌≤◌, List, [], ◌∷◌, ◌++◌, ◌<◌, fold}
use Rattle.clocks.specs.Time.{million, RunsFrom}

-- counted: how many millionths so far; pace: how many for each microsecond of true time
pub record Counting : Type 0 where
  pub counted : ℕ
  pub pace : ℕ

-- what happens to a clock: so much true time goes by, or its pace changes
pub data Turn : Type 0 where
  pass : ℕ → Turn
  change : ℕ → Turn

abbrev pub turn : Turn → Counting → Counting
turn (pass by) k = record { counted = k.counted + by * k.pace; pace = k.pace }
turn (change pace) k = record { counted = k.counted; pace = pace }

abbrev pub fresh : Counting
fresh = record { counted = 0; pace = million }

abbrev pub turns : List Turn → Counting → Counting
turns ts k = fold (λ k t. turn t k) k ts

-- a clock, as contracts see it: how far it may be off, and how far it has counted
pub record Dial : Type 0 where
  pub rate : ℕ
  pub counting : Counting

abbrev pub fresh_dial : ℕ → Dial
fresh_dial rate = record { rate = rate; counting = fresh }

-- it has not counted past what shows the highest number, and its pace is within its rate
pub record IsWithin (d : Dial) : Type 0 where
  pub shows : d.counting.counted < 18446744073709551616 * million
  pub slowest : million - d.rate ≤ d.counting.pace
  pub fastest : d.counting.pace ≤ million + d.rate
  pub small : d.rate ≤ 1000

-- a turn changes nothing about its rate
abbrev pub turned : Turn → Dial → Dial
turned t d = record { rate = d.rate; counting = turn t d.counting }

-- what it shows: whole microseconds
abbrev pub shown : Counting → ℕ
shown k = k.counted / million

-- the true time that goes by over a list of turns
abbrev pub elapsed : List Turn → ℕ
elapsed [] = 0
elapsed (pass by ∷ ts) = by + elapsed ts
elapsed (change pace ∷ ts) = elapsed ts

-- every pace of the list is within the rate
abbrev pub Within : ℕ → List Turn → Type 0
Within rate [] = Unit {0}
Within rate (pass by ∷ ts) = Within rate ts
Within rate (change pace ∷ ts) = (million - rate ≤ pace) × (pace ≤ million + rate) × Within rate ts

-- THE THEOREM ON COUNTING. Over every list of turns within the rate there is one clock that runs within the rate, and what the counting clock
-- shows after any first part of the list is what that clock shows at the time that has gone by then.
abbrev pub CountingRuns : Type 0
CountingRuns =
    (rate : ℕ) (ts : List Turn) → rate ≤ 1000 → Within rate ts →
    (c : ℕ → ℕ) × RunsFrom rate 0 c × ((before after : List Turn) → ts ≡ before ++ after → c (elapsed before) ≡ shown (turns before fresh))
