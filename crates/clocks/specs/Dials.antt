-- Which way a clock runs, in numbers.
use Rattle.std.specs.Prelude.{ℕ, ◌+◌, ◌-◌}
use Rattle.clocks.specs.declared.counting.Drift.{Drift}
use Rattle.clocks.specs.declared.counting.Drift.TheVariants.{Fast, Slow}
use Rattle.clocks.specs.Time.{million}

-- how many parts in a million it is off
abbrev pub parts_of : Drift → ℕ
parts_of (Fast parts) = parts
parts_of (Slow parts) = parts

-- how many millionths it then counts for each microsecond of true time
abbrev pub pace_of : Drift → ℕ
pace_of (Fast parts) = million + parts
pace_of (Slow parts) = million - parts
