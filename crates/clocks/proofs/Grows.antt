-- A span grown with a clock that runs within its rate holds the true time.
use Rattle.std.proofs.Common.{◌≡◌, ℕ, ◌+◌, ◌-◌, ◌*◌, ◌/◌, ◌≤◌, mul_comm, mul-le-mul_left, le-div_iff_mul-le, arith}
use native.Mathlib.Nat.{div-le_of_le-mul, le-min, min-le_left}
use Rattle.clocks.specs.Time.{million, highest, most, least, GrowthHolds, CanRun}

-- what has gone by is at most `most` of what the clock shows, and at least `least` of it
gone_most : (rate d t : ℕ) → rate ≤ 1000 → t * (million - rate) ≤ (d + 1) * million → t + 1 ≤ most rate d
gone_most rate d t r h = let k : t ≤ (d + 1) * million / (million - rate) = (le-div_iff_mul-le {k = million - rate} (omega arith)).1 h in omega arith

gone_least : (rate e t : ℕ) → e * million ≤ t * (million + rate) + million → least rate e ≤ t
gone_least rate e t h =
    div-le_of_le-mul (million + rate) (let z : t * (million + rate) ≡ (million + rate) * t = mul_comm t (million + rate) in omega arith)

pub growth_holds_lem : GrowthHolds
growth_holds_lem rate start c r runs asked at answered now s sa aa ab an nh h =
    let up : now - asked + 1 ≤ most rate (c now - c asked) = gone_most rate (c now - c asked) (now - asked) r (runs.slow asked now sa (omega arith)) in
    let lo : least rate (c now - c answered) ≤ now - answered =
    gone_least rate (c now - c answered) (now - answered) (runs.fast answered now (omega arith) an) in
    (omega (arith, h.0, min-le_left (s.low + least rate (c now - c answered)) highest), le-min (omega (arith, h.1)) nh)

pub can_run_lem : CanRun
can_run_lem rate start r = record {
  slow = λ t u st tu. let k : (u - t) * (million - rate) ≤ (u - t) * million = mul-le-mul_left (u - t) (omega arith) in omega arith;
  fast = λ t u st tu. let k : (u - t) * million ≤ (u - t) * (million + rate) = mul-le-mul_left (u - t) (omega arith) in omega arith;
  onward = λ t u st tu. omega arith;
}
