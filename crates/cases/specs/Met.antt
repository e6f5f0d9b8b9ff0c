-- A run that meets the premises of the promise about spans: three time servers, one of which lies, and a clock that is off.
use Rattle.std.specs.Prelude.{◌≡◌, ℕ, ◌+◌, ◌/◌, ◌<◌, true, List, [], ◌∷◌, length}
use Rattle.clocks.specs.Time.{RunsFrom}
use Rattle.votes.specs.declared.types.Setup.{Setup}
use Rattle.world.specs.declared.actions.Input.TheVariants as input
use Rattle.world.specs.declared.actions.Action.{Action}
use Rattle.world.specs.declared.actions.Action.TheVariants as action
use Rattle.world.specs.Step.{WorldView, valid, start, machine_of, run}
use Rattle.world.specs.Promise.{Truthful, FewFaulty, Reads}

abbrev pub setups : List Setup
setups = record { servers = 3; faulty = 1; rate = 100; first = 1 } ∷ []

-- the machine's clock runs 100 parts in a million fast
abbrev pub clock : ℕ → ℕ
clock t = t + t / 10000

-- asked at 1,000,000; answered at 1,000,020 by 1,000,000 to 1,000,010 and 999,990 to 1,000,030, which hold, and by 5,000 to 5,001, a lie; it is 1,010,020 now
abbrev pub actions : List Action
actions =
    action.Pass 1000000
    ∷ action.Input 0 1000100 (input.Ask 0)
    ∷ action.Input 0 1000100 (input.Ask 1)
    ∷ action.Input 0 1000100 (input.Ask 2)
    ∷ action.Pass 20
    ∷ action.Input 0 1000120 (input.Answer 0 1 (record { low = 1000000; high = 1000010 }))
    ∷ action.Input 0 1000120 (input.Answer 1 1 (record { low = 999990; high = 1000030 }))
    ∷ action.Input 0 1000120 (input.Answer 2 1 (record { low = 5000; high = 5001 }))
    ∷ action.Pass 10000
    ∷ []

abbrev pub after : WorldView
after = run (start setups) actions

-- every premise of the promise is met, and one server lies
pub record PremisesMet : Type 0 where
  pub made : valid setups ≡ true
  pub there : 0 < length setups
  pub runs : RunsFrom (machine_of (start setups) 0).votes.rate 0 clock
  pub reads : Reads 0 clock (start setups) actions
  pub now : clock after.now ≡ 1010121
  pub few : FewFaulty (machine_of after 0)
  pub lies : Truthful (machine_of after 0) 2 → ⊥
