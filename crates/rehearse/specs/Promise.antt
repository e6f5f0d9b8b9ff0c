-- What is promised of every rehearsal.
use Rattle.std.specs.Prelude.{◌≡◌, ℕ, ◌<◌, true, List, fold}
use Rattle.clocks.specs.declared.counting.Drift.{Drift}
use Rattle.votes.specs.declared.types.Setup.{Setup}
use Rattle.world.specs.declared.actions.Input.{Input}
use Rattle.world.specs.declared.actions.Input.TheVariants as input
use Rattle.world.specs.Step.{machine_of}
use Rattle.world.specs.Promise.{FewFaulty, Given}
use Rattle.rehearse.specs.Rehearsals.{RehearsalView, can_open, opening, input_reply, input_after, pace_after, pass_after}

-- what a script can do to a rehearsal: time passes, a clock's pace changes, or any input comes to a machine
pub data Move : Type 0 where
  passes : ℕ → Move
  paces : ℕ → Drift → Move
  inputs : ℕ → Input → Move

abbrev pub play : RehearsalView → Move → RehearsalView
play v (passes by) = pass_after v by
play v (paces machine drift) = pace_after v machine drift
play v (inputs machine i) = input_after v machine i

abbrev pub plays : RehearsalView → List Move → RehearsalView
plays v moves = fold play v moves

-- THE PROMISE OF EVERY REHEARSAL. Whatever its script: whenever at most f of a machine's time servers lie or haven't answered, the machine gives a span, and
-- the true time is in it. Nothing is asked of its clock, since a rehearsal's clocks run within their error.
abbrev pub RehearsalsHold : Type 0
RehearsalsHold =
    (machines : ℕ) (s : Setup) → can_open machines s ≡ true → (moves : List Move) (k : ℕ) → k < machines →
    FewFaulty (machine_of (plays (opening machines s) moves).world k) →
    Given (input_reply (plays (opening machines s) moves) k input.Span) (plays (opening machines s) moves).world.now
