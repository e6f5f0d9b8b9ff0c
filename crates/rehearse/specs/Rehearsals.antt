-- A world with a clock for each of its machines, and what each request does to it.
use Rattle.std.specs.Prelude.{◌≡◌, ℕ, ◌+◌, ◌-◌, min, Bool, true, false, cond, ◌&&◌, List, map, length, take, replicate, is_ok, Ok, Err, Result, nat_le, nat_lt, slice_index_or, slice_set}
use Rattle.std.specs.Option.{unwrap_or}
use Rattle.std.specs.List.{list_all}
use Rattle.clocks.specs.declared.counting.Drift.{Drift}
use Rattle.clocks.specs.declared.growth.Span.{Span}
use Rattle.clocks.specs.Time.{highest}
use Rattle.clocks.specs.Counting.{Dial, pass, change, turn, turned, fresh, fresh_dial, shown}
use Rattle.clocks.specs.Dials.{parts_of, pace_of}
use Rattle.votes.specs.declared.types.Setup.{Setup}
use Rattle.votes.specs.declared.types.Refusal.{Refusal}
use Rattle.votes.specs.declared.types.Refusal.TheVariants.{Invalid}
use Rattle.world.specs.declared.actions.Input.{Input}
use Rattle.world.specs.declared.actions.Input.TheVariants as input
use Rattle.world.specs.declared.actions.Action.TheVariants as action
use Rattle.world.specs.declared.actions.Reply.{Reply}
use Rattle.world.specs.declared.actions.NotMade.{NotMade}
use Rattle.world.specs.declared.actions.NotMade.TheVariants as not_made
use Rattle.world.specs.Step.{WorldView, valid, start, last_ask, reply_of, step}

pub record RehearsalView : Type 0 where
  pub world : WorldView
  pub dials : List Dial

abbrev pub no_dial : Dial
no_dial = record { rate = 0; counting = fresh }

abbrev pub dial_at : RehearsalView → ℕ → Dial
dial_at v k = slice_index_or v.dials k no_dial

abbrev pub there : RehearsalView → ℕ → Bool
there v k = nat_lt k (length v.dials)

-- A NEW REHEARSAL: so many of four machines, all alike, whose clocks show 0 and run exactly
abbrev pub can_open : ℕ → Setup → Bool
can_open machines s = nat_le machines 4 && valid (take machines (replicate 4 s))

abbrev pub opening : ℕ → Setup → RehearsalView
opening machines s = record { world = start (take machines (replicate 4 s)); dials = replicate machines (fresh_dial s.rate) }

-- why there is none: a number out of range, or else want of memory
abbrev pub NotOpened : ℕ → Setup → NotMade → Type 0
NotOpened machines s not_made.Invalid = can_open machines s ≡ false
NotOpened machines s not_made.Memory = can_open machines s ≡ true

-- AN INPUT comes to a machine with what its clock shows
abbrev pub input_reply : RehearsalView → ℕ → Input → Result Reply Refusal
input_reply v k i = cond (there v k) (reply_of v.world (action.Input k (shown (dial_at v k).counting) i)) (Err Invalid)

abbrev pub input_after : RehearsalView → ℕ → Input → RehearsalView
input_after v k i =
    cond (there v k) (record { world = step v.world (action.Input k (shown (dial_at v k).counting) i); dials = v.dials }) v

-- an answer is to the machine's last ask of that time server; where there was none, no number fits
abbrev pub answer_input : RehearsalView → ℕ → ℕ → Span → Input
answer_input v k server s = input.Answer server (unwrap_or (last_ask v.world k server) 0) s

-- the true time less one number to it plus another
abbrev pub around_now : RehearsalView → ℕ → ℕ → Span
around_now v less more = record { low = v.world.now - less; high = min (v.world.now + more) highest }

-- A CLOCK'S PACE changes, if it stays within its rate
abbrev pub can_pace : RehearsalView → ℕ → Drift → Bool
can_pace v k drift = there v k && nat_le (parts_of drift) (dial_at v k).rate

abbrev pub pace_reply : RehearsalView → ℕ → Drift → Result (Unit {0}) Refusal
pace_reply v k drift = cond (can_pace v k drift) (Ok tt) (Err Invalid)

abbrev pub pace_after : RehearsalView → ℕ → Drift → RehearsalView
pace_after v k drift =
    cond (can_pace v k drift) (record { world = v.world; dials = slice_set v.dials k (turned (change (pace_of drift)) (dial_at v k)) }) v

-- TIME PASSES for the world and for all clocks, if none of them would show more than the highest number
abbrev pub goes_on : ℕ → Dial → Bool
goes_on by d = nat_le (shown (turn (pass by) d.counting)) highest

abbrev pub all_go_on : ℕ → List Dial → Bool
all_go_on by ds = list_all (goes_on by) ds

abbrev pub pass_reply : RehearsalView → ℕ → Result Reply Refusal
pass_reply v by = cond (all_go_on by v.dials) (reply_of v.world (action.Pass by)) (Err Invalid)

abbrev pub pass_after : RehearsalView → ℕ → RehearsalView
pass_after v by =
    cond (is_ok (pass_reply v by)) (record { world = step v.world (action.Pass by); dials = map (turned (pass by)) v.dials }) v
