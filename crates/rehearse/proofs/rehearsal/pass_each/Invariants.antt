use Rattle.std.proofs.Common.{◌≡◌, ◌++◌, map, take, drop}
use Rattle.clocks.specs.Counting.{pass, turned}
use Rattle.rehearse.proofs.rehearsal.pass_each.Given as goal

abbrev pub invariant-loop-clock : goal.invariant-loop-clock
invariant-loop-clock l =
    l.clock-items ≡ map (turned (pass l.by)) (take l.clock-index l.initial.clock-items) ++ drop l.clock-index l.initial.clock-items
