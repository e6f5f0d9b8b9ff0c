use Rattle.std.proofs.Common.{◌≡◌, min, max, take, fold, None}
use Rattle.votes.specs.Counts.{end_step, low_end, high_end}
use Rattle.votes.proofs.counts.outermost.Given as goal

abbrev pub invariant-loop-span : goal.invariant-loop-span
invariant-loop-span l =
    (l.found.low ≡ fold (end_step low_end min l.enough l.spans) None (take l.span-index l.spans))
    × (l.found.high ≡ fold (end_step high_end max l.enough l.spans) None (take l.span-index l.spans))
