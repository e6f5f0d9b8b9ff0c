use Rattle.std.proofs.Common.{◌≡◌, ◌≤◌, take}
use Rattle.votes.specs.Counts.{count}
use Rattle.votes.proofs.counts.count.Given as goal

abbrev pub invariant-loop-span : goal.invariant-loop-span
invariant-loop-span l = (l.votes ≡ count l.time (take l.span-index l.spans)) × (l.votes ≤ l.span-index)
