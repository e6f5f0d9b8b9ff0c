use Rattle.std.proofs.Common.{◌≡◌, map, length, take}
use Rattle.votes.specs.Exchanges.{grown_exchange}
use Rattle.votes.proofs.types.Votes.grown.Given as goal

abbrev pub invariant-loop-server : goal.invariant-loop-server
invariant-loop-server l =
    (length l.spans ≡ 16) × (take l.server l.spans ≡ map (grown_exchange l.self-inside.rate l.clock) (take l.server l.self-inside.exchanges))
