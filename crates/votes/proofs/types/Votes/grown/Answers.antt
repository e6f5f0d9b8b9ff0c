use Rattle.std.proofs.Common.{◌≡◌, map, subst, arith, length-set}
use Rattle.votes.specs.Exchanges.{View, blank, grown_exchange}
use Rattle.votes.proofs.Maps.{fill_more, fill_all}
use Rattle.votes.proofs.types.Votes.grown.Goals as goal

pub loop-server-preserved : goal.loop-server-preserved
loop-server-preserved c = (
  simp length-set c.loop-server.invariant.0,
  fill_more (grown_exchange c.self.inside.rate c.args.clock) c.self.inside.exchanges c.loop-server.spans c.loop-server.server blank c.grown.result (omega (arith, c.self.invariant.sixteen)) (omega (arith, c.loop-server.invariant.0)) c.loop-server.invariant.1 c.grown.ensures,
)

pub returns : goal.returns
returns c =
    subst (λ (v : View). c.loop-server.spans ≡ map (grown_exchange v.rate c.args.clock) v.exchanges) c.self.view_is
    (fill_all (grown_exchange c.self.inside.rate c.args.clock) c.self.inside.exchanges c.loop-server.spans c.loop-server.server (omega (arith, c.self.invariant.sixteen)) (omega (arith, c.loop-server.invariant.0)) c.loop-server.invariant.1)
