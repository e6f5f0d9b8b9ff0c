use Rattle.std.proofs.Common.{◌*◌, ◌<◌, ◌≤◌, length, subst, arith}
use Rattle.votes.specs.Exchanges.{View}
use Rattle.votes.proofs.Laws.{chosen_laws}
use Rattle.votes.proofs.types.Votes.chosen.Goals as goal

pub returns-clause-laws : goal.returns-clause-laws
returns-clause-laws c =
    let i = c.self.invariant in
    chosen_laws c.args.self.now c.args.clock (subst (λ (v : View). v.rate ≤ 1000) c.self.view_is i.rate)
    (subst (λ (v : View). 2 * v.faulty < v.servers) c.self.view_is i.minority) (subst (λ (v : View). v.servers ≤ length v.exchanges) c.self.view_is (omega (arith, i.few, i.sixteen)))
    c.chosen_by_rule.result c.chosen_by_rule.ensures
