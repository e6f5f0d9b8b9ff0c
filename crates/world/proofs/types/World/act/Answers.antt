use Rattle.std.proofs.Common.{subst}
use mathlib.Core.Logic.{∥∥₁_map}
use Rattle.world.specs.Promise.{SpanTrue}
use Rattle.world.proofs.Worlds.{reached_more, reached_true}
use Rattle.world.proofs.types.World.act.Goals as goal

pub invariant_of-self : goal.invariant_of-self
invariant_of-self c = ∥∥₁_map c.self.invariant (reached_more c.self.inside.stage c.act.new.self c.args.action c.act.ensures.after)

pub returns-clause-promise : goal.returns-clause-promise
returns-clause-promise c =
    subst (λ w. SpanTrue w c.args.action c.act.result) c.self.view_is
    (reached_true c.self.inside.stage c.args.action c.act.result c.self.invariant c.act.ensures.reply)

pub returns-clause-reached : goal.returns-clause-reached
returns-clause-reached c = ∥∥₁_map c.self.invariant (reached_more c.self.inside.stage c.act.new.self c.args.action c.act.ensures.after)
