use Rattle.world.proofs.Worlds.{reached_start}
use Rattle.world.proofs.types.World.at_start.Goals as goal

pub invariant_of-result : goal.invariant_of-result
invariant_of-result c = ∣ reached_start c.args.setups.now c.args.stage c.requires.0 c.requires.1 ∣₁
