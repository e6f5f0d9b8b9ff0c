use Rattle.std.proofs.Common.{◌≡◌, map, take, vec_items}
use Rattle.world.specs.Step.{made}
use Rattle.world.proofs.stage.Stage.new.Given as goal

abbrev pub invariant-loop-setup : goal.invariant-loop-setup
invariant-loop-setup l = vec_items l.machines ≡ map made (take l.setup-index l.setups)
