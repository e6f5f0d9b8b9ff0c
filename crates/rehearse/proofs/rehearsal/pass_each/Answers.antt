use Rattle.std.proofs.Common.{rules}
use Rattle.std.proofs.lemmas.List.Edits.{map_over_more}
use Rattle.clocks.specs.Counting.{pass, turned}
use Rattle.rehearse.proofs.rehearsal.pass_each.Goals as goal

pub loop-clock-preserved : goal.loop-clock-preserved
loop-clock-preserved c = search (rules, map_over_more (turned (pass c.args.by)))
