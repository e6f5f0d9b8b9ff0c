use Rattle.std.proofs.Common.{sym, ◌∙◌, arith}
use Rattle.words.proofs.Digits.{turn, stop, end}
use Rattle.words.proofs.value.Goals as goal

pub returns-in_err-n : goal.returns-in_err-n
returns-in_err-n c =
    c.from_residual.ensures ∙ stop c.args.word.now c.loop-b.b-index c.loop-b.n (omega arith) (sym c.in_err-n.ensures) c.loop-b.invariant

pub loop-b-preserved : goal.loop-b-preserved
loop-b-preserved c =
    turn c.args.word.now c.loop-b.b-index c.loop-b.n c.in_ok-n.n (omega arith) (sym c.in_ok-n.ensures) c.loop-b.invariant

pub returns : goal.returns
returns c = end c.args.word.now c.loop-b.b-index c.loop-b.n (omega arith) c.loop-b.invariant
