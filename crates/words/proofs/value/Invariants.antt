use Rattle.words.proofs.Digits.{Reading}
use Rattle.words.proofs.value.Given as goal

abbrev pub invariant-loop-b : goal.invariant-loop-b
invariant-loop-b l = Reading l.word l.b-index l.n
