use Rattle.words.proofs.Fields.{Read}
use Rattle.words.proofs.Words.numbers.Given as goal

abbrev pub invariant-loop-n : goal.invariant-loop-n
invariant-loop-n g l = Read g.row.N l.fn.self l.self l.n-items l.n-index
