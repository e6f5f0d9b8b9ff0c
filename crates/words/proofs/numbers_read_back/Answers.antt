use Rattle.std.proofs.lemmas.Fmt.{first_decimal}
use Rattle.words.proofs.numbers_read_back.Goals as goal

pub returns-clause-short : goal.returns-clause-short
returns-clause-short c n fits some = first_decimal n some fits
