-- An answer, since the check finds none where the function itself names the lemma.
use Rattle.votes.proofs.Laws.{span_given_lem}
use Rattle.votes.proofs.calls.span_given.Goals as goal

pub returns : goal.returns
returns c = span_given_lem
