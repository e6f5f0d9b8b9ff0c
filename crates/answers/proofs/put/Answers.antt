use Rattle.std.specs.Result.{is_ok}
use Rattle.std.proofs.Common.{◌++◌, ap, ◌∙◌}
use Rattle.std.proofs.lemmas.Fmt.{contents_after_writes}
use Rattle.answers.proofs.Whole.{appended}
use Rattle.answers.proofs.put.Goals as goal

pub returns-in-Ok : goal.returns-in-Ok
returns-in-Ok g c =
    appended _ _ _ (is_ok c.extend_from_slice.result) c.args.out.now.items _ c.in-Ok.ensures.writes
    (λ text wrote. c.as_bytes.ensures ∙ contents_after_writes _ (λ line. line) (λ line text after is. is) _ text _ wrote ∙ ap (λ line. line ++ text) c.new-line.ensures)
    c.extend_from_slice.ensures.items
