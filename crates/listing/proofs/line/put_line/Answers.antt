use Rattle.std.proofs.Common.{rules}
use Rattle.answer.proofs.AnswerWordLaws.{read_fits}
use Rattle.listing.proofs.line.put_line.Goals as goal

pub put_answer-requires : goal.put_answer-requires
put_answer-requires c = (rw c.from.ensures (read_fits _), search rules)
