use Rattle.record.proofs.Answers.{read_length}
use Rattle.record.proofs.read_from.Goals as goal

pub returns-in-Err : goal.returns-in-Err
returns-in-Err c = read_length _ c.in-Err.ensures.1
