use Rattle.std.proofs.Common.{sym, ◌∙◌}
use Rattle.record.proofs.LayoutLaws.{good_fits}
use Rattle.record.proofs.Answers.{write_yes, write_no}
use Rattle.record.proofs.write.Goals as goal

pub returns-then-not-good : goal.returns-then-not-good
returns-then-not-good c = write_no _ (sym c.good.ensures ∙ c.if-not-good.true)

pub pack-requires : goal.pack-requires
pack-requires c = good_fits _ (sym c.good.ensures ∙ c.if-not-good.false)

pub returns : goal.returns
returns c = write_yes _ _ (sym c.good.ensures ∙ c.if-not-good.false) c.pack.ensures
