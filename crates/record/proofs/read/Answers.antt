use Rattle.std.proofs.Common.{sym, ◌∙◌, ap}
use Rattle.kit.specs.Answer.{gives}
use Rattle.car.specs.Good.{good_of}
use Rattle.record.proofs.LayoutLaws.{unpacked_fits}
use Rattle.record.proofs.Answers.{equal, read_yes, read_other, read_no}
use Rattle.record.proofs.read.Goals as goal
use Rattle.record.proofs.read.Goals.{then-not-good-via-then-not-good, then-not-good-via-else-not-good+then-ne}

pub pack-requires : goal.pack-requires
pack-requires c = rw c.unpack-held.ensures (unpacked_fits _)

pub returns-then-not-good : goal.returns-then-not-good
returns-then-not-good c =
    elim c.then-not-good.branch [
      | then-not-good-via-then-not-good w ↦ read_no _ _ c.unpack-held.ensures (ap good_of (sym c.offered-car.ensures) ∙ sym c.good.ensures ∙ w.if-not-good.true)
      | then-not-good-via-else-not-good+then-ne w ↦ read_other _ _ _ c.unpack-held.ensures w.pack.ensures (sym w.ne.ensures ∙ w.if-ne.true)
    ]

pub returns : goal.returns
returns c =
    ap gives c.offered-car.ensures
    ∙ read_yes _ _ _ c.unpack-held.ensures c.pack.ensures (ap good_of (sym c.offered-car.ensures) ∙ sym c.good.ensures ∙ c.if-not-good.false)
    (equal _ _ _ c.unpack-held.ensures c.pack.ensures (sym c.ne.ensures ∙ c.if-ne.false))
