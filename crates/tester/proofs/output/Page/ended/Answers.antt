use Rattle.std.proofs.Common.{refl, arith, sym, ◌∙◌}
use Rattle.tester.specs.Output.{put}
use Rattle.tester.proofs.OutputLaws.{put_no_room, put_ended_lem}
use Rattle.tester.proofs.output.Page.ended.Goals as goal

pub returns-then-self-lt21 : goal.returns-then-self-lt21
returns-then-self-lt21 c = (refl, sym (put_no_room c.args.self.now.out.now c.args.self.now.at 21 _ (omega arith)))

pub returns-then-self : goal.returns-then-self
returns-then-self c = (refl, sym (put_no_room c.args.self.now.out.now c.args.self.now.at 21 _ (omega arith)))

pub returns : goal.returns
unfolding put
returns c = (
  c.text.ensures.0,
  c.text.ensures.1
      ∙ rw (c.put_decimal-self.ensures.0, c.put_decimal-self.ensures.1)
      (put_ended_lem c.args.self.now.out.now c.args.self.now.at c.args.n c.args.byte (omega arith) (omega arith)),
)
