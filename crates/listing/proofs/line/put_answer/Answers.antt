use Rattle.std.proofs.Common.{◌≤◌, length, refl, arith}
use Rattle.listing.specs.Listing.{answer_line}
use Rattle.listing.proofs.PutLaws.{put_as, put_then}
use Rattle.listing.proofs.line.put_answer.Goals as goal

pub returns : goal.returns
unfolding answer_line
returns c =
    let h : c.args.at ≤ length c.args.out.now = omega (arith, c.requires.1) in
    put_as (put_then (put_then (put_then (put_then (put_then c.put_field-refusal.ensures c.put_small_field-velocity.ensures h) c.put_speed-desired.ensures h) c.put_small_field-accel.ensures h) c.put_signed-warnings.ensures h) (rw (c.bit-visual.ensures.0, c.bit-acoustic.ensures.0) at c.put_warnings.ensures) h) refl (omega arith)
