use Rattle.moving.proofs.Turning.{not_driven, driven_words}
use Rattle.std.proofs.Common.{refl}
use Rattle.moving.proofs.drive.Goals as goal

pub returns-in-Ok : goal.returns-in-Ok
returns-in-Ok c = driven_words _ _ _ c.requires refl _ c.in-Ok.ensures.0

pub returns-in-Err : goal.returns-in-Err
returns-in-Err c = not_driven _ _ _ c.requires refl _ c.in-Err.ensures.0
