-- The refusals' numbers are 1 to 26.
-- Assumes nothing.
use Rattle.std.specs.Prelude.{◌≡◌, ℕ, ◌≤◌}
use Rattle.std.proofs.Common.{arith}
use Rattle.event.specs.declared.refusal.Refusal.{Refusal}
use Rattle.event.specs.declared.refusal.Refusal.TheVariants as refusal
use Rattle.event.specs.Refusal.{refusal_number}

pub number_range : (r : Refusal) → (1 ≤ refusal_number r) × (refusal_number r ≤ 26)
number_range refusal.NoSuchKind = (omega arith, omega arith)
number_range refusal.UnnamedBit = (omega arith, omega arith)
number_range refusal.OutOfRange = (omega arith, omega arith)
number_range refusal.KeyNotOn = (omega arith, omega arith)
number_range refusal.AlreadyHeld = (omega arith, omega arith)
number_range refusal.KeyWhileMoving = (omega arith, omega arith)
number_range refusal.PositionSkipped = (omega arith, omega arith)
number_range refusal.OtherLeverOut = (omega arith, omega arith)
number_range refusal.OtherPedalDown = (omega arith, omega arith)
number_range refusal.ButtonIn = (omega arith, omega arith)
number_range refusal.ButtonWhileBackward = (omega arith, omega arith)
number_range refusal.ButtonWhileGas = (omega arith, omega arith)
number_range refusal.AboveLimit = (omega arith, omega arith)
number_range refusal.RadarNotReady = (omega arith, omega arith)
number_range refusal.ReadyBit = (omega arith, omega arith)
number_range refusal.ClockAtEnd = (omega arith, omega arith)
number_range refusal.Settings = (omega arith, omega arith)
number_range refusal.NotAccepted = (omega arith, omega arith)
number_range refusal.ShortAnswers = (omega arith, omega arith)
number_range refusal.ShortRecord = (omega arith, omega arith)
number_range refusal.CutWord = (omega arith, omega arith)
number_range refusal.BadFloat = (omega arith, omega arith)
number_range refusal.TooFast = (omega arith, omega arith)
number_range refusal.GapWithdrawn = (omega arith, omega arith)
number_range refusal.NotReadyToMove = (omega arith, omega arith)
number_range refusal.OutOfReach = (omega arith, omega arith)

-- a check that gives a refusal's number refuses
pub number_pos : {A : Type 0} (r : Refusal) (n : ℕ) → refusal_number r ≡ n → n ≡ 0 → A
number_pos r n e z = absurd (omega (arith, e, z, (number_range r).0))
