-- The refusals' numbers (documents 01 and 02), and what a result of the code says in the document's terms: one definition for every result.
-- Assumes nothing.
use Rattle.std.specs.Prelude.{Result, Ok, Err, ℕ}
use Rattle.kit.specs.Answer.{Answer, gives, refused}
use Rattle.event.specs.declared.refusal.Refusal.{Refusal}
use Rattle.event.specs.declared.refusal.Refusal.TheVariants as refusal

abbrev pub refusal_number : Refusal → ℕ
refusal_number refusal.NoSuchKind = 1
refusal_number refusal.UnnamedBit = 2
refusal_number refusal.OutOfRange = 3
refusal_number refusal.KeyNotOn = 4
refusal_number refusal.AlreadyHeld = 5
refusal_number refusal.KeyWhileMoving = 6
refusal_number refusal.PositionSkipped = 7
refusal_number refusal.OtherLeverOut = 8
refusal_number refusal.OtherPedalDown = 9
refusal_number refusal.ButtonIn = 10
refusal_number refusal.ButtonWhileBackward = 11
refusal_number refusal.ButtonWhileGas = 12
refusal_number refusal.AboveLimit = 13
refusal_number refusal.RadarNotReady = 14
refusal_number refusal.ReadyBit = 15
refusal_number refusal.ClockAtEnd = 16
refusal_number refusal.Settings = 17
refusal_number refusal.NotAccepted = 18
refusal_number refusal.ShortAnswers = 19
refusal_number refusal.ShortRecord = 20
refusal_number refusal.CutWord = 21
refusal_number refusal.BadFloat = 22
refusal_number refusal.TooFast = 23
refusal_number refusal.GapWithdrawn = 24
refusal_number refusal.NotReadyToMove = 25
refusal_number refusal.OutOfReach = 26

-- what a result says: a value, or the refusal's number
abbrev pub answer : {A : Type 0} → Result A Refusal → Answer A
answer (Ok a) = gives a
answer (Err r) = refused (refusal_number r)

-- the refusal's number, 0 for none
abbrev pub number : {A : Type 0} → Result A Refusal → ℕ
number (Ok a) = 0
number (Err r) = refusal_number r
