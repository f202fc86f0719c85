-- The settings word: document 01, "The cab, alike, and the program", and document 02, §11.
-- Assumes nothing.
use Rattle.std.specs.Prelude.{◌||◌, not, ◌≡◌, ℕ, ◌+◌, ◌*◌, ◌/◌, ◌%◌, ◌^◌, eqb, leb}
use Rattle.kit.specs.Answer.{Answer, gives, refused}
use Rattle.kit.specs.Pick.{pick}
use Rattle.event.specs.Words.{kind_of, body_of}
use Rattle.car.specs.declared.Car.{Car}
use Rattle.car.specs.Car.{fresh_car, settings_of, Permitted, check17, fresh_of}

-- "kind 13 (bits 0-1 mode, bit 2 signs)", and "towing, bit 3"
abbrev pub settings_kind : ℕ
settings_kind = 13

unfoldable pub mode_of : ℕ → ℕ
mode_of w = body_of w % 2 ^ 2

unfoldable pub signs_of : ℕ → ℕ
signs_of w = body_of w / 2 ^ 2 % 2

unfoldable pub towing_of : ℕ → ℕ
towing_of w = body_of w / 2 ^ 3

-- the fresh car of a settings word. 17: a word "of another kind, with an unnamed bit set or a mode not 1 or 2"
unfoldable pub start_of : ℕ → Answer Car
start_of w =
    pick (not (eqb (kind_of w) settings_kind) || leb (2 ^ 4) (body_of w)) (refused 17)
    (fresh_of (mode_of w) (signs_of w) (towing_of w))

-- settings as their word. 17: settings outside their values
unfoldable pub word_of : ℕ → ℕ → ℕ → ℕ
word_of mode signs towing = settings_kind * 2 ^ 28 + mode + 2 ^ 2 * signs + 2 ^ 3 * towing

unfoldable pub write_of : ℕ → ℕ → ℕ → Answer ℕ
write_of mode signs towing = pick (check17 mode signs towing) (refused 17) (gives (word_of mode signs towing))

-- a word that starts a car: its settings are permitted, the car is their fresh one, and the word is the one that is written for them
pub record Starts (w : ℕ) (c : Car) : Type 0 where
  pub permitted : Permitted (mode_of w) (signs_of w) (towing_of w)
  pub car : c ≡ fresh_car (settings_of (mode_of w) (signs_of w) (towing_of w))
  pub written : write_of (mode_of w) (signs_of w) (towing_of w) ≡ gives w
