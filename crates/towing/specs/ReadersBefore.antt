-- The readers of a record and of a settings word before document 02, §11, which stand in this file alone, and what is promised of them: "Old records
-- and files read as a car alone, with all they held. A reader from before must refuse a towing record as one that it doesn't accept, never show a
-- wrong car."
-- Assumes nothing.
use Rattle.std.specs.Prelude.{Bool, true, false, ◌&&◌, ◌||◌, not, ◌≡◌, List, [], ◌∷◌, ℕ, ◌/◌, ◌%◌, ◌^◌, eqb, leb, ltb, drop, get_or}
use Rattle.kit.specs.Answer.{Answer, gives, refused}
use Rattle.kit.specs.Pick.{pick}
use Rattle.event.specs.Words.{kind_of, body_of}
use Rattle.car.specs.declared.Car.{Car}
use Rattle.car.specs.Car.{fresh_car}
use Rattle.record.specs.Layout.{Field, bits, flag, layout, words_from, fields_from, car_of}
use Rattle.record.specs.Record.{same_words, offered, read_of}
use Rattle.settings.specs.SettingsWord.{settings_kind, mode_of, start_of}
use Rattle.longest_gap.specs.ReaderBefore.{good_before, offering}

-- ---- a record
-- "0: mode (2), signs, key (2), L (3), M (2), H, S, C, P"; the other words are as they are
abbrev pub layout_before : List (List Field)
layout_before =
    (bits 2 (λ c. c.settings.mode) ∷ flag (λ c. c.settings.signs) ∷ bits 2 (λ c. c.key)
    ∷ bits 3 (λ c. c.levers.updown) ∷ bits 2 (λ c. c.levers.foreback)
    ∷ flag (λ c. c.limiter.button) ∷ flag (λ c. c.limiter.on) ∷ flag (λ c. c.cruise.on) ∷ flag (λ c. c.radar.ready) ∷ [])
    ∷ drop 1 layout

unfoldable pub packed_before : Car → List ℕ
packed_before c = words_from c 0 layout_before

-- a field that the layout does not have is 0, so that no car is towing
unfoldable pub unpacked_before : List ℕ → Car
unpacked_before ws = car_of (fields_from 0 layout_before ws)

-- accepted: the car that the words' fields say is good by the ceiling 2000, when 3.0 seconds could be chosen too, and these are its words
unfoldable pub accepted_before : List ℕ → Bool
accepted_before ws = good_before 2000 (unpacked_before ws) && same_words (packed_before (unpacked_before ws)) ws

-- that car, or 18
unfoldable pub read_before : List ℕ → Answer Car
read_before ws = pick (accepted_before ws) (gives (unpacked_before ws)) (refused 18)

-- "bit 14 of a record's word 0"
abbrev pub bit_14 : List ℕ → ℕ
bit_14 ws = get_or ws 0 0 / 2 ^ 14 % 2

pub record RecordsAsBefore (ws : List ℕ) : Type 0 where
  -- "Old records .. read as a car alone, with all they held": the car is the one that they gave, but for the gap 30, which §12 makes 25, and every
  -- refusal is as it was
  pub old : bit_14 ws ≡ 0 → read_of ws ≡ offering (read_before ws)
  pub alone : (c : Car) → read_before ws ≡ gives c → (c.settings.towing ≡ false) × (read_of ws ≡ gives (offered c))
  -- a towing record is one with the bit
  pub bit : (c : Car) → read_of ws ≡ gives c → c.settings.towing ≡ eqb (bit_14 ws) 1
  -- "A reader from before must refuse a towing record as one that it doesn't accept"
  pub towing : (c : Car) → read_of ws ≡ gives c → c.settings.towing ≡ true → read_before ws ≡ refused 18

-- ---- a settings word
-- "bits 0-1 mode, bit 2 signs"
unfoldable pub made_before : ℕ → ℕ → Answer Car
made_before mode signs =
    pick (not (eqb mode 1) && not (eqb mode 2) || ltb 1 signs) (refused 17)
    (gives (fresh_car (record { mode = mode; signs = eqb signs 1; towing = false })))

-- "of another kind, with an unnamed bit set"
unfoldable pub other_before : ℕ → Bool
other_before w = not (eqb (kind_of w) settings_kind) || leb (2 ^ 3) (body_of w)

unfoldable pub start_before : ℕ → Answer Car
start_before w = pick (other_before w) (refused 17) (made_before (mode_of w) (body_of w / 2 ^ 2))

-- "bit 3 of the settings word"
abbrev pub bit_3 : ℕ → ℕ
bit_3 w = w / 2 ^ 3 % 2

pub record SettingsAsBefore (w : ℕ) : Type 0 where
  pub old : bit_3 w ≡ 0 → start_of w ≡ start_before w
  pub alone : (c : Car) → start_before w ≡ gives c → (c.settings.towing ≡ false) × (start_of w ≡ gives c)
  pub bit : (c : Car) → start_of w ≡ gives c → c.settings.towing ≡ eqb (bit_3 w) 1
  pub towing : (c : Car) → start_of w ≡ gives c → c.settings.towing ≡ true → start_before w ≡ refused 17
