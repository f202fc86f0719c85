-- The listing of an exercise file, from its bytes: document 01, "The cab, alike, and the program". Text is a list of ASCII codes.
-- Assumes nothing.
use Rattle.std.specs.Prelude.{List, [], ◌++◌, ◌∷◌, ℕ, ◌+◌, ◌%◌, eqb, ltb, length, drop}
use Rattle.kit.specs.Answer.{Answer, gives, refused}
use Rattle.kit.specs.Pick.{pick}
use Rattle.event.specs.Words.{bit_of}
use Rattle.motion.specs.declared.Acceleration.{Acceleration}
use Rattle.car.specs.Figures.{Figures, shown}
use Rattle.car.specs.declared.Car.{Car}
use Rattle.car.specs.Drive.{step_of}
use Rattle.settings.specs.SettingsWord.{start_of}
use Rattle.wire.specs.Wire.{word_at, words_of}
use Rattle.listing.specs.Listing.{field_of, warnings_of, ascii, refused_text}

-- a with its sign, and a blank
unfoldable pub acceleration_text : Acceleration → List ℕ
acceleration_text a = pick a.slows (45 ∷ field_of a.size) (field_of a.size)

-- "event number, refusal, v, D, a, visual, acoustic": a line by the figures of the car afterwards
unfoldable pub figures_line : ℕ → ℕ → Figures → List ℕ
figures_line number refusal f =
    field_of number ++ field_of refusal ++ field_of f.speed ++ field_of f.desired ++ acceleration_text f.acceleration
    ++ warnings_of (bit_of f.visual) (bit_of f.acoustic)

-- ---- the listing
-- the head line
unfoldable pub head_text : List ℕ
head_text = ascii "n refusal speed desired accel visual acoustic\n"

-- a line for each event, the numbers rising by one: the refusal, and the figures of the car afterwards
unfoldable pub events_text : ℕ → Car → List ℕ → List ℕ
events_text number c [] = []
events_text number c (w ∷ ws) =
    figures_line number (step_of c w).refusal (shown (step_of c w).car) ++ events_text (number + 1) (step_of c w).car ws

-- "a later cut word ends with `refused 21`"
unfoldable pub end_text : List ℕ → List ℕ
end_text bs = pick (eqb (length bs % 4) 0) [] (refused_text 21)

-- after the settings: the head line, the events numbered from 1, and the end
unfoldable pub lesson_text : Car → List ℕ → List ℕ
lesson_text c bs = head_text ++ events_text 1 c (words_of bs) ++ end_text bs

-- refused settings print only that
unfoldable pub started_text : Answer Car → List ℕ → List ℕ
started_text (gives c) bs = lesson_text c bs
started_text (refused n) bs = refused_text n

-- "A first word that is missing, cut, of another kind, with an unnamed bit set or a mode not 1 or 2 prints only `refused 17`"
unfoldable pub listing_of : List ℕ → List ℕ
listing_of bs = pick (ltb (length bs) 4) (refused_text 17) (started_text (start_of (word_at bs 0)) (drop 4 bs))
