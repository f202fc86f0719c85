-- The moves of a file found piece by piece: what a turn gives, and the text behind a file's pieces.
-- Assumes nothing.
use Rattle.std.specs.Prelude.{List, [], ◌∷◌, ◌++◌, ℕ, ◌*◌, length, take, drop}
use Rattle.kit.specs.Pick.{pick}
use Rattle.car.specs.declared.Car.{Car}
use Rattle.car.specs.Good.{good_of}
use Rattle.car.specs.Lesson.{driven}
use Rattle.wire.specs.Wire.{words_of}
use Rattle.moving.specs.declared.Turned.{Turned}
use Rattle.moving.specs.Moving.{end_text}

unfoldable pub driven_turn : Car → List ℕ → Turned
driven_turn c ws = record { car = driven c ws; used = 4 * length ws }

-- nothing is done with a car that is not good
unfoldable pub words_turn : Car → List ℕ → Turned
words_turn c ws = pick (good_of c) (driven_turn c ws) (record { car = c; used = 0 })

-- ---- a turn over the bytes that have come and were not used: at most 1,024 words of them
unfoldable pub turn_of : Car → List ℕ → Turned
turn_of c bs = words_turn c (take 1024 (words_of bs))

-- ---- the pieces behind the settings word, as a program reads them: each goes behind the bytes that the turn before did not use
unfoldable pub pieces_text : ℕ → Car → List ℕ → List (List ℕ) → List ℕ
pieces_text wanted c held [] = end_text wanted c (length held)
pieces_text wanted c held (p ∷ ps) = pieces_text wanted (turn_of c (held ++ p)).car (drop (turn_of c (held ++ p)).used (held ++ p)) ps
