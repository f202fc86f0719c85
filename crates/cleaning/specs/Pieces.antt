-- A clean file made piece by piece: what a turn gives, and the bytes of a file's pieces one after the other.
-- Assumes nothing.
use Rattle.std.specs.Prelude.{List, [], ◌∷◌, ◌++◌, ℕ, ◌*◌, ltb, length, take, drop}
use Rattle.kit.specs.Pick.{pick}
use Rattle.car.specs.declared.Car.{Car}
use Rattle.car.specs.Good.{good_of}
use Rattle.car.specs.Lesson.{driven}
use Rattle.history.specs.History.{accepted_words}
use Rattle.wire.specs.Wire.{words_of, bytes_of}
use Rattle.cleaning.specs.declared.Turned.{Turned}
use Rattle.cleaning.specs.Cleaning.{end_refusal}

-- a turn: the car behind it, how many bytes it used, the bytes that it gives
pub record Turn : Type 0 where
  pub car : Car
  pub used : ℕ
  pub bytes : List ℕ

unfoldable pub idle : Car → Turn
idle c = record { car = c; used = 0; bytes = [] }

unfoldable pub driven_turn : Car → List ℕ → Turn
driven_turn c ws = record { car = driven c ws; used = 4 * length ws; bytes = bytes_of (accepted_words c ws) }

-- nothing is done with a car that is not good
unfoldable pub words_turn : Car → List ℕ → Turn
words_turn c ws = pick (good_of c) (driven_turn c ws) (idle c)

-- ---- a turn over the bytes that have come and were not used: at most 1,024 words of them
unfoldable pub turn_of : Car → List ℕ → Turn
turn_of c bs = words_turn c (take 1024 (words_of bs))

-- ---- the pieces behind the settings word, as a program reads them: each goes behind the bytes that the turn before did not use
unfoldable pub pieces_bytes : Car → List ℕ → List (List ℕ) → List ℕ
pieces_bytes c held [] = []
pieces_bytes c held (p ∷ ps) =
    (turn_of c (held ++ p)).bytes ++ pieces_bytes (turn_of c (held ++ p)).car (drop (turn_of c (held ++ p)).used (held ++ p)) ps

-- and what is told behind the last
unfoldable pub pieces_refusal : Car → List ℕ → List (List ℕ) → ℕ
pieces_refusal c held [] = end_refusal (length held)
pieces_refusal c held (p ∷ ps) = pieces_refusal (turn_of c (held ++ p)).car (drop (turn_of c (held ++ p)).used (held ++ p)) ps

-- ---- as the function answers, whose bytes stand in a slice; with less than 4,096 bytes there nothing is done
unfoldable pub turn_in : List ℕ → Car → List ℕ → Turn
turn_in out c bs = pick (ltb (length out) 4096) (idle c) (turn_of c bs)

unfoldable pub answered : Turn → Turned
answered t = record { car = t.car; used = t.used; end = length t.bytes }
