-- The mark of a file found piece by piece: what a turn gives, and the text behind a file's pieces.
-- Assumes nothing.
use Rattle.std.specs.Prelude.{None, Result, Ok, Err, Bool, ◌||◌, not, List, [], ◌∷◌, ◌++◌, ℕ, ◌+◌, ◌*◌, ltb, length, take, drop}
use Rattle.kit.specs.Pick.{pick}
use Rattle.event.specs.declared.refusal.Refusal.{Refusal}
use Rattle.event.specs.Refusal.{refusal_number}
use Rattle.car.specs.declared.Car.{Car}
use Rattle.car.specs.Good.{good_of}
use Rattle.car.specs.Lesson.{driven}
use Rattle.car.specs.Mark.{seconds_of}
use Rattle.passing.specs.declared.Marked as marked
use Rattle.passing.specs.Passing.{Passed, Marked, onward, passed_of}
use Rattle.wire.specs.Wire.{words_of}
use Rattle.cleaning.specs.Cleaning.{end_refusal}
use Rattle.marking.specs.declared.Stage.{Stage}
use Rattle.marking.specs.declared.Turned.{Turned}
use Rattle.marking.specs.Marking.{result_text}

-- before the first event
unfoldable pub fresh_stage : Car → Stage
fresh_stage c = record { car = c; events = 0; passed = None; seconds = 0 }

-- ---- some words behind so many events
-- from a car, with what passed the mark before: the car behind them, the event that passed the mark, numbered from the first of all, and their own seconds.
-- 18 for a car that is not good
unfoldable pub page_of : ℕ → Car → ℕ → Passed → List ℕ → Marked
page_of mark c events passed ws =
    pick (good_of c)
    (record { car = driven c ws; passed = onward passed events (passed_of mark c ws); seconds = seconds_of mark c ws; refusal = 0 })
    (record { car = c; passed = passed; seconds = 0; refusal = 18 })

-- what a result says of the stage that they came behind: refused, it is kept
abbrev pub page_answer : Stage → Result marked.Marked Refusal → Marked
page_answer s (Ok t) = record { car = t.car; passed = t.passed; seconds = t.seconds; refusal = 0 }
page_answer s (Err r) = record { car = s.car; passed = s.passed; seconds = 0; refusal = refusal_number r }

-- from a stage: the stage behind them
unfoldable pub further_of : ℕ → Stage → List ℕ → Stage
further_of mark s ws =
    record {
      car = driven s.car ws;
      events = s.events + length ws;
      passed = onward s.passed s.events (passed_of mark s.car ws);
      seconds = s.seconds + seconds_of mark s.car ws;
    }

-- nothing is done where a number could pass 2^64 - 1, or the car is not good
unfoldable pub stuck : Stage → List ℕ → Bool
stuck s ws = ltb 18446744073709551615 (s.events + length ws) || ltb 18446744073709551615 (s.seconds + length ws) || not (good_of s.car)

unfoldable pub idle : Stage → Turned
idle s = record { stage = s; used = 0 }

unfoldable pub words_turn : ℕ → Stage → List ℕ → Turned
words_turn mark s ws = pick (stuck s ws) (idle s) (record { stage = further_of mark s ws; used = 4 * length ws })

-- ---- a turn over the bytes that have come and were not used: at most 1,024 words of them
unfoldable pub turn_of : ℕ → Stage → List ℕ → Turned
turn_of mark s bs = words_turn mark s (take 1024 (words_of bs))

-- ---- the end of the file, after which so many bytes were not used
unfoldable pub end_text : Stage → ℕ → List ℕ
end_text s held = result_text s.passed s.seconds (end_refusal held)

-- ---- the pieces behind the settings word, as a program reads them: each goes behind the bytes that the turn before did not use
unfoldable pub pieces_text : ℕ → Stage → List ℕ → List (List ℕ) → List ℕ
pieces_text mark s held [] = end_text s (length held)
pieces_text mark s held (p ∷ ps) = pieces_text mark (turn_of mark s (held ++ p)).stage (drop (turn_of mark s (held ++ p)).used (held ++ p)) ps

-- ---- as the function answers, whose text stands in a slice; with less than 85 bytes there nothing is put
unfoldable pub end_in : List ℕ → Stage → ℕ → List ℕ
end_in out s held = pick (ltb (length out) 85) [] (end_text s held)
