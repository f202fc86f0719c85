-- A clean copy of a lesson: document 02, §2. `accepted_words` are a list's accepted words from a car, in order.
-- Assumes nothing.
use Rattle.std.specs.Prelude.{Bool, Result, Ok, Err, List, ◌++◌, ℕ, ltb, length, drop}
use Rattle.kit.specs.Answer.{Answer, gives, refused}
use Rattle.kit.specs.Pick.{pick}
use Rattle.event.specs.declared.refusal.Refusal.{Refusal}
use Rattle.event.specs.Refusal.{refusal_number}
use Rattle.car.specs.declared.Car.{Car}
use Rattle.car.specs.Car.{fresh_of}
use Rattle.car.specs.Good.{good_of}
use Rattle.car.specs.Lesson.{driven}
use Rattle.history.specs.History.{accepted_words}
use Rattle.copy.specs.declared.Part as code

-- "A buffer shorter than the accepted words"
unfoldable pub too_short : Car → List ℕ → List ℕ → Bool
too_short c ws buffer = ltb (length buffer) (length (accepted_words c ws))

-- "puts the accepted words, in order, into a lent buffer"; "Words past the copy keep their contents"
unfoldable pub copied_into : Car → List ℕ → List ℕ → List ℕ
copied_into c ws buffer = accepted_words c ws ++ drop (length (accepted_words c ws)) buffer

-- ---- from settings: "the number written, 0 when refused, is part of the result"; the refusal is 0, 17 or 19
pub record Copied : Type 0 where
  pub written : ℕ
  pub refusal : ℕ

-- what a result says
abbrev pub copy_answer : Result ℕ Refusal → Copied
copy_answer (Ok n) = record { written = n; refusal = 0 }
copy_answer (Err r) = record { written = 0; refusal = refusal_number r }

unfoldable pub written : Car → List ℕ → Copied
written c ws = record { written = length (accepted_words c ws); refusal = 0 }

unfoldable pub unwritten : ℕ → Copied
unwritten n = record { written = 0; refusal = n }

-- from the fresh car, or its refusal 17: "bad settings are looked at before that". Then 19, "the number already given for a short answer
-- buffer"
unfoldable pub started_copy : Answer Car → List ℕ → List ℕ → Copied
started_copy (gives c) ws buffer = pick (too_short c ws buffer) (unwritten 19) (written c ws)
started_copy (refused n) ws buffer = unwritten n

-- the buffer afterwards: one that is too short "is left untouched"
unfoldable pub started_buffer : Answer Car → List ℕ → List ℕ → List ℕ
started_buffer (gives c) ws buffer = pick (too_short c ws buffer) buffer (copied_into c ws buffer)
started_buffer (refused n) ws buffer = buffer

unfoldable pub copy_of : ℕ → ℕ → ℕ → List ℕ → List ℕ → Copied
copy_of mode signs towing ws buffer = started_copy (fresh_of mode signs towing) ws buffer

unfoldable pub copy_buffer : ℕ → ℕ → ℕ → List ℕ → List ℕ → List ℕ
copy_buffer mode signs towing ws buffer = started_buffer (fresh_of mode signs towing) ws buffer

-- ---- from a car, for a lesson that comes part by part: the same with the car behind it. 18 for a car that is not good, then 19
pub record Part : Type 0 where
  pub car : Car
  pub written : ℕ
  pub refusal : ℕ

-- what a result says of the car handed in: refused, it is kept
abbrev pub part_answer : Car → Result code.Part Refusal → Part
part_answer c (Ok p) = record { car = p.car; written = p.written; refusal = 0 }
part_answer c (Err r) = record { car = c; written = 0; refusal = refusal_number r }

unfoldable pub copied_part : Car → List ℕ → Part
copied_part c ws = record { car = driven c ws; written = length (accepted_words c ws); refusal = 0 }

unfoldable pub uncopied_part : Car → ℕ → Part
uncopied_part c n = record { car = c; written = 0; refusal = n }

unfoldable pub part_of : Car → List ℕ → List ℕ → Part
part_of c ws buffer =
    pick (good_of c)
    (pick (too_short c ws buffer) (uncopied_part c 19) (copied_part c ws))
    (uncopied_part c 18)

unfoldable pub part_buffer : Car → List ℕ → List ℕ → List ℕ
part_buffer c ws buffer =
    pick (good_of c)
    (pick (too_short c ws buffer) buffer (copied_into c ws buffer))
    buffer
