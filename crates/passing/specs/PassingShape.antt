-- How the code goes, beside the definitions: a search gives the seconds up to its find and the car that it left, from which the words behind it are
-- counted.
-- Assumes nothing.
use Rattle.std.specs.Prelude.{List, ℕ}
use Rattle.car.specs.declared.Car.{Car}
use Rattle.car.specs.Lesson.{driven}
use Rattle.car.specs.Mark.{seconds_of, searched}
use Rattle.passing.specs.declared.Marked.{Marked}
use Rattle.passing.specs.Passing.{passed_of}

unfoldable pub find_of : ℕ → Car → List ℕ → Marked
find_of mark c ws =
    record {
      car = driven c (searched mark c ws);
      passed = passed_of mark c ws;
      seconds = seconds_of mark c (searched mark c ws);
    }
