-- What is asked of a program that reads one file.
-- Assumes nothing.
use Rattle.std.specs.Prelude.{ℕ, ◌≤◌, List, length, Result, IfOk}
use Rattle.console.specs.declared.Told.{Told}
use Rattle.command.specs.declared.Request.{Request}
use Rattle.command.specs.declared.Request.TheVariants.{Input, Help, Usage}

-- how long the program's and the input's name are
abbrev pub name_end : {B : Type 0} → Request B → ℕ
name_end (Input before file name) = length name.now
name_end Help = 0
name_end Usage = 0

-- they are no longer than the buffer, where no failure was told
abbrev pub NameWithin : {B : Type 0} → Result (Request B) Told → List ℕ → Type 0
NameWithin asked what = IfOk asked (λ request. name_end request ≤ length what)
