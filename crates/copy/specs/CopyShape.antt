-- How the code goes, beside the definitions: it finds the accepted words by the answer words of a lesson.
-- Assumes nothing.
use Rattle.std.specs.Prelude.{List, [], ◌∷◌, ◌++◌, ℕ, eqb}
use Rattle.kit.specs.Pick.{pick}
use Rattle.answer.specs.AnswerWord.{read_of}

-- a word whose answer word holds no refusal, and all such words of a list
unfoldable pub sifted_word : ℕ → ℕ → List ℕ
sifted_word w a = pick (eqb (read_of a).refusal 0) (w ∷ []) []

unfoldable pub sifted : List ℕ → List ℕ → List ℕ
sifted [] answers = []
sifted (w ∷ ws) [] = []
sifted (w ∷ ws) (a ∷ answers) = sifted_word w a ++ sifted ws answers
