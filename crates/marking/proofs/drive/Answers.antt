use Rattle.std.specs.Prelude.{Some, Err}
use Rattle.std.proofs.Common.{◌≡◌, ◌∙◌, ℕ, ◌+◌, ◌≤◌, arith, rules}
use Rattle.std.proofs.iter.Serving.{serving}
use Rattle.passing.specs.Passing.{later}
use Rattle.marking.specs.Pieces.{page_answer}
use Rattle.marking.proofs.Turning.{searched, found_within}
use Rattle.marking.proofs.drive.Goals as goal

pub returns-in_err-page-in-None : goal.returns-in_err-page-in-None
unfolding later
returns-in_err-page-in-None c =
    let s = c.args in
    let e : page_answer s.stage c.from_residual-in_err-page-in-None.result ≡ page_answer s.stage (Err c.in_err-page-in-None.field-0.0) = search rules in
    e ∙ rw c.in-None.is (rw c.in-None.is at (searched s.mark s.stage s.words.now c.in-None.is _ c.in_err-page-in-None.ensures))

pub map-requires : goal.map-requires
map-requires c =
    let few : (n : ℕ) → c.in_ok-page-in-None.page.passed ≡ Some n → c.args.stage.events + n ≤ 18446744073709551615
    = λ n e. omega (arith, c.requires, found_within c.args.mark c.args.stage c.args.words.now _ c.in_ok-page-in-None.ensures n e) in
    grind (serving, few, arith)

pub returns-in_ok-page-in-None : goal.returns-in_ok-page-in-None
unfolding later
returns-in_ok-page-in-None c =
    let s = c.args in
    let t = c.in_ok-page-in-None.page in
    let m : c.map.result ≡ later s.stage.events t.passed = search rules in
    rw m (searched s.mark s.stage s.words.now c.in-None.is _ c.in_ok-page-in-None.ensures)
