-- What the methods of a page ensure.
-- Assumes nothing.
use Rattle.std.specs.Prelude.{◌≡◌}
use Rattle.tester.specs.declared.output.Page.{Page}
use Rattle.tester.specs.Output.{Page as Text, page}

-- the slice that a page is lent, and its index
abbrev pub shown : Page → Text
shown p = page p.out.now p.at

-- a text put into a page: it keeps the slice that it is lent
abbrev pub Puts : Page → Page → (Text → Text) → Type 0
Puts before after put = (after.out.ghost_name ≡ before.out.ghost_name) × (shown after ≡ put (shown before))
