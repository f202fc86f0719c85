use Rattle.std.proofs.Common.{sym, ◌∙◌, arith}
use Rattle.command.proofs.Reading.{none_typed, no_digit, too_large, fewer_left, none_left}
use Rattle.command.proofs.typed.read_number.Goals as goal

pub returns-then-is_empty : goal.returns-then-is_empty
returns-then-is_empty c = none_typed _ (grind arith)

pub returns-then-not-is_ascii_digit : goal.returns-then-not-is_ascii_digit
returns-then-not-is_ascii_digit c = no_digit _ _ _ c.loop-byte.invariant c.loop-byte-test.true (sym c.is_ascii_digit.ensures.value ∙ c.if-not-is_ascii_digit.true)

pub returns-in_err-checked_mul : goal.returns-in_err-checked_mul
returns-in_err-checked_mul c = c.from_residual.ensures ∙ too_large _ _ _ c.loop-byte.invariant c.loop-byte-test.true (grind arith)

pub returns-in_err-value : goal.returns-in_err-value
returns-in_err-value c = c.from_residual-in_err-value.ensures ∙ too_large _ _ _ c.loop-byte.invariant c.loop-byte-test.true (grind arith)

pub loop-byte-preserved : goal.loop-byte-preserved
loop-byte-preserved c =
    fewer_left _ _ _ c.loop-byte.invariant c.loop-byte-test.true (sym c.is_ascii_digit.ensures.value ∙ c.if-not-is_ascii_digit.false) (grind arith) (omega arith)

pub returns : goal.returns
returns c = none_left _ _ _ c.loop-byte.invariant (grind arith) c.loop-byte-test.false
