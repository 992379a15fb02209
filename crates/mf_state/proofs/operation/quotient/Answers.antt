use Rattle.std.proofs.Common.{sym, ◌∙◌, ap, Err}
use Rattle.mf_state.proofs.KeptValues.{kept-quotient, kept-zero, kept-wide}
use Rattle.mf_state.proofs.operation.quotient.Goals as goal

pub returns-in-Ok : goal.returns-in-Ok
returns-in-Ok c = kept-quotient _ _ (sym c.in-Ok.ensures)

pub returns-in-Err-ZeroDivisor : goal.returns-in-Err-ZeroDivisor
returns-in-Err-ZeroDivisor c = kept-zero _ (sym c.in-Err-ZeroDivisor.ensures ∙ ap Err c.in-Err-ZeroDivisor.field-0-is)

pub returns-in-Err-Wide : goal.returns-in-Err-Wide
returns-in-Err-Wide c = kept-wide _ (sym c.in-Err-Wide.ensures ∙ ap Err c.in-Err-Wide.field-0-is)
