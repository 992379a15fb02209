use Rattle.mf_normal.proofs.Numbers.{reciprocal_fails, reciprocal_is, reciprocal_none}
use Rattle.mf_normal.proofs.arithmetic.reciprocal.Goals as goal

pub unreachable-requires : goal.unreachable-requires
unreachable-requires c =
    reciprocal_fails _ _ _ _ c.stored_laws.ensures.narrow c.one.ensures.value c.div.ensures c.in-Err-Wide.is c.in-Err-Wide.field-0-is

pub returns-in-Ok : goal.returns-in-Ok
returns-in-Ok c = reciprocal_is _ _ _ _ c.stored_laws.ensures.narrow c.one.ensures.value c.div.ensures c.in-Ok.is

pub returns-in-Err-ZeroDivisor : goal.returns-in-Err-ZeroDivisor
returns-in-Err-ZeroDivisor c =
    reciprocal_none _ _ _ _ c.stored_laws.ensures.narrow c.one.ensures.value c.div.ensures c.in-Err-ZeroDivisor.is c.in-Err-ZeroDivisor.field-0-is
