use Rattle.mf_eval.proofs.Zero.{sign-zero}
use Rattle.mf_eval.proofs.changes.is_division_by_zero.Goals as goal

pub returns-in-ScaleDown-Some : goal.returns-in-ScaleDown-Some
returns-in-ScaleDown-Some c = sign-zero _ _ _ _ c.in-ScaleDown-Some.is-0 c.in-ScaleDown-Some.is-1 c.sign.ensures
