use Rattle.std.proofs.Common.{◌≡◌, sym, ℕ, Option, IfErr, subst, true}
use Rattle.std.specs.Prelude.{is_some}
use Rattle.mf_task.specs.GroundMeaning.{form_at, right_side}
use Rattle.mf_task.specs.Rows.{sight_of}
use Rattle.mf_state.proofs.KeptValues.{wide_is_defined}
use Rattle.mf_state.proofs.changes.right_side.Goals as goal

pub returns-in-Some-clause-wide : goal.returns-in-Some-clause-wide
returns-in-Some-clause-wide c =
    subst (λ (x : Option ℕ). IfErr c.numbered_value.result (λ fault. is_some (right_side c.args.task.now (sight_of c.args.row.now) x) ≡ true)) (sym c.in-Some.is)
    (wide_is_defined (sight_of c.args.row.now).value (form_at c.args.task.now c.in-Some.number) c.numbered_value.result c.numbered_value.ensures.checked)
