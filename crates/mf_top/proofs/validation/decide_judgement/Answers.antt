use Rattle.std.proofs.Common.{[], ◌∷◌, inl, inr}
use Rattle.mf_top.proofs.validation.decide_judgement.Goals as goal

pub returns-in-Ok : goal.returns-in-Ok
returns-in-Ok g c =
    let files = c.in-Ok.loaded in
    rw c.in-Validate.is (inr (files.domain ∷ files.problem ∷ files.third ∷ [], c.in-Ok.ensures, c.judge_files.ensures))

pub returns-in-Err : goal.returns-in-Err
returns-in-Err g c = rw c.in-Validate.is (inl c.in-Err.ensures)
