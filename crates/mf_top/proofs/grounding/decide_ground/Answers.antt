use Rattle.std.proofs.Common.{[], ◌∷◌, inl, inr}
use Rattle.mf_top.proofs.grounding.decide_ground.Goals as goal

pub returns-in-Ok : goal.returns-in-Ok
returns-in-Ok g c =
    let files = c.in-Ok.loaded in
    rw c.in-Ground.is (inr (files.domain ∷ files.problem ∷ [], c.in-Ok.ensures, c.ground_files.ensures))

pub returns-in-Err : goal.returns-in-Err
returns-in-Err g c = rw c.in-Ground.is (inl c.in-Err.ensures)
