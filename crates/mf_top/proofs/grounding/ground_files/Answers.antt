use Rattle.std.proofs.Common.{ℕ, List, inr, subst}
use Rattle.mf_input.specs.Files.{IsTaskOfFiles}
use Rattle.mf_top.proofs.grounding.ground_files.Goals as goal

pub returns-in-Ok : goal.returns-in-Ok
returns-in-Ok c =
    let files = c.args.files.now in
    let task = c.in-Ok.task in
    let P : List ℕ → Type 0 = λ bytes. IsTaskOfFiles bytes c.as_slice-2.result.now task in
    let Q : List ℕ → Type 0 = λ bytes. IsTaskOfFiles files.domain bytes task in
    inr (task, subst Q c.as_slice-2.ensures (subst P c.as_slice.ensures c.in-Ok.ensures.answer), c.list_instances.ensures)
