use Rattle.std.proofs.Common.{[], ◌∷◌, inl}
use Rattle.std.proofs.lemmas.Result.{err_from_is_err_and}
use Rattle.mf_top.proofs.LoadLemmas.{ends_later, ends_kept}
use Rattle.mf_top.proofs.load.load_two.Goals as goal

pub returns-in_err-problem : goal.returns-in_err-problem
returns-in_err-problem g c =
    let exit = err_from_is_err_and c.from_residual-in_err-problem.result c.from_residual-in_err-problem.ensures.1 in
    let held = g.F.Folder.held c.args.files.now in
    let problem = c.args.problem.now in
    let before = g.F.Folder.log c.args.files.now in
    let middle = g.F.Folder.log c.load_file.new.files in
    let after = g.F.Folder.log c.load_file-2.new.files in
    let decision = c.in_err-problem.field-0.0 in
    let first = c.in_ok-domain.ensures.answer in
    let second = ends_kept held (g.F.Folder.held c.load_file.new.files) problem middle after decision c.in_ok-domain.ensures.kept c.in_err-problem.ensures.answer in
    rw (exit.1, exit.2) (ends_later held c.args.domain.now (problem ∷ []) c.in_ok-domain.domain before middle after decision first.0 first.1 (inl second))
