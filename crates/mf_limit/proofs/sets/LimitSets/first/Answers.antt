use Rattle.std.proofs.Common.{◌∙◌, ap, ℕ, map}
use Rattle.std.specs.List.{range_with_len}
use Rattle.mf_task.specs.Rows.{sight_of}
use Rattle.mf_limit.specs.Sets.{first_atom}
use Rattle.mf_limit.proofs.FirstSets.{first-sets, first-sizes}
use Rattle.mf_limit.proofs.sets.LimitSets.first.Goals as goal

pub returns-clause-sizes : goal.returns-clause-sizes
returns-clause-sizes c =
    let row = c.args.scene.now.row.now in
    let atoms = c.in_ok-atoms.ensures ∙ ap (λ (n : ℕ). map (first_atom (sight_of row)) (range_with_len 0 n)) c.len.ensures in
    first-sizes c.args.scene.now.task.now row _ c.requires (record { atoms = atoms; terms = c.in_ok-terms.ensures })

pub returns-clause-first : goal.returns-clause-first
returns-clause-first c =
    let row = c.args.scene.now.row.now in
    let atoms = c.in_ok-atoms.ensures ∙ ap (λ (n : ℕ). map (first_atom (sight_of row)) (range_with_len 0 n)) c.len.ensures in
    first-sets c.args.scene.now.task.now row _ c.requires (record { atoms = atoms; terms = c.in_ok-terms.ensures })
