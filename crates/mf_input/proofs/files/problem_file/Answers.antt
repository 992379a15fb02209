use Rattle.mf_lex.proofs.Places.{placed}
use Rattle.mf_reader.specs.Problems.{problem_of}
use Rattle.mf_reader.specs.GrammarFiles.{IsProblem}
use Rattle.mf_reader.proofs.ProblemReadings.{problem_reads}
use Rattle.mf_input.proofs.FileLemmas.{form_refused}
use Rattle.mf_input.proofs.files.problem_file.Goals as goal

pub returns : goal.returns
returns c =
    let is_tree = c.in_ok-tree.ensures in
    let least = c.in-Err.ensures.least (placed c.args.source.now c.in_ok-tree.tree is_tree) in
    rw c.form_fault.ensures (form_refused problem_of IsProblem problem_reads c.args.source.now c.in_ok-tree.tree c.in-Err.fault is_tree c.in-Err.ensures.reads least)
