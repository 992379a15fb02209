use Rattle.mf_reader.specs.Problems.{problem_of}
use Rattle.mf_reader.specs.GrammarFiles.{IsProblem}
use Rattle.mf_reader.proofs.FileLaws.{form_of, only_of, least_fault}
use Rattle.mf_reader.proofs.FileOrder.{problem_in_order}
use Rattle.mf_reader.proofs.ProblemReadings.{problem_reads}
use Rattle.mf_reader.proofs.problem.read_problem.Goals as goal

pub returns-clause-form : goal.returns-clause-form
returns-clause-form c = form_of problem_of IsProblem problem_reads c.args.tree.now c.problem_of.result c.problem_of.ensures

pub returns-clause-only : goal.returns-clause-only
returns-clause-only c = only_of problem_of IsProblem problem_reads c.args.tree.now c.problem_of.result c.problem_of.ensures

pub returns-clause-least : goal.returns-clause-least
returns-clause-least c = λ placed. least_fault (problem_of c.args.tree.now) c.problem_of.result (problem_in_order c.args.tree.now placed) c.problem_of.ensures
