-- The keywords of sections, and of the parts of an action.
use Rattle.std.specs.Prelude.{ℕ, Bool, ◌||◌, if◌then◌else◌, List, codes}
use Rattle.std.specs.Str.{bytes_eq}
use Rattle.mf_reader.specs.declared.keys.DomainKey.{DomainKey}
use Rattle.mf_reader.specs.declared.keys.DomainKey.TheVariants as domain
use Rattle.mf_reader.specs.declared.keys.PartKey.{PartKey}
use Rattle.mf_reader.specs.declared.keys.PartKey.TheVariants as part
use Rattle.mf_reader.specs.declared.keys.ProblemKey.{ProblemKey}
use Rattle.mf_reader.specs.declared.keys.ProblemKey.TheVariants as problem
use Rattle.mf_reader.specs.Faces.{Face, Leaf, Branch}

-- the sections that are left out, in domains and in problems
unfoldable pub is_left_out : List ℕ → Bool
is_left_out text = bytes_eq text (codes ":durative-action") || (bytes_eq text (codes ":derived") || (bytes_eq text (codes ":constraints") || bytes_eq text (codes ":length")))

unfoldable pub domain_key : List ℕ → DomainKey
domain_key text =
    if bytes_eq text (codes ":requirements") then domain.Requirements
    else (if bytes_eq text (codes ":types") then domain.Types
    else (if bytes_eq text (codes ":constants") then domain.Constants
    else (if bytes_eq text (codes ":predicates") then domain.Predicates
    else (if bytes_eq text (codes ":functions") then domain.Functions
    else (if bytes_eq text (codes ":action") then domain.Action
    else (if is_left_out text then domain.LeftOut
    else domain.Other))))))

abbrev pub domain_key_of : Face → DomainKey
domain_key_of (Leaf kind text span) = domain_key text
domain_key_of (Branch span) = domain.Other

unfoldable pub problem_key : List ℕ → ProblemKey
problem_key text =
    if bytes_eq text (codes ":domain") then problem.Domain
    else (if bytes_eq text (codes ":requirements") then problem.Requirements
    else (if bytes_eq text (codes ":objects") then problem.Objects
    else (if bytes_eq text (codes ":init") then problem.Init
    else (if bytes_eq text (codes ":goal") then problem.Goal
    else (if bytes_eq text (codes ":metric") then problem.Metric
    else (if is_left_out text then problem.LeftOut
    else problem.Other))))))

abbrev pub problem_key_of : Face → ProblemKey
problem_key_of (Leaf kind text span) = problem_key text
problem_key_of (Branch span) = problem.Other

unfoldable pub part_key : List ℕ → PartKey
part_key text =
    if bytes_eq text (codes ":parameters") then part.Parameters
    else (if bytes_eq text (codes ":precondition") then part.Precondition
    else (if bytes_eq text (codes ":effect") then part.Effect
    else part.Other))

abbrev pub part_key_of : Face → PartKey
part_key_of (Leaf kind text span) = part_key text
part_key_of (Branch span) = part.Other
