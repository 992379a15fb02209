-- Problems: a name, and sections in any order, of which the domain's name and the goal must stand.
use Rattle.std.specs.Prelude.{ℕ, Bool, true, false, not, ◌&&◌, if◌then◌else◌, Some, None, is_none, List, [], ◌∷◌, map, codes}
use Rattle.std.specs.List.{list_any}
use Rattle.std.specs.Option.{unwrap_or}
use Rattle.mf_model.specs.declared.token.Span.{Span}
use Rattle.mf_model.specs.declared.tree.Tree.{Tree}
use Rattle.mf_model.specs.declared.tree.Tree.TheViews.{out-Tree}
use Rattle.mf_model.specs.declared.tree.Tree.TheOpen.{Tree-F}
use Rattle.mf_model.specs.declared.form.Problem.{Problem}
use Rattle.mf_model.specs.declared.form.RawCond.TheVariants as c
use Rattle.mf_reader.specs.declared.inits.Starts.{Starts}
use Rattle.mf_reader.specs.declared.keys.ProblemKey.{ProblemKey}
use Rattle.mf_reader.specs.declared.keys.ProblemKey.TheVariants.{Domain, Requirements, Objects, Init, Goal, Metric, LeftOut, Other}
use Rattle.mf_reader.specs.declared.problem.ProblemParts.{ProblemParts}
use Rattle.mf_reader.specs.Faces.{has_text}
use Rattle.mf_reader.specs.Goals.{goal_at, metric_at}
use Rattle.mf_reader.specs.Inits.{init_of}
use Rattle.mf_reader.specs.Keys.{problem_key_of}
use Rattle.mf_reader.specs.Requirements.{requirements_of}
use Rattle.mf_reader.specs.Said.{Said, said, bad, left_out, both, mapped}
use Rattle.mf_reader.specs.Seen.{seen}
use Rattle.mf_reader.specs.Titles.{one_word, title_of}
use Rattle.mf_reader.specs.Typed.{typed_names}

-- Sections

-- no section stands
abbrev pub no_sections : ProblemParts
no_sections = record { domain = false; requirements = false; objects = None; init = None; goal = None; metric = None }

-- the section may stand: each stands once
abbrev pub may_stand : ProblemKey → ProblemParts → Bool
may_stand Domain parts = not parts.domain
may_stand Requirements parts = not parts.requirements
may_stand Objects parts = is_none parts.objects
may_stand Init parts = is_none parts.init
may_stand Goal parts = is_none parts.goal
may_stand Metric parts = is_none parts.metric
may_stand LeftOut parts = true
may_stand Other parts = false

abbrev pub with_section : ProblemKey → Span → List Tree → ProblemParts → Said ProblemParts
with_section Domain span items parts = mapped (λ name. record parts { domain = true }) (one_word span items)
with_section Requirements span items parts = mapped (λ known. record parts { requirements = true }) (requirements_of items)
with_section Objects span items parts = mapped (λ objects. record parts { objects = Some objects }) (typed_names (map seen items))
with_section Init span items parts = mapped (λ init. record parts { init = Some init }) (init_of items)
with_section Goal span items parts = mapped (λ goal. record parts { goal = Some goal }) (goal_at span items)
with_section Metric span items parts = mapped (λ metric. record parts { metric = Some metric }) (metric_at span items)
with_section LeftOut span items parts = left_out span parts
with_section Other span items parts = bad span parts

abbrev pub section_by : ProblemKey → Span → List Tree → ProblemParts → Said ProblemParts
section_by key span items parts = if may_stand key parts then with_section key span items parts else bad span parts

abbrev pub section_layer : Tree-F Tree → ProblemParts → Said ProblemParts
section_layer (Tree-F.Branch (head ∷ items) span) parts = section_by (problem_key_of (seen head).face) span items parts
section_layer (Tree-F.Branch [] span) parts = bad span parts
section_layer (Tree-F.Leaf kind text span) parts = bad span parts

abbrev pub section_of : Tree → ProblemParts → Said ProblemParts
section_of t parts = section_layer (out-Tree t) parts

abbrev pub sections_from : ProblemParts → List Tree → Said ProblemParts
sections_from parts [] = said parts
sections_from parts (t ∷ ts) = both (λ section rest. rest) (section_of t parts) (sections_from (section_of t parts).value ts)

abbrev pub layer_headed : List ℕ → Tree-F Tree → Bool
layer_headed key (Tree-F.Branch (head ∷ parts) span) = has_text key (seen head).face
layer_headed key (Tree-F.Branch [] span) = false
layer_headed key (Tree-F.Leaf kind text span) = false

-- the tree is a list with this head word
abbrev pub is_headed : List ℕ → Tree → Bool
is_headed key t = layer_headed key (out-Tree t)

-- a section stands by its head, also where it is of no form
abbrev pub stands : List ℕ → List Tree → Bool
stands key sections = list_any (is_headed key) sections

abbrev pub is_whole : List Tree → Bool
is_whole sections = stands (codes ":domain") sections && stands (codes ":goal") sections

-- Problems

abbrev pub empty_init : Starts
empty_init = record { atoms = []; values = [] }

-- a missing section is empty
abbrev pub made_problem : Span → List ℕ → ProblemParts → Problem
made_problem span name parts = record {
  name = name;
  objects = unwrap_or parts.objects [];
  atoms = (unwrap_or parts.init empty_init).atoms;
  values = (unwrap_or parts.init empty_init).values;
  goal = unwrap_or parts.goal (c.And [] span);
  metric = parts.metric;
}

abbrev pub no_problem : Span → Said Problem
no_problem span = bad span (made_problem span [] no_sections)

abbrev pub problem_behind : Span → Tree → List Tree → Said Problem
problem_behind span title sections = both (made_problem span) (title_of (codes "problem") title) (sections_from no_sections sections)

abbrev pub problem_layer : Tree-F Tree → Said Problem
problem_layer (Tree-F.Branch (head ∷ title ∷ sections) span) =
    if has_text (codes "define") (seen head).face && is_whole sections then problem_behind span title sections else no_problem span
problem_layer (Tree-F.Branch items span) = no_problem span
problem_layer (Tree-F.Leaf kind text span) = no_problem span

-- (define (problem W) section*)
abbrev pub problem_of : Tree → Said Problem
problem_of t = problem_layer (out-Tree t)
