-- The faults that stand in a file stand in order.
use Rattle.std.proofs.Common.{ℕ, ◌<◌, ◌&&◌, Bool, true, false, List, [], ◌∷◌, map, arith, codes}
use Rattle.mf_model.specs.declared.token.Span.{Span}
use Rattle.mf_model.specs.declared.tree.Tree.{Tree}
use Rattle.mf_model.specs.Trees.{span_of, IsPlaced}
use Rattle.mf_reader.specs.declared.domain.DomainParts.{DomainParts}
use Rattle.mf_reader.specs.declared.problem.ProblemParts.{ProblemParts}
use Rattle.mf_reader.specs.declared.keys.DomainKey.{DomainKey}
use Rattle.mf_reader.specs.declared.keys.DomainKey.TheVariants as in_domain
use Rattle.mf_reader.specs.declared.keys.ProblemKey.{ProblemKey}
use Rattle.mf_reader.specs.declared.keys.ProblemKey.TheVariants as in_problem
use Rattle.mf_reader.specs.declared.typed.Listed.TheVariants.{Names, Types}
use Rattle.mf_reader.specs.Said.{Said, bad}
use Rattle.mf_reader.specs.Faces as face
use Rattle.mf_reader.specs.Faces.{has_text}
use Rattle.mf_reader.specs.Keys.{domain_key_of, problem_key_of}
use Rattle.mf_reader.specs.Seen.{seen}
use Rattle.mf_reader.specs.Headers.{predicate_header}
use Rattle.mf_reader.specs.Goals.{goal_at, direction_by, direction_of, metric_at}
use Rattle.mf_reader.specs.Titles.{any_layer, any_word, one_word, title_layer, title_of}
use Rattle.mf_reader.specs.Domains as domain
use Rattle.mf_reader.specs.Problems as problem
use Rattle.mf_reader.specs.Order.{AreInOrder}
use Rattle.mf_reader.proofs.Rows.{Within, in_order}
use Rattle.mf_reader.proofs.Choices.{by_test}
use Rattle.mf_reader.proofs.WordOrder.{none_in, bad_in, left_in, group_within}
use Rattle.mf_reader.proofs.TreeOrder.{seen_in_order}
use Rattle.mf_reader.proofs.SectionOrder.{Trees, trees_tail, seen_row, Holds, in_row, one_in_row, each_in_row, ListsHold, layered, predicate_holds, requirements_within}
use Rattle.mf_reader.proofs.PartOrder.{bad_at, functions_hold, action_within, init_within}

-- Names

any_holds : Holds (λ t. (any_word t).faults)
any_holds = layered (λ x. (any_layer x).faults) (λ kind text span some. none_in span some) (λ items span some row. bad_in span some)

word_within : (span : Span) (ts : List Tree) → span.start < span.end → Trees span.start ts span.end → Within span.start (one_word span ts).faults span.end
word_within span [] some row = bad_in span some
word_within span (t ∷ []) some row = one_in_row span.start t span.end (any_word t).faults row (any_holds t row.1)
word_within span (t ∷ u ∷ rest) some row = bad_in span some

title_lists : (key : List ℕ) → ListsHold (λ x. (title_layer key x).faults)
title_lists key [] span some row = bad_in span some
title_lists key (head ∷ parts) span some row =
    by_test (λ (x : Said (List ℕ)). Within span.start x.faults span.end) (has_text key (seen head).face) (one_word span parts) (bad span [])
    (λ is. word_within span parts some (trees_tail span.start head parts span.end row)) (λ is. bad_in span some)

title_holds : (key : List ℕ) → Holds (λ t. (title_of key t).faults)
title_holds key = layered (λ x. (title_layer key x).faults) (λ kind text span some. bad_in span some) (title_lists key)

-- Goal and metric

goal_within : (span : Span) (ts : List Tree) → span.start < span.end → Trees span.start ts span.end → Within span.start (goal_at span ts).faults span.end
goal_within span [] some row = bad_in span some
goal_within span (t ∷ []) some row = one_in_row span.start t span.end (seen t).cond.faults row (seen_in_order t row.1).cond
goal_within span (t ∷ u ∷ rest) some row = bad_in span some

direction_within : (least greatest : Bool) (t : Tree) → IsPlaced t → Within (span_of t).start (direction_by least greatest (face.span_of (seen t).face)).faults (span_of t).end
direction_within true greatest t placed = let o = seen_in_order t placed in let a = o.first in let b = o.some in omega arith
direction_within false true t placed = let o = seen_in_order t placed in let a = o.first in let b = o.some in omega arith
direction_within false false t placed = bad_at t placed

metric_within : (span : Span) (ts : List Tree) → span.start < span.end → Trees span.start ts span.end → Within span.start (metric_at span ts).faults span.end
metric_within span [] some row = bad_in span some
metric_within span (w ∷ []) some row = bad_in span some
metric_within span (w ∷ t ∷ []) some row =
    in_row span.start w (t ∷ []) span.end (direction_of w).faults (seen t).metric.faults row (direction_within (has_text (codes "minimize") (seen w).face) (has_text (codes "maximize") (seen w).face) w row.1)
    (one_in_row (span_of w).end t span.end (seen t).metric.faults row.2 (seen_in_order t row.2.1).metric)
metric_within span (w ∷ t ∷ u ∷ rest) some row = bad_in span some

-- Domains

domain_section : (key : DomainKey) (span : Span) (items : List Tree) (parts : DomainParts) → span.start < span.end → Trees span.start items span.end → Within span.start (domain.with_section key span items parts).faults span.end
domain_section in_domain.Requirements span items parts some row = requirements_within span.start items span.end row
domain_section in_domain.Types span items parts some row = group_within Types [] span.start (map seen items) span.end (seen_row span.start items span.end row)
domain_section in_domain.Constants span items parts some row = group_within Names [] span.start (map seen items) span.end (seen_row span.start items span.end row)
domain_section in_domain.Predicates span items parts some row = each_in_row predicate_header predicate_holds span.start items span.end row
domain_section in_domain.Functions span items parts some row = functions_hold span.start items span.end row
domain_section in_domain.Action span items parts some row = action_within span items some row
domain_section in_domain.LeftOut span items parts some row = left_in span some
domain_section in_domain.Other span items parts some row = bad_in span some

domain_section_lists : (parts : DomainParts) → ListsHold (λ x. (domain.section_layer x parts).faults)
domain_section_lists parts [] span some row = bad_in span some
domain_section_lists parts (head ∷ items) span some row =
    let key = domain_key_of (seen head).face in
    by_test (λ (x : Said DomainParts). Within span.start x.faults span.end) (domain.may_stand key parts) (domain.with_section key span items parts) (bad span parts)
    (λ is. domain_section key span items parts some (trees_tail span.start head items span.end row)) (λ is. bad_in span some)

domain_section_holds : (parts : DomainParts) → Holds (λ t. (domain.section_of t parts).faults)
domain_section_holds parts = layered (λ x. (domain.section_layer x parts).faults) (λ kind text span some. bad_in span some) (domain_section_lists parts)

domain_sections_within : (parts : DomainParts) (from : ℕ) (ts : List Tree) (to : ℕ) → Trees from ts to → Within from (domain.sections_from parts ts).faults to
domain_sections_within parts from [] to row = row
domain_sections_within parts from (t ∷ ts) to row =
    in_row from t ts to (domain.section_of t parts).faults (domain.sections_from (domain.section_of t parts).value ts).faults row (domain_section_holds parts t row.1) (domain_sections_within (domain.section_of t parts).value (span_of t).end ts to row.2)

domain_lists : ListsHold (λ x. (domain.domain_layer x).faults)
domain_lists [] span some row = bad_in span some
domain_lists (head ∷ []) span some row = bad_in span some
domain_lists (head ∷ title ∷ sections) span some row =
    by_test (λ x. Within span.start x.faults span.end) (has_text (codes "define") (seen head).face) (domain.domain_behind title sections) (domain.no_domain span)
    (λ is. in_row span.start title sections span.end (title_of (codes "domain") title).faults (domain.sections_from domain.no_sections sections).faults (trees_tail span.start head (title ∷ sections) span.end row) (title_holds (codes "domain") title row.2.1) (domain_sections_within domain.no_sections (span_of title).end sections span.end row.2.2))
    (λ is. bad_in span some)

pub domain_in_order : (t : Tree) → IsPlaced t → AreInOrder (domain.domain_of t).faults
domain_in_order t placed = in_order (span_of t).start (domain.domain_of t).faults (span_of t).end
    (layered (λ x. (domain.domain_layer x).faults) (λ kind text span some. bad_in span some) domain_lists t placed)

-- Problems

problem_section : (key : ProblemKey) (span : Span) (items : List Tree) (parts : ProblemParts) → span.start < span.end → Trees span.start items span.end → Within span.start (problem.with_section key span items parts).faults span.end
problem_section in_problem.Domain span items parts some row = word_within span items some row
problem_section in_problem.Requirements span items parts some row = requirements_within span.start items span.end row
problem_section in_problem.Objects span items parts some row = group_within Names [] span.start (map seen items) span.end (seen_row span.start items span.end row)
problem_section in_problem.Init span items parts some row = init_within span.start items span.end row
problem_section in_problem.Goal span items parts some row = goal_within span items some row
problem_section in_problem.Metric span items parts some row = metric_within span items some row
problem_section in_problem.LeftOut span items parts some row = left_in span some
problem_section in_problem.Other span items parts some row = bad_in span some

problem_section_lists : (parts : ProblemParts) → ListsHold (λ x. (problem.section_layer x parts).faults)
problem_section_lists parts [] span some row = bad_in span some
problem_section_lists parts (head ∷ items) span some row =
    let key = problem_key_of (seen head).face in
    by_test (λ (x : Said ProblemParts). Within span.start x.faults span.end) (problem.may_stand key parts) (problem.with_section key span items parts) (bad span parts)
    (λ is. problem_section key span items parts some (trees_tail span.start head items span.end row)) (λ is. bad_in span some)

problem_section_holds : (parts : ProblemParts) → Holds (λ t. (problem.section_of t parts).faults)
problem_section_holds parts = layered (λ x. (problem.section_layer x parts).faults) (λ kind text span some. bad_in span some) (problem_section_lists parts)

problem_sections_within : (parts : ProblemParts) (from : ℕ) (ts : List Tree) (to : ℕ) → Trees from ts to → Within from (problem.sections_from parts ts).faults to
problem_sections_within parts from [] to row = row
problem_sections_within parts from (t ∷ ts) to row =
    in_row from t ts to (problem.section_of t parts).faults (problem.sections_from (problem.section_of t parts).value ts).faults row (problem_section_holds parts t row.1) (problem_sections_within (problem.section_of t parts).value (span_of t).end ts to row.2)

problem_lists : ListsHold (λ x. (problem.problem_layer x).faults)
problem_lists [] span some row = bad_in span some
problem_lists (head ∷ []) span some row = bad_in span some
problem_lists (head ∷ title ∷ sections) span some row =
    by_test (λ x. Within span.start x.faults span.end) (has_text (codes "define") (seen head).face && problem.is_whole sections) (problem.problem_behind span title sections) (problem.no_problem span)
    (λ is. in_row span.start title sections span.end (title_of (codes "problem") title).faults (problem.sections_from problem.no_sections sections).faults (trees_tail span.start head (title ∷ sections) span.end row) (title_holds (codes "problem") title row.2.1) (problem_sections_within problem.no_sections (span_of title).end sections span.end row.2.2))
    (λ is. bad_in span some)

pub problem_in_order : (t : Tree) → IsPlaced t → AreInOrder (problem.problem_of t).faults
problem_in_order t placed = in_order (span_of t).start (problem.problem_of t).faults (span_of t).end
    (layered (λ x. (problem.problem_layer x).faults) (λ kind text span some. bad_in span some) problem_lists t placed)
