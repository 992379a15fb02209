-- The faults that stand in expressions, conditions and effects stand in order.
use Rattle.std.proofs.Common.{ℕ, ◌<◌, Bool, true, false, List, [], ◌∷◌, codes}
use Rattle.std.specs.Str.{bytes_eq}
use Rattle.mf_model.specs.declared.task.Op.{Op}
use Rattle.mf_model.specs.declared.task.Relation.{Relation}
use Rattle.mf_model.specs.declared.token.Kind.{Kind}
use Rattle.mf_model.specs.declared.token.Kind.TheVariants.{Left, Right, Name, Variable, Keyword, Number, Sign, Plain}
use Rattle.mf_model.specs.declared.token.Span.{Span}
use Rattle.mf_model.specs.declared.form.RawExpr.TheVariants as x
use Rattle.mf_reader.specs.declared.heads.CondHead.{CondHead}
use Rattle.mf_reader.specs.declared.heads.CondHead.TheVariants as cond
use Rattle.mf_reader.specs.declared.heads.EffectHead.{EffectHead}
use Rattle.mf_reader.specs.declared.heads.EffectHead.TheVariants as effect
use Rattle.mf_reader.specs.declared.heads.ExprHead.{ExprHead}
use Rattle.mf_reader.specs.declared.heads.ExprHead.TheVariants as expr
use Rattle.mf_reader.specs.declared.places.EffectPlace.{EffectPlace}
use Rattle.mf_reader.specs.declared.places.EffectPlace.TheVariants as effect_place
use Rattle.mf_reader.specs.declared.places.ExprPlace.{ExprPlace}
use Rattle.mf_reader.specs.declared.places.ExprPlace.TheVariants as expr_place
use Rattle.mf_reader.specs.Said.{said, left_out, mapped}
use Rattle.mf_reader.specs.Faces.{has_text, is_term, span_of, term_at}
use Rattle.mf_reader.specs.Heads.{cond_head_of, expr_head_of, effect_head_of}
use Rattle.mf_reader.specs.Places.{Seen, expr_in, effect_in}
use Rattle.mf_reader.specs.Atoms.{call_at}
use Rattle.mf_reader.specs.Expressions.{no_expr, name_expr, word_expr, function_expr, term_expr, sum_expr, product_expr, minus_expr, quotient_expr, expr_by, list_expr}
use Rattle.mf_reader.specs.Conditions.{not_cond, imply_cond, all_cond, any_cond, compare_cond, equal_by, equal_cond, cond_by, list_cond}
use Rattle.mf_reader.specs.Effects.{not_effect, all_effect, when_effect, change_effect, effect_by, list_effect}
use Rattle.mf_reader.proofs.Rows.{Row, row_tail, Keeps, one_within, two_within, each_within}
use Rattle.mf_reader.proofs.Choices.{by_test}
use Rattle.mf_reader.proofs.WordOrder.{term_keeps, IsIn, none_in, bad_in, left_in, atom_in_list, call_in_list}

-- Expressions

name_in : (place : ExprPlace) (text : List ℕ) (span : Span) → span.start < span.end → IsIn span (name_expr place text span)
name_in expr_place.Action text span some = bad_in span some
name_in expr_place.Metric text span some =
    by_test (IsIn span) (bytes_eq text (codes "total-time")) (said (x.TotalTime span)) (no_expr span) (λ is. none_in span some) (λ is. bad_in span some)

pub word_expr_in : (place : ExprPlace) (kind : Kind) (text : List ℕ) (span : Span) → span.start < span.end → IsIn span (word_expr place kind text span)
word_expr_in place Number text span some = none_in span some
word_expr_in place Plain text span some =
    by_test (IsIn span) (bytes_eq text (codes "#t")) (left_out span (x.TotalTime span)) (no_expr span) (λ is. left_in span some) (λ is. bad_in span some)
word_expr_in place Name text span some = name_in place text span some
word_expr_in place Left text span some = bad_in span some
word_expr_in place Right text span some = bad_in span some
word_expr_in place Variable text span some = bad_in span some
word_expr_in place Keyword text span some = bad_in span some
word_expr_in place Sign text span some = bad_in span some

expr_keeps : (place : ExprPlace) → Keeps (λ s. (expr_in place s).faults)
expr_keeps expr_place.Action s from to o = o.expr
expr_keeps expr_place.Metric s from to o = o.metric

term_in : (place : ExprPlace) (span : Span) (head : Seen) (parts : List Seen) → span.start < span.end → Row span.start (head ∷ parts) span.end → IsIn span (term_expr place span (head ∷ parts))
term_in expr_place.Action span head parts some row = call_in_list span (head ∷ parts) some row
term_in expr_place.Metric span head [] some row =
    by_test (IsIn span) (has_text (codes "total-time") head.face) (said (x.TotalTime (span_of head.face))) (mapped function_expr (call_at span (head ∷ []))) (λ is. none_in span some) (λ is. call_in_list span (head ∷ []) some row)
term_in expr_place.Metric span head (p ∷ ps) some row = call_in_list span (head ∷ p ∷ ps) some row

sum_in : (place : ExprPlace) (span : Span) (parts : List Seen) → span.start < span.end → Row span.start parts span.end → IsIn span (sum_expr place span parts)
sum_in place span [] some row = bad_in span some
sum_in place span (a ∷ []) some row = bad_in span some
sum_in place span (a ∷ b ∷ rest) some row = each_within (expr_in place) (expr_keeps place) span.start (a ∷ b ∷ rest) span.end row

product_in : (place : ExprPlace) (span : Span) (parts : List Seen) → span.start < span.end → Row span.start parts span.end → IsIn span (product_expr place span parts)
product_in place span [] some row = bad_in span some
product_in place span (a ∷ []) some row = bad_in span some
product_in place span (a ∷ b ∷ rest) some row = each_within (expr_in place) (expr_keeps place) span.start (a ∷ b ∷ rest) span.end row

minus_in : (place : ExprPlace) (span : Span) (parts : List Seen) → span.start < span.end → Row span.start parts span.end → IsIn span (minus_expr place span parts)
minus_in place span [] some row = bad_in span some
minus_in place span (a ∷ []) some row = one_within (λ s. (expr_in place s).faults) (expr_keeps place) span.start a span.end row
minus_in place span (a ∷ b ∷ []) some row = two_within (λ s. (expr_in place s).faults) (λ s. (expr_in place s).faults) (expr_keeps place) (expr_keeps place) span.start a b span.end row
minus_in place span (a ∷ b ∷ d ∷ rest) some row = bad_in span some

quotient_in : (place : ExprPlace) (span : Span) (parts : List Seen) → span.start < span.end → Row span.start parts span.end → IsIn span (quotient_expr place span parts)
quotient_in place span [] some row = bad_in span some
quotient_in place span (a ∷ []) some row = bad_in span some
quotient_in place span (a ∷ b ∷ []) some row = two_within (λ s. (expr_in place s).faults) (λ s. (expr_in place s).faults) (expr_keeps place) (expr_keeps place) span.start a b span.end row
quotient_in place span (a ∷ b ∷ d ∷ rest) some row = bad_in span some

expr_by_in : (h : ExprHead) (place : ExprPlace) (span : Span) (head : Seen) (parts : List Seen) → span.start < span.end → Row span.start (head ∷ parts) span.end → IsIn span (expr_by h place span head parts)
expr_by_in expr.Sum place span head parts some row = sum_in place span parts some (row_tail span.start head parts span.end row)
expr_by_in expr.Product place span head parts some row = product_in place span parts some (row_tail span.start head parts span.end row)
expr_by_in expr.Minus place span head parts some row = minus_in place span parts some (row_tail span.start head parts span.end row)
expr_by_in expr.Quotient place span head parts some row = quotient_in place span parts some (row_tail span.start head parts span.end row)
expr_by_in expr.Other place span head parts some row = term_in place span head parts some row

pub list_expr_in : (place : ExprPlace) (span : Span) (items : List Seen) → span.start < span.end → Row span.start items span.end → IsIn span (list_expr place span items)
list_expr_in place span [] some row = bad_in span some
list_expr_in place span (head ∷ parts) some row = expr_by_in (expr_head_of head.face) place span head parts some row

-- Conditions

cond_keeps : Keeps (λ s. s.cond.faults)
cond_keeps s from to o = o.cond

plain_keeps : Keeps (λ s. s.expr.faults)
plain_keeps s from to o = o.expr

variables_keep : Keeps (λ s. s.variables.faults)
variables_keep s from to o = o.variables

not_in : (span : Span) (parts : List Seen) → span.start < span.end → Row span.start parts span.end → IsIn span (not_cond span parts)
not_in span [] some row = bad_in span some
not_in span (a ∷ []) some row = one_within (λ s. s.cond.faults) cond_keeps span.start a span.end row
not_in span (a ∷ b ∷ rest) some row = bad_in span some

imply_in : (span : Span) (parts : List Seen) → span.start < span.end → Row span.start parts span.end → IsIn span (imply_cond span parts)
imply_in span [] some row = bad_in span some
imply_in span (a ∷ []) some row = bad_in span some
imply_in span (a ∷ b ∷ []) some row = two_within (λ s. s.cond.faults) (λ s. s.cond.faults) cond_keeps cond_keeps span.start a b span.end row
imply_in span (a ∷ b ∷ d ∷ rest) some row = bad_in span some

all_in : (span : Span) (parts : List Seen) → span.start < span.end → Row span.start parts span.end → IsIn span (all_cond span parts)
all_in span [] some row = bad_in span some
all_in span (a ∷ []) some row = bad_in span some
all_in span (a ∷ b ∷ []) some row = two_within (λ s. s.variables.faults) (λ s. s.cond.faults) variables_keep cond_keeps span.start a b span.end row
all_in span (a ∷ b ∷ d ∷ rest) some row = bad_in span some

any_in : (span : Span) (parts : List Seen) → span.start < span.end → Row span.start parts span.end → IsIn span (any_cond span parts)
any_in span [] some row = bad_in span some
any_in span (a ∷ []) some row = bad_in span some
any_in span (a ∷ b ∷ []) some row = two_within (λ s. s.variables.faults) (λ s. s.cond.faults) variables_keep cond_keeps span.start a b span.end row
any_in span (a ∷ b ∷ d ∷ rest) some row = bad_in span some

compare_in : (relation : Relation) (span : Span) (parts : List Seen) → span.start < span.end → Row span.start parts span.end → IsIn span (compare_cond relation span parts)
compare_in relation span [] some row = bad_in span some
compare_in relation span (a ∷ []) some row = bad_in span some
compare_in relation span (a ∷ b ∷ []) some row = two_within (λ s. s.expr.faults) (λ s. s.expr.faults) plain_keeps plain_keeps span.start a b span.end row
compare_in relation span (a ∷ b ∷ d ∷ rest) some row = bad_in span some

equal_by_in : (one other : Bool) (span : Span) (a b : Seen) → span.start < span.end → Row span.start (a ∷ b ∷ []) span.end → IsIn span (equal_by one other span a b)
equal_by_in true true span a b some row = two_within (λ s. (term_at s.face).faults) (λ s. (term_at s.face).faults) term_keeps term_keeps span.start a b span.end row
equal_by_in false false span a b some row = two_within (λ s. s.expr.faults) (λ s. s.expr.faults) plain_keeps plain_keeps span.start a b span.end row
equal_by_in true false span a b some row = bad_in span some
equal_by_in false true span a b some row = bad_in span some

equal_in : (span : Span) (parts : List Seen) → span.start < span.end → Row span.start parts span.end → IsIn span (equal_cond span parts)
equal_in span [] some row = bad_in span some
equal_in span (a ∷ []) some row = bad_in span some
equal_in span (a ∷ b ∷ []) some row = equal_by_in (is_term a.face) (is_term b.face) span a b some row
equal_in span (a ∷ b ∷ d ∷ rest) some row = bad_in span some

cond_by_in : (h : CondHead) (span : Span) (head : Seen) (parts : List Seen) → span.start < span.end → Row span.start (head ∷ parts) span.end → IsIn span (cond_by h span head parts)
cond_by_in cond.Not span head parts some row = not_in span parts some (row_tail span.start head parts span.end row)
cond_by_in cond.And span head parts some row = each_within (λ s. s.cond) cond_keeps span.start parts span.end (row_tail span.start head parts span.end row)
cond_by_in cond.Or span head parts some row = each_within (λ s. s.cond) cond_keeps span.start parts span.end (row_tail span.start head parts span.end row)
cond_by_in cond.Imply span head parts some row = imply_in span parts some (row_tail span.start head parts span.end row)
cond_by_in cond.All span head parts some row = all_in span parts some (row_tail span.start head parts span.end row)
cond_by_in cond.Any span head parts some row = any_in span parts some (row_tail span.start head parts span.end row)
cond_by_in cond.Equal span head parts some row = equal_in span parts some (row_tail span.start head parts span.end row)
cond_by_in (cond.Compare relation) span head parts some row = compare_in relation span parts some (row_tail span.start head parts span.end row)
cond_by_in cond.Preference span head parts some row = left_in span some
cond_by_in cond.Other span head parts some row = atom_in_list span (head ∷ parts) some row

pub list_cond_in : (span : Span) (items : List Seen) → span.start < span.end → Row span.start items span.end → IsIn span (list_cond span items)
list_cond_in span [] some row = none_in span some
list_cond_in span (head ∷ parts) some row = cond_by_in (cond_head_of head.face) span head parts some row

-- Effects

effect_keeps : (place : EffectPlace) → Keeps (λ s. (effect_in place s).faults)
effect_keeps effect_place.Action s from to o = o.effect
effect_keeps effect_place.When s from to o = o.inner

atom_keeps : Keeps (λ s. s.atom.faults)
atom_keeps s from to o = o.atom

call_keeps : Keeps (λ s. s.call.faults)
call_keeps s from to o = o.call

inner_keeps : Keeps (λ s. s.inner.faults)
inner_keeps s from to o = o.inner

delete_in : (span : Span) (parts : List Seen) → span.start < span.end → Row span.start parts span.end → IsIn span (not_effect span parts)
delete_in span [] some row = bad_in span some
delete_in span (a ∷ []) some row = one_within (λ s. s.atom.faults) atom_keeps span.start a span.end row
delete_in span (a ∷ b ∷ rest) some row = bad_in span some

each_in : (place : EffectPlace) (span : Span) (parts : List Seen) → span.start < span.end → Row span.start parts span.end → IsIn span (all_effect place span parts)
each_in place span [] some row = bad_in span some
each_in place span (a ∷ []) some row = bad_in span some
each_in place span (a ∷ b ∷ []) some row = two_within (λ s. s.variables.faults) (λ s. (effect_in place s).faults) variables_keep (effect_keeps place) span.start a b span.end row
each_in place span (a ∷ b ∷ d ∷ rest) some row = bad_in span some

when_in : (place : EffectPlace) (span : Span) (parts : List Seen) → span.start < span.end → Row span.start parts span.end → IsIn span (when_effect place span parts)
when_in effect_place.When span parts some row = left_in span some
when_in effect_place.Action span [] some row = bad_in span some
when_in effect_place.Action span (a ∷ []) some row = bad_in span some
when_in effect_place.Action span (a ∷ b ∷ []) some row = two_within (λ s. s.cond.faults) (λ s. s.inner.faults) cond_keeps inner_keeps span.start a b span.end row
when_in effect_place.Action span (a ∷ b ∷ d ∷ rest) some row = bad_in span some

change_in : (op : Op) (span : Span) (parts : List Seen) → span.start < span.end → Row span.start parts span.end → IsIn span (change_effect op span parts)
change_in op span [] some row = bad_in span some
change_in op span (a ∷ []) some row = bad_in span some
change_in op span (a ∷ b ∷ []) some row = two_within (λ s. s.call.faults) (λ s. s.expr.faults) call_keeps plain_keeps span.start a b span.end row
change_in op span (a ∷ b ∷ d ∷ rest) some row = bad_in span some

effect_by_in : (h : EffectHead) (place : EffectPlace) (span : Span) (head : Seen) (parts : List Seen) → span.start < span.end → Row span.start (head ∷ parts) span.end → IsIn span (effect_by h place span head parts)
effect_by_in effect.Not place span head parts some row = delete_in span parts some (row_tail span.start head parts span.end row)
effect_by_in effect.And place span head parts some row = each_within (effect_in place) (effect_keeps place) span.start parts span.end (row_tail span.start head parts span.end row)
effect_by_in effect.All place span head parts some row = each_in place span parts some (row_tail span.start head parts span.end row)
effect_by_in effect.When place span head parts some row = when_in place span parts some (row_tail span.start head parts span.end row)
effect_by_in (effect.Change op) place span head parts some row = change_in op span parts some (row_tail span.start head parts span.end row)
effect_by_in effect.Other place span head parts some row = atom_in_list span (head ∷ parts) some row

pub list_effect_in : (place : EffectPlace) (span : Span) (items : List Seen) → span.start < span.end → Row span.start items span.end → IsIn span (list_effect place span items)
list_effect_in place span [] some row = none_in span some
list_effect_in place span (head ∷ parts) some row = effect_by_in (effect_head_of head.face) place span head parts some row
