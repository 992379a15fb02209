-- What is said of expressions agrees with their forms.
use Rattle.std.proofs.Common.{◌≡◌, ℕ, ◌≤◌, List, [], ◌∷◌, length, map, refl, ap, sym, ◌∙◌, subst, inl, inr, codes, arith}
use Rattle.std.specs.List.{AllByRecursion}
use Rattle.mf_model.proofs.Choices.{if_false, if_true}
use Rattle.mf_model.specs.declared.token.Kind.TheVariants.{Name, Number}
use Rattle.mf_model.specs.declared.token.Span.{Span}
use Rattle.mf_model.specs.declared.tree.Tree.{Tree}
use Rattle.mf_model.specs.declared.form.Word.{Word}
use Rattle.mf_model.specs.declared.form.RawExpr.{RawExpr, roll-RawExpr}
use Rattle.mf_model.specs.declared.form.RawExpr.TheVariants as x
use Rattle.mf_model.specs.declared.form.RawExpr.TheViews.{out-RawExpr, roll-out-RawExpr}
use Rattle.mf_model.specs.declared.form.RawExpr.TheOpen.{RawExpr-F}
use Rattle.mf_model.specs.Forms.{IsList, IsWord, Each}
use Rattle.mf_reader.specs.declared.atoms.CallForm.{CallForm}
use Rattle.mf_reader.specs.declared.heads.ExprHead.{ExprHead}
use Rattle.mf_reader.specs.declared.heads.ExprHead.TheVariants.{Sum, Product, Minus, Quotient, Other}
use Rattle.mf_reader.specs.declared.places.ExprPlace.{ExprPlace}
use Rattle.mf_reader.specs.declared.places.ExprPlace.TheVariants.{Action, Metric}
use Rattle.mf_reader.specs.Said.{said, mapped, each}
use Rattle.mf_reader.specs.Faces.{word, has_text, span_of}
use Rattle.mf_reader.specs.Heads.{expr_head, expr_head_of}
use Rattle.mf_reader.specs.Places.{expr_in}
use Rattle.mf_reader.specs.Seen.{seen}
use Rattle.mf_reader.specs.Atoms.{call_at}
use Rattle.mf_reader.specs.Expressions.{function_expr, term_expr, sum_expr, product_expr, expr_by}
use Rattle.mf_reader.specs.GrammarTerms.{IsListed}
use Rattle.mf_reader.specs.GrammarExpressions.{IsExpr, IsMetricExpr}
use Rattle.mf_reader.proofs.Branches.{seen_leaf, seen_branch, Below, by_parts, parts_below}
use Rattle.mf_reader.proofs.Readings.{Reads, both_said, mapped_said, each_complete}
use Rattle.mf_reader.proofs.WordReadings.{face_leaf, text_complete, text_not}
use Rattle.mf_reader.proofs.AtomReadings.{call_at_complete}
use Rattle.mf_reader.proofs.HeadReadings.{expr_head_at, expr_other}
use Rattle.mf_reader.proofs.ExprRows.{IsTimeIn, ExprIn, RowIn, row_of}
use Rattle.mf_reader.proofs.ExprSound.{ExprReads, expr_in_word, expr_in_list, expr_sound, head_place}

plus_head : expr_head (codes "+") ≡ Sum
unfolding expr_head
plus_head = refl

times_head : expr_head (codes "*") ≡ Product
unfolding expr_head
times_head = refl

minus_head : expr_head (codes "-") ≡ Minus
unfolding expr_head
minus_head = refl

over_head : expr_head (codes "/") ≡ Quotient
unfolding expr_head
over_head = refl

time_head : expr_head (codes "total-time") ≡ Other
unfolding expr_head
time_head = refl

-- a list is read by its head
opened : (place : ExprPlace) (head : Tree) (parts : List Tree) (span : Span) (t : Tree) (h : ExprHead) → IsList (head ∷ parts) span t → expr_head_of (seen head).face ≡ h → expr_in place (seen t) ≡ expr_by h place span (seen head) (map seen parts)
opened place head parts span t h list is =
    ap (expr_in place) (seen_branch (head ∷ parts) span t list)
    ∙ expr_in_list place span (map seen (head ∷ parts))
    ∙ ap (λ (v : ExprHead). expr_by v place span (seen head) (map seen parts)) is

listed : (place : ExprPlace) (text : List ℕ) (parts : List Tree) (span : Span) (t : Tree) (h : ExprHead) → expr_head text ≡ h → (is : IsListed text parts span t) → expr_in place (seen t) ≡ expr_by h place span (seen is.0) (map seen parts)
listed place text parts span t h e is = opened place is.0 parts span t h is.1 (expr_head_at text is.0 is.2 ∙ e)

sum_complete : (place : ExprPlace) (span : Span) (parts : List Tree) (vs : List RawExpr) → 2 ≤ length parts → AllByRecursion (ExprReads place) parts → Each (ExprIn place) vs parts → sum_expr place span (map seen parts) ≡ said (x.Sum vs span)
sum_complete place span [] vs two all h = absurd (omega (arith, two))
sum_complete place span (a ∷ []) vs two all h = absurd (omega (arith, two))
sum_complete place span (a ∷ b ∷ rest) vs two all h = mapped_said (λ parts. x.Sum parts span) (each (expr_in place) (map seen (a ∷ b ∷ rest))) vs (each_complete (expr_in place) (ExprIn place) (a ∷ b ∷ rest) all vs h)

product_complete : (place : ExprPlace) (span : Span) (parts : List Tree) (vs : List RawExpr) → 2 ≤ length parts → AllByRecursion (ExprReads place) parts → Each (ExprIn place) vs parts → product_expr place span (map seen parts) ≡ said (x.Product vs span)
product_complete place span [] vs two all h = absurd (omega (arith, two))
product_complete place span (a ∷ []) vs two all h = absurd (omega (arith, two))
product_complete place span (a ∷ b ∷ rest) vs two all h = mapped_said (λ parts. x.Product parts span) (each (expr_in place) (map seen (a ∷ b ∷ rest))) vs (each_complete (expr_in place) (ExprIn place) (a ∷ b ∷ rest) all vs h)

term_is_call : (place : ExprPlace) (head : Tree) (parts : List Tree) (span : Span) (t : Tree) → IsList (head ∷ parts) span t → ((time : Span) → ¬ IsTimeIn place time t) → term_expr place span (map seen (head ∷ parts)) ≡ mapped function_expr (call_at span (map seen (head ∷ parts)))
term_is_call Action head parts span t list lacks = refl
term_is_call Metric head (p ∷ ps) span t list lacks = refl
term_is_call Metric head [] span t list lacks =
    if_false (has_text (codes "total-time") (seen head).face) (said (x.TotalTime (span_of (seen head).face))) (mapped function_expr (call_at span (map seen (head ∷ []))))
    (text_not (codes "total-time") head (λ word. lacks word.1 (inr (span, head, word.0, list, word.2))))

time_complete : (place : ExprPlace) (span : Span) (t : Tree) → IsTimeIn place span t → expr_in place (seen t) ≡ said (x.TotalTime span)
time_complete Action span t h = absurd h
time_complete Metric span t h = elim h [
  | inl leaf ↦ ap (expr_in Metric) (seen_leaf Name (codes "total-time") span t leaf)
  | inr h ↦ (let word : IsWord (codes "total-time") h.1 = (h.2, span, h.4) in
      listed Metric (codes "total-time") [] h.0 t Other time_head (h.1, h.3, word)
      ∙ if_true (has_text (codes "total-time") (seen h.1).face) (said (x.TotalTime (span_of (seen h.1).face))) (mapped function_expr (call_at h.0 (map seen (h.1 ∷ [])))) (text_complete (codes "total-time") h.1 word)
      ∙ ap (λ (s : Span). said (x.TotalTime s)) (head_place h.2 (codes "total-time") span h.1 h.4))
]

number_word : (w : Word) (span : Span) → w.span ≡ span → word w.text span ≡ w
number_word w span e = ap (λ (s : Span). word w.text s) (sym e)

layer_complete : (place : ExprPlace) (t : Tree) → Below (ExprReads place) t → (y : RawExpr-F RawExpr) → RowIn place y t → expr_in place (seen t) ≡ said (roll-RawExpr y)
layer_complete place t below (RawExpr-F.Number w span) h =
    ap (expr_in place) (seen_leaf Number w.text span t h.0)
    ∙ expr_in_word place Number w.text span
    ∙ ap (λ (v : Word). said (x.Number v span)) (number_word w span h.1)
    ∙ ap said (sym (x.rolls-Number w span))
layer_complete place t below (RawExpr-F.Function f ts span) h =
    let call = h.0.call in
    let form : CallForm = record { function = f; terms = ts; span = span } in
    opened place call.head call.parts span t Other call.list (ap expr_head_of (face_leaf Name f.text f.span call.head call.named) ∙ expr_other f.text h.0.other)
    ∙ term_is_call place call.head call.parts span t call.list h.1
    ∙ mapped_said function_expr (call_at span (map seen (call.head ∷ call.parts))) form (call_at_complete form t call)
    ∙ ap said (sym (x.rolls-Function f ts span))
layer_complete place t below (RawExpr-F.Sum vs span) h =
    listed place (codes "+") h.parts span t Sum plus_head h.list
    ∙ sum_complete place span h.parts vs h.two (parts_below (ExprReads place) (codes "+") h.parts span t below h.list) h.are_parts
    ∙ ap said (sym (x.rolls-Sum vs span))
layer_complete place t below (RawExpr-F.Difference v w span) h =
    let all = parts_below (ExprReads place) (codes "-") (h.left ∷ h.right ∷ []) span t below h.list in
    listed place (codes "-") (h.left ∷ h.right ∷ []) span t Minus minus_head h.list
    ∙ both_said (λ left right. x.Difference left right span) (expr_in place (seen h.left)) (expr_in place (seen h.right)) v w (all.0.complete v h.is_left) (all.1.0.complete w h.is_right)
    ∙ ap said (sym (x.rolls-Difference v w span))
layer_complete place t below (RawExpr-F.Negative v span) h =
    let all = parts_below (ExprReads place) (codes "-") (h.part ∷ []) span t below h.list in
    listed place (codes "-") (h.part ∷ []) span t Minus minus_head h.list
    ∙ mapped_said (λ part. x.Negative part span) (expr_in place (seen h.part)) v (all.0.complete v h.is_part)
    ∙ ap said (sym (x.rolls-Negative v span))
layer_complete place t below (RawExpr-F.Product vs span) h =
    listed place (codes "*") h.parts span t Product times_head h.list
    ∙ product_complete place span h.parts vs h.two (parts_below (ExprReads place) (codes "*") h.parts span t below h.list) h.are_parts
    ∙ ap said (sym (x.rolls-Product vs span))
layer_complete place t below (RawExpr-F.Quotient v w span) h =
    let all = parts_below (ExprReads place) (codes "/") (h.left ∷ h.right ∷ []) span t below h.list in
    listed place (codes "/") (h.left ∷ h.right ∷ []) span t Quotient over_head h.list
    ∙ both_said (λ left right. x.Quotient left right span) (expr_in place (seen h.left)) (expr_in place (seen h.right)) v w (all.0.complete v h.is_left) (all.1.0.complete w h.is_right)
    ∙ ap said (sym (x.rolls-Quotient v w span))
layer_complete place t below (RawExpr-F.TotalTime span) h = time_complete place span t h ∙ ap said (sym (x.rolls-TotalTime span))

complete : (place : ExprPlace) (t : Tree) → Below (ExprReads place) t → (v : RawExpr) → ExprIn place v t → expr_in place (seen t) ≡ said v
complete place t below v =
    subst (λ (z : RawExpr). ExprIn place z t → expr_in place (seen t) ≡ said z) (roll-out-RawExpr v)
    (λ h. layer_complete place t below (out-RawExpr v) (row_of place (out-RawExpr v) t h))

pub expr_in_reads : (place : ExprPlace) (t : Tree) → ExprReads place t
expr_in_reads place = by_parts (ExprReads place) (λ t below. record { sound = expr_sound place t below; complete = complete place t below })

pub expr_reads : (t : Tree) → Reads (λ s. s.expr) IsExpr t
expr_reads t = let r = expr_in_reads Action t in record { sound = r.sound; complete = r.complete }

pub metric_reads : (t : Tree) → Reads (λ s. s.metric) IsMetricExpr t
metric_reads t = let r = expr_in_reads Metric t in record { sound = r.sound; complete = r.complete }
