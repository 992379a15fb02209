-- An expression that is said without a fault is of its form.
use Rattle.std.proofs.Common.{◌≡◌, ℕ, ◌≤◌, List, [], ◌∷◌, length, map, refl, ap, sym, ◌∙◌, subst, inl, inr, codes, arith}
use Rattle.std.specs.List.{AllByRecursion}
use Rattle.std.specs.Str.{bytes_eq}
use Rattle.mf_model.proofs.Choices.{same_text}
use Rattle.mf_model.specs.declared.token.Kind.{Kind}
use Rattle.mf_model.specs.declared.token.Kind.TheVariants.{Left, Right, Name, Variable, Keyword, Number, Sign, Plain}
use Rattle.mf_model.specs.declared.token.Span.{Span}
use Rattle.mf_model.specs.declared.tree.Tree.{Tree}
use Rattle.mf_model.specs.declared.form.RawExpr.{RawExpr}
use Rattle.mf_model.specs.declared.form.RawExpr.TheVariants as x
use Rattle.mf_model.specs.declared.form.RawExpr.TheOpen.{RawExpr-F}
use Rattle.mf_model.specs.Forms.{IsLeaf, IsList, IsWord, IsName}
use Rattle.mf_reader.specs.declared.atoms.CallForm.{CallForm}
use Rattle.mf_reader.specs.declared.heads.ExprHead.{ExprHead}
use Rattle.mf_reader.specs.declared.heads.ExprHead.TheVariants.{Sum, Product, Minus, Quotient, Other}
use Rattle.mf_reader.specs.declared.places.ExprPlace.{ExprPlace}
use Rattle.mf_reader.specs.declared.places.ExprPlace.TheVariants.{Action, Metric}
use Rattle.mf_reader.specs.Said.{Said, said, left_out, mapped, each}
use Rattle.mf_reader.specs.Faces.{word, has_text, span_of}
use Rattle.mf_reader.specs.Heads.{expr_head_of}
use Rattle.mf_reader.specs.Places.{Seen, expr_in}
use Rattle.mf_reader.specs.Seen.{seen, seen_word, seen_list}
use Rattle.mf_reader.specs.Atoms.{call_at}
use Rattle.mf_reader.specs.Expressions.{no_expr, name_expr, word_expr, function_expr, term_expr, sum_expr, product_expr, minus_expr, quotient_expr, expr_by, list_expr}
use Rattle.mf_reader.specs.GrammarExpressions.{IsTerms, IsTotalTime}
use Rattle.mf_reader.proofs.Branches.{seen_leaf, seen_branch, by_cases, Below, leaf_list, one_list}
use Rattle.mf_reader.proofs.Readings.{Reads, some_fault, none_of_both, each_sound}
use Rattle.mf_reader.proofs.Choices.{by_test}
use Rattle.mf_reader.proofs.WordReadings.{true_false, text_sound, text_complete}
use Rattle.mf_reader.proofs.AtomReadings.{CallIs, call_at_sound}
use Rattle.mf_reader.proofs.HeadReadings.{ExprWord, expr_word}
use Rattle.mf_reader.proofs.ExprRows.{IsTimeIn, ExprIn, by_row}

abbrev pub ExprReads : ExprPlace → Tree → Type 0
ExprReads place = Reads (expr_in place) (ExprIn place)

pub expr_in_word : (place : ExprPlace) (kind : Kind) (text : List ℕ) (span : Span) → expr_in place (seen_word kind text span) ≡ word_expr place kind text span
expr_in_word Action kind text span = refl
expr_in_word Metric kind text span = refl

pub expr_in_list : (place : ExprPlace) (span : Span) (items : List Seen) → expr_in place (seen_list span items) ≡ list_expr place span items
expr_in_list Action span items = refl
expr_in_list Metric span items = refl

-- Words

abbrev SoundAt : ExprPlace → Tree → Said RawExpr → Type 0
SoundAt place t r = r.faults ≡ [] → ExprIn place r.value t

time_sound : (place : ExprPlace) (span : Span) (t : Tree) → IsTimeIn place span t → ExprIn place (x.TotalTime span) t
time_sound place span t h = by_row place (RawExpr-F.TotalTime span) (x.TotalTime span) t (x.rolls-TotalTime span) h

name_sound : (place : ExprPlace) (text : List ℕ) (span : Span) (t : Tree) → IsLeaf Name text span t → SoundAt place t (name_expr place text span)
name_sound Action text span t leaf = λ e. some_fault _ _ e
name_sound Metric text span t leaf =
    by_test (SoundAt Metric t) (bytes_eq text (codes "total-time")) (said (x.TotalTime span)) (no_expr span)
    (λ is e. time_sound Metric span t (inl (subst (λ (v : List ℕ). IsLeaf Name v span t) (same_text text (codes "total-time") is) leaf)))
    (λ is e. some_fault _ _ e)

word_sound : (place : ExprPlace) (kind : Kind) (text : List ℕ) (span : Span) (t : Tree) → IsLeaf kind text span t → SoundAt place t (word_expr place kind text span)
word_sound place Number text span t leaf = λ e. by_row place (RawExpr-F.Number (word text span) span) (x.Number (word text span) span) t (x.rolls-Number (word text span) span) (leaf, refl)
word_sound place Plain text span t leaf = by_test (SoundAt place t) (bytes_eq text (codes "#t")) (left_out span (x.TotalTime span)) (no_expr span) (λ is e. some_fault _ _ e) (λ is e. some_fault _ _ e)
word_sound place Name text span t leaf = name_sound place text span t leaf
word_sound place Left text span t leaf = λ e. some_fault _ _ e
word_sound place Right text span t leaf = λ e. some_fault _ _ e
word_sound place Variable text span t leaf = λ e. some_fault _ _ e
word_sound place Keyword text span t leaf = λ e. some_fault _ _ e
word_sound place Sign text span t leaf = λ e. some_fault _ _ e

-- Lists

pub first_same : (a b : Tree) (ps qs : List Tree) → a ∷ ps ≡ b ∷ qs → a ≡ b
first_same a b ps qs e = cc

pub rest_same : (a b : Tree) (ps qs : List Tree) → a ∷ ps ≡ b ∷ qs → ps ≡ qs
rest_same a b ps qs e = cc

terms_sound : (a : CallForm) (head : Tree) (parts : List Tree) (span : Span) (t : Tree) → IsList (head ∷ parts) span t → ExprWord Other head → CallIs a t → IsTerms a.function a.terms a.span t
terms_sound a head parts span t list free call =
    let same = first_same call.head head call.parts parts (one_list (call.head ∷ call.parts) (head ∷ parts) a.span span t call.list list) in
    record { call = call; other = free a.function (subst (λ (z : Tree). IsName a.function z) same call.named) }

function_sound : (place : ExprPlace) (a : CallForm) (t : Tree) → IsTerms a.function a.terms a.span t → ((time : Span) → ¬ IsTimeIn place time t) → ExprIn place (function_expr a) t
function_sound place a t terms lacks = by_row place (RawExpr-F.Function a.function a.terms a.span) (function_expr a) t (x.rolls-Function a.function a.terms a.span) (terms, lacks)

-- a list of a head and parts is no time
pub long_time : {B : Type 0} (head p : Tree) (parts : List Tree) (span other : Span) (t : Tree) → IsList (head ∷ p ∷ parts) span t → IsTotalTime other t → B
long_time head p parts span other t list h = elim h [
  | inl leaf ↦ leaf_list Name (codes "total-time") other (head ∷ p ∷ parts) span t leaf list
  | inr listed ↦ some_fault p parts (rest_same head listed.1 (p ∷ parts) [] (one_list (head ∷ p ∷ parts) (listed.1 ∷ []) span listed.0 t list listed.3))
]

-- a list of a head alone is a time by its word
pub short_time : (head : Tree) (span other : Span) (t : Tree) → IsList (head ∷ []) span t → IsTotalTime other t → IsWord (codes "total-time") head
short_time head span other t list h = elim h [
  | inl leaf ↦ leaf_list Name (codes "total-time") other (head ∷ []) span t leaf list
  | inr listed ↦ subst (IsWord (codes "total-time")) (sym (first_same head listed.1 [] [] (one_list (head ∷ []) (listed.1 ∷ []) span listed.0 t list listed.3))) (listed.2, other, listed.4)
]

-- the place of a head word
pub head_place : (kind : Kind) (text : List ℕ) (span : Span) (head : Tree) → IsLeaf kind text span head → span_of (seen head).face ≡ span
head_place kind text span head leaf = ap (λ (v : Seen). span_of v.face) (seen_leaf kind text span head leaf)

-- a list of the word alone is a time, with the place of the word
abbrev TimeList : Span → Tree → Type 0
TimeList span t = (outer : Span) × (head : Tree) × (kind : Kind) × IsList (head ∷ []) outer t × IsLeaf kind (codes "total-time") span head

time_word : (head : Tree) (span : Span) (t : Tree) → IsList (head ∷ []) span t → IsWord (codes "total-time") head → TimeList (span_of (seen head).face) t
time_word head span t list (kind, place, leaf) =
    (span, head, kind, list, subst (λ (s : Span). IsLeaf kind (codes "total-time") s head) (sym (head_place kind (codes "total-time") place head leaf)) leaf)

term_sound : (place : ExprPlace) (head : Tree) (parts : List Tree) (span : Span) (t : Tree) → IsList (head ∷ parts) span t → ExprWord Other head → SoundAt place t (term_expr place span (map seen (head ∷ parts)))
term_sound Action head parts span t list free = λ e.
    let call = call_at_sound (head ∷ parts) span t list e in
    function_sound Action (call_at span (map seen (head ∷ parts))).value t (terms_sound _ head parts span t list free call) (λ s h. h)
term_sound Metric head [] span t list free =
    by_test (SoundAt Metric t) (has_text (codes "total-time") (seen head).face) (said (x.TotalTime (span_of (seen head).face))) (mapped function_expr (call_at span (map seen (head ∷ []))))
    (λ is e. time_sound Metric (span_of (seen head).face) t (inr (time_word head span t list (text_sound (codes "total-time") head is))))
    (λ is e. let call = call_at_sound (head ∷ []) span t list e in
    function_sound Metric (call_at span (map seen (head ∷ []))).value t (terms_sound _ head [] span t list free call)
    (λ s h. true_false (sym (text_complete (codes "total-time") head (short_time head span s t list h)) ∙ is)))
term_sound Metric head (p ∷ ps) span t list free = λ e.
    let call = call_at_sound (head ∷ p ∷ ps) span t list e in
    function_sound Metric (call_at span (map seen (head ∷ p ∷ ps))).value t (terms_sound _ head (p ∷ ps) span t list free call) (λ s h. long_time head p ps span s t list h)

two_of : (a b : Tree) (rest : List Tree) → 2 ≤ length (a ∷ b ∷ rest)
two_of a b rest = omega arith

sum_sound : (place : ExprPlace) (head : Tree) (parts : List Tree) (span : Span) (t : Tree) → IsList (head ∷ parts) span t → IsWord (codes "+") head → AllByRecursion (ExprReads place) parts → SoundAt place t (sum_expr place span (map seen parts))
sum_sound place head [] span t list is all = λ e. some_fault _ _ e
sum_sound place head (a ∷ []) span t list is all = λ e. some_fault _ _ e
sum_sound place head (a ∷ b ∷ rest) span t list is all = λ e.
    let vs = (each (expr_in place) (map seen (a ∷ b ∷ rest))).value in
    by_row place (RawExpr-F.Sum vs span) (x.Sum vs span) t (x.rolls-Sum vs span)
    (record { parts = a ∷ b ∷ rest; list = (head, list, is); two = two_of a b rest; are_parts = each_sound (expr_in place) (ExprIn place) (a ∷ b ∷ rest) all e })

product_sound : (place : ExprPlace) (head : Tree) (parts : List Tree) (span : Span) (t : Tree) → IsList (head ∷ parts) span t → IsWord (codes "*") head → AllByRecursion (ExprReads place) parts → SoundAt place t (product_expr place span (map seen parts))
product_sound place head [] span t list is all = λ e. some_fault _ _ e
product_sound place head (a ∷ []) span t list is all = λ e. some_fault _ _ e
product_sound place head (a ∷ b ∷ rest) span t list is all = λ e.
    let vs = (each (expr_in place) (map seen (a ∷ b ∷ rest))).value in
    by_row place (RawExpr-F.Product vs span) (x.Product vs span) t (x.rolls-Product vs span)
    (record { parts = a ∷ b ∷ rest; list = (head, list, is); two = two_of a b rest; are_parts = each_sound (expr_in place) (ExprIn place) (a ∷ b ∷ rest) all e })

minus_sound : (place : ExprPlace) (head : Tree) (parts : List Tree) (span : Span) (t : Tree) → IsList (head ∷ parts) span t → IsWord (codes "-") head → AllByRecursion (ExprReads place) parts → SoundAt place t (minus_expr place span (map seen parts))
minus_sound place head [] span t list is all = λ e. some_fault _ _ e
minus_sound place head (a ∷ []) span t list is all = λ e.
    let v = (expr_in place (seen a)).value in
    by_row place (RawExpr-F.Negative v span) (x.Negative v span) t (x.rolls-Negative v span)
    (record { part = a; list = (head, list, is); is_part = all.0.sound e })
minus_sound place head (a ∷ b ∷ []) span t list is all = λ e.
    let v = (expr_in place (seen a)).value in
    let w = (expr_in place (seen b)).value in
    let h = none_of_both (expr_in place (seen a)).faults (expr_in place (seen b)).faults e in
    by_row place (RawExpr-F.Difference v w span) (x.Difference v w span) t (x.rolls-Difference v w span)
    (record { left = a; right = b; list = (head, list, is); is_left = all.0.sound h.0; is_right = all.1.0.sound h.1 })
minus_sound place head (a ∷ b ∷ d ∷ rest) span t list is all = λ e. some_fault _ _ e

quotient_sound : (place : ExprPlace) (head : Tree) (parts : List Tree) (span : Span) (t : Tree) → IsList (head ∷ parts) span t → IsWord (codes "/") head → AllByRecursion (ExprReads place) parts → SoundAt place t (quotient_expr place span (map seen parts))
quotient_sound place head [] span t list is all = λ e. some_fault _ _ e
quotient_sound place head (a ∷ []) span t list is all = λ e. some_fault _ _ e
quotient_sound place head (a ∷ b ∷ []) span t list is all = λ e.
    let v = (expr_in place (seen a)).value in
    let w = (expr_in place (seen b)).value in
    let h = none_of_both (expr_in place (seen a)).faults (expr_in place (seen b)).faults e in
    by_row place (RawExpr-F.Quotient v w span) (x.Quotient v w span) t (x.rolls-Quotient v w span)
    (record { left = a; right = b; list = (head, list, is); is_left = all.0.sound h.0; is_right = all.1.0.sound h.1 })
quotient_sound place head (a ∷ b ∷ d ∷ rest) span t list is all = λ e. some_fault _ _ e

by_sound : (place : ExprPlace) (h : ExprHead) (head : Tree) (parts : List Tree) (span : Span) (t : Tree) → ExprWord h head → IsList (head ∷ parts) span t → AllByRecursion (ExprReads place) parts → SoundAt place t (expr_by h place span (seen head) (map seen parts))
by_sound place Sum head parts span t is list all = sum_sound place head parts span t list is all
by_sound place Product head parts span t is list all = product_sound place head parts span t list is all
by_sound place Minus head parts span t is list all = minus_sound place head parts span t list is all
by_sound place Quotient head parts span t is list all = quotient_sound place head parts span t list is all
by_sound place Other head parts span t is list all = term_sound place head parts span t list is

list_sound : (place : ExprPlace) (items : List Tree) (span : Span) (t : Tree) → IsList items span t → AllByRecursion (ExprReads place) items → SoundAt place t (list_expr place span (map seen items))
list_sound place [] span t list all = λ e. some_fault _ _ e
list_sound place (head ∷ parts) span t list all = by_sound place (expr_head_of (seen head).face) head parts span t (expr_word head) list all.1

pub expr_sound : (place : ExprPlace) (t : Tree) → Below (ExprReads place) t → SoundAt place t (expr_in place (seen t))
expr_sound place = by_cases (λ t. Below (ExprReads place) t → SoundAt place t (expr_in place (seen t)))
    (λ kind text span t leaf below. subst (SoundAt place t) (sym (ap (expr_in place) (seen_leaf kind text span t leaf) ∙ expr_in_word place kind text span)) (word_sound place kind text span t leaf))
    (λ items span t list below. subst (SoundAt place t) (sym (ap (expr_in place) (seen_branch items span t list) ∙ expr_in_list place span (map seen items))) (list_sound place items span t list (below items span list)))
