-- What is said of conditions agrees with their forms.
use Rattle.std.proofs.Common.{◌≡◌, ℕ, true, false, List, [], ◌∷◌, map, refl, ap, sym, ◌∙◌, subst, inl, inr, codes}
use Rattle.std.specs.List.{AllByRecursion}
use Rattle.mf_model.specs.declared.task.Relation.{Relation}
use Rattle.mf_model.specs.declared.task.Relation.TheVariants.{Less, AtMost, Equal, AtLeast, More}
use Rattle.mf_model.specs.declared.token.Kind.{Kind}
use Rattle.mf_model.specs.declared.token.Kind.TheVariants.{Left, Right, Name, Variable, Keyword, Number, Sign, Plain}
use Rattle.mf_model.specs.declared.token.Span.{Span}
use Rattle.mf_model.specs.declared.tree.Tree.{Tree}
use Rattle.mf_model.specs.declared.form.Word.{Word}
use Rattle.mf_model.specs.declared.form.RawExpr.{RawExpr}
use Rattle.mf_model.specs.declared.form.RawCond.{RawCond, roll-RawCond}
use Rattle.mf_model.specs.declared.form.RawCond.TheVariants as c
use Rattle.mf_model.specs.declared.form.RawCond.TheViews.{out-RawCond, roll-out-RawCond}
use Rattle.mf_model.specs.declared.form.RawCond.TheOpen.{RawCond-F}
use Rattle.mf_model.specs.Forms.{IsList, IsTerm, Each}
use Rattle.mf_reader.specs.declared.atoms.AtomForm.{AtomForm}
use Rattle.mf_reader.specs.declared.heads.CondHead.{CondHead}
use Rattle.mf_reader.specs.declared.heads.CondHead.TheVariants as head
use Rattle.mf_reader.specs.Said.{said, both, mapped, each}
use Rattle.mf_reader.specs.Faces.{is_term, term_at}
use Rattle.mf_reader.specs.Heads.{cond_head, cond_head_of}
use Rattle.mf_reader.specs.Places.{Seen}
use Rattle.mf_reader.specs.Seen.{seen, seen_word}
use Rattle.mf_reader.specs.Atoms.{atom_at}
use Rattle.mf_reader.specs.Conditions.{atom_cond, equal_by, cond_by}
use Rattle.mf_reader.specs.GrammarTerms.{IsListed}
use Rattle.mf_reader.specs.GrammarExpressions.{IsPair, IsExpr}
use Rattle.mf_reader.specs.GrammarConditions.{relation_word, IsAtomCond, IsRow, IsCond}
use Rattle.mf_reader.proofs.Branches.{seen_leaf, seen_branch, by_cases, Below, by_parts, parts_below}
use Rattle.mf_reader.proofs.Readings.{faulty_is, both_said, mapped_said, each_complete}
use Rattle.mf_reader.proofs.WordReadings.{face_leaf, term_complete, is_term_of}
use Rattle.mf_reader.proofs.TypedReadings.{variable_list_reads}
use Rattle.mf_reader.proofs.AtomReadings.{atom_at_complete}
use Rattle.mf_reader.proofs.HeadReadings.{cond_head_at, cond_other}
use Rattle.mf_reader.proofs.ExprReadings.{expr_reads}
use Rattle.mf_reader.proofs.CondSound.{CondReads, CondRow, cond_row_of, conds, cond_sound}

-- Heads

not_head : cond_head (codes "not") ≡ head.Not
unfolding cond_head
not_head = refl

and_head : cond_head (codes "and") ≡ head.And
unfolding cond_head
and_head = refl

or_head : cond_head (codes "or") ≡ head.Or
unfolding cond_head
or_head = refl

imply_head : cond_head (codes "imply") ≡ head.Imply
unfolding cond_head
imply_head = refl

all_head : cond_head (codes "forall") ≡ head.All
unfolding cond_head
all_head = refl

any_head : cond_head (codes "exists") ≡ head.Any
unfolding cond_head
any_head = refl

equal_head : cond_head (codes "=") ≡ head.Equal
unfolding cond_head
equal_head = refl

less_head : cond_head (codes "<") ≡ head.Compare Less
unfolding cond_head
less_head = refl

at_most_head : cond_head (codes "<=") ≡ head.Compare AtMost
unfolding cond_head
at_most_head = refl

at_least_head : cond_head (codes ">=") ≡ head.Compare AtLeast
unfolding cond_head
at_least_head = refl

more_head : cond_head (codes ">") ≡ head.Compare More
unfolding cond_head
more_head = refl

opened : (h : Tree) (parts : List Tree) (span : Span) (t : Tree) (kind : CondHead) → IsList (h ∷ parts) span t → cond_head_of (seen h).face ≡ kind → (seen t).cond ≡ cond_by kind span (seen h) (map seen parts)
opened h parts span t kind list is =
    ap (λ (s : Seen). s.cond) (seen_branch (h ∷ parts) span t list)
    ∙ ap (λ (v : CondHead). cond_by v span (seen h) (map seen parts)) is

listed : (text : List ℕ) (parts : List Tree) (span : Span) (t : Tree) (kind : CondHead) → cond_head text ≡ kind → (is : IsListed text parts span t) → (seen t).cond ≡ cond_by kind span (seen is.0) (map seen parts)
listed text parts span t kind e is = opened is.0 parts span t kind is.1 (cond_head_at text is.0 is.2 ∙ e)

-- An expression is no term

term_word : (kind : Kind) (text : List ℕ) (span : Span) (t : Tree) (v : RawExpr) → seen t ≡ seen_word kind text span → (seen t).expr ≡ said v → is_term (seen t).face ≡ false
term_word kind text span t v is = subst (λ (s : Seen). s.expr ≡ said v → is_term s.face ≡ false) (sym is) (word_by kind)
  where
    word_by : (kind : Kind) → (seen_word kind text span).expr ≡ said v → is_term (seen_word kind text span).face ≡ false
    word_by Name e = faulty_is _ _ _ e
    word_by Variable e = faulty_is _ _ _ e
    word_by Left e = refl
    word_by Right e = refl
    word_by Keyword e = refl
    word_by Number e = refl
    word_by Sign e = refl
    word_by Plain e = refl

no_term : (t : Tree) (v : RawExpr) → (seen t).expr ≡ said v → is_term (seen t).face ≡ false
no_term t v = by_cases (λ t. (seen t).expr ≡ said v → is_term (seen t).face ≡ false)
    (λ kind text span t leaf. term_word kind text span t v (seen_leaf kind text span t leaf))
    (λ items span t list e. ap (λ (s : Seen). is_term s.face) (seen_branch items span t list)) t

-- Rows

all_conds : (parts : List Tree) (vs : List RawCond) → AllByRecursion CondReads parts → Each IsCond vs parts → conds (map seen parts) ≡ said vs
all_conds parts vs all h = each_complete (λ s. s.cond) IsCond parts all vs h

row_complete : (text : List ℕ) (f : List RawCond → RawCond) (vs : List RawCond) (span : Span) (t : Tree) → Below CondReads t → (h : IsRow text (Each IsCond vs) span t) → mapped f (each (λ s. s.cond) (map seen h.0)) ≡ said (f vs)
row_complete text f vs span t below h = mapped_said f (conds (map seen h.0)) vs (all_conds h.0 vs (parts_below CondReads text h.0 span t below h.1) h.2)

compared : (relation : Relation) (v w : RawExpr) (span : Span) (a b : Tree) → IsExpr v a → IsExpr w b → both (λ left right. c.Compare relation left right span) (seen a).expr (seen b).expr ≡ said (c.Compare relation v w span)
compared relation v w span a b one other = both_said (λ left right. c.Compare relation left right span) (seen a).expr (seen b).expr v w ((expr_reads a).complete v one) ((expr_reads b).complete w other)

compare_complete : (relation : Relation) (v w : RawExpr) (span : Span) (t : Tree) → IsPair (relation_word relation) (IsExpr v) (IsExpr w) span t → (seen t).cond ≡ said (c.Compare relation v w span)
compare_complete Less v w span t h = listed (codes "<") (h.left ∷ h.right ∷ []) span t (head.Compare Less) less_head h.list ∙ compared Less v w span h.left h.right h.is_left h.is_right
compare_complete AtMost v w span t h = listed (codes "<=") (h.left ∷ h.right ∷ []) span t (head.Compare AtMost) at_most_head h.list ∙ compared AtMost v w span h.left h.right h.is_left h.is_right
compare_complete AtLeast v w span t h = listed (codes ">=") (h.left ∷ h.right ∷ []) span t (head.Compare AtLeast) at_least_head h.list ∙ compared AtLeast v w span h.left h.right h.is_left h.is_right
compare_complete More v w span t h = listed (codes ">") (h.left ∷ h.right ∷ []) span t (head.Compare More) more_head h.list ∙ compared More v w span h.left h.right h.is_left h.is_right
compare_complete Equal v w span t h =
    listed (codes "=") (h.left ∷ h.right ∷ []) span t head.Equal equal_head h.list
    ∙ ap (λ b. equal_by b (is_term (seen h.right).face) span (seen h.left) (seen h.right)) (no_term h.left v ((expr_reads h.left).complete v h.is_left))
    ∙ ap (λ b. equal_by false b span (seen h.left) (seen h.right)) (no_term h.right w ((expr_reads h.right).complete w h.is_right))
    ∙ compared Equal v w span h.left h.right h.is_left h.is_right

same_complete : (v w : Word) (span : Span) (t : Tree) → IsPair (codes "=") (IsTerm v) (IsTerm w) span t → (seen t).cond ≡ said (c.Same v w span)
same_complete v w span t h =
    listed (codes "=") (h.left ∷ h.right ∷ []) span t head.Equal equal_head h.list
    ∙ ap (λ b. equal_by b (is_term (seen h.right).face) span (seen h.left) (seen h.right)) (is_term_of h.left v h.is_left)
    ∙ ap (λ b. equal_by true b span (seen h.left) (seen h.right)) (is_term_of h.right w h.is_right)
    ∙ both_said (λ left right. c.Same left right span) (term_at (seen h.left).face) (term_at (seen h.right).face) v w (term_complete h.left v h.is_left) (term_complete h.right w h.is_right)

atom_complete : (a : AtomForm) (t : Tree) → IsAtomCond a.predicate a.terms a.span t → (seen t).cond ≡ said (atom_cond a)
atom_complete a t h =
    let atom = h.atom in
    let p = a.predicate in
    opened atom.head atom.parts a.span t head.Other atom.list (ap cond_head_of (face_leaf Name p.text p.span atom.head atom.names.0) ∙ cond_other p.text atom.names.1 h.other)
    ∙ mapped_said atom_cond (atom_at a.span (map seen (atom.head ∷ atom.parts))) a (atom_at_complete a t atom)

layer_complete : (t : Tree) → Below CondReads t → (y : RawCond-F RawCond) → CondRow y t → (seen t).cond ≡ said (roll-RawCond y)
layer_complete t below (RawCond-F.Atom p ts span) h =
    let form : AtomForm = record { predicate = p; terms = ts; span = span } in
    atom_complete form t h ∙ ap said (sym (c.rolls-Atom p ts span))
layer_complete t below (RawCond-F.Same v w span) h = same_complete v w span t h ∙ ap said (sym (c.rolls-Same v w span))
layer_complete t below (RawCond-F.Compare relation v w span) h = compare_complete relation v w span t h ∙ ap said (sym (c.rolls-Compare relation v w span))
layer_complete t below (RawCond-F.Not v span) h =
    let all = parts_below CondReads (codes "not") (h.part ∷ []) span t below h.list in
    listed (codes "not") (h.part ∷ []) span t head.Not not_head h.list
    ∙ mapped_said (λ part. c.Not part span) (seen h.part).cond v (all.0.complete v h.is_part)
    ∙ ap said (sym (c.rolls-Not v span))
layer_complete t below (RawCond-F.And vs span) h = elim h [
  | inl row ↦ listed (codes "and") row.0 span t head.And and_head row.1
      ∙ row_complete (codes "and") (λ conds. c.And conds span) vs span t below row
      ∙ ap said (sym (c.rolls-And vs span))
  | inr none ↦ ap (λ (s : Seen). s.cond) (seen_branch [] span t none.0) ∙ empty_and vs span none.1
]
  where
    empty_and : (vs : List RawCond) (span : Span) → Each IsCond vs [] → said (c.And [] span) ≡ said (roll-RawCond (RawCond-F.And vs span))
    empty_and [] span h = ap said (sym (c.rolls-And [] span))
    empty_and (v ∷ vs) span h = absurd h
layer_complete t below (RawCond-F.Or vs span) h =
    listed (codes "or") h.0 span t head.Or or_head h.1
    ∙ row_complete (codes "or") (λ conds. c.Or conds span) vs span t below h
    ∙ ap said (sym (c.rolls-Or vs span))
layer_complete t below (RawCond-F.Imply v w span) h =
    let all = parts_below CondReads (codes "imply") (h.left ∷ h.right ∷ []) span t below h.list in
    listed (codes "imply") (h.left ∷ h.right ∷ []) span t head.Imply imply_head h.list
    ∙ both_said (λ left right. c.Imply left right span) (seen h.left).cond (seen h.right).cond v w (all.0.complete v h.is_left) (all.1.0.complete w h.is_right)
    ∙ ap said (sym (c.rolls-Imply v w span))
layer_complete t below (RawCond-F.All vs w span) h =
    let all = parts_below CondReads (codes "forall") (h.left ∷ h.right ∷ []) span t below h.list in
    listed (codes "forall") (h.left ∷ h.right ∷ []) span t head.All all_head h.list
    ∙ both_said (λ variables part. c.All variables part span) (seen h.left).variables (seen h.right).cond vs w ((variable_list_reads h.left).complete vs h.is_left) (all.1.0.complete w h.is_right)
    ∙ ap said (sym (c.rolls-All vs w span))
layer_complete t below (RawCond-F.Any vs w span) h =
    let all = parts_below CondReads (codes "exists") (h.left ∷ h.right ∷ []) span t below h.list in
    listed (codes "exists") (h.left ∷ h.right ∷ []) span t head.Any any_head h.list
    ∙ both_said (λ variables part. c.Any variables part span) (seen h.left).variables (seen h.right).cond vs w ((variable_list_reads h.left).complete vs h.is_left) (all.1.0.complete w h.is_right)
    ∙ ap said (sym (c.rolls-Any vs w span))

complete : (t : Tree) → Below CondReads t → (v : RawCond) → IsCond v t → (seen t).cond ≡ said v
complete t below v =
    subst (λ (z : RawCond). IsCond z t → (seen t).cond ≡ said z) (roll-out-RawCond v)
    (λ h. layer_complete t below (out-RawCond v) (cond_row_of (out-RawCond v) t h))

pub cond_reads : (t : Tree) → CondReads t
cond_reads = by_parts CondReads (λ t below. record { sound = cond_sound t below; complete = complete t below })
