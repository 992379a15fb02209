-- What is said of words agrees with their forms.
use Rattle.std.proofs.Common.{◌≡◌, ℕ, Bool, true, false, if◌then◌else◌, Option, Some, None, List, [], refl, ap, sym, ◌∙◌, subst, inl, inr}
use Rattle.std.specs.Str.{bytes_eq}
use Rattle.std.proofs.lemmas.Slice.Eq.{bytes_eq-Decides}
use Rattle.std.proofs.lemmas.Option.{same_Some}
use Rattle.mf_model.proofs.Choices.{same_text}
use Rattle.mf_model.specs.declared.token.Kind.{Kind}
use Rattle.mf_model.specs.declared.token.Kind.TheVariants.{Left, Right, Name, Variable, Keyword, Number, Sign, Plain}
use Rattle.mf_model.specs.declared.token.Span.{Span}
use Rattle.mf_model.specs.declared.tree.Tree.{Tree}
use Rattle.mf_model.specs.declared.form.Word.{Word}
use Rattle.mf_model.specs.Forms.{IsLeaf, IsList, IsWord, IsName, IsVariable, IsTerm, IsPredicate}
use Rattle.mf_reader.specs.Said.{said}
use Rattle.mf_reader.specs.Faces.{Face, Leaf, Branch, has_text, word, name_at, variable_at, term_at, is_term}
use Rattle.mf_reader.specs.Heads.{is_reserved, function_of, predicate_of}
use Rattle.mf_reader.specs.Places.{Seen}
use Rattle.mf_reader.specs.Seen.{seen}
use Rattle.mf_reader.proofs.Branches.{seen_leaf, seen_branch, by_cases}
use Rattle.mf_reader.proofs.Readings.{Reads, some_fault}

pub face_leaf : (kind : Kind) (text : List ℕ) (span : Span) (t : Tree) → IsLeaf kind text span t → (seen t).face ≡ Leaf kind text span
face_leaf kind text span t h = ap (λ (s : Seen). s.face) (seen_leaf kind text span t h)

pub face_branch : (items : List Tree) (span : Span) (t : Tree) → IsList items span t → (seen t).face ≡ Branch span
face_branch items span t h = ap (λ (s : Seen). s.face) (seen_branch items span t h)

-- Names, variables, terms

name_leaf : (kind : Kind) (text : List ℕ) (span : Span) (t : Tree) → IsLeaf kind text span t → (name_at (Leaf kind text span)).faults ≡ [] → IsName (name_at (Leaf kind text span)).value t
name_leaf Name text span t h e = h
name_leaf Left text span t h e = some_fault _ _ e
name_leaf Right text span t h e = some_fault _ _ e
name_leaf Variable text span t h e = some_fault _ _ e
name_leaf Keyword text span t h e = some_fault _ _ e
name_leaf Number text span t h e = some_fault _ _ e
name_leaf Sign text span t h e = some_fault _ _ e
name_leaf Plain text span t h e = some_fault _ _ e

name_complete : (t : Tree) (w : Word) → IsName w t → name_at (seen t).face ≡ said w
name_complete t w h = ap name_at (face_leaf Name w.text w.span t h)

pub name_reads : (t : Tree) → Reads (λ s. name_at s.face) IsName t
name_reads t = record {
  sound = by_cases (λ t. (name_at (seen t).face).faults ≡ [] → IsName (name_at (seen t).face).value t)
      (λ kind text span t h. subst (λ (f : Face). (name_at f).faults ≡ [] → IsName (name_at f).value t) (sym (face_leaf kind text span t h)) (name_leaf kind text span t h))
      (λ items span t h. subst (λ (f : Face). (name_at f).faults ≡ [] → IsName (name_at f).value t) (sym (face_branch items span t h)) (λ e. some_fault _ _ e)) t;
  complete = name_complete t;
}

variable_leaf : (kind : Kind) (text : List ℕ) (span : Span) (t : Tree) → IsLeaf kind text span t → (variable_at (Leaf kind text span)).faults ≡ [] → IsVariable (variable_at (Leaf kind text span)).value t
variable_leaf Variable text span t h e = h
variable_leaf Left text span t h e = some_fault _ _ e
variable_leaf Right text span t h e = some_fault _ _ e
variable_leaf Name text span t h e = some_fault _ _ e
variable_leaf Keyword text span t h e = some_fault _ _ e
variable_leaf Number text span t h e = some_fault _ _ e
variable_leaf Sign text span t h e = some_fault _ _ e
variable_leaf Plain text span t h e = some_fault _ _ e

variable_complete : (t : Tree) (w : Word) → IsVariable w t → variable_at (seen t).face ≡ said w
variable_complete t w h = ap variable_at (face_leaf Variable w.text w.span t h)

pub variable_reads : (t : Tree) → Reads (λ s. variable_at s.face) IsVariable t
variable_reads t = record {
  sound = by_cases (λ t. (variable_at (seen t).face).faults ≡ [] → IsVariable (variable_at (seen t).face).value t)
      (λ kind text span t h. subst (λ (f : Face). (variable_at f).faults ≡ [] → IsVariable (variable_at f).value t) (sym (face_leaf kind text span t h)) (variable_leaf kind text span t h))
      (λ items span t h. subst (λ (f : Face). (variable_at f).faults ≡ [] → IsVariable (variable_at f).value t) (sym (face_branch items span t h)) (λ e. some_fault _ _ e)) t;
  complete = variable_complete t;
}

term_leaf : (kind : Kind) (text : List ℕ) (span : Span) (t : Tree) → IsLeaf kind text span t → (term_at (Leaf kind text span)).faults ≡ [] → IsTerm (term_at (Leaf kind text span)).value t
term_leaf Name text span t h e = inl h
term_leaf Variable text span t h e = inr h
term_leaf Left text span t h e = some_fault _ _ e
term_leaf Right text span t h e = some_fault _ _ e
term_leaf Keyword text span t h e = some_fault _ _ e
term_leaf Number text span t h e = some_fault _ _ e
term_leaf Sign text span t h e = some_fault _ _ e
term_leaf Plain text span t h e = some_fault _ _ e

pub term_complete : (t : Tree) (w : Word) → IsTerm w t → term_at (seen t).face ≡ said w
term_complete t w h = elim h [
  | inl name ↦ ap term_at (face_leaf Name w.text w.span t name)
  | inr variable ↦ ap term_at (face_leaf Variable w.text w.span t variable)
]

pub term_reads : (t : Tree) → Reads (λ s. term_at s.face) IsTerm t
term_reads t = record {
  sound = by_cases (λ t. (term_at (seen t).face).faults ≡ [] → IsTerm (term_at (seen t).face).value t)
      (λ kind text span t h. subst (λ (f : Face). (term_at f).faults ≡ [] → IsTerm (term_at f).value t) (sym (face_leaf kind text span t h)) (term_leaf kind text span t h))
      (λ items span t h. subst (λ (f : Face). (term_at f).faults ≡ [] → IsTerm (term_at f).value t) (sym (face_branch items span t h)) (λ e. some_fault _ _ e)) t;
  complete = term_complete t;
}

pub is_term_of : (t : Tree) (w : Word) → IsTerm w t → is_term (seen t).face ≡ true
is_term_of t w h = elim h [
  | inl name ↦ ap is_term (face_leaf Name w.text w.span t name)
  | inr variable ↦ ap is_term (face_leaf Variable w.text w.span t variable)
]

-- Words of a text

pub text_same : (xs : List ℕ) → bytes_eq xs xs ≡ true
text_same xs = (bytes_eq-Decides xs xs).1 refl

pub text_complete : (text : List ℕ) (t : Tree) → IsWord text t → has_text text (seen t).face ≡ true
text_complete text t h = ap (has_text text) (face_leaf h.0 text h.1 t h.2) ∙ text_same text

pub at_text : (kind : Kind) (text key : List ℕ) (span : Span) (t : Tree) → IsLeaf kind text span t → text ≡ key → IsWord key t
at_text kind text key span t leaf e = (kind, span, subst (λ (v : List ℕ). IsLeaf kind v span t) e leaf)

pub true_false : {B : Type 0} → true ≡ false → B
true_false e = let h : ⊥ = cc in absurd h

pub text_sound : (text : List ℕ) (t : Tree) → has_text text (seen t).face ≡ true → IsWord text t
text_sound text t = by_cases (λ t. has_text text (seen t).face ≡ true → IsWord text t)
    (λ kind own span t h e. at_text kind own text span t h (same_text own text (ap (has_text text) (sym (face_leaf kind own span t h)) ∙ e)))
    (λ items span t h e. true_false (sym (ap (has_text text) (sym (face_branch items span t h)) ∙ e))) t

pub not_true : (b : Bool) → (b ≡ true → ⊥) → b ≡ false
not_true true h = absurd (h refl)
not_true false h = refl

pub text_not : (text : List ℕ) (t : Tree) → ¬ IsWord text t → has_text text (seen t).face ≡ false
text_not text t lacks = not_true (has_text text (seen t).face) (λ e. lacks (text_sound text t e))

-- Functions and predicates

some_is : {A B : Type 0} (x : A) (o : Option A) → None ≡ Some x → B
some_is x o e = let h : ⊥ = cc in absurd h

name_of_leaf : (kind : Kind) (text : List ℕ) (span : Span) (t : Tree) (w : Word) → IsLeaf kind text span t → function_of (Leaf kind text span) ≡ Some w → IsName w t
name_of_leaf Name text span t w h e = subst (λ (v : Word). IsName v t) (same_Some (word text span) w e) h
name_of_leaf Left text span t w h e = some_is w None e
name_of_leaf Right text span t w h e = some_is w None e
name_of_leaf Variable text span t w h e = some_is w None e
name_of_leaf Keyword text span t w h e = some_is w None e
name_of_leaf Number text span t w h e = some_is w None e
name_of_leaf Sign text span t w h e = some_is w None e
name_of_leaf Plain text span t w h e = some_is w None e

pub function_sound : (t : Tree) (w : Word) → function_of (seen t).face ≡ Some w → IsName w t
function_sound t w = by_cases (λ t. function_of (seen t).face ≡ Some w → IsName w t)
    (λ kind text span t h e. name_of_leaf kind text span t w h (ap function_of (sym (face_leaf kind text span t h)) ∙ e))
    (λ items span t h e. some_is w None (ap function_of (sym (face_branch items span t h)) ∙ e)) t

pub function_complete : (t : Tree) (w : Word) → IsName w t → function_of (seen t).face ≡ Some w
function_complete t w h = ap function_of (face_leaf Name w.text w.span t h)

free_sound : (t : Tree) (v w : Word) (b : Bool) → is_reserved v.text ≡ b → IsName v t → (if b then None else Some v) ≡ Some w → IsPredicate w t
unfolding is_reserved
free_sound t v w true is h e = some_is w None e
free_sound t v w false is h e = subst (λ (x : Word). IsPredicate x t) (same_Some v w e) (h, is)

predicate_leaf : (kind : Kind) (text : List ℕ) (span : Span) (t : Tree) (w : Word) → IsLeaf kind text span t → predicate_of (Leaf kind text span) ≡ Some w → IsPredicate w t
predicate_leaf Name text span t w h e = free_sound t (word text span) w (is_reserved text) refl h e
predicate_leaf Left text span t w h e = some_is w None e
predicate_leaf Right text span t w h e = some_is w None e
predicate_leaf Variable text span t w h e = some_is w None e
predicate_leaf Keyword text span t w h e = some_is w None e
predicate_leaf Number text span t w h e = some_is w None e
predicate_leaf Sign text span t w h e = some_is w None e
predicate_leaf Plain text span t w h e = some_is w None e

pub predicate_sound : (t : Tree) (w : Word) → predicate_of (seen t).face ≡ Some w → IsPredicate w t
predicate_sound t w = by_cases (λ t. predicate_of (seen t).face ≡ Some w → IsPredicate w t)
    (λ kind text span t h e. predicate_leaf kind text span t w h (ap predicate_of (sym (face_leaf kind text span t h)) ∙ e))
    (λ items span t h e. some_is w None (ap predicate_of (sym (face_branch items span t h)) ∙ e)) t

pub predicate_complete : (t : Tree) (w : Word) → IsPredicate w t → predicate_of (seen t).face ≡ Some w
unfolding is_reserved
predicate_complete t w h = ap predicate_of (face_leaf Name w.text w.span t h.0) ∙ ap (λ b. if b then None else Some w) h.1
