-- A condition that is said without a fault is of its form.
use Rattle.std.proofs.Common.{◌≡◌, Bool, true, false, List, [], ◌∷◌, map, refl, ap, sym, subst, inl, inr, codes}
use Rattle.std.specs.List.{AllByRecursion}
use Rattle.mf_model.specs.declared.task.Relation.{Relation}
use Rattle.mf_model.specs.declared.task.Relation.TheVariants.{Equal}
use Rattle.mf_model.specs.declared.token.Span.{Span}
use Rattle.mf_model.specs.declared.tree.Tree.{Tree}
use Rattle.mf_model.specs.declared.form.RawCond.{RawCond, map-RawCond, roll-RawCond}
use Rattle.mf_model.specs.declared.form.RawCond.TheVariants as c
use Rattle.mf_model.specs.declared.form.RawCond.TheOpen.{RawCond-F}
use Rattle.mf_model.specs.declared.form.RawCond.TheFolds.{rec-roll-RawCond}
use Rattle.mf_model.specs.Forms.{IsList, IsWord, IsName}
use Rattle.mf_reader.specs.declared.atoms.AtomForm.{AtomForm}
use Rattle.mf_reader.specs.declared.heads.CondHead.{CondHead}
use Rattle.mf_reader.specs.declared.heads.CondHead.TheVariants as head
use Rattle.mf_reader.specs.Said.{Said, both, mapped, each}
use Rattle.mf_reader.specs.Faces.{is_term, term_at}
use Rattle.mf_reader.specs.Heads.{cond_head_of}
use Rattle.mf_reader.specs.Places.{Seen}
use Rattle.mf_reader.specs.Seen.{seen}
use Rattle.mf_reader.specs.Atoms.{atom_at}
use Rattle.mf_reader.specs.Conditions.{atom_cond, not_cond, and_cond, or_cond, imply_cond, all_cond, any_cond, compare_cond, equal_by, equal_cond, cond_by, list_cond}
use Rattle.mf_reader.specs.GrammarConditions.{relation_word, IsAtomCond, IsRow, IsGrouped, IsCond_form, IsCond}
use Rattle.mf_reader.proofs.Branches.{seen_leaf, seen_branch, by_cases, Below, one_list}
use Rattle.mf_reader.proofs.Readings.{Reads, some_fault, none_of_both, each_sound}
use Rattle.mf_reader.proofs.WordReadings.{term_reads}
use Rattle.mf_reader.proofs.TypedReadings.{variable_list_reads}
use Rattle.mf_reader.proofs.AtomReadings.{AtomIs, atom_at_sound}
use Rattle.mf_reader.proofs.HeadReadings.{CondWord, cond_word}
use Rattle.mf_reader.proofs.ExprRows.{each_natural}
use Rattle.mf_reader.proofs.ExprSound.{first_same}
use Rattle.mf_reader.proofs.ExprReadings.{expr_reads}

-- The form of each variant

natural : (X : Type 0) (v : X → RawCond) (k : RawCond → Tree → Type 0) (x : RawCond-F X) → IsCond_form X v (λ p. k (v p)) x ≡ IsCond_form RawCond (λ y. y) k (map-RawCond X RawCond v x)
natural X v k (RawCond-F.Atom predicate terms span) = refl
natural X v k (RawCond-F.Same left right span) = refl
natural X v k (RawCond-F.Compare relation left right span) = refl
natural X v k (RawCond-F.Not part span) = refl
natural X v k (RawCond-F.And parts span) = λ i t. IsGrouped (λ ts. each_natural RawCond X v k parts ts i) span t
natural X v k (RawCond-F.Or parts span) = λ i t. IsRow (codes "or") (λ ts. each_natural RawCond X v k parts ts i) span t
natural X v k (RawCond-F.Imply left right span) = refl
natural X v k (RawCond-F.All variables part span) = refl
natural X v k (RawCond-F.Any variables part span) = refl

abbrev pub CondRow : RawCond-F RawCond → Tree → Type 0
CondRow = IsCond_form RawCond (λ y. y) IsCond

cond_row : (y : RawCond-F RawCond) (t : Tree) → IsCond (roll-RawCond y) t ≡ CondRow y t
cond_row y t = ap (λ (f : Tree → Type 0). f t) (rec-roll-RawCond (Tree → Type 0) IsCond_form natural y)

by_row : (y : RawCond-F RawCond) (v : RawCond) (t : Tree) → roll-RawCond y ≡ v → CondRow y t → IsCond v t
by_row y v t is h = subst (λ (z : RawCond). IsCond z t) is (subst (λ (T : Type 0). T) (sym (cond_row y t)) h)

pub cond_row_of : (y : RawCond-F RawCond) (t : Tree) → IsCond (roll-RawCond y) t → CondRow y t
cond_row_of y t h = subst (λ (T : Type 0). T) (cond_row y t) h

-- Lists

abbrev pub CondReads : Tree → Type 0
CondReads = Reads (λ s. s.cond) IsCond

abbrev SoundAt : Tree → Said RawCond → Type 0
SoundAt t r = r.faults ≡ [] → IsCond r.value t

abbrev pub conds : List Seen → Said (List RawCond)
conds ss = each (λ s. s.cond) ss

not_sound : (h : Tree) (parts : List Tree) (span : Span) (t : Tree) → IsList (h ∷ parts) span t → IsWord (codes "not") h → AllByRecursion CondReads parts → SoundAt t (not_cond span (map seen parts))
not_sound h [] span t list is all = λ e. some_fault _ _ e
not_sound h (a ∷ []) span t list is all = λ e.
    let v = (seen a).cond.value in
    by_row (RawCond-F.Not v span) (c.Not v span) t (c.rolls-Not v span) (record { part = a; list = (h, list, is); is_part = all.0.sound e })
not_sound h (a ∷ b ∷ rest) span t list is all = λ e. some_fault _ _ e

and_sound : (h : Tree) (parts : List Tree) (span : Span) (t : Tree) → IsList (h ∷ parts) span t → IsWord (codes "and") h → AllByRecursion CondReads parts → SoundAt t (and_cond span (map seen parts))
and_sound h parts span t list is all = λ e.
    let vs = (conds (map seen parts)).value in
    by_row (RawCond-F.And vs span) (c.And vs span) t (c.rolls-And vs span) (inl (parts, (h, list, is), each_sound (λ s. s.cond) IsCond parts all e))

or_sound : (h : Tree) (parts : List Tree) (span : Span) (t : Tree) → IsList (h ∷ parts) span t → IsWord (codes "or") h → AllByRecursion CondReads parts → SoundAt t (or_cond span (map seen parts))
or_sound h parts span t list is all = λ e.
    let vs = (conds (map seen parts)).value in
    by_row (RawCond-F.Or vs span) (c.Or vs span) t (c.rolls-Or vs span) (parts, (h, list, is), each_sound (λ s. s.cond) IsCond parts all e)

imply_sound : (h : Tree) (parts : List Tree) (span : Span) (t : Tree) → IsList (h ∷ parts) span t → IsWord (codes "imply") h → AllByRecursion CondReads parts → SoundAt t (imply_cond span (map seen parts))
imply_sound h [] span t list is all = λ e. some_fault _ _ e
imply_sound h (a ∷ []) span t list is all = λ e. some_fault _ _ e
imply_sound h (a ∷ b ∷ []) span t list is all = λ e.
    let v = (seen a).cond.value in
    let w = (seen b).cond.value in
    let none = none_of_both (seen a).cond.faults (seen b).cond.faults e in
    by_row (RawCond-F.Imply v w span) (c.Imply v w span) t (c.rolls-Imply v w span) (record { left = a; right = b; list = (h, list, is); is_left = all.0.sound none.0; is_right = all.1.0.sound none.1 })
imply_sound h (a ∷ b ∷ d ∷ rest) span t list is all = λ e. some_fault _ _ e

all_sound : (h : Tree) (parts : List Tree) (span : Span) (t : Tree) → IsList (h ∷ parts) span t → IsWord (codes "forall") h → AllByRecursion CondReads parts → SoundAt t (all_cond span (map seen parts))
all_sound h [] span t list is all = λ e. some_fault _ _ e
all_sound h (a ∷ []) span t list is all = λ e. some_fault _ _ e
all_sound h (a ∷ b ∷ []) span t list is all = λ e.
    let v = (seen a).variables.value in
    let w = (seen b).cond.value in
    let none = none_of_both (seen a).variables.faults (seen b).cond.faults e in
    by_row (RawCond-F.All v w span) (c.All v w span) t (c.rolls-All v w span) (record { left = a; right = b; list = (h, list, is); is_left = (variable_list_reads a).sound none.0; is_right = all.1.0.sound none.1 })
all_sound h (a ∷ b ∷ d ∷ rest) span t list is all = λ e. some_fault _ _ e

any_sound : (h : Tree) (parts : List Tree) (span : Span) (t : Tree) → IsList (h ∷ parts) span t → IsWord (codes "exists") h → AllByRecursion CondReads parts → SoundAt t (any_cond span (map seen parts))
any_sound h [] span t list is all = λ e. some_fault _ _ e
any_sound h (a ∷ []) span t list is all = λ e. some_fault _ _ e
any_sound h (a ∷ b ∷ []) span t list is all = λ e.
    let v = (seen a).variables.value in
    let w = (seen b).cond.value in
    let none = none_of_both (seen a).variables.faults (seen b).cond.faults e in
    by_row (RawCond-F.Any v w span) (c.Any v w span) t (c.rolls-Any v w span) (record { left = a; right = b; list = (h, list, is); is_left = (variable_list_reads a).sound none.0; is_right = all.1.0.sound none.1 })
any_sound h (a ∷ b ∷ d ∷ rest) span t list is all = λ e. some_fault _ _ e

compared : (relation : Relation) (h a b : Tree) (span : Span) (t : Tree) → IsList (h ∷ a ∷ b ∷ []) span t → IsWord (relation_word relation) h → SoundAt t (both (λ left right. c.Compare relation left right span) (seen a).expr (seen b).expr)
compared relation h a b span t list is = λ e.
    let v = (seen a).expr.value in
    let w = (seen b).expr.value in
    let none = none_of_both (seen a).expr.faults (seen b).expr.faults e in
    by_row (RawCond-F.Compare relation v w span) (c.Compare relation v w span) t (c.rolls-Compare relation v w span) (record { left = a; right = b; list = (h, list, is); is_left = (expr_reads a).sound none.0; is_right = (expr_reads b).sound none.1 })

compare_sound : (relation : Relation) (h : Tree) (parts : List Tree) (span : Span) (t : Tree) → IsList (h ∷ parts) span t → IsWord (relation_word relation) h → SoundAt t (compare_cond relation span (map seen parts))
compare_sound relation h [] span t list is = λ e. some_fault _ _ e
compare_sound relation h (a ∷ []) span t list is = λ e. some_fault _ _ e
compare_sound relation h (a ∷ b ∷ []) span t list is = compared relation h a b span t list is
compare_sound relation h (a ∷ b ∷ d ∷ rest) span t list is = λ e. some_fault _ _ e

equal_by_sound : (one other : Bool) (h a b : Tree) (span : Span) (t : Tree) → IsList (h ∷ a ∷ b ∷ []) span t → IsWord (codes "=") h → SoundAt t (equal_by one other span (seen a) (seen b))
equal_by_sound true true h a b span t list is = λ e.
    let v = (term_at (seen a).face).value in
    let w = (term_at (seen b).face).value in
    let none = none_of_both (term_at (seen a).face).faults (term_at (seen b).face).faults e in
    by_row (RawCond-F.Same v w span) (c.Same v w span) t (c.rolls-Same v w span) (record { left = a; right = b; list = (h, list, is); is_left = (term_reads a).sound none.0; is_right = (term_reads b).sound none.1 })
equal_by_sound false false h a b span t list is = compared Equal h a b span t list is
equal_by_sound true false h a b span t list is = λ e. some_fault _ _ e
equal_by_sound false true h a b span t list is = λ e. some_fault _ _ e

equal_sound : (h : Tree) (parts : List Tree) (span : Span) (t : Tree) → IsList (h ∷ parts) span t → IsWord (codes "=") h → SoundAt t (equal_cond span (map seen parts))
equal_sound h [] span t list is = λ e. some_fault _ _ e
equal_sound h (a ∷ []) span t list is = λ e. some_fault _ _ e
equal_sound h (a ∷ b ∷ []) span t list is = equal_by_sound (is_term (seen a).face) (is_term (seen b).face) h a b span t list is
equal_sound h (a ∷ b ∷ d ∷ rest) span t list is = λ e. some_fault _ _ e

atom_is : (a : AtomForm) (h : Tree) (parts : List Tree) (span : Span) (t : Tree) → IsList (h ∷ parts) span t → CondWord head.Other h → AtomIs a t → IsAtomCond a.predicate a.terms a.span t
atom_is a h parts span t list free atom =
    let same = first_same atom.head h atom.parts parts (one_list (atom.head ∷ atom.parts) (h ∷ parts) a.span span t atom.list list) in
    record { atom = atom; other = free a.predicate (subst (λ (z : Tree). IsName a.predicate z) same atom.names.0) }

atom_sound : (h : Tree) (parts : List Tree) (span : Span) (t : Tree) → IsList (h ∷ parts) span t → CondWord head.Other h → SoundAt t (mapped atom_cond (atom_at span (map seen (h ∷ parts))))
atom_sound h parts span t list free = λ e.
    let a = (atom_at span (map seen (h ∷ parts))).value in
    by_row (RawCond-F.Atom a.predicate a.terms a.span) (atom_cond a) t (c.rolls-Atom a.predicate a.terms a.span) (atom_is a h parts span t list free (atom_at_sound (h ∷ parts) span t list e))

by_sound : (kind : CondHead) (h : Tree) (parts : List Tree) (span : Span) (t : Tree) → CondWord kind h → IsList (h ∷ parts) span t → AllByRecursion CondReads parts → SoundAt t (cond_by kind span (seen h) (map seen parts))
by_sound head.Not h parts span t is list all = not_sound h parts span t list is all
by_sound head.And h parts span t is list all = and_sound h parts span t list is all
by_sound head.Or h parts span t is list all = or_sound h parts span t list is all
by_sound head.Imply h parts span t is list all = imply_sound h parts span t list is all
by_sound head.All h parts span t is list all = all_sound h parts span t list is all
by_sound head.Any h parts span t is list all = any_sound h parts span t list is all
by_sound head.Equal h parts span t is list all = equal_sound h parts span t list is
by_sound (head.Compare relation) h parts span t is list all = compare_sound relation h parts span t list is
by_sound head.Preference h parts span t is list all = λ e. some_fault _ _ e
by_sound head.Other h parts span t is list all = atom_sound h parts span t list is

list_sound : (items : List Tree) (span : Span) (t : Tree) → IsList items span t → AllByRecursion CondReads items → SoundAt t (list_cond span (map seen items))
list_sound [] span t list all = λ e. by_row (RawCond-F.And [] span) (c.And [] span) t (c.rolls-And [] span) (inr (list, tt))
list_sound (h ∷ parts) span t list all = by_sound (cond_head_of (seen h).face) h parts span t (cond_word h) list all.1

pub cond_sound : (t : Tree) → Below CondReads t → SoundAt t (seen t).cond
cond_sound = by_cases (λ t. Below CondReads t → SoundAt t (seen t).cond)
    (λ kind text span t leaf below. subst (λ (s : Seen). SoundAt t s.cond) (sym (seen_leaf kind text span t leaf)) (λ e. some_fault _ _ e))
    (λ items span t list below. subst (λ (s : Seen). SoundAt t s.cond) (sym (seen_branch items span t list)) (list_sound items span t list (below items span list)))
