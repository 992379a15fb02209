-- Conditions.
use Rattle.std.specs.Prelude.{Bool, true, false, List, [], ◌∷◌}
use Rattle.mf_model.specs.declared.task.Relation.{Relation}
use Rattle.mf_model.specs.declared.task.Relation.TheVariants.{Equal}
use Rattle.mf_model.specs.declared.token.Span.{Span}
use Rattle.mf_model.specs.declared.form.RawCond.{RawCond}
use Rattle.mf_model.specs.declared.form.RawCond.TheVariants as c
use Rattle.mf_reader.specs.declared.atoms.AtomForm.{AtomForm}
use Rattle.mf_reader.specs.declared.heads.CondHead.{CondHead}
use Rattle.mf_reader.specs.declared.heads.CondHead.TheVariants as head
use Rattle.mf_reader.specs.Atoms.{atom_at}
use Rattle.mf_reader.specs.Faces.{is_term, term_at}
use Rattle.mf_reader.specs.Heads.{cond_head_of}
use Rattle.mf_reader.specs.Places.{Seen}
use Rattle.mf_reader.specs.Said.{Said, said, bad, left_out, both, mapped, each}

abbrev pub no_cond : Span → Said RawCond
no_cond span = bad span (c.And [] span)

abbrev pub atom_cond : AtomForm → RawCond
atom_cond atom = c.Atom atom.predicate atom.terms atom.span

abbrev pub not_cond : Span → List Seen → Said RawCond
not_cond span (a ∷ []) = mapped (λ part. c.Not part span) a.cond
not_cond span parts = no_cond span

abbrev pub and_cond : Span → List Seen → Said RawCond
and_cond span parts = mapped (λ conds. c.And conds span) (each (λ s. s.cond) parts)

abbrev pub or_cond : Span → List Seen → Said RawCond
or_cond span parts = mapped (λ conds. c.Or conds span) (each (λ s. s.cond) parts)

abbrev pub imply_cond : Span → List Seen → Said RawCond
imply_cond span (a ∷ b ∷ []) = both (λ left right. c.Imply left right span) a.cond b.cond
imply_cond span parts = no_cond span

abbrev pub all_cond : Span → List Seen → Said RawCond
all_cond span (a ∷ b ∷ []) = both (λ variables part. c.All variables part span) a.variables b.cond
all_cond span parts = no_cond span

abbrev pub any_cond : Span → List Seen → Said RawCond
any_cond span (a ∷ b ∷ []) = both (λ variables part. c.Any variables part span) a.variables b.cond
any_cond span parts = no_cond span

-- between numbers
abbrev pub compare_two : Relation → Span → Seen → Seen → Said RawCond
compare_two relation span a b = both (λ left right. c.Compare relation left right span) a.expr b.expr

abbrev pub compare_cond : Relation → Span → List Seen → Said RawCond
compare_cond relation span (a ∷ b ∷ []) = compare_two relation span a b
compare_cond relation span parts = no_cond span

-- between objects
abbrev pub same_two : Span → Seen → Seen → Said RawCond
same_two span a b = both (λ left right. c.Same left right span) (term_at a.face) (term_at b.face)

-- between objects where both sides are terms, and between numbers where neither is
abbrev pub equal_by : Bool → Bool → Span → Seen → Seen → Said RawCond
equal_by true true span a b = same_two span a b
equal_by false false span a b = compare_two Equal span a b
equal_by true false span a b = no_cond span
equal_by false true span a b = no_cond span

abbrev pub equal_two : Span → Seen → Seen → Said RawCond
equal_two span a b = equal_by (is_term a.face) (is_term b.face) span a b

abbrev pub equal_cond : Span → List Seen → Said RawCond
equal_cond span (a ∷ b ∷ []) = equal_two span a b
equal_cond span parts = no_cond span

abbrev pub cond_by : CondHead → Span → Seen → List Seen → Said RawCond
cond_by head.Not span s parts = not_cond span parts
cond_by head.And span s parts = and_cond span parts
cond_by head.Or span s parts = or_cond span parts
cond_by head.Imply span s parts = imply_cond span parts
cond_by head.All span s parts = all_cond span parts
cond_by head.Any span s parts = any_cond span parts
cond_by head.Equal span s parts = equal_cond span parts
cond_by (head.Compare relation) span s parts = compare_cond relation span parts
cond_by head.Preference span s parts = left_out span (c.And [] span)
cond_by head.Other span s parts = mapped atom_cond (atom_at span (s ∷ parts))

-- `()` holds always
abbrev pub list_cond : Span → List Seen → Said RawCond
list_cond span [] = said (c.And [] span)
list_cond span (s ∷ parts) = cond_by (cond_head_of s.face) span s parts
