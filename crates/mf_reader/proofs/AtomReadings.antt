-- What is said of atoms and function terms agrees with their forms.
use Rattle.std.proofs.Common.{◌≡◌, Option, Some, None, List, [], ◌∷◌, map, refl, ap, sym, ◌∙◌, subst}
use Rattle.mf_model.specs.declared.token.Span.{Span}
use Rattle.mf_model.specs.declared.tree.Tree.{Tree}
use Rattle.mf_model.specs.declared.form.Word.{Word}
use Rattle.mf_model.specs.Forms.{IsList, Each, IsTerm, IsAtom}
use Rattle.mf_reader.specs.declared.atoms.AtomForm.{AtomForm}
use Rattle.mf_reader.specs.declared.atoms.CallForm.{CallForm}
use Rattle.mf_reader.specs.Said.{said}
use Rattle.mf_reader.specs.Heads.{function_of, predicate_of}
use Rattle.mf_reader.specs.Places.{Seen}
use Rattle.mf_reader.specs.Seen.{seen}
use Rattle.mf_reader.specs.Atoms.{terms_at, made_atom, atom_by, atom_at, made_call, call_by, call_at}
use Rattle.mf_reader.specs.GrammarTerms.{IsCall}
use Rattle.mf_reader.proofs.Branches.{seen_leaf, seen_branch, by_cases}
use Rattle.mf_reader.proofs.Readings.{Reads, some_fault, mapped_said, each_sound, each_complete, all_reads}
use Rattle.mf_reader.proofs.TypedReadings.{ReadsAll}
use Rattle.mf_reader.proofs.WordReadings.{term_reads, function_sound, function_complete, predicate_sound, predicate_complete}

pub terms_read : ReadsAll terms_at (Each IsTerm)
terms_read = record {
  sound = λ ts e. each_sound _ IsTerm ts (all_reads _ IsTerm term_reads ts) e;
  complete = λ ts ws h. each_complete _ IsTerm ts (all_reads _ IsTerm term_reads ts) ws h;
}

-- Atoms

abbrev pub AtomIs : AtomForm → Tree → Type 0
AtomIs a t = IsAtom a.predicate a.terms a.span t

atom_by_sound : (o : Option Word) (head : Tree) (parts : List Tree) (span : Span) (t : Tree) → predicate_of (seen head).face ≡ o → IsList (head ∷ parts) span t → (atom_by o span (map seen parts)).faults ≡ [] → AtomIs (atom_by o span (map seen parts)).value t
atom_by_sound None head parts span t is list e = some_fault _ _ e
atom_by_sound (Some w) head parts span t is list e =
    record { head = head; parts = parts; list = list; names = predicate_sound head w is; arguments = terms_read.sound parts e }

pub atom_at_sound : (items : List Tree) (span : Span) (t : Tree) → IsList items span t → (atom_at span (map seen items)).faults ≡ [] → AtomIs (atom_at span (map seen items)).value t
atom_at_sound [] span t list e = some_fault _ _ e
atom_at_sound (head ∷ parts) span t list e = atom_by_sound (predicate_of (seen head).face) head parts span t refl list e

pub atom_at_complete : (a : AtomForm) (t : Tree) (h : AtomIs a t) → atom_at a.span (map seen (h.head ∷ h.parts)) ≡ said a
atom_at_complete a t h =
    ap (λ (o : Option Word). atom_by o a.span (map seen h.parts)) (predicate_complete h.head a.predicate h.names)
    ∙ mapped_said (made_atom a.span a.predicate) (terms_at (map seen h.parts)) a.terms (terms_read.complete h.parts a.terms h.arguments)

atom_sound : (t : Tree) → (seen t).atom.faults ≡ [] → AtomIs (seen t).atom.value t
atom_sound t = by_cases (λ t. (seen t).atom.faults ≡ [] → AtomIs (seen t).atom.value t)
    (λ kind text span t h. subst (λ (s : Seen). s.atom.faults ≡ [] → AtomIs s.atom.value t) (sym (seen_leaf kind text span t h)) (λ e. some_fault _ _ e))
    (λ items span t h. subst (λ (s : Seen). s.atom.faults ≡ [] → AtomIs s.atom.value t) (sym (seen_branch items span t h)) (atom_at_sound items span t h)) t

pub atom_reads : (t : Tree) → Reads (λ s. s.atom) AtomIs t
atom_reads t = record {
  sound = atom_sound t;
  complete = λ a h. ap (λ (s : Seen). s.atom) (seen_branch (h.head ∷ h.parts) a.span t h.list) ∙ atom_at_complete a t h;
}

-- Function terms

abbrev pub CallIs : CallForm → Tree → Type 0
CallIs a t = IsCall a.function a.terms a.span t

call_by_sound : (o : Option Word) (head : Tree) (parts : List Tree) (span : Span) (t : Tree) → function_of (seen head).face ≡ o → IsList (head ∷ parts) span t → (call_by o span (map seen parts)).faults ≡ [] → CallIs (call_by o span (map seen parts)).value t
call_by_sound None head parts span t is list e = some_fault _ _ e
call_by_sound (Some w) head parts span t is list e =
    record { head = head; parts = parts; list = list; named = function_sound head w is; arguments = terms_read.sound parts e }

pub call_at_sound : (items : List Tree) (span : Span) (t : Tree) → IsList items span t → (call_at span (map seen items)).faults ≡ [] → CallIs (call_at span (map seen items)).value t
call_at_sound [] span t list e = some_fault _ _ e
call_at_sound (head ∷ parts) span t list e = call_by_sound (function_of (seen head).face) head parts span t refl list e

pub call_at_complete : (a : CallForm) (t : Tree) (h : CallIs a t) → call_at a.span (map seen (h.head ∷ h.parts)) ≡ said a
call_at_complete a t h =
    ap (λ (o : Option Word). call_by o a.span (map seen h.parts)) (function_complete h.head a.function h.named)
    ∙ mapped_said (made_call a.span a.function) (terms_at (map seen h.parts)) a.terms (terms_read.complete h.parts a.terms h.arguments)

call_sound : (t : Tree) → (seen t).call.faults ≡ [] → CallIs (seen t).call.value t
call_sound t = by_cases (λ t. (seen t).call.faults ≡ [] → CallIs (seen t).call.value t)
    (λ kind text span t h. subst (λ (s : Seen). s.call.faults ≡ [] → CallIs s.call.value t) (sym (seen_leaf kind text span t h)) (λ e. some_fault _ _ e))
    (λ items span t h. subst (λ (s : Seen). s.call.faults ≡ [] → CallIs s.call.value t) (sym (seen_branch items span t h)) (call_at_sound items span t h)) t

pub call_reads : (t : Tree) → Reads (λ s. s.call) CallIs t
call_reads t = record {
  sound = call_sound t;
  complete = λ a h. ap (λ (s : Seen). s.call) (seen_branch (h.head ∷ h.parts) a.span t h.list) ∙ call_at_complete a t h;
}
