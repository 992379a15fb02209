-- What is said of domains agrees with their form.
use Rattle.std.proofs.Common.{◌≡◌, ℕ, Bool, true, false, not, Option, Some, None, is_none, List, [], ◌∷◌, ◌++◌, map, refl, ap, sym, ◌∙◌, subst, inl, inr, codes, append_assoc}
use Rattle.std.specs.List.{list_any, AllByRecursion}
use Rattle.std.specs.Option.{unwrap_or}
use Rattle.std.specs.Str.{bytes_eq}
use Rattle.std.proofs.lemmas.List.{append-nil}
use Rattle.mf_model.proofs.Choices.{if_true}
use Rattle.mf_model.specs.declared.token.Span.{Span}
use Rattle.mf_model.specs.declared.tree.Tree.{Tree}
use Rattle.mf_model.specs.declared.tree.Tree.TheViews.{out-Tree}
use Rattle.mf_model.specs.declared.tree.Tree.TheOpen.{Tree-F}
use Rattle.mf_model.specs.declared.form.RawAction.{RawAction}
use Rattle.mf_model.specs.declared.form.Typed.{Typed}
use Rattle.mf_model.specs.declared.form.Header.{Header}
use Rattle.mf_model.specs.declared.form.Domain.{Domain}
use Rattle.mf_model.specs.Forms.{IsList, IsWord, Headed, IsHeaded, HasHead, IsSection}
use Rattle.mf_reader.specs.declared.domain.DomainParts.{DomainParts}
use Rattle.mf_reader.specs.declared.keys.DomainKey.{DomainKey}
use Rattle.mf_reader.specs.declared.keys.DomainKey.TheVariants.{Requirements, Types, Constants, Predicates, Functions, Action, LeftOut, Other}
use Rattle.mf_reader.specs.Actions.{action_at}
use Rattle.mf_reader.specs.Domains.{no_sections, may_stand, with_section, section_by, section_layer, section_of, sections_from, made_domain, no_domain, domain_behind, domain_layer, domain_of}
use Rattle.mf_reader.specs.Faces.{has_text}
use Rattle.mf_reader.specs.Functions.{functions_of}
use Rattle.mf_reader.specs.Headers.{predicate_headers}
use Rattle.mf_reader.specs.Keys.{domain_key, domain_key_of}
use Rattle.mf_reader.specs.Laws.{IsReadingOf}
use Rattle.mf_reader.specs.Requirements.{requirements_of}
use Rattle.mf_reader.specs.Said.{Said, said, bad, both}
use Rattle.mf_reader.specs.Seen.{seen}
use Rattle.mf_reader.specs.Titles.{title_of}
use Rattle.mf_reader.specs.Typed.{typed_names, typed_types}
use Rattle.mf_reader.specs.GrammarTerms.{AreObjects, AreSubtypes}
use Rattle.mf_reader.specs.GrammarSections.{IsRequirement, ArePredicates, AreFunctions, IsAction, AreActions}
use Rattle.mf_reader.specs.GrammarFiles.{IsHeadedBy, Holds, AreRequirements, domain_sections, IsDomain}
use Rattle.mf_reader.proofs.Readings.{some_fault, none_of_both, both_said, mapped_said}
use Rattle.mf_reader.proofs.Choices.{by_test}
use Rattle.mf_reader.proofs.WordReadings.{true_false, text_sound, text_complete}
use Rattle.mf_reader.proofs.TypedReadings.{objects_read, subtypes_read}
use Rattle.mf_reader.proofs.DeclReadings.{predicates_read, functions_read}
use Rattle.mf_reader.proofs.TitleReadings.{title_reads, requirements_sound, requirements_complete}
use Rattle.mf_reader.proofs.ActionReadings.{action_sound, action_complete}
use Rattle.mf_reader.proofs.SlotReadings.{is_free, Filled, skipped, slot_of, filled_of, OfFound, section_of_slot, slot_of_section}
use Rattle.mf_reader.proofs.SectionReadings.{lacks, listed_first, filling, DomainWord, domain_word, domain_key_at}

-- Slots

abbrev pub AllRequired : Unit {0} → List Tree → Type 0
AllRequired u ts = AllByRecursion IsRequirement ts

abbrev pub flag : Bool → Option (Unit {0})
flag true = Some tt
flag false = None

abbrev pub In : {V : Type 0} → List ℕ → (V → List Tree → Type 0) → Option V → Option V → List Tree → Type 0
In key Of old new ts = Filled (IsHeaded key) (λ v h. Of v h.parts) old new ts

record DomainFilled (old fin : DomainParts) (ts : List Tree) : Type 0 where
  known : AllByRecursion (IsHeadedBy domain_sections) ts
  requirements : In (codes ":requirements") AllRequired (flag old.requirements) (flag fin.requirements) ts
  types : In (codes ":types") AreSubtypes (old.types) (fin.types) ts
  constants : In (codes ":constants") AreObjects (old.constants) (fin.constants) ts
  predicates : In (codes ":predicates") ArePredicates (old.predicates) (fin.predicates) ts
  functions : In (codes ":functions") AreFunctions (old.functions) (fin.functions) ts
  actions : List RawAction
  join : fin.actions ≡ old.actions ++ actions
  are : AreActions actions ts

pub flag_free : (b : Bool) → not b ≡ true → flag b ≡ None
flag_free false e = refl
flag_free true e = true_false (sym e)

pub free_flag : (b : Bool) → flag b ≡ None → not b ≡ true
free_flag false e = refl
free_flag true e = let h : ⊥ = cc in absurd h

abbrev Step : DomainParts → DomainParts → Tree → List Tree → Said DomainParts → Type 0
Step old fin t ts x = x.faults ≡ [] → DomainFilled x.value fin ts → DomainFilled old fin (t ∷ ts)

requirements_step : (old fin : DomainParts) (a : Headed) (t : Tree) (ts : List Tree) → IsHeaded (codes ":requirements") a t → may_stand Requirements old ≡ true → Step old fin t ts (with_section Requirements a.span a.parts old)
requirements_step old fin a t ts is free e rest = record {
  known = ((codes ":requirements", (a, is), refl), rest.known);
  requirements = inr (tt, record { free = flag_free old.requirements free; is = a; at = is; of = requirements_sound a.parts e }, rest.requirements);
  types = inl (lacks (codes ":types") (codes ":requirements") a t refl is, rest.types);
  constants = inl (lacks (codes ":constants") (codes ":requirements") a t refl is, rest.constants);
  predicates = inl (lacks (codes ":predicates") (codes ":requirements") a t refl is, rest.predicates);
  functions = inl (lacks (codes ":functions") (codes ":requirements") a t refl is, rest.functions);
  actions = rest.actions;
  join = rest.join;
  are = inl (lacks (codes ":action") (codes ":requirements") a t refl is, rest.are);
}

types_step : (old fin : DomainParts) (a : Headed) (t : Tree) (ts : List Tree) → IsHeaded (codes ":types") a t → may_stand Types old ≡ true → Step old fin t ts (with_section Types a.span a.parts old)
types_step old fin a t ts is free e rest = record {
  known = ((codes ":types", (a, is), refl), rest.known);
  types = inr ((typed_types (map seen a.parts)).value, record { free = is_free old.types free; is = a; at = is; of = subtypes_read.sound a.parts e }, rest.types);
  requirements = inl (lacks (codes ":requirements") (codes ":types") a t refl is, rest.requirements);
  constants = inl (lacks (codes ":constants") (codes ":types") a t refl is, rest.constants);
  predicates = inl (lacks (codes ":predicates") (codes ":types") a t refl is, rest.predicates);
  functions = inl (lacks (codes ":functions") (codes ":types") a t refl is, rest.functions);
  actions = rest.actions;
  join = rest.join;
  are = inl (lacks (codes ":action") (codes ":types") a t refl is, rest.are);
}

constants_step : (old fin : DomainParts) (a : Headed) (t : Tree) (ts : List Tree) → IsHeaded (codes ":constants") a t → may_stand Constants old ≡ true → Step old fin t ts (with_section Constants a.span a.parts old)
constants_step old fin a t ts is free e rest = record {
  known = ((codes ":constants", (a, is), refl), rest.known);
  constants = inr ((typed_names (map seen a.parts)).value, record { free = is_free old.constants free; is = a; at = is; of = objects_read.sound a.parts e }, rest.constants);
  requirements = inl (lacks (codes ":requirements") (codes ":constants") a t refl is, rest.requirements);
  types = inl (lacks (codes ":types") (codes ":constants") a t refl is, rest.types);
  predicates = inl (lacks (codes ":predicates") (codes ":constants") a t refl is, rest.predicates);
  functions = inl (lacks (codes ":functions") (codes ":constants") a t refl is, rest.functions);
  actions = rest.actions;
  join = rest.join;
  are = inl (lacks (codes ":action") (codes ":constants") a t refl is, rest.are);
}

predicates_step : (old fin : DomainParts) (a : Headed) (t : Tree) (ts : List Tree) → IsHeaded (codes ":predicates") a t → may_stand Predicates old ≡ true → Step old fin t ts (with_section Predicates a.span a.parts old)
predicates_step old fin a t ts is free e rest = record {
  known = ((codes ":predicates", (a, is), refl), rest.known);
  predicates = inr ((predicate_headers a.parts).value, record { free = is_free old.predicates free; is = a; at = is; of = predicates_read.sound a.parts e }, rest.predicates);
  requirements = inl (lacks (codes ":requirements") (codes ":predicates") a t refl is, rest.requirements);
  types = inl (lacks (codes ":types") (codes ":predicates") a t refl is, rest.types);
  constants = inl (lacks (codes ":constants") (codes ":predicates") a t refl is, rest.constants);
  functions = inl (lacks (codes ":functions") (codes ":predicates") a t refl is, rest.functions);
  actions = rest.actions;
  join = rest.join;
  are = inl (lacks (codes ":action") (codes ":predicates") a t refl is, rest.are);
}

functions_step : (old fin : DomainParts) (a : Headed) (t : Tree) (ts : List Tree) → IsHeaded (codes ":functions") a t → may_stand Functions old ≡ true → Step old fin t ts (with_section Functions a.span a.parts old)
functions_step old fin a t ts is free e rest = record {
  known = ((codes ":functions", (a, is), refl), rest.known);
  functions = inr ((functions_of a.parts).value, record { free = is_free old.functions free; is = a; at = is; of = functions_read.sound a.parts e }, rest.functions);
  requirements = inl (lacks (codes ":requirements") (codes ":functions") a t refl is, rest.requirements);
  types = inl (lacks (codes ":types") (codes ":functions") a t refl is, rest.types);
  constants = inl (lacks (codes ":constants") (codes ":functions") a t refl is, rest.constants);
  predicates = inl (lacks (codes ":predicates") (codes ":functions") a t refl is, rest.predicates);
  actions = rest.actions;
  join = rest.join;
  are = inl (lacks (codes ":action") (codes ":functions") a t refl is, rest.are);
}

action_step : (old fin : DomainParts) (a : Headed) (t : Tree) (ts : List Tree) → IsHeaded (codes ":action") a t → Step old fin t ts (with_section Action a.span a.parts old)
action_step old fin a t ts is e rest =
    let one = (action_at a.span a.parts).value in
    record {
      known = ((codes ":action", (a, is), refl), rest.known);
      requirements = inl (lacks (codes ":requirements") (codes ":action") a t refl is, rest.requirements);
      types = inl (lacks (codes ":types") (codes ":action") a t refl is, rest.types);
      constants = inl (lacks (codes ":constants") (codes ":action") a t refl is, rest.constants);
      predicates = inl (lacks (codes ":predicates") (codes ":action") a t refl is, rest.predicates);
      functions = inl (lacks (codes ":functions") (codes ":action") a t refl is, rest.functions);
      actions = one ∷ rest.actions;
      join = rest.join ∙ append_assoc old.actions (one ∷ []) rest.actions;
      are = inr (one, rest.actions, refl, action_sound a.parts a.span t is e, rest.are);
    }

section_step : (key : DomainKey) (old fin : DomainParts) (head : Tree) (items : List Tree) (span : Span) (t : Tree) (ts : List Tree) → DomainWord key head → IsList (head ∷ items) span t → Step old fin t ts (section_by key span items old)
section_step Requirements old fin head items span t ts word list = by_test (Step old fin t ts) (may_stand Requirements old) (with_section Requirements span items old) (bad span old) (λ free. requirements_step old fin (record { parts = items; span = span }) t ts (head, list, word) free) (λ free e rest. some_fault _ _ e)
section_step Types old fin head items span t ts word list = by_test (Step old fin t ts) (may_stand Types old) (with_section Types span items old) (bad span old) (λ free. types_step old fin (record { parts = items; span = span }) t ts (head, list, word) free) (λ free e rest. some_fault _ _ e)
section_step Constants old fin head items span t ts word list = by_test (Step old fin t ts) (may_stand Constants old) (with_section Constants span items old) (bad span old) (λ free. constants_step old fin (record { parts = items; span = span }) t ts (head, list, word) free) (λ free e rest. some_fault _ _ e)
section_step Predicates old fin head items span t ts word list = by_test (Step old fin t ts) (may_stand Predicates old) (with_section Predicates span items old) (bad span old) (λ free. predicates_step old fin (record { parts = items; span = span }) t ts (head, list, word) free) (λ free e rest. some_fault _ _ e)
section_step Functions old fin head items span t ts word list = by_test (Step old fin t ts) (may_stand Functions old) (with_section Functions span items old) (bad span old) (λ free. functions_step old fin (record { parts = items; span = span }) t ts (head, list, word) free) (λ free e rest. some_fault _ _ e)
section_step Action old fin head items span t ts word list = action_step old fin (record { parts = items; span = span }) t ts (head, list, word)
section_step LeftOut old fin head items span t ts word list = λ e rest. some_fault _ _ e
section_step Other old fin head items span t ts word list = λ e rest. some_fault _ _ e

layer_step : (old fin : DomainParts) (t : Tree) (ts : List Tree) (x : Tree-F Tree) → out-Tree t ≡ x → Step old fin t ts (section_layer x old)
layer_step old fin t ts (Tree-F.Leaf kind text span) is = λ e rest. some_fault _ _ e
layer_step old fin t ts (Tree-F.Branch [] span) is = λ e rest. some_fault _ _ e
layer_step old fin t ts (Tree-F.Branch (head ∷ items) span) is = section_step (domain_key_of (seen head).face) old fin head items span t ts (domain_word head) is

sections_sound : (old : DomainParts) (ts : List Tree) → (sections_from old ts).faults ≡ [] → DomainFilled old (sections_from old ts).value ts
sections_sound old [] e = record { known = tt; requirements = refl; types = refl; constants = refl; predicates = refl; functions = refl; actions = []; join = sym (append-nil old.actions); are = refl }
sections_sound old (t ∷ ts) e =
    let h = none_of_both (section_of t old).faults (sections_from (section_of t old).value ts).faults e in
    layer_step old _ t ts (out-Tree t) refl h.0 (sections_sound (section_of t old).value ts h.1)

-- The other way

section_read : (key : DomainKey) (text : List ℕ) (old next : DomainParts) (a : Headed) (t : Tree) (ts : List Tree) → IsHeaded text a t → domain_key text ≡ key → section_by key a.span a.parts old ≡ said next → sections_from old (t ∷ ts) ≡ sections_from next ts
section_read key text old next a t ts is e reading =
    ap (λ (x : Said DomainParts). both (λ section rest. rest) x (sections_from x.value ts))
    (ap (λ (x : Tree-F Tree). section_layer x old) is.1 ∙ ap (λ (h : DomainKey). section_by h a.span a.parts old) (domain_key_at text is.0 is.2 ∙ e) ∙ reading)

requirements_key : domain_key (codes ":requirements") ≡ Requirements
unfolding domain_key
requirements_key = refl

types_key : domain_key (codes ":types") ≡ Types
unfolding domain_key
types_key = refl

constants_key : domain_key (codes ":constants") ≡ Constants
unfolding domain_key
constants_key = refl

predicates_key : domain_key (codes ":predicates") ≡ Predicates
unfolding domain_key
predicates_key = refl

functions_key : domain_key (codes ":functions") ≡ Functions
unfolding domain_key
functions_key = refl

action_key : domain_key (codes ":action") ≡ Action
unfolding domain_key
action_key = refl

abbrev Rest : DomainParts → List Tree → Type 0
Rest fin ts = (next : DomainParts) → DomainFilled next fin ts → sections_from next ts ≡ said fin

other_actions : (key : List ℕ) (a : Headed) (t : Tree) (ts : List Tree) (actions : List RawAction) → bytes_eq key (codes ":action") ≡ false → IsHeaded key a t → AreActions actions (t ∷ ts) → AreActions actions ts
other_actions key a t ts actions differ is h = elim h [
  | inl skip ↦ skip.1
  | inr one ↦ absurd (lacks (codes ":action") key a t differ is (record { parts = one.3.name ∷ one.3.rest; span = one.3.span }, one.3.list))
]

requirements_complete_at : (old fin : DomainParts) (a : Headed) (t : Tree) (ts : List Tree) → IsHeaded (codes ":requirements") a t → DomainFilled old fin (t ∷ ts) → Rest fin ts → sections_from old (t ∷ ts) ≡ said fin
requirements_complete_at old fin a t ts is h rest =
    let f = filling (codes ":requirements") AllRequired (flag old.requirements) (flag fin.requirements) a t ts is h.requirements in
    let next : DomainParts = record old { requirements = true } in
    section_read Requirements (codes ":requirements") old next a t ts is requirements_key
    (if_true (may_stand Requirements old) (with_section Requirements a.span a.parts old) (bad a.span old) (free_flag old.requirements f.1)
    ∙ mapped_said (λ known. record old { requirements = true }) (requirements_of a.parts) f.0 (requirements_complete a.parts f.2))
    ∙ rest next (record {
      known = h.known.1;
      requirements = f.3;
      types = skipped (IsHeaded (codes ":types")) (λ v b. AreSubtypes v b.parts) (old.types) (fin.types) t ts (lacks (codes ":types") (codes ":requirements") a t refl is) h.types;
      constants = skipped (IsHeaded (codes ":constants")) (λ v b. AreObjects v b.parts) (old.constants) (fin.constants) t ts (lacks (codes ":constants") (codes ":requirements") a t refl is) h.constants;
      predicates = skipped (IsHeaded (codes ":predicates")) (λ v b. ArePredicates v b.parts) (old.predicates) (fin.predicates) t ts (lacks (codes ":predicates") (codes ":requirements") a t refl is) h.predicates;
      functions = skipped (IsHeaded (codes ":functions")) (λ v b. AreFunctions v b.parts) (old.functions) (fin.functions) t ts (lacks (codes ":functions") (codes ":requirements") a t refl is) h.functions;
      actions = h.actions;
      join = h.join;
      are = other_actions (codes ":requirements") a t ts h.actions refl is h.are;
    })

types_complete : (old fin : DomainParts) (a : Headed) (t : Tree) (ts : List Tree) → IsHeaded (codes ":types") a t → DomainFilled old fin (t ∷ ts) → Rest fin ts → sections_from old (t ∷ ts) ≡ said fin
types_complete old fin a t ts is h rest =
    let f = filling (codes ":types") AreSubtypes (old.types) (fin.types) a t ts is h.types in
    let next : DomainParts = record old { types = Some f.0 } in
    section_read Types (codes ":types") old next a t ts is types_key
    (if_true (may_stand Types old) (with_section Types a.span a.parts old) (bad a.span old) (ap is_none f.1)
    ∙ mapped_said (λ types. record old { types = Some types }) (typed_types (map seen a.parts)) f.0 (subtypes_read.complete a.parts f.0 f.2))
    ∙ rest next (record {
      known = h.known.1;
      types = f.3;
      requirements = skipped (IsHeaded (codes ":requirements")) (λ v b. AllRequired v b.parts) (flag old.requirements) (flag fin.requirements) t ts (lacks (codes ":requirements") (codes ":types") a t refl is) h.requirements;
      constants = skipped (IsHeaded (codes ":constants")) (λ v b. AreObjects v b.parts) (old.constants) (fin.constants) t ts (lacks (codes ":constants") (codes ":types") a t refl is) h.constants;
      predicates = skipped (IsHeaded (codes ":predicates")) (λ v b. ArePredicates v b.parts) (old.predicates) (fin.predicates) t ts (lacks (codes ":predicates") (codes ":types") a t refl is) h.predicates;
      functions = skipped (IsHeaded (codes ":functions")) (λ v b. AreFunctions v b.parts) (old.functions) (fin.functions) t ts (lacks (codes ":functions") (codes ":types") a t refl is) h.functions;
      actions = h.actions;
      join = h.join;
      are = other_actions (codes ":types") a t ts h.actions refl is h.are;
    })

constants_complete : (old fin : DomainParts) (a : Headed) (t : Tree) (ts : List Tree) → IsHeaded (codes ":constants") a t → DomainFilled old fin (t ∷ ts) → Rest fin ts → sections_from old (t ∷ ts) ≡ said fin
constants_complete old fin a t ts is h rest =
    let f = filling (codes ":constants") AreObjects (old.constants) (fin.constants) a t ts is h.constants in
    let next : DomainParts = record old { constants = Some f.0 } in
    section_read Constants (codes ":constants") old next a t ts is constants_key
    (if_true (may_stand Constants old) (with_section Constants a.span a.parts old) (bad a.span old) (ap is_none f.1)
    ∙ mapped_said (λ constants. record old { constants = Some constants }) (typed_names (map seen a.parts)) f.0 (objects_read.complete a.parts f.0 f.2))
    ∙ rest next (record {
      known = h.known.1;
      constants = f.3;
      requirements = skipped (IsHeaded (codes ":requirements")) (λ v b. AllRequired v b.parts) (flag old.requirements) (flag fin.requirements) t ts (lacks (codes ":requirements") (codes ":constants") a t refl is) h.requirements;
      types = skipped (IsHeaded (codes ":types")) (λ v b. AreSubtypes v b.parts) (old.types) (fin.types) t ts (lacks (codes ":types") (codes ":constants") a t refl is) h.types;
      predicates = skipped (IsHeaded (codes ":predicates")) (λ v b. ArePredicates v b.parts) (old.predicates) (fin.predicates) t ts (lacks (codes ":predicates") (codes ":constants") a t refl is) h.predicates;
      functions = skipped (IsHeaded (codes ":functions")) (λ v b. AreFunctions v b.parts) (old.functions) (fin.functions) t ts (lacks (codes ":functions") (codes ":constants") a t refl is) h.functions;
      actions = h.actions;
      join = h.join;
      are = other_actions (codes ":constants") a t ts h.actions refl is h.are;
    })

predicates_complete : (old fin : DomainParts) (a : Headed) (t : Tree) (ts : List Tree) → IsHeaded (codes ":predicates") a t → DomainFilled old fin (t ∷ ts) → Rest fin ts → sections_from old (t ∷ ts) ≡ said fin
predicates_complete old fin a t ts is h rest =
    let f = filling (codes ":predicates") ArePredicates (old.predicates) (fin.predicates) a t ts is h.predicates in
    let next : DomainParts = record old { predicates = Some f.0 } in
    section_read Predicates (codes ":predicates") old next a t ts is predicates_key
    (if_true (may_stand Predicates old) (with_section Predicates a.span a.parts old) (bad a.span old) (ap is_none f.1)
    ∙ mapped_said (λ headers. record old { predicates = Some headers }) (predicate_headers a.parts) f.0 (predicates_read.complete a.parts f.0 f.2))
    ∙ rest next (record {
      known = h.known.1;
      predicates = f.3;
      requirements = skipped (IsHeaded (codes ":requirements")) (λ v b. AllRequired v b.parts) (flag old.requirements) (flag fin.requirements) t ts (lacks (codes ":requirements") (codes ":predicates") a t refl is) h.requirements;
      types = skipped (IsHeaded (codes ":types")) (λ v b. AreSubtypes v b.parts) (old.types) (fin.types) t ts (lacks (codes ":types") (codes ":predicates") a t refl is) h.types;
      constants = skipped (IsHeaded (codes ":constants")) (λ v b. AreObjects v b.parts) (old.constants) (fin.constants) t ts (lacks (codes ":constants") (codes ":predicates") a t refl is) h.constants;
      functions = skipped (IsHeaded (codes ":functions")) (λ v b. AreFunctions v b.parts) (old.functions) (fin.functions) t ts (lacks (codes ":functions") (codes ":predicates") a t refl is) h.functions;
      actions = h.actions;
      join = h.join;
      are = other_actions (codes ":predicates") a t ts h.actions refl is h.are;
    })

functions_complete : (old fin : DomainParts) (a : Headed) (t : Tree) (ts : List Tree) → IsHeaded (codes ":functions") a t → DomainFilled old fin (t ∷ ts) → Rest fin ts → sections_from old (t ∷ ts) ≡ said fin
functions_complete old fin a t ts is h rest =
    let f = filling (codes ":functions") AreFunctions (old.functions) (fin.functions) a t ts is h.functions in
    let next : DomainParts = record old { functions = Some f.0 } in
    section_read Functions (codes ":functions") old next a t ts is functions_key
    (if_true (may_stand Functions old) (with_section Functions a.span a.parts old) (bad a.span old) (ap is_none f.1)
    ∙ mapped_said (λ headers. record old { functions = Some headers }) (functions_of a.parts) f.0 (functions_read.complete a.parts f.0 f.2))
    ∙ rest next (record {
      known = h.known.1;
      functions = f.3;
      requirements = skipped (IsHeaded (codes ":requirements")) (λ v b. AllRequired v b.parts) (flag old.requirements) (flag fin.requirements) t ts (lacks (codes ":requirements") (codes ":functions") a t refl is) h.requirements;
      types = skipped (IsHeaded (codes ":types")) (λ v b. AreSubtypes v b.parts) (old.types) (fin.types) t ts (lacks (codes ":types") (codes ":functions") a t refl is) h.types;
      constants = skipped (IsHeaded (codes ":constants")) (λ v b. AreObjects v b.parts) (old.constants) (fin.constants) t ts (lacks (codes ":constants") (codes ":functions") a t refl is) h.constants;
      predicates = skipped (IsHeaded (codes ":predicates")) (λ v b. ArePredicates v b.parts) (old.predicates) (fin.predicates) t ts (lacks (codes ":predicates") (codes ":functions") a t refl is) h.predicates;
      actions = h.actions;
      join = h.join;
      are = other_actions (codes ":functions") a t ts h.actions refl is h.are;
    })

one_action : (t : Tree) (ts : List Tree) (actions : List RawAction) → HasHead (codes ":action") t → AreActions actions (t ∷ ts) → (x : RawAction) × (rest : List RawAction) × (actions ≡ x ∷ rest) × IsAction x t × AreActions rest ts
one_action t ts actions has h = elim h [
  | inl skip ↦ absurd (skip.0 has)
  | inr one ↦ one
]

action_section : (old fin : DomainParts) (a : Headed) (t : Tree) (ts : List Tree) → IsHeaded (codes ":action") a t → DomainFilled old fin (t ∷ ts) → Rest fin ts → sections_from old (t ∷ ts) ≡ said fin
action_section old fin a t ts is h rest =
    let one = one_action t ts h.actions (a, is) h.are in
    let form = one.3 in
    let b : Headed = record { parts = form.name ∷ form.rest; span = form.span } in
    let next : DomainParts = record old { actions = old.actions ++ one.0 ∷ [] } in
    section_read Action (codes ":action") old next b t ts form.list action_key
    (mapped_said (λ action. record old { actions = old.actions ++ action ∷ [] }) (action_at form.span (form.name ∷ form.rest)) one.0 (action_complete one.0 t form))
    ∙ rest next (record {
      known = h.known.1;
      requirements = skipped (IsHeaded (codes ":requirements")) (λ v b. AllRequired v b.parts) (flag old.requirements) (flag fin.requirements) t ts (lacks (codes ":requirements") (codes ":action") a t refl is) h.requirements;
      types = skipped (IsHeaded (codes ":types")) (λ v b. AreSubtypes v b.parts) (old.types) (fin.types) t ts (lacks (codes ":types") (codes ":action") a t refl is) h.types;
      constants = skipped (IsHeaded (codes ":constants")) (λ v b. AreObjects v b.parts) (old.constants) (fin.constants) t ts (lacks (codes ":constants") (codes ":action") a t refl is) h.constants;
      predicates = skipped (IsHeaded (codes ":predicates")) (λ v b. ArePredicates v b.parts) (old.predicates) (fin.predicates) t ts (lacks (codes ":predicates") (codes ":action") a t refl is) h.predicates;
      functions = skipped (IsHeaded (codes ":functions")) (λ v b. AreFunctions v b.parts) (old.functions) (fin.functions) t ts (lacks (codes ":functions") (codes ":action") a t refl is) h.functions;
      actions = one.1;
      join = h.join ∙ ap (λ (later : List RawAction). old.actions ++ later) one.2 ∙ sym (append_assoc old.actions (one.0 ∷ []) one.1);
      are = one.4;
    })

pub flag_same : (b d : Bool) → flag b ≡ flag d → b ≡ d
flag_same true true e = refl
flag_same false false e = refl
flag_same true false e = let h : ⊥ = cc in absurd h
flag_same false true e = let h : ⊥ = cc in absurd h

parts_same : (old fin : DomainParts) → fin.requirements ≡ old.requirements → fin.types ≡ old.types → fin.constants ≡ old.constants → fin.predicates ≡ old.predicates → fin.functions ≡ old.functions → fin.actions ≡ old.actions → old ≡ fin
parts_same old fin a b d e f g = λ i. record { requirements = sym a i; types = sym b i; constants = sym d i; predicates = sym e i; functions = sym f i; actions = sym g i }

sections_complete : (ts : List Tree) (old fin : DomainParts) → DomainFilled old fin ts → sections_from old ts ≡ said fin
sections_complete [] old fin h =
    ap said (parts_same old fin (flag_same fin.requirements old.requirements h.requirements) h.types h.constants h.predicates h.functions (h.join ∙ ap (λ (v : List RawAction). old.actions ++ v) h.are ∙ append-nil old.actions))
sections_complete (t ∷ ts) old fin h =
    by_key h.known.0.0 h.known.0.1.0 h.known.0.1.1 h.known.0.2 (sections_complete ts)
  where
    under : (text key : List ℕ) (a : Headed) → text ≡ key → IsHeaded text a t → IsHeaded key a t
    under text key a e is = subst (λ (v : List ℕ). IsHeaded v a t) e is

    by_key : (text : List ℕ) (a : Headed) → IsHeaded text a t → list_any (λ w. bytes_eq text w) domain_sections ≡ true → ((next last : DomainParts) → DomainFilled next last ts → sections_from next ts ≡ said last) → sections_from old (t ∷ ts) ≡ said fin
    by_key text a is e rest = elim (listed_first text (codes ":requirements") (codes ":types" ∷ codes ":constants" ∷ codes ":predicates" ∷ codes ":functions" ∷ codes ":action" ∷ []) e) [
      | inl k ↦ requirements_complete_at old fin a t ts (under text (codes ":requirements") a k is) h (λ next. rest next fin)
      | inr e1 ↦ elim (listed_first text (codes ":types") (codes ":constants" ∷ codes ":predicates" ∷ codes ":functions" ∷ codes ":action" ∷ []) e1) [
        | inl k ↦ types_complete old fin a t ts (under text (codes ":types") a k is) h (λ next. rest next fin)
        | inr e2 ↦ elim (listed_first text (codes ":constants") (codes ":predicates" ∷ codes ":functions" ∷ codes ":action" ∷ []) e2) [
          | inl k ↦ constants_complete old fin a t ts (under text (codes ":constants") a k is) h (λ next. rest next fin)
          | inr e3 ↦ elim (listed_first text (codes ":predicates") (codes ":functions" ∷ codes ":action" ∷ []) e3) [
            | inl k ↦ predicates_complete old fin a t ts (under text (codes ":predicates") a k is) h (λ next. rest next fin)
            | inr e4 ↦ elim (listed_first text (codes ":functions") (codes ":action" ∷ []) e4) [
              | inl k ↦ functions_complete old fin a t ts (under text (codes ":functions") a k is) h (λ next. rest next fin)
              | inr e5 ↦ elim (listed_first text (codes ":action") [] e5) [
                | inl k ↦ action_section old fin a t ts (under text (codes ":action") a k is) h (λ next. rest next fin)
                | inr e6 ↦ true_false (sym e6)
              ]
            ]
          ]
        ]
      ]
    ]

-- Files

-- what stands in a section, and nothing where it is missing
pub held : {A : Type 0} (Are : List A → List Tree → Type 0) (o : Option (List A)) (found : Option Headed) → OfFound (λ v (h : Headed). Are v h.parts) o found → Holds Are (unwrap_or o []) found
held Are None None h = refl
held Are (Some v) (Some b) h = h
held Are None (Some b) h = absurd h
held Are (Some v) None h = absurd h

pub given : {A : Type 0} (Are : List A → List Tree → Type 0) (items : List A) (found : Option Headed) → Holds Are items found → (o : Option (List A)) × OfFound (λ v (h : Headed). Are v h.parts) o found × (unwrap_or o [] ≡ items)
given Are items None h = (None, tt, sym h)
given Are items (Some b) h = (Some items, h, refl)

pub required : (b : Bool) (found : Option Headed) → OfFound (λ (u : Unit {0}) (h : Headed). AllRequired u h.parts) (flag b) found → AreRequirements found
required b None h = tt
required true (Some a) h = h
required false (Some a) h = absurd h

pub given_flag : (found : Option Headed) → AreRequirements found → (b : Bool) × OfFound (λ (u : Unit {0}) (h : Headed). AllRequired u h.parts) (flag b) found
given_flag None h = (false, tt)
given_flag (Some a) h = (true, h)

pub stood : {V : Type 0} (key : List ℕ) (Of : V → List Tree → Type 0) (new : Option V) (ts : List Tree) → In key Of None new ts → (found : Option Headed) × IsSection key found ts × OfFound (λ v (h : Headed). Of v h.parts) new found
stood key Of new ts h = section_of_slot key (λ v a. Of v a.parts) new ts (slot_of (IsHeaded key) (λ v a. Of v a.parts) new ts h)

pub stands_in : {V : Type 0} (key : List ℕ) (Of : V → List Tree → Type 0) (new : Option V) (ts : List Tree) (found : Option Headed) → IsSection key found ts → OfFound (λ v (h : Headed). Of v h.parts) new found → In key Of None new ts
stands_in key Of new ts found stands of = filled_of (IsHeaded key) (λ v a. Of v a.parts) new ts (slot_of_section key (λ v a. Of v a.parts) new ts found stands of)

behind_sound : (head title : Tree) (sections : List Tree) (span : Span) (t : Tree) → IsList (head ∷ title ∷ sections) span t → IsWord (codes "define") head → (domain_behind title sections).faults ≡ [] → IsDomain (domain_behind title sections).value t
behind_sound head title sections span t list word e =
    let none = none_of_both (title_of (codes "domain") title).faults (sections_from no_sections sections).faults e in
    let h = sections_sound no_sections sections none.1 in
    let fin = (sections_from no_sections sections).value in
    let r = stood (codes ":requirements") AllRequired (flag fin.requirements) sections h.requirements in
    let ty = stood (codes ":types") AreSubtypes fin.types sections h.types in
    let co = stood (codes ":constants") AreObjects fin.constants sections h.constants in
    let pr = stood (codes ":predicates") ArePredicates fin.predicates sections h.predicates in
    let fu = stood (codes ":functions") AreFunctions fin.functions sections h.functions in
    record {
      title = title;
      sections = sections;
      span = span;
      list = (head, list, word);
      named = (title_reads (codes "domain")).sound title none.0;
      known = h.known;
      requirements_section = r.0;
      requirements_stand = r.1;
      requirements = required fin.requirements r.0 r.2;
      types_section = ty.0;
      types_stand = ty.1;
      types = held AreSubtypes fin.types ty.0 ty.2;
      constants_section = co.0;
      constants_stand = co.1;
      constants = held AreObjects fin.constants co.0 co.2;
      predicates_section = pr.0;
      predicates_stand = pr.1;
      predicates = held ArePredicates fin.predicates pr.0 pr.2;
      functions_section = fu.0;
      functions_stand = fu.1;
      functions = held AreFunctions fin.functions fu.0 fu.2;
      actions = subst (λ (v : List RawAction). AreActions v sections) (sym h.join) h.are;
    }

domain_sound : (t : Tree) (x : Tree-F Tree) → out-Tree t ≡ x → (domain_layer x).faults ≡ [] → IsDomain (domain_layer x).value t
domain_sound t (Tree-F.Leaf kind text span) is = λ e. some_fault _ _ e
domain_sound t (Tree-F.Branch [] span) is = λ e. some_fault _ _ e
domain_sound t (Tree-F.Branch (head ∷ []) span) is = λ e. some_fault _ _ e
domain_sound t (Tree-F.Branch (head ∷ title ∷ sections) span) is =
    by_test (λ (x : Said Domain). x.faults ≡ [] → IsDomain x.value t) (has_text (codes "define") (seen head).face) (domain_behind title sections) (no_domain span)
    (λ word e. behind_sound head title sections span t is (text_sound (codes "define") head word) e)
    (λ word e. some_fault _ _ e)

same_domain : (d : Domain) (types constants : List Typed) (predicates functions : List Header) → types ≡ d.types → constants ≡ d.constants → predicates ≡ d.predicates → functions ≡ d.functions → record { name = d.name; types = types; constants = constants; predicates = predicates; functions = functions; actions = d.actions } ≡ d
same_domain d types constants predicates functions a b e f = λ i. record { name = d.name; types = a i; constants = b i; predicates = e i; functions = f i; actions = d.actions }

domain_complete : (d : Domain) (t : Tree) → IsDomain d t → domain_of t ≡ said d
domain_complete d t h =
    let r = given_flag h.requirements_section h.requirements in
    let ty = given AreSubtypes d.types h.types_section h.types in
    let co = given AreObjects d.constants h.constants_section h.constants in
    let pr = given ArePredicates d.predicates h.predicates_section h.predicates in
    let fu = given AreFunctions d.functions h.functions_section h.functions in
    let fin : DomainParts = record { requirements = r.0; types = ty.0; constants = co.0; predicates = pr.0; functions = fu.0; actions = d.actions } in
    ap domain_layer h.list.1
    ∙ if_true (has_text (codes "define") (seen h.list.0).face) (domain_behind h.title h.sections) (no_domain h.span) (text_complete (codes "define") h.list.0 h.list.2)
    ∙ both_said made_domain (title_of (codes "domain") h.title) (sections_from no_sections h.sections) d.name fin ((title_reads (codes "domain")).complete h.title d.name h.named)
    (sections_complete h.sections no_sections fin (record {
      known = h.known;
      requirements = stands_in (codes ":requirements") AllRequired (flag r.0) h.sections h.requirements_section h.requirements_stand r.1;
      types = stands_in (codes ":types") AreSubtypes ty.0 h.sections h.types_section h.types_stand ty.1;
      constants = stands_in (codes ":constants") AreObjects co.0 h.sections h.constants_section h.constants_stand co.1;
      predicates = stands_in (codes ":predicates") ArePredicates pr.0 h.sections h.predicates_section h.predicates_stand pr.1;
      functions = stands_in (codes ":functions") AreFunctions fu.0 h.sections h.functions_section h.functions_stand fu.1;
      actions = d.actions;
      join = refl;
      are = h.actions;
    }))
    ∙ ap said (same_domain d (unwrap_or ty.0 []) (unwrap_or co.0 []) (unwrap_or pr.0 []) (unwrap_or fu.0 []) ty.2 co.2 pr.2 fu.2)

pub domain_reads : IsReadingOf domain_of IsDomain
domain_reads = record { sound = λ t e. domain_sound t (out-Tree t) refl e; complete = λ t d h. domain_complete d t h }
