-- What the files of the grammar declare has words of kind Name.
use Rattle.std.proofs.Common.{ℕ, Option, Some, None, List, [], ◌∷◌, codes, inl, inr, sym, subst, All}
use Rattle.std.proofs.lemmas.List.Elements.{All-nil, All-cons, All-head, All-tail, All-append, All-map}
use Rattle.mf_model.specs.declared.token.Span.{Span}
use Rattle.mf_model.specs.declared.tree.Tree.{Tree}
use Rattle.mf_model.specs.declared.form.Header.{Header}
use Rattle.mf_model.specs.declared.form.RawAction.{RawAction}
use Rattle.mf_model.specs.declared.form.Typed.{Typed}
use Rattle.mf_model.specs.declared.form.Word.{Word}
use Rattle.mf_model.specs.declared.form.Domain.{Domain}
use Rattle.mf_model.specs.declared.form.Problem.{Problem}
use Rattle.mf_model.specs.Forms.{Each, Headed, IsName, IsPredicate, IsSection, OneSection}
use Rattle.mf_model.specs.TypedLists.{typed_as}
use Rattle.mf_lex.proofs.KindedTrees.{IsKinded, name_kinded, list_kinded}
use Rattle.mf_lex.proofs.Whole.{all_left, all_right}
use Rattle.mf_reader.specs.GrammarTerms.{IsListed, IsNamedType, IsType, IsItem, Group, AreGrouped, typed_items, AreObjects, AreSubtypes}
use Rattle.mf_reader.specs.GrammarSections.{IsHeader, ArePredicates, IsNumber, grouped_items, AreFunctions, IsAction, AreActions}
use Rattle.mf_reader.specs.GrammarFiles.{Holds, IsDomain, IsProblem}
use Rattle.mf_types.specs.Written.{IsNamed, AreNamed}

name_named : (w : Word) (t : Tree) → IsName w t → IsKinded t → IsNamed w
name_named w t h kinded = name_kinded w.text w.span t h kinded

-- the parts of a list behind its head
parts_kinded : (text : List ℕ) (parts : List Tree) (span : Span) (t : Tree) → IsListed text parts span t → IsKinded t → All IsKinded parts
parts_kinded text parts span t h kinded = All-tail IsKinded h.0 parts (list_kinded (h.0 ∷ parts) span t h.1 kinded)

-- Rows and groups

row_named : {A : Type 0} (P : A → Type 0) (Form : A → Tree → Type 0) → ((x : A) (t : Tree) → Form x t → IsKinded t → P x) → (xs : List A) (ts : List Tree) → Each Form xs ts → All IsKinded ts → All P xs
row_named P Form h [] ts each kinded = All-nil P
row_named P Form h (x ∷ xs) [] each kinded = absurd each
row_named P Form h (x ∷ xs) (t ∷ ts) each kinded =
    All-cons P x xs (h x t each.0 (All-head IsKinded t ts kinded)) (row_named P Form h xs ts each.1 (All-tail IsKinded t ts kinded))

record IsNamedGroup {A B : Type 0} (P : A → Type 0) (Q : B → Type 0) (g : Group A B) : Type 0 where
  items : All P g.items
  kind : Q g.kind

record AreNamedGroups {A B : Type 0} (P : A → Type 0) (Q : B → Type 0) (gs : List (Group A B)) (others : List A) : Type 0 where
  groups : All (IsNamedGroup P Q) gs
  last : All P others

groups_named : {A B : Type 0} (P : A → Type 0) (Q : B → Type 0) (Form : A → Tree → Type 0) (Kind : B → Tree → Type 0) → ((x : A) (t : Tree) → Form x t → IsKinded t → P x) → ((k : B) (t : Tree) → Kind k t → IsKinded t → Q k) →
    (groups : List (Group A B)) (last : List A) (ts : List Tree) → AreGrouped Form Kind groups last ts → All IsKinded ts → AreNamedGroups P Q groups last
groups_named P Q Form Kind item_named kind_named [] last ts h kinded = record {
  groups = All-nil (IsNamedGroup P Q);
  last = row_named P (IsItem Form) (λ x t is. item_named x t is.0) last ts h kinded;
}
groups_named P Q Form Kind item_named kind_named (g ∷ gs) last ts h kinded =
    let rest = h.0 in
    let group = h.1 in
    let whole = subst (All IsKinded) group.split kinded in
    let front = all_left IsKinded group.front (group.dash ∷ group.kind ∷ rest) whole in
    let back = All-tail IsKinded group.dash (group.kind ∷ rest) (all_right IsKinded group.front (group.dash ∷ group.kind ∷ rest) whole) in
    let others = groups_named P Q Form Kind item_named kind_named gs last rest h.2 (All-tail IsKinded group.kind rest back) in
    let own : IsNamedGroup P Q g = record {
      items = row_named P (IsItem Form) (λ x t is. item_named x t is.0) g.items group.front group.are_items front;
      kind = kind_named g.kind group.kind group.is_kind (All-head IsKinded group.kind rest back);
    } in
    record { groups = All-cons (IsNamedGroup P Q) g gs own others.groups; last = others.last }

-- Typed lists

items_named : (Q : List Word → Type 0) (groups : List (Group Word (List Word))) (last : List Word) → AreNamedGroups IsNamed Q groups last → All (λ item. IsNamed item.word) (typed_items groups last)
items_named Q [] last h = All-map (λ (item : Typed). IsNamed item.word) _ last h.last
items_named Q (g ∷ gs) last h =
    let own = All-head (IsNamedGroup IsNamed Q) g gs h.groups in
    All-append (λ (item : Typed). IsNamed item.word) (typed_as g.kind g.items) (typed_items gs last)
    (All-map (λ (item : Typed). IsNamed item.word) _ g.items own.items)
    (items_named Q gs last (record { groups = All-tail (IsNamedGroup IsNamed Q) g gs h.groups; last = h.last }))

kinds_named : (groups : List (Group Word (List Word))) (last : List Word) → AreNamedGroups IsNamed (All IsNamed) groups last → All (λ item. All IsNamed item.types) (typed_items groups last)
kinds_named [] last h = All-map (λ (item : Typed). All IsNamed item.types) _ last (λ k d within. All-nil IsNamed)
kinds_named (g ∷ gs) last h =
    let own = All-head (IsNamedGroup IsNamed (All IsNamed)) g gs h.groups in
    All-append (λ (item : Typed). All IsNamed item.types) (typed_as g.kind g.items) (typed_items gs last)
    (All-map (λ (item : Typed). All IsNamed item.types) _ g.items (λ k d within. own.kind))
    (kinds_named gs last (record { groups = All-tail (IsNamedGroup IsNamed (All IsNamed)) g gs h.groups; last = h.last }))

abbrev Anything : List Word → Type 0
Anything types = Unit {0}

objects_named : (items : List Typed) (ts : List Tree) → AreObjects items ts → All IsKinded ts → All (λ item. IsNamed item.word) items
objects_named items ts h kinded =
    subst (All (λ item. IsNamed item.word)) (sym h.3)
    (items_named Anything h.0 h.1 (groups_named IsNamed Anything IsName IsType name_named (λ types t is tree. tt) h.0 h.1 ts h.2 kinded))

type_named : (types : List Word) (t : Tree) → IsNamedType types t → IsKinded t → All IsNamed types
type_named types t h kinded = subst (All IsNamed) (sym h.1) (All-cons IsNamed h.0 [] (name_named h.0 t h.2 kinded) (All-nil IsNamed))

subtypes_named : (items : List Typed) (ts : List Tree) → AreSubtypes items ts → All IsKinded ts → All (λ item. IsNamed item.word) items
subtypes_named items ts h kinded =
    subst (All (λ item. IsNamed item.word)) (sym h.3)
    (items_named (All IsNamed) h.0 h.1 (groups_named IsNamed (All IsNamed) IsName IsNamedType name_named type_named h.0 h.1 ts h.2 kinded))

parents_named : (items : List Typed) (ts : List Tree) → AreSubtypes items ts → All IsKinded ts → All (λ item. All IsNamed item.types) items
parents_named items ts h kinded =
    subst (All (λ item. All IsNamed item.types)) (sym h.3)
    (kinds_named h.0 h.1 (groups_named IsNamed (All IsNamed) IsName IsNamedType name_named type_named h.0 h.1 ts h.2 kinded))

-- Predicates and functions

abbrev IsNamedHeader : Header → Type 0
IsNamedHeader h = IsNamed h.word

header_named : (IsHead : Word → Tree → Type 0) → ((w : Word) (t : Tree) → IsHead w t → IsName w t) → (h : Header) (t : Tree) → IsHeader IsHead h t → IsKinded t → IsNamedHeader h
header_named IsHead is_name h t is kinded =
    name_named h.word is.head (is_name h.word is.head is.named) (All-head IsKinded is.head is.parts (list_kinded (is.head ∷ is.parts) is.span t is.list kinded))

predicates_named : (headers : List Header) (ts : List Tree) → ArePredicates headers ts → All IsKinded ts → All IsNamedHeader headers
predicates_named = row_named IsNamedHeader (IsHeader IsPredicate) (header_named IsPredicate (λ w t is. is.0))

abbrev AnyType : Word → Type 0
AnyType w = Unit {0}

headers_named : (groups : List (Group Header Word)) (last : List Header) → AreNamedGroups IsNamedHeader AnyType groups last → All IsNamedHeader (grouped_items groups last)
headers_named [] last h = h.last
headers_named (g ∷ gs) last h =
    let own = All-head (IsNamedGroup IsNamedHeader AnyType) g gs h.groups in
    All-append IsNamedHeader g.items (grouped_items gs last) own.items (headers_named gs last (record { groups = All-tail (IsNamedGroup IsNamedHeader AnyType) g gs h.groups; last = h.last }))

functions_named : (headers : List Header) (ts : List Tree) → AreFunctions headers ts → All IsKinded ts → All IsNamedHeader headers
functions_named headers ts h kinded =
    subst (All IsNamedHeader) (sym h.3)
    (headers_named h.0 h.1 (groups_named IsNamedHeader AnyType (IsHeader IsName) IsNumber (header_named IsName (λ w t is. is)) (λ w t is tree. tt) h.0 h.1 ts h.2 kinded))

-- Actions

abbrev IsNamedAction : RawAction → Type 0
IsNamedAction a = IsNamed a.word

action_named : (a : RawAction) (t : Tree) → IsAction a t → IsKinded t → IsNamedAction a
action_named a t h kinded =
    name_named a.word h.name h.named (All-head IsKinded h.name h.rest (parts_kinded (codes ":action") (h.name ∷ h.rest) h.span t h.list kinded))

actions_named : (actions : List RawAction) (ts : List Tree) → AreActions actions ts → All IsKinded ts → All IsNamedAction actions
actions_named actions [] h kinded = subst (All IsNamedAction) (sym h) (All-nil IsNamedAction)
actions_named actions (t ∷ ts) (inl others) kinded = actions_named actions ts others.1 (All-tail IsKinded t ts kinded)
actions_named actions (t ∷ ts) (inr (a, rest, is, action, others)) kinded =
    subst (All IsNamedAction) (sym is) (All-cons IsNamedAction a rest (action_named a t action (All-head IsKinded t ts kinded)) (actions_named rest ts others (All-tail IsKinded t ts kinded)))

-- Sections

section_kinded : (key : List ℕ) (headed : Headed) (sections : List Tree) → OneSection key headed sections → All IsKinded sections → All IsKinded headed.parts
section_kinded key headed sections h kinded =
    let from = all_right IsKinded h.before (h.section ∷ h.after) (subst (All IsKinded) h.split kinded) in
    parts_kinded key headed.parts headed.span h.section h.is (All-head IsKinded h.section h.after from)

section_named : {A : Type 0} (P : A → Type 0) (Are : List A → List Tree → Type 0) → ((xs : List A) (ts : List Tree) → Are xs ts → All IsKinded ts → All P xs) →
    (key : List ℕ) (items : List A) (section : Option Headed) (sections : List Tree) → IsSection key section sections → Holds Are items section → All IsKinded sections → All P items
section_named P Are named key items None sections stands h kinded = subst (All P) (sym h) (All-nil P)
section_named P Are named key items (Some headed) sections stands h kinded = named items headed.parts h (section_kinded key headed sections stands kinded)

-- Both files

pub files_named : (domain_tree problem_tree : Tree) (d : Domain) (p : Problem) → IsKinded domain_tree → IsKinded problem_tree → IsDomain d domain_tree → IsProblem p problem_tree → AreNamed d p
files_named domain_tree problem_tree d p domain_kinded problem_kinded is_domain is_problem =
    let in_domain = All-tail IsKinded is_domain.title is_domain.sections (parts_kinded (codes "define") (is_domain.title ∷ is_domain.sections) is_domain.span domain_tree is_domain.list domain_kinded) in
    let in_problem = All-tail IsKinded is_problem.title is_problem.sections (parts_kinded (codes "define") (is_problem.title ∷ is_problem.sections) is_problem.span problem_tree is_problem.list problem_kinded) in
    record {
      types = section_named (λ item. IsNamed item.word) AreSubtypes subtypes_named (codes ":types") d.types is_domain.types_section is_domain.sections is_domain.types_stand is_domain.types in_domain;
      parents = section_named (λ item. All IsNamed item.types) AreSubtypes parents_named (codes ":types") d.types is_domain.types_section is_domain.sections is_domain.types_stand is_domain.types in_domain;
      constants = section_named (λ item. IsNamed item.word) AreObjects objects_named (codes ":constants") d.constants is_domain.constants_section is_domain.sections is_domain.constants_stand is_domain.constants in_domain;
      objects = section_named (λ item. IsNamed item.word) AreObjects objects_named (codes ":objects") p.objects is_problem.objects_section is_problem.sections is_problem.objects_stand is_problem.objects in_problem;
      predicates = section_named IsNamedHeader ArePredicates predicates_named (codes ":predicates") d.predicates is_domain.predicates_section is_domain.sections is_domain.predicates_stand is_domain.predicates in_domain;
      functions = section_named IsNamedHeader AreFunctions functions_named (codes ":functions") d.functions is_domain.functions_section is_domain.sections is_domain.functions_stand is_domain.functions in_domain;
      actions = actions_named d.actions is_domain.sections is_domain.actions in_domain;
    }
