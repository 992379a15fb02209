-- What is said of types and typed lists agrees with their forms.
use Rattle.std.proofs.Common.{◌≡◌, ◌≢◌, Bool, true, false, if◌then◌else◌, List, [], ◌∷◌, ◌++◌, map, refl, ap, sym, ◌∙◌, subst, inl, inr, codes, append_assoc}
use Rattle.std.proofs.lemmas.List.{append-nil}
use Rattle.mf_model.proofs.Choices.{if_false, if_true}
use Rattle.mf_model.specs.declared.token.Kind.TheVariants.{Name}
use Rattle.mf_model.specs.declared.token.Span.{Span}
use Rattle.mf_model.specs.declared.tree.Tree.{Tree}
use Rattle.mf_model.specs.declared.form.Word.{Word}
use Rattle.mf_model.specs.declared.form.Typed.{Typed}
use Rattle.mf_model.specs.TypedLists.{typed_as}
use Rattle.mf_model.specs.Forms.{IsList, IsWord, Each, IsName, IsVariable}
use Rattle.mf_reader.specs.declared.typed.Listed.{Listed}
use Rattle.mf_reader.specs.declared.typed.Listed.TheVariants.{Variables, Names, Types}
use Rattle.mf_reader.specs.Said.{Said, said, bad, left_out, both, each}
use Rattle.mf_reader.specs.Faces.{has_text, is_dash, name_at, no_word, span_of, word}
use Rattle.mf_reader.specs.Places.{Seen}
use Rattle.mf_reader.specs.Seen.{seen}
use Rattle.mf_reader.specs.Typed.{alone, either_types, list_types, list_parent, item_in, types_in, grouped, group_from, dash_from, typed_list}
use Rattle.mf_reader.specs.GrammarTerms.{IsNamedType, IsType, Group, IsDash, IsItem, AreGrouped, typed_items, AreTyped, IsVariableList}
use Rattle.mf_reader.proofs.Branches.{seen_leaf, seen_branch, by_cases}
use Rattle.mf_reader.proofs.Readings.{Reads, some_fault, none_of_both, both_said, mapped_said, each_sound, each_complete, all_reads}
use Rattle.mf_reader.proofs.Choices.{by_test}
use Rattle.mf_reader.proofs.WordReadings.{true_false, name_reads, variable_reads, text_sound, text_complete, text_not}

-- Types in `:types`

parent_sound : (t : Tree) → (seen t).parent.faults ≡ [] → IsName (seen t).parent.value t
parent_sound t = by_cases (λ t. (seen t).parent.faults ≡ [] → IsName (seen t).parent.value t)
    (λ kind text span t h. subst (λ (s : Seen). s.parent.faults ≡ [] → IsName s.parent.value t) (sym (seen_leaf kind text span t h))
    (subst (λ (s : Seen). (name_at s.face).faults ≡ [] → IsName (name_at s.face).value t) (seen_leaf kind text span t h) (name_reads t).sound))
    (λ items span t h. subst (λ (s : Seen). s.parent.faults ≡ [] → IsName s.parent.value t) (sym (seen_branch items span t h)) (list_parent_sound items span t)) t
  where
    head_parent : (span : Span) (b : Bool) (t : Tree) → (if b then left_out span (word [] span) else no_word span).faults ≡ [] → IsName (if b then left_out span (word [] span) else no_word span).value t
    head_parent span true t e = some_fault _ _ e
    head_parent span false t e = some_fault _ _ e

    list_parent_sound : (items : List Tree) (span : Span) (t : Tree) → (list_parent span (map seen items)).faults ≡ [] → IsName (list_parent span (map seen items)).value t
    list_parent_sound [] span t e = some_fault _ _ e
    list_parent_sound (head ∷ parts) span t e = head_parent span (has_text (codes "either") (seen head).face) t e

pub parent_reads : (t : Tree) → Reads (λ s. s.parent) IsName t
parent_reads t = record {
  sound = parent_sound t;
  complete = λ w h. ap (λ (s : Seen). s.parent) (seen_leaf Name w.text w.span t h);
}

pub named_reads : (t : Tree) → Reads (types_in Types) IsNamedType t
named_reads t = record {
  sound = λ e. ((seen t).parent.value, refl, (parent_reads t).sound e);
  complete = λ ws h. mapped_said alone (seen t).parent h.0 ((parent_reads t).complete h.0 h.2) ∙ ap said (sym h.1);
}

-- Types of items

names_reads : (ts : List Tree) → (each (λ s. name_at s.face) (map seen ts)).faults ≡ [] → Each IsName (each (λ s. name_at s.face) (map seen ts)).value ts
names_reads ts = each_sound (λ s. name_at s.face) IsName ts (all_reads (λ s. name_at s.face) IsName name_reads ts)

pub cons_some : {A : Type 0} (x : A) (xs : List A) → x ∷ xs ≢ []
cons_some x xs = λ e. some_fault x xs e

either_sound : (t head : Tree) (parts : List Tree) (span : Span) → IsList (head ∷ parts) span t → IsWord (codes "either") head → (either_types span (map seen parts)).faults ≡ [] → IsType (either_types span (map seen parts)).value t
either_sound t head [] span list word e = some_fault _ _ e
either_sound t head (p ∷ ps) span list word e = inr (record {
  parts = p ∷ ps;
  span = span;
  list = (head, list, word);
  names = names_reads (p ∷ ps) e;
  some = cons_some _ _;
})

list_types_sound : (items : List Tree) (span : Span) (t : Tree) → IsList items span t → (list_types span (map seen items)).faults ≡ [] → IsType (list_types span (map seen items)).value t
list_types_sound [] span t list = λ e. some_fault _ _ e
list_types_sound (head ∷ parts) span t list =
    by_test (λ (x : Said (List Word)). x.faults ≡ [] → IsType x.value t) (has_text (codes "either") (seen head).face) (either_types span (map seen parts)) (bad span [])
    (λ is. either_sound t head parts span list (text_sound (codes "either") head is))
    (λ is e. some_fault _ _ e)

types_sound : (t : Tree) → (seen t).types.faults ≡ [] → IsType (seen t).types.value t
types_sound t = by_cases (λ t. (seen t).types.faults ≡ [] → IsType (seen t).types.value t)
    (λ kind text span t h. subst (λ (s : Seen). s.types.faults ≡ [] → IsType s.types.value t) (sym (seen_leaf kind text span t h))
    (subst (λ (s : Seen). (name_at s.face).faults ≡ [] → IsType (alone (name_at s.face).value) t) (seen_leaf kind text span t h) (λ e. inl ((name_at (seen t).face).value, refl, (name_reads t).sound e))))
    (λ items span t h. subst (λ (s : Seen). s.types.faults ≡ [] → IsType s.types.value t) (sym (seen_branch items span t h)) (list_types_sound items span t h)) t

either_complete : (span : Span) (parts : List Tree) (ws : List Word) → ws ≢ [] → Each IsName ws parts → either_types span (map seen parts) ≡ said ws
either_complete span [] [] some names = absurd (some refl)
either_complete span [] (w ∷ ws) some names = absurd names
either_complete span (p ∷ ps) ws some names = each_complete (λ s. name_at s.face) IsName (p ∷ ps) (all_reads (λ s. name_at s.face) IsName name_reads (p ∷ ps)) ws names

types_complete : (t : Tree) (ws : List Word) → IsType ws t → (seen t).types ≡ said ws
types_complete t ws h = elim h [
  | inl name ↦ ap (λ (s : Seen). s.types) (seen_leaf Name name.0.text name.0.span t name.2) ∙ ap said (sym name.1)
  | inr either ↦
      ap (λ (s : Seen). s.types) (seen_branch (either.list.0 ∷ either.parts) either.span t either.list.1)
      ∙ if_true (has_text (codes "either") (seen either.list.0).face) (either_types either.span (map seen either.parts)) (bad either.span []) (text_complete (codes "either") either.list.0 either.list.2)
      ∙ either_complete either.span either.parts ws either.some either.names
]

pub types_reads : (t : Tree) → Reads (λ s. s.types) IsType t
types_reads t = record { sound = types_sound t; complete = types_complete t }

-- Typed lists, whatever their items and types are

-- a `-` and a type behind the items of a group, and the groups behind it
record Ended (Form : Word → Tree → Type 0) (Of : List Word → Tree → Type 0) (ws : List Word) (items : List Typed) (d k : Tree) (rest : List Tree) : Type 0 where
  some : ws ≢ []
  dash : IsDash d
  types : List Word
  kind : Of types k
  later : List Typed
  join : items ≡ typed_as types ws ++ later
  typed : AreTyped Form Of later rest

abbrev Ends : (Word → Tree → Type 0) → (List Word → Tree → Type 0) → List Word → List Typed → List Tree → Type 0
Ends Form Of ws items [] = items ≡ typed_as [] ws
Ends Form Of ws items (d ∷ []) = ⊥
Ends Form Of ws items (d ∷ k ∷ rest) = Ended Form Of ws items d k rest

-- a group of which some words stand in front already
record From (Form : Word → Tree → Type 0) (Of : List Word → Tree → Type 0) (words : List Word) (items : List Typed) (ts : List Tree) : Type 0 where
  ws : List Word
  all : List Word
  front : List Tree
  tail : List Tree
  split : ts ≡ front ++ tail
  are : Each (IsItem Form) ws front
  join : all ≡ words ++ ws
  ends : Ends Form Of all items tail

started_by : (Form : Word → Tree → Type 0) (Of : List Word → Tree → Type 0) (ws : List Word) (items : List Typed) (ts front tail : List Tree) → ts ≡ front ++ tail → Each (IsItem Form) ws front → Ends Form Of ws items tail → AreTyped Form Of items ts
started_by Form Of ws items ts front [] split are ends =
    ([], ws, subst (Each (IsItem Form) ws) (sym (split ∙ append-nil front)) are, ends)
started_by Form Of ws items ts front (d ∷ []) split are ends = absurd ends
started_by Form Of ws items ts front (d ∷ k ∷ rest) split are ends =
    let group : Group Word (List Word) = record { items = ws; kind = ends.types } in
    let later = ends.typed in (
      group ∷ later.0,
      later.1,
      (rest, record { front = front; dash = d; kind = k; split = split; some = ends.some; are_items = are; is_dash = ends.dash; is_kind = ends.kind }, later.2),
      ends.join ∙ ap (λ (vs : List Typed). typed_as ends.types ws ++ vs) later.3,
    )

started : (Form : Word → Tree → Type 0) (Of : List Word → Tree → Type 0) (items : List Typed) (ts : List Tree) → From Form Of [] items ts → AreTyped Form Of items ts
started Form Of items ts h = started_by Form Of h.ws items ts h.front h.tail h.split h.are (subst (λ (v : List Word). Ends Form Of v items h.tail) h.join h.ends)

-- at a `-`, or at the end
ended : (Form : Word → Tree → Type 0) (Of : List Word → Tree → Type 0) (words : List Word) (items : List Typed) (ts : List Tree) → Ends Form Of words items ts → From Form Of words items ts
ended Form Of words items ts h = record { ws = []; all = words; front = []; tail = ts; split = refl; are = tt; join = sym (append-nil words); ends = h }

went : (Form : Word → Tree → Type 0) (Of : List Word → Tree → Type 0) (words : List Word) (w : Word) (items : List Typed) (t : Tree) (ts : List Tree) → Form w t × ¬ IsDash t → From Form Of (words ++ w ∷ []) items ts → From Form Of words items (t ∷ ts)
went Form Of words w items t ts is h = record {
  ws = w ∷ h.ws;
  all = h.all;
  front = t ∷ h.front;
  tail = h.tail;
  split = ap (λ (v : List Tree). t ∷ v) h.split;
  are = (is, h.are);
  join = h.join ∙ append_assoc words (w ∷ []) h.ws;
  ends = h.ends;
}

grouped_sound : (listed : Listed) (Form : Word → Tree → Type 0) (Of : List Word → Tree → Type 0) → ((t : Tree) → Reads (types_in listed) Of t) → (words : List Word) (span : Span) (d k : Tree) (ts : List Tree) (later : Said (List Typed)) → IsDash d → (later.faults ≡ [] → From Form Of [] later.value ts) → (grouped listed words span (seen k) later).faults ≡ [] → From Form Of words (grouped listed words span (seen k) later).value (d ∷ k ∷ ts)
grouped_sound listed Form Of kinds [] span d k ts later dash rest e = some_fault _ _ e
grouped_sound listed Form Of kinds (w ∷ ws) span d k ts later dash rest e =
    let h = none_of_both (types_in listed (seen k)).faults later.faults e in
    ended Form Of (w ∷ ws) _ (d ∷ k ∷ ts) (record {
      some = cons_some w ws;
      dash = dash;
      types = (types_in listed (seen k)).value;
      kind = (kinds k).sound h.0;
      later = later.value;
      join = refl;
      typed = started Form Of later.value ts (rest h.1);
    })

from_sound : (listed : Listed) (Form : Word → Tree → Type 0) (Of : List Word → Tree → Type 0) → ((t : Tree) → Reads (item_in listed) Form t) → ((t : Tree) → Reads (types_in listed) Of t) → (words : List Word) (ts : List Tree) → (group_from listed words (map seen ts)).faults ≡ [] → From Form Of words (group_from listed words (map seen ts)).value ts
from_sound listed Form Of items kinds words [] = λ e. ended Form Of words _ [] refl
from_sound listed Form Of items kinds words (t ∷ []) =
    by_test (λ (x : Said (List Typed)). x.faults ≡ [] → From Form Of words x.value (t ∷ [])) (is_dash (seen t).face) (dash_from listed words (span_of (seen t).face) []) (both (λ w rest. rest) (item_in listed (seen t)) (group_from listed (words ++ (item_in listed (seen t)).value ∷ []) []))
    (λ is e. some_fault _ _ e)
    (λ is e. went Form Of words (item_in listed (seen t)).value _ t [] ((items t).sound (none_of_both (item_in listed (seen t)).faults [] e).0, λ dash. true_false (sym (text_complete (codes "-") t dash) ∙ is))
    (from_sound listed Form Of items kinds (words ++ (item_in listed (seen t)).value ∷ []) [] refl))
from_sound listed Form Of items kinds words (t ∷ k ∷ ts) =
    by_test (λ (x : Said (List Typed)). x.faults ≡ [] → From Form Of words x.value (t ∷ k ∷ ts)) (is_dash (seen t).face) (grouped listed words (span_of (seen t).face) (seen k) (group_from listed [] (map seen ts))) (both (λ w rest. rest) (item_in listed (seen t)) (group_from listed (words ++ (item_in listed (seen t)).value ∷ []) (map seen (k ∷ ts))))
    (λ is e. grouped_sound listed Form Of kinds words (span_of (seen t).face) t k ts (group_from listed [] (map seen ts)) (text_sound (codes "-") t is) (from_sound listed Form Of items kinds [] ts) e)
    (λ is e. let h = none_of_both (item_in listed (seen t)).faults (group_from listed (words ++ (item_in listed (seen t)).value ∷ []) (map seen (k ∷ ts))).faults e in
    went Form Of words (item_in listed (seen t)).value _ t (k ∷ ts) ((items t).sound h.0, λ dash. true_false (sym (text_complete (codes "-") t dash) ∙ is))
    (from_sound listed Form Of items kinds (words ++ (item_in listed (seen t)).value ∷ []) (k ∷ ts) h.1))

-- the items of a group, one behind the other
walked : (listed : Listed) (Form : Word → Tree → Type 0) → ((t : Tree) → Reads (item_in listed) Form t) → (words ws : List Word) (front tail : List Tree) → Each (IsItem Form) ws front → group_from listed words (map seen (front ++ tail)) ≡ group_from listed (words ++ ws) (map seen tail)
walked listed Form items words [] [] tail are = ap (λ (v : List Word). group_from listed v (map seen tail)) (sym (append-nil words))
walked listed Form items words [] (t ∷ front) tail are = absurd are
walked listed Form items words (w ∷ ws) [] tail are = absurd are
walked listed Form items words (w ∷ ws) (t ∷ front) tail are =
    let rest = map seen (front ++ tail) in
    if_false (is_dash (seen t).face) (dash_from listed words (span_of (seen t).face) rest) (both (λ w rest. rest) (item_in listed (seen t)) (group_from listed (words ++ (item_in listed (seen t)).value ∷ []) rest)) (text_not (codes "-") t are.0.1)
    ∙ ap (λ (x : Said Word). both (λ w rest. rest) x (group_from listed (words ++ x.value ∷ []) rest)) ((items t).complete w are.0.0)
    ∙ walked listed Form items (words ++ w ∷ []) ws front tail are.1
    ∙ ap (λ (v : List Word). group_from listed v (map seen tail)) (append_assoc words (w ∷ []) ws)

group_complete : (listed : Listed) (Of : List Word → Tree → Type 0) → ((t : Tree) → Reads (types_in listed) Of t) → (ws types : List Word) (d k : Tree) (rest : List Tree) (later : List Typed) → ws ≢ [] → IsDash d → Of types k → group_from listed [] (map seen rest) ≡ said later → group_from listed ws (map seen (d ∷ k ∷ rest)) ≡ said (typed_as types ws ++ later)
group_complete listed Of kinds [] types d k rest later some dash kind h = absurd (some refl)
group_complete listed Of kinds (w ∷ ws) types d k rest later some dash kind h =
    if_true (is_dash (seen d).face) (dash_from listed (w ∷ ws) (span_of (seen d).face) (map seen (k ∷ rest))) (both (λ w rest. rest) (item_in listed (seen d)) (group_from listed ((w ∷ ws) ++ (item_in listed (seen d)).value ∷ []) (map seen (k ∷ rest)))) (text_complete (codes "-") d dash)
    ∙ both_said (λ types items. typed_as types (w ∷ ws) ++ items) (types_in listed (seen k)) (group_from listed [] (map seen rest)) types later ((kinds k).complete types kind) h

groups_complete : (listed : Listed) (Form : Word → Tree → Type 0) (Of : List Word → Tree → Type 0) → ((t : Tree) → Reads (item_in listed) Form t) → ((t : Tree) → Reads (types_in listed) Of t) → (groups : List (Group Word (List Word))) (last : List Word) (ts : List Tree) → AreGrouped Form Of groups last ts → group_from listed [] (map seen ts) ≡ said (typed_items groups last)
groups_complete listed Form Of items kinds [] last ts h =
    ap (λ (v : List Tree). group_from listed [] (map seen v)) (sym (append-nil ts))
    ∙ walked listed Form items [] last ts [] h
groups_complete listed Form Of items kinds (g ∷ gs) last ts h =
    let group = h.1 in
    ap (λ (v : List Tree). group_from listed [] (map seen v)) group.split
    ∙ walked listed Form items [] g.items group.front (group.dash ∷ group.kind ∷ h.0) group.are_items
    ∙ group_complete listed Of kinds g.items g.kind group.dash group.kind h.0 (typed_items gs last) group.some group.is_dash group.is_kind (groups_complete listed Form Of items kinds gs last h.0 h.2)

pub record ReadsAll {V : Type 0} (read : List Seen → Said V) (Form : V → List Tree → Type 0) : Type 0 where
  pub sound : (ts : List Tree) → (read (map seen ts)).faults ≡ [] → Form (read (map seen ts)).value ts
  pub complete : (ts : List Tree) (v : V) → Form v ts → read (map seen ts) ≡ said v

pub typed_reads : (listed : Listed) (Form : Word → Tree → Type 0) (Of : List Word → Tree → Type 0) → ((t : Tree) → Reads (item_in listed) Form t) → ((t : Tree) → Reads (types_in listed) Of t) → ReadsAll (typed_list listed) (AreTyped Form Of)
typed_reads listed Form Of items kinds = record {
  sound = λ ts e. started Form Of _ ts (from_sound listed Form Of items kinds [] ts e);
  complete = λ ts vs h. groups_complete listed Form Of items kinds h.0 h.1 ts h.2 ∙ ap said (sym h.3);
}

pub variables_read : ReadsAll (typed_list Variables) (AreTyped IsVariable IsType)
variables_read = typed_reads Variables IsVariable IsType variable_reads types_reads

pub objects_read : ReadsAll (typed_list Names) (AreTyped IsName IsType)
objects_read = typed_reads Names IsName IsType name_reads types_reads

pub subtypes_read : ReadsAll (typed_list Types) (AreTyped IsName IsNamedType)
subtypes_read = typed_reads Types IsName IsNamedType parent_reads named_reads

-- (typed)

variable_list_sound : (t : Tree) → (seen t).variables.faults ≡ [] → IsVariableList (seen t).variables.value t
variable_list_sound t = by_cases (λ t. (seen t).variables.faults ≡ [] → IsVariableList (seen t).variables.value t)
    (λ kind text span t h. subst (λ (s : Seen). s.variables.faults ≡ [] → IsVariableList s.variables.value t) (sym (seen_leaf kind text span t h)) (λ e. some_fault _ _ e))
    (λ items span t h. subst (λ (s : Seen). s.variables.faults ≡ [] → IsVariableList s.variables.value t) (sym (seen_branch items span t h)) (λ e. (items, span, h, variables_read.sound items e))) t

pub variable_list_reads : (t : Tree) → Reads (λ s. s.variables) IsVariableList t
variable_list_reads t = record {
  sound = variable_list_sound t;
  complete = λ vs h. ap (λ (s : Seen). s.variables) (seen_branch h.0 h.1 t h.2) ∙ variables_read.complete h.0 vs h.3;
}
