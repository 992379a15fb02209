-- What is said of the init, the goal and the metric agrees with their forms.
use Rattle.std.proofs.Common.{◌≡◌, ℕ, Bool, true, false, ◌⊎◌, if◌then◌else◌, Option, Some, None, List, [], ◌∷◌, map, refl, ap, sym, ◌∙◌, subst, inl, inr, codes}
use Rattle.std.specs.Str.{bytes_eq}
use Rattle.mf_model.proofs.Choices.{if_false, same_text}
use Rattle.mf_model.specs.declared.token.Kind.{Kind}
use Rattle.mf_model.specs.declared.token.Kind.TheVariants.{Left, Right, Name, Variable, Keyword, Number, Sign, Plain}
use Rattle.mf_model.specs.declared.token.Span.{Span}
use Rattle.mf_model.specs.declared.tree.Tree.{Tree}
use Rattle.mf_model.specs.declared.tree.Tree.TheViews.{out-Tree}
use Rattle.mf_model.specs.declared.tree.Tree.TheOpen.{Tree-F}
use Rattle.mf_model.specs.declared.form.Word.{Word}
use Rattle.mf_model.specs.declared.form.RawCond.{RawCond}
use Rattle.mf_model.specs.declared.form.RawCond.TheVariants as c
use Rattle.mf_model.specs.declared.form.RawValue.{RawValue}
use Rattle.mf_model.specs.declared.form.RawMetric.{RawMetric}
use Rattle.mf_model.specs.Forms.{IsLeaf, IsList, IsWord, HasHead, Each, IsName, IsTerm, reserved}
use Rattle.mf_reader.specs.declared.atoms.AtomForm.{AtomForm}
use Rattle.mf_reader.specs.declared.atoms.CallForm.{CallForm}
use Rattle.mf_reader.specs.declared.inits.Starts.{Starts}
use Rattle.mf_reader.specs.declared.inits.InitHead.{InitHead}
use Rattle.mf_reader.specs.declared.inits.InitHead.TheVariants as head
use Rattle.mf_reader.specs.declared.inits.InitItem.{InitItem}
use Rattle.mf_reader.specs.declared.inits.InitItem.TheVariants.{Fact, Value}
use Rattle.mf_reader.specs.Said.{Said, said, bad, left_out, both, each}
use Rattle.mf_reader.specs.Faces as face
use Rattle.mf_reader.specs.Faces.{Face, is_term, has_text, name_at}
use Rattle.mf_reader.specs.Heads.{function_of}
use Rattle.mf_reader.specs.Laws.{IsReadingOf}
use Rattle.mf_reader.specs.Seen.{seen}
use Rattle.mf_reader.specs.Atoms.{made_call}
use Rattle.mf_reader.specs.Conditions.{atom_cond}
use Rattle.mf_reader.specs.Inits.{empty_item, number_at, named_call, start_layer, start_term, made_value, differ, init_value, init_atom, init_not, is_number, begins_with_number, init_head, init_head_of, item_by, item_layer, init_item, with_item, init_of}
use Rattle.mf_reader.specs.Goals.{goal_at, direction_by, direction_of, made_metric, metric_at}
use Rattle.mf_reader.specs.GrammarConditions.{IsCond}
use Rattle.mf_reader.specs.GrammarSections.{IsHeld, IsDenied, IsStartValue, AreStarts, AreMetric}
use Rattle.mf_reader.proofs.Branches.{by_cases, one_list}
use Rattle.mf_reader.proofs.Readings.{some_fault, none_of_both, both_said, mapped_said, each_sound, each_complete, all_reads}
use Rattle.mf_reader.proofs.Choices.{by_test, not_listed}
use Rattle.mf_reader.proofs.WordReadings.{true_false, text_same, at_text, not_true, name_reads, function_sound, function_complete, text_sound, text_complete, text_not, face_leaf, face_branch}
use Rattle.mf_reader.proofs.AtomReadings.{atom_reads}
use Rattle.mf_reader.proofs.ExprSound.{first_same}
use Rattle.mf_reader.proofs.ExprReadings.{metric_reads}
use Rattle.mf_reader.proofs.CondReadings.{cond_reads}
use Rattle.mf_reader.proofs.SectionReadings.{word_text}

-- Heads

abbrev InitText : InitHead → List ℕ → Type 0
InitText head.At text = text ≡ codes "at"
InitText head.Equal text = text ≡ codes "="
InitText head.Not text = text ≡ codes "not"
InitText head.Other text = bytes_eq text (codes "=") ≡ false

init_text : (text : List ℕ) → InitText (init_head text) text
unfolding init_head
init_text text =
    by_test (λ h. InitText h text) (bytes_eq text (codes "at")) _ _ (λ e. same_text text (codes "at") e) (λ _.
    by_test (λ h. InitText h text) (bytes_eq text (codes "=")) _ _ (λ e. same_text text (codes "=") e) (λ n.
    by_test (λ h. InitText h text) (bytes_eq text (codes "not")) _ _ (λ e. same_text text (codes "not") e) (λ _. n)))

abbrev InitWord : InitHead → Tree → Type 0
InitWord head.At t = IsWord (codes "at") t
InitWord head.Equal t = IsWord (codes "=") t
InitWord head.Not t = IsWord (codes "not") t
InitWord head.Other t = ¬ IsWord (codes "=") t

init_leaf : (h : InitHead) (kind : Kind) (text : List ℕ) (span : Span) (t : Tree) → IsLeaf kind text span t → InitText h text → InitWord h t
init_leaf head.At kind text span t leaf e = at_text kind text (codes "at") span t leaf e
init_leaf head.Equal kind text span t leaf e = at_text kind text (codes "=") span t leaf e
init_leaf head.Not kind text span t leaf e = at_text kind text (codes "not") span t leaf e
init_leaf head.Other kind text span t leaf e = λ word.
    true_false (sym (ap (λ (v : List ℕ). bytes_eq v (codes "=")) (word_text text (codes "=") t (kind, span, leaf) word)) ∙ e)

list_word : {B : Type 0} (items : List Tree) (span : Span) (t : Tree) (text : List ℕ) → IsList items span t → IsWord text t → B
list_word items span t text list word = let e = sym word.2 ∙ list in let h : ⊥ = cc in absurd h

init_word : (t : Tree) → InitWord (init_head_of (seen t).face) t
init_word = by_cases (λ t. InitWord (init_head_of (seen t).face) t)
    (λ kind text span t leaf. subst (λ (h : InitHead). InitWord h t) (ap init_head_of (sym (face_leaf kind text span t leaf))) (init_leaf (init_head text) kind text span t leaf (init_text text)))
    (λ items span t list. subst (λ (h : InitHead). InitWord h t) (ap init_head_of (sym (face_branch items span t list))) (λ word. list_word items span t (codes "=") list word))

-- Values

record IsStartTerm (call : CallForm) (t : Tree) : Type 0 where
  head_tree : Tree
  parts : List Tree
  list : IsList (head_tree ∷ parts) call.span t
  named : IsName call.function head_tree
  objects : Each IsName call.terms parts

named_sound : (o : Option Word) (h : Tree) (parts : List Tree) (span : Span) (t : Tree) → function_of (seen h).face ≡ o → IsList (h ∷ parts) span t → (named_call o span parts).faults ≡ [] → IsStartTerm (named_call o span parts).value t
named_sound None h parts span t is list e = some_fault _ _ e
named_sound (Some w) h parts span t is list e = record { head_tree = h; parts = parts; list = list; named = function_sound h w is; objects = each_sound (λ s. name_at s.face) IsName parts (all_reads (λ s. name_at s.face) IsName name_reads parts) e }

start_sound : (t : Tree) (x : Tree-F Tree) → out-Tree t ≡ x → (start_layer x).faults ≡ [] → IsStartTerm (start_layer x).value t
start_sound t (Tree-F.Leaf kind text span) is e = some_fault _ _ e
start_sound t (Tree-F.Branch [] span) is e = some_fault _ _ e
start_sound t (Tree-F.Branch (h ∷ parts) span) is e = named_sound (function_of (seen h).face) h parts span t refl is e

start_complete : (call : CallForm) (t : Tree) → IsStartTerm call t → start_term t ≡ said call
start_complete call t h =
    ap start_layer h.list
    ∙ ap (λ (o : Option Word). named_call o call.span h.parts) (function_complete h.head_tree call.function h.named)
    ∙ mapped_said (made_call call.span call.function) (each (λ s. name_at s.face) (map seen h.parts)) call.terms (each_complete (λ s. name_at s.face) IsName h.parts (all_reads (λ s. name_at s.face) IsName name_reads h.parts) call.terms h.objects)

number_leaf : (kind : Kind) (text : List ℕ) (span : Span) (t : Tree) → IsLeaf kind text span t → (number_at (face.Leaf kind text span)).faults ≡ [] → IsLeaf Number (number_at (face.Leaf kind text span)).value.text (number_at (face.Leaf kind text span)).value.span t
number_leaf Number text span t h e = h
number_leaf Left text span t h e = some_fault _ _ e
number_leaf Right text span t h e = some_fault _ _ e
number_leaf Name text span t h e = some_fault _ _ e
number_leaf Variable text span t h e = some_fault _ _ e
number_leaf Keyword text span t h e = some_fault _ _ e
number_leaf Sign text span t h e = some_fault _ _ e
number_leaf Plain text span t h e = some_fault _ _ e

number_sound : (t : Tree) → (number_at (seen t).face).faults ≡ [] → IsLeaf Number (number_at (seen t).face).value.text (number_at (seen t).face).value.span t
number_sound = by_cases (λ t. (number_at (seen t).face).faults ≡ [] → IsLeaf Number (number_at (seen t).face).value.text (number_at (seen t).face).value.span t)
    (λ kind text span t h. subst (λ (f : Face). (number_at f).faults ≡ [] → IsLeaf Number (number_at f).value.text (number_at f).value.span t) (sym (face_leaf kind text span t h)) (number_leaf kind text span t h))
    (λ items span t h. subst (λ (f : Face). (number_at f).faults ≡ [] → IsLeaf Number (number_at f).value.text (number_at f).value.span t) (sym (face_branch items span t h)) (λ e. some_fault _ _ e))

-- Items

abbrev ItemIs : InitItem → Tree → Type 0
ItemIs (Fact raw) t = IsHeld raw t ⊎ IsDenied raw t
ItemIs (Value v) t = IsStartValue v t

abbrev SoundAt : Tree → Said InitItem → Type 0
SoundAt t x = x.faults ≡ [] → ItemIs x.value t

value_sound : (h : Tree) (parts : List Tree) (span : Span) (t : Tree) → IsList (h ∷ parts) span t → IsWord (codes "=") h → SoundAt t (init_value span parts)
value_sound h [] span t list word = λ e. some_fault _ _ e
value_sound h (a ∷ []) span t list word = λ e. some_fault _ _ e
value_sound h (a ∷ b ∷ []) span t list word =
    by_test (SoundAt t) (differ (seen a).face (seen b).face) (bad span (empty_item span)) (both made_value (start_term a) (number_at (seen b).face))
    (λ is e. some_fault _ _ e)
    (λ is e. let none = none_of_both (start_term a).faults (number_at (seen b).face).faults e in
    let term = start_sound a (out-Tree a) refl none.0 in
    record { term = a; head = term.head_tree; parts = term.parts; number = b; span = span; inner = (start_term a).value.span; list = (h, list, word); term_list = term.list; named = term.named; objects = term.objects; value = number_sound b none.1 })
value_sound h (a ∷ b ∷ d ∷ rest) span t list word = λ e. some_fault _ _ e

denied_sound : (h : Tree) (parts : List Tree) (span : Span) (t : Tree) → IsList (h ∷ parts) span t → IsWord (codes "not") h → SoundAt t (init_not span parts)
denied_sound h [] span t list word = λ e. some_fault _ _ e
denied_sound h (a ∷ []) span t list word = λ e.
    let v = (seen a).atom.value in
    inr (record { part = atom_cond v; span = span; tree = a; is = refl; list = (h, list, word); fact = record { predicate = v.predicate; terms = v.terms; span = v.span; is = refl; atom = (atom_reads a).sound e } })
denied_sound h (a ∷ b ∷ rest) span t list word = λ e. some_fault _ _ e

held_sound : (h : Tree) (parts : List Tree) (span : Span) (t : Tree) → IsList (h ∷ parts) span t → ¬ IsWord (codes "=") h → SoundAt t (init_atom t)
held_sound h parts span t list free = λ e.
    let v = (seen t).atom.value in
    inl (
      record { predicate = v.predicate; terms = v.terms; span = v.span; is = refl; atom = (atom_reads t).sound e },
      λ has. free (subst (IsWord (codes "=")) (first_same has.1.0 h has.0.parts parts (one_list (has.1.0 ∷ has.0.parts) (h ∷ parts) has.0.span span t has.1.1 list)) has.1.2),
    )

differ_texts : {B : Type 0} (one other : List ℕ) (t : Tree) → bytes_eq one other ≡ false → IsWord one t → IsWord other t → B
differ_texts one other t differ a b = true_false (sym (ap (λ (v : List ℕ). bytes_eq v other) (word_text one other t a b) ∙ text_same other) ∙ differ)

item_by_sound : (k : InitHead) (h : Tree) (parts : List Tree) (span : Span) (t : Tree) → InitWord k h → IsList (h ∷ parts) span t → SoundAt t (item_by k span parts t)
item_by_sound head.At h parts span t word list =
    by_test (SoundAt t) (begins_with_number parts) (left_out span (empty_item span)) (init_atom t)
    (λ is e. some_fault _ _ e)
    (λ is. held_sound h parts span t list (λ other. differ_texts (codes "at") (codes "=") h refl word other))
item_by_sound head.Equal h parts span t word list = value_sound h parts span t list word
item_by_sound head.Not h parts span t word list = denied_sound h parts span t list word
item_by_sound head.Other h parts span t word list = held_sound h parts span t list word

item_sound : (t : Tree) (x : Tree-F Tree) → out-Tree t ≡ x → SoundAt t (item_layer x t)
item_sound t (Tree-F.Leaf kind text span) is = λ e. some_fault _ _ e
item_sound t (Tree-F.Branch [] span) is = λ e. some_fault _ _ e
item_sound t (Tree-F.Branch (h ∷ parts) span) is = item_by_sound (init_head_of (seen h).face) h parts span t (init_word h) is

-- The other way

opened : (h : Tree) (parts : List Tree) (span : Span) (t : Tree) (k : InitHead) → IsList (h ∷ parts) span t → init_head_of (seen h).face ≡ k → init_item t ≡ item_by k span parts t
opened h parts span t k list is = ap (λ (x : Tree-F Tree). item_layer x t) list ∙ ap (λ (v : InitHead). item_by v span parts t) is

head_at : (text : List ℕ) (t : Tree) → IsWord text t → init_head_of (seen t).face ≡ init_head text
head_at text t h = ap init_head_of (face_leaf h.0 text h.1 t h.2)

equal_head : init_head (codes "=") ≡ head.Equal
unfolding init_head
equal_head = refl

not_head : init_head (codes "not") ≡ head.Not
unfolding init_head
not_head = refl

free_head : (text : List ℕ) → bytes_eq text (codes "=") ≡ false → bytes_eq text (codes "not") ≡ false → (init_head text ≡ head.At) ⊎ (init_head text ≡ head.Other)
unfolding init_head
free_head text e f =
    by_test (λ h. (h ≡ head.At) ⊎ (h ≡ head.Other)) (bytes_eq text (codes "at")) head.At (if bytes_eq text (codes "=") then head.Equal else (if bytes_eq text (codes "not") then head.Not else head.Other))
    (λ _. inl refl)
    (λ _. inr (if_false (bytes_eq text (codes "=")) head.Equal (if bytes_eq text (codes "not") then head.Not else head.Other) e ∙ if_false (bytes_eq text (codes "not")) head.Not head.Other f))

term_no_number : (t : Tree) (w : Word) → IsTerm w t → is_number (seen t).face ≡ false
term_no_number t w h = elim h [
  | inl name ↦ ap is_number (face_leaf Name w.text w.span t name)
  | inr variable ↦ ap is_number (face_leaf Variable w.text w.span t variable)
]

no_number : (parts : List Tree) (ws : List Word) → Each IsTerm ws parts → begins_with_number parts ≡ false
no_number [] ws h = refl
no_number (t ∷ ts) [] h = absurd h
no_number (t ∷ ts) (w ∷ ws) h = term_no_number t w h.0

held_complete : (raw : RawCond) (t : Tree) → IsHeld raw t → init_item t ≡ said (Fact raw)
held_complete raw t h =
    let fact = h.0 in
    let atom = fact.atom in
    let p = fact.predicate in
    let form : AtomForm = record { predicate = p; terms = fact.terms; span = fact.span } in
    let word : IsWord p.text atom.head = (Name, p.span, atom.names.0) in
    let equal : bytes_eq p.text (codes "=") ≡ false = not_equal p.text atom.head atom.parts fact.span t atom.list word h.1 in
    let reading : init_atom t ≡ said (Fact raw) = mapped_said (λ (a : AtomForm). Fact (atom_cond a)) (seen t).atom form ((atom_reads t).complete form atom) ∙ ap (λ (v : RawCond). said (Fact v)) (sym fact.is) in
    elim (free_head p.text equal (not_listed p.text (codes "not") reserved atom.names.1 refl)) [
      | inl at ↦ opened atom.head atom.parts fact.span t head.At atom.list (head_at p.text atom.head word ∙ at)
          ∙ if_false (begins_with_number atom.parts) (left_out fact.span (empty_item fact.span)) (init_atom t) (no_number atom.parts fact.terms atom.arguments)
          ∙ reading
      | inr other ↦ opened atom.head atom.parts fact.span t head.Other atom.list (head_at p.text atom.head word ∙ other) ∙ reading
    ]
  where
    not_equal : (text : List ℕ) (h : Tree) (parts : List Tree) (span : Span) (t : Tree) → IsList (h ∷ parts) span t → IsWord text h → ¬ HasHead (codes "=") t → bytes_eq text (codes "=") ≡ false
    not_equal text h parts span t list word free =
        not_true (bytes_eq text (codes "=")) (λ is. free (record { parts = parts; span = span }, (h, list, subst (λ (v : List ℕ). IsWord v h) (same_text text (codes "=") is) word)))

denied_complete : (raw : RawCond) (t : Tree) → IsDenied raw t → init_item t ≡ said (Fact raw)
denied_complete raw t h =
    let fact = h.fact in
    let form : AtomForm = record { predicate = fact.predicate; terms = fact.terms; span = fact.span } in
    let span = h.span in
    opened h.list.0 (h.tree ∷ []) h.span t head.Not h.list.1 (head_at (codes "not") h.list.0 h.list.2 ∙ not_head)
    ∙ mapped_said (λ (a : AtomForm). Fact (c.Not (atom_cond a) span)) (seen h.tree).atom form ((atom_reads h.tree).complete form fact.atom)
    ∙ ap (λ (v : RawCond). said (Fact (c.Not v span))) (sym fact.is)
    ∙ ap (λ (v : RawCond). said (Fact v)) (sym h.is)

value_complete : (v : RawValue) (t : Tree) → IsStartValue v t → init_item t ≡ said (Value v)
value_complete v t h =
    let call : CallForm = record { function = v.function; terms = v.objects; span = h.inner } in
    let w = v.value in
    let term : IsStartTerm call h.term = record { head_tree = h.head; parts = h.parts; list = h.term_list; named = h.named; objects = h.objects } in
    opened h.list.0 (h.term ∷ h.number ∷ []) h.span t head.Equal h.list.1 (head_at (codes "=") h.list.0 h.list.2 ∙ equal_head)
    ∙ if_false (differ (seen h.term).face (seen h.number).face) (bad h.span (empty_item h.span)) (both made_value (start_term h.term) (number_at (seen h.number).face))
    (ap (λ (f : Face). differ f (seen h.number).face) (face_branch (h.head ∷ h.parts) h.inner h.term h.term_list) ∙ ap is_term (face_leaf Number w.text w.span h.number h.value))
    ∙ both_said made_value (start_term h.term) (number_at (seen h.number).face) call w (start_complete call h.term term) (ap number_at (face_leaf Number w.text w.span h.number h.value))

item_complete : (t : Tree) (i : InitItem) → ItemIs i t → init_item t ≡ said i
item_complete t (Fact raw) h = elim h [
  | inl held ↦ held_complete raw t held
  | inr denied ↦ denied_complete raw t denied
]
item_complete t (Value v) h = value_complete v t h

-- The init

abbrev pub StartsAre : Starts → List Tree → Type 0
StartsAre s ts = AreStarts s.atoms s.values ts

more : (i : InitItem) (s : Starts) (t : Tree) (ts : List Tree) → ItemIs i t → StartsAre s ts → StartsAre (with_item i s) (t ∷ ts)
more (Fact raw) s t ts is h = inl (raw, s.atoms, refl, is, h)
more (Value v) s t ts is h = inr (v, s.values, refl, is, h)

init_sound : (ts : List Tree) → (init_of ts).faults ≡ [] → StartsAre (init_of ts).value ts
init_sound [] e = (refl, refl)
init_sound (t ∷ ts) e =
    let none = none_of_both (init_item t).faults (init_of ts).faults e in
    more (init_item t).value (init_of ts).value t ts (item_sound t (out-Tree t) refl none.0) (init_sound ts none.1)

starts : List RawCond → List RawValue → Starts
starts atoms values = record { atoms = atoms; values = values }

init_complete : (ts : List Tree) (atoms : List RawCond) (values : List RawValue) → AreStarts atoms values ts → init_of ts ≡ said (starts atoms values)
unfolding starts
init_complete [] atoms values h = ap said (ap (λ (v : List RawCond). starts v []) (sym h.0) ∙ ap (λ (v : List RawValue). starts atoms v) (sym h.1))
init_complete (t ∷ ts) atoms values h = elim h [
  | inl fact ↦ both_said with_item (init_item t) (init_of ts) (Fact fact.0) (starts fact.1 values) (item_complete t (Fact fact.0) fact.3) (init_complete ts fact.1 values fact.4)
      ∙ ap (λ (v : List RawCond). said (starts v values)) (sym fact.2)
  | inr value ↦ both_said with_item (init_item t) (init_of ts) (Value value.0) (starts atoms value.1) (item_complete t (Value value.0) value.3) (init_complete ts atoms value.1 value.4)
      ∙ ap (λ (v : List RawValue). said (starts atoms v)) (sym value.2)
]

pub init_reads : IsReadingOf init_of StartsAre
unfolding starts
init_reads = record { sound = init_sound; complete = λ ts s h. init_complete ts s.atoms s.values h }

-- Goal and metric

abbrev pub GoalIs : RawCond → List Tree → Type 0
GoalIs raw ts = (t : Tree) × (ts ≡ t ∷ []) × IsCond raw t

pub goal_sound : (span : Span) (ts : List Tree) → (goal_at span ts).faults ≡ [] → GoalIs (goal_at span ts).value ts
goal_sound span [] e = some_fault _ _ e
goal_sound span (t ∷ []) e = (t, refl, (cond_reads t).sound e)
goal_sound span (t ∷ u ∷ rest) e = some_fault _ _ e

pub goal_complete : (span : Span) (ts : List Tree) (raw : RawCond) → GoalIs raw ts → goal_at span ts ≡ said raw
goal_complete span ts raw h = ap (goal_at span) h.1 ∙ (cond_reads h.0).complete raw h.2

abbrev Direction : Bool → Tree → Type 0
Direction least t = (IsWord (codes "minimize") t × (least ≡ true)) ⊎ (IsWord (codes "maximize") t × (least ≡ false))

direction_sound : (t : Tree) (one other : Bool) → has_text (codes "minimize") (seen t).face ≡ one → has_text (codes "maximize") (seen t).face ≡ other → (direction_by one other (face.span_of (seen t).face)).faults ≡ [] → Direction (direction_by one other (face.span_of (seen t).face)).value t
direction_sound t true other is also e = inl (text_sound (codes "minimize") t is, refl)
direction_sound t false true is also e = inr (text_sound (codes "maximize") t also, refl)
direction_sound t false false is also e = some_fault _ _ e

direction_complete : (t : Tree) (least : Bool) → Direction least t → direction_of t ≡ said least
direction_complete t least h = elim h [
  | inl one ↦ ap (λ b. direction_by b (has_text (codes "maximize") (seen t).face) (face.span_of (seen t).face)) (text_complete (codes "minimize") t one.0) ∙ ap said (sym one.1)
  | inr other ↦ ap (λ b. direction_by b (has_text (codes "maximize") (seen t).face) (face.span_of (seen t).face)) (text_not (codes "minimize") t (λ word. differ_texts (codes "minimize") (codes "maximize") t refl word other.0))
      ∙ ap (λ b. direction_by false b (face.span_of (seen t).face)) (text_complete (codes "maximize") t other.0) ∙ ap said (sym other.1)
]

pub metric_sound : (span : Span) (ts : List Tree) → (metric_at span ts).faults ≡ [] → AreMetric (metric_at span ts).value ts
metric_sound span [] e = some_fault _ _ e
metric_sound span (w ∷ []) e = some_fault _ _ e
metric_sound span (w ∷ t ∷ []) e =
    let none = none_of_both (direction_of w).faults (seen t).metric.faults e in
    (w, t, refl, direction_sound w (has_text (codes "minimize") (seen w).face) (has_text (codes "maximize") (seen w).face) refl refl none.0, (metric_reads t).sound none.1)
metric_sound span (w ∷ t ∷ u ∷ rest) e = some_fault _ _ e

pub metric_complete : (span : Span) (ts : List Tree) (m : RawMetric) → AreMetric m ts → metric_at span ts ≡ said m
metric_complete span ts m h =
    ap (metric_at span) h.2
    ∙ both_said made_metric (direction_of h.0) (seen h.1).metric m.least m.value (direction_complete h.0 m.least h.3) ((metric_reads h.1).complete m.value h.4)
