-- What is said of declarations agrees with their forms.
use Rattle.std.proofs.Common.{◌≡◌, ◌≢◌, ℕ, Bool, true, false, not, Option, Some, None, List, [], ◌∷◌, ◌++◌, map, refl, ap, sym, ◌∙◌, subst, inl, inr, codes}
use Rattle.std.proofs.lemmas.List.{append-nil}
use Rattle.mf_model.proofs.Choices.{if_false, if_true}
use Rattle.mf_model.specs.declared.token.Kind.TheVariants.{Name}
use Rattle.mf_model.specs.declared.token.Span.{Span}
use Rattle.mf_model.specs.declared.tree.Tree.{Tree}
use Rattle.mf_model.specs.declared.tree.Tree.TheViews.{out-Tree}
use Rattle.mf_model.specs.declared.tree.Tree.TheOpen.{Tree-F}
use Rattle.mf_model.specs.declared.form.Word.{Word}
use Rattle.mf_model.specs.declared.form.Header.{Header}
use Rattle.mf_model.specs.Forms.{IsLeaf, IsList, IsWord, Each, IsName, IsPredicate}
use Rattle.mf_reader.specs.declared.fault.FormFault.{FormFault}
use Rattle.mf_reader.specs.Said.{Said, said, bad, left_out, both, each, behind}
use Rattle.mf_reader.specs.Faces.{Face, has_text, is_dash, span_of}
use Rattle.mf_reader.specs.Heads.{function_of, predicate_of}
use Rattle.mf_reader.specs.Laws.{IsReadingOf}
use Rattle.mf_reader.specs.Seen.{seen}
use Rattle.mf_reader.specs.Typed.{typed_variables}
use Rattle.mf_reader.specs.Headers.{made_header, empty_header, header_by, predicate_layer, predicate_header, function_layer, function_header}
use Rattle.mf_reader.specs.Functions.{other_by, is_other_type, begins_with_other_type, is_of_other_type, function_item, grouped, functions_from, dash_from, functions_of}
use Rattle.mf_reader.specs.GrammarTerms.{IsType, Group, IsDash, IsItem, AreGrouped}
use Rattle.mf_reader.specs.GrammarSections.{IsHeader, ArePredicates, IsNumber, grouped_items, AreFunctions}
use Rattle.mf_reader.proofs.Branches.{leaf_list}
use Rattle.mf_reader.proofs.Readings.{some_fault, none_of_both, both_said, mapped_said}
use Rattle.mf_reader.proofs.Choices.{by_test}
use Rattle.mf_reader.proofs.WordReadings.{true_false, text_sound, text_complete, text_not, function_sound, function_complete, predicate_sound, predicate_complete}
use Rattle.mf_reader.proofs.TypedReadings.{variables_read, types_reads, cons_some}

pub each_reads : {T V : Type 0} (read : T → Said V) (Form : V → T → Type 0) → IsReadingOf read Form → (Are : List V → List T → Type 0) → Are [] [] → ((v : V) (vs : List V) (t : T) (ts : List T) → Form v t → Are vs ts → Are (v ∷ vs) (t ∷ ts)) → (ts : List T) → (each read ts).faults ≡ [] → Are (each read ts).value ts
each_reads read Form r Are none more [] e = none
each_reads read Form r Are none more (t ∷ ts) e =
    let h = none_of_both (read t).faults (each read ts).faults e in
    more (read t).value (each read ts).value t ts (r.sound t h.0) (each_reads read Form r Are none more ts h.1)

trees_complete : {V : Type 0} (read : Tree → Said V) (Form : V → Tree → Type 0) → IsReadingOf read Form → (ts : List Tree) (vs : List V) → Each Form vs ts → each read ts ≡ said vs
trees_complete read Form r [] [] h = refl
trees_complete read Form r [] (v ∷ vs) h = absurd h
trees_complete read Form r (t ∷ ts) [] h = absurd h
trees_complete read Form r (t ∷ ts) (v ∷ vs) h = both_said (λ x xs. x ∷ xs) (read t) (each read ts) v vs (r.complete t v h.0) (trees_complete read Form r ts vs h.1)

pub trees_read : {V : Type 0} (read : Tree → Said V) (Form : V → Tree → Type 0) → IsReadingOf read Form → IsReadingOf (each read) (Each Form)
trees_read read Form r = record {
  sound = each_reads read Form r (Each Form) tt (λ v vs t ts h rest. (h, rest));
  complete = trees_complete read Form r;
}

-- Headers

record HeadReads (of : Face → Option Word) (Form : Word → Tree → Type 0) : Type 0 where
  sound : (t : Tree) (w : Word) → of (seen t).face ≡ Some w → Form w t
  complete : (t : Tree) (w : Word) → Form w t → of (seen t).face ≡ Some w

predicates : HeadReads predicate_of IsPredicate
predicates = record { sound = predicate_sound; complete = predicate_complete }

functions : HeadReads function_of IsName
functions = record { sound = function_sound; complete = function_complete }

header_sound : (of : Face → Option Word) (Form : Word → Tree → Type 0) → HeadReads of Form → (o : Option Word) (head : Tree) (parts : List Tree) (span : Span) (t : Tree) → of (seen head).face ≡ o → IsList (head ∷ parts) span t → (header_by o span parts).faults ≡ [] → IsHeader Form (header_by o span parts).value t
header_sound of Form r None head parts span t is list e = some_fault _ _ e
header_sound of Form r (Some w) head parts span t is list e =
    record { head = head; parts = parts; span = span; list = list; named = r.sound head w is; parameters = variables_read.sound parts e }

header_complete : (of : Face → Option Word) (Form : Word → Tree → Type 0) → HeadReads of Form → (h : Header) (t : Tree) (is : IsHeader Form h t) → header_by (of (seen is.head).face) is.span is.parts ≡ said h
header_complete of Form r h t is =
    ap (λ (o : Option Word). header_by o is.span is.parts) (r.complete is.head h.word is.named)
    ∙ mapped_said (made_header h.word) (typed_variables (map seen is.parts)) h.parameters (variables_read.complete is.parts h.parameters is.parameters)

predicate_layer_sound : (t : Tree) (x : Tree-F Tree) → out-Tree t ≡ x → (predicate_layer x).faults ≡ [] → IsHeader IsPredicate (predicate_layer x).value t
predicate_layer_sound t (Tree-F.Leaf kind text span) is e = some_fault _ _ e
predicate_layer_sound t (Tree-F.Branch [] span) is e = some_fault _ _ e
predicate_layer_sound t (Tree-F.Branch (head ∷ parts) span) is e = header_sound predicate_of IsPredicate predicates (predicate_of (seen head).face) head parts span t refl is e

pub predicate_reads : IsReadingOf predicate_header (IsHeader IsPredicate)
predicate_reads = record {
  sound = λ t e. predicate_layer_sound t (out-Tree t) refl e;
  complete = λ t h is. ap predicate_layer is.list ∙ header_complete predicate_of IsPredicate predicates h t is;
}

function_layer_sound : (t : Tree) (x : Tree-F Tree) → out-Tree t ≡ x → (function_layer x).faults ≡ [] → IsHeader IsName (function_layer x).value t
function_layer_sound t (Tree-F.Leaf kind text span) is e = some_fault _ _ e
function_layer_sound t (Tree-F.Branch [] span) is e = some_fault _ _ e
function_layer_sound t (Tree-F.Branch (head ∷ parts) span) is e = header_sound function_of IsName functions (function_of (seen head).face) head parts span t refl is e

function_reads : IsReadingOf function_header (IsHeader IsName)
function_reads = record {
  sound = λ t e. function_layer_sound t (out-Tree t) refl e;
  complete = λ t h is. ap function_layer is.list ∙ header_complete function_of IsName functions h t is;
}

pub predicates_read : IsReadingOf (each predicate_header) ArePredicates
predicates_read = trees_read predicate_header (IsHeader IsPredicate) predicate_reads

-- Functions

abbrev IsFunction : Header → Tree → Type 0
IsFunction = IsHeader IsName

number_by : (fs : List FormFault) (b : Bool) → fs ≡ [] → other_by fs b ≡ false → b ≡ true
number_by [] true e is = refl
number_by [] false e is = true_false is
number_by (f ∷ fs) b e is = some_fault f fs e

number_of : (t : Tree) → IsWord (codes "number") t → (types : List Word) → IsType types t → (w : Word) × IsNumber w t
number_of t word types h = elim h [
  | inl name ↦ (name.0, (name.2, name_text t word name.0 name.2))
  | inr either ↦ leaf_list word.0 (codes "number") word.1 (either.list.0 ∷ either.parts) either.span t word.2 either.list.1
]
  where
    name_text : (t : Tree) → IsWord (codes "number") t → (w : Word) → IsName w t → w.text ≡ codes "number"
    name_text t word w name = let e = sym name ∙ word.2 in cc

number_sound : (t : Tree) → (seen t).types.faults ≡ [] → is_other_type t ≡ false → (w : Word) × IsNumber w t
number_sound t none other = number_of t (text_sound (codes "number") t (number_by (seen t).types.faults (has_text (codes "number") (seen t).face) none other)) (seen t).types.value ((types_reads t).sound none)

number_complete : (t : Tree) (w : Word) → IsNumber w t → ((seen t).types ≡ said (w ∷ [])) × (is_other_type t ≡ false)
number_complete t w h =
    let types = (types_reads t).complete (w ∷ []) (inl (w, refl, h.0)) in
    let word : IsWord (codes "number") t = (Name, w.span, subst (λ (v : List ℕ). IsLeaf Name v w.span t) h.1 h.0) in
    (types, ap (λ (fs : List FormFault). other_by fs (has_text (codes "number") (seen t).face)) (ap (λ (x : Said (List Word)). x.faults) types) ∙ ap not (text_complete (codes "number") t word))

record Ended (begun : Bool) (items : List Header) (hs : List Header) (d k : Tree) (rest : List Tree) : Type 0 where
  some : begun ≡ false → items ≢ []
  dash : IsDash d
  word : Word
  number : IsNumber word k
  later : List Header
  join : hs ≡ items ++ later
  are : AreFunctions later rest

abbrev Ends : Bool → List Header → List Header → List Tree → Type 0
Ends begun items hs [] = hs ≡ items
Ends begun items hs (d ∷ []) = ⊥
Ends begun items hs (d ∷ k ∷ rest) = Ended begun items hs d k rest

record From (begun : Bool) (hs : List Header) (ts : List Tree) : Type 0 where
  items : List Header
  front : List Tree
  tail : List Tree
  split : ts ≡ front ++ tail
  are : Each (IsItem IsFunction) items front
  ends : Ends begun items hs tail

started_by : (items hs : List Header) (ts front tail : List Tree) → ts ≡ front ++ tail → Each (IsItem IsFunction) items front → Ends false items hs tail → AreFunctions hs ts
started_by items hs ts front [] split are ends = ([], items, subst (Each (IsItem IsFunction) items) (sym (split ∙ append-nil front)) are, ends)
started_by items hs ts front (d ∷ []) split are ends = absurd ends
started_by items hs ts front (d ∷ k ∷ rest) split are ends =
    let group : Group Header Word = record { items = items; kind = ends.word } in
    let later = ends.are in (
      group ∷ later.0,
      later.1,
      (rest, record { front = front; dash = d; kind = k; split = split; some = ends.some refl; are_items = are; is_dash = ends.dash; is_kind = ends.number }, later.2),
      ends.join ∙ ap (λ (vs : List Header). items ++ vs) later.3,
    )

started : (hs : List Header) (ts : List Tree) → From false hs ts → AreFunctions hs ts
started hs ts h = started_by h.items hs ts h.front h.tail h.split h.are h.ends

went_ends : (begun : Bool) (h : Header) (items hs : List Header) (tail : List Tree) → Ends true items hs tail → Ends begun (h ∷ items) (h ∷ hs) tail
went_ends begun h items hs [] ends = ap (λ (vs : List Header). h ∷ vs) ends
went_ends begun h items hs (d ∷ []) ends = absurd ends
went_ends begun h items hs (d ∷ k ∷ rest) ends = record {
  some = λ e. cons_some h items;
  dash = ends.dash;
  word = ends.word;
  number = ends.number;
  later = ends.later;
  join = ap (λ (vs : List Header). h ∷ vs) ends.join;
  are = ends.are;
}

went : (begun : Bool) (h : Header) (hs : List Header) (t : Tree) (ts : List Tree) → IsFunction h t → ¬ IsDash t → From true hs ts → From begun (h ∷ hs) (t ∷ ts)
went begun h hs t ts is lacks rest = record {
  items = h ∷ rest.items;
  front = t ∷ rest.front;
  tail = rest.tail;
  split = ap (λ (v : List Tree). t ∷ v) rest.split;
  are = ((is, lacks), rest.are);
  ends = went_ends begun h rest.items hs rest.tail rest.ends;
}

abbrev Free : Bool → List Tree → Type 0
Free begun ts = begun ≡ true → is_of_other_type ts ≡ false

-- a header is read, and its group has no other type
item_sound : (begun : Bool) (t : Tree) (ts : List Tree) → Free begun (t ∷ ts) → is_dash (seen t).face ≡ false → (function_item begun t ts).faults ≡ [] → IsFunction (function_item begun t ts).value t × (is_of_other_type ts ≡ false)
item_sound true t ts free is = λ e.
    (function_reads.sound t e, sym (if_false (is_dash (seen t).face) (begins_with_other_type ts) (is_of_other_type ts) is) ∙ free refl)
item_sound false t ts free is =
    by_test (λ (x : Said Header). x.faults ≡ [] → IsFunction x.value t × (is_of_other_type ts ≡ false)) (is_of_other_type ts) (left_out (span_of (seen t).face) (empty_header (span_of (seen t).face))) (function_header t)
    (λ other e. some_fault _ _ e) (λ other e. (function_reads.sound t e, other))

group_sound : (begun : Bool) (d k : Tree) (ts : List Tree) (later : Said (List Header)) → IsDash d → is_dash (seen d).face ≡ true → Free begun (d ∷ k ∷ ts) → (later.faults ≡ [] → From false later.value ts) → (grouped begun (span_of (seen d).face) k later).faults ≡ [] → From begun (grouped begun (span_of (seen d).face) k later).value (d ∷ k ∷ ts)
group_sound false d k ts later dash is free rest e = some_fault _ _ e
group_sound true d k ts later dash is free rest e =
    let h = none_of_both (seen k).types.faults later.faults e in
    let other = sym (if_true (is_dash (seen d).face) (begins_with_other_type (k ∷ ts)) (is_of_other_type (k ∷ ts)) is) ∙ free refl in
    let number = number_sound k h.0 other in
    record {
      items = [];
      front = [];
      tail = d ∷ k ∷ ts;
      split = refl;
      are = tt;
      ends = record {
        some = λ e. true_false e;
        dash = dash;
        word = number.0;
        number = number.1;
        later = later.value;
        join = refl;
        are = started later.value ts (rest h.1);
      };
    }

from_sound : (begun : Bool) (ts : List Tree) → Free begun ts → (functions_from begun ts).faults ≡ [] → From begun (functions_from begun ts).value ts
from_sound begun [] free = λ e. record { items = []; front = []; tail = []; split = refl; are = tt; ends = refl }
from_sound begun (t ∷ []) free =
    by_test (λ (x : Said (List Header)). x.faults ≡ [] → From begun x.value (t ∷ [])) (is_dash (seen t).face) (bad (span_of (seen t).face) []) (both (λ header headers. header ∷ headers) (function_item begun t []) (functions_from true []))
    (λ is e. some_fault _ _ e)
    (λ is e. let item = item_sound begun t [] free is (none_of_both (function_item begun t []).faults [] e).0 in
    went begun (function_item begun t []).value [] t [] item.0 (λ dash. true_false (sym (text_complete (codes "-") t dash) ∙ is)) (from_sound true [] (λ _. refl) refl))
from_sound begun (t ∷ k ∷ ts) free =
    by_test (λ (x : Said (List Header)). x.faults ≡ [] → From begun x.value (t ∷ k ∷ ts)) (is_dash (seen t).face) (grouped begun (span_of (seen t).face) k (functions_from false ts)) (both (λ header headers. header ∷ headers) (function_item begun t (k ∷ ts)) (functions_from true (k ∷ ts)))
    (λ is e. group_sound begun t k ts (functions_from false ts) (text_sound (codes "-") t is) is free (from_sound false ts (λ x. true_false (sym x))) e)
    (λ is e. let h = none_of_both (function_item begun t (k ∷ ts)).faults (functions_from true (k ∷ ts)).faults e in
    let item = item_sound begun t (k ∷ ts) free is h.0 in
    went begun (function_item begun t (k ∷ ts)).value (functions_from true (k ∷ ts)).value t (k ∷ ts) item.0 (λ dash. true_false (sym (text_complete (codes "-") t dash) ∙ is)) (from_sound true (k ∷ ts) (λ _. item.1) h.1))

after : List Header → Bool → Bool
after [] begun = begun
after (h ∷ hs) begun = true

same_type : (items : List Header) (front tail : List Tree) → Each (IsItem IsFunction) items front → is_of_other_type (front ++ tail) ≡ is_of_other_type tail
same_type [] [] tail are = refl
same_type [] (t ∷ front) tail are = absurd are
same_type (h ∷ items) [] tail are = absurd are
same_type (h ∷ items) (t ∷ front) tail are =
    if_false (is_dash (seen t).face) (begins_with_other_type (front ++ tail)) (is_of_other_type (front ++ tail)) (text_not (codes "-") t are.0.1) ∙ same_type items front tail are.1

item_complete : (begun : Bool) (t : Tree) (ts : List Tree) (h : Header) → IsFunction h t → is_of_other_type ts ≡ false → function_item begun t ts ≡ said h
item_complete true t ts h is free = function_reads.complete t h is
item_complete false t ts h is free =
    if_false (is_of_other_type ts) (left_out (span_of (seen t).face) (empty_header (span_of (seen t).face))) (function_header t) free ∙ function_reads.complete t h is

walked : (begun : Bool) (items : List Header) (front tail : List Tree) → Each (IsItem IsFunction) items front → is_of_other_type tail ≡ false → functions_from begun (front ++ tail) ≡ behind items (functions_from (after items begun) tail)
unfolding after
walked begun [] [] tail are free = refl
walked begun [] (t ∷ front) tail are free = absurd are
walked begun (h ∷ items) [] tail are free = absurd are
walked begun (h ∷ items) (t ∷ front) tail are free =
    let rest = front ++ tail in
    if_false (is_dash (seen t).face) (dash_from begun (span_of (seen t).face) rest) (both (λ header headers. header ∷ headers) (function_item begun t rest) (functions_from true rest)) (text_not (codes "-") t are.0.1)
    ∙ ap (λ (x : Said Header). both (λ header headers. header ∷ headers) x (functions_from true rest)) (item_complete begun t rest h are.0.0 (same_type items front tail are.1 ∙ free))
    ∙ ap (λ (x : Said (List Header)). both (λ header headers. header ∷ headers) (said h) x) (walked true items front tail are.1 free)
    ∙ ap (λ (b : Bool). behind (h ∷ items) (functions_from b tail)) (after_true items)
  where
    after_true : (items : List Header) → after items true ≡ true
    after_true [] = refl
    after_true (h ∷ hs) = refl

group_complete : (items : List Header) (d k : Tree) (rest : List Tree) (later : List Header) (w : Word) → items ≢ [] → IsDash d → IsNumber w k → functions_from false rest ≡ said later → functions_from (after items false) (d ∷ k ∷ rest) ≡ said later
unfolding after
group_complete [] d k rest later w some dash number h = absurd (some refl)
group_complete (x ∷ items) d k rest later w some dash number h =
    if_true (is_dash (seen d).face) (grouped true (span_of (seen d).face) k (functions_from false rest)) (both (λ header headers. header ∷ headers) (function_item true d (k ∷ rest)) (functions_from true (k ∷ rest))) (text_complete (codes "-") d dash)
    ∙ both_said (λ types headers. headers) (seen k).types (functions_from false rest) (w ∷ []) later (number_complete k w number).0 h

groups_complete : (groups : List (Group Header Word)) (last : List Header) (ts : List Tree) → AreGrouped IsFunction IsNumber groups last ts → functions_from false ts ≡ said (grouped_items groups last)
groups_complete [] last ts h =
    ap (functions_from false) (sym (append-nil ts)) ∙ walked false last ts [] h refl ∙ ap said (append-nil last)
groups_complete (g ∷ gs) last ts h =
    let group = h.1 in
    let tail = group.dash ∷ group.kind ∷ h.0 in
    let free = if_true (is_dash (seen group.dash).face) (begins_with_other_type (group.kind ∷ h.0)) (is_of_other_type (group.kind ∷ h.0)) (text_complete (codes "-") group.dash group.is_dash) ∙ (number_complete group.kind g.kind group.is_kind).1 in
    ap (functions_from false) group.split
    ∙ walked false g.items group.front tail group.are_items free
    ∙ ap (behind g.items) (group_complete g.items group.dash group.kind h.0 (grouped_items gs last) g.kind group.some group.is_dash group.is_kind (groups_complete gs last h.0 h.2))

pub functions_read : IsReadingOf functions_of AreFunctions
functions_read = record {
  sound = λ ts e. started _ ts (from_sound false ts (λ x. true_false (sym x)) e);
  complete = λ ts hs h. groups_complete h.0 h.1 ts h.2 ∙ ap said (sym h.3);
}
