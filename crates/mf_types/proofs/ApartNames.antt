-- The names of the task of two files without faults are names, no two the same in one space.
use Rattle.std.proofs.Common.{◌≡◌, ℕ, Bool, true, false, if◌then◌else◌, ◌||◌, List, [], ◌∷◌, ◌++◌, map, length, refl, subst, sym, ap, ◌∙◌, arith, All}
use Rattle.std.specs.List.{AllByRecursion, IsDistinct}
use Rattle.std.specs.Str.{bytes_eq}
use Rattle.std.proofs.lemmas.List.{length-map}
use Rattle.std.proofs.lemmas.List.Elements.{All-nil, All-cons, All-head, All-tail, All-append, All-map}
use Rattle.std.proofs.lemmas.Map.Keys.{IsDistinct-cons}
use Rattle.std.proofs.lemmas.Slice.Eq.{bytes_eq-Decides}
use Rattle.mf_model.proofs.Choices.{same_text}
use Rattle.mf_model.specs.declared.form.FileKind.{FileKind}
use Rattle.mf_model.specs.declared.form.FileKind.TheVariants.{DomainFile}
use Rattle.mf_model.specs.declared.form.RawAction.{RawAction}
use Rattle.mf_model.specs.declared.form.Typed.{Typed}
use Rattle.mf_model.specs.declared.form.Word.{Word}
use Rattle.mf_model.specs.declared.form.Domain.{Domain}
use Rattle.mf_model.specs.declared.form.Problem.{Problem}
use Rattle.mf_model.specs.declared.task.Action.{Action}
use Rattle.mf_model.specs.declared.task.TypedTask.{TypedTask}
use Rattle.mf_model.specs.Options.{each}
use Rattle.mf_model.specs.ResolvedTask.{AreNames, HaveNames}
use Rattle.mf_model.specs.Tokens.{is_name, is_name_byte}
use Rattle.mf_types.specs.AllFaults.{faults_of}
use Rattle.mf_types.specs.DeclarationFaults.{action_list_faults, declaration_faults_in}
use Rattle.mf_types.specs.Declarations.{action_words, list_faults, most_actions, repeats, repeated_at}
use Rattle.mf_types.specs.Names.{Declared, declared_by, firsts, header_text, is_member, item_text, item_types, kept_types, object_name, parent_in, parents_behind, shares, text_of, type_firsts, type_names, type_words}
use Rattle.mf_types.specs.Tasks.{action_of, object_named, paired, symbol_named, type_named, IsTaskOf}
use Rattle.mf_types.specs.Typing.{inside, types_in, cond_of, effect_of}
use Rattle.mf_types.specs.Uses.{in_domain}
use Rattle.mf_types.specs.Written.{IsNamed, IsWritten}
use Rattle.mf_types.proofs.Faultless.{faultless_lists}
use Rattle.mf_types.proofs.Firsts.{any-push}
use Rattle.mf_types.proofs.Given.{IfGiven, anything, taken, then_given, made_given}
use Rattle.mf_types.proofs.There.{first_empty, second_empty, not_met}
use Rattle.mf_types.proofs.ValidTask.{are_even, firsts_all}

-- the first ones of each name

or_true : (b : Bool) → (b || true) ≡ true
or_true true = refl
or_true false = refl

pushed : (seen : List (List ℕ)) (x y : List ℕ) → is_member seen x ≡ true → is_member (seen ++ y ∷ []) x ≡ true
pushed seen x y e = any-push (λ own. bytes_eq own x) seen y ∙ ap (λ (b : Bool). b || bytes_eq y x) e

last_pushed : (seen : List (List ℕ)) (x : List ℕ) → is_member (seen ++ x ∷ []) x ≡ true
last_pushed seen x =
    any-push (λ own. bytes_eq own x) seen x
    ∙ (ap (λ (b : Bool). is_member seen x || b) ((bytes_eq-Decides x x).1 refl) ∙ or_true (is_member seen x))

-- a name among these differs from one that is not
differs : (seen : List (List ℕ)) (x y : List ℕ) (b : Bool) → is_member seen x ≡ true → is_member seen y ≡ false → bytes_eq x y ≡ b → bytes_eq x y ≡ false
differs seen x y false e h is = is
differs seen x y true e h is =
    let there : is_member seen y ≡ true = subst (λ (name : List ℕ). is_member seen name ≡ true) (same_text x y is) e in
    let no : ⊥ = cc in absurd no

avoid_by : {A : Type 0} (name : A → List ℕ) (seen : List (List ℕ)) (x : List ℕ) (item : A) (items : List A) (b : Bool) → is_member seen x ≡ true → is_member seen (name item) ≡ b →
    AllByRecursion (λ y. bytes_eq x y ≡ false) (map name (firsts name seen items)) → AllByRecursion (λ y. bytes_eq x y ≡ false) (map name (firsts name (seen ++ name item ∷ []) items)) →
    AllByRecursion (λ y. bytes_eq x y ≡ false) (map name (if b then firsts name seen items else item ∷ firsts name (seen ++ name item ∷ []) items))
avoid_by name seen x item items true e is same more = same
avoid_by name seen x item items false e is same more = (differs seen x (name item) (bytes_eq x (name item)) e is refl, more)

-- none of them has a name that stood before
firsts_avoid : {A : Type 0} (name : A → List ℕ) (seen : List (List ℕ)) (x : List ℕ) (items : List A) → is_member seen x ≡ true → AllByRecursion (λ y. bytes_eq x y ≡ false) (map name (firsts name seen items))
firsts_avoid name seen x [] e = tt
firsts_avoid name seen x (item ∷ items) e =
    avoid_by name seen x item items (is_member seen (name item)) e refl (firsts_avoid name seen x items e) (firsts_avoid name (seen ++ name item ∷ []) x items (pushed seen x (name item) e))

none_apart : IsDistinct bytes_eq []
unfolding IsDistinct
none_apart = tt

firsts_apart : {A : Type 0} (name : A → List ℕ) (seen : List (List ℕ)) (items : List A) → IsDistinct bytes_eq (map name (firsts name seen items))
firsts_apart name seen [] = none_apart
firsts_apart name seen (item ∷ items) =
    let more = seen ++ name item ∷ [] in
    elim (is_member seen (name item)) as (λ b. IsDistinct bytes_eq (map name (if b then firsts name seen items else item ∷ firsts name more items)))
    [ true ↦ firsts_apart name seen items | false ↦ IsDistinct-cons bytes_eq (name item) (map name (firsts name more items)) (firsts_avoid name more (name item) items (last_pushed seen (name item))) (firsts_apart name more items) ]

first_names : {A : Type 0} (name : A → List ℕ) (items : List A) → All (λ item. is_name (name item) ≡ true) items → AreNames (map name (firsts name [] items))
first_names {A = A} name items all = record {
  words = All-map (λ own. is_name own ≡ true) name (firsts name [] items) (firsts_all (λ (item : A). is_name (name item) ≡ true) name [] items all);
  apart = firsts_apart name [] items;
}

-- a list in which no name is declared twice

again_by : (file : FileKind) (seen : List (List ℕ)) (w : Word) (ws : List Word) (b : Bool) → b ≡ false → (repeats file (seen ++ w.text ∷ []) ws ≡ [] → firsts text_of (seen ++ w.text ∷ []) ws ≡ ws) →
    repeats file (if b then seen else seen ++ w.text ∷ []) ws ≡ [] → (if b then firsts text_of seen ws else w ∷ firsts text_of (seen ++ w.text ∷ []) ws) ≡ w ∷ ws
again_by file seen w ws true e h rest = let no : ⊥ = cc in absurd no
again_by file seen w ws false e h rest = ap (λ (others : List Word). w ∷ others) (h rest)

none_again : (file : FileKind) (seen : List (List ℕ)) (words : List Word) → repeats file seen words ≡ [] → firsts text_of seen words ≡ words
none_again file seen [] e = refl
none_again file seen (w ∷ ws) e =
    again_by file seen w ws (is_member seen w.text) (not_met (is_member seen w.text) _ (first_empty (repeated_at file seen w) _ e)) (none_again file (seen ++ w.text ∷ []) ws) (second_empty (repeated_at file seen w) _ e)

-- the names of tables

paired_names : {A C : Type 0} (make : List ℕ → A → C) (name : C → List ℕ) → ((own : List ℕ) (a : A) → name (make own a) ≡ own) → (names : List (List ℕ)) (things : List A) → length names ≡ length things → map name (paired make names things) ≡ names
paired_names make name h [] things e = refl
paired_names make name h (own ∷ names) [] e = absurd (omega (arith, e))
paired_names make name h (own ∷ names) (a ∷ things) e =
    ap (λ (first : List ℕ). first ∷ map name (paired make names things)) (h own a) ∙ ap (λ (rest : List (List ℕ)). own ∷ rest) (paired_names make name h names things (omega (arith, e)))

-- types

behind_named : (item : Typed) (items : List Typed) → All IsNamed item.types → All IsNamed (parents_behind item items)
behind_named item items h = elim (shares item.types items) as (λ b. All IsNamed (if b then [] else item.types)) [ true ↦ All-nil IsNamed | false ↦ h ]

words_named : (items : List Typed) → All (λ item. IsNamed item.word) items → All (λ item. All IsNamed item.types) items → All IsNamed (type_words items)
words_named [] named parents = All-nil IsNamed
words_named (item ∷ items) named parents =
    All-cons IsNamed item.word (parents_behind item items ++ type_words items) (All-head (λ (i : Typed). IsNamed i.word) item items named)
    (All-append IsNamed (parents_behind item items) (type_words items) (behind_named item items (All-head (λ (i : Typed). All IsNamed i.types) item items parents))
    (words_named items (All-tail (λ (i : Typed). IsNamed i.word) item items named) (All-tail (λ (i : Typed). All IsNamed i.types) item items parents)))

object_is_name : is_name object_name ≡ true
unfolding is_name_byte
object_is_name = refl

types_are_names : (items : List Typed) → All (λ item. IsNamed item.word) items → All (λ item. All IsNamed item.types) items → AreNames (type_names items)
types_are_names items named parents =
    let firsts_named = firsts_all IsNamed text_of (object_name ∷ []) (type_words items) (words_named items named parents) in
    record {
      words = All-cons (λ name. is_name name ≡ true) object_name (map text_of (type_firsts items)) object_is_name (All-map (λ name. is_name name ≡ true) text_of (type_firsts items) firsts_named);
      apart = IsDistinct-cons bytes_eq object_name (map text_of (type_firsts items)) (firsts_avoid text_of (object_name ∷ []) object_name (type_words items) (last_pushed [] object_name)) (firsts_apart text_of (object_name ∷ []) (type_words items));
    }

-- actions

action_name : (declared : Declared) (raw : RawAction) → IfGiven (λ action. action.name ≡ raw.word.text) (action_of declared raw)
unfolding action_of
action_name declared raw =
    let types = types_in declared raw.parameters in
    let Same : Action → Type 0 = λ action. action.name ≡ raw.word.text in
    then_given (λ _. Unit {0}) Same (inside [] raw.parameters) _ (anything (inside [] raw.parameters)) (λ binders _.
    then_given (λ _. Unit {0}) Same (cond_of declared raw.condition binders) _ (anything (cond_of declared raw.condition binders)) (λ condition _.
    made_given (λ _. Unit {0}) Same (λ effect. record { name = raw.word.text; parameters = types; condition = condition; effect = effect }) (effect_of declared raw.effect binders)
    (anything (effect_of declared raw.effect binders)) (λ _ _. refl)))

action_names : (declared : Declared) (raws : List RawAction) → IfGiven (λ actions. map (λ (a : Action). a.name) actions ≡ map text_of (action_words raws)) (each (action_of declared) raws)
action_names declared [] = refl
action_names declared (raw ∷ raws) =
    let Rest : List Action → Type 0 = λ actions. map (λ (a : Action). a.name) actions ≡ map text_of (action_words raws) in
    let Whole : List Action → Type 0 = λ actions. map (λ (a : Action). a.name) actions ≡ raw.word.text ∷ map text_of (action_words raws) in
    then_given (λ action. action.name ≡ raw.word.text) Whole (action_of declared raw) _ (action_name declared raw) (λ action here.
    made_given Rest Whole (λ actions. action ∷ actions) (each (action_of declared) raws) (action_names declared raws) (λ actions rest.
    ap (λ (name : List ℕ). name ∷ map (λ (a : Action). a.name) actions) here ∙ ap (λ (names : List (List ℕ)). raw.word.text ∷ names) rest))

actions_are_names : (declared : Declared) (raws : List RawAction) → All (λ raw. IsNamed raw.word) raws → action_list_faults (in_domain declared) raws ≡ [] → AreNames (map text_of (action_words raws))
actions_are_names declared raws named e =
    let words = action_words raws in
    let list = first_empty (list_faults DomainFile most_actions words) _ e in
    let same = none_again DomainFile [] words (first_empty (repeats DomainFile [] words) _ list) in
    subst (λ (ws : List Word). AreNames (map text_of ws)) same (first_names text_of words (All-map IsNamed (λ (a : RawAction). a.word) raws named))

-- the task

pub task_names : (d : Domain) (p : Problem) (task : TypedTask) → IsWritten d p → faults_of d p ≡ [] → IsTaskOf d p task → HaveNames task
task_names d p task written e is =
    let declared = declared_by d p in
    let named = written.names in
    let names = type_names d.types in
    let items = firsts item_text [] (d.constants ++ p.objects) in
    let lists = faultless_lists declared d p (first_empty (declaration_faults_in declared d p) _ e) in
    let even = are_even d p in
    let type_count : length declared.types ≡ length declared.parents = sym (length-map names (parent_in names (kept_types d.types))) in
    let object_count : length declared.objects ≡ length declared.object_types = length-map items item_text ∙ sym (length-map items (item_types names)) in
    let types_are = ap (map (λ t. t.name)) is.types ∙ paired_names type_named (λ t. t.name) (λ own a. refl) declared.types declared.parents type_count in
    let objects_are = ap (map (λ o. o.name)) is.objects ∙ paired_names object_named (λ o. o.name) (λ own a. refl) declared.objects declared.object_types object_count in
    let predicates_are = ap (map (λ s. s.name)) is.predicates ∙ paired_names symbol_named (λ s. s.name) (λ own a. refl) declared.predicates declared.predicate_types even.predicates in
    let functions_are = ap (map (λ s. s.name)) is.functions ∙ paired_names symbol_named (λ s. s.name) (λ own a. refl) declared.functions declared.function_types even.functions in
    let actions_are = taken (λ actions. map (λ (a : Action). a.name) actions ≡ map text_of (action_words d.actions)) _ task.actions is.actions (action_names declared d.actions) in
    record {
      types = subst AreNames (sym types_are) (types_are_names d.types named.types named.parents);
      objects = subst AreNames (sym objects_are) (first_names item_text (d.constants ++ p.objects) (All-append (λ item. IsNamed item.word) d.constants p.objects named.constants named.objects));
      predicates = subst AreNames (sym predicates_are) (first_names header_text d.predicates named.predicates);
      functions = subst AreNames (sym functions_are) (first_names header_text d.functions named.functions);
      actions = subst AreNames (sym actions_are) (actions_are_names declared d.actions named.actions lists.actions);
    }
