-- Each object of the task of two files without faults has the type `object`.
use Rattle.std.proofs.Common.{◌≡◌, ℕ, ◌<◌, ◌≤◌, ◌⊎◌, inl, inr, Bool, true, false, ◌||◌, IsTrue, nat_eq, Option, Some, None, All, List, [], ◌∷◌, ◌++◌, length, map, refl, sym, subst, ap, ◌∙◌, arith}
use Rattle.std.specs.List.{flat_map}
use Rattle.std.proofs.lemmas.Bool.{cases_lt}
use Rattle.std.proofs.lemmas.List.{length-map, get_or_past}
use Rattle.std.proofs.lemmas.List.Elements.{All-head, All-get_or, All-append, All-map}
use Rattle.std.proofs.lemmas.List.Folds.{list_any-append}
use Rattle.mf_model.specs.declared.form.Domain.{Domain}
use Rattle.mf_model.specs.declared.form.Problem.{Problem}
use Rattle.mf_model.specs.declared.form.Typed.{Typed}
use Rattle.mf_model.specs.declared.form.Word.{Word}
use Rattle.mf_model.specs.declared.task.Object as object
use Rattle.mf_model.specs.declared.task.TypedTask.{TypedTask}
use Rattle.mf_model.specs.Objects as objects
use Rattle.mf_model.specs.Objects.{ancestors, kinds_of, meets, member}
use Rattle.mf_model.specs.Resolution.{number_of}
use Rattle.mf_model.specs.declared.form.FileKind.TheVariants.{DomainFile}
use Rattle.mf_types.specs.Ascent.{parent_at}
use Rattle.mf_types.specs.AllFaults.{faults_of}
use Rattle.mf_types.specs.Arguments.{unknown}
use Rattle.mf_types.specs.Declarations.{beyond, item_words, most_symbols, object_list_faults, repeats}
use Rattle.mf_types.specs.DeclarationFaults.{object_faults, declaration_faults_in}
use Rattle.mf_types.specs.Names.{Declared, declared_by, firsts, item_text, item_types, kept_types, numbers_by, numbers_of, parent_in, type_firsts, type_names, types_of}
use Rattle.mf_types.specs.Quantified.{item_faults, type_word_faults}
use Rattle.mf_types.specs.Sites.{Site}
use Rattle.mf_types.specs.Tasks.{paired, type_named, object_named, IsTaskOf}
use Rattle.mf_types.specs.Uses.{in_domain, in_problem}
use Rattle.mf_types.proofs.Faultless.{faultless_lists}
use Rattle.mf_types.proofs.Narrow.{AreBelow, types_below, are_numbers}
use Rattle.mf_types.proofs.NoCycles.{no_cycle}
use Rattle.mf_types.proofs.Repetition.{HasCycle, top_or_cycle}
use Rattle.mf_types.proofs.There.{first_empty, second_empty, never, each_passes}
use Rattle.mf_types.proofs.ValidTask.{paired_all, paired_length, firsts_all}

-- Each declared type is declared, so an object has a type at least

pub record HasType (most : ℕ) (types : List ℕ) : Type 0 where
  pub first : ℕ
  pub others : List ℕ
  pub is : types ≡ first ∷ others
  pub below : first < most

number_there : (site : Site) (w : Word) (o : Option ℕ) → unknown site w o ≡ [] → (n : ℕ) × (o ≡ Some n)
number_there site w None e = never _ _ _ e
number_there site w (Some n) e = (n, refl)

types_there : (site : Site) → 0 < length site.declared.types → (ws : List Word) → flat_map (type_word_faults site) ws ≡ [] → HasType (length site.declared.types) (types_of site.declared.types ws)
types_there site some [] e = record { first = 0; others = []; is = refl; below = some }
types_there site some (w ∷ ws) e =
    let names = site.declared.types in
    let found = number_there site w (number_of names w.text) (first_empty (type_word_faults site w) _ e) in
    let is : types_of names (w ∷ ws) ≡ found.0 ∷ numbers_of names ws = ap (λ (o : Option ℕ). numbers_by o (numbers_of names ws)) found.1 in
    let below = subst (AreBelow (length names)) is (types_below names some (w ∷ ws)) in
    record { first = found.0; others = numbers_of names ws; is = is; below = All-head (λ n. n < length names) found.0 (numbers_of names ws) below }

abbrev IsTyped : List (List ℕ) → Typed → Type 0
IsTyped names item = HasType (length names) (item_types names item)

items_typed : (site : Site) → 0 < length site.declared.types → (items : List Typed) → flat_map (item_faults site) items ≡ [] → All (IsTyped site.declared.types) items
items_typed site some = each_passes (IsTyped site.declared.types) (item_faults site) (λ item. types_there site some item.types)

objects_typed : (declared : Declared) → 0 < length declared.types → (constants objects : List Typed) → object_faults declared constants objects ≡ [] → All (IsTyped declared.types) (firsts item_text [] (constants ++ objects))
objects_typed declared some constants objects e =
    let listed = object_list_faults (item_words constants) (item_words objects) in
    let in_constants = flat_map (item_faults (in_domain declared)) constants in
    let front = first_empty (listed ++ in_constants) _ e in
    firsts_all (IsTyped declared.types) item_text [] (constants ++ objects)
    (All-append (IsTyped declared.types) constants objects
    (items_typed (in_domain declared) some constants (second_empty listed _ front))
    (items_typed (in_problem declared) some objects (second_empty (listed ++ in_constants) _ e)))

-- Each type descends from type 0

inside : (parents : List ℕ) (most : ℕ) → 0 < most → AreBelow most parents → (t : ℕ) → parent_at parents t < most
inside parents most some below t = by (cases_lt t (length parents))
  where
    by : (t < length parents) ⊎ (length parents ≤ t) → parent_at parents t < most
    by (inl h) = All-get_or (λ n. n < most) parents t 0 h below
    by (inr h) = let past = get_or_past parents t 0 h in omega (arith, past, some)

top_among : (ts others : List ℕ) → member 0 ts ≡ true → meets (0 ∷ []) (ts ++ others) ≡ true
top_among ts others e = ap (λ (b : Bool). b || false) (list_any-append (nat_eq 0) ts others ∙ ap (λ (b : Bool). b || member 0 others) e)

meets_top : (parents : List ℕ) → AreBelow (length parents) parents → (HasCycle parents → ⊥) → (types : List ℕ) → HasType (length parents) types → meets (0 ∷ []) (flat_map (ancestors parents (length parents)) types) ≡ true
meets_top parents below none types has =
    let most = length parents in
    let kinds = ancestors parents most in
    let below_first = has.below in
    let some : 0 < most = omega arith in
    ap (λ (ts : List ℕ). meets (0 ∷ []) (flat_map kinds ts)) has.is
    ∙ top_among (kinds has.first) (flat_map kinds has.others) (by (top_or_cycle parents (inside parents most some below) has.first has.below))
  where
    by : (member 0 (ancestors parents (length parents) has.first) ≡ true) ⊎ HasCycle parents → member 0 (ancestors parents (length parents) has.first) ≡ true
    by (inl e) = e
    by (inr cycle) = absurd (none cycle)

-- The task

paired_parents : (names : List (List ℕ)) (parents : List ℕ) → length names ≡ length parents → map (λ t. t.parent) (paired type_named names parents) ≡ parents
paired_parents [] [] e = refl
paired_parents [] (p ∷ parents) e = absurd (omega (arith, e))
paired_parents (name ∷ names) [] e = absurd (omega (arith, e))
paired_parents (name ∷ names) (p ∷ parents) e = ap (λ (ps : List ℕ). p ∷ ps) (paired_parents names parents (omega (arith, e)))

abbrev IsObject : List ℕ → ℕ → object.Object → Type 0
IsObject parents most o = IsTrue (meets (0 ∷ []) (flat_map (ancestors parents most) o.types))

abbrev HasKinds : List ℕ → ℕ → List object.Object → Type 0
HasKinds parents most = All (IsObject parents most)

pub objects_have_top : (d : Domain) (p : Problem) (task : TypedTask) → faults_of d p ≡ [] → IsTaskOf d p task → All (λ kinds. IsTrue (meets (0 ∷ []) kinds)) (kinds_of task)
objects_have_top d p task e is =
    let declared = declared_by d p in
    let names = type_names d.types in
    let parents = declared.parents in
    let lists = faultless_lists declared d p (first_empty (declaration_faults_in declared d p) _ e) in
    let own = repeats DomainFile [] (item_words (kept_types d.types)) ++ beyond DomainFile most_symbols (type_firsts d.types) in
    let none = no_cycle declared d.types refl (second_empty own _ lists.types) in
    let count : length names ≡ length parents = sym (length-map names (parent_in names (kept_types d.types))) in
    let some : 0 < length names = omega arith in
    let below = subst (λ (n : ℕ). AreBelow n parents) count (are_numbers d p).parents in
    let items = firsts item_text [] (d.constants ++ p.objects) in
    let typed : All (HasType (length names)) declared.object_types = All-map (HasType (length names)) (item_types names) items (objects_typed declared some d.constants p.objects lists.objects) in
    let has : HasKinds parents (length parents) (paired object_named declared.objects declared.object_types) =
    paired_all (HasType (length parents)) (IsObject parents (length parents)) object_named (λ a ts. meets_top parents below none ts) declared.objects declared.object_types (subst (λ (n : ℕ). All (HasType n) declared.object_types) count typed) in
    let types_are : objects.parents_of task ≡ parents = ap (λ ts. map (λ t. t.parent) ts) is.types ∙ paired_parents names parents count in
    let length_is : length task.types ≡ length parents = ap length is.types ∙ paired_length type_named names parents count ∙ count in
    All-map (λ kinds. IsTrue (meets (0 ∷ []) kinds)) _ task.objects
    (subst (λ (n : ℕ). HasKinds (objects.parents_of task) n task.objects) (sym length_is)
    (subst (λ (ps : List ℕ). HasKinds ps (length parents) task.objects) (sym types_are)
    (subst (HasKinds parents (length parents)) (sym is.objects) has)))
