-- Where no list of declarations goes beyond its limit, there are few names of each kind.
use Rattle.std.proofs.Common.{◌≡◌, ℕ, ◌+◌, ◌-◌, ◌≤◌, true, false, if◌then◌else◌, nat_le, List, [], ◌∷◌, ◌++◌, map, length, sym, ◌∙◌, arith, length-append}
use Rattle.std.proofs.lemmas.Bool.Decides.{nat_tests}
use Rattle.std.proofs.lemmas.List.{length-map}
use Rattle.mf_model.proofs.Choices.{if_true}
use Rattle.mf_model.specs.declared.form.FileKind.TheVariants.{DomainFile, ProblemFile}
use Rattle.mf_model.specs.declared.form.Word.{Word}
use Rattle.mf_model.specs.declared.form.Typed.{Typed}
use Rattle.mf_model.specs.declared.form.Header.{Header}
use Rattle.mf_model.specs.declared.form.Domain.{Domain}
use Rattle.mf_model.specs.declared.form.Problem.{Problem}
use Rattle.mf_types.specs.Declarations.{beyond, repeats, list_faults, object_list_faults, item_words, header_words, action_words}
use Rattle.mf_types.specs.DeclarationFaults.{type_list_faults, header_list_faults, declaration_faults_in}
use Rattle.mf_types.specs.Names.{Declared, declared_by, is_member, firsts, text_of, type_firsts, item_text, header_text, kept_types, type_names}
use Rattle.mf_types.specs.Sites.{Site}
use Rattle.mf_types.specs.Tables.{entered}
use Rattle.mf_types.specs.Tasks.{are_few}
use Rattle.mf_types.specs.Uses.{in_domain}
use Rattle.mf_types.proofs.Faultless.{faultless_lists}
use Rattle.mf_types.proofs.TaskReadings.{are_within}
use Rattle.mf_types.proofs.There.{first_empty, second_empty}
use Rattle.mf_types.proofs.ThereScopes.{few_words}

-- first ones of each name are no more than all
few_firsts : {A : Type 0} (name : A → List ℕ) (seen : List (List ℕ)) (items : List A) → length (firsts name seen items) ≤ length items
few_firsts name seen [] = omega arith
few_firsts name seen (item ∷ items) =
    let fewer = few_firsts name seen items in
    let further = few_firsts name (seen ++ name item ∷ []) items in
    elim (is_member seen (name item)) as (λ b. length (if b then firsts name seen items else item ∷ firsts name (seen ++ name item ∷ []) items) ≤ length (item ∷ items))
    [ true ↦ omega (arith, fewer) | false ↦ omega (arith, further) ]

few_names : {A : Type 0} (name : A → List ℕ) (items : List A) (most : ℕ) → length items ≤ most → length (map name (firsts name [] items)) ≤ most
few_names name items most h =
    let same = length-map (firsts name [] items) name in
    let fewer = few_firsts name [] items in
    omega (arith, same, fewer, h)

few_types : (declared : Declared) (items : List Typed) → type_list_faults declared items ≡ [] → length (type_names items) ≤ 10001
few_types declared items e =
    let front = repeats DomainFile [] (item_words (kept_types items)) in
    let list = first_empty (front ++ beyond DomainFile 10000 (type_firsts items)) _ e in
    let count = few_words DomainFile 10000 (type_firsts items) (second_empty front _ list) in
    let same = length-map (type_firsts items) text_of in
    omega (arith, count, same)

few_headers : (site : Site) (headers : List Header) → header_list_faults site headers ≡ [] → length headers ≤ 10000
few_headers site headers e =
    let list = first_empty (list_faults DomainFile 10000 (header_words headers)) _ e in
    let count = few_words DomainFile 10000 (header_words headers) (second_empty (repeats DomainFile [] (header_words headers)) _ list) in
    let same = length-map headers (λ (h : Header). h.word) in
    omega (arith, count, same)

few_objects : (constants objects : List Word) → object_list_faults constants objects ≡ [] → length constants + length objects ≤ 65535
few_objects constants objects e =
    let own = list_faults DomainFile 65535 constants in
    let again = repeats ProblemFile (entered [] (map text_of constants)) objects in
    let front = first_empty (own ++ again) _ e in
    let first = few_words DomainFile 65535 constants (second_empty (repeats DomainFile [] constants) _ (first_empty own _ front)) in
    let behind = second_empty (own ++ again) _ e in
    let within : nat_le (length constants) 65535 ≡ true = grind (arith, nat_tests, first) in
    let second = few_words ProblemFile (65535 - length constants) objects (sym (if_true (nat_le (length constants) 65535) _ [] within) ∙ behind) in
    omega (arith, first, second)

pub few_declared : (d : Domain) (p : Problem) → declaration_faults_in (declared_by d p) d p ≡ [] → are_few (declared_by d p) d ≡ true
few_declared d p e =
    let declared = declared_by d p in
    let site = in_domain declared in
    let lists = faultless_lists declared d p e in
    let words = object_list_faults (item_words d.constants) (item_words p.objects) in
    let list = few_objects (item_words d.constants) (item_words p.objects) (first_empty words _ (first_empty (words ++ _) _ lists.objects)) in
    let constants_are = length-map d.constants (λ (item : Typed). item.word) in
    let objects_are = length-map p.objects (λ (item : Typed). item.word) in
    let both = length-append d.constants p.objects in
    let action_list = first_empty (list_faults DomainFile 1000 (action_words d.actions)) _ lists.actions in
    let action_count = few_words DomainFile 1000 (action_words d.actions) (second_empty (repeats DomainFile [] (action_words d.actions)) _ action_list) in
    let actions_are = length-map d.actions (λ a. a.word) in
    are_within declared d
    (record {
      types = few_types declared d.types lists.types;
      objects = few_names item_text (d.constants ++ p.objects) 65535 (omega (arith, list, constants_are, objects_are, both));
      predicates = few_names header_text d.predicates 10000 (few_headers site d.predicates lists.predicates);
      functions = few_names header_text d.functions 10000 (few_headers site d.functions lists.functions);
    })
    (omega (arith, action_count, actions_are))
