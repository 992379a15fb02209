-- Faults of constants and objects, one list after the other.
use Rattle.std.proofs.Common.{◌≡◌, ℕ, List, [], ◌++◌, map, length, ap, ◌∙◌, Option}
use Rattle.mf_model.specs.declared.form.FileKind.TheVariants.{DomainFile, ProblemFile}
use Rattle.mf_model.specs.declared.form.Word.{Word}
use Rattle.mf_types.specs.declared.least.Fault.{Fault}
use Rattle.mf_types.specs.Declarations.{repeats, beyond, beyond_behind, list_faults, object_list_faults, most_objects}
use Rattle.mf_types.specs.Faults.{after}
use Rattle.mf_types.specs.Names.{text_of}
use Rattle.mf_types.specs.Tables.{entered}
use Rattle.mf_types.proofs.After.{after_append}

pub objects_found : (best first second third fourth : Option Fault) (constants objects : List Word) (empty names : List (List ℕ)) (count : ℕ)
    → empty ≡ [] → first ≡ after best (repeats DomainFile empty constants) → names ≡ entered empty (map text_of constants)
    → second ≡ after first (beyond DomainFile most_objects constants) → third ≡ after second (repeats ProblemFile names objects)
    → count ≡ length constants → fourth ≡ after third (beyond_behind ProblemFile most_objects count objects)
    → fourth ≡ after best (object_list_faults constants objects)
objects_found best first second third fourth constants objects empty names count none a n b c l d =
    let seen : names ≡ entered [] (map text_of constants) = n ∙ ap (λ (ns : List (List ℕ)). entered ns (map text_of constants)) none in
    let once : first ≡ after best (repeats DomainFile [] constants) = a ∙ ap (λ (ns : List (List ℕ)). after best (repeats DomainFile ns constants)) none in
    let limited : second ≡ after best (list_faults DomainFile most_objects constants) =
    b ∙ (ap (λ (f : Option Fault). after f (beyond DomainFile most_objects constants)) once ∙ after_append best (repeats DomainFile [] constants) (beyond DomainFile most_objects constants)) in
    let both : third ≡ after best (list_faults DomainFile most_objects constants ++ repeats ProblemFile (entered [] (map text_of constants)) objects) =
    c ∙ (ap (λ (ns : List (List ℕ)). after second (repeats ProblemFile ns objects)) seen
    ∙ (ap (λ (f : Option Fault). after f (repeats ProblemFile (entered [] (map text_of constants)) objects)) limited
    ∙ after_append best (list_faults DomainFile most_objects constants) (repeats ProblemFile (entered [] (map text_of constants)) objects))) in
    d ∙ (ap (λ (k : ℕ). after third (beyond_behind ProblemFile most_objects k objects)) l
    ∙ (ap (λ (f : Option Fault). after f (beyond_behind ProblemFile most_objects (length constants) objects)) both
    ∙ after_append best (list_faults DomainFile most_objects constants ++ repeats ProblemFile (entered [] (map text_of constants)) objects) (beyond_behind ProblemFile most_objects (length constants) objects)))
