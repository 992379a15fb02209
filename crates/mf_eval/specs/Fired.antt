-- The changes of the effects that fire, added to a front of changes, over stored fractions alone:
-- the first condition or right side that is too wide ends them.
use Rattle.std.specs.Prelude.{ℕ, List, [], ◌∷◌, ◌++◌, map, if◌then◌else◌, Result, Ok}
use Rattle.mf_fraction.specs.declared.faults.Wide.{Wide}
use Rattle.mf_model.specs.declared.task.Cond.{Cond}
use Rattle.mf_model.specs.declared.task.Effect.{Effect, fold-Effect}
use Rattle.mf_model.specs.declared.task.Effect.TheOpen.{Effect-F}
use Rattle.mf_model.specs.Application.{Change, Added, Deleted, Changed}
use Rattle.mf_model.specs.Objects.{having}
use Rattle.mf_model.specs.Views.{Look, objects_of}
use Rattle.mf_eval.specs.declared.deed.Deed.{Deed}
use Rattle.mf_eval.specs.declared.deed.Deed.TheVariants as deed
use Rattle.mf_eval.specs.Answers.{◌>>=◌}
use Rattle.mf_eval.specs.Checked.{kept_value}
use Rattle.mf_eval.specs.Judged.{met}

abbrev pub change_of : Deed → Change
change_of (deed.Added atom) = Added atom.predicate atom.objects
change_of (deed.Deleted atom) = Deleted atom.predicate atom.objects
change_of (deed.Changed op cell value) = Changed op cell.function cell.objects value

abbrev pub changes_in : List Deed → List Change
changes_in deeds = map change_of deeds

abbrev pub Firing : Type 0
Firing = List Change → Result (List Change) Wide

-- one after another
abbrev pub threaded : List Firing → Firing
threaded [] front = Ok front
threaded (part ∷ parts) front = part front >>= λ next. threaded parts next

abbrev pub fired_each : List (List ℕ) → (List ℕ → Firing) → List (List ℕ) → List ℕ → Firing
fired_each objects part [] b = part b
fired_each objects part (types ∷ others) b = threaded (map (λ o. fired_each objects part others (b ++ o ∷ [])) (having types 0 objects))

abbrev pub fired_with : List (List ℕ) → (List ℕ → Firing) → List (List ℕ) → List ℕ → ℕ → Firing
fired_with objects part others b object = fired_each objects part others (b ++ object ∷ [])

-- the part, where the condition holds
abbrev pub fired_when : List (List ℕ) → Look → Cond → (List ℕ → Firing) → List ℕ → Firing
fired_when objects look condition part b front = met objects look condition b >>= λ holds. if holds then part b front else Ok front

abbrev pub fired_step : List (List ℕ) → Look → Effect-F (List ℕ → Firing) → List ℕ → Firing
fired_step objects look (Effect-F.Add predicate terms) b front = Ok (front ++ Added predicate (objects_of b terms) ∷ [])
fired_step objects look (Effect-F.Delete predicate terms) b front = Ok (front ++ Deleted predicate (objects_of b terms) ∷ [])
fired_step objects look (Effect-F.Change op function terms value) b front =
    kept_value look value b >>= λ v. Ok (front ++ Changed op function (objects_of b terms) v ∷ [])
fired_step objects look (Effect-F.Group parts) b front = threaded (map (λ part. part b) parts) front
fired_step objects look (Effect-F.Each variables part) b front = fired_each objects part variables b front
fired_step objects look (Effect-F.When condition part) b front = fired_when objects look condition part b front

abbrev pub fired : List (List ℕ) → Look → Effect → List ℕ → Firing
fired objects look = fold-Effect (List ℕ → Firing) (fired_step objects look)

abbrev pub fired_parts : List (List ℕ) → Look → List Effect → List ℕ → List Firing
fired_parts objects look parts b = map (λ part. part b) (map (fired objects look) parts)
