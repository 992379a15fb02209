-- Where no place is wide, the row is narrow.
use Rattle.std.proofs.Common.{◌≡◌, ℕ, ◌+◌, Bool, true, false, not, ◌||◌, if◌then◌else◌, List, [], ◌∷◌, Option, Some, None, refl, ap}
use Rattle.std.specs.Prelude.{is_some}
use Rattle.std.specs.List.{list_any}
use Rattle.mf_task.specs.declared.ground.GroundAction.{GroundAction}
use Rattle.mf_task.specs.declared.place.Place.{Place}
use Rattle.mf_task.specs.declared.place.Place.TheVariants.{Goal, Action}
use Rattle.mf_task.specs.declared.task.Task.{Task}
use Rattle.mf_task.specs.Rows.{Sight}
use Rattle.mf_task.specs.Width.{is_narrow, is_wide_action, is_wide_goal, place_from, wide_place}

none_by : (b : Bool) (place : Place) (rest : Option Place) (others : Bool) → (rest ≡ None → others ≡ false) → (if b then Some place else rest) ≡ None → (b || others) ≡ false
none_by true place rest others further e = cc
none_by false place rest others further e = further e

some_by : (b : Bool) (place : Place) (rest : Option Place) (others : Bool) (found : Place) → (rest ≡ Some found → others ≡ true) → (if b then Some place else rest) ≡ Some found → (b || others) ≡ true
some_by true place rest others found further e = refl
some_by false place rest others found further e = further e

module _ (task : Task) (sight : Sight) where
  none_from : (n : ℕ) (actions : List GroundAction) → place_from task sight n actions ≡ None → list_any (is_wide_action task sight) actions ≡ false
  none_from n [] e = refl
  none_from n (action ∷ actions) e =
      none_by (is_wide_action task sight action) (Action n) (place_from task sight (n + 1) actions) (list_any (is_wide_action task sight) actions) (none_from (n + 1) actions) e

  some_from : (n : ℕ) (actions : List GroundAction) (found : Place) → place_from task sight n actions ≡ Some found → list_any (is_wide_action task sight) actions ≡ true
  some_from n [] found e = cc
  some_from n (action ∷ actions) found e =
      some_by (is_wide_action task sight action) (Action n) (place_from task sight (n + 1) actions) (list_any (is_wide_action task sight) actions) found (some_from (n + 1) actions found) e

  pub narrow_nowhere : wide_place task sight ≡ None → is_narrow task sight ≡ true
  narrow_nowhere e =
      ap not (none_by (is_wide_goal task sight) Goal (place_from task sight 0 task.actions) (list_any (is_wide_action task sight) task.actions) (none_from 0 task.actions) e)

  pub wide_somewhere : (found : Place) → wide_place task sight ≡ Some found → is_narrow task sight ≡ false
  wide_somewhere found e =
      ap not (some_by (is_wide_goal task sight) Goal (place_from task sight 0 task.actions) (list_any (is_wide_action task sight) task.actions) found (some_from 0 task.actions found) e)

  narrow_by : (o : Option Place) → wide_place task sight ≡ o → is_narrow task sight ≡ not (is_some o)
  narrow_by None e = narrow_nowhere e
  narrow_by (Some place) e = wide_somewhere place e

  pub narrow_is : is_narrow task sight ≡ not (is_some (wide_place task sight))
  narrow_is = narrow_by (wide_place task sight) refl
