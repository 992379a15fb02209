-- One action more in the list of successors.
use Rattle.std.proofs.Common.{◌≡◌, ℕ, ◌+◌, Bool, true, false, if◌then◌else◌, List, [], ◌∷◌, ◌++◌, append_assoc, Some, Err, refl, sym, ap, ◌∙◌}
use Rattle.mf_task.specs.declared.ground.GroundAction.{GroundAction}
use Rattle.mf_task.specs.declared.task.Task.{Task}
use Rattle.mf_task.specs.GroundMeaning.{is_ground_applicable}
use Rattle.mf_task.specs.Rows.{Sight}
use Rattle.mf_task.specs.Width.{way_out, way_out_from}
use Rattle.mf_state.specs.declared.expansion.Next.{Next}
use Rattle.mf_state.specs.declared.fault.StepFault.{StepFault}
use Rattle.mf_state.specs.declared.fault.StepFault.TheVariants as step_fault
use Rattle.mf_state.specs.NextRows.{Adds, Steps, applicable_from, instances_of, is_way_out}

module _ (task : Task) (sight : Sight) (action : GroundAction) (n : ℕ) (actions : List GroundAction) where
  way_out_by : (b : Bool) → (if b then Some n else way_out_from task sight (n + 1) actions) ≡ way_out_from task sight n (action ∷ actions) → b ≡ true → way_out_from task sight n (action ∷ actions) ≡ Some n
  way_out_by true e f = sym e
  way_out_by false e f = cc

  here : is_way_out task sight action ≡ true → way_out_from task sight n (action ∷ actions) ≡ Some n
  here e = way_out_by (is_way_out task sight action) refl e

  further_by : (b : Bool) → b ≡ false → (if b then Some n else way_out_from task sight (n + 1) actions) ≡ way_out_from task sight (n + 1) actions
  further_by true e = cc
  further_by false e = refl

  pub further : is_way_out task sight action ≡ false → way_out_from task sight n (action ∷ actions) ≡ way_out_from task sight (n + 1) actions
  further e = further_by (is_way_out task sight action) e

  -- an action that leads out of the width ends the list
  pub ended : (old new : List Next) (fault : StepFault) → Adds task sight action n old new (Err fault) → way_out_from task sight n (action ∷ actions) ≡ way_out task sight → Steps task sight (Err fault)
  ended old new (step_fault.Wide instance) adds rest = sym rest ∙ here adds.1 ∙ ap Some (sym adds.0)
  ended old new step_fault.Memory adds rest = tt

  applicable_by : (b : Bool) → (if b then n ∷ [] else []) ++ applicable_from task sight (n + 1) actions ≡ (if b then n ∷ applicable_from task sight (n + 1) actions else applicable_from task sight (n + 1) actions)
  applicable_by true = refl
  applicable_by false = refl

  pub instances_more : (old new : List Next) → instances_of new ≡ instances_of old ++ applicable_from task sight n (action ∷ []) → instances_of new ++ applicable_from task sight (n + 1) actions ≡ instances_of old ++ applicable_from task sight n (action ∷ actions)
  instances_more old new e =
      ap (λ (l : List ℕ). l ++ applicable_from task sight (n + 1) actions) e
      ∙ append_assoc (instances_of old) (applicable_from task sight n (action ∷ [])) (applicable_from task sight (n + 1) actions)
      ∙ ap (λ (l : List ℕ). instances_of old ++ l) (applicable_by (is_ground_applicable task sight action))
