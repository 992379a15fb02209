-- Successor lists that are made of the packed task alone.
use Rattle.std.specs.Prelude.{◌≡◌, ℕ, ◌+◌, Bool, true, false, List, [], ◌∷◌}
use Rattle.mf_task.specs.declared.ground.GroundAction.{GroundAction}
use Rattle.mf_task.specs.declared.grown.Offspring.{Offspring}
use Rattle.mf_task.specs.declared.task.Task.{Task}
use Rattle.mf_task.specs.GroundMeaning.{action_firing, is_ground_applicable, next_sight}
use Rattle.mf_task.specs.Rows.{Sight}
use Rattle.mf_task.specs.Successors.{is_among}
use Rattle.mf_bridge.specs.Corresponds.{HasSight}

-- the entry of an action: its number, a row that shows what the next state does, and whether its number is among the helpful ones
pub record IsSuccessor (packed : Task) (sight : Sight) (helpful : List ℕ) (n : ℕ) (action : GroundAction) (entry : Offspring) : Type 0 where
  pub instance_is : entry.instance ≡ n
  pub shows : HasSight packed (next_sight packed sight (action_firing packed sight action)) entry.row
  pub helpful_is : entry.helpful ≡ is_among helpful n

abbrev pub FirstAndRest : (Offspring → Type 0) → (List Offspring → Type 0) → List Offspring → Type 0
FirstAndRest first rest [] = ⊥
FirstAndRest first rest (entry ∷ entries) = first entry × rest entries

-- an applicable action has the first entry; one that is not applicable has none
abbrev pub HasEntry : (applicable : Bool) → (Offspring → Type 0) → (List Offspring → Type 0) → List Offspring → Type 0
HasEntry true first rest = FirstAndRest first rest
HasEntry false first rest = rest

-- an entry for each applicable one of the actions, in their order, the first of which has this number
abbrev pub AreSuccessorsFrom : Task → Sight → List ℕ → ℕ → List GroundAction → List Offspring → Type 0
AreSuccessorsFrom packed sight helpful n [] entries = entries ≡ []
AreSuccessorsFrom packed sight helpful n (action ∷ actions) entries =
    HasEntry (is_ground_applicable packed sight action) (IsSuccessor packed sight helpful n action) (AreSuccessorsFrom packed sight helpful (n + 1) actions) entries

-- an entry for each applicable action of the task
abbrev pub AreGroundSuccessors : Task → Sight → List ℕ → List Offspring → Type 0
AreGroundSuccessors packed sight helpful entries = AreSuccessorsFrom packed sight helpful 0 packed.actions entries
