-- The search takes a resolved task exactly where it is plain.
use Rattle.std.proofs.Common.{◌≡◌, ◌↔◌, ℕ, ◌≤◌, Bool, true, Option, Some, None, List, [], ◌∷◌, map, length, slice_get, option_map, All, refl, sym, ap, ◌∙◌, subst}
use Rattle.std.proofs.lemmas.Bool.{and_parts, false≢true}
use Rattle.std.proofs.lemmas.List.Elements.{All-head}
use Rattle.std.proofs.lemmas.Option.{slice_get-map}
use Rattle.mf_model.specs.Plain.{all_true, is_plain_term, are_plain_terms, are_below, has_count, is_plain_atom, plain_cond_step, is_plain_cond, plain_effect_step, is_plain_effect, is_plain_fact}
use Rattle.mf_model.specs.Resolution.{takes}
use Rattle.mf_model.specs.declared.task.Action.{Action}
use Rattle.mf_model.specs.declared.task.Atom.{Atom}
use Rattle.mf_model.specs.declared.task.Cond.{Cond}
use Rattle.mf_model.specs.declared.task.Cond.TheFolds.{map-Cond, fold-roll-Cond, ind-Cond}
use Rattle.mf_model.specs.declared.task.Cond.TheOpen.{Cond-F}
use Rattle.mf_model.specs.declared.task.Cond.TheViews.{roll-Cond}
use Rattle.mf_model.specs.declared.task.Effect.{Effect}
use Rattle.mf_model.specs.declared.task.Effect.TheFolds.{map-Effect, fold-roll-Effect, ind-Effect}
use Rattle.mf_model.specs.declared.task.Effect.TheOpen.{Effect-F}
use Rattle.mf_model.specs.declared.task.Effect.TheViews.{roll-Effect}
use Rattle.mf_model.specs.declared.task.Symbol.{Symbol}
use Rattle.mf_model.specs.declared.task.Term.{Term}
use Rattle.mf_model.specs.declared.task.Term.TheVariants.{Variable, Object}
use Rattle.mf_model.specs.declared.task.TypedTask.{TypedTask}
use Rattle.mf_model.specs.declared.task.Valued.{Valued}
use Rattle.mf_model.specs.ResolvedTask.{IsResolvedTask}
use Rattle.mf_model.specs.TaskLimits.{HaveFewParameters}
use Rattle.mf_model.specs.ValidTasks.{Counts, counts_of, parameter_count, is_valid_term, are_valid_terms, is_valid_use, cond_step, is_valid_cond, effect_step, is_valid_effect, are_objects, is_valid_atom, is_valid_value, IsValidAction, IsValidTask}
use Rattle.mf_plain.specs.Changes.{changes_step, only_changes_atoms}
use Rattle.mf_plain.specs.Conjunctions.{conjunction_step, is_conjunction}
use Rattle.mf_plain.specs.PlainTask.{IsPlainAction, IsPlainTask}
use Rattle.mf_plain.specs.SearchTask.{IsSearchAction, IsSearchTask}
use Rattle.mf_plain.proofs.ConjunctionLaws.{plain_is_conjunction}
use Rattle.mf_plain.proofs.EffectLaws.{plain_only_changes}

-- terms, facts and atoms

same_term : (counts : Counts) (variables : ℕ) (term : Term) → is_plain_term variables counts.objects term ≡ is_valid_term counts variables term
same_term counts variables (Variable place) = refl
same_term counts variables (Object number) = refl

same_terms : (counts : Counts) (variables : ℕ) (terms : List Term) → are_plain_terms variables counts.objects terms ≡ are_valid_terms counts variables terms
same_terms counts variables [] = refl
same_terms counts variables (term ∷ terms) = rw (same_term counts variables term, same_terms counts variables terms) refl

same_objects : (counts : Counts) (numbers : List ℕ) → are_below counts.objects numbers ≡ are_objects counts numbers
same_objects counts [] = refl
same_objects counts (n ∷ ns) = rw (same_objects counts ns) refl

same_count : (symbol : Option Symbol) (count : ℕ) → has_count symbol count ≡ takes (option_map parameter_count symbol) count
same_count None count = refl
same_count (Some symbol) count = refl

same_use : (predicates : List Symbol) (n count : ℕ) → has_count (slice_get predicates n) count ≡ takes (slice_get (map parameter_count predicates) n) count
same_use predicates n count = same_count (slice_get predicates n) count ∙ sym (ap (λ symbol. takes symbol count) (slice_get-map parameter_count predicates n))

same_fact : (task : TypedTask) (atom : Atom) → is_plain_fact task.predicates (length task.objects) atom ≡ is_valid_atom (counts_of task) atom
same_fact task atom = rw (same_use task.predicates atom.predicate (length atom.objects), same_objects (counts_of task) atom.objects) refl

same_atom : (task : TypedTask) (variables n : ℕ) (terms : List Term) →
    is_plain_atom task.predicates variables (length task.objects) n terms ≡ is_valid_use (map parameter_count task.predicates) (counts_of task) variables n terms
same_atom task variables n terms = rw (same_use task.predicates n (length terms), same_terms (counts_of task) variables terms) refl

-- a conjunction of atoms is plain where it is valid

abbrev IsSameCond : TypedTask → Cond → Type 0
IsSameCond task c = is_conjunction c ≡ true → (v : ℕ) → is_plain_cond task.predicates v (length task.objects) c ≡ is_valid_cond (counts_of task) c v

abbrev SameCond : TypedTask → Type 0
SameCond task = (c : Cond) × IsSameCond task c

same_conds : (task : TypedTask) (parts : List (SameCond task)) → all_true (map is_conjunction (map (λ e. e.0) parts)) ≡ true → (v : ℕ) →
    all_true (map (is_plain_cond task.predicates v (length task.objects)) (map (λ e. e.0) parts))
    ≡ all_true (map (λ part. part v) (map (is_valid_cond (counts_of task)) (map (λ e. e.0) parts)))
same_conds task [] plain v = refl
same_conds task (p ∷ parts) plain v =
    let both = and_parts (is_conjunction p.0) (all_true (map is_conjunction (map (λ e. e.0) parts))) plain in
    rw (p.1 both.0 v, same_conds task parts both.1 v) refl

same_cond_step : (task : TypedTask) (y : Cond-F (SameCond task)) → IsSameCond task (roll-Cond (map-Cond (SameCond task) Cond (λ e. e.0) y))
same_cond_step task (Cond-F.Atom n terms) plain v =
    let x : Cond-F Cond = Cond-F.Atom n terms in
    rw (fold-roll-Cond Bool (plain_cond_step task.predicates v (length task.objects)) x, fold-roll-Cond (ℕ → Bool) (cond_step (counts_of task)) x) (same_atom task v n terms)
same_cond_step task (Cond-F.And parts) plain v =
    let x : Cond-F Cond = Cond-F.And (map (λ e. e.0) parts) in
    let plain_parts = rw (fold-roll-Cond Bool conjunction_step x) at plain in
    rw (fold-roll-Cond Bool (plain_cond_step task.predicates v (length task.objects)) x, fold-roll-Cond (ℕ → Bool) (cond_step (counts_of task)) x) (same_conds task parts plain_parts v)
same_cond_step task y plain v = absurd (false≢true (sym (fold-roll-Cond Bool conjunction_step (map-Cond (SameCond task) Cond (λ e. e.0) y)) ∙ plain))

same_cond : (task : TypedTask) (c : Cond) → IsSameCond task c
same_cond task = ind-Cond (IsSameCond task) (λ x y is. subst (λ z. IsSameCond task (roll-Cond z)) is (same_cond_step task y))

-- an effect that adds and deletes atoms is plain where it is valid

abbrev IsSameEffect : TypedTask → Effect → Type 0
IsSameEffect task e = only_changes_atoms e ≡ true → (v : ℕ) → is_plain_effect task.predicates v (length task.objects) e ≡ is_valid_effect (counts_of task) e v

abbrev SameEffect : TypedTask → Type 0
SameEffect task = (e : Effect) × IsSameEffect task e

same_effects : (task : TypedTask) (parts : List (SameEffect task)) → all_true (map only_changes_atoms (map (λ e. e.0) parts)) ≡ true → (v : ℕ) →
    all_true (map (is_plain_effect task.predicates v (length task.objects)) (map (λ e. e.0) parts))
    ≡ all_true (map (λ part. part v) (map (is_valid_effect (counts_of task)) (map (λ e. e.0) parts)))
same_effects task [] plain v = refl
same_effects task (p ∷ parts) plain v =
    let both = and_parts (only_changes_atoms p.0) (all_true (map only_changes_atoms (map (λ e. e.0) parts))) plain in
    rw (p.1 both.0 v, same_effects task parts both.1 v) refl

same_effect_step : (task : TypedTask) (y : Effect-F (SameEffect task)) → IsSameEffect task (roll-Effect (map-Effect (SameEffect task) Effect (λ e. e.0) y))
same_effect_step task (Effect-F.Add n terms) plain v =
    let x : Effect-F Effect = Effect-F.Add n terms in
    rw (fold-roll-Effect Bool (plain_effect_step task.predicates v (length task.objects)) x, fold-roll-Effect (ℕ → Bool) (effect_step (counts_of task)) x) (same_atom task v n terms)
same_effect_step task (Effect-F.Delete n terms) plain v =
    let x : Effect-F Effect = Effect-F.Delete n terms in
    rw (fold-roll-Effect Bool (plain_effect_step task.predicates v (length task.objects)) x, fold-roll-Effect (ℕ → Bool) (effect_step (counts_of task)) x) (same_atom task v n terms)
same_effect_step task (Effect-F.Group parts) plain v =
    let x : Effect-F Effect = Effect-F.Group (map (λ e. e.0) parts) in
    let plain_parts = rw (fold-roll-Effect Bool changes_step x) at plain in
    rw (fold-roll-Effect Bool (plain_effect_step task.predicates v (length task.objects)) x, fold-roll-Effect (ℕ → Bool) (effect_step (counts_of task)) x) (same_effects task parts plain_parts v)
same_effect_step task y plain v = absurd (false≢true (sym (fold-roll-Effect Bool changes_step (map-Effect (SameEffect task) Effect (λ e. e.0) y)) ∙ plain))

same_effect : (task : TypedTask) (e : Effect) → IsSameEffect task e
same_effect task = ind-Effect (IsSameEffect task) (λ x y is. subst (λ z. IsSameEffect task (roll-Effect z)) is (same_effect_step task y))

-- the task

no_values : (counts : Counts) (values : List Valued) → counts.functions ≡ [] → All (λ v. is_valid_value counts v ≡ true) values → values ≡ []
no_values counts [] none valid = refl
no_values counts (value ∷ values) none valid =
    let first : is_valid_value counts value ≡ true = All-head (λ v. is_valid_value counts v ≡ true) value values valid in
    absurd (false≢true (rw none at first))

plain_action : (task : TypedTask) (action : Action) → IsPlainAction action → IsValidAction (counts_of task) action → length action.parameters ≤ 32 → IsSearchAction task.predicates (length task.objects) action
plain_action task action plain valid few = record {
  types = plain.types;
  limit = few;
  condition = same_cond task action.condition plain.condition (length action.parameters) ∙ valid.condition;
  effect = same_effect task action.effect plain.effect (length action.parameters) ∙ valid.effect;
}

plain_is_searched : (task : TypedTask) → IsValidTask task → HaveFewParameters task → IsPlainTask task → IsSearchTask task
plain_is_searched task valid few plain = record {
  object_limit = valid.object_limit;
  predicates = λ k d h. record { types = plain.predicates k d h; limit = few.predicates k d h };
  predicate_limit = valid.predicate_limit;
  functions = plain.functions;
  actions = λ k d h. plain_action task _ (plain.actions k d h) (valid.actions k d h) (few.actions k d h);
  action_limit = valid.action_limit;
  atoms = λ k d h. same_fact task _ ∙ valid.atoms k d h;
  values = no_values (counts_of task) task.values (ap (map parameter_count) plain.functions) valid.values;
  goal = same_cond task task.goal plain.goal 0 ∙ valid.goal;
  metric = plain.metric;
}

searched_action : (predicates : List Symbol) (objects : ℕ) (action : Action) → IsSearchAction predicates objects action → IsPlainAction action
searched_action predicates objects action searched = record {
  types = searched.types;
  condition = plain_is_conjunction predicates (length action.parameters) objects action.condition searched.condition;
  effect = plain_only_changes predicates (length action.parameters) objects action.effect searched.effect;
}

searched_is_plain : (task : TypedTask) → IsSearchTask task → IsPlainTask task
searched_is_plain task searched = record {
  predicates = λ k d h. (searched.predicates k d h).types;
  actions = λ k d h. searched_action task.predicates (length task.objects) _ (searched.actions k d h);
  goal = plain_is_conjunction task.predicates 0 (length task.objects) task.goal searched.goal;
  functions = searched.functions;
  metric = searched.metric;
}

pub plain_where_searched : (task : TypedTask) → IsResolvedTask task → (IsPlainTask task ↔ IsSearchTask task)
plain_where_searched task resolved = (plain_is_searched task resolved.valid resolved.limits.parameters, searched_is_plain task)
