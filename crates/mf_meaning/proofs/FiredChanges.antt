-- What holds of each effect of a text holds of each change that it makes.
use Rattle.std.proofs.Common.{◌≡◌, ℕ, Bool, true, false, not, ◌||◌, if◌then◌else◌, nat_eq, List, [], ◌∷◌, map, Option, refl, subst, ap, ◌∙◌}
use Rattle.std.specs.List.{AllByRecursion, flat_map, list_all, list_any}
use Rattle.std.proofs.lemmas.Bool.{and_from, and_parts, or_parts, not_from_false}
use Rattle.std.proofs.lemmas.List.Folds.{list_all-append}
use Rattle.mf_fraction.specs.Exact.{Number}
use Rattle.mf_model.specs.declared.task.Op.{Op}
use Rattle.mf_model.specs.declared.task.Term.{Term}
use Rattle.mf_model.specs.declared.task.Expr.{Expr}
use Rattle.mf_model.specs.declared.task.Cond.{Cond}
use Rattle.mf_model.specs.declared.task.Effect.{Effect, fold-Effect}
use Rattle.mf_model.specs.declared.task.Effect.TheOpen.{Effect-F}
use Rattle.mf_model.specs.declared.task.Effect.TheFolds.{ind-Effect, fold-roll-Effect, map-Effect}
use Rattle.mf_model.specs.Application.{Change, Added, Deleted, Changed, firing_of, firing_step, is_sum}
use Rattle.mf_model.specs.Expressions.{every_change, every_change_step}
use Rattle.mf_model.specs.Functions.{changes, changes_step, touches, touches_step}
use Rattle.mf_model.specs.Meaning.{holds_in}
use Rattle.mf_model.specs.Objects.{bindings}
use Rattle.mf_model.specs.Views.{Look, objects_of}

-- a test of effects, by a fold, is one of the parts of an effect, and is good for a test of changes at each single effect
pub record IsTestOfChanges (step : Effect-F Bool → Bool) (Good : Bool → Type 0) (passes : Change → Bool) : Type 0 where
  pub add : (predicate : ℕ) (terms : List Term) → Good (step (Effect-F.Add predicate terms)) → (objects : List ℕ) → passes (Added predicate objects) ≡ true
  pub delete : (predicate : ℕ) (terms : List Term) → Good (step (Effect-F.Delete predicate terms)) → (objects : List ℕ) → passes (Deleted predicate objects) ≡ true
  pub change : (op : Op) (function : ℕ) (terms : List Term) (value : Expr) → Good (step (Effect-F.Change op function terms value)) → (objects : List ℕ) (number : Option Number) → passes (Changed op function objects number) ≡ true
  pub group : (parts : List Bool) → Good (step (Effect-F.Group parts)) → AllByRecursion Good parts
  pub each : (variables : List (List ℕ)) (part : Bool) → Good (step (Effect-F.Each variables part)) → Good part
  pub when : (condition : Cond) (part : Bool) → Good (step (Effect-F.When condition part)) → Good part

list_all-flat_map : {X Y : Type 0} (test : Y → Bool) (f : X → List Y) → ((x : X) → list_all test (f x) ≡ true) → (xs : List X) → list_all test (flat_map f xs) ≡ true
list_all-flat_map test f all [] = refl
list_all-flat_map test f all (x ∷ xs) =
    list_all-append test (f x) (flat_map f xs) ∙ and_from (list_all test (f x)) (list_all test (flat_map f xs)) (all x) (list_all-flat_map test f all xs)

module _ (objects : List (List ℕ)) (look : Look) (step : Effect-F Bool → Bool) (Good : Bool → Type 0) (passes : Change → Bool) (is : IsTestOfChanges step Good passes) where
  abbrev Passes : Effect → Type 0
  Passes e = Good (fold-Effect Bool step e) → (b : List ℕ) → list_all passes (firing_of objects look e b) ≡ true

  abbrev Part : Type 0
  Part = (e : Effect) × Passes e

  group_passes : (ps : List Part) → AllByRecursion Good (map (fold-Effect Bool step) (map (λ p. p.0) ps)) → (b : List ℕ) → list_all passes (flat_map (λ part. part b) (map (firing_of objects look) (map (λ p. p.0) ps))) ≡ true
  group_passes [] good b = refl
  group_passes (p ∷ ps) good b =
      list_all-append passes (firing_of objects look p.0 b) (flat_map (λ part. part b) (map (firing_of objects look) (map (λ p. p.0) ps)))
      ∙ and_from (list_all passes (firing_of objects look p.0 b)) (list_all passes (flat_map (λ part. part b) (map (firing_of objects look) (map (λ p. p.0) ps)))) (p.1 good.0 b) (group_passes ps good.1 b)

  when_passes : (holds : Bool) (changes : List Change) → list_all passes changes ≡ true → list_all passes (if holds then changes else []) ≡ true
  when_passes true changes all = all
  when_passes false changes all = refl

  Layer : Effect-F Effect → Type 0
  Layer x = Good (step (map-Effect Effect Bool (fold-Effect Bool step) x)) → (b : List ℕ) → list_all passes (firing_step objects look (map-Effect Effect (List ℕ → List Change) (firing_of objects look) x) b) ≡ true

  level : (y : Effect-F Part) → Layer (map-Effect Part Effect (λ p. p.0) y)
  unfolding Layer
  level (Effect-F.Add predicate terms) good b = and_from _ _ (is.add predicate terms good (objects_of b terms)) refl
  level (Effect-F.Delete predicate terms) good b = and_from _ _ (is.delete predicate terms good (objects_of b terms)) refl
  level (Effect-F.Change op function terms value) good b = and_from _ _ (is.change op function terms value good (objects_of b terms) _) refl
  level (Effect-F.Group parts) good b = group_passes parts (is.group (map (fold-Effect Bool step) (map (λ p. p.0) parts)) good) b
  level (Effect-F.Each variables part) good b = list_all-flat_map passes (firing_of objects look part.0) (part.1 (is.each variables (fold-Effect Bool step part.0) good)) (bindings objects variables b)
  level (Effect-F.When condition part) good b = when_passes (holds_in objects look condition b) (firing_of objects look part.0 b) (part.1 (is.when condition (fold-Effect Bool step part.0) good) b)

  pub changes_pass : (e : Effect) → Passes e
  unfolding Layer
  changes_pass = ind-Effect Passes (λ x y e good b.
      let at_layer = subst (λ z. Layer z) e (level y) (subst Good (fold-roll-Effect Bool step x) good) b in
      ap (λ (f : List ℕ → List Change). list_all passes (f b)) (fold-roll-Effect (List ℕ → List Change) (firing_step objects look) x) ∙ at_layer)

-- parts of a list of tests

all_good : (parts : List Bool) → list_all (λ part. part) parts ≡ true → AllByRecursion (λ b. b ≡ true) parts
all_good [] all = tt
all_good (part ∷ parts) all =
    let both = and_parts part (list_all (λ part. part) parts) all in
    (both.0, all_good parts both.1)

none_good : (parts : List Bool) → list_any (λ part. part) parts ≡ false → AllByRecursion (λ b. b ≡ false) parts
none_good [] none = tt
none_good (part ∷ parts) none =
    let both = or_parts part (list_any (λ part. part) parts) none in
    (both.0, none_good parts both.1)

-- functions that are increased and decreased alone

abbrev pub sums : ℕ → Change → Bool
sums f (Added predicate objects) = true
sums f (Deleted predicate objects) = true
sums f (Changed op function objects value) = not (nat_eq f function) || is_sum op

abbrev pub is_summed_in : ℕ → Effect → Bool
is_summed_in f = every_change (λ op changed value. not (nat_eq f changed) || is_sum op) (λ condition. true)

pub summed_changes : (objects : List (List ℕ)) (look : Look) (f : ℕ) (e : Effect) → is_summed_in f e ≡ true → (b : List ℕ) → list_all (sums f) (firing_of objects look e b) ≡ true
summed_changes objects look f = changes_pass objects look (every_change_step (λ op changed value. not (nat_eq f changed) || is_sum op) (λ condition. true)) (λ b. b ≡ true) (sums f) (record {
  add = λ predicate terms good os. refl;
  delete = λ predicate terms good os. refl;
  change = λ op function terms value good os number. good;
  group = all_good;
  each = λ variables part good. good;
  when = λ condition part good. good;
})

-- predicates that are neither added nor deleted

abbrev pub leaves_predicate : ℕ → Change → Bool
leaves_predicate p (Added predicate objects) = not (nat_eq p predicate)
leaves_predicate p (Deleted predicate objects) = not (nat_eq p predicate)
leaves_predicate p (Changed op function objects value) = true

pub untouched_changes : (objects : List (List ℕ)) (look : Look) (p : ℕ) (e : Effect) → touches p e ≡ false → (b : List ℕ) → list_all (leaves_predicate p) (firing_of objects look e b) ≡ true
untouched_changes objects look p = changes_pass objects look (touches_step p) (λ b. b ≡ false) (leaves_predicate p) (record {
  add = λ predicate terms good os. not_from_false (nat_eq p predicate) good;
  delete = λ predicate terms good os. not_from_false (nat_eq p predicate) good;
  change = λ op function terms value good os number. refl;
  group = none_good;
  each = λ variables part good. good;
  when = λ condition part good. good;
})

-- functions that are not changed

abbrev pub leaves_function : ℕ → Change → Bool
leaves_function f (Added predicate objects) = true
leaves_function f (Deleted predicate objects) = true
leaves_function f (Changed op function objects value) = not (nat_eq f function)

pub unchanged_changes : (objects : List (List ℕ)) (look : Look) (f : ℕ) (e : Effect) → changes f e ≡ false → (b : List ℕ) → list_all (leaves_function f) (firing_of objects look e b) ≡ true
unchanged_changes objects look f = changes_pass objects look (changes_step f) (λ b. b ≡ false) (leaves_function f) (record {
  add = λ predicate terms good os. refl;
  delete = λ predicate terms good os. refl;
  change = λ op function terms value good os number. not_from_false (nat_eq f function) good;
  group = none_good;
  each = λ variables part good. good;
  when = λ condition part good. good;
})
