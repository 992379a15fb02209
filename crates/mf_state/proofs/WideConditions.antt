-- The comparisons of a condition are those of its parts.
use Rattle.std.proofs.Common.{◌≡◌, Bool, ◌||◌, List, [], ◌∷◌, map, refl, ap, ◌∙◌, rules}
use Rattle.std.specs.List.{list_any}
use Rattle.mf_task.specs.declared.ground.GroundCond.{GroundCond, the_lemmas}
use Rattle.mf_task.specs.declared.ground.GroundCond.TheVariants.{And, Or}
use Rattle.mf_task.specs.declared.task.Task.{Task}
use Rattle.mf_task.specs.Rows.{Sight}
use Rattle.mf_task.specs.Width.{is_wide_cond}

any_of_map : {A : Type 0} (f : A → Bool) (xs : List A) → list_any (λ b. b) (map f xs) ≡ list_any f xs
any_of_map f [] = refl
any_of_map f (x ∷ xs) = ap (λ (b : Bool). f x || b) (any_of_map f xs)

module _ (task : Task) (sight : Sight) where
  of_and : (parts : List GroundCond) → is_wide_cond task sight (And parts) ≡ list_any (λ b. b) (map (is_wide_cond task sight) parts)
  of_and parts = search (rules, the_lemmas)

  of_or : (parts : List GroundCond) → is_wide_cond task sight (Or parts) ≡ list_any (λ b. b) (map (is_wide_cond task sight) parts)
  of_or parts = search (rules, the_lemmas)

  pub wide_and : (parts : List GroundCond) → is_wide_cond task sight (And parts) ≡ list_any (is_wide_cond task sight) parts
  wide_and parts = of_and parts ∙ any_of_map (is_wide_cond task sight) parts

  pub wide_or : (parts : List GroundCond) → is_wide_cond task sight (Or parts) ≡ list_any (is_wide_cond task sight) parts
  wide_or parts = of_or parts ∙ any_of_map (is_wide_cond task sight) parts
