-- The meaning of conditions over stored fractions alone: every part is looked at, and the first that is too wide ends it.
use Rattle.std.specs.Prelude.{ℕ, Bool, nat_eq, List, [], ◌∷◌, ◌++◌, map, length, Result, Ok}
use Rattle.std.specs.List.{flat_map}
use Rattle.mf_fraction.specs.declared.faults.Wide.{Wide}
use Rattle.mf_model.specs.declared.task.Cond.{Cond, fold-Cond}
use Rattle.mf_model.specs.declared.task.Cond.TheOpen.{Cond-F}
use Rattle.mf_model.specs.declared.task.Expr.{Expr}
use Rattle.mf_model.specs.declared.task.Object.{Object}
use Rattle.mf_model.specs.declared.task.Relation.{Relation}
use Rattle.mf_model.specs.declared.task.TypedTask.{TypedTask}
use Rattle.mf_model.specs.declared.truth.Truth.{Truth}
use Rattle.mf_model.specs.declared.truth.Truth.TheVariants.{Yes, No}
use Rattle.mf_model.specs.Meaning.{is_yes, and_of, or_of, not_of, truth_of, compared}
use Rattle.mf_model.specs.Objects.{ancestors, having, parents_of}
use Rattle.mf_model.specs.Views.{Look, object_of, objects_of}
use Rattle.mf_eval.specs.declared.truth.Connective.{Connective}
use Rattle.mf_eval.specs.declared.truth.Connective.TheVariants.{And, Or}
use Rattle.mf_eval.specs.Answers.{◌>>=◌}
use Rattle.mf_eval.specs.Checked.{kept_value}

-- the types of one object: its declared ones and those from which they descend
abbrev pub kinds_of_object : TypedTask → Object → List ℕ
kinds_of_object task object = flat_map (ancestors (parents_of task) (length task.types)) object.types

abbrev pub connected : Connective → Truth → Truth → Truth
connected And = and_of
connected Or = or_of

-- the truth of no parts
abbrev pub neutral_of : Connective → Truth
neutral_of And = Yes
neutral_of Or = No

-- the parts from the left, after a front of this truth
abbrev pub judged_front : Connective → Truth → List (Result Truth Wide) → Result Truth Wide
judged_front connective front [] = Ok front
judged_front connective front (part ∷ parts) = part >>= λ truth. judged_front connective (connected connective front truth) parts

abbrev pub judged_all : Connective → List (Result Truth Wide) → Result Truth Wide
judged_all connective parts = judged_front connective (neutral_of connective) parts

-- a quantifier's part under each binding of its variables: object by object of the first one
abbrev pub judged_quantifier : List (List ℕ) → Connective → (List ℕ → Result Truth Wide) → List (List ℕ) → List ℕ → Result Truth Wide
judged_quantifier objects connective part [] b = part b
judged_quantifier objects connective part (types ∷ others) b =
    judged_all connective (map (λ o. judged_quantifier objects connective part others (b ++ o ∷ [])) (having types 0 objects))

abbrev pub judged_with : List (List ℕ) → Connective → (List ℕ → Result Truth Wide) → List (List ℕ) → List ℕ → ℕ → Result Truth Wide
judged_with objects connective part others b object = judged_quantifier objects connective part others (b ++ object ∷ [])

abbrev pub judged_comparison : Look → Relation → Expr → Expr → List ℕ → Result Truth Wide
judged_comparison look relation left right b = kept_value look left b >>= λ x. kept_value look right b >>= λ y. Ok (compared relation x y)

abbrev pub judged_step : List (List ℕ) → Look → Cond-F (List ℕ → Result Truth Wide) → List ℕ → Result Truth Wide
judged_step objects look (Cond-F.Atom predicate terms) b = Ok (truth_of (look.atom predicate (objects_of b terms)))
judged_step objects look (Cond-F.Same left right) b = Ok (truth_of (nat_eq (object_of b left) (object_of b right)))
judged_step objects look (Cond-F.Compare relation left right) b = judged_comparison look relation left right b
judged_step objects look (Cond-F.Not part) b = part b >>= λ truth. Ok (not_of truth)
judged_step objects look (Cond-F.And parts) b = judged_all And (map (λ part. part b) parts)
judged_step objects look (Cond-F.Or parts) b = judged_all Or (map (λ part. part b) parts)
judged_step objects look (Cond-F.Imply left right) b = left b >>= λ t. right b >>= λ u. Ok (or_of (not_of t) u)
judged_step objects look (Cond-F.All variables part) b = judged_quantifier objects And part variables b
judged_step objects look (Cond-F.Any variables part) b = judged_quantifier objects Or part variables b

abbrev pub judged : List (List ℕ) → Look → Cond → List ℕ → Result Truth Wide
judged objects look = fold-Cond (List ℕ → Result Truth Wide) (judged_step objects look)

abbrev pub judged_parts : List (List ℕ) → Look → List Cond → List ℕ → List (Result Truth Wide)
judged_parts objects look parts b = map (λ part. part b) (map (judged objects look) parts)

-- whether a condition holds
abbrev pub met : List (List ℕ) → Look → Cond → List ℕ → Result Bool Wide
met objects look condition b = judged objects look condition b >>= λ truth. Ok (is_yes truth)
