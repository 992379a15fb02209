-- The definitions of meaning and application, computed on small cases.
use Rattle.std.proofs.Common.{◌≡◌, refl, ℕ, pos, List, [], ◌∷◌, Some, None}
use Rattle.mf_fraction.specs.Exact.{whole}
use Rattle.mf_model.specs.declared.task.Atom.{Atom}
use Rattle.mf_model.specs.declared.task.Cond.TheOpen.{Cond-F}
use Rattle.mf_model.specs.declared.task.Relation.TheVariants as relation
use Rattle.mf_model.specs.declared.state.PlainState.{PlainState}
use Rattle.mf_model.specs.declared.truth.Truth.{Truth}
use Rattle.mf_model.specs.declared.truth.Truth.TheVariants.{Yes, No, Neither}
use Rattle.mf_model.specs.Application.{Added, Deleted, changed_state}
use Rattle.mf_model.specs.Meaning.{compared, holds_step}
use Rattle.mf_model.specs.Objects.{bindings}
use Rattle.mf_model.specs.States.{look_of}

-- two objects of type 0
objects : List (List ℕ)
objects = (0 ∷ []) ∷ (0 ∷ []) ∷ []

-- argument lists come in lexicographic order
pairs_in_order : bindings objects ((0 ∷ []) ∷ (0 ∷ []) ∷ []) [] ≡ (0 ∷ 0 ∷ []) ∷ (0 ∷ 1 ∷ []) ∷ (1 ∷ 0 ∷ []) ∷ (1 ∷ 1 ∷ []) ∷ []
unfolding objects
pairs_in_order = refl

fact : ℕ → Atom
fact predicate = record { predicate = predicate; objects = [] }

both : PlainState
both = record { atoms = fact 0 ∷ fact 1 ∷ []; values = [] }

-- an atom that is both deleted and added is true, also where the text deletes it last
added_and_deleted : changed_state both (Added 1 [] ∷ Deleted 1 [] ∷ Added 2 [] ∷ []) ≡ record { atoms = fact 0 ∷ fact 1 ∷ fact 2 ∷ []; values = [] }
unfolding both fact
added_and_deleted = refl

-- a comparison with an undefined side
undefined : List ℕ → Truth
undefined b = compared relation.Less None (Some (whole (pos 5)))

undefined_is_neither : undefined [] ≡ Neither
unfolding undefined
undefined_is_neither = refl

-- its negation does neither as well
negated_is_neither : holds_step objects (look_of both) (Cond-F.Not undefined) [] ≡ Neither
unfolding undefined objects both
negated_is_neither = refl

-- one part that fails decides a conjunction, one that holds a disjunction
conjunction_fails : holds_step objects (look_of both) (Cond-F.And (undefined ∷ (λ b. No) ∷ [])) [] ≡ No
unfolding undefined objects both
conjunction_fails = refl

disjunction_holds : holds_step objects (look_of both) (Cond-F.Or (undefined ∷ (λ b. Yes) ∷ [])) [] ≡ Yes
unfolding undefined objects both
disjunction_holds = refl
