-- Tests of the parts of a task that the plain search takes: conditions are atoms and conjunctions, effects are added and
-- deleted atoms and groups, and in each atom, those of the start too, the numbers name what is declared (the STRIPS
-- fragment of PDDL 2.1: Fox and Long, JAIR 2003, section 2).
use Rattle.std.specs.Prelude.{ℕ, Bool, true, false, ◌&&◌, List, [], ◌∷◌, length, Option, Some, None, slice_get, nat_lt, nat_eq}
use Rattle.mf_model.specs.declared.task.Term.{Term}
use Rattle.mf_model.specs.declared.task.Term.TheVariants.{Variable, Object}
use Rattle.mf_model.specs.declared.task.Cond.{Cond, fold-Cond}
use Rattle.mf_model.specs.declared.task.Cond.TheOpen.{Cond-F}
use Rattle.mf_model.specs.declared.task.Effect.{Effect, fold-Effect}
use Rattle.mf_model.specs.declared.task.Effect.TheOpen.{Effect-F}
use Rattle.mf_model.specs.declared.task.Symbol.{Symbol}
use Rattle.mf_model.specs.declared.task.Atom.{Atom}

-- every test of a list
abbrev pub all_true : List Bool → Bool
all_true [] = true
all_true (b ∷ bs) = b && all_true bs

-- a place below the number of variables, or a number below the number of objects
abbrev pub is_plain_term : (variables objects : ℕ) → Term → Bool
is_plain_term variables objects (Variable place) = nat_lt place variables
is_plain_term variables objects (Object number) = nat_lt number objects

abbrev pub are_plain_terms : (variables objects : ℕ) → List Term → Bool
are_plain_terms variables objects [] = true
are_plain_terms variables objects (t ∷ ts) = is_plain_term variables objects t && are_plain_terms variables objects ts

abbrev pub are_below : (objects : ℕ) → List ℕ → Bool
are_below objects [] = true
are_below objects (n ∷ ns) = nat_lt n objects && are_below objects ns

-- the predicate of a number has so many parameters
abbrev pub has_count : Option Symbol → ℕ → Bool
has_count None count = false
has_count (Some symbol) count = nat_eq (length symbol.parameters) count

abbrev pub is_plain_atom : List Symbol → (variables objects : ℕ) → (predicate : ℕ) → List Term → Bool
is_plain_atom predicates variables objects predicate terms =
    has_count (slice_get predicates predicate) (length terms) && are_plain_terms variables objects terms

-- an atom or a conjunction of plain conditions
abbrev pub plain_cond_step : List Symbol → (variables objects : ℕ) → Cond-F Bool → Bool
plain_cond_step predicates variables objects (Cond-F.Atom predicate terms) = is_plain_atom predicates variables objects predicate terms
plain_cond_step predicates variables objects (Cond-F.And parts) = all_true parts
plain_cond_step predicates variables objects _ = false

abbrev pub is_plain_cond : List Symbol → (variables objects : ℕ) → Cond → Bool
is_plain_cond predicates variables objects = fold-Cond Bool (plain_cond_step predicates variables objects)

-- an atom added or deleted, or a group of plain effects
abbrev pub plain_effect_step : List Symbol → (variables objects : ℕ) → Effect-F Bool → Bool
plain_effect_step predicates variables objects (Effect-F.Add predicate terms) = is_plain_atom predicates variables objects predicate terms
plain_effect_step predicates variables objects (Effect-F.Delete predicate terms) = is_plain_atom predicates variables objects predicate terms
plain_effect_step predicates variables objects (Effect-F.Group parts) = all_true parts
plain_effect_step predicates variables objects _ = false

abbrev pub is_plain_effect : List Symbol → (variables objects : ℕ) → Effect → Bool
is_plain_effect predicates variables objects = fold-Effect Bool (plain_effect_step predicates variables objects)

-- an atom without variables over declared predicates and objects
abbrev pub is_plain_fact : List Symbol → (objects : ℕ) → Atom → Bool
is_plain_fact predicates objects atom =
    has_count (slice_get predicates atom.predicate) (length atom.objects) && are_below objects atom.objects
