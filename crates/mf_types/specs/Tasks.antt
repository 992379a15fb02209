-- The task that a domain and a problem mean (PDDL 2.1: Fox and Long, JAIR 2003, sections 3 and 4).
use Rattle.std.specs.Prelude.{◌≡◌, ℕ, ◌<◌, ◌≤◌, Bool, ◌&&◌, nat_le, if◌then◌else◌, All, Option, Some, None, List, [], ◌∷◌, ◌++◌, length, option_to_list}
use Rattle.mf_model.specs.declared.form.Word.{Word}
use Rattle.mf_model.specs.declared.form.RawCond.{RawCond}
use Rattle.mf_model.specs.declared.form.RawCond.TheViews.{out-RawCond}
use Rattle.mf_model.specs.declared.form.RawCond.TheOpen.{RawCond-F}
use Rattle.mf_model.specs.declared.form.RawAction.{RawAction}
use Rattle.mf_model.specs.declared.form.RawValue.{RawValue}
use Rattle.mf_model.specs.declared.form.RawMetric.{RawMetric}
use Rattle.mf_model.specs.declared.form.Domain.{Domain}
use Rattle.mf_model.specs.declared.form.Problem.{Problem}
use Rattle.mf_model.specs.declared.task.TypeName.{TypeName}
use Rattle.mf_model.specs.declared.task.Object as object
use Rattle.mf_model.specs.declared.task.Cond.{Cond}
use Rattle.mf_model.specs.declared.task.Symbol.{Symbol}
use Rattle.mf_model.specs.declared.task.Action.{Action}
use Rattle.mf_model.specs.declared.task.Atom.{Atom}
use Rattle.mf_model.specs.declared.task.Valued.{Valued}
use Rattle.mf_model.specs.declared.task.Metric.{Metric}
use Rattle.mf_model.specs.declared.task.TypedTask.{TypedTask}
use Rattle.mf_model.specs.Options.{◌>>=◌, each}
use Rattle.mf_model.specs.Resolution.{number_of}
use Rattle.mf_types.specs.Names.{Declared, declared_by, firsts}
use Rattle.mf_types.specs.Typing.{inside, types_in, predicate_of, function_of, number_in, expr_of, cond_of, effect_of}

-- Declarations: each name with what is declared of it

abbrev pub paired : {A B C : Type 0} → (A → B → C) → List A → List B → List C
paired f [] bs = []
paired f (a ∷ others) [] = []
paired f (a ∷ others) (b ∷ bs) = f a b ∷ paired f others bs

abbrev pub type_named : List ℕ → ℕ → TypeName
type_named name parent = record { name = name; parent = parent }

abbrev pub object_named : List ℕ → List ℕ → object.Object
object_named name types = record { name = name; types = types }

abbrev pub symbol_named : List ℕ → List (List ℕ) → Symbol
symbol_named name parameters = record { name = name; parameters = parameters }

unfoldable pub action_of : Declared → RawAction → Option Action
action_of declared a =
    inside [] a.parameters >>= (λ binders. cond_of declared a.condition binders >>= (λ condition. effect_of declared a.effect binders >>= (λ effect.
    Some (record { name = a.word.text; parameters = types_in declared a.parameters; condition = condition; effect = effect }))))

-- The start

-- the objects of a ground atom or term
abbrev pub objects_of : Declared → List Word → Option (List ℕ)
objects_of declared = each (λ w. number_of declared.objects w.text)

abbrev pub atom_of : Declared → Word → List Word → Option Atom
atom_of declared predicate terms =
    predicate_of declared predicate.text (length terms) >>= (λ n. objects_of declared terms >>= (λ os. Some (record { predicate = n; objects = os })))

-- an atom is a fact; a negated one gives nothing, since what isn't said is false
abbrev pub fact_layer : Declared → RawCond-F RawCond → Option (Option Atom)
fact_layer declared (RawCond-F.Atom predicate terms span) = atom_of declared predicate terms >>= (λ a. Some (Some a))
fact_layer declared _ = Some None

abbrev pub fact_of : Declared → RawCond → Option (Option Atom)
fact_of declared raw = fact_layer declared (out-RawCond raw)

abbrev pub facts_of : Declared → List RawCond → Option (List Atom)
facts_of declared [] = Some []
facts_of declared (raw ∷ raws) = fact_of declared raw >>= (λ a. facts_of declared raws >>= (λ others. Some (option_to_list a ++ others)))

unfoldable pub value_of : Declared → RawValue → Option Valued
value_of declared raw =
    function_of declared raw.function.text (length raw.objects) >>= (λ n. objects_of declared raw.objects >>= (λ os. number_in raw.value >>= (λ number.
    Some (record { cell = record { function = n; objects = os }; value = number }))))

-- the term of a value: its function, then its objects
abbrev pub term_key : Valued → List ℕ
term_key v = v.cell.function ∷ v.cell.objects

-- the values in the order of the file, the first of each term alone
abbrev pub values_of : Declared → List RawValue → Option (List Valued)
values_of declared raws = each (value_of declared) raws >>= (λ values. Some (firsts term_key [] values))

-- The metric

abbrev pub metric_by : Declared → RawMetric → Option Metric
metric_by declared raw = expr_of declared raw.value [] >>= (λ value. Some (record { least = raw.least; value = value }))

abbrev pub metric_of : Declared → Option RawMetric → Option (Option Metric)
metric_of declared None = Some None
metric_of declared (Some raw) = metric_by declared raw >>= (λ metric. Some (Some metric))

-- The task

-- how many of each kind a task may have, `object` beside the types
pub record AreFew (declared : Declared) : Type 0 where
  pub types : length declared.types ≤ 10001
  pub objects : length declared.objects ≤ 65535
  pub predicates : length declared.predicates ≤ 10000
  pub functions : length declared.functions ≤ 10000

-- numbers of types have 16 bits
abbrev pub IsNarrow : List ℕ → Type 0
IsNarrow = All (λ n. n < 65536)

pub record AreNarrow (declared : Declared) : Type 0 where
  pub parents : IsNarrow declared.parents
  pub objects : All IsNarrow declared.object_types
  pub predicates : All (All IsNarrow) declared.predicate_types
  pub functions : All (All IsNarrow) declared.function_types

pub record IsTaskFor (declared : Declared) (d : Domain) (p : Problem) (task : TypedTask) : Type 0 where
  pub few : AreFew declared
  pub few_actions : length d.actions ≤ 1000
  pub types : task.types ≡ paired type_named declared.types declared.parents
  pub objects : task.objects ≡ paired object_named declared.objects declared.object_types
  pub predicates : task.predicates ≡ paired symbol_named declared.predicates declared.predicate_types
  pub functions : task.functions ≡ paired symbol_named declared.functions declared.function_types
  pub actions : each (action_of declared) d.actions ≡ Some task.actions
  pub atoms : facts_of declared p.atoms ≡ Some task.atoms
  pub values : values_of declared p.values ≡ Some task.values
  pub goal : cond_of declared p.goal [] ≡ Some task.goal
  pub metric : metric_of declared p.metric ≡ Some task.metric

abbrev pub IsTaskOf : Domain → Problem → TypedTask → Type 0
IsTaskOf d p task = IsTaskFor (declared_by d p) d p task

-- The task as one reading

abbrev pub actions_of : Declared → List RawAction → Option (List Action)
actions_of declared = each (action_of declared)

abbrev pub task_with : Declared → List Action → List Atom → List Valued → Option Metric → Cond → TypedTask
task_with declared actions atoms values metric goal = record {
  types = paired type_named declared.types declared.parents;
  objects = paired object_named declared.objects declared.object_types;
  predicates = paired symbol_named declared.predicates declared.predicate_types;
  functions = paired symbol_named declared.functions declared.function_types;
  actions = actions;
  atoms = atoms;
  values = values;
  goal = goal;
  metric = metric;
}

unfoldable pub task_for : Declared → Domain → Problem → Option TypedTask
task_for declared d p =
    actions_of declared d.actions >>= (λ actions. facts_of declared p.atoms >>= (λ atoms. values_of declared p.values >>= (λ values.
    metric_of declared p.metric >>= (λ metric. cond_of declared p.goal [] >>= (λ goal. Some (task_with declared actions atoms values metric goal))))))

abbrev pub are_few : Declared → Domain → Bool
are_few declared d =
    nat_le (length declared.types) 10001 && nat_le (length declared.objects) 65535
    && nat_le (length declared.predicates) 10000 && nat_le (length declared.functions) 10000 && nat_le (length d.actions) 1000

unfoldable pub task_of : Declared → Domain → Problem → Option TypedTask
task_of declared d p = if are_few declared d then task_for declared d p else None
