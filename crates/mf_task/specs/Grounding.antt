-- The packed task of a typed task and its live instances. Static atoms, equalities and comparisons that read no changing
-- term are facts, `imply a b` is `or (not a) b`, quantifiers are written out binding by binding, and of `and` and `or` the
-- parts that always hold, or always fail, are left out.
use Rattle.std.specs.Prelude.{ℕ, zero, suc, ◌+◌, ◌*◌, take, drop, Bool, true, false, ◌&&◌, ◌||◌, not, if◌then◌else◌, nat_eq, nat_lt, List, [], ◌∷◌, ◌++◌, map, filter, length, position, slice_get, Option, Some, None}
use Rattle.std.specs.List.{fold, flat_map, list_any}
use Rattle.std.specs.Cmp.Lexicographic.{pointwise}
use Rattle.mf_store.specs.Rows.{RowLists}
use Rattle.mf_store.specs.SameRows.{same_number}
use Rattle.mf_model.specs.declared.task.Op.{Op}
use Rattle.mf_model.specs.declared.task.Relation.{Relation}
use Rattle.mf_model.specs.declared.task.Atom.{Atom}
use Rattle.mf_model.specs.declared.task.Cell.{Cell}
use Rattle.mf_model.specs.declared.task.Expr.{Expr, fold-Expr}
use Rattle.mf_model.specs.declared.task.Expr.TheOpen.{Expr-F}
use Rattle.mf_model.specs.declared.task.Cond.{Cond, fold-Cond}
use Rattle.mf_model.specs.declared.task.Cond.TheOpen.{Cond-F}
use Rattle.mf_model.specs.declared.task.Effect.{Effect, fold-Effect}
use Rattle.mf_model.specs.declared.task.Effect.TheOpen.{Effect-F}
use Rattle.mf_model.specs.declared.task.Action.{Action}
use Rattle.mf_model.specs.declared.task.TypedTask.{TypedTask}
use Rattle.mf_model.specs.declared.state.Instance.{Instance}
use Rattle.mf_model.specs.Functions.{is_constant, is_cost, is_static}
use Rattle.mf_model.specs.Objects.{bindings, kinds_of}
use Rattle.mf_model.specs.States.{is_atom, numbers_before, same_numbers, start_of, value_at, with_atom}
use Rattle.mf_model.specs.Views.{object_of, objects_of}
use Rattle.mf_model.specs.States.{look_of}
use Rattle.mf_task.specs.declared.form.Form.{Form}
use Rattle.mf_task.specs.declared.form.Part.{Part}
use Rattle.mf_task.specs.declared.ground.GroundCond.{GroundCond, fold-GroundCond}
use Rattle.mf_task.specs.declared.ground.GroundCond.TheOpen.{GroundCond-F}
use Rattle.mf_task.specs.declared.ground.GroundCond.TheVariants as node
use Rattle.mf_task.specs.declared.ground.GroundChange.{GroundChange}
use Rattle.mf_task.specs.declared.ground.GroundChange.TheVariants as change
use Rattle.mf_task.specs.declared.ground.GroundEffect.{GroundEffect}
use Rattle.mf_task.specs.declared.ground.GroundAction.{GroundAction}
use Rattle.mf_task.specs.declared.task.Task.{Task}
use Rattle.mf_task.specs.GroundMeaning.{relates, sign}
use Rattle.mf_task.specs.LinearForms.{Functions, difference_forms, form_of}
use Rattle.mf_task.specs.Rows.{word_count}

-- The atoms of rows: those of predicates that some action changes, true at the start or changed by a live instance

abbrev pub atom_of : ℕ → List ℕ → Atom
atom_of predicate objects = record { predicate = predicate; objects = objects }

abbrev pub changed_atoms_step : List (List ℕ) → Effect-F (List ℕ → List Atom) → List ℕ → List Atom
changed_atoms_step objects (Effect-F.Add predicate terms) b = atom_of predicate (objects_of b terms) ∷ []
changed_atoms_step objects (Effect-F.Delete predicate terms) b = atom_of predicate (objects_of b terms) ∷ []
changed_atoms_step objects (Effect-F.Change op function terms value) b = []
changed_atoms_step objects (Effect-F.Group parts) b = flat_map (λ part. part b) parts
changed_atoms_step objects (Effect-F.Each variables part) b = flat_map part (bindings objects variables b)
changed_atoms_step objects (Effect-F.When condition part) b = part b

-- the atoms that an effect adds or deletes, whether it fires or not
abbrev pub changed_atoms : List (List ℕ) → Effect → List ℕ → List Atom
changed_atoms objects = fold-Effect (List ℕ → List Atom) (changed_atoms_step objects)

abbrev pub with_some_action : {A : Type 0} → (Action → List ℕ → List A) → List ℕ → Option Action → List A
with_some_action part objects (Some action) = part action objects
with_some_action part objects None = []

-- what is made of an instance's action and argument list
abbrev pub with_action : {A : Type 0} → TypedTask → (Action → List ℕ → List A) → Instance → List A
with_action task part instance = with_some_action part instance.objects (slice_get task.actions instance.action)

abbrev pub atoms_of : TypedTask → List Instance → List Atom
atoms_of task instances =
    fold with_atom [] (filter (λ atom. not (is_static task atom.predicate)) task.atoms
    ++ flat_map (with_action task (λ action. changed_atoms (kinds_of task) action.effect)) instances)

-- The terms of rows: those of functions that change and are no cost, with a start value, read or changed by a live instance
-- or read by the goal

abbrev pub cell_of : ℕ → List ℕ → Cell
cell_of function objects = record { function = function; objects = objects }

abbrev pub is_same_cell : ℕ → List ℕ → Cell → Bool
is_same_cell function objects cell = nat_eq function cell.function && same_numbers objects cell.objects

abbrev pub is_before_cell : Cell → Cell → Bool
is_before_cell a b = nat_lt a.function b.function || (nat_eq a.function b.function && numbers_before a.objects b.objects)

-- a sorted list of terms with one more, at its place
abbrev pub with_cell : List Cell → Cell → List Cell
with_cell [] a = a ∷ []
with_cell (b ∷ bs) a = if is_same_cell a.function a.objects b then b ∷ bs else (if is_before_cell a b then a ∷ b ∷ bs else b ∷ with_cell bs a)

abbrev pub read_cells_step : Expr-F (List ℕ → List Cell) → List ℕ → List Cell
read_cells_step (Expr-F.Number number) b = []
read_cells_step (Expr-F.Function function terms) b = cell_of function (objects_of b terms) ∷ []
read_cells_step (Expr-F.Sum parts) b = flat_map (λ part. part b) parts
read_cells_step (Expr-F.Difference left right) b = left b ++ right b
read_cells_step (Expr-F.Negative part) b = part b
read_cells_step (Expr-F.Product parts) b = flat_map (λ part. part b) parts
read_cells_step (Expr-F.Quotient left right) b = left b ++ right b
read_cells_step Expr-F.TotalTime b = []

abbrev pub read_cells : Expr → List ℕ → List Cell
read_cells = fold-Expr (List ℕ → List Cell) read_cells_step

abbrev pub condition_cells_step : List (List ℕ) → Cond-F (List ℕ → List Cell) → List ℕ → List Cell
condition_cells_step objects (Cond-F.Atom predicate terms) b = []
condition_cells_step objects (Cond-F.Same left right) b = []
condition_cells_step objects (Cond-F.Compare relation left right) b = read_cells left b ++ read_cells right b
condition_cells_step objects (Cond-F.Not part) b = part b
condition_cells_step objects (Cond-F.And parts) b = flat_map (λ part. part b) parts
condition_cells_step objects (Cond-F.Or parts) b = flat_map (λ part. part b) parts
condition_cells_step objects (Cond-F.Imply left right) b = left b ++ right b
condition_cells_step objects (Cond-F.All variables part) b = flat_map part (bindings objects variables b)
condition_cells_step objects (Cond-F.Any variables part) b = flat_map part (bindings objects variables b)

abbrev pub condition_cells : List (List ℕ) → Cond → List ℕ → List Cell
condition_cells objects = fold-Cond (List ℕ → List Cell) (condition_cells_step objects)

abbrev pub effect_cells_step : List (List ℕ) → Effect-F (List ℕ → List Cell) → List ℕ → List Cell
effect_cells_step objects (Effect-F.Add predicate terms) b = []
effect_cells_step objects (Effect-F.Delete predicate terms) b = []
effect_cells_step objects (Effect-F.Change op function terms value) b = cell_of function (objects_of b terms) ∷ read_cells value b
effect_cells_step objects (Effect-F.Group parts) b = flat_map (λ part. part b) parts
effect_cells_step objects (Effect-F.Each variables part) b = flat_map part (bindings objects variables b)
effect_cells_step objects (Effect-F.When condition part) b = condition_cells objects condition b ++ part b

abbrev pub effect_cells : List (List ℕ) → Effect → List ℕ → List Cell
effect_cells objects = fold-Effect (List ℕ → List Cell) (effect_cells_step objects)

abbrev pub is_row_cell : TypedTask → Cell → Bool
is_row_cell task cell = not (is_constant task cell.function || is_cost task cell.function)

abbrev pub terms_of : TypedTask → List Instance → List Cell
terms_of task instances =
    fold with_cell [] (filter (is_row_cell task)
    (map (λ v. v.cell) task.values
    ++ condition_cells (kinds_of task) task.goal []
    ++ flat_map (with_action task (λ action b. condition_cells (kinds_of task) action.condition b ++ effect_cells (kinds_of task) action.effect b)) instances))

-- Forms

abbrev pub place_or_end : Option ℕ → ℕ → ℕ
place_or_end (Some n) end = n
place_or_end None end = end

abbrev pub term_number : List Cell → ℕ → List ℕ → ℕ
term_number terms function objects = place_or_end (position (is_same_cell function objects) terms) (length terms)

abbrev pub functions_of : TypedTask → List Cell → Functions
functions_of task terms = record {
  is_constant = is_constant task;
  start = value_at (start_of task).values;
  term = term_number terms;
}

-- the form of left minus right
abbrev pub compared_form : Functions → Expr → Expr → List ℕ → Option Form
compared_form functions left right b = difference_forms (form_of functions left b) (form_of functions right b)

abbrev pub same_part : Part → Part → Bool
same_part p q = same_number p.coefficient q.coefficient && nat_eq p.term q.term

abbrev pub same_form : Form → Form → Bool
same_form a b = same_number a.constant b.constant && pointwise same_part a.parts b.parts

abbrev pub with_form : List Form → Form → List Form
with_form forms a = if list_any (same_form a) forms then forms else forms ++ a ∷ []

-- a comparison of a form that reads no changing term is a fact, and its form is none of the task's
abbrev pub changing_form : Form → List Part → List Form
changing_form a [] = []
changing_form a (p ∷ ps) = a ∷ []

abbrev pub comparison_forms : Option Form → List Form
comparison_forms None = []
comparison_forms (Some a) = changing_form a a.parts

abbrev pub some_form : Option Form → List Form
some_form None = []
some_form (Some a) = a ∷ []

abbrev pub condition_forms_step : List (List ℕ) → Functions → Cond-F (List ℕ → List Form) → List ℕ → List Form
condition_forms_step objects functions (Cond-F.Atom predicate terms) b = []
condition_forms_step objects functions (Cond-F.Same left right) b = []
condition_forms_step objects functions (Cond-F.Compare relation left right) b = comparison_forms (compared_form functions left right b)
condition_forms_step objects functions (Cond-F.Not part) b = part b
condition_forms_step objects functions (Cond-F.And parts) b = flat_map (λ part. part b) parts
condition_forms_step objects functions (Cond-F.Or parts) b = flat_map (λ part. part b) parts
condition_forms_step objects functions (Cond-F.Imply left right) b = left b ++ right b
condition_forms_step objects functions (Cond-F.All variables part) b = flat_map part (bindings objects variables b)
condition_forms_step objects functions (Cond-F.Any variables part) b = flat_map part (bindings objects variables b)

abbrev pub condition_forms : List (List ℕ) → Functions → Cond → List ℕ → List Form
condition_forms objects functions = fold-Cond (List ℕ → List Form) (condition_forms_step objects functions)

abbrev pub effect_forms_step : List (List ℕ) → Functions → Effect-F (List ℕ → List Form) → List ℕ → List Form
effect_forms_step objects functions (Effect-F.Add predicate terms) b = []
effect_forms_step objects functions (Effect-F.Delete predicate terms) b = []
effect_forms_step objects functions (Effect-F.Change op function terms value) b = some_form (form_of functions value b)
effect_forms_step objects functions (Effect-F.Group parts) b = flat_map (λ part. part b) parts
effect_forms_step objects functions (Effect-F.Each variables part) b = flat_map part (bindings objects variables b)
effect_forms_step objects functions (Effect-F.When condition part) b = condition_forms objects functions condition b ++ part b

abbrev pub effect_forms : List (List ℕ) → Functions → Effect → List ℕ → List Form
effect_forms objects functions = fold-Effect (List ℕ → List Form) (effect_forms_step objects functions)

-- each form once, in the order in which it first occurs: in the goal, then in the live instances
abbrev pub forms_of : TypedTask → List Instance → Functions → List Form
forms_of task instances functions =
    fold with_form [] (condition_forms (kinds_of task) functions task.goal []
    ++ flat_map (with_action task (λ action b. condition_forms (kinds_of task) functions action.condition b ++ effect_forms (kinds_of task) functions action.effect b)) instances)

-- Numbers of atoms, terms and forms

pub record Numbering : Type 0 where
  pub task : TypedTask
  pub atoms : List Atom
  pub terms : List Cell
  pub forms : List Form

abbrev pub functions_in : Numbering → Functions
functions_in numbering = functions_of numbering.task numbering.terms

abbrev pub atom_number : List Atom → ℕ → List ℕ → ℕ
atom_number atoms predicate objects = place_or_end (position (is_atom predicate objects) atoms) (length atoms)

abbrev pub form_number : List Form → Form → ℕ
form_number forms a = place_or_end (position (same_form a) forms) (length forms)

-- Conditions

abbrev pub fact_step : GroundCond-F (Option Bool) → Option Bool
fact_step (GroundCond-F.Fact holds) = Some holds
fact_step GroundCond-F.Neither = None
fact_step (GroundCond-F.Atom atom) = None
fact_step (GroundCond-F.Compare relation form) = None
fact_step (GroundCond-F.Not part) = None
fact_step (GroundCond-F.And parts) = None
fact_step (GroundCond-F.Or parts) = None

-- whether the condition is a fact, and which
abbrev pub fact_of : GroundCond → Option Bool
fact_of = fold-GroundCond (Option Bool) fact_step

abbrev pub is_fact : Bool → Option Bool → Bool
is_fact true (Some holds) = holds
is_fact false (Some holds) = not holds
is_fact b None = false

abbrev pub negation_by : Option Bool → GroundCond → GroundCond
negation_by (Some holds) part = node.Fact (not holds)
negation_by None part = node.Not part

abbrev pub negation : GroundCond → GroundCond
negation part = negation_by (fact_of part) part

abbrev pub conjunction : List GroundCond → GroundCond
conjunction parts = node.And (filter (λ part. not (is_fact true (fact_of part))) parts)

abbrev pub disjunction : List GroundCond → GroundCond
disjunction parts = node.Or (filter (λ part. not (is_fact false (fact_of part))) parts)

-- an atom that is never true is a fact
abbrev pub listed_atom : Option ℕ → GroundCond
listed_atom (Some atom) = node.Atom atom
listed_atom None = node.Fact false

abbrev pub ground_atom : Numbering → ℕ → List ℕ → GroundCond
ground_atom numbering predicate objects =
    if is_static numbering.task predicate then node.Fact ((look_of (start_of numbering.task)).atom predicate objects)
    else listed_atom (position (is_atom predicate objects) numbering.atoms)

abbrev pub comparison_by : Numbering → Relation → Form → List Part → GroundCond
comparison_by numbering r a [] = node.Fact (relates r (sign a.constant))
comparison_by numbering r a (p ∷ ps) = node.Compare r (form_number numbering.forms a)

abbrev pub ground_comparison : Numbering → Relation → Option Form → GroundCond
ground_comparison numbering r None = node.Neither
ground_comparison numbering r (Some a) = comparison_by numbering r a a.parts

abbrev pub ground_step : Numbering → Cond-F (List ℕ → GroundCond) → List ℕ → GroundCond
ground_step numbering (Cond-F.Atom predicate terms) b = ground_atom numbering predicate (objects_of b terms)
ground_step numbering (Cond-F.Same left right) b = node.Fact (nat_eq (object_of b left) (object_of b right))
ground_step numbering (Cond-F.Compare relation left right) b = ground_comparison numbering relation (compared_form (functions_in numbering) left right b)
ground_step numbering (Cond-F.Not part) b = negation (part b)
ground_step numbering (Cond-F.And parts) b = conjunction (map (λ part. part b) parts)
ground_step numbering (Cond-F.Or parts) b = disjunction (map (λ part. part b) parts)
ground_step numbering (Cond-F.Imply left right) b = disjunction (negation (left b) ∷ right b ∷ [])
ground_step numbering (Cond-F.All variables part) b = conjunction (map part (bindings (kinds_of numbering.task) variables b))
ground_step numbering (Cond-F.Any variables part) b = disjunction (map part (bindings (kinds_of numbering.task) variables b))

abbrev pub ground_cond : Numbering → Cond → List ℕ → GroundCond
ground_cond numbering = fold-Cond (List ℕ → GroundCond) (ground_step numbering)

-- a condition, and the list of its top-level conjuncts, with nested `and` flattened
pub record Conjuncts : Type 0 where
  pub whole : List ℕ → GroundCond
  pub parts : List ℕ → List GroundCond

abbrev pub whole_of : Conjuncts → List ℕ → GroundCond
whole_of conjuncts = conjuncts.whole

abbrev pub alone : (List ℕ → GroundCond) → Conjuncts
alone whole = record { whole = whole; parts = λ b. whole b ∷ [] }

abbrev pub conjuncts_step : Numbering → Cond-F Conjuncts → Conjuncts
conjuncts_step numbering (Cond-F.Atom predicate terms) = alone (ground_step numbering (Cond-F.Atom predicate terms))
conjuncts_step numbering (Cond-F.Same left right) = alone (ground_step numbering (Cond-F.Same left right))
conjuncts_step numbering (Cond-F.Compare relation left right) = alone (ground_step numbering (Cond-F.Compare relation left right))
conjuncts_step numbering (Cond-F.Not part) = alone (ground_step numbering (Cond-F.Not part.whole))
conjuncts_step numbering (Cond-F.And parts) =
    record { whole = ground_step numbering (Cond-F.And (map whole_of parts)); parts = λ b. flat_map (λ part. part.parts b) parts }
conjuncts_step numbering (Cond-F.Or parts) = alone (ground_step numbering (Cond-F.Or (map whole_of parts)))
conjuncts_step numbering (Cond-F.Imply left right) = alone (ground_step numbering (Cond-F.Imply left.whole right.whole))
conjuncts_step numbering (Cond-F.All variables part) = alone (ground_step numbering (Cond-F.All variables part.whole))
conjuncts_step numbering (Cond-F.Any variables part) = alone (ground_step numbering (Cond-F.Any variables part.whole))

abbrev pub ground_conjuncts : Numbering → Cond → List ℕ → List GroundCond
ground_conjuncts numbering condition b = (fold-Cond Conjuncts (conjuncts_step numbering) condition).parts b

-- Effects

abbrev pub optional_form_number : List Form → Option Form → Option ℕ
optional_form_number forms (Some a) = Some (form_number forms a)
optional_form_number forms None = None

abbrev pub ground_number_change : Numbering → Op → ℕ → List ℕ → Option ℕ → GroundChange
ground_number_change numbering op function objects value =
    if is_cost numbering.task function then change.Cost value else change.Number op (term_number numbering.terms function objects) value

abbrev pub unguarded : GroundChange → GroundEffect
unguarded made = record { condition = node.Fact true; change = made }

abbrev pub both_hold : GroundCond → GroundCond → GroundCond
both_hold outer inner = if is_fact true (fact_of inner) then outer else conjunction (outer ∷ inner ∷ [])

-- an effect under one more condition
abbrev pub guarded : GroundCond → GroundEffect → GroundEffect
guarded condition effect = record { condition = both_hold condition effect.condition; change = effect.change }

-- a `when` without effects keeps its condition, which counts for the width
abbrev pub or_nothing : List GroundEffect → List GroundEffect
or_nothing [] = unguarded change.Nothing ∷ []
or_nothing (effect ∷ effects) = effect ∷ effects

abbrev pub ground_effect_step : Numbering → Effect-F (List ℕ → List GroundEffect) → List ℕ → List GroundEffect
ground_effect_step numbering (Effect-F.Add predicate terms) b = unguarded (change.Add (atom_number numbering.atoms predicate (objects_of b terms))) ∷ []
ground_effect_step numbering (Effect-F.Delete predicate terms) b = unguarded (change.Delete (atom_number numbering.atoms predicate (objects_of b terms))) ∷ []
ground_effect_step numbering (Effect-F.Change op function terms value) b =
    unguarded (ground_number_change numbering op function (objects_of b terms) (optional_form_number numbering.forms (form_of (functions_in numbering) value b))) ∷ []
ground_effect_step numbering (Effect-F.Group parts) b = flat_map (λ part. part b) parts
ground_effect_step numbering (Effect-F.Each variables part) b = flat_map part (bindings (kinds_of numbering.task) variables b)
ground_effect_step numbering (Effect-F.When condition part) b = map (guarded (ground_cond numbering condition b)) (or_nothing (part b))

-- the primitive effects in the order of the text, a `forall` binding by binding
abbrev pub ground_effects : Numbering → Effect → List ℕ → List GroundEffect
ground_effects numbering = fold-Effect (List ℕ → List GroundEffect) (ground_effect_step numbering)

-- The task

abbrev pub numbering_of : TypedTask → List Instance → Numbering
numbering_of task instances = record {
  task = task;
  atoms = atoms_of task instances;
  terms = terms_of task instances;
  forms = forms_of task instances (functions_of task (terms_of task instances));
}

abbrev pub ground_action : Numbering → Instance → List GroundAction
ground_action numbering instance =
    with_action numbering.task (λ action b. record { instance = instance; condition = ground_cond numbering action.condition b; effects = ground_effects numbering action.effect b } ∷ []) instance

-- The start

-- a word with these bits, the first one lowest
abbrev pub word_of : List Bool → ℕ
word_of [] = 0
word_of (b ∷ bs) = (if b then 1 else 0) + 2 * word_of bs

abbrev pub words_of : ℕ → List Bool → List ℕ
words_of zero bits = []
words_of (suc n) bits = word_of (take 64 bits) ∷ words_of n (drop 64 bits)

abbrev pub start_row : TypedTask → List Atom → List Cell → RowLists
start_row task atoms terms = record {
  bits = words_of (word_count (length atoms)) (map (λ atom. (look_of (start_of task)).atom atom.predicate atom.objects) atoms);
  values = map (λ cell. value_at (start_of task).values cell.function cell.objects) terms;
}

-- the packed task of a typed task and its live instances
abbrev pub ground_of : TypedTask → List Instance → Task
ground_of task instances = record {
  atoms = atoms_of task instances;
  terms = terms_of task instances;
  forms = (numbering_of task instances).forms;
  actions = flat_map (ground_action (numbering_of task instances)) instances;
  goal = ground_conjuncts (numbering_of task instances) task.goal [];
  start = start_row task (atoms_of task instances) (terms_of task instances);
}
