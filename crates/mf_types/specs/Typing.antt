-- What conditions, effects and expressions mean: every name stands for its number (PDDL 2.1: Fox and Long,
-- JAIR 2003, sections 3 and 4). A reading gives nothing where a name isn't declared, takes another number of
-- arguments, a number doesn't fit, or more than 64 variables are in scope.
use Rattle.std.specs.Prelude.{ℕ, ◌+◌, if◌then◌else◌, nat_eq, nat_le, pos, Option, Some, None, Result, Ok, Err, List, [], ◌∷◌, ◌++◌, map, length, slice_index_or, codes}
use Rattle.std.specs.Str.{bytes_eq}
use Rattle.mf_fraction.specs.Exact.{Number, whole}
use Rattle.mf_fraction.specs.Decimal.{read_of}
use Rattle.mf_fraction.specs.declared.faults.NumberFault.{NumberFault}
use Rattle.mf_fraction.specs.declared.faults.NumberFault.TheVariants.{NotANumber, Wide}
use Rattle.mf_model.specs.declared.form.Word.{Word}
use Rattle.mf_model.specs.declared.form.Typed.{Typed}
use Rattle.mf_model.specs.declared.form.RawExpr.{RawExpr, fold-RawExpr}
use Rattle.mf_model.specs.declared.form.RawExpr.TheOpen.{RawExpr-F}
use Rattle.mf_model.specs.declared.form.RawCond.{RawCond, fold-RawCond}
use Rattle.mf_model.specs.declared.form.RawCond.TheOpen.{RawCond-F}
use Rattle.mf_model.specs.declared.form.RawEffect.{RawEffect, fold-RawEffect}
use Rattle.mf_model.specs.declared.form.RawEffect.TheOpen.{RawEffect-F}
use Rattle.mf_model.specs.declared.task.Term.{Term}
use Rattle.mf_model.specs.declared.task.Term.TheVariants.{Variable, Object}
use Rattle.mf_model.specs.declared.task.Expr.{Expr}
use Rattle.mf_model.specs.declared.task.Expr.TheVariants as x
use Rattle.mf_model.specs.declared.task.Cond.{Cond}
use Rattle.mf_model.specs.declared.task.Cond.TheVariants as c
use Rattle.mf_model.specs.declared.task.Op.{Op}
use Rattle.mf_model.specs.declared.task.Effect.{Effect}
use Rattle.mf_model.specs.declared.task.Effect.TheVariants as e
use Rattle.mf_model.specs.Options.{◌>>=◌, each, all_some}
use Rattle.mf_model.specs.Resolution.{number_of, typed_names}
use Rattle.mf_types.specs.Names.{Declared, item_types}
use Rattle.mf_types.specs.Arguments.{is_variable}

-- what is made of one part that is read, or of two
abbrev pub one : {A B : Type 0} → (A → B) → Option A → Option B
one make part = part >>= (λ a. Some (make a))

abbrev pub both : {A B C : Type 0} → (A → B → C) → Option A → Option B → Option C
both make left right = left >>= (λ a. right >>= (λ b. Some (make a b)))

-- Variables: their names in the order of the binding

abbrev pub Binders : Type 0
Binders = List (List ℕ)

-- the last place of a name from number n on, if there is one
abbrev pub last_from : ℕ → Option ℕ → Binders → List ℕ → Option ℕ
last_from n place [] name = place
last_from n place (own ∷ others) name = last_from (n + 1) (if bytes_eq own name then Some n else place) others name

-- the place of the innermost variable of a name: it hides those further out
abbrev pub place_in : Binders → List ℕ → Option ℕ
place_in = last_from 0 None

-- the variables in scope inside a list of variables: at most 64
unfoldable pub inside : Binders → List Typed → Option Binders
inside binders items = if nat_le (length binders + length items) 64 then Some (binders ++ typed_names items) else None

abbrev pub types_in : Declared → List Typed → List (List ℕ)
types_in declared items = map (item_types declared.types) items

-- Terms

abbrev pub variable_at : Option ℕ → Option Term
variable_at place = place >>= (λ n. Some (Variable n))

abbrev pub object_at : Option ℕ → Option Term
object_at number = number >>= (λ n. Some (Object n))

-- a variable stands for its place in the binding, a name for the number of its object
unfoldable pub term_of : Declared → Binders → Word → Option Term
term_of declared binders w = if is_variable w.text then variable_at (place_in binders w.text) else object_at (number_of declared.objects w.text)

abbrev pub terms_of : Declared → Binders → List Word → Option (List Term)
terms_of declared binders = each (term_of declared binders)

-- the number of a symbol that has so many parameters
unfoldable pub symbol_of : List (List ℕ) → List (List (List ℕ)) → List ℕ → ℕ → Option ℕ
symbol_of names types name count = number_of names name >>= (λ n. if nat_eq (length (slice_index_or types n [])) count then Some n else None)

abbrev pub predicate_of : Declared → List ℕ → ℕ → Option ℕ
predicate_of declared = symbol_of declared.predicates declared.predicate_types

abbrev pub function_of : Declared → List ℕ → ℕ → Option ℕ
function_of declared = symbol_of declared.functions declared.function_types

-- Expressions

-- a number that doesn't fit gives nothing; the forms hold no word that is no number
abbrev pub exact_of : Result Number NumberFault → Option Number
exact_of (Ok number) = Some number
exact_of (Err Wide) = None
exact_of (Err NotANumber) = Some (whole (pos 0))

abbrev pub number_in : Word → Option Number
number_in w = exact_of (read_of w.text)

abbrev pub without_parameters : List (List ℕ) → ℕ → Option Expr
without_parameters [] n = Some (x.Function n [])
without_parameters (types ∷ others) n = None

abbrev pub time_by : List (List (List ℕ)) → Option ℕ → Option Expr
time_by types (Some n) = without_parameters (slice_index_or types n []) n
time_by types None = Some x.TotalTime

-- `total-time` is the declared function of that name where there is one, else the number of steps
abbrev pub total_time : Declared → Option Expr
total_time declared =
    time_by declared.function_types (number_of declared.functions (codes "total-time"))

abbrev pub term_expr : Declared → Word → List Word → Binders → Option Expr
term_expr declared function terms binders =
    function_of declared function.text (length terms) >>= (λ n. terms_of declared binders terms >>= (λ ts. Some (x.Function n ts)))

abbrev pub expr_step : Declared → RawExpr-F (Binders → Option Expr) → Binders → Option Expr
expr_step declared (RawExpr-F.Number word span) binders = one x.Number (number_in word)
expr_step declared (RawExpr-F.Function function terms span) binders = term_expr declared function terms binders
expr_step declared (RawExpr-F.Sum parts span) binders = one x.Sum (all_some (map (λ part. part binders) parts))
expr_step declared (RawExpr-F.Difference left right span) binders = both x.Difference (left binders) (right binders)
expr_step declared (RawExpr-F.Negative part span) binders = one x.Negative (part binders)
expr_step declared (RawExpr-F.Product parts span) binders = one x.Product (all_some (map (λ part. part binders) parts))
expr_step declared (RawExpr-F.Quotient left right span) binders = both x.Quotient (left binders) (right binders)
expr_step declared (RawExpr-F.TotalTime span) binders = total_time declared

abbrev pub expr_of : Declared → RawExpr → Binders → Option Expr
expr_of declared = fold-RawExpr (Binders → Option Expr) (expr_step declared)

abbrev pub exprs_of : Declared → List RawExpr → Binders → Option (List Expr)
exprs_of declared raws binders = all_some (map (λ part. part binders) (map (expr_of declared) raws))

-- Quantifiers

-- a part inside a list of variables
abbrev pub within : {A : Type 0} → List Typed → (Binders → Option A) → Binders → Option A
within items part binders = inside binders items >>= part

abbrev pub quantified : {A : Type 0} → Declared → (List (List ℕ) → A → A) → List Typed → (Binders → Option A) → Binders → Option A
quantified declared make items part binders = one (make (types_in declared items)) (within items part binders)

-- Conditions

abbrev pub atom_cond : Declared → Word → List Word → Binders → Option Cond
atom_cond declared predicate terms binders =
    predicate_of declared predicate.text (length terms) >>= (λ n. terms_of declared binders terms >>= (λ ts. Some (c.Atom n ts)))

abbrev pub cond_step : Declared → RawCond-F (Binders → Option Cond) → Binders → Option Cond
cond_step declared (RawCond-F.Atom predicate terms span) binders = atom_cond declared predicate terms binders
cond_step declared (RawCond-F.Same left right span) binders =
    both c.Same (term_of declared binders left) (term_of declared binders right)
cond_step declared (RawCond-F.Compare relation left right span) binders =
    both (c.Compare relation) (expr_of declared left binders) (expr_of declared right binders)
cond_step declared (RawCond-F.Not part span) binders = one c.Not (part binders)
cond_step declared (RawCond-F.And parts span) binders = one c.And (all_some (map (λ part. part binders) parts))
cond_step declared (RawCond-F.Or parts span) binders = one c.Or (all_some (map (λ part. part binders) parts))
cond_step declared (RawCond-F.Imply left right span) binders = both c.Imply (left binders) (right binders)
cond_step declared (RawCond-F.All variables part span) binders = quantified declared c.All variables part binders
cond_step declared (RawCond-F.Any variables part span) binders = quantified declared c.Any variables part binders

abbrev pub cond_of : Declared → RawCond → Binders → Option Cond
cond_of declared = fold-RawCond (Binders → Option Cond) (cond_step declared)

abbrev pub conds_of : Declared → List RawCond → Binders → Option (List Cond)
conds_of declared raws binders = all_some (map (λ part. part binders) (map (cond_of declared) raws))

-- Effects

abbrev pub literal : Declared → (ℕ → List Term → Effect) → Word → List Word → Binders → Option Effect
literal declared make predicate terms binders =
    predicate_of declared predicate.text (length terms) >>= (λ n. terms_of declared binders terms >>= (λ ts. Some (make n ts)))

abbrev pub change : Declared → Op → Word → List Word → RawExpr → Binders → Option Effect
change declared op function terms value binders =
    function_of declared function.text (length terms) >>= (λ n. terms_of declared binders terms >>= (λ ts. expr_of declared value binders >>= (λ a. Some (e.Change op n ts a))))

abbrev pub effect_step : Declared → RawEffect-F (Binders → Option Effect) → Binders → Option Effect
effect_step declared (RawEffect-F.Add predicate terms span) binders = literal declared e.Add predicate terms binders
effect_step declared (RawEffect-F.Delete predicate terms span) binders = literal declared e.Delete predicate terms binders
effect_step declared (RawEffect-F.Change op function terms value span) binders = change declared op function terms value binders
effect_step declared (RawEffect-F.Group parts span) binders = one e.Group (all_some (map (λ part. part binders) parts))
effect_step declared (RawEffect-F.Each variables part span) binders =
    quantified declared e.Each variables part binders
effect_step declared (RawEffect-F.When condition part span) binders =
    both e.When (cond_of declared condition binders) (part binders)

abbrev pub effect_of : Declared → RawEffect → Binders → Option Effect
effect_of declared = fold-RawEffect (Binders → Option Effect) (effect_step declared)

abbrev pub effects_of : Declared → List RawEffect → Binders → Option (List Effect)
effects_of declared raws binders = all_some (map (λ part. part binders) (map (effect_of declared) raws))
