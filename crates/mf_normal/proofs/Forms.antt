-- Forms of expressions: a part that is too wide makes the whole so.
use Rattle.std.proofs.Common.{◌≡◌, ℕ, ◌+◌, ◌<◌, pos, Bool, true, false, ◌&&◌, List, [], ◌∷◌, length, map, get_or, drop, Option, Some, IfSome, Result, Ok, Err, refl, sym, ap, ◌∙◌, subst, rules}
use Rattle.std.proofs.lemmas.List.{drop_more}
use Rattle.mf_fraction.specs.Checked.{checked}
use Rattle.mf_fraction.specs.Exact.{Number, fits, quotient_of, whole}
use Rattle.mf_fraction.specs.declared.faults.Wide.{Wide}
use Rattle.mf_model.specs.declared.task.Expr.{Expr, the_lemmas}
use Rattle.mf_model.specs.declared.task.Expr.TheVariants as expr
use Rattle.mf_model.specs.declared.task.Term.{Term}
use Rattle.mf_model.specs.Views.{objects_of}
use Rattle.mf_task.specs.declared.form.Form.{Form}
use Rattle.mf_task.specs.declared.form.Part.{Part}
use Rattle.mf_task.specs.LinearForms.{Functions, difference_form, function_form, product_by, product_form, quotient_form, quotient_over, scaled_by, scaled_form, sum_form}
use Rattle.mf_task.specs.WideForms.{Formed, both_formed, combined_formed, form_fits, formed, formed_of, joined_formed}
use Rattle.mf_normal.specs.declared.arithmetic.Operation.{Operation}
use Rattle.mf_normal.specs.declared.arithmetic.Operation.TheVariants.{Sum, Difference, Product}
use Rattle.mf_normal.specs.declared.fault.FormFault.{FormFault}
use Rattle.mf_normal.specs.declared.fault.FormFault.TheVariants as fault
use Rattle.mf_normal.specs.FormParts.{IsRising, are_narrow}
use Rattle.mf_normal.specs.FormsMade.{IsKept, Makes, MakesForm, as_defined, join_of, joined_by, unit_of}
use Rattle.mf_normal.proofs.Numbers.{answered_ok, checked_err}

pub and_right : (a b : Bool) → b ≡ false → (a && b) ≡ false
and_right true b e = e
and_right false b e = refl

module _ (join : Option Form → Option Form → Option Form) where
  pub wide_left : (a b : Formed) → a.fits ≡ false → (both_formed join a b).fits ≡ false
  wide_left a b e = rw e refl

  pub wide_right : (a b : Formed) → b.fits ≡ false → (both_formed join a b).fits ≡ false
  wide_right a b e = one a.fits _ (and_right a.fits b.fits e)
    where
      one : (x y : Bool) → (x && b.fits) ≡ false → ((x && b.fits) && y) ≡ false
      one x y f = rw f refl

  pub wide_front : (a : Formed) (bs : List Formed) → a.fits ≡ false → (combined_formed join a bs).fits ≡ false
  wide_front a [] e = e
  wide_front a (b ∷ bs) e = wide_front (both_formed join a b) bs (wide_left a b e)

  -- a front, and the forms of the parts from some place on
  pub front_next : (functions : Functions) (binding : List ℕ) (a : Formed) (parts : List Expr) (i : ℕ) (part : Expr) → i < length parts → part ≡ get_or parts i part → combined_formed join a (map (λ f. f binding) (map (formed_of functions) (drop i parts))) ≡ combined_formed join (both_formed join a (formed_of functions part binding)) (map (λ f. f binding) (map (formed_of functions) (drop (i + 1) parts)))
  front_next functions binding a parts i part h e =
      ap (λ (rest : List Expr). combined_formed join a (map (λ f. f binding) (map (formed_of functions) rest))) (drop_more parts i part h ∙ ap (λ (x : Expr). x ∷ drop (i + 1) parts) (sym e))

  forms_in : Functions → List ℕ → List Expr → List Formed
  forms_in functions binding parts = map (λ f. f binding) (map (formed_of functions) parts)

  pub first_fails : (functions : Functions) (binding : List ℕ) (unit : Number) (first : Expr) (others parts : List Expr) (why : FormFault) → parts ≡ first ∷ others → Makes (formed_of functions first binding) (Err why) → Makes (joined_formed unit join (map (λ f. f binding) (map (formed_of functions) parts))) (Err why)
  first_fails functions binding unit first others parts fault.Wide e h =
      ap (λ (l : List Expr). (joined_formed unit join (map (λ f. f binding) (map (formed_of functions) l))).fits) e
      ∙ wide_front (formed_of functions first binding) (map (λ f. f binding) (map (formed_of functions) others)) h
  first_fails functions binding unit first others parts fault.Memory e h = tt

  module _ (functions : Functions) (binding : List ℕ) (all : Formed) (front : Option Form) (parts : List Expr) (i : ℕ) (part : Expr) (h : i < length parts) (e : part ≡ get_or parts i part) (rest : combined_formed join (record { form = front; fits = true }) (map (λ f. f binding) (map (formed_of functions) (drop i parts))) ≡ all) where
    a : Formed
    a = record { form = front; fits = true }

    later : List Formed
    later = map (λ f. f binding) (map (formed_of functions) (drop (i + 1) parts))

    step : combined_formed join (both_formed join a (formed_of functions part binding)) later ≡ all
    unfolding a later
    step = sym (front_next functions binding a parts i part h e) ∙ rest

    pub next_fails : (why : FormFault) → Makes (formed_of functions part binding) (Err why) → Makes all (Err why)
    unfolding a later
    next_fails fault.Wide wide =
        sym (ap (λ (x : Formed). x.fits) step) ∙ wide_front (both_formed join a (formed_of functions part binding)) later (wide_right a (formed_of functions part binding) wide)
    next_fails fault.Memory wide = tt

    pub join_fails : (next : Option Form) (why : FormFault) → Makes (formed_of functions part binding) (Ok next) → Makes (formed (join front next) true) (Err why) → Makes all (Err why)
    unfolding a later
    join_fails next fault.Wide made wide =
        sym (ap (λ (x : Formed). x.fits) step)
        ∙ wide_front (both_formed join a (formed_of functions part binding)) later (ap (λ (x : Formed). (both_formed join a x).fits) made.0 ∙ wide)
    join_fails next fault.Memory made wide = tt

    pub join_next : (next new : Option Form) → Makes (formed_of functions part binding) (Ok next) → Makes (formed (join front next) true) (Ok new) → (combined_formed join (record { form = new; fits = true }) (map (λ f. f binding) (map (formed_of functions) (drop (i + 1) parts))) ≡ all) × IfSome new IsKept
    unfolding a later
    join_next next new made joined = (
      sym (ap (λ (x : Formed). combined_formed join x later) (ap (λ (x : Formed). both_formed join a x) made.0 ∙ joined.0)) ∙ step,
      joined.1,
    )

-- forms that the code makes

abbrev form : Number → List Part → Form
form constant parts = record { constant = constant; parts = parts }

form_made : (k l : Number) (ps qs : List Part) (r : Result Number Wide) → r ≡ checked l → r ≡ Ok k → ps ≡ qs → IsRising qs → are_narrow qs ≡ true → (form k ps ≡ form l qs) × IsKept (form l qs)
form_made k l ps qs r f g e rising narrow =
    let n = answered_ok l k r f g in
    let fit : fits l ≡ true = sym (ap fits n.0) ∙ n.1 in (
      ap (λ (x : Number). form x ps) n.0 ∙ ap (λ (x : List Part). form l x) e,
      record { rising = rising; narrow = ap (λ b. b && are_narrow qs) fit ∙ narrow },
    )

pub form_made_of : (f : List Part → List Part) (k l : Number) (ps qs rs : List Part) (r : Result Number Wide) → r ≡ checked l → r ≡ Ok k → rs ≡ qs → (ps ≡ f rs) × IsRising (f rs) × (are_narrow (f rs) ≡ true) → (form k ps ≡ form l (f qs)) × IsKept (form l (f qs))
form_made_of f k l ps qs rs r g h e made =
    let m = subst (λ (x : List Part). (ps ≡ f x) × IsRising (f x) × (are_narrow (f x) ≡ true)) e made in
    form_made k l ps (f qs) r g h m.0 m.1 m.2

pub constant_wide : (l : Number) (qs : List Part) (w : Wide) (r : Result Number Wide) → r ≡ checked l → r ≡ Err w → form_fits (form l qs) ≡ false
constant_wide l qs w r f g = ap (λ b. b && are_narrow qs) (checked_err l w (sym f ∙ g))

-- a defined form
pub makes_defined : (a : Form) (o : Option Form) (r : Result Form FormFault) (s : Result (Option Form) FormFault) → o ≡ Some a → MakesForm a r → s ≡ as_defined r → Makes (formed o true) s
makes_defined a o r s e made f =
    subst (λ (x : Option Form). Makes (formed x true) s) (sym e) (subst (λ (x : Result (Option Form) FormFault). Makes (formed (Some a) true) x) (sym f) (at r made))
  where
    formed_as : Option Form → Bool → Formed
    formed_as x fit = record { form = x; fits = fit }

    at : (q : Result Form FormFault) → MakesForm a q → Makes (formed (Some a) true) (as_defined q)
    at (Ok b) m = (
      ap (λ (x : Bool). formed_as (Some a) x) m.1.narrow ∙ ap (λ (x : Form). formed_as (Some x) true) (sym m.0),
      subst IsKept (sym m.0) m.1,
    )
    at (Err fault.Wide) m = m
    at (Err fault.Memory) m = tt

pub product_right : (a b : Form) → b.parts ≡ [] → product_form a b ≡ Some (scaled_form b.constant a)
product_right a b e = ap (λ (l : List Part). product_by a b a.parts l) e

pub product_left : (a b : Form) → a.parts ≡ [] → (b.parts ≡ [] → false ≡ true) → product_form a b ≡ Some (scaled_form a.constant b)
product_left a b e some = ap (λ (l : List Part). product_by a b l b.parts) e ∙ at b.parts some
  where
    at : (qs : List Part) → (qs ≡ [] → false ≡ true) → product_by a b [] qs ≡ Some (scaled_form a.constant b)
    at [] none = let no : false ≡ true = none refl in cc
    at (q ∷ qs) none = refl

pub quotient_some : (a b : Form) (q : Number) (o : Option Number) → b.parts ≡ [] → o ≡ quotient_of (whole (pos 1)) b.constant → o ≡ Some q → quotient_form a b ≡ Some (scaled_form q a)
quotient_some a b q o e f g =
    ap (λ (l : List Part). quotient_over a b.constant l) e ∙ ap (λ (x : Option Number). scaled_by a x) (sym f ∙ g)

pub joined_sum : (op : Operation) (a b : Form) → op ≡ Sum → joined_by op a b ≡ Some (sum_form a b)
joined_sum op a b e = ap (λ (o : Operation). joined_by o a b) e

pub joined_difference : (op : Operation) (a b : Form) → op ≡ Difference → joined_by op a b ≡ Some (difference_form a b)
joined_difference op a b e = ap (λ (o : Operation). joined_by o a b) e

-- one arm of the walk over an expression

module _ (functions : Functions) (b : List ℕ) where
  formed-function : (n : ℕ) (terms : List Term) → formed_of functions (expr.Function n terms) b ≡ formed (function_form functions n (objects_of b terms)) true
  formed-function n terms = search (rules, the_lemmas)

  pub function_arm : (e : Expr) (n : ℕ) (terms ts : List Term) (r : Result (Option Form) FormFault) → e ≡ expr.Function n terms → ts ≡ terms → Makes (formed (function_form functions n (objects_of b ts)) true) r → Makes (formed_of functions e b) r
  function_arm e n terms ts r f g made =
      subst (λ (x : Formed). Makes x r) (ap (λ (l : List Term). formed (function_form functions n (objects_of b l)) true) g ∙ sym (formed-function n terms) ∙ sym (ap (λ (x : Expr). formed_of functions x b) f)) made

  formed-sum : (parts : List Expr) → formed_of functions (expr.Sum parts) b ≡ joined_formed (unit_of Sum) (join_of Sum) (map (λ f. f b) (map (formed_of functions) parts))
  formed-sum parts = search (rules, the_lemmas)

  pub sum_arm : (e : Expr) (parts ps : List Expr) (r : Result (Option Form) FormFault) → e ≡ expr.Sum parts → ps ≡ parts → Makes (joined_formed (unit_of Sum) (join_of Sum) (map (λ f. f b) (map (formed_of functions) ps))) r → Makes (formed_of functions e b) r
  sum_arm e parts ps r f g made =
      subst (λ (x : Formed). Makes x r) (ap (λ (l : List Expr). joined_formed (unit_of Sum) (join_of Sum) (map (λ f. f b) (map (formed_of functions) l))) g ∙ sym (formed-sum parts) ∙ sym (ap (λ (x : Expr). formed_of functions x b) f)) made

  formed-product : (parts : List Expr) → formed_of functions (expr.Product parts) b ≡ joined_formed (unit_of Product) (join_of Product) (map (λ f. f b) (map (formed_of functions) parts))
  formed-product parts = search (rules, the_lemmas)

  pub product_arm : (e : Expr) (parts ps : List Expr) (r : Result (Option Form) FormFault) → e ≡ expr.Product parts → ps ≡ parts → Makes (joined_formed (unit_of Product) (join_of Product) (map (λ f. f b) (map (formed_of functions) ps))) r → Makes (formed_of functions e b) r
  product_arm e parts ps r f g made =
      subst (λ (x : Formed). Makes x r) (ap (λ (l : List Expr). joined_formed (unit_of Product) (join_of Product) (map (λ f. f b) (map (formed_of functions) l))) g ∙ sym (formed-product parts) ∙ sym (ap (λ (x : Expr). formed_of functions x b) f)) made
