-- The checked sum of a form's parts, step by step, beside the exact one.
use Rattle.std.proofs.Common.{◌≡◌, ℕ, Bool, true, false, ◌&&◌, if◌then◌else◌, pos, List, [], ◌∷◌, slice_get, Option, Some, None, Ok, Err, refl, sym, ap, ◌∙◌}
use Rattle.std.specs.Option.{unwrap_or}
use Rattle.std.specs.Prelude.{is_some}
use Rattle.std.proofs.lemmas.Option.{unwrap_or-slice_get}
use Rattle.mf_fraction.specs.declared.faults.Wide.{Wide}
use Rattle.mf_fraction.specs.Checked.{checked, wide}
use Rattle.mf_fraction.specs.Exact.{Number, Proper, fits, product_of, sum_of, whole}
use Rattle.mf_fraction.proofs.Algebra.{sum_of-assoc, sum_of-comm, sum_of-zero}
use Rattle.mf_fraction.proofs.Reduced.{whole-proper}
use Rattle.mf_model.specs.Meaning.{plus, times}
use Rattle.mf_task.specs.declared.form.Form.{Form}
use Rattle.mf_task.specs.declared.form.Part.{Part}
use Rattle.mf_task.specs.declared.task.Task.{Task}
use Rattle.mf_task.specs.GroundMeaning.{form_at}
use Rattle.mf_task.specs.LinearForms.{constant_form, form_value, weight}
use Rattle.mf_task.specs.Width as width
use Rattle.mf_state.specs.Answers.{checked_added, onward}

-- exact sums

plus-assoc : (a b : Number) (rest : Option Number) → plus (Some (sum_of a b)) rest ≡ plus (Some a) (plus (Some b) rest)
plus-assoc a b None = refl
plus-assoc a b (Some c) = ap Some (sum_of-assoc a b c)

pub plus-nothing : (a : Number) → Proper a → Some a ≡ plus (Some a) (Some (whole (pos 0)))
plus-nothing a p = sym (ap Some (sum_of-comm a (whole (pos 0)) ∙ sum_of-zero a p))

pub value_of_zero : Some (whole (pos 0)) ≡ form_value (λ _. None) (constant_form (whole (pos 0)))
value_of_zero = plus-nothing (whole (pos 0)) (whole-proper (pos 0))

-- what a checked number is

ok_is : (b : Bool) (x s : Number) → (if b then Ok x else Err wide) ≡ Ok s → x ≡ s
ok_is true x s e = cc
ok_is false x s e = cc

onward_ok : (b : Bool) (x s : Number) (rest : Number → width.FormValue) → (if b then Ok x else Err wide) ≡ Ok s → (if b then rest x else width.Wide) ≡ rest s
onward_ok true x s rest e = ap rest (ok_is true x s e)
onward_ok false x s rest e = cc

onward_wide : (b : Bool) (x : Number) (f : Wide) (rest : Number → width.FormValue) → (if b then Ok x else Err wide) ≡ Err f → (if b then rest x else width.Wide) ≡ width.Wide
onward_wide true x f rest e = cc
onward_wide false x f rest e = refl

module _ (a c v : Number) where
  by_product : (b : Bool) (s : Number) (rest : Number → width.FormValue) → onward (if b then Ok (product_of c v) else Err wide) (λ product. checked (sum_of a product)) ≡ Ok s →
      (if b then width.unless_wide (sum_of a (product_of c v)) rest else width.Wide) ≡ rest s
  unfolding checked
  by_product true s rest e = onward_ok (fits (sum_of a (product_of c v))) (sum_of a (product_of c v)) s rest e
  by_product false s rest e = cc

  by_wide_product : (b : Bool) (f : Wide) (rest : Number → width.FormValue) → onward (if b then Ok (product_of c v) else Err wide) (λ product. checked (sum_of a product)) ≡ Err f →
      (if b then width.unless_wide (sum_of a (product_of c v)) rest else width.Wide) ≡ width.Wide
  unfolding checked
  by_wide_product true f rest e = onward_wide (fits (sum_of a (product_of c v))) (sum_of a (product_of c v)) f rest e
  by_wide_product false f rest e = refl

  by_exact : (b : Bool) (s : Number) → onward (if b then Ok (product_of c v) else Err wide) (λ product. checked (sum_of a product)) ≡ Ok s → sum_of a (product_of c v) ≡ s
  unfolding checked
  by_exact true s e = ok_is (fits (sum_of a (product_of c v))) (sum_of a (product_of c v)) s e
  by_exact false s e = cc

  added_ok : (s : Number) (rest : Number → width.FormValue) → checked_added a c v ≡ Ok s → width.unless_wide (product_of c v) (λ product. width.unless_wide (sum_of a product) rest) ≡ rest s
  unfolding checked
  added_ok s rest e = by_product (fits (product_of c v)) s rest e

  added_wide : (f : Wide) (rest : Number → width.FormValue) → checked_added a c v ≡ Err f → width.unless_wide (product_of c v) (λ product. width.unless_wide (sum_of a product) rest) ≡ width.Wide
  unfolding checked
  added_wide f rest e = by_wide_product (fits (product_of c v)) f rest e

  added_is : (s : Number) → checked_added a c v ≡ Ok s → sum_of a (product_of c v) ≡ s
  unfolding checked
  added_is s e = by_exact (fits (product_of c v)) s e

-- one part more

module _ (value : ℕ → Option Number) (a : Number) (p : Part) (ps : List Part) where
  part_after : Number → width.FormValue
  part_after v = width.unless_wide (product_of p.coefficient v) (λ product. width.unless_wide (sum_of a product) (λ sum. width.added_up value sum ps))

  pub added_up-ok : (v s : Number) → value p.term ≡ Some v → checked_added a p.coefficient v ≡ Ok s → width.added_up value a (p ∷ ps) ≡ width.added_up value s ps
  unfolding part_after
  added_up-ok v s e f = ap (λ (o : Option Number). width.onward o part_after) e ∙ added_ok a p.coefficient v s (λ sum. width.added_up value sum ps) f

  pub added_up-wide : (v : Number) (fault : Wide) → value p.term ≡ Some v → checked_added a p.coefficient v ≡ Err fault → width.added_up value a (p ∷ ps) ≡ width.Wide
  unfolding part_after
  added_up-wide v fault e f = ap (λ (o : Option Number). width.onward o part_after) e ∙ added_wide a p.coefficient v fault (λ sum. width.added_up value sum ps) f

  pub added_up-none : value p.term ≡ None → width.added_up value a (p ∷ ps) ≡ width.Undefined
  unfolding part_after
  added_up-none e = ap (λ (o : Option Number). width.onward o part_after) e

  pub weight-ok : (v s : Number) → value p.term ≡ Some v → checked_added a p.coefficient v ≡ Ok s → plus (Some a) (weight value (p ∷ ps)) ≡ plus (Some s) (weight value ps)
  weight-ok v s e f =
      ap (λ (o : Option Number). plus (Some a) (plus (times (Some p.coefficient) o) (weight value ps))) e
      ∙ sym (plus-assoc a (product_of p.coefficient v) (weight value ps))
      ∙ ap (λ (x : Number). plus (Some x) (weight value ps)) (added_is a p.coefficient v s f)

  pub weight-none : value p.term ≡ None → plus (Some a) (weight value (p ∷ ps)) ≡ None
  weight-none e = ap (λ (o : Option Number). plus (Some a) (plus (times (Some p.coefficient) o) (weight value ps))) e

-- where a term is undefined, so is the form

plus-none : (x : Option Number) → plus x None ≡ None
plus-none (Some a) = refl
plus-none None = refl

undefined_by : (c : Number) (o rest : Option Number) (b : Bool) → (b ≡ false → rest ≡ None) → (is_some o && b) ≡ false → plus (times (Some c) o) rest ≡ None
undefined_by c None rest b none e = refl
undefined_by c (Some v) rest b none e = ap (λ (x : Option Number). plus (times (Some c) (Some v)) x) (none e) ∙ plus-none (times (Some c) (Some v))

pub weight-undefined : (value : ℕ → Option Number) (ps : List Part) → width.all_defined value ps ≡ false → weight value ps ≡ None
weight-undefined value [] e = cc
weight-undefined value (p ∷ ps) e = undefined_by p.coefficient (value p.term) (weight value ps) (width.all_defined value ps) (weight-undefined value ps) e

pub form-undefined : (value : ℕ → Option Number) (form : Form) → width.all_defined value form.parts ≡ false → form_value value form ≡ None
form-undefined value form e = ap (λ (o : Option Number). plus (Some form.constant) o) (weight-undefined value form.parts e)

-- the form of a number

pub form_there : (task : Task) (number : ℕ) (form : Form) → slice_get task.forms number ≡ Some form → form_at task number ≡ form
form_there task number form e =
    sym (unwrap_or-slice_get task.forms number (constant_form (whole (pos 0)))) ∙ ap (λ (o : Option Form). unwrap_or o (constant_form (whole (pos 0)))) e

pub form_absent : (task : Task) (number : ℕ) → slice_get task.forms number ≡ None → form_at task number ≡ constant_form (whole (pos 0))
form_absent task number e =
    sym (unwrap_or-slice_get task.forms number (constant_form (whole (pos 0)))) ∙ ap (λ (o : Option Form). unwrap_or o (constant_form (whole (pos 0)))) e
