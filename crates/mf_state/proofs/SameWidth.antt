-- States whose forms are wide alike are narrow alike.
use Rattle.std.proofs.Common.{◌≡◌, ℕ, zero, suc, Bool, true, false, not, ◌&&◌, ◌||◌, if◌then◌else◌, List, [], ◌∷◌, get_or, Option, pos, refl, ap, ◌∙◌}
use Rattle.std.proofs.Math.Path.{fun_ext}
use Rattle.std.specs.Prelude.{is_some}
use Rattle.std.specs.List.{list_all, list_any}
use Rattle.std.specs.Cmp.Lexicographic.{pointwise}
use Rattle.std.proofs.lemmas.Slice.Eq.{slice_eq-Decides}
use Rattle.mf_fraction.specs.Exact.{Number, product_of, sum_of, whole}
use Rattle.mf_store.specs.SameRows.{same_value, same_value-Decides}
use Rattle.mf_task.specs.declared.form.Form.{Form}
use Rattle.mf_task.specs.declared.form.Part.{Part}
use Rattle.mf_task.specs.declared.ground.GroundAction.{GroundAction}
use Rattle.mf_task.specs.declared.ground.GroundCond.{GroundCond, fold-GroundCond}
use Rattle.mf_task.specs.declared.ground.GroundCond.TheOpen.{GroundCond-F}
use Rattle.mf_task.specs.declared.task.Task.{Task}
use Rattle.mf_task.specs.GroundMeaning.{form_at}
use Rattle.mf_task.specs.LinearForms.{constant_form}
use Rattle.mf_task.specs.Rows.{Sight}
use Rattle.mf_task.specs.Width as width
use Rattle.mf_state.specs.Narrowness.{is_as_wide}

left_all : (a b : Bool) → (a && b) ≡ true → a ≡ true
left_all true b e = refl
left_all false b e = e

right_all : (a b : Bool) → (a && b) ≡ true → b ≡ true
right_all true b e = e
right_all false b e = cc

pub flipped : (a b : Bool) → a ≡ not b → b ≡ not a
flipped true true e = cc
flipped true false e = refl
flipped false true e = refl
flipped false false e = cc

module _ (old new : ℕ → Option Number) where
  same_at : (term : ℕ) → same_value (old term) (new term) ≡ true → old term ≡ new term
  same_at term e = (same_value-Decides (old term) (new term)).0 e

  -- a form that reads the same values has the same value

  defined_alike : (ps : List Part) → list_all (λ p. same_value (old p.term) (new p.term)) ps ≡ true → width.all_defined old ps ≡ width.all_defined new ps
  defined_alike [] e = refl
  defined_alike (p ∷ ps) e =
      let here = same_at p.term (left_all (same_value (old p.term) (new p.term)) (list_all (λ p. same_value (old p.term) (new p.term)) ps) e) in
      let others = defined_alike ps (right_all (same_value (old p.term) (new p.term)) (list_all (λ p. same_value (old p.term) (new p.term)) ps) e) in
      ap (λ (o : Option Number). is_some o && width.all_defined old ps) here ∙ ap (λ (b : Bool). is_some (new p.term) && b) others

  added_alike : (ps : List Part) → list_all (λ p. same_value (old p.term) (new p.term)) ps ≡ true → ◌≡◌ {A = Number → width.FormValue} (λ a. width.added_up old a ps) (λ a. width.added_up new a ps)
  added_alike [] e = refl
  added_alike (p ∷ ps) e =
      let here = same_at p.term (left_all (same_value (old p.term) (new p.term)) (list_all (λ p. same_value (old p.term) (new p.term)) ps) e) in
      let others = added_alike ps (right_all (same_value (old p.term) (new p.term)) (list_all (λ p. same_value (old p.term) (new p.term)) ps) e) in
      ap (λ (o : Option Number). λ (a : Number). width.onward o (λ v. width.unless_wide (product_of p.coefficient v) (λ product. width.unless_wide (sum_of a product) (λ sum. width.added_up old sum ps)))) here
      ∙ ap (λ (rest : Number → width.FormValue). λ (a : Number). width.onward (new p.term) (λ v. width.unless_wide (product_of p.coefficient v) (λ product. width.unless_wide (sum_of a product) rest))) others

  wide_alike_by : (form : Form) → list_all (λ p. same_value (old p.term) (new p.term)) form.parts ≡ true → width.is_wide_at old form ≡ width.is_wide_at new form
  wide_alike_by form e =
      ap (λ (b : Bool). width.is_wide_value (if b then width.added_up old form.constant form.parts else width.Undefined)) (defined_alike form.parts e)
      ∙ ap (λ (rest : Number → width.FormValue). width.is_wide_value (if width.all_defined new form.parts then rest form.constant else width.Undefined)) (added_alike form.parts e)

  neither : (a b : Bool) → (not a && not b) ≡ true → b ≡ a
  neither true b e = cc
  neither false true e = cc
  neither false false e = refl

  by_answer : (form : Form) (b : Bool) → list_all (λ p. same_value (old p.term) (new p.term)) form.parts ≡ b → (b || (not (width.is_wide_at new form) && not (width.is_wide_at old form))) ≡ true → width.is_wide_at old form ≡ width.is_wide_at new form
  by_answer form true e f = wide_alike_by form e
  by_answer form false e f = neither (width.is_wide_at new form) (width.is_wide_at old form) f

  wide_alike : (form : Form) → is_as_wide old new form ≡ true → width.is_wide_at old form ≡ width.is_wide_at new form
  wide_alike form e = by_answer form (list_all (λ p. same_value (old p.term) (new p.term)) form.parts) refl e

  form_alike : (forms : List Form) → list_all (is_as_wide old new) forms ≡ true → (number : ℕ) → is_as_wide old new (get_or forms number (constant_form (whole (pos 0)))) ≡ true
  form_alike [] e number = refl
  form_alike (form ∷ forms) e zero = left_all (is_as_wide old new form) (list_all (is_as_wide old new) forms) e
  form_alike (form ∷ forms) e (suc number) = form_alike forms (right_all (is_as_wide old new form) (list_all (is_as_wide old new) forms) e) number

module _ (task : Task) (old new : Sight) (alike : (number : ℕ) → width.is_wide_at old.value (form_at task number) ≡ width.is_wide_at new.value (form_at task number)) where
  step_at : (step : GroundCond-F Bool) → width.wide_step task old step ≡ width.wide_step task new step
  step_at (GroundCond-F.Fact holds) = refl
  step_at GroundCond-F.Neither = refl
  step_at (GroundCond-F.Atom atom) = refl
  step_at (GroundCond-F.Compare relation form) = alike form
  step_at (GroundCond-F.Not part) = refl
  step_at (GroundCond-F.And parts) = refl
  step_at (GroundCond-F.Or parts) = refl

  cond_alike : width.is_wide_cond task old ≡ width.is_wide_cond task new
  cond_alike = ap (λ (step : GroundCond-F Bool → Bool). fold-GroundCond Bool step) (fun_ext step_at)

  pub narrow_alike : width.is_narrow task old ≡ width.is_narrow task new
  narrow_alike =
      ap (λ (wide : GroundCond → Bool). not (list_any wide task.goal || list_any (λ (action : GroundAction). wide action.condition || list_any (λ effect. wide effect.condition) action.effects) task.actions)) cond_alike

-- where each form is as wide, or all values are the same
pub narrow_by_forms : (task : Task) (old new : Sight) → list_all (is_as_wide old.value new.value) task.forms ≡ true → width.is_narrow task old ≡ width.is_narrow task new
narrow_by_forms task old new e = narrow_alike task old new (λ number. wide_alike old.value new.value (form_at task number) (form_alike old.value new.value task.forms e number))

pub narrow_by_values : (task : Task) (old new : Sight) → old.value ≡ new.value → width.is_narrow task old ≡ width.is_narrow task new
narrow_by_values task old new e = narrow_alike task old new (λ number. ap (λ (value : ℕ → Option Number). width.is_wide_at value (form_at task number)) e)

pub same_values : (old new : List (Option Number)) → pointwise same_value old new ≡ true → old ≡ new
same_values old new e = (slice_eq-Decides same_value-Decides old new _ refl).0 e
