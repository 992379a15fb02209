-- A condition and its ground condition hold alike, fail alike, or both do neither.
use Rattle.std.proofs.Common.{◌≡◌, ℕ, Bool, true, false, nat_eq, List, [], ◌∷◌, map, length, Option, Some, None, refl, sym, subst, ap, ap₂, ◌∙◌}
use Rattle.std.specs.Prelude.{pos, if◌then◌else◌, position, IfSome}
use Rattle.std.specs.List.{flat_map, list_all}
use Rattle.std.proofs.lemmas.Bool.{and_parts}
use Rattle.mf_fraction.specs.Exact.{whole}
use Rattle.mf_model.specs.declared.task.Expr.{Expr}
use Rattle.mf_model.specs.declared.task.Cond.{Cond}
use Rattle.mf_model.specs.declared.task.Cond.TheOpen.{Cond-F}
use Rattle.mf_model.specs.declared.task.Cond.TheFolds.{ind-Cond, fold-roll-Cond, map-Cond}
use Rattle.mf_model.specs.declared.task.Relation.{Relation}
use Rattle.mf_model.specs.declared.task.TypedTask.{TypedTask}
use Rattle.mf_model.specs.declared.truth.Truth.{Truth}
use Rattle.mf_model.specs.Expressions.{every_side, every_side_step}
use Rattle.mf_model.specs.Functions.{avoids, is_constant, is_cost, is_static}
use Rattle.mf_model.specs.Linearity.{is_linear}
use Rattle.mf_model.specs.Meaning.{all_of, any_of, holds_step, not_of, or_of, truth_in, truth_of}
use Rattle.mf_model.specs.Objects.{bindings, kinds_of}
use Rattle.mf_model.specs.ResolvedTask.{has_stored_numbers}
use Rattle.mf_model.specs.States.{is_atom, look_of, start_of}
use Rattle.mf_model.specs.Views.{Look, object_of, objects_of}
use Rattle.mf_task.specs.declared.form.Form.{Form}
use Rattle.mf_task.specs.declared.form.Part.{Part}
use Rattle.mf_task.specs.declared.ground.GroundCond.{GroundCond}
use Rattle.mf_task.specs.declared.ground.GroundCond.TheVariants as node
use Rattle.mf_task.specs.declared.task.Task.{Task}
use Rattle.mf_task.specs.GroundMeaning.{form_at, ground_truth, relates, sign, truth_at}
use Rattle.mf_task.specs.Grounding.{Numbering, changing_form, compared_form, comparison_by, comparison_forms, condition_forms, condition_forms_step, form_number, functions_in, ground_atom, ground_comparison, ground_cond, ground_step, listed_atom, negation, place_or_end}
use Rattle.mf_task.specs.LinearForms.{constant_form, form_value, optional_form_value}
use Rattle.mf_task.specs.Rows.{Sight}
use Rattle.mf_bridge.specs.Readable.{IsReadable, IsReadableCondition}
use Rattle.mf_bridge.specs.Shows.{Shows}
use Rattle.mf_bridge.specs.UnlistedAtoms.{HidesUnlistedAtoms}
use Rattle.mf_bridge.proofs.Expressions.{comparison_is_sign, compared_form_lowest}
use Rattle.mf_bridge.proofs.FormLaws.{constant_value}
use Rattle.mf_bridge.proofs.GroundTruth.{of_atom, of_compare, of_conjunction, of_disjunction, of_fact, of_negation, of_neither, or-no}
use Rattle.mf_bridge.specs.ListedForms.{AreListed, IsListed}
use Rattle.mf_bridge.proofs.ListedForms.{listed_number}
use Rattle.mf_bridge.proofs.Weights.{IsLowestForm}
use Rattle.mf_bridge.proofs.Lists.{all_back, all_front}

-- the tests of expressions
pub data Test (task : TypedTask) : Type 0 where
  Linear : Test task
  Numbers : Test task
  Costless : (function : ℕ) → is_cost task function ≡ true → Test task

unfoldable pub passes : (task : TypedTask) → Test task → Expr → Bool
passes task Linear e = is_linear (is_constant task) e
passes task Numbers e = has_stored_numbers e
passes task (Costless function cost) e = avoids function e

abbrev pub PassesAll : TypedTask → Cond → Type 0
PassesAll task c = (test : Test task) → every_side (passes task test) c ≡ true

pub passes_all : (task : TypedTask) (c : Cond) → IsReadableCondition task c → PassesAll task c
unfolding passes
passes_all task c r Linear = r.linear
passes_all task c r Numbers = r.numbers
passes_all task c r (Costless function cost) = r.costless function cost

pub readable_from : (task : TypedTask) (e : Expr) → ((test : Test task) → passes task test e ≡ true) → IsReadable task e
unfolding passes
readable_from task e all = record { linear = all Linear; numbers = all Numbers; costless = λ function cost. all (Costless function cost) }

module _ (numbering : Numbering) (packed : Task) (look : Look) (sight : Sight) (shows : Shows numbering look sight) (hides : HidesUnlistedAtoms numbering sight) (same : packed.forms ≡ numbering.forms) where
  abbrev objects : List (List ℕ)
  objects = kinds_of numbering.task

  abbrev Claim : Cond → Type 0
  Claim c = PassesAll numbering.task c → (b : List ℕ) → AreListed numbering.forms (condition_forms objects (functions_in numbering) c b) → truth_in objects look c b ≡ ground_truth packed sight (ground_cond numbering c b)

  abbrev Piece : Type 0
  Piece = (c : Cond) × Claim c

  -- atoms

  fluent : (predicate : ℕ) (os : List ℕ) (n : Option ℕ) → look.atom predicate os ≡ sight.bit (place_or_end n (length numbering.atoms)) → truth_of (look.atom predicate os) ≡ ground_truth packed sight (listed_atom n)
  fluent predicate os (Some n) e = ap truth_of e ∙ sym (of_atom packed sight n)
  fluent predicate os None e = ap truth_of (e ∙ hides) ∙ sym (of_fact packed sight false)

  atoms : (predicate : ℕ) (os : List ℕ) → truth_of (look.atom predicate os) ≡ ground_truth packed sight (ground_atom numbering predicate os)
  atoms predicate os = by (is_static numbering.task predicate) refl
    where
      by : (static : Bool) → is_static numbering.task predicate ≡ static → truth_of (look.atom predicate os) ≡ ground_truth packed sight (if static then node.Fact ((look_of (start_of numbering.task)).atom predicate os) else listed_atom (position (is_atom predicate os) numbering.atoms))
      by true e = ap truth_of (shows.static_atom predicate os e) ∙ sym (of_fact packed sight _)
      by false e = fluent predicate os (position (is_atom predicate os) numbering.atoms) (shows.fluent_atom predicate os e)

  -- comparisons

  pub form_there : (a : Form) → IsListed numbering.forms a → form_at packed (form_number numbering.forms a) ≡ a
  form_there a listed = subst (λ fs. form_at (record packed { forms = fs }) (form_number numbering.forms a) ≡ a) (sym same) (listed_number numbering.forms a (constant_form (whole (pos 0))) listed)

  comparison_at : (r : Relation) (a : Form) → IsLowestForm a → (ps : List Part) → a.parts ≡ ps → AreListed numbering.forms (changing_form a ps) → truth_at r (form_value sight.value a) ≡ ground_truth packed sight (comparison_by numbering r a ps)
  comparison_at r a low [] e listed = ap (truth_at r) (constant_value sight.value shows.sight_lowest a low e) ∙ sym (of_fact packed sight (relates r (sign a.constant)))
  comparison_at r a low (p ∷ ps) e listed =
      ap (λ f. truth_at r (form_value sight.value f)) (sym (form_there a listed.0)) ∙ sym (of_compare packed sight r (form_number numbering.forms a))

  comparisons : (r : Relation) (form : Option Form) → IfSome form IsLowestForm → AreListed numbering.forms (comparison_forms form) → truth_at r (optional_form_value sight.value form) ≡ ground_truth packed sight (ground_comparison numbering r form)
  comparisons r (Some a) low listed = comparison_at r a low a.parts refl listed
  comparisons r None low listed = sym (of_neither packed sight)

  -- lists of conditions

  abbrev conds : List Piece → List Cond
  conds ps = map (λ p. p.0) ps

  abbrev PassEach : List Cond → Type 0
  PassEach cs = (test : Test numbering.task) → list_all (λ part. part) (map (every_side (passes numbering.task test)) cs) ≡ true

  several : (ps : List Piece) → PassEach (conds ps) → (b : List ℕ) → AreListed numbering.forms (flat_map (λ part. part b) (map (condition_forms objects (functions_in numbering)) (conds ps))) →
      map (λ part. part b) (map (truth_in objects look) (conds ps)) ≡ map (ground_truth packed sight) (map (λ part. part b) (map (ground_cond numbering) (conds ps)))
  several [] pass b listed = refl
  several (p ∷ ps) pass b listed =
      let here = condition_forms objects (functions_in numbering) p.0 b in
      let others = flat_map (λ part. part b) (map (condition_forms objects (functions_in numbering)) (conds ps)) in
      let first = p.1 (λ test. (and_parts (every_side (passes numbering.task test) p.0) (list_all (λ part. part) (map (every_side (passes numbering.task test)) (conds ps))) (pass test)).0) b (all_front (IsListed numbering.forms) here others listed) in
      let rest = several ps (λ test. (and_parts (every_side (passes numbering.task test) p.0) (list_all (λ part. part) (map (every_side (passes numbering.task test)) (conds ps))) (pass test)).1) b (all_back (IsListed numbering.forms) here others listed) in
      λ i. first i ∷ rest i

  quantified : (p : Piece) → PassesAll numbering.task p.0 → (bs : List (List ℕ)) → AreListed numbering.forms (flat_map (condition_forms objects (functions_in numbering) p.0) bs) →
      map (truth_in objects look p.0) bs ≡ map (ground_truth packed sight) (map (ground_cond numbering p.0) bs)
  quantified p pass [] listed = refl
  quantified p pass (b ∷ bs) listed =
      let here = condition_forms objects (functions_in numbering) p.0 b in
      let others = flat_map (condition_forms objects (functions_in numbering) p.0) bs in
      let first = p.1 pass b (all_front (IsListed numbering.forms) here others listed) in
      let rest = quantified p pass bs (all_back (IsListed numbering.forms) here others listed) in
      λ i. first i ∷ rest i

  Layer : Cond-F Cond → Type 0
  Layer x = ((test : Test numbering.task) → every_side_step (passes numbering.task test) (map-Cond Cond Bool (every_side (passes numbering.task test)) x) ≡ true) → (b : List ℕ) → AreListed numbering.forms (condition_forms_step objects (functions_in numbering) (map-Cond Cond (List ℕ → List Form) (condition_forms objects (functions_in numbering)) x) b) →
      holds_step objects look (map-Cond Cond (List ℕ → Truth) (truth_in objects look) x) b ≡ ground_truth packed sight (ground_step numbering (map-Cond Cond (List ℕ → GroundCond) (ground_cond numbering) x) b)

  level : (y : Cond-F Piece) → Layer (map-Cond Piece Cond (λ p. p.0) y)
  unfolding Layer
  level (Cond-F.Atom predicate terms) pass b listed = atoms predicate (objects_of b terms)
  level (Cond-F.Same left right) pass b listed = sym (of_fact packed sight (nat_eq (object_of b left) (object_of b right)))
  level (Cond-F.Compare relation left right) pass b listed =
      let at_left = readable_from numbering.task left (λ test. (and_parts (passes numbering.task test left) (passes numbering.task test right) (pass test)).0) in
      let at_right = readable_from numbering.task right (λ test. (and_parts (passes numbering.task test left) (passes numbering.task test right) (pass test)).1) in
      comparison_is_sign numbering look sight shows relation left right b at_left at_right
      ∙ comparisons relation (compared_form (functions_in numbering) left right b) (compared_form_lowest numbering look sight shows left right b at_left at_right) listed
  level (Cond-F.Not part) pass b listed = ap not_of (part.1 pass b listed) ∙ sym (of_negation packed sight (ground_cond numbering part.0 b))
  level (Cond-F.And parts) pass b listed = ap all_of (several parts pass b listed) ∙ sym (of_conjunction packed sight (map (λ part. part b) (map (ground_cond numbering) (conds parts))))
  level (Cond-F.Or parts) pass b listed = ap any_of (several parts pass b listed) ∙ sym (of_disjunction packed sight (map (λ part. part b) (map (ground_cond numbering) (conds parts))))
  level (Cond-F.Imply left right) pass b listed =
      let here = condition_forms objects (functions_in numbering) left.0 b in
      let other = condition_forms objects (functions_in numbering) right.0 b in
      let at_left = left.1 (λ test. (and_parts (every_side (passes numbering.task test) left.0) (every_side (passes numbering.task test) right.0) (pass test)).0) b (all_front (IsListed numbering.forms) here other listed) in
      let at_right = right.1 (λ test. (and_parts (every_side (passes numbering.task test) left.0) (every_side (passes numbering.task test) right.0) (pass test)).1) b (all_back (IsListed numbering.forms) here other listed) in
      let premise = ap not_of at_left ∙ sym (of_negation packed sight (ground_cond numbering left.0 b)) in
      let conclusion = at_right ∙ sym (or-no (ground_truth packed sight (ground_cond numbering right.0 b))) in
      ap₂ or_of premise conclusion ∙ sym (of_disjunction packed sight (negation (ground_cond numbering left.0 b) ∷ ground_cond numbering right.0 b ∷ []))
  level (Cond-F.All variables part) pass b listed = ap all_of (quantified part pass (bindings objects variables b) listed) ∙ sym (of_conjunction packed sight (map (ground_cond numbering part.0) (bindings objects variables b)))
  level (Cond-F.Any variables part) pass b listed = ap any_of (quantified part pass (bindings objects variables b) listed) ∙ sym (of_disjunction packed sight (map (ground_cond numbering part.0) (bindings objects variables b)))

  pub truth_is_ground_truth : (c : Cond) → Claim c
  unfolding Layer
  truth_is_ground_truth = ind-Cond Claim (λ x y is pass b listed.
      let listings = ap (λ (f : List ℕ → List Form). f b) (fold-roll-Cond (List ℕ → List Form) (condition_forms_step objects (functions_in numbering)) x) in
      let at_layer = subst (λ z. Layer z) is (level y) (λ test. sym (fold-roll-Cond Bool (every_side_step (passes numbering.task test)) x) ∙ pass test) b (subst (AreListed numbering.forms) listings listed) in
      ap (λ (f : List ℕ → Truth). f b) (fold-roll-Cond (List ℕ → Truth) (holds_step objects look) x)
      ∙ at_layer
      ∙ sym (ap (λ (f : List ℕ → GroundCond). ground_truth packed sight (f b)) (fold-roll-Cond (List ℕ → GroundCond) (ground_step numbering) x)))
