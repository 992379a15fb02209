-- The value of an expression is that of its form.
use Rattle.std.proofs.Common.{◌≡◌, ℕ, pos, Bool, true, false, not, ◌&&◌, ◌||◌, nat_eq, List, [], ◌∷◌, map, Option, refl, sym, subst, ap, ◌∙◌}
use Rattle.std.specs.Prelude.{IfSome}
use Rattle.std.specs.List.{list_all, list_any}
use Rattle.std.proofs.lemmas.Bool.{and_parts, eq-eqb, false≢true}
use Rattle.mf_fraction.specs.Exact.{Number, whole}
use Rattle.mf_fraction.proofs.Reduced.{whole-proper}
use Rattle.mf_model.specs.declared.task.Expr.{Expr}
use Rattle.mf_model.specs.declared.task.Expr.TheOpen.{Expr-F}
use Rattle.mf_model.specs.declared.task.Expr.TheViews.{roll-Expr}
use Rattle.mf_model.specs.declared.task.Expr.TheFolds.{ind-Expr, fold-roll-Expr, map-Expr}
use Rattle.mf_model.specs.declared.task.Relation.{Relation}
use Rattle.mf_model.specs.Expressions.{reads, reads_step}
use Rattle.mf_model.specs.Functions.{is_constant, is_cost}
use Rattle.mf_model.specs.Linearity.{Degree, all_degrees, degree_of, degree_step, function_degree, is_linear, is_within, product_degree, sum_degree}
use Rattle.mf_model.specs.Meaning.{combined, compared, plus, product_of_all, sum_of_all, times, value_of, value_step}
use Rattle.mf_model.specs.ResolvedTask.{has_stored_numbers, stored_step}
use Rattle.mf_model.specs.Views.{Look, objects_of}
use Rattle.mf_task.specs.declared.form.Form.{Form}
use Rattle.mf_task.specs.GroundMeaning.{truth_at}
use Rattle.mf_task.specs.Grounding.{Numbering, compared_form, functions_in}
use Rattle.mf_task.specs.LinearForms.{combined_forms, form_of, form_step, function_form, joined_forms, optional_form_value, product_forms, sum_forms}
use Rattle.mf_task.specs.Rows.{Sight}
use Rattle.mf_bridge.specs.Readable.{IsReadable}
use Rattle.mf_bridge.specs.Shows.{Shows}
use Rattle.mf_bridge.proofs.Numbers.{compared-difference, stored_is_proper}
use Rattle.mf_bridge.proofs.Weights.{IsLowestForm}
use Rattle.mf_bridge.proofs.FormLaws.{Tells, product_degree-assoc, product_degree-constant, sum_degree-assoc, sum_degree-constant, tells_difference, tells_lowest, tells_negative, tells_number, tells_product, tells_quotient, tells_start, tells_sum, tells_term, within_product, within_quotient, within_sum, constant_within}

not_or : (a b : Bool) → not (a || b) ≡ true → (not a ≡ true) × (not b ≡ true)
not_or true b e = absurd (false≢true e)
not_or false b e = (refl, e)

-- a function that is none of those that are avoided
unread : (hidden : ℕ → Bool) (function : ℕ) → ((f : ℕ) → hidden f ≡ true → not (nat_eq f function) ≡ true) → hidden function ≡ false
unread hidden function avoided = seen (hidden function) refl
  where
    seen : (b : Bool) → hidden function ≡ b → b ≡ false
    seen false e = refl
    seen true e =
        let own : not (nat_eq function function) ≡ false = ap not (eq-eqb function function refl) in
        absurd (false≢true (sym own ∙ avoided function e))

module _ (numbering : Numbering) (look : Look) (sight : Sight) (shows : Shows numbering look sight) where
  abbrev constant : ℕ → Bool
  constant = is_constant numbering.task

  abbrev hidden : ℕ → Bool
  hidden = is_cost numbering.task

  abbrev Told : Degree → Option Form → Option Number → Type 0
  Told = Tells sight.value shows.sight_lowest

  abbrev Claim : Expr → Type 0
  Claim e = IsReadable numbering.task e → (b : List ℕ) → Told (degree_of constant e) (form_of (functions_in numbering) e b) (value_of look e b)

  abbrev Piece : Type 0
  Piece = (e : Expr) × Claim e

  -- what is true of the parts of an expression beside their degrees
  record AreReadable (es : List Expr) : Type 0 where
    numbers : list_all (λ part. part) (map has_stored_numbers es) ≡ true
    costless : (f : ℕ) → hidden f ≡ true → not (list_any (λ part. part) (map (reads (nat_eq f)) es)) ≡ true

  first_readable : (e : Expr) (es : List Expr) → AreReadable (e ∷ es) → is_linear constant e ≡ true → IsReadable numbering.task e
  first_readable e es r w = record {
    linear = w;
    numbers = (and_parts (has_stored_numbers e) (list_all (λ part. part) (map has_stored_numbers es)) r.numbers).0;
    costless = λ f h. (not_or (reads (nat_eq f) e) (list_any (λ part. part) (map (reads (nat_eq f)) es)) (r.costless f h)).0;
  }

  rest_readable : (e : Expr) (es : List Expr) → AreReadable (e ∷ es) → AreReadable es
  rest_readable e es r = record {
    numbers = (and_parts (has_stored_numbers e) (list_all (λ part. part) (map has_stored_numbers es)) r.numbers).1;
    costless = λ f h. (not_or (reads (nat_eq f) e) (list_any (λ part. part) (map (reads (nat_eq f)) es)) (r.costless f h)).1;
  }

  abbrev exprs : List Piece → List Expr
  exprs ps = map (λ p. p.0) ps

  abbrev degrees : List Piece → List Degree
  degrees ps = map (degree_of constant) (exprs ps)

  abbrev forms : List Piece → List ℕ → List (Option Form)
  forms ps b = map (λ part. part b) (map (form_of (functions_in numbering)) (exprs ps))

  abbrev numbers_of : List Piece → List ℕ → List (Option Number)
  numbers_of ps b = map (λ part. part b) (map (value_of look) (exprs ps))

  more_summands : (ps : List Piece) → AreReadable (exprs ps) → is_within (all_degrees sum_degree (degrees ps)) ≡ true → (b : List ℕ) (d : Degree) (f : Option Form) (x : Option Number) → Told d f x →
      Told (sum_degree d (all_degrees sum_degree (degrees ps))) (combined_forms sum_forms f (forms ps b)) (combined plus x (numbers_of ps b))
  more_summands [] readable w b d f x t = subst (λ z. Told z f x) (sym (sum_degree-constant d)) t
  more_summands (p ∷ ps) readable w b d f x t =
      let within = within_sum (degree_of constant p.0) (all_degrees sum_degree (degrees ps)) w in
      let one = p.1 (first_readable p.0 (exprs ps) readable within.0) b in
      let joined = tells_sum sight.value shows.sight_lowest d (degree_of constant p.0) f (form_of (functions_in numbering) p.0 b) x (value_of look p.0 b) t one in
      subst (λ z. Told z (combined_forms sum_forms (sum_forms f (form_of (functions_in numbering) p.0 b)) (forms ps b)) (combined plus (plus x (value_of look p.0 b)) (numbers_of ps b))) (sum_degree-assoc d (degree_of constant p.0) (all_degrees sum_degree (degrees ps)))
      (more_summands ps (rest_readable p.0 (exprs ps) readable) within.1 b (sum_degree d (degree_of constant p.0)) (sum_forms f (form_of (functions_in numbering) p.0 b)) (plus x (value_of look p.0 b)) joined)

  summands : (ps : List Piece) → AreReadable (exprs ps) → is_within (all_degrees sum_degree (degrees ps)) ≡ true → (b : List ℕ) →
      Told (all_degrees sum_degree (degrees ps)) (joined_forms (whole (pos 0)) sum_forms (forms ps b)) (sum_of_all (numbers_of ps b))
  summands [] readable w b = tells_number sight.value shows.sight_lowest (whole (pos 0)) (whole-proper (pos 0))
  summands (p ∷ ps) readable w b =
      let within = within_sum (degree_of constant p.0) (all_degrees sum_degree (degrees ps)) w in
      let one = p.1 (first_readable p.0 (exprs ps) readable within.0) b in
      more_summands ps (rest_readable p.0 (exprs ps) readable) within.1 b (degree_of constant p.0) (form_of (functions_in numbering) p.0 b) (value_of look p.0 b) one

  more_factors : (ps : List Piece) → AreReadable (exprs ps) → (b : List ℕ) (d : Degree) (f : Option Form) (x : Option Number) → is_within (product_degree d (all_degrees product_degree (degrees ps))) ≡ true → Told d f x →
      Told (product_degree d (all_degrees product_degree (degrees ps))) (combined_forms product_forms f (forms ps b)) (combined times x (numbers_of ps b))
  more_factors [] readable b d f x w t = subst (λ z. Told z f x) (sym (product_degree-constant d)) t
  more_factors (p ∷ ps) readable b d f x w t =
      let e = degree_of constant p.0 in
      let others = all_degrees product_degree (degrees ps) in
      let moved = ap is_within (product_degree-assoc d e others) ∙ w in
      let here = (within_product (product_degree d e) others moved).0 in
      let one = p.1 (first_readable p.0 (exprs ps) readable (within_product d e here).1) b in
      let joined = tells_product sight.value shows.sight_lowest d e here f (form_of (functions_in numbering) p.0 b) x (value_of look p.0 b) t one in
      subst (λ z. Told z (combined_forms product_forms (product_forms f (form_of (functions_in numbering) p.0 b)) (forms ps b)) (combined times (times x (value_of look p.0 b)) (numbers_of ps b))) (product_degree-assoc d e others)
      (more_factors ps (rest_readable p.0 (exprs ps) readable) b (product_degree d e) (product_forms f (form_of (functions_in numbering) p.0 b)) (times x (value_of look p.0 b)) moved joined)

  factors : (ps : List Piece) → AreReadable (exprs ps) → is_within (all_degrees product_degree (degrees ps)) ≡ true → (b : List ℕ) →
      Told (all_degrees product_degree (degrees ps)) (joined_forms (whole (pos 1)) product_forms (forms ps b)) (product_of_all (numbers_of ps b))
  factors [] readable w b = tells_number sight.value shows.sight_lowest (whole (pos 1)) (whole-proper (pos 1))
  factors (p ∷ ps) readable w b =
      let within = within_product (degree_of constant p.0) (all_degrees product_degree (degrees ps)) w in
      let one = p.1 (first_readable p.0 (exprs ps) readable within.0) b in
      more_factors ps (rest_readable p.0 (exprs ps) readable) b (degree_of constant p.0) (form_of (functions_in numbering) p.0 b) (value_of look p.0 b) w one

  function_tells : (function : ℕ) (objects : List ℕ) → hidden function ≡ false → (c : Bool) → constant function ≡ c → Told (function_degree c) (function_form (functions_in numbering) function objects) (look.value function objects)
  function_tells function objects h true e =
      rw e (tells_start sight.value shows.sight_lowest (look.value function objects) _ (shows.constant function objects e) (shows.look_lowest function objects))
  function_tells function objects h false e =
      rw e (tells_term sight.value shows.sight_lowest (look.value function objects) _ (shows.changing function objects e h))

  record Premise (x : Expr-F Expr) : Type 0 where
    linear : is_within (degree_step constant (map-Expr Expr Degree (degree_of constant) x)) ≡ true
    numbers : stored_step (map-Expr Expr Bool has_stored_numbers x) ≡ true
    costless : (f : ℕ) → hidden f ≡ true → not (reads_step (nat_eq f) (map-Expr Expr Bool (reads (nat_eq f)) x)) ≡ true

  Layer : Expr-F Expr → Type 0
  Layer x = Premise x → (b : List ℕ) → Told (degree_step constant (map-Expr Expr Degree (degree_of constant) x)) (form_step (functions_in numbering) (map-Expr Expr (List ℕ → Option Form) (form_of (functions_in numbering)) x) b) (value_step look (map-Expr Expr (List ℕ → Option Number) (value_of look) x) b)

  left_readable : (left right : Expr) → is_linear constant left ≡ true → (has_stored_numbers left && has_stored_numbers right) ≡ true → ((f : ℕ) → hidden f ≡ true → not (reads (nat_eq f) left || reads (nat_eq f) right) ≡ true) → IsReadable numbering.task left
  left_readable left right w s r = record {
    linear = w;
    numbers = (and_parts (has_stored_numbers left) (has_stored_numbers right) s).0;
    costless = λ f h. (not_or (reads (nat_eq f) left) (reads (nat_eq f) right) (r f h)).0;
  }

  right_readable : (left right : Expr) → is_linear constant right ≡ true → (has_stored_numbers left && has_stored_numbers right) ≡ true → ((f : ℕ) → hidden f ≡ true → not (reads (nat_eq f) left || reads (nat_eq f) right) ≡ true) → IsReadable numbering.task right
  right_readable left right w s r = record {
    linear = w;
    numbers = (and_parts (has_stored_numbers left) (has_stored_numbers right) s).1;
    costless = λ f h. (not_or (reads (nat_eq f) left) (reads (nat_eq f) right) (r f h)).1;
  }

  level : (y : Expr-F Piece) → Layer (map-Expr Piece Expr (λ p. p.0) y)
  unfolding Layer
  level (Expr-F.Number number) p b = tells_number sight.value shows.sight_lowest number (stored_is_proper number p.numbers)
  level (Expr-F.Function function terms) p b = function_tells function (objects_of b terms) (unread hidden function p.costless) (constant function) refl
  level (Expr-F.Sum parts) p b = summands parts (record { numbers = p.numbers; costless = p.costless }) p.linear b
  level (Expr-F.Difference left right) p b =
      let within = within_sum (degree_of constant left.0) (degree_of constant right.0) p.linear in
      tells_difference sight.value shows.sight_lowest (degree_of constant left.0) (degree_of constant right.0) _ _ _ _
      (left.1 (left_readable left.0 right.0 within.0 p.numbers p.costless) b) (right.1 (right_readable left.0 right.0 within.1 p.numbers p.costless) b)
  level (Expr-F.Negative part) p b =
      tells_negative sight.value shows.sight_lowest (degree_of constant part.0) _ _ (part.1 (record { linear = p.linear; numbers = p.numbers; costless = p.costless }) b)
  level (Expr-F.Product parts) p b = factors parts (record { numbers = p.numbers; costless = p.costless }) p.linear b
  level (Expr-F.Quotient left right) p b =
      let within = within_quotient (degree_of constant left.0) (degree_of constant right.0) p.linear in
      tells_quotient sight.value shows.sight_lowest (degree_of constant left.0) (degree_of constant right.0) p.linear _ _ _ _
      (left.1 (left_readable left.0 right.0 within.0 p.numbers p.costless) b) (right.1 (right_readable left.0 right.0 (constant_within (degree_of constant right.0) within.1) p.numbers p.costless) b)
  level Expr-F.TotalTime p b = absurd (false≢true p.linear)

  premise_at : (x : Expr-F Expr) (e : Expr) → degree_of constant e ≡ degree_step constant (map-Expr Expr Degree (degree_of constant) x) → has_stored_numbers e ≡ stored_step (map-Expr Expr Bool has_stored_numbers x) →
      ((f : ℕ) → reads (nat_eq f) e ≡ reads_step (nat_eq f) (map-Expr Expr Bool (reads (nat_eq f)) x)) → IsReadable numbering.task e → Premise x
  premise_at x e d s r readable = record {
    linear = ap is_within (sym d) ∙ readable.linear;
    numbers = sym s ∙ readable.numbers;
    costless = λ f h. ap not (sym (r f)) ∙ readable.costless f h;
  }

  told_along : (d e : Degree) (f g : Option Form) (x y : Option Number) → d ≡ e → f ≡ g → x ≡ y → Told e g y → Told d f x
  told_along d e f g x y p q r told = subst (λ z. Told z f x) (sym p) (subst (λ z. Told e z x) (sym q) (subst (λ z. Told e g z) (sym r) told))

  pub expression_tells : (e : Expr) → Claim e
  unfolding Layer
  expression_tells = ind-Expr Claim (λ x y is readable b.
      let d = fold-roll-Expr Degree (degree_step constant) x in
      let s = fold-roll-Expr Bool stored_step x in
      let f = ap (λ (form : List ℕ → Option Form). form b) (fold-roll-Expr (List ℕ → Option Form) (form_step (functions_in numbering)) x) in
      let v = ap (λ (value : List ℕ → Option Number). value b) (fold-roll-Expr (List ℕ → Option Number) (value_step look) x) in
      let at_layer = subst (λ z. Layer z) is (level y) (premise_at x (roll-Expr x) d s (λ g. fold-roll-Expr Bool (reads_step (nat_eq g)) x) readable) b in
      told_along _ _ _ _ _ _ d f v at_layer)

  pub value_is_form_value : (e : Expr) (b : List ℕ) → IsReadable numbering.task e → value_of look e b ≡ optional_form_value sight.value (form_of (functions_in numbering) e b)
  value_is_form_value e b readable = (expression_tells e readable b).is

  pub comparison_is_sign : (r : Relation) (left right : Expr) (b : List ℕ) → IsReadable numbering.task left → IsReadable numbering.task right →
      compared r (value_of look left b) (value_of look right b) ≡ truth_at r (optional_form_value sight.value (compared_form (functions_in numbering) left right b))
  comparison_is_sign r left right b p q =
      let at_left = expression_tells left p b in
      let at_right = expression_tells right q b in
      let both = tells_difference sight.value shows.sight_lowest (degree_of constant left) (degree_of constant right) _ _ _ _ at_left at_right in
      compared-difference r (value_of look left b) (value_of look right b) (tells_lowest sight.value shows.sight_lowest _ _ _ at_left) (tells_lowest sight.value shows.sight_lowest _ _ _ at_right) ∙ ap (truth_at r) both.is

  pub compared_form_lowest : (left right : Expr) (b : List ℕ) → IsReadable numbering.task left → IsReadable numbering.task right → IfSome (compared_form (functions_in numbering) left right b) IsLowestForm
  compared_form_lowest left right b p q =
      let at_left = expression_tells left p b in
      let at_right = expression_tells right q b in
      (tells_difference sight.value shows.sight_lowest (degree_of constant left) (degree_of constant right) _ _ _ _ at_left at_right).low
