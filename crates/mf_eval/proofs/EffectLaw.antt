-- The changes that are collected are those of the firing effects, or `Wide` exactly where a condition or a right side is too wide.
use Rattle.std.proofs.Common.{◌≡◌, ℕ, Bool, true, false, ◌||◌, ◌&&◌, if◌then◌else◌, List, [], ◌∷◌, ◌++◌, map, Option, Result, Ok, refl, subst, sym, ap, ◌∙◌}
use Rattle.std.proofs.Math.Bool.{or-false}
use Rattle.std.specs.List.{list_any, flat_map}
use Rattle.std.proofs.lemmas.List.{append_assoc, append-nil}
use Rattle.std.proofs.lemmas.List.Concat.{flat_map-append}
use Rattle.mf_fraction.specs.Exact.{Number}
use Rattle.mf_fraction.specs.declared.faults.Wide.{Wide}
use Rattle.mf_model.specs.declared.task.Effect.{Effect}
use Rattle.mf_model.specs.declared.task.Effect.TheOpen.{Effect-F}
use Rattle.mf_model.specs.declared.task.Effect.TheFolds.{ind-Effect, fold-roll-Effect, map-Effect}
use Rattle.mf_model.specs.declared.task.Effect.TheViews.{roll-Effect}
use Rattle.mf_model.specs.Application.{Change, Changed, firing_of, firing_step}
use Rattle.mf_model.specs.Meaning.{holds_in, value_of}
use Rattle.mf_model.specs.Objects.{bindings, having}
use Rattle.mf_model.specs.Views.{Look, objects_of}
use Rattle.mf_eval.specs.Answers.{answered, ◌>>=◌}
use Rattle.mf_eval.specs.Fired.{Firing, fired, fired_each, fired_step, threaded}
use Rattle.mf_eval.specs.Width.{effect_step, is_condition_wide, is_effect_wide, is_wide}
use Rattle.mf_eval.proofs.ConditionLaw.{met-is}
use Rattle.mf_eval.proofs.ExpressionLaw.{kept_value-is}
use Rattle.mf_eval.proofs.Parts.{fused, fused_any, fused_flat}
use Rattle.mf_eval.proofs.Truths.{list_any-flat_map, then_one}

flat_map-flat_map : {X Y A : Type 0} (v : Y → List A) (g : X → List Y) (xs : List X) → flat_map (λ x. flat_map v (g x)) xs ≡ flat_map v (flat_map g xs)
flat_map-flat_map v g [] = refl
flat_map-flat_map v g (x ∷ xs) = ap (λ l. flat_map v (g x) ++ l) (flat_map-flat_map v g xs) ∙ sym (flat_map-append v (g x) (flat_map g xs))

module _ {X : Type 0} (r : X → Firing) (w : X → Bool) (v : X → List Change) (is : (x : X) (front : List Change) → r x front ≡ answered (w x) (front ++ v x)) where
  turn : (x : X) (b : Bool) (front : List Change) (xs : List X) → ((next : List Change) → threaded (map r xs) next ≡ answered (list_any w xs) (next ++ flat_map v xs)) → (answered b (front ++ v x) >>= λ next. threaded (map r xs) next) ≡ answered (b || list_any w xs) (front ++ (v x ++ flat_map v xs))
  turn x true front xs rest = refl
  turn x false front xs rest = rest (front ++ v x) ∙ ap (λ (l : List Change). answered (list_any w xs) l) (append_assoc front (v x) (flat_map v xs))

  pub threaded-is : (front : List Change) (xs : List X) → threaded (map r xs) front ≡ answered (list_any w xs) (front ++ flat_map v xs)
  threaded-is front [] = ap Ok (sym (append-nil front))
  threaded-is front (x ∷ xs) =
      ap (λ (q : Result (List Change) Wide). q >>= λ next. threaded (map r xs) next) (is x front) ∙ turn x (w x) front xs (λ next. threaded-is next xs)

module _ (objects : List (List ℕ)) (r : List ℕ → Firing) (w : List ℕ → Bool) (v : List ℕ → List Change) (is : (b : List ℕ) (front : List Change) → r b front ≡ answered (w b) (front ++ v b)) where
  pub fired_each-is : (variables : List (List ℕ)) (b : List ℕ) (front : List Change) → fired_each objects r variables b front ≡ answered (list_any w (bindings objects variables b)) (front ++ flat_map v (bindings objects variables b))
  fired_each-is [] b front =
      is b front ∙ ap (λ (x : Bool). answered x (front ++ v b)) (sym (or-false (w b))) ∙ ap (λ (l : List Change). answered (w b || false) (front ++ l)) (sym (append-nil (v b)))
  fired_each-is (types ∷ others) b front =
      let g = λ (o : ℕ). bindings objects others (b ++ o ∷ []) in
      let numbers = having types 0 objects in
      threaded-is (λ (o : ℕ). fired_each objects r others (b ++ o ∷ [])) (λ (o : ℕ). list_any w (g o)) (λ (o : ℕ). flat_map v (g o)) (λ o next. fired_each-is others (b ++ o ∷ []) next) front numbers
      ∙ ap (λ (x : Bool). answered x (front ++ flat_map (λ (o : ℕ). flat_map v (g o)) numbers)) (list_any-flat_map w g numbers)
      ∙ ap (λ (l : List Change). answered (list_any w (flat_map g numbers)) (front ++ l)) (flat_map-flat_map v g numbers)

abbrev pub Claim : List (List ℕ) → Look → Effect → Type 0
Claim objects look e = (b : List ℕ) (front : List Change) → fired objects look e b front ≡ answered (is_effect_wide objects look e b) (front ++ firing_of objects look e b)

abbrev Piece : List (List ℕ) → Look → Type 0
Piece objects look = (e : Effect) × Claim objects look e

when_where : (w h x : Bool) (part : Result (List Change) Wide) (front fs : List Change) → part ≡ answered x (front ++ fs) → (answered w h >>= λ holds. if holds then part else Ok front) ≡ answered (w || (h && x)) (front ++ (if h then fs else []))
when_where true h x part front fs e = refl
when_where false true x part front fs e = e
when_where false false x part front fs e = ap Ok (sym (append-nil front))

module _ (objects : List (List ℕ)) (look : Look) where
  group_is : (ps : List (Piece objects look)) (b : List ℕ) (front : List Change) → threaded (map (λ part. part b) (map (fired objects look) (map (λ p. p.0) ps))) front ≡ answered (list_any (λ part. part b) (map (is_effect_wide objects look) (map (λ p. p.0) ps))) (front ++ flat_map (λ part. part b) (map (firing_of objects look) (map (λ p. p.0) ps)))
  group_is ps b front =
      let first : Piece objects look → Effect = λ p. p.0 in
      ap (λ (l : List Firing). threaded l front) (fused first (fired objects look) b ps)
      ∙ threaded-is (λ (p : Piece objects look). fired objects look p.0 b) (λ (p : Piece objects look). is_effect_wide objects look p.0 b) (λ (p : Piece objects look). firing_of objects look p.0 b) (λ p next. p.1 b next) front ps
      ∙ ap (λ (x : Bool). answered x (front ++ flat_map (λ (p : Piece objects look). firing_of objects look p.0 b) ps)) (sym (fused_any first (is_effect_wide objects look) b ps))
      ∙ ap (λ (l : List Change). answered (list_any (λ part. part b) (map (is_effect_wide objects look) (map first ps))) (front ++ l)) (sym (fused_flat first (firing_of objects look) b ps))

  Layer : Effect-F Effect → Type 0
  Layer x = (b : List ℕ) (front : List Change) → fired_step objects look (map-Effect Effect (List ℕ → Firing) (fired objects look) x) b front ≡ answered (effect_step objects look (map-Effect Effect (List ℕ → Bool) (is_effect_wide objects look) x) b) (front ++ firing_step objects look (map-Effect Effect (List ℕ → List Change) (firing_of objects look) x) b)

  level : (y : Effect-F (Piece objects look)) → Layer (map-Effect (Piece objects look) Effect (λ p. p.0) y)
  unfolding Layer
  level (Effect-F.Add predicate terms) b front = refl
  level (Effect-F.Delete predicate terms) b front = refl
  level (Effect-F.Change op function terms value) b front =
      ap (λ (q : Result (Option Number) Wide). q >>= λ x. Ok (front ++ Changed op function (objects_of b terms) x ∷ [])) (kept_value-is look value b)
      ∙ then_one (λ x. front ++ Changed op function (objects_of b terms) x ∷ []) (is_wide look value b) (value_of look value b)
  level (Effect-F.Group parts) b front = group_is parts b front
  level (Effect-F.Each variables part) b front =
      fired_each-is objects (fired objects look part.0) (is_effect_wide objects look part.0) (firing_of objects look part.0) part.1 variables b front
  level (Effect-F.When condition part) b front =
      ap (λ (q : Result Bool Wide). q >>= λ holds. if holds then fired objects look part.0 b front else Ok front) (met-is objects look condition b)
      ∙ when_where (is_condition_wide objects look condition b) (holds_in objects look condition b) (is_effect_wide objects look part.0 b) (fired objects look part.0 b front) front (firing_of objects look part.0 b) (part.1 b front)

  pub fired-is : (e : Effect) → Claim objects look e
  unfolding Layer
  fired-is = ind-Effect (Claim objects look) (λ x y is b front.
      let at_layer = subst (λ z. Layer z) is (level y) b front in
      ap (λ (f : List ℕ → Firing). f b front) (fold-roll-Effect (List ℕ → Firing) (fired_step objects look) x)
      ∙ at_layer
      ∙ sym (ap (λ (f : List ℕ → Bool). answered (f b) (front ++ firing_of objects look (roll-Effect x) b)) (fold-roll-Effect (List ℕ → Bool) (effect_step objects look) x)
      ∙ ap (λ (f : List ℕ → List Change). answered (effect_step objects look (map-Effect Effect (List ℕ → Bool) (is_effect_wide objects look) x) b) (front ++ f b)) (fold-roll-Effect (List ℕ → List Change) (firing_step objects look) x)))
