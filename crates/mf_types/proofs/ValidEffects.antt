-- Effects that are read are valid.
use Rattle.std.proofs.Common.{◌≡◌, ℕ, ◌<◌, Bool, true, false, Option, List, map, length, slice_get, subst, sym, ap, ◌∙◌}
use Rattle.mf_model.proofs.Choices.{and_true}
use Rattle.mf_model.specs.declared.form.RawEffect.{RawEffect}
use Rattle.mf_model.specs.declared.form.RawEffect.TheOpen.{RawEffect-F}
use Rattle.mf_model.specs.declared.form.RawEffect.TheFolds.{ind-RawEffect, fold-roll-RawEffect, map-RawEffect}
use Rattle.mf_model.specs.declared.task.Cond.{Cond}
use Rattle.mf_model.specs.declared.task.Effect.{Effect}
use Rattle.mf_model.specs.declared.task.Effect.TheVariants as e
use Rattle.mf_model.specs.declared.task.Effect.TheOpen.{Effect-F}
use Rattle.mf_model.specs.declared.task.Effect.TheViews.{roll-Effect}
use Rattle.mf_model.specs.declared.task.Effect.TheFolds.{fold-roll-Effect, map-Effect}
use Rattle.mf_model.specs.Options.{all_some}
use Rattle.mf_model.specs.Plain.{all_true}
use Rattle.mf_model.specs.Resolution.{takes}
use Rattle.mf_types.specs.Names.{Declared}
use Rattle.mf_types.specs.Typing.{Binders, within, types_in, function_of, terms_of, expr_of, cond_of, effect_step, effect_of}
use Rattle.mf_model.specs.ValidTasks as valid
use Rattle.mf_model.specs.ValidTasks.{Counts, is_valid_term, is_valid_use, is_valid_expr, is_valid_cond, is_valid_effect}
use Rattle.mf_types.specs.Written as written
use Rattle.mf_types.specs.Written.{is_written_cond, is_written_effect}
use Rattle.mf_types.proofs.Given.{IfGiven, Read, then_given, made_given, both_given, parts_given, all_at, first_true, second_true}
use Rattle.mf_types.proofs.ValidTerms.{counted, AreEven, terms_valid, symbol_valid, use_valid}
use Rattle.mf_types.proofs.ValidExpressions.{expr_valid}
use Rattle.mf_types.proofs.ValidConditions.{IsInside, within_valid, quantifier_valid, atom_valid, cond_valid}

rolled : (counts : Counts) (variables : ℕ) (whole : Effect) (y : Effect-F Effect) → roll-Effect y ≡ whole → is_valid_effect counts whole variables ≡ valid.effect_step counts (map-Effect Effect (ℕ → Bool) (is_valid_effect counts) y) variables
rolled counts variables whole y h = ap (λ (a : Effect). is_valid_effect counts a variables) (sym h) ∙ ap (λ (f : ℕ → Bool). f variables) (fold-roll-Effect (ℕ → Bool) (valid.effect_step counts) y)

module _ (declared : Declared) (even : AreEven declared) (some : 0 < length declared.types) where
  abbrev Valid : ℕ → Effect → Type 0
  Valid variables a = is_valid_effect (counted declared) a variables ≡ true

  abbrev Claim : RawEffect → Type 0
  Claim a = (binders : Binders) → is_written_effect a ≡ true → IfGiven (Valid (length binders)) (effect_of declared a binders)

  abbrev Piece : Type 0
  Piece = (a : RawEffect) × Claim a

  abbrev raw_of : Piece → RawEffect
  raw_of p = p.0

  parts_valid : (ps : List Piece) (binders : Binders) → all_true (map is_written_effect (map raw_of ps)) ≡ true → IfGiven (Read (λ a. is_valid_effect (counted declared) a (length binders)) ps) (all_some (map (λ part. part binders) (map (effect_of declared) (map raw_of ps))))
  parts_valid ps binders h = parts_given (λ a. is_valid_effect (counted declared) a (length binders)) is_written_effect (effect_of declared) raw_of binders (λ p w. p.1 binders w) ps h

  Layer : RawEffect-F RawEffect → Type 0
  Layer y = (binders : Binders) → written.effect_step (map-RawEffect RawEffect Bool is_written_effect y) ≡ true → IfGiven (Valid (length binders)) (effect_step declared (map-RawEffect RawEffect (Binders → Option Effect) (effect_of declared) y) binders)

  level : (y : RawEffect-F Piece) → Layer (map-RawEffect Piece RawEffect raw_of y)
  unfolding Layer
  level (RawEffect-F.Add predicate terms span) binders h =
      atom_valid declared even some (Valid (length binders)) e.Add binders predicate terms (λ n ts k. rolled (counted declared) (length binders) (e.Add n ts) (Effect-F.Add n ts) (e.rolls-Add n ts) ∙ k)
  level (RawEffect-F.Delete predicate terms span) binders h =
      atom_valid declared even some (Valid (length binders)) e.Delete binders predicate terms (λ n ts k. rolled (counted declared) (length binders) (e.Delete n ts) (Effect-F.Delete n ts) (e.rolls-Delete n ts) ∙ k)
  level (RawEffect-F.Change op function terms value span) binders h =
      let counts = counted declared in
      then_given (λ n. takes (slice_get counts.functions n) (length terms) ≡ true) (Valid (length binders)) (function_of declared function.text (length terms)) _
      (symbol_valid declared.functions declared.function_types function.text (length terms) even.functions) (λ n count.
      then_given (Read (is_valid_term counts (length binders)) terms) (Valid (length binders)) (terms_of declared binders terms) _ (terms_valid declared binders terms) (λ ts read.
      made_given (λ a. is_valid_expr counts false (length binders) a ≡ true) (Valid (length binders)) (λ a. e.Change op n ts a) (expr_of declared value binders) (expr_valid declared even false value binders h) (λ a k.
      rolled counts (length binders) (e.Change op n ts a) (Effect-F.Change op n ts a) (e.rolls-Change op n ts a)
      ∙ and_true (is_valid_use counts.functions counts (length binders) n ts) (is_valid_expr counts false (length binders) a) (use_valid counts.functions counts (length binders) n terms ts count read) k)))
  level (RawEffect-F.Group parts span) binders h =
      made_given (Read (λ a. is_valid_effect (counted declared) a (length binders)) parts) (Valid (length binders)) e.Group _ (parts_valid parts binders h) (λ es read.
      rolled (counted declared) (length binders) (e.Group es) (Effect-F.Group es) (e.rolls-Group es) ∙ all_at (is_valid_effect (counted declared)) (length binders) es ∙ read.passes)
  level (RawEffect-F.Each variables part span) binders h =
      made_given (λ a. IsInside binders variables (is_valid_effect (counted declared) a)) (Valid (length binders)) (λ a. e.Each (types_in declared variables) a) (within variables (effect_of declared part.0) binders)
      (within_valid (is_valid_effect (counted declared)) variables (effect_of declared part.0) binders (λ inner. part.1 inner h)) (λ a here.
      rolled (counted declared) (length binders) (e.Each (types_in declared variables) a) (Effect-F.Each (types_in declared variables) a) (e.rolls-Each (types_in declared variables) a)
      ∙ quantifier_valid declared some binders variables (is_valid_effect (counted declared) a) here)
  level (RawEffect-F.When condition part span) binders h =
      let test : Cond → Bool = λ a. is_valid_cond (counted declared) a (length binders) in
      let part_test : Effect → Bool = λ a. is_valid_effect (counted declared) a (length binders) in
      both_given (λ a. test a ≡ true) (Valid (length binders)) (Valid (length binders)) e.When (cond_of declared condition binders) (effect_of declared part.0 binders)
      (cond_valid declared even some condition binders (first_true (is_written_cond condition) (is_written_effect part.0) h))
      (part.1 binders (second_true (is_written_cond condition) (is_written_effect part.0) h)) (λ a b k l.
      rolled (counted declared) (length binders) (e.When a b) (Effect-F.When a b) (e.rolls-When a b) ∙ and_true (test a) (part_test b) k l)

  pub effect_valid : (a : RawEffect) → Claim a
  unfolding Layer
  effect_valid = ind-RawEffect Claim (λ y z is binders h.
      let at_layer = subst (λ v. Layer v) is (level z) binders in
      let by_form = fold-roll-RawEffect Bool written.effect_step y in
      let by_reading = ap (λ (f : Binders → Option Effect). f binders) (fold-roll-RawEffect (Binders → Option Effect) (effect_step declared) y) in
      subst (λ o. IfGiven (Valid (length binders)) o) (sym by_reading) (at_layer (sym by_form ∙ h)))
