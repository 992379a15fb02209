-- A function is changed by its number exactly where it is by its name.
use Rattle.std.proofs.Common.{◌≡◌, ℕ, Bool, true, false, ◌||◌, not, nat_eq, if◌then◌else◌, slice_index_or, Option, Some, None, List, [], ◌∷◌, ◌++◌, map, length, get_or, refl, subst, sym, ap, ◌∙◌, arith}
use Rattle.std.specs.List.{list_any, flat_map}
use Rattle.std.specs.Str.{bytes_eq}
use Rattle.std.proofs.lemmas.Bool.Decides.{nat_tests}
use Rattle.std.proofs.lemmas.List.Folds.{list_any-append}
use Rattle.std.proofs.lemmas.List.Quantifiers.{position-Some}
use Rattle.std.proofs.lemmas.Option.{same_Some}
use Rattle.std.proofs.lemmas.Slice.Eq.{bytes_eq-Decides}
use Rattle.mf_model.proofs.Choices.{same_text}
use Rattle.mf_model.specs.declared.form.Word.{Word}
use Rattle.mf_model.specs.declared.form.RawAction.{RawAction}
use Rattle.mf_model.specs.declared.form.RawEffect.{RawEffect}
use Rattle.mf_model.specs.declared.form.RawEffect.TheOpen.{RawEffect-F}
use Rattle.mf_model.specs.declared.form.RawEffect.TheViews.{roll-RawEffect}
use Rattle.mf_model.specs.declared.form.RawEffect.TheFolds.{ind-RawEffect, fold-roll-RawEffect, map-RawEffect}
use Rattle.mf_model.specs.declared.form.RawExpr.{RawExpr}
use Rattle.mf_model.specs.declared.task.Action.{Action}
use Rattle.mf_model.specs.declared.task.Op.{Op}
use Rattle.mf_model.specs.declared.task.Term.{Term}
use Rattle.mf_model.specs.declared.task.Effect.{Effect}
use Rattle.mf_model.specs.declared.task.Effect.TheVariants as e
use Rattle.mf_model.specs.declared.task.Effect.TheOpen.{Effect-F}
use Rattle.mf_model.specs.declared.task.Effect.TheViews.{roll-Effect}
use Rattle.mf_model.specs.declared.task.Effect.TheFolds.{fold-roll-Effect, map-Effect}
use Rattle.mf_model.specs.Functions.{changes_step, changes}
use Rattle.mf_model.specs.Options.{◌>>=◌, each, all_some}
use Rattle.mf_model.specs.Resolution.{number_of}
use Rattle.mf_types.specs.Names.{Declared, is_member, firsts, changed_step, changed_by, changed_in}
use Rattle.mf_types.specs.Tables.{entered}
use Rattle.mf_types.specs.Tasks.{action_of}
use Rattle.mf_types.specs.Typing.{Binders, inside, within, types_in, predicate_of, function_of, symbol_of, terms_of, expr_of, cond_of, literal, change, effect_step, effect_of}
use Rattle.mf_types.proofs.Firsts.{any-push, entered-empty}
use Rattle.mf_types.proofs.Given.{IfGiven, given_weaker, anything, then_given, made_given, both_given}

-- names and numbers

pub numbered : (names : List (List ℕ)) (types : List (List (List ℕ))) (name : List ℕ) (count : ℕ) → IfGiven (λ n. number_of names name ≡ Some n) (symbol_of names types name count)
unfolding symbol_of
numbered names types name count = found (number_of names name) (λ n. nat_eq (length (slice_index_or types n [])) count)
  where
    chosen : (o : Option ℕ) (n : ℕ) (b : Bool) → o ≡ Some n → IfGiven (λ k. o ≡ Some k) (if b then Some n else None)
    chosen o n true e = e
    chosen o n false e = tt

    found : (o : Option ℕ) (test : ℕ → Bool) → IfGiven (λ n. o ≡ Some n) (o >>= (λ n. if test n then Some n else None))
    found None test = tt
    found (Some n) test = chosen (Some n) n (test n) refl

same_name : (names : List (List ℕ)) (name other : List ℕ) (n : ℕ) → number_of names name ≡ Some n → number_of names other ≡ Some n → name ≡ other
same_name names name other n e h =
    let one = same_text (get_or names n []) name ((position-Some (λ own. bytes_eq own name) names n [] e).1) in
    let two = same_text (get_or names n []) other ((position-Some (λ own. bytes_eq own other) names n [] h).1) in
    sym one ∙ two

same_number : (names : List (List ℕ)) (name other : List ℕ) (n m : ℕ) → number_of names name ≡ Some n → number_of names other ≡ Some m → other ≡ name → n ≡ m
same_number names name other n m e h same = same_Some n m (sym e ∙ ap (number_of names) (sym same) ∙ h)

equal_tests : (a b : Bool) → (a ≡ true → b ≡ true) → (b ≡ true → a ≡ true) → a ≡ b
equal_tests true b h k = sym (h refl)
equal_tests false true h k = k refl
equal_tests false false h k = refl

nat_same : (n m : ℕ) → nat_eq n m ≡ true → n ≡ m
nat_same n m h = grind (arith, nat_tests)

same_nat : (n m : ℕ) → n ≡ m → nat_eq n m ≡ true
same_nat n m h = grind (arith, nat_tests)

or_false : (b : Bool) → (b || false) ≡ b
or_false true = refl
or_false false = refl

-- the numbers are the same exactly where the names are
tests_agree : (names : List (List ℕ)) (name other : List ℕ) (n m : ℕ) → number_of names name ≡ Some n → number_of names other ≡ Some m → nat_eq n m ≡ bytes_eq other name
tests_agree names name other n m e h =
    equal_tests (nat_eq n m) (bytes_eq other name)
    (λ same. (bytes_eq-Decides other name).1 (sym (same_name names name other n e (h ∙ ap Some (sym (nat_same n m same))))))
    (λ same. same_nat n m (same_number names name other n m e h (same_text other name same)))

-- effects

rolled : (n : ℕ) (whole : Effect) (y : Effect-F Effect) → roll-Effect y ≡ whole → changes n whole ≡ changes_step n (map-Effect Effect Bool (changes n) y)
rolled n whole y is = ap (changes n) (sym is) ∙ fold-roll-Effect Bool (changes_step n) y

module _ (declared : Declared) (name : List ℕ) (n : ℕ) (number : number_of declared.functions name ≡ Some n) where
  abbrev Alike : RawEffect → Effect → Type 0
  Alike raw a = changes n a ≡ is_member (changed_by raw) name

  abbrev Claim : RawEffect → Type 0
  Claim raw = (binders : Binders) → IfGiven (Alike raw) (effect_of declared raw binders)

  abbrev Piece : Type 0
  Piece = (raw : RawEffect) × Claim raw

  abbrev raw_of : Piece → RawEffect
  raw_of p = p.0

  abbrev NotChanged : Effect → Type 0
  NotChanged a = changes n a ≡ false

  literal_alike : (make : ℕ → List Term → Effect) → ((k : ℕ) (ts : List Term) → changes n (make k ts) ≡ false) → (predicate : Word) (ws : List Word) (binders : Binders) → IfGiven NotChanged (literal declared make predicate ws binders)
  literal_alike make none predicate ws binders =
      then_given (λ _. Unit {0}) NotChanged (predicate_of declared predicate.text (length ws)) _ (anything (predicate_of declared predicate.text (length ws))) (λ k _.
      made_given (λ _. Unit {0}) NotChanged (λ ts. make k ts) (terms_of declared binders ws) (anything (terms_of declared binders ws)) (λ ts _. none k ts))

  change_alike : (op : Op) (function : Word) (ws : List Word) (value : RawExpr) (binders : Binders) → IfGiven (λ a. changes n a ≡ is_member (function.text ∷ []) name) (change declared op function ws value binders)
  change_alike op function ws value binders =
      let P : Effect → Type 0 = λ a. changes n a ≡ is_member (function.text ∷ []) name in
      then_given (λ m. number_of declared.functions function.text ≡ Some m) P (function_of declared function.text (length ws)) _ (numbered declared.functions declared.function_types function.text (length ws)) (λ m is.
      then_given (λ _. Unit {0}) P (terms_of declared binders ws) _ (anything (terms_of declared binders ws)) (λ ts _.
      made_given (λ _. Unit {0}) P (λ a. e.Change op m ts a) (expr_of declared value binders) (anything (expr_of declared value binders)) (λ a _.
      rolled n (e.Change op m ts a) (Effect-F.Change op m ts a) (e.rolls-Change op m ts a)
      ∙ (tests_agree declared.functions name function.text n m number is ∙ sym (or_false (bytes_eq function.text name))))))

  parts_alike : (ps : List Piece) (binders : Binders) → IfGiven (λ found. list_any (λ part. part) (map (changes n) found) ≡ is_member (flat_map (λ names. names) (map changed_by (map raw_of ps))) name) (all_some (map (λ part. part binders) (map (effect_of declared) (map raw_of ps))))
  parts_alike [] binders = refl
  parts_alike (p ∷ ps) binders =
      let rest : List (List ℕ) = flat_map (λ names. names) (map changed_by (map raw_of ps)) in
      let One : List Effect → Type 0 = λ found. list_any (λ part. part) (map (changes n) found) ≡ is_member rest name in
      let Whole : List Effect → Type 0 = λ found. list_any (λ part. part) (map (changes n) found) ≡ is_member (changed_by p.0 ++ rest) name in
      then_given (Alike p.0) Whole (effect_of declared p.0 binders) _ (p.1 binders) (λ a here.
      made_given One Whole (λ found. a ∷ found) _ (parts_alike ps binders) (λ found others.
      ap (λ (b : Bool). b || list_any (λ part. part) (map (changes n) found)) here
      ∙ (ap (λ (b : Bool). is_member (changed_by p.0) name || b) others ∙ sym (list_any-append (λ own. bytes_eq own name) (changed_by p.0) rest))))

  Layer : RawEffect-F RawEffect → Type 0
  Layer y = (binders : Binders) → IfGiven (λ a. changes n a ≡ is_member (changed_step (map-RawEffect RawEffect (List (List ℕ)) changed_by y)) name) (effect_step declared (map-RawEffect RawEffect (Binders → Option Effect) (effect_of declared) y) binders)

  level : (y : RawEffect-F Piece) → Layer (map-RawEffect Piece RawEffect raw_of y)
  unfolding Layer
  level (RawEffect-F.Add predicate terms span) binders =
      literal_alike e.Add (λ k ts. rolled n (e.Add k ts) (Effect-F.Add k ts) (e.rolls-Add k ts)) predicate terms binders
  level (RawEffect-F.Delete predicate terms span) binders =
      literal_alike e.Delete (λ k ts. rolled n (e.Delete k ts) (Effect-F.Delete k ts) (e.rolls-Delete k ts)) predicate terms binders
  level (RawEffect-F.Change op function terms value span) binders = change_alike op function terms value binders
  level (RawEffect-F.Group parts span) binders =
      let all : List (List ℕ) = flat_map (λ names. names) (map changed_by (map raw_of parts)) in
      made_given (λ found. list_any (λ part. part) (map (changes n) found) ≡ is_member all name) (λ a. changes n a ≡ is_member all name) e.Group _ (parts_alike parts binders) (λ found h.
      rolled n (e.Group found) (Effect-F.Group found) (e.rolls-Group found) ∙ h)
  level (RawEffect-F.Each variables part span) binders =
      let types = types_in declared variables in
      made_given (Alike part.0) (Alike part.0) (λ a. e.Each types a) (within variables (effect_of declared part.0) binders)
      (then_given (λ _. Unit {0}) (Alike part.0) (inside binders variables) (effect_of declared part.0) (anything (inside binders variables)) (λ inner _. part.1 inner)) (λ a h.
      rolled n (e.Each types a) (Effect-F.Each types a) (e.rolls-Each types a) ∙ h)
  level (RawEffect-F.When condition part span) binders =
      both_given (λ _. Unit {0}) (Alike part.0) (Alike part.0) e.When (cond_of declared condition binders) (effect_of declared part.0 binders) (anything (cond_of declared condition binders)) (part.1 binders) (λ a b _ h.
      rolled n (e.When a b) (Effect-F.When a b) (e.rolls-When a b) ∙ h)

  effect_alike : (raw : RawEffect) → Claim raw
  unfolding Layer
  effect_alike = ind-RawEffect Claim (λ y z is binders.
      let at_layer = subst (λ v. Layer v) is (level z) binders in
      let by_names = ap (λ (names : List (List ℕ)). is_member names name) (fold-roll-RawEffect (List (List ℕ)) changed_step y) in
      let by_reading = ap (λ (f : Binders → Option Effect). f binders) (fold-roll-RawEffect (Binders → Option Effect) (effect_step declared) y) in
      subst (λ o. IfGiven (λ a. changes n a ≡ is_member (changed_by (roll-RawEffect y)) name) o) (sym by_reading)
      (subst (λ (b : Bool). IfGiven (λ a. changes n a ≡ b) (effect_step declared (map-RawEffect RawEffect (Binders → Option Effect) (effect_of declared) y) binders)) (sym by_names) at_layer))

  -- actions

  action_alike : (raw : RawAction) → IfGiven (λ action. changes n action.effect ≡ is_member (changed_by raw.effect) name) (action_of declared raw)
  unfolding action_of
  action_alike raw =
      let types = types_in declared raw.parameters in
      let P : Action → Type 0 = λ action. changes n action.effect ≡ is_member (changed_by raw.effect) name in
      then_given (λ _. Unit {0}) P (inside [] raw.parameters) _ (anything (inside [] raw.parameters)) (λ binders _.
      then_given (λ _. Unit {0}) P (cond_of declared raw.condition binders) _ (anything (cond_of declared raw.condition binders)) (λ condition _.
      made_given (Alike raw.effect) P (λ effect. record { name = raw.word.text; parameters = types; condition = condition; effect = effect }) (effect_of declared raw.effect binders)
      (effect_alike raw.effect binders) (λ effect h. h)))

  actions_alike : (raws : List RawAction) → IfGiven (λ actions. list_any (λ action. changes n action.effect) actions ≡ is_member (changed_in raws) name) (each (action_of declared) raws)
  actions_alike [] = refl
  actions_alike (raw ∷ raws) =
      let P : List Action → Type 0 = λ actions. list_any (λ action. changes n action.effect) actions ≡ is_member (changed_in raws) name in
      let Q : List Action → Type 0 = λ actions. list_any (λ action. changes n action.effect) actions ≡ is_member (changed_by raw.effect ++ changed_in raws) name in
      then_given (λ action. changes n action.effect ≡ is_member (changed_by raw.effect) name) Q (action_of declared raw) _ (action_alike raw) (λ action here.
      made_given P Q (λ actions. action ∷ actions) (each (action_of declared) raws) (actions_alike raws) (λ actions rest.
      ap (λ (b : Bool). b || list_any (λ (other : Action). changes n other.effect) actions) here
      ∙ (ap (λ (b : Bool). is_member (changed_by raw.effect) name || b) rest ∙ sym (list_any-append (λ own. bytes_eq own name) (changed_by raw.effect) (changed_in raws)))))

-- each changed function once

or_assoc : (a b c : Bool) → ((a || b) || c) ≡ (a || (b || c))
or_assoc true b c = refl
or_assoc false b c = refl

still_member : (names : List (List ℕ)) (x name : List ℕ) (b : Bool) → is_member names x ≡ b → is_member (if b then names else names ++ x ∷ []) name ≡ (is_member names name || bytes_eq x name)
still_member names x name true e =
    sym (absorbed_by (is_member names name) (bytes_eq x name) (λ same. subst (λ (w : List ℕ). is_member names w ≡ true) (same_text x name same) e))
  where
    absorbed_by : (a b : Bool) → (b ≡ true → a ≡ true) → (a || b) ≡ a
    absorbed_by true b h = refl
    absorbed_by false true h = sym (h refl)
    absorbed_by false false h = refl
still_member names x name false e = any-push (λ own. bytes_eq own name) names x

member-entered : (names xs : List (List ℕ)) (name : List ℕ) → is_member (entered names xs) name ≡ (is_member names name || is_member xs name)
member-entered names [] name = sym (or_false (is_member names name))
member-entered names (x ∷ xs) name =
    member-entered (if is_member names x then names else names ++ x ∷ []) xs name
    ∙ (ap (λ (b : Bool). b || is_member xs name) (still_member names x name (is_member names x) refl)
    ∙ or_assoc (is_member names name) (bytes_eq x name) (is_member xs name))

pub member-firsts : (xs : List (List ℕ)) (name : List ℕ) → is_member (firsts (λ own. own) [] xs) name ≡ is_member xs name
member-firsts xs name = ap (λ (names : List (List ℕ)). is_member names name) (sym (entered-empty xs)) ∙ member-entered [] xs name

-- a function of a name is constant by its number exactly where no effect changes its name
pub constant_alike : (declared : Declared) (raws : List RawAction) (name : List ℕ) (n : ℕ) → declared.changed ≡ firsts (λ own. own) [] (changed_in raws) → number_of declared.functions name ≡ Some n →
    IfGiven (λ actions. not (list_any (λ action. changes n action.effect) actions) ≡ not (is_member declared.changed name)) (each (action_of declared) raws)
constant_alike declared raws name n e number =
    given_weaker (λ actions. list_any (λ action. changes n action.effect) actions ≡ is_member (changed_in raws) name) (λ actions. not (list_any (λ action. changes n action.effect) actions) ≡ not (is_member declared.changed name))
    (λ actions h. ap not (h ∙ sym (ap (λ (names : List (List ℕ)). is_member names name) e ∙ member-firsts (changed_in raws) name)))
    (each (action_of declared) raws) (actions_alike declared name n number raws)
