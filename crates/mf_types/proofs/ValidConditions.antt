-- Conditions that are read are valid.
use Rattle.std.proofs.Common.{◌≡◌, ℕ, ◌+◌, ◌<◌, Bool, true, false, ◌&&◌, if◌then◌else◌, nat_le, nat_lt, Option, Some, None, List, [], ◌∷◌, ◌++◌, map, length, slice_get, refl, subst, sym, ap, ◌∙◌, length-append}
use Rattle.std.specs.List.{list_all}
use Rattle.std.proofs.lemmas.List.{length-map}
use Rattle.std.proofs.lemmas.List.Elements.{All-head, All-tail}
use Rattle.mf_model.proofs.Choices.{and_true}
use Rattle.mf_model.specs.declared.form.Word.{Word}
use Rattle.mf_model.specs.declared.form.Typed.{Typed}
use Rattle.mf_model.specs.declared.form.RawCond.{RawCond}
use Rattle.mf_model.specs.declared.form.RawCond.TheOpen.{RawCond-F}
use Rattle.mf_model.specs.declared.form.RawCond.TheFolds.{ind-RawCond, fold-roll-RawCond, map-RawCond}
use Rattle.mf_model.specs.declared.task.Term.{Term}
use Rattle.mf_model.specs.declared.task.Cond.{Cond}
use Rattle.mf_model.specs.declared.task.Cond.TheVariants as c
use Rattle.mf_model.specs.declared.task.Cond.TheOpen.{Cond-F}
use Rattle.mf_model.specs.declared.task.Cond.TheViews.{roll-Cond}
use Rattle.mf_model.specs.declared.task.Cond.TheFolds.{fold-roll-Cond, map-Cond}
use Rattle.mf_model.specs.Options.{◌>>=◌, all_some}
use Rattle.mf_model.specs.Plain.{all_true}
use Rattle.mf_model.specs.Resolution.{takes, typed_names}
use Rattle.mf_types.specs.Names.{Declared, item_types}
use Rattle.mf_types.specs.Typing.{Binders, inside, within, types_in, predicate_of, term_of, terms_of, expr_of, cond_step, cond_of}
use Rattle.mf_model.specs.ValidTasks as valid
use Rattle.mf_model.specs.ValidTasks.{Counts, are_types, are_type_lists, is_valid_term, is_valid_use, is_valid_expr, is_valid_cond, is_valid_quantifier}
use Rattle.mf_types.specs.Written as written
use Rattle.mf_types.specs.Written.{is_written_expr, is_written_cond}
use Rattle.mf_types.proofs.Given.{IfGiven, Read, then_given, made_given, both_given, parts_given, all_at, first_true, second_true}
use Rattle.mf_types.proofs.Narrow.{AreBelow, types_below}
use Rattle.mf_types.proofs.ValidTerms.{counted, AreEven, lt_true, term_valid, terms_valid, symbol_valid, use_valid}
use Rattle.mf_types.proofs.ValidExpressions.{expr_valid}

-- types

below_tests : (most : ℕ) (ns : List ℕ) → AreBelow most ns → list_all (λ n. nat_lt n most) ns ≡ true
below_tests most [] all = refl
below_tests most (n ∷ ns) all =
    and_true (nat_lt n most) (list_all (λ m. nat_lt m most) ns) (lt_true n most (All-head (λ m. m < most) n ns all)) (below_tests most ns (All-tail (λ m. m < most) n ns all))

pub item_valid : (declared : Declared) → 0 < length declared.types → (item : Typed) → are_types (counted declared) (item_types declared.types item) ≡ true
item_valid declared some item = below_tests (length declared.types) (item_types declared.types item) (types_below declared.types some item.types)

pub lists_valid : (declared : Declared) → 0 < length declared.types → (items : List Typed) → are_type_lists (counted declared) (types_in declared items) ≡ true
lists_valid declared some [] = refl
lists_valid declared some (item ∷ items) =
    and_true (are_types (counted declared) (item_types declared.types item)) (are_type_lists (counted declared) (types_in declared items)) (item_valid declared some item) (lists_valid declared some items)

-- inside a list of variables

pub record HasRoom (binders : Binders) (items : List Typed) (inner : Binders) : Type 0 where
  pub room : nat_le (length binders + length items) 64 ≡ true
  pub count : length inner ≡ length binders + length items

room_by : (binders : Binders) (items : List Typed) (b : Bool) → nat_le (length binders + length items) 64 ≡ b → IfGiven (HasRoom binders items) (if b then Some (binders ++ typed_names items) else None)
room_by binders items true e = record {
  room = e;
  count = length-append binders (typed_names items) ∙ ap (λ (n : ℕ). length binders + n) (length-map items _);
}
room_by binders items false e = tt

pub inside_valid : (binders : Binders) (items : List Typed) → IfGiven (HasRoom binders items) (inside binders items)
unfolding inside
inside_valid binders items = room_by binders items (nat_le (length binders + length items) 64) refl

-- a part is valid where so many more variables are in scope
pub record IsInside (binders : Binders) (items : List Typed) (test : ℕ → Bool) : Type 0 where
  pub room : nat_le (length binders + length items) 64 ≡ true
  pub valid : test (length binders + length items) ≡ true

pub within_valid : {A : Type 0} (test : A → ℕ → Bool) (items : List Typed) (read : Binders → Option A) (binders : Binders) → ((inner : Binders) → IfGiven (λ a. test a (length inner) ≡ true) (read inner)) → IfGiven (λ a. IsInside binders items (test a)) (within items read binders)
within_valid {A = A} test items read binders h =
    then_given (HasRoom binders items) (λ a. IsInside binders items (test a)) (inside binders items) read (inside_valid binders items) (λ inner has.
    let here = subst (λ (n : ℕ). IfGiven (λ (a : A). test a n ≡ true) (read inner)) has.count (h inner) in
    widened test items binders has.room (read inner) here)
  where
    widened : {B : Type 0} (test : B → ℕ → Bool) (items : List Typed) (binders : Binders) → nat_le (length binders + length items) 64 ≡ true → (o : Option B) → IfGiven (λ a. test a (length binders + length items) ≡ true) o → IfGiven (λ a. IsInside binders items (test a)) o
    widened test items binders room None h = tt
    widened test items binders room (Some a) h = record { room = room; valid = h }

pub quantifier_valid : (declared : Declared) → 0 < length declared.types → (binders : Binders) (items : List Typed) (part : ℕ → Bool) → IsInside binders items part → is_valid_quantifier (counted declared) (types_in declared items) part (length binders) ≡ true
quantifier_valid declared some binders items part here =
    let lists = types_in declared items in
    let same : length lists ≡ length items = length-map items (item_types declared.types) in
    subst (λ (n : ℕ). (are_type_lists (counted declared) lists && nat_le (length binders + n) 64 && part (length binders + n)) ≡ true) (sym same)
    (rw (lists_valid declared some items, here.room, here.valid) refl)

-- conditions

rolled : (counts : Counts) (variables : ℕ) (whole : Cond) (y : Cond-F Cond) → roll-Cond y ≡ whole → is_valid_cond counts whole variables ≡ valid.cond_step counts (map-Cond Cond (ℕ → Bool) (is_valid_cond counts) y) variables
rolled counts variables whole y e = ap (λ (a : Cond). is_valid_cond counts a variables) (sym e) ∙ ap (λ (f : ℕ → Bool). f variables) (fold-roll-Cond (ℕ → Bool) (valid.cond_step counts) y)

module _ (declared : Declared) (even : AreEven declared) (some : 0 < length declared.types) where
  abbrev Valid : ℕ → Cond → Type 0
  Valid variables e = is_valid_cond (counted declared) e variables ≡ true

  pub atom_valid : {A : Type 0} (P : A → Type 0) (make : ℕ → List Term → A) (binders : Binders) (predicate : Word) (ws : List Word) → ((n : ℕ) (ts : List Term) → is_valid_use (counted declared).predicates (counted declared) (length binders) n ts ≡ true → P (make n ts)) → IfGiven P (predicate_of declared predicate.text (length ws) >>= (λ n. terms_of declared binders ws >>= (λ ts. Some (make n ts))))
  atom_valid P make binders predicate ws h =
      let counts = counted declared in
      then_given (λ n. takes (slice_get counts.predicates n) (length ws) ≡ true) P (predicate_of declared predicate.text (length ws)) _
      (symbol_valid declared.predicates declared.predicate_types predicate.text (length ws) even.predicates) (λ n count.
      made_given (Read (is_valid_term counts (length binders)) ws) P (λ ts. make n ts) (terms_of declared binders ws) (terms_valid declared binders ws) (λ ts read.
      h n ts (use_valid counts.predicates counts (length binders) n ws ts count read)))

  abbrev Claim : RawCond → Type 0
  Claim e = (binders : Binders) → is_written_cond e ≡ true → IfGiven (Valid (length binders)) (cond_of declared e binders)

  abbrev Piece : Type 0
  Piece = (e : RawCond) × Claim e

  abbrev raw_of : Piece → RawCond
  raw_of p = p.0

  parts_valid : (ps : List Piece) (binders : Binders) → all_true (map is_written_cond (map raw_of ps)) ≡ true → IfGiven (Read (λ e. is_valid_cond (counted declared) e (length binders)) ps) (all_some (map (λ part. part binders) (map (cond_of declared) (map raw_of ps))))
  parts_valid ps binders e = parts_given (λ a. is_valid_cond (counted declared) a (length binders)) is_written_cond (cond_of declared) raw_of binders (λ p w. p.1 binders w) ps e

  Layer : RawCond-F RawCond → Type 0
  Layer y = (binders : Binders) → written.cond_step (map-RawCond RawCond Bool is_written_cond y) ≡ true → IfGiven (Valid (length binders)) (cond_step declared (map-RawCond RawCond (Binders → Option Cond) (cond_of declared) y) binders)

  level : (y : RawCond-F Piece) → Layer (map-RawCond Piece RawCond raw_of y)
  unfolding Layer
  level (RawCond-F.Atom predicate terms span) binders e =
      atom_valid (Valid (length binders)) c.Atom binders predicate terms (λ n ts h. rolled (counted declared) (length binders) (c.Atom n ts) (Cond-F.Atom n ts) (c.rolls-Atom n ts) ∙ h)
  level (RawCond-F.Same left right span) binders e =
      let test = is_valid_term (counted declared) (length binders) in
      both_given (λ t. test t ≡ true) (λ t. test t ≡ true) (Valid (length binders)) c.Same (term_of declared binders left) (term_of declared binders right)
      (term_valid declared binders left) (term_valid declared binders right) (λ a b h k.
      rolled (counted declared) (length binders) (c.Same a b) (Cond-F.Same a b) (c.rolls-Same a b) ∙ and_true (test a) (test b) h k)
  level (RawCond-F.Compare relation left right span) binders e =
      let test = is_valid_expr (counted declared) false (length binders) in
      both_given (λ a. test a ≡ true) (λ a. test a ≡ true) (Valid (length binders)) (c.Compare relation) (expr_of declared left binders) (expr_of declared right binders)
      (expr_valid declared even false left binders (first_true (is_written_expr false left) (is_written_expr false right) e))
      (expr_valid declared even false right binders (second_true (is_written_expr false left) (is_written_expr false right) e)) (λ a b h k.
      rolled (counted declared) (length binders) (c.Compare relation a b) (Cond-F.Compare relation a b) (c.rolls-Compare relation a b) ∙ and_true (test a) (test b) h k)
  level (RawCond-F.Not part span) binders e =
      made_given (Valid (length binders)) (Valid (length binders)) c.Not (cond_of declared part.0 binders) (part.1 binders e) (λ a h.
      rolled (counted declared) (length binders) (c.Not a) (Cond-F.Not a) (c.rolls-Not a) ∙ h)
  level (RawCond-F.And parts span) binders e =
      made_given (Read (λ a. is_valid_cond (counted declared) a (length binders)) parts) (Valid (length binders)) c.And _ (parts_valid parts binders e) (λ es read.
      rolled (counted declared) (length binders) (c.And es) (Cond-F.And es) (c.rolls-And es) ∙ all_at (is_valid_cond (counted declared)) (length binders) es ∙ read.passes)
  level (RawCond-F.Or parts span) binders e =
      made_given (Read (λ a. is_valid_cond (counted declared) a (length binders)) parts) (Valid (length binders)) c.Or _ (parts_valid parts binders e) (λ es read.
      rolled (counted declared) (length binders) (c.Or es) (Cond-F.Or es) (c.rolls-Or es) ∙ all_at (is_valid_cond (counted declared)) (length binders) es ∙ read.passes)
  level (RawCond-F.Imply left right span) binders e =
      let test : Cond → Bool = λ a. is_valid_cond (counted declared) a (length binders) in
      both_given (Valid (length binders)) (Valid (length binders)) (Valid (length binders)) c.Imply (cond_of declared left.0 binders) (cond_of declared right.0 binders)
      (left.1 binders (first_true (is_written_cond left.0) (is_written_cond right.0) e))
      (right.1 binders (second_true (is_written_cond left.0) (is_written_cond right.0) e)) (λ a b h k.
      rolled (counted declared) (length binders) (c.Imply a b) (Cond-F.Imply a b) (c.rolls-Imply a b) ∙ and_true (test a) (test b) h k)
  level (RawCond-F.All variables part span) binders e =
      made_given (λ a. IsInside binders variables (is_valid_cond (counted declared) a)) (Valid (length binders)) (λ a. c.All (types_in declared variables) a) (within variables (cond_of declared part.0) binders)
      (within_valid (is_valid_cond (counted declared)) variables (cond_of declared part.0) binders (λ inner. part.1 inner e)) (λ a here.
      rolled (counted declared) (length binders) (c.All (types_in declared variables) a) (Cond-F.All (types_in declared variables) a) (c.rolls-All (types_in declared variables) a)
      ∙ quantifier_valid declared some binders variables (is_valid_cond (counted declared) a) here)
  level (RawCond-F.Any variables part span) binders e =
      made_given (λ a. IsInside binders variables (is_valid_cond (counted declared) a)) (Valid (length binders)) (λ a. c.Any (types_in declared variables) a) (within variables (cond_of declared part.0) binders)
      (within_valid (is_valid_cond (counted declared)) variables (cond_of declared part.0) binders (λ inner. part.1 inner e)) (λ a here.
      rolled (counted declared) (length binders) (c.Any (types_in declared variables) a) (Cond-F.Any (types_in declared variables) a) (c.rolls-Any (types_in declared variables) a)
      ∙ quantifier_valid declared some binders variables (is_valid_cond (counted declared) a) here)

  pub cond_valid : (e : RawCond) → Claim e
  unfolding Layer
  cond_valid = ind-RawCond Claim (λ y z is binders e.
      let at_layer = subst (λ v. Layer v) is (level z) binders in
      let by_form = fold-roll-RawCond Bool written.cond_step y in
      let by_reading = ap (λ (f : Binders → Option Cond). f binders) (fold-roll-RawCond (Binders → Option Cond) (cond_step declared) y) in
      subst (λ o. IfGiven (Valid (length binders)) o) (sym by_reading) (at_layer (sym by_form ∙ e)))
