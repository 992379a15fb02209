-- A conjunction of atoms holds where its atoms are true, and its conjuncts are its atoms.
use Rattle.std.proofs.Common.{◌≡◌, ℕ, ◌++◌, ◌&&◌, Bool, true, false, List, [], ◌∷◌, map, refl, sym, ap, ◌∙◌, subst, not, ◌+◌, arith, cond, ◌↔◌}
use Rattle.std.specs.List.{flat_map, list_all, count_by}
use Rattle.std.proofs.lemmas.Bool.{and_parts, and_from, false≢true}
use Rattle.std.proofs.lemmas.List.{map-append}
use Rattle.std.proofs.lemmas.List.Sums.{sum_by-cons}
use Rattle.mf_model.specs.declared.task.Atom.{Atom}
use Rattle.mf_model.specs.declared.task.Cond.{Cond}
use Rattle.mf_model.specs.declared.task.Cond.TheOpen.{Cond-F}
use Rattle.mf_model.specs.declared.task.Cond.TheViews.{roll-Cond}
use Rattle.mf_model.specs.declared.task.Cond.TheFolds.{map-Cond, fold-roll-Cond, ind-Cond}
use Rattle.mf_model.specs.declared.truth.Truth.{Truth}
use Rattle.mf_model.specs.declared.truth.Truth.TheVariants.{Yes, No, Neither}
use Rattle.mf_model.specs.Meaning.{truth_of, and_of, all_of, holds_step, truth_in, is_yes}
use Rattle.mf_model.specs.declared.task.Symbol.{Symbol}
use Rattle.mf_model.specs.Plain.{all_true, plain_cond_step, is_plain_cond}
use Rattle.mf_model.specs.Meaning.{holds_in}
use Rattle.mf_model.specs.Views.{Look, objects_of}
use Rattle.mf_plain.specs.Conjunctions.{conjunction_step, is_conjunction, needs_step, needs_of}
use Rattle.mf_plain.specs.GoalCount.{conjuncts_step, conjuncts_in}

and_assoc : (t u v : Truth) → and_of (and_of t u) v ≡ and_of t (and_of u v)
and_assoc Yes u v = refl
and_assoc No Yes v = refl
and_assoc No No v = refl
and_assoc No Neither v = refl
and_assoc Neither Yes v = refl
and_assoc Neither No Yes = refl
and_assoc Neither No No = refl
and_assoc Neither No Neither = refl
and_assoc Neither Neither Yes = refl
and_assoc Neither Neither No = refl
and_assoc Neither Neither Neither = refl

pub all-append : (ts us : List Truth) → all_of (ts ++ us) ≡ and_of (all_of ts) (all_of us)
all-append [] us = refl
all-append (t ∷ ts) us = ap (and_of t) (all-append ts us) ∙ sym (and_assoc t (all_of ts) (all_of us))

-- what an atom is
abbrev pub truth_at : Look → Atom → Truth
truth_at look a = truth_of (look.atom a.predicate a.objects)

pub record IsRead (objects : List (List ℕ)) (look : Look) (c : Cond) (b : List ℕ) : Type 0 where
  pub conjuncts : conjuncts_in objects look c b ≡ map (truth_at look) (needs_of c b)
  pub truth : truth_in objects look c b ≡ all_of (conjuncts_in objects look c b)

abbrev pub Reads : List (List ℕ) → Look → Cond → Type 0
Reads objects look c = is_conjunction c ≡ true → (b : List ℕ) → IsRead objects look c b

abbrev Read : List (List ℕ) → Look → Type 0
Read objects look = (c : Cond) × Reads objects look c

-- the parts of a conjunction
read_parts : (objects : List (List ℕ)) (look : Look) (parts : List (Read objects look)) → all_true (map is_conjunction (map (λ e. e.0) parts)) ≡ true → (b : List ℕ) →
    (flat_map (λ part. part b) (map (conjuncts_in objects look) (map (λ e. e.0) parts)) ≡ map (truth_at look) (flat_map (λ part. part b) (map needs_of (map (λ e. e.0) parts))))
    × (all_of (map (λ part. part b) (map (truth_in objects look) (map (λ e. e.0) parts))) ≡ all_of (flat_map (λ part. part b) (map (conjuncts_in objects look) (map (λ e. e.0) parts))))
read_parts objects look [] plain b = (refl, refl)
read_parts objects look (p ∷ parts) plain b =
    let both = and_parts (is_conjunction p.0) (all_true (map is_conjunction (map (λ e. e.0) parts))) plain in
    let first = p.1 both.0 b in
    let others = read_parts objects look parts both.1 b in (
      rw (first.conjuncts, others.0) (sym (map-append (truth_at look) (needs_of p.0 b) (flat_map (λ part. part b) (map needs_of (map (λ e. e.0) parts))))),
      rw (first.truth, others.1) (sym (all-append (conjuncts_in objects look p.0 b) (flat_map (λ part. part b) (map (conjuncts_in objects look) (map (λ e. e.0) parts))))),
    )

one_truth : (t : Truth) → t ≡ all_of (t ∷ [])
one_truth Yes = refl
one_truth No = refl
one_truth Neither = refl

abbrev Layer : List (List ℕ) → Look → Type 0
Layer objects look = Cond-F (Read objects look)

abbrev plain_layer : (objects : List (List ℕ)) (look : Look) → Layer objects look → Cond-F Cond
plain_layer objects look y = map-Cond (Read objects look) Cond (λ e. e.0) y

read_step : (objects : List (List ℕ)) (look : Look) (y : Layer objects look) → Reads objects look (roll-Cond (plain_layer objects look y))
read_step objects look (Cond-F.Atom predicate terms) plain b =
    let x : Cond-F Cond = Cond-F.Atom predicate terms in
    record {
      conjuncts = rw (fold-roll-Cond (List ℕ → List Truth) (conjuncts_step objects look) x, fold-roll-Cond (List ℕ → List Atom) needs_step x) refl;
      truth = rw (fold-roll-Cond (List ℕ → List Truth) (conjuncts_step objects look) x, fold-roll-Cond (List ℕ → Truth) (holds_step objects look) x) (one_truth (truth_of (look.atom predicate (objects_of b terms))));
    }
read_step objects look (Cond-F.And parts) plain b =
    let x : Cond-F Cond = Cond-F.And (map (λ e. e.0) parts) in
    let plain_parts = rw (fold-roll-Cond Bool conjunction_step x) at plain in
    let both = read_parts objects look parts plain_parts b in
    record {
      conjuncts = rw (fold-roll-Cond (List ℕ → List Truth) (conjuncts_step objects look) x, fold-roll-Cond (List ℕ → List Atom) needs_step x) both.0;
      truth = rw (fold-roll-Cond (List ℕ → List Truth) (conjuncts_step objects look) x, fold-roll-Cond (List ℕ → Truth) (holds_step objects look) x) both.1;
    }
read_step objects look y plain b = absurd (false≢true (sym (fold-roll-Cond Bool conjunction_step (plain_layer objects look y)) ∙ plain))

pub reads : (objects : List (List ℕ)) (look : Look) (c : Cond) → Reads objects look c
reads objects look = ind-Cond (Reads objects look) (λ x y is. subst (λ z. Reads objects look (roll-Cond z)) is (read_step objects look y))

-- A plain condition is a conjunction.
abbrev IsFine : List Symbol → ℕ → ℕ → Cond → Type 0
IsFine predicates variables objects c = is_plain_cond predicates variables objects c ≡ true → is_conjunction c ≡ true

abbrev Fine : List Symbol → ℕ → ℕ → Type 0
Fine predicates variables objects = (c : Cond) × IsFine predicates variables objects c

fine_parts : (ps : List Symbol) (v o : ℕ) (parts : List (Fine ps v o)) → all_true (map (is_plain_cond ps v o) (map (λ e. e.0) parts)) ≡ true → all_true (map is_conjunction (map (λ e. e.0) parts)) ≡ true
fine_parts ps v o [] plain = refl
fine_parts ps v o (p ∷ parts) plain =
    let both = and_parts (is_plain_cond ps v o p.0) (all_true (map (is_plain_cond ps v o) (map (λ e. e.0) parts))) plain in
    and_from _ _ (p.1 both.0) (fine_parts ps v o parts both.1)

fine_step : (ps : List Symbol) (v o : ℕ) (y : Cond-F (Fine ps v o)) → IsFine ps v o (roll-Cond (map-Cond (Fine ps v o) Cond (λ e. e.0) y))
fine_step ps v o (Cond-F.Atom predicate terms) plain = fold-roll-Cond Bool conjunction_step (Cond-F.Atom predicate terms)
fine_step ps v o (Cond-F.And parts) plain =
    let x : Cond-F Cond = Cond-F.And (map (λ e. e.0) parts) in
    let plain_parts = rw (fold-roll-Cond Bool (plain_cond_step ps v o) x) at plain in
    rw (fold-roll-Cond Bool conjunction_step x) (fine_parts ps v o parts plain_parts)
fine_step ps v o y plain = absurd (false≢true (sym (fold-roll-Cond Bool (plain_cond_step ps v o) (map-Cond (Fine ps v o) Cond (λ e. e.0) y)) ∙ plain))

pub plain_is_conjunction : (ps : List Symbol) (v o : ℕ) (c : Cond) → is_plain_cond ps v o c ≡ true → is_conjunction c ≡ true
plain_is_conjunction ps v o = ind-Cond (IsFine ps v o) (λ x y is. subst (λ z. IsFine ps v o (roll-Cond z)) is (fine_step ps v o y))

-- All of some tests hold.
pub all_of_tests : {X : Type 0} (p : X → Bool) (xs : List X) → is_yes (all_of (map (λ x. truth_of (p x)) xs)) ≡ list_all p xs
all_of_tests p [] = refl
all_of_tests p (x ∷ xs) = go (p x) (all_of_tests p xs)
  where
    go : (b : Bool) → is_yes (all_of (map (λ y. truth_of (p y)) xs)) ≡ list_all p xs → is_yes (and_of (truth_of b) (all_of (map (λ y. truth_of (p y)) xs))) ≡ (b && list_all p xs)
    go true ih = ih
    go false ih = refl

-- A conjunction holds where all its atoms are true.
pub holds_is : (objects : List (List ℕ)) (look : Look) (c : Cond) (b : List ℕ) → is_conjunction c ≡ true → holds_in objects look c b ≡ list_all (λ a. look.atom a.predicate a.objects) (needs_of c b)
holds_is objects look c b plain =
    let r = reads objects look c plain b in
    ap is_yes (r.truth ∙ ap all_of r.conjuncts) ∙ all_of_tests (λ (a : Atom). look.atom a.predicate a.objects) (needs_of c b)

-- How many of some truths are no yes.
pub count_of_tests : {X : Type 0} (p : X → Bool) (xs : List X) → count_by (λ t. not (is_yes t)) (map (λ x. truth_of (p x)) xs) ≡ count_by (λ x. not (p x)) xs
count_of_tests p [] = refl
count_of_tests {X} p (x ∷ xs) =
    sum_by-cons (λ t. cond (not (is_yes t)) 1 0) (truth_of (p x)) (map (λ x. truth_of (p x)) xs)
    ∙ rw (count_of_tests p xs) (go (p x))
    ∙ sym (sum_by-cons (λ (y : X). cond (not (p y)) 1 0) x xs)
  where
    go : (b : Bool) → cond (not (is_yes (truth_of b))) 1 0 + count_by (λ y. not (p y)) xs ≡ cond (not b) 1 0 + count_by (λ y. not (p y)) xs
    go true = refl
    go false = refl

never_yes : (u : Truth) → is_yes (and_of Neither u) ≡ true → ⊥
never_yes Yes e = false≢true e
never_yes No e = false≢true e
never_yes Neither e = false≢true e

-- None of some truths is no yes exactly where all together are yes.
pub none_unmet : (ts : List Truth) → (count_by (λ t. not (is_yes t)) ts ≡ 0) ↔ (is_yes (all_of ts) ≡ true)
none_unmet [] = (λ e. refl, λ e. refl)
none_unmet (t ∷ ts) = rw (sum_by-cons (λ t. cond (not (is_yes t)) 1 0) t ts) (go t (none_unmet ts))
  where
    go : (u : Truth) → ((count_by (λ t. not (is_yes t)) ts ≡ 0) ↔ (is_yes (all_of ts) ≡ true)) → ((cond (not (is_yes u)) 1 0 + count_by (λ t. not (is_yes t)) ts ≡ 0) ↔ (is_yes (and_of u (all_of ts)) ≡ true))
    go Yes ih = (λ e. ih.0 (omega arith), λ e. let k = ih.1 e in omega arith)
    go No ih = (λ e. absurd (omega arith), λ e. absurd (false≢true e))
    go Neither ih = (λ e. absurd (omega arith), λ e. absurd (never_yes (all_of ts) e))
