-- Depths of types in their trees, ancestors at smaller depths, and the places that tell them.
use Rattle.std.proofs.Common.{◌≡◌, ◌≢◌, ℕ, zero, suc, ◌+◌, ◌-◌, ◌<◌, ◌≤◌, Bool, true, false, ◌&&◌, ◌||◌, if◌then◌else◌, nat_eq, nat_le, Option, Some, None, IfSome, List, [], length, set, replicate, refl, sym, subst, ap, ◌∙◌, arith}
use Rattle.std.proofs.lemmas.Bool.Decides.{Decides-eqb, nat_tests}
use Rattle.std.proofs.lemmas.List.{get_or-set_other, get_or-set_same}
use Rattle.mf_model.specs.Objects.{ancestors, member}
use Rattle.mf_model.proofs.Ancestors.{member-ancestors_more}
use Rattle.mf_types.specs.declared.ancestry.Ancestor.{Ancestor}
use Rattle.mf_types.specs.declared.places.Place.{Place}
use Rattle.mf_types.specs.Ascent.{parent_at, up}
use Rattle.mf_types.specs.Places.{climbs_to, place_at, ArePlaces, HasDepth, IsAncestor, IsPlace, Leads, Stands}
use Rattle.mf_types.specs.BelowTop.{descends}
use Rattle.mf_types.proofs.Ascent.{up_further}

-- A type has one depth below a root, and its ancestors have less

depth_is_one : (parents : List ℕ) (root d e t : ℕ) → HasDepth parents root d t → HasDepth parents root e t → d ≡ e
depth_is_one parents root zero zero t a b = refl
depth_is_one parents root zero (suc e) t a b = absurd (b.1.0 a)
depth_is_one parents root (suc d) zero t a b = absurd (a.1.0 b)
depth_is_one parents root (suc d) (suc e) t a b = ap suc (depth_is_one parents root d e (parent_at parents t) a.1.1 b.1.1)

pub depth_above : (parents : List ℕ) (root d k e t : ℕ) → d ≡ k + e → HasDepth parents root d t → HasDepth parents root e (up parents k t)
depth_above parents root d zero e t is h =
    let same : d ≡ e = omega (arith, is) in
    subst (λ (n : ℕ). HasDepth parents root n t) same h
depth_above parents root zero (suc k) e t is h = absurd (omega (arith, is))
depth_above parents root (suc d) (suc k) e t is h = depth_above parents root d k e (parent_at parents t) (omega (arith, is)) h.1.1

not_root : (parents : List ℕ) (root d t : ℕ) → HasDepth parents root d t → 0 < d → t ≢ root
not_root parents root zero t h some = absurd (omega (arith, some))
not_root parents root (suc d) t h some = h.1.0

-- Descent by depth below type 0

differ : (parents : List ℕ) (d e t u : ℕ) → HasDepth parents 0 d t → HasDepth parents 0 e u → d ≢ e → t ≢ u
differ parents d e t u a b apart same = apart (depth_is_one parents 0 d e u (subst (HasDepth parents 0 d) same a) b)

apart : (t u : ℕ) → t ≢ u → nat_eq u t ≡ false
apart t u h = grind (arith, nat_tests)

turned : (t u : ℕ) → nat_eq t u ≡ nat_eq u t
turned t u = grind (arith, nat_tests)

alone : (parents : List ℕ) (n t u : ℕ) → t ≡ 0 → member u (ancestors parents (suc n) t) ≡ nat_eq u t
alone parents n t u top =
    ap (λ (s : ℕ). member u (ancestors parents (suc n) s)) top ∙ (or_nothing (nat_eq u 0) ∙ ap (nat_eq u) (sym top))
  where
    or_nothing : (b : Bool) → (b || false) ≡ b
    or_nothing true = refl
    or_nothing false = refl

one_up : (parents : List ℕ) (n d e t u : ℕ) → HasDepth parents 0 (suc d) t → t ≢ u → member u (ancestors parents (suc n) t) ≡ member u (ancestors parents n (parent_at parents t))
one_up parents n d e t u a other = sym (member-ancestors_more parents n (suc n) t u (parent_at parents t) refl other a.0 refl)

no_ancestor_below : (parents : List ℕ) (n d e t u : ℕ) → HasDepth parents 0 d t → HasDepth parents 0 e u → d < e → member u (ancestors parents n t) ≡ false
no_ancestor_below parents zero d e t u a b less = refl
no_ancestor_below parents (suc n) zero e t u a b less = alone parents n t u a ∙ apart t u (differ parents 0 e t u a b (omega (arith, less)))
no_ancestor_below parents (suc n) (suc d) e t u a b less =
    one_up parents n d e t u a (differ parents (suc d) e t u a b (omega (arith, less)))
    ∙ no_ancestor_below parents n d e (parent_at parents t) u a.1.1 b (omega (arith, less))

ancestor_at : (parents : List ℕ) (n d k e t u : ℕ) → HasDepth parents 0 d t → HasDepth parents 0 e u → d ≡ k + e → d < n → member u (ancestors parents n t) ≡ nat_eq u (up parents k t)
ancestor_at parents zero d k e t u a b is few = absurd (omega (arith, few))
ancestor_at parents (suc n) zero zero e t u a b is few = alone parents n t u a
ancestor_at parents (suc n) zero (suc k) e t u a b is few = absurd (omega (arith, is))
ancestor_at parents (suc n) (suc d) zero e t u a b is few = by (nat_eq u t) refl
  where
    by : (c : Bool) → nat_eq u t ≡ c → member u (ancestors parents (suc n) t) ≡ c
    by true same = ap (λ (c : Bool). c || member u (if nat_eq t 0 then [] else ancestors parents n (parent_at parents t))) same
    by false other =
        one_up parents n d e t u a (λ same. let yes = (Decides-eqb u t).1 (sym same) in let no : ⊥ = cc in no)
        ∙ no_ancestor_below parents n d e (parent_at parents t) u a.1.1 b (omega (arith, is))
ancestor_at parents (suc n) (suc d) (suc k) e t u a b is few =
    one_up parents n d e t u a (differ parents (suc d) e t u a b (omega (arith, is)))
    ∙ ancestor_at parents n d k e (parent_at parents t) u a.1.1 b (omega (arith, is)) (omega (arith, few))

pub descends_by_depth : (parents : List ℕ) (t u : ℕ) (from to : Place) → IsPlace parents t from → IsPlace parents u to → from.root ≡ 0 → to.root ≡ 0 → climbs_to parents from.depth to.depth t u ≡ descends parents t u
descends_by_depth parents t u from to a b top other_top = by (nat_le to.depth from.depth) refl
  where
    own : HasDepth parents 0 from.depth t
    own = subst (λ (root : ℕ). HasDepth parents root from.depth t) top a.depth

    other : HasDepth parents 0 to.depth u
    other = subst (λ (root : ℕ). HasDepth parents root to.depth u) other_top b.depth

    by : (c : Bool) → nat_le to.depth from.depth ≡ c → (c && nat_eq (up parents (from.depth - to.depth) t) u) ≡ descends parents t u
    by true e =
        let above : to.depth ≤ from.depth = grind (arith, nat_tests, e) in
        sym (ancestor_at parents (length parents) from.depth (from.depth - to.depth) to.depth t u own other (omega (arith, above)) a.few
        ∙ turned u (up parents (from.depth - to.depth) t))
    by false e =
        let less : from.depth < to.depth = grind (arith, nat_tests, e) in
        sym (no_ancestor_below parents (length parents) from.depth to.depth t u own other less)

-- Descent round a cycle

above_itself : (parents : List ℕ) (n t u : ℕ) → 0 < n → t ≡ u → member u (ancestors parents n t) ≡ true
above_itself parents zero t u some same = absurd (omega (arith, some))
above_itself parents (suc n) t u some same = ap (λ (b : Bool). b || member u (if nat_eq t 0 then [] else ancestors parents n (parent_at parents t))) ((Decides-eqb u t).1 (sym same))

above_parent : (parents : List ℕ) (n t u : ℕ) → t ≢ 0 → member u (ancestors parents n (parent_at parents t)) ≡ true → member u (ancestors parents (suc n) t) ≡ true
above_parent parents n t u apart there = by (nat_eq t 0) refl
  where
    or_true : (b : Bool) → (b || true) ≡ true
    or_true true = refl
    or_true false = refl

    by : (b : Bool) → nat_eq t 0 ≡ b → (nat_eq u t || member u (if b then [] else ancestors parents n (parent_at parents t))) ≡ true
    by true e = absurd (apart ((Decides-eqb t 0).0 e))
    by false e = ap (λ (b : Bool). nat_eq u t || b) there ∙ or_true (nat_eq u t)

-- what stands above a type so many steps up stands above the type
above_further : (parents : List ℕ) (root d k e n m t u : ℕ) → HasDepth parents root d t → d ≡ k + e → n ≡ k + m → member u (ancestors parents m (up parents k t)) ≡ true → member u (ancestors parents n t) ≡ true
above_further parents root d zero e n m t u h deep long there =
    let same : n ≡ m = omega (arith, long) in
    ap (λ (i : ℕ). member u (ancestors parents i t)) same ∙ there
above_further parents root zero (suc k) e n m t u h deep long there = absurd (omega (arith, deep))
above_further parents root (suc d) (suc k) e zero m t u h deep long there = absurd (omega (arith, long))
above_further parents root (suc d) (suc k) e (suc n) m t u h deep long there =
    above_parent parents n t u h.0 (above_further parents root d k e n m (parent_at parents t) u h.1.1 (omega (arith, deep)) (omega (arith, long)) there)

above_at : (parents : List ℕ) (root d e n t u : ℕ) → HasDepth parents root d t → climbs_to parents d e t u ≡ true → d - e < n → member u (ancestors parents n t) ≡ true
above_at parents root d e n t u h climbs few = by (nat_le e d) refl climbs
  where
    by : (c : Bool) → nat_le e d ≡ c → (c && nat_eq (up parents (d - e) t) u) ≡ true → member u (ancestors parents n t) ≡ true
    by true le same =
        let above : e ≤ d = grind (arith, nat_tests, le) in
        above_further parents root d (d - e) e n (n - (d - e)) t u h (omega (arith, above)) (omega (arith, few))
        (above_itself parents (n - (d - e)) (up parents (d - e) t) u (omega (arith, few)) ((Decides-eqb (up parents (d - e) t) u).0 same))
    by false le same = let no : ⊥ = cc in absurd no

pub descends_in_tree : (parents : List ℕ) (t u : ℕ) (from to : Place) → IsPlace parents t from → climbs_to parents from.depth to.depth t u ≡ true → descends parents t u ≡ true
descends_in_tree parents t u from to a climbs =
    let few = a.few in
    above_at parents from.root from.depth to.depth (length parents) t u a.depth climbs (omega (arith, few))

pub descends_round : (parents : List ℕ) (t u last : ℕ) (from around to : Place) → IsPlace parents t from → last ≡ parent_at parents from.root → IsPlace parents last around → from.root ≢ 0
    → around.depth - to.depth < length parents - from.depth - 1 → climbs_to parents around.depth to.depth last u ≡ true → descends parents t u ≡ true
descends_round parents t u last from around to a is b apart left climbs =
    let few = a.few in
    let root_is : up parents from.depth t ≡ from.root = depth_above parents from.root from.depth from.depth 0 t (omega arith) a.depth in
    let left_is : length parents - from.depth ≡ suc (length parents - from.depth - 1) = omega (arith, left) in
    let beyond = above_at parents around.root around.depth to.depth (length parents - from.depth - 1) last u b.depth climbs left in
    let at_root = above_parent parents (length parents - from.depth - 1) from.root u apart (subst (λ (s : ℕ). member u (ancestors parents (length parents - from.depth - 1) s) ≡ true) is beyond) in
    above_further parents from.root from.depth from.depth 0 (length parents) (length parents - from.depth) t u a.depth (omega arith) (omega (arith, few))
    (ap (λ (s : ℕ). member u (ancestors parents (length parents - from.depth) s)) root_is ∙ (ap (λ (n : ℕ). member u (ancestors parents n from.root)) left_is ∙ at_root))

-- Going up

pub parent_is_ancestor : (parents : List ℕ) (from : Ancestor) → Stands parents from → 0 < from.depth → IsAncestor parents from (record { root = from.root; number = parent_at parents from.number; depth = from.depth - 1 })
parent_is_ancestor parents from h some =
    let one : from.depth - (from.depth - 1) ≡ 1 = omega (arith, some) in
    record {
      root = refl;
      depth = depth_above parents from.root from.depth 1 (from.depth - 1) from.number (omega (arith, some)) h;
      less = omega (arith, some);
      there = ap (λ (n : ℕ). up parents n from.number) one;
    }

-- the depth of an ancestor and the steps up to it
depth_at : (parents : List ℕ) (root d e most t u : ℕ) (way : Leads parents most t u) → most ≤ d → HasDepth parents root d t → HasDepth parents root e u → d ≡ way.steps + e
depth_at parents root d e most t u way few a b =
    let within = way.few in
    let there = depth_above parents root d way.steps (d - way.steps) t (omega (arith, within, few)) a in
    let same = depth_is_one parents root (d - way.steps) e u (subst (HasDepth parents root (d - way.steps)) way.there there) b in
    omega (arith, within, few, same)

pub jump_is_ancestor : (parents : List ℕ) (from : Ancestor) (place above : Place) → Stands parents from → 0 < from.depth → IsPlace parents from.number place → IsPlace parents place.jump above
    → place.root ≡ from.root → above.root ≡ from.root → IsAncestor parents from (record { root = from.root; number = place.jump; depth = above.depth })
jump_is_ancestor parents from place above h some own other root other_root =
    let own_depth = subst (λ (r : ℕ). HasDepth parents r place.depth from.number) root own.depth in
    let other_depth = subst (λ (r : ℕ). HasDepth parents r above.depth place.jump) other_root other.depth in
    let same = depth_is_one parents from.root from.depth place.depth from.number h own_depth in
    let way = own.jump in
    let count = depth_at parents from.root from.depth above.depth place.depth from.number place.jump way (omega (arith, same)) h other_depth in
    let more = own.some (λ e. not_root parents from.root from.depth from.number h some (e ∙ root)) in
    let steps : from.depth - above.depth ≡ way.steps = omega (arith, count) in
    record {
      root = refl;
      depth = other_depth;
      less = omega (arith, count, more);
      there = ap (λ (n : ℕ). up parents n from.number) steps ∙ way.there;
    }

pub record IsClimbing (parents : List ℕ) (from : Ancestor) (wanted : ℕ) (current : Ancestor) : Type 0 where
  pub depth : Stands parents current
  pub above : wanted ≤ current.depth
  pub there : up parents (current.depth - wanted) current.number ≡ up parents (from.depth - wanted) from.number

pub climb_goes_on : (parents : List ℕ) (from : Ancestor) (wanted : ℕ) (current next : Ancestor) → IsClimbing parents from wanted current → IsAncestor parents current next → wanted ≤ next.depth → IsClimbing parents from wanted next
climb_goes_on parents from wanted current next climbing step above =
    let less = step.less in
    record {
      depth = step.depth;
      above = above;
      there =
          ap (up parents (next.depth - wanted)) (sym step.there)
          ∙ (sym (up_further parents (current.depth - wanted) (current.depth - next.depth) (next.depth - wanted) current.number (omega (arith, less, above)))
          ∙ climbing.there);
    }

pub climb_ends : (parents : List ℕ) (from : Ancestor) (wanted : ℕ) (current : Ancestor) → IsClimbing parents from wanted current → current.depth ≤ wanted → current.number ≡ up parents (from.depth - wanted) from.number
climb_ends parents from wanted current climbing low =
    let none : 0 ≡ current.depth - wanted = omega (arith, low) in
    ap (λ (n : ℕ). up parents n current.number) none ∙ climbing.there

-- New places

pub placed : (parents : List ℕ) (places : List (Option Place)) (t : ℕ) (found : Option Place) (place : Place) → ArePlaces parents places → found ≡ place_at places t → found ≡ Some place → IsPlace parents t place
placed parents places t found place all there is = subst (λ (p : Option Place). IfSome p (IsPlace parents t)) (sym there ∙ is) (all t)

pub leads_to_itself : (parents : List ℕ) (most t : ℕ) → Leads parents most t t
leads_to_itself parents most t = record { steps = 0; few = omega arith; there = refl }

pub leads_further : (parents : List ℕ) (t : ℕ) (place middle : Place) → IsPlace parents t place → IsPlace parents place.jump middle → place.root ≡ middle.root → Leads parents place.depth t middle.jump
leads_further parents t place middle own other root =
    let first = own.jump in
    let second = other.jump in
    let few = second.few in
    let own_depth = subst (λ (r : ℕ). HasDepth parents r place.depth t) root own.depth in
    let count = depth_at parents middle.root place.depth middle.depth place.depth t place.jump first (omega arith) own_depth other.depth in
    record {
      steps = first.steps + second.steps;
      few = omega (arith, few, count);
      there = up_further parents (first.steps + second.steps) first.steps second.steps t refl ∙ (ap (up parents second.steps) first.there ∙ second.there);
    }

pub place_of_root : (parents : List ℕ) (t : ℕ) → 0 < length parents → IsPlace parents t (record { root = t; depth = 0; jump = t })
place_of_root parents t some = record {
  depth = refl;
  few = some;
  jump = leads_to_itself parents 0 t;
  some = λ apart. absurd (apart refl);
}

pub place_below : (parents : List ℕ) (t jump : ℕ) (above : Place) → t ≢ 0 → t ≢ above.root → IsPlace parents (parent_at parents t) above → Leads parents above.depth (parent_at parents t) jump → above.depth + 1 < length parents
    → IsPlace parents t (record { root = above.root; depth = above.depth + 1; jump = jump })
place_below parents t jump above apart other own way few =
    let within = way.few in
    let next : suc above.depth ≡ above.depth + 1 = omega arith in
    record {
      depth = subst (λ (d : ℕ). HasDepth parents above.root d t) next (apart, (other, own.depth));
      few = few;
      jump = record { steps = suc way.steps; few = omega (arith, within); there = way.there };
      some = λ _. omega arith;
    }

pub one_place_more : (parents : List ℕ) (places : List (Option Place)) (i : ℕ) (place : Option Place) → ArePlaces parents places → IfSome place (IsPlace parents i) → i < length places → ArePlaces parents (set places i place)
one_place_more parents places i place all own within t = by (nat_eq t i) refl
  where
    by : (b : Bool) → nat_eq t i ≡ b → IfSome (place_at (set places i place) t) (IsPlace parents t)
    by true e =
        let same = (Decides-eqb t i).0 e in
        subst (λ (u : ℕ). IfSome (place_at (set places i place) u) (IsPlace parents u)) (sym same)
        (subst (λ (p : Option Place). IfSome p (IsPlace parents i)) (sym (get_or-set_same places i place None within)) own)
    by false e =
        let other = get_or-set_other places i t place None (λ same. let yes = (Decides-eqb t i).1 same in let no : ⊥ = cc in no) in
        subst (λ (p : Option Place). IfSome p (IsPlace parents t)) (sym other) (all t)

nothing_at : (n t : ℕ) → place_at (replicate n None) t ≡ None
nothing_at zero t = refl
nothing_at (suc n) zero = refl
nothing_at (suc n) (suc t) = nothing_at n t

pub no_place : (parents : List ℕ) (n : ℕ) → ArePlaces parents (replicate n None)
no_place parents n t = subst (λ (place : Option Place). IfSome place (IsPlace parents t)) (sym (nothing_at n t)) tt
