-- The order of faults, and that the one that is answered comes first.
use Rattle.std.proofs.Common.{◌≡◌, ℕ, zero, suc, ◌≤◌, Bool, true, false, if◌then◌else◌, nat_eq, nat_le, nat_lt, ◌⊎◌, inl, inr, Option, Some, None, List, [], ◌∷◌, refl, subst, ap, ◌∙◌, arith}
use Rattle.std.proofs.lemmas.Bool.Decides.{nat_tests}
use Rattle.std.specs.List.{Contains}
use Rattle.std.proofs.lemmas.List.Elements.{Contains-append_left, Contains-append_right, Contains-append_cases}
use Rattle.mf_types.specs.declared.least.Fault.{Fault}
use Rattle.mf_types.specs.Faults.{after, file_rank, is_before, rank, IsLeast}

abbrev pub comes : ℕ → ℕ → ℕ → ℕ → ℕ → ℕ → Bool
comes a s r b t q = if nat_eq a b then (if nat_eq s t then nat_le r q else nat_lt s t) else nat_lt a b

comes_first : (a s r b t q : ℕ) → comes a s r b t q ≡ true → a ≤ b
comes_first a s r b t q h = grind (arith, nat_tests)

comes_second : (a s r b t q : ℕ) → comes a s r b t q ≡ true → a ≡ b → s ≤ t
comes_second a s r b t q h e = grind (arith, nat_tests)

comes_third : (a s r b t q : ℕ) → comes a s r b t q ≡ true → a ≡ b → s ≡ t → r ≤ q
comes_third a s r b t q h e f = grind (arith, nat_tests)

comes_by : (a s r b t q : ℕ) → a ≤ b → (a ≡ b → s ≤ t) → (a ≡ b → s ≡ t → r ≤ q) → comes a s r b t q ≡ true
comes_by a s r b t q h i j = grind (arith, nat_tests)

comes_other : (a s r b t q : ℕ) → comes a s r b t q ≡ false → comes b t q a s r ≡ true
comes_other a s r b t q h = grind (arith, nat_tests)

comes_same : (a s r : ℕ) → comes a s r a s r ≡ true
comes_same a s r = comes_by a s r a s r (omega arith) (λ _. omega arith) (λ _ _. omega arith)

comes_on : (a s r b t q c u p : ℕ) → comes a s r b t q ≡ true → comes b t q c u p ≡ true → comes a s r c u p ≡ true
comes_on a s r b t q c u p h i =
    let ab = comes_first a s r b t q h in
    let bc = comes_first b t q c u p i in
    comes_by a s r c u p (omega arith)
    (λ e. let f : a ≡ b = omega arith in let g : b ≡ c = omega arith in let st = comes_second a s r b t q h f in let tu = comes_second b t q c u p i g in omega arith)
    (λ e d. let f : a ≡ b = omega arith in let g : b ≡ c = omega arith in let st = comes_second a s r b t q h f in let tu = comes_second b t q c u p i g in let k : s ≡ t = omega arith in let l : t ≡ u = omega arith in let rq = comes_third a s r b t q h f k in let qp = comes_third b t q c u p i g l in omega arith)

itself : (f : Fault) → is_before f f ≡ true
itself f = comes_same (file_rank f.file) f.span.start (rank f.kind)

onward : (f g h : Fault) → is_before f g ≡ true → is_before g h ≡ true → is_before f h ≡ true
onward f g h a b = comes_on (file_rank f.file) f.span.start (rank f.kind) (file_rank g.file) g.span.start (rank g.kind) (file_rank h.file) h.span.start (rank h.kind) a b

other_way : (f g : Fault) → is_before f g ≡ false → is_before g f ≡ true
other_way f g h = comes_other (file_rank f.file) f.span.start (rank f.kind) (file_rank g.file) g.span.start (rank g.kind) h

-- the answer of a list behind the best so far
record Answered (best fault : Fault) (faults : List Fault) : Type 0 where
  from : (best ≡ fault) ⊎ Contains faults fault
  first : is_before fault best ≡ true
  others : (other : Fault) → Contains faults other → is_before fault other ≡ true

one_item : (x g : Fault) → Contains (x ∷ []) g → x ≡ g
one_item x g (zero, within, is) = is
one_item x g (suc k, within, is) = absurd (omega arith)

later : (best fault x : Fault) (faults : List Fault) → (best ≡ fault) ⊎ Contains faults fault → (best ≡ fault) ⊎ Contains (x ∷ faults) fault
later best fault x faults (inl e) = inl e
later best fault x faults (inr h) = inr (Contains-append_right (x ∷ []) faults fault h)

here_or_later : (fault x : Fault) (faults : List Fault) → (x ≡ fault) ⊎ Contains faults fault → Contains (x ∷ faults) fault
here_or_later fault x faults (inl e) = Contains-append_left (x ∷ []) faults fault (0, omega arith, e)
here_or_later fault x faults (inr h) = Contains-append_right (x ∷ []) faults fault h

all_others : (fault x : Fault) (faults : List Fault) → is_before fault x ≡ true → ((other : Fault) → Contains faults other → is_before fault other ≡ true) → (other : Fault) → Contains (x ∷ []) other ⊎ Contains faults other → is_before fault other ≡ true
all_others fault x faults first others other (inl h) = subst (λ (g : Fault). is_before fault g ≡ true) (one_item x other h) first
all_others fault x faults first others other (inr h) = others other h

step : (best x fault : Fault) (faults : List Fault) (b : Bool) → is_before best x ≡ b → ((next : Fault) → after (Some next) faults ≡ Some fault → Answered next fault faults) → after (if b then Some best else Some x) faults ≡ Some fault → Answered best fault (x ∷ faults)
step best x fault faults true before rest e =
    let r = rest best e in
    record {
      from = later best fault x faults r.from;
      first = r.first;
      others = λ other h. all_others fault x faults (onward fault best x r.first before) r.others other (Contains-append_cases (x ∷ []) faults other h);
    }
step best x fault faults false before rest e =
    let r = rest x e in
    record {
      from = inr (here_or_later fault x faults r.from);
      first = onward fault x best r.first (other_way best x before);
      others = λ other h. all_others fault x faults r.first r.others other (Contains-append_cases (x ∷ []) faults other h);
    }

answered : (best : Fault) (faults : List Fault) (fault : Fault) → after (Some best) faults ≡ Some fault → Answered best fault faults
answered best [] fault e =
    let same : best ≡ fault = cc in
    record {
      from = inl same;
      first = subst (λ (g : Fault). is_before g best ≡ true) same (itself best);
      others = λ other h. absurd (omega (arith, h.1));
    }
answered best (x ∷ faults) fault e = step best x fault faults (is_before best x) refl (λ next h. answered next faults fault h) e

pub least_of_all : (faults : List Fault) (fault : Fault) → after None faults ≡ Some fault → IsLeast faults fault
least_of_all [] fault e = cc
least_of_all (x ∷ faults) fault e =
    let r = answered x faults fault e in
    (here_or_later fault x faults r.from, λ other h. all_others fault x faults r.first r.others other (Contains-append_cases (x ∷ []) faults other h))

some_stays : (best : Fault) (faults : List Fault) → after (Some best) faults ≡ None → ⊥
some_stays best [] e = cc
some_stays best (x ∷ faults) e = stays (is_before best x) (λ next h. some_stays next faults h) e
  where
    stays : (b : Bool) → ((next : Fault) → after (Some next) faults ≡ None → ⊥) → after (if b then Some best else Some x) faults ≡ None → ⊥
    stays true rest e = rest best e
    stays false rest e = rest x e

pub none_of_all : (faults : List Fault) → after None faults ≡ None → faults ≡ []
none_of_all [] e = refl
none_of_all (x ∷ faults) e = absurd (some_stays x faults e)

stays_first : (best : Fault) (faults : List Fault) → ((other : Fault) → Contains faults other → is_before best other ≡ true) → after (Some best) faults ≡ Some best
stays_first best [] h = refl
stays_first best (x ∷ faults) h =
    ap (λ (b : Bool). after (if b then Some best else Some x) faults) (h x (here_or_later x x faults (inl refl)))
    ∙ stays_first best faults (λ other k. h other (Contains-append_right (x ∷ []) faults other k))

before_others : (best : Option Fault) (faults : List Fault) (fault : Fault) → after best faults ≡ Some fault → (other : Fault) → Contains faults other → is_before fault other ≡ true
before_others None faults fault e = (least_of_all faults fault e).1
before_others (Some best) faults fault e = (answered best faults fault e).others

none_there : (best : Option Fault) (faults : List Fault) → after best faults ≡ None → faults ≡ []
none_there None faults e = none_of_all faults e
none_there (Some best) faults e = absurd (some_stays best faults e)

again : (best : Option Fault) (faults : List Fault) (found : Option Fault) → after best faults ≡ found → after found faults ≡ found
again best faults None e = ap (after None) (none_there best faults e)
again best faults (Some fault) e = stays_first fault faults (before_others best faults fault e)

-- what was found is found no second time
pub after_twice : (best : Option Fault) (faults : List Fault) → after (after best faults) faults ≡ after best faults
after_twice best faults = again best faults (after best faults) refl
