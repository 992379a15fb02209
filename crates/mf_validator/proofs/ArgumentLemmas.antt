-- The arguments of a step, one at a time.
use Rattle.std.proofs.Common.{◌≡◌, ◌≢◌, refl, sym, ◌∙◌, ap, ap₂, ℕ, suc, ◌+◌, ◌<◌, List, [], ◌∷◌, ◌++◌, map, length, get_or, drop, Bor, Option, Some, None, arith, add-one, drop-cons, append_assoc}
use Rattle.std.proofs.Math.ListN.{get_or-map}
use Rattle.std.proofs.lemmas.List.{length-map}
use Rattle.mf_model.specs.declared.task.TypedTask.{TypedTask}
use Rattle.mf_model.specs.Options.{◌>>=◌}
use Rattle.mf_validator.specs.PlanText.{argument_of, arguments_of}

abbrev pub behind_front : List ℕ → Option (List ℕ) → Option (List ℕ)
behind_front front (Some objects) = Some (front ++ objects)
behind_front front None = None

unfoldable pub one_behind : Option ℕ → Option (List ℕ) → Option (List ℕ)
one_behind found rest = found >>= λ object. rest >>= λ objects. Some (object ∷ objects)

nothing : (found : Option ℕ) → one_behind found None ≡ None
unfolding one_behind
nothing (Some n) = refl
nothing None = refl

more : (task : TypedTask) (types name : List ℕ) (parameters names : List (List ℕ)) → arguments_of task parameters names ≡ None → arguments_of task (types ∷ parameters) (name ∷ names) ≡ None
unfolding one_behind
more task types name parameters names e = ap (one_behind (argument_of task types name)) e ∙ nothing (argument_of task types name)

pub unequal : (task : TypedTask) (parameters names : List (List ℕ)) → length parameters ≢ length names → arguments_of task parameters names ≡ None
unequal task [] [] differ = absurd (differ refl)
unequal task [] (name ∷ names) differ = refl
unequal task (types ∷ parameters) [] differ = refl
unequal task (types ∷ parameters) (name ∷ names) differ = more task types name parameters names (unequal task parameters names (λ e. differ (ap suc e)))

abbrev pub texts : List (Bor (List ℕ)) → List (List ℕ)
texts names = map (λ name. name.now) names

-- the arguments from a place on begin with the one there
one-argument : (task : TypedTask) (parameters : List (List ℕ)) (names : List (Bor (List ℕ))) (at : ℕ) (types : List ℕ) (none : Bor (List ℕ)) → at < length parameters → at < length names → types ≡ get_or parameters at types
    → arguments_of task (drop at parameters) (drop at (texts names))
    ≡ one_behind (argument_of task types (get_or names at none).now) (arguments_of task (drop (at + 1) parameters) (drop (at + 1) (texts names)))
unfolding one_behind
one-argument task parameters names at types none within inside is =
    let first : drop at parameters ≡ types ∷ drop (at + 1) parameters = rw (add-one) (drop-cons parameters at types within ∙ ap (λ t. t ∷ drop (suc at) parameters) (sym is)) in
    let size : at < length (texts names) = omega (arith, length-map names (λ name. name.now)) in
    let name : drop at (texts names) ≡ (get_or names at none).now ∷ drop (at + 1) (texts names) =
    rw (add-one) (drop-cons (texts names) at none.now size ∙ ap (λ n. n ∷ drop (suc at) (texts names)) (get_or-map (λ n. n.now) names at none)) in
    ap₂ (λ ps ns. arguments_of task ps ns) first name

no_front : (front : List ℕ) (rest : Option (List ℕ)) → behind_front front (one_behind None rest) ≡ None
unfolding one_behind
no_front front rest = refl

one_front : (front : List ℕ) (object : ℕ) (rest : Option (List ℕ)) → behind_front front (one_behind (Some object) rest) ≡ behind_front (front ++ object ∷ []) rest
unfolding one_behind
one_front front object (Some objects) = ap Some (sym (append_assoc front (object ∷ []) objects))
one_front front object None = refl

-- a name that is no argument
pub fails-at : (task : TypedTask) (parameters : List (List ℕ)) (names : List (Bor (List ℕ))) (at : ℕ) (types : List ℕ) (none : Bor (List ℕ)) (front : List ℕ) → at < length parameters → at < length names → types ≡ get_or parameters at types
    → argument_of task types (get_or names at none).now ≡ None → behind_front front (arguments_of task (drop at parameters) (drop at (texts names))) ≡ arguments_of task parameters (texts names)
    → arguments_of task parameters (texts names) ≡ None
fails-at task parameters names at types none front within inside is fails read =
    let rest : Option (List ℕ) = arguments_of task (drop (at + 1) parameters) (drop (at + 1) (texts names)) in
    sym read ∙ ap (behind_front front) (one-argument task parameters names at types none within inside is ∙ ap (λ o. one_behind o rest) fails) ∙ no_front front rest

-- a name that is one
pub goes-on : (task : TypedTask) (parameters : List (List ℕ)) (names : List (Bor (List ℕ))) (at : ℕ) (types : List ℕ) (none : Bor (List ℕ)) (front after : List ℕ) (object : ℕ) → at < length parameters → at < length names → types ≡ get_or parameters at types
    → argument_of task types (get_or names at none).now ≡ Some object → after ≡ front ++ object ∷ []
    → behind_front front (arguments_of task (drop at parameters) (drop at (texts names))) ≡ arguments_of task parameters (texts names)
    → behind_front after (arguments_of task (drop (at + 1) parameters) (drop (at + 1) (texts names))) ≡ arguments_of task parameters (texts names)
goes-on task parameters names at types none front after object within inside is found more read =
    let rest : Option (List ℕ) = arguments_of task (drop (at + 1) parameters) (drop (at + 1) (texts names)) in
    ap (λ f. behind_front f rest) more ∙ sym (one_front front object rest)
    ∙ sym (ap (behind_front front) (one-argument task parameters names at types none within inside is ∙ ap (λ o. one_behind o rest) found)) ∙ read
