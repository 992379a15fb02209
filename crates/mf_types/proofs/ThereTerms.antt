-- Where no fault stands in an atom or a function term, its name and its arguments have numbers.
use Rattle.std.proofs.Common.{◌≡◌, ℕ, suc, ◌+◌, Bool, true, false, if◌then◌else◌, nat_eq, Option, Some, None, List, [], ◌∷◌, map, length, slice_index_or}
use Rattle.std.specs.List.{flat_map}
use Rattle.std.specs.Str.{bytes_eq}
use Rattle.mf_model.specs.declared.form.Word.{Word}
use Rattle.mf_model.specs.Options.{◌>>=◌}
use Rattle.mf_model.specs.Resolution.{number_of}
use Rattle.mf_types.specs.Arguments.{is_variable, types_at, entry, unknown, term_faults, count_faults, symbol_faults}
use Rattle.mf_types.specs.Scopes.{Scope, Variable, Placed, inner, find_from, find_in}
use Rattle.mf_types.specs.Sites.{Site}
use Rattle.mf_types.specs.Typing.{Binders, last_from, place_in, variable_at, object_at, term_of, terms_of, symbol_of}
use Rattle.mf_types.specs.Tasks.{objects_of}
use Rattle.mf_types.proofs.There.{IsThere, made_there, first_empty, never, passed, each_there}

-- the names of the variables in scope
abbrev pub names_in : Scope → Binders
names_in scope = map (λ v. v.name) scope

kept : (name : List ℕ) (names : Binders) (m k : ℕ) → IsThere (last_from m (Some k) names name)
kept name [] m k = tt
kept name (own ∷ names) m k = elim (bytes_eq own name) as (λ b. IsThere (last_from (m + 1) (if b then Some m else Some k) names name)) [ true ↦ kept name names (m + 1) m | false ↦ kept name names (m + 1) k ]

in_front : (name : List ℕ) (names : Binders) (n m : ℕ) (v : Variable) (best : Option ℕ) (b : Bool) (found : Option Placed) → (IsThere found → (other : Option ℕ) → IsThere (last_from (m + 1) other names name)) → IsThere (inner found b n v) → IsThere (last_from (m + 1) (if b then Some m else best) names name)
in_front name names n m v best b (Some placed) further h = further tt (if b then Some m else best)
in_front name names n m v best true None further h = kept name names (m + 1) m
in_front name names n m v best false None further h = absurd h

placed : (name : List ℕ) (scope : Scope) (n m : ℕ) (best : Option ℕ) → IsThere (find_from n scope name) → IsThere (last_from m best (names_in scope) name)
placed name [] n m best h = absurd h
placed name (v ∷ vs) n m best h = in_front name (names_in vs) n m v best (bytes_eq v.name name) (find_from (suc n) vs name) (λ there other. placed name vs (suc n) (m + 1) other there) h

-- terms

term_by : (site : Site) (w : Word) (b : Bool) (found : Option Placed) (place number : Option ℕ) (table : List (List ℕ)) → (IsThere found → IsThere place) → unknown site w (if b then types_at found else entry table number) ≡ [] → IsThere (if b then variable_at place else object_at number)
term_by site w true None place number table h e = never _ _ _ e
term_by site w true (Some x) place number table h e = made_there _ place (h tt)
term_by site w false found place None table h e = never _ _ _ e
term_by site w false found place (Some n) table h e = tt

pub term_there : (site : Site) (scope : Scope) (w : Word) → term_faults site scope w ≡ [] → IsThere (term_of site.declared (names_in scope) w)
unfolding term_of
term_there site scope w e =
    term_by site w (is_variable w.text) (find_in scope w.text) (place_in (names_in scope) w.text) (number_of site.declared.objects w.text) site.declared.object_types (λ found. placed w.text scope 0 0 None found) e

pub terms_there : (site : Site) (scope : Scope) (ws : List Word) → flat_map (term_faults site scope) ws ≡ [] → IsThere (terms_of site.declared (names_in scope) ws)
terms_there site scope = each_there (term_of site.declared (names_in scope)) (term_faults site scope) (term_there site scope)

-- objects, where no variable is in scope

object_by : (site : Site) (w : Word) (b : Bool) (number : Option ℕ) (table : List (List ℕ)) → unknown site w (if b then None else entry table number) ≡ [] → IsThere number
object_by site w true number table e = never _ _ _ e
object_by site w false None table e = never _ _ _ e
object_by site w false (Some n) table e = tt

object_there : (site : Site) (w : Word) → term_faults site [] w ≡ [] → IsThere (number_of site.declared.objects w.text)
object_there site w e = object_by site w (is_variable w.text) (number_of site.declared.objects w.text) site.declared.object_types e

pub objects_there : (site : Site) (ws : List Word) → flat_map (term_faults site []) ws ≡ [] → IsThere (objects_of site.declared ws)
objects_there site = each_there (λ w. number_of site.declared.objects w.text) (term_faults site []) (object_there site)

-- predicates and functions

counted : (b : Bool) (n : ℕ) → b ≡ true → IsThere (if b then Some n else None)
counted true n e = tt
counted false n e = let h : ⊥ = cc in absurd h

symbol_by : (site : Site) (scope : Scope) (name : Word) (ws : List Word) (types : List (List (List ℕ))) (number : Option ℕ) → symbol_faults site scope name ws (entry types number) ≡ [] → IsThere (number >>= (λ n. if nat_eq (length (slice_index_or types n [])) (length ws) then Some n else None))
symbol_by site scope name ws types None e = never _ _ _ e
symbol_by site scope name ws types (Some n) e =
    let own : List (List ℕ) = slice_index_or types n [] in
    let same = nat_eq (length own) (length ws) in
    counted same n (passed same _ (first_empty (count_faults site name ws own) _ e))

pub symbol_there : (site : Site) (scope : Scope) (names : List (List ℕ)) (types : List (List (List ℕ))) (name : Word) (ws : List Word) → symbol_faults site scope name ws (entry types (number_of names name.text)) ≡ [] → IsThere (symbol_of names types name.text (length ws))
unfolding symbol_of
symbol_there site scope names types name ws e = symbol_by site scope name ws types (number_of names name.text) e
