-- A table of names has the innermost places, also after a variable came into scope or went out of it.
use Rattle.std.proofs.Common.{◌≡◌, ℕ, ◌+◌, ◌<◌, Bool, true, false, if◌then◌else◌, nat_eq, Option, Some, None, List, [], ◌∷◌, ◌++◌, length, refl, sym, ap, subst, ◌∙◌, arith, append_assoc, IsSome, IfSome, Vec}
use Rattle.std.specs.Cmp.Lexicographic.{bytes_decides, pointwise}
use Rattle.std.specs.Str.{bytes_eq}
use Rattle.std.proofs.lemmas.List.{append-nil, length-map, map-append}
use Rattle.std.proofs.lemmas.Map.Entries.{place_from_lookup}
use Rattle.indexmap.specs.IndexMap.{IndexMap, UpdatesBy}
use Rattle.mf_types.specs.declared.binders.Binder.{Binder}
use Rattle.mf_types.specs.Hiding.{IsKept, Notes, RememberHidden, names_of, place_of}
use Rattle.mf_types.specs.Typing.{Binders, last_from, place_in}

-- The table

-- names that no key has keep their places too
pub noted : {Z S : Type 0} (old new : IndexMap (Vec ℕ Z) ℕ S) (name : List ℕ) (place : Option ℕ) → UpdatesBy (λ a b. pointwise nat_eq a.items b.items) (λ key. bytes_eq name key.items) old new place → Notes (place_of old) name place (place_of new)
noted {Z = Z} old new name place updates other = by (bytes_eq name other) refl
  where
    at_key : (key : Vec ℕ Z) → bytes_eq other key.items ≡ true → bytes_eq name other ≡ false → place_of new other ≡ place_of old other
    at_key key passes apart =
        let same : other ≡ key.items = (bytes_decides other key.items).0 passes in
        subst (λ own. place_of new own ≡ place_of old own) (sym same) (updates.2 key (ap (bytes_eq name) (sym same) ∙ apart))

    kept : bytes_eq name other ≡ false → (after before : Option ℕ) → place_of new other ≡ after → place_of old other ≡ before → place_of new other ≡ place_of old other
    kept apart None None a b = a ∙ sym b
    kept apart (Some n) before a b = let key = place_from_lookup (λ key. bytes_eq other key.items) new.entries n a in at_key key.1 key.3 apart
    kept apart None (Some n) a b = let key = place_from_lookup (λ key. bytes_eq other key.items) old.entries n b in at_key key.1 key.3 apart

    by : (b : Bool) → bytes_eq name other ≡ b → place_of new other ≡ (if b then place else place_of old other)
    by true e = subst (λ own. place_of new own ≡ place) ((bytes_decides name other).0 e) updates.1
    by false e = kept e (place_of new other) (place_of old other) refl refl

-- The place of a name

last_of_more : (n : ℕ) (best : Option ℕ) (names : Binders) (own name : List ℕ) → last_from n best (names ++ own ∷ []) name ≡ (if bytes_eq own name then Some (n + length names) else last_from n best names name)
last_of_more n best [] own name = ap (λ m. if bytes_eq own name then Some m else best) (omega arith)
last_of_more n best (first ∷ names) own name =
    last_of_more (n + 1) (if bytes_eq first name then Some n else best) names own name
    ∙ ap (λ m. if bytes_eq own name then Some m else last_from (n + 1) (if bytes_eq first name then Some n else best) names name) (omega arith)

place_of_more : (names : Binders) (own name : List ℕ) → place_in (names ++ own ∷ []) name ≡ (if bytes_eq own name then Some (length names) else place_in names name)
place_of_more names own name =
    last_of_more 0 None names own name ∙ ap (λ m. if bytes_eq own name then Some m else place_in names name) (omega arith)

last_within : (n : ℕ) (best : Option ℕ) (names : Binders) (name : List ℕ) → IfSome best (λ m. m < n) → IfSome (last_from n best names name) (λ m. m < n + length names)
last_within n None [] name h = tt
last_within n (Some m) [] name h = omega (arith, h)
last_within n best (own ∷ names) name h =
    subst (λ limit. IfSome (last_from (n + 1) (if bytes_eq own name then Some n else best) names name) (λ m. m < limit)) (omega arith) (last_within (n + 1) (if bytes_eq own name then Some n else best) names name (by (bytes_eq own name) best h))
  where
    by : (b : Bool) (best : Option ℕ) → IfSome best (λ m. m < n) → IfSome (if b then Some n else best) (λ m. m < n + 1)
    by true best h = omega arith
    by false None h = tt
    by false (Some m) h = omega (arith, h)

pub place_within : (names : Binders) (name : List ℕ) → IfSome (place_in names name) (λ n. n < length names)
place_within names name = subst (λ limit. IfSome (place_in names name) (λ n. n < limit)) (omega arith) (last_within 0 None names name tt)

-- The places that variables remember

remember_more : (outer : Binders) (stack : List Binder) (binder : Binder) → RememberHidden outer stack → binder.hidden ≡ place_in (outer ++ names_of stack) binder.name → RememberHidden outer (stack ++ binder ∷ [])
remember_more outer [] binder so_far h = (h ∙ ap (λ names. place_in names binder.name) (append-nil outer), tt)
remember_more outer (first ∷ stack) binder so_far h =
    (so_far.0, remember_more (outer ++ first.name ∷ []) stack binder so_far.1 (h ∙ ap (λ names. place_in names binder.name) (sym (append_assoc outer (first.name ∷ []) (names_of stack)))))

remember_fewer : (outer : Binders) (stack : List Binder) (binder : Binder) → RememberHidden outer (stack ++ binder ∷ []) → RememberHidden outer stack
remember_fewer outer [] binder h = tt
remember_fewer outer (first ∷ stack) binder h = (h.0, remember_fewer (outer ++ first.name ∷ []) stack binder h.1)

remembered : (outer : Binders) (stack : List Binder) (binder : Binder) → RememberHidden outer (stack ++ binder ∷ []) → binder.hidden ≡ place_in (outer ++ names_of stack) binder.name
remembered outer [] binder h = h.0 ∙ ap (λ names. place_in names binder.name) (sym (append-nil outer))
remembered outer (first ∷ stack) binder h =
    remembered (outer ++ first.name ∷ []) stack binder h.1 ∙ ap (λ names. place_in names binder.name) (append_assoc outer (first.name ∷ []) (names_of stack))

names_of_more : (stack : List Binder) (binder : Binder) (name : List ℕ) → place_in (names_of (stack ++ binder ∷ [])) name ≡ (if bytes_eq binder.name name then Some (length stack) else place_in (names_of stack) name)
names_of_more stack binder name =
    ap (λ names. place_in names name) (map-append (λ (own : Binder). own.name) stack (binder ∷ []))
    ∙ (place_of_more (names_of stack) binder.name name
    ∙ ap (λ n. if bytes_eq binder.name name then Some n else place_in (names_of stack) name) (length-map stack (λ (own : Binder). own.name)))

-- Both together

-- a variable came into scope
pub kept_inside : (old new : List ℕ → Option ℕ) (stack later : List Binder) (binder : Binder) (name : List ℕ) (count : ℕ) → IsKept old stack → later ≡ stack ++ binder ∷ [] → binder.name ≡ name → binder.hidden ≡ old name → count ≡ length stack → Notes old name (Some count) new → IsKept new later
kept_inside old new stack later binder name count kept more own hidden place notes =
    subst (IsKept new) (sym more) (record {
      found = λ other.
          notes other
          ∙ (ap (λ n. if bytes_eq name other then Some n else old other) place
          ∙ (ap (λ o. if bytes_eq name other then Some (length stack) else o) (kept.found other)
          ∙ (ap (λ text. if bytes_eq text other then Some (length stack) else place_in (names_of stack) other) (sym own)
          ∙ sym (names_of_more stack binder other))));
      hidden = remember_more [] stack binder kept.hidden (hidden ∙ (kept.found name ∙ ap (place_in (names_of stack)) (sym own)));
    })

-- a variable went out of scope
pub kept_outside : (old new : List ℕ → Option ℕ) (stack rest : List Binder) (binder : Binder) (name : List ℕ) → IsKept old stack → stack ≡ rest ++ binder ∷ [] → name ≡ binder.name → Notes old name binder.hidden new → IsKept new rest
kept_outside old new stack rest binder name kept more own notes = record {
  found = λ other. notes other ∙ by other (bytes_eq name other) refl;
  hidden = remember_fewer [] rest binder before.hidden;
}
  where
    before : IsKept old (rest ++ binder ∷ [])
    before = subst (IsKept old) more kept

    by : (other : List ℕ) (b : Bool) → bytes_eq name other ≡ b → (if b then binder.hidden else old other) ≡ place_in (names_of rest) other
    by other true e = remembered [] rest binder before.hidden ∙ ap (place_in (names_of rest)) (sym own ∙ (bytes_decides name other).0 e)
    by other false e =
        before.found other
        ∙ (names_of_more rest binder other
        ∙ ap (λ (b : Bool). if b then Some (length rest) else place_in (names_of rest) other) (ap (λ text. bytes_eq text other) (sym own) ∙ e))

-- the name of a variable in scope has a place
pub is_there : (find : List ℕ → Option ℕ) (stack rest : List Binder) (binder : Binder) (name : List ℕ) → IsKept find stack → stack ≡ rest ++ binder ∷ [] → name ≡ binder.name → IsSome (find name)
is_there find stack rest binder name kept more own =
    let before : IsKept find (rest ++ binder ∷ []) = subst (IsKept find) more kept in
    let same : bytes_eq binder.name name ≡ true = (bytes_decides binder.name name).1 (sym own) in
    subst (λ o. IsSome o) (sym (before.found name ∙ (names_of_more rest binder name ∙ ap (λ (b : Bool). if b then Some (length rest) else place_in (names_of rest) name) same))) refl
