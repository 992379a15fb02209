-- Names entered one after another are the first ones of each name; the parent of a type is that of its first item.
use Rattle.std.proofs.Common.{◌≡◌, ℕ, suc, ◌+◌, ◌<◌, Bool, true, false, cond, ◌||◌, not, if◌then◌else◌, nat_lt, Some, None, List, [], ◌∷◌, ◌++◌, map, length, refl, ap, ◌∙◌, sym, subst, arith, append_assoc, add-one, drop, drop-cons, get_or}
use Rattle.std.proofs.lemmas.List.{append-nil, map-append}
use Rattle.std.proofs.lemmas.Bool.Decides.{nat_tests}
use Rattle.std.specs.List.{list_any, position, position_or_len}
use Rattle.std.specs.Str.{bytes_eq}
use Rattle.mf_model.proofs.Choices.{same_text}
use Rattle.mf_model.specs.declared.form.Typed.{Typed}
use Rattle.mf_model.specs.declared.form.Word.{Word}
use Rattle.mf_types.specs.Names.{is_member, firsts, item_text, text_of, object_name, type_names, type_words, type_firsts, item_types, types_of, kept_types, head_or_zero, parent_in, parents_of}
use Rattle.mf_types.specs.Tables.{entered, with_name, first_at, parent_by}

pub entered-map : {A : Type 0} (f : A → List ℕ) (seen : List (List ℕ)) (xs : List A) → entered seen (map f xs) ≡ seen ++ map f (firsts f seen xs)
entered-map f seen [] = sym (append-nil seen)
entered-map f seen (x ∷ xs) = elim (is_member seen (f x)) as (λ b. entered (if b then seen else seen ++ f x ∷ []) (map f xs) ≡ seen ++ map f (if b then firsts f seen xs else x ∷ firsts f (seen ++ f x ∷ []) xs)) [ true ↦ entered-map f seen xs | false ↦ entered-map f (seen ++ f x ∷ []) xs ∙ append_assoc seen (f x ∷ []) _ ]

pub entered-append : (seen xs ys : List (List ℕ)) → entered seen (xs ++ ys) ≡ entered (entered seen xs) ys
entered-append seen [] ys = refl
entered-append seen (x ∷ xs) ys = entered-append (with_name seen x) xs ys

pub firsts-append : {A : Type 0} (f : A → List ℕ) (seen : List (List ℕ)) (xs ys : List A) → firsts f seen (xs ++ ys) ≡ firsts f seen xs ++ firsts f (entered seen (map f xs)) ys
firsts-append f seen [] ys = refl
firsts-append f seen (x ∷ xs) ys = elim (is_member seen (f x)) as (λ b. (if b then firsts f seen (xs ++ ys) else x ∷ firsts f (seen ++ f x ∷ []) (xs ++ ys)) ≡ (if b then firsts f seen xs else x ∷ firsts f (seen ++ f x ∷ []) xs) ++ firsts f (entered (if b then seen else seen ++ f x ∷ []) (map f xs)) ys) [ true ↦ firsts-append f seen xs ys | false ↦ ap (λ zs. x ∷ zs) (firsts-append f (seen ++ f x ∷ []) xs ys) ]

-- the place of what passes a test in a list with one more item in front
place_step : (b : Bool) (n l : ℕ) → cond (nat_lt (cond (not b) (1 + n) 0) (suc l)) (Some (cond (not b) (1 + n) 0)) None ≡ (if b then Some 0 else cond (nat_lt n l) (Some (suc n)) None)
place_step true n l = grind (arith, nat_tests)
place_step false n l = grind (arith, nat_tests)

pub position-cons : {A : Type 0} (p : A → Bool) (x : A) (xs : List A) → position p (x ∷ xs) ≡ (if p x then Some 0 else cond (nat_lt (position_or_len p xs) (length xs)) (Some (suc (position_or_len p xs))) None)
position-cons p x xs = place_step (p x) (position_or_len p xs) (length xs)

first_past : (b : Bool) (n : ℕ) (t : List ℕ) (ts : List (List ℕ)) → first_at (t ∷ ts) (cond b (Some (suc n)) None) ≡ first_at ts (cond b (Some n) None)
first_past true n t ts = refl
first_past false n t ts = refl

first-cons : (b : Bool) (r : Bool) (n : ℕ) (t : List ℕ) (ts : List (List ℕ)) → first_at (t ∷ ts) (if b then Some 0 else cond r (Some (suc n)) None) ≡ (if b then head_or_zero t else first_at ts (cond r (Some n) None))
first-cons true r n t ts = refl
first-cons false r n t ts = first_past r n t ts

pub parent_by-cons : (own : List (List ℕ)) (types : List (List ℕ)) (name x : List ℕ) (t : List ℕ) → parent_by (x ∷ own) (t ∷ types) name ≡ (if bytes_eq x name then head_or_zero t else parent_by own types name)
parent_by-cons own types name x t =
    ap (first_at (t ∷ types)) (position-cons (λ o. bytes_eq o name) x own)
    ∙ first-cons (bytes_eq x name) (nat_lt (position_or_len (λ o. bytes_eq o name) own) (length own)) (position_or_len (λ o. bytes_eq o name) own) t types

no_name : (seen : List (List ℕ)) (t name : List ℕ) (b : Bool) → is_member seen t ≡ true → is_member seen name ≡ false → bytes_eq t name ≡ b → b ≡ false
no_name seen t name true stands absent e = let same : t ≡ name = same_text t name e in let there : is_member seen name ≡ true = subst (λ (n : List ℕ). is_member seen n ≡ true) same stands in cc
no_name seen t name false stands absent e = refl

pub any-push : {A : Type 0} (p : A → Bool) (xs : List A) (y : A) → list_any p (xs ++ y ∷ []) ≡ (list_any p xs || p y)
any-push p [] y = elim (p y) as (λ b. (b || false) ≡ (false || b)) [ true ↦ refl | false ↦ refl ]
any-push p (x ∷ xs) y = elim (p x) as (λ b. (b || list_any p (xs ++ y ∷ [])) ≡ ((b || list_any p xs) || p y)) [ true ↦ refl | false ↦ any-push p xs y ]

still_absent : (seen : List (List ℕ)) (t name : List ℕ) → is_member seen name ≡ false → bytes_eq t name ≡ false → is_member (seen ++ t ∷ []) name ≡ false
still_absent seen t name a b = any-push (λ own. bytes_eq own name) seen t ∙ rw (a, b) refl

-- the parent of a name by the first items of each name that isn't among the seen ones
abbrev said : List (List ℕ) → List ℕ → List Typed → ℕ
said names name kept = parent_by (map item_text kept) (map (item_types names) kept) name

told_step : (names : List (List ℕ)) (item : Typed) (items : List Typed) (name : List ℕ) (seen : List (List ℕ)) (stands same : Bool)
    → ((other : List (List ℕ)) → is_member other name ≡ false → parent_in names items name ≡ said names name (firsts item_text other items))
    → is_member seen name ≡ false → is_member seen item.word.text ≡ stands → bytes_eq item.word.text name ≡ same
    → (if same then head_or_zero (types_of names item.types) else parent_in names items name) ≡ said names name (if stands then firsts item_text seen items else item ∷ firsts item_text (seen ++ item.word.text ∷ []) items)
told_step names item items name seen true true rest absent stands same = let no : true ≡ false = no_name seen item.word.text name true stands absent same in cc
told_step names item items name seen true false rest absent stands same = rest seen absent
told_step names item items name seen false true rest absent stands same =
    let kept = firsts item_text (seen ++ item.word.text ∷ []) items in
    sym (parent_by-cons (map item_text kept) (map (item_types names) kept) name item.word.text (item_types names item) ∙ ap (λ (b : Bool). if b then head_or_zero (types_of names item.types) else said names name kept) same)
told_step names item items name seen false false rest absent stands same =
    let kept = firsts item_text (seen ++ item.word.text ∷ []) items in
    rest (seen ++ item.word.text ∷ []) (still_absent seen item.word.text name absent same)
    ∙ sym (parent_by-cons (map item_text kept) (map (item_types names) kept) name item.word.text (item_types names item) ∙ ap (λ (b : Bool). if b then head_or_zero (types_of names item.types) else said names name kept) same)

pub parent_is : (names seen : List (List ℕ)) (items : List Typed) (name : List ℕ) → is_member seen name ≡ false → parent_in names items name ≡ said names name (firsts item_text seen items)
parent_is names seen [] name absent = refl
parent_is names seen (item ∷ items) name absent = told_step names item items name seen (is_member seen item.word.text) (bytes_eq item.word.text name) (λ (other : List (List ℕ)) (h : is_member other name ≡ false). parent_is names other items name h) absent refl refl

-- the table of types

pub table_names : (items : List Typed) (words : List Word) (old new : List (List ℕ)) → new ≡ entered old (map text_of words) → old ≡ object_name ∷ [] → words ≡ type_words items → new ≡ type_names items
table_names items words old new e f g = e ∙ (rw (f, g) (entered-map text_of (object_name ∷ []) (type_words items)))

own_parents : (names : List (List ℕ)) (items : List Typed) (more : List (List ℕ)) → map (parent_by (entered [] (map item_text items)) (map (item_types names) (firsts item_text [] items))) more ≡ map (parent_in names items) more
own_parents names items [] = refl
own_parents names items (name ∷ more) =
    ap (λ (own : List (List ℕ)). parent_by own (map (item_types names) (firsts item_text [] items)) name ∷ map (parent_by (entered [] (map item_text items)) (map (item_types names) (firsts item_text [] items))) more) (entered-map item_text [] items)
    ∙ (ap (λ (n : ℕ). n ∷ map (parent_by (entered [] (map item_text items)) (map (item_types names) (firsts item_text [] items))) more) (sym (parent_is names [] items name refl))
    ∙ ap (λ (ns : List ℕ). parent_in names items name ∷ ns) (own_parents names items more))

table_parents : (items : List Typed) (names own types : List (List ℕ)) (words : List Word) (parents : List ℕ) → names ≡ type_names items → own ≡ entered [] (map item_text (kept_types items)) → types ≡ map (item_types names) (firsts item_text [] (kept_types items)) → words ≡ type_firsts items → parents ≡ map (parent_by own types) (object_name ∷ map text_of words) → parents ≡ parents_of items
table_parents items names own types words parents a b c d e =
    let all = entered [] (map item_text (kept_types items)) in
    let kept = firsts item_text [] (kept_types items) in
    e
    ∙ (ap (λ (o : List (List ℕ)). map (parent_by o types) (object_name ∷ map text_of words)) b
    ∙ (ap (λ (t : List (List ℕ)). map (parent_by all t) (object_name ∷ map text_of words)) c
    ∙ (ap (λ (ws : List Word). map (parent_by all (map (item_types names) kept)) (object_name ∷ map text_of ws)) d
    ∙ (ap (λ (ns : List (List ℕ)). map (parent_by all (map (item_types ns) kept)) (type_names items)) a
    ∙ own_parents (type_names items) (kept_types items) (type_names items)))))

pub table_built : (items : List Typed) (old_names names own_old own types_old types seen_types : List (List ℕ)) (words firsts_seen : List Word) (parents : List ℕ)
    → names ≡ entered old_names (map text_of words) → old_names ≡ object_name ∷ [] → words ≡ type_words items
    → firsts_seen ≡ firsts text_of old_names words
    → own_old ≡ [] → types_old ≡ [] → own ≡ entered own_old (map item_text (kept_types items)) → types ≡ types_old ++ map (item_types names) (firsts item_text own_old (kept_types items)) → seen_types ≡ types
    → parents ≡ map (parent_by own seen_types) (object_name ∷ map text_of firsts_seen) → parents ≡ parents_of items
table_built items old_names names own_old own types_old types seen_types words firsts_seen parents a b c d e f g h i j =
    table_parents items names own seen_types firsts_seen parents
    (table_names items words old_names names a b c)
    (g ∙ ap (λ (o : List (List ℕ)). entered o (map item_text (kept_types items))) e)
    (i ∙ (h ∙ rw (e, f) refl))
    (d ∙ rw (b, c) refl)
    j

map-same : {A : Type 0} (xs : List A) → map (λ x. x) xs ≡ xs
map-same [] = refl
map-same (x ∷ xs) = ap (λ ys. x ∷ ys) (map-same xs)

pub entered-empty : (names : List (List ℕ)) → entered [] names ≡ firsts (λ name. name) [] names
entered-empty names = ap (λ (ns : List (List ℕ)). entered [] ns) (sym (map-same names)) ∙ (entered-map (λ name. name) [] names ∙ map-same (firsts (λ name. name) [] names))

-- one more item of a walk
pub walked : {A : Type 0} (walk : List A → List (List ℕ)) (f : A → List (List ℕ)) (xs : List A) (i : ℕ) (x : A) (names new all : List (List ℕ))
    → ((y : A) (ys : List A) → walk (y ∷ ys) ≡ f y ++ walk ys) → i < length xs → x ≡ get_or xs i x
    → entered names (walk (drop i xs)) ≡ all → new ≡ entered names (f x) → entered new (walk (drop (i + 1) xs)) ≡ all
walked walk f xs i x names new all cons within is before step =
    let front : drop i xs ≡ x ∷ drop (i + 1) xs = rw (add-one, drop-cons xs i x) (ap (λ (y : _). y ∷ drop (suc i) xs) (sym is)) in
    ap (λ (ns : List (List ℕ)). entered ns (walk (drop (i + 1) xs))) step
    ∙ (sym (entered-append names (f x) (walk (drop (i + 1) xs)))
    ∙ (ap (entered names) (sym (cons x (drop (i + 1) xs)))
    ∙ (ap (λ (ys : List _). entered names (walk ys)) (sym front) ∙ before)))

pub one_names : {A : Type 0} (f : A → List ℕ) (xs : List A) (before after : List (List ℕ)) → before ≡ [] → after ≡ entered before (map f xs) → after ≡ map f (firsts f [] xs)
one_names f xs before after a b = b ∙ (ap (λ (ns : List (List ℕ)). entered ns (map f xs)) a ∙ entered-map f [] xs)

pub both_names : {A : Type 0} (f : A → List ℕ) (xs ys : List A) (before between after : List (List ℕ)) → before ≡ [] → between ≡ entered before (map f xs) → after ≡ entered between (map f ys) → after ≡ map f (firsts f [] (xs ++ ys))
both_names f xs ys before between after a b c =
    one_names f (xs ++ ys) before after a
    (c ∙ (ap (λ (ns : List (List ℕ)). entered ns (map f ys)) b ∙ (sym (entered-append before (map f xs) (map f ys)) ∙ ap (entered before) (sym (map-append f xs ys)))))

pub both_types : {A B : Type 0} (f : A → List ℕ) (g : A → B) (xs ys : List A) (before between : List (List ℕ)) (first second third : List B) → before ≡ [] → between ≡ entered before (map f xs) → first ≡ [] → second ≡ first ++ map g (firsts f before xs) → third ≡ second ++ map g (firsts f between ys) → third ≡ map g (firsts f [] (xs ++ ys))
both_types {A} {B} f g xs ys before between first second third a b c d e =
    let between_is : between ≡ entered [] (map f xs) = b ∙ ap (λ (ns : List (List ℕ)). entered ns (map f xs)) a in
    let second_is : second ≡ map g (firsts f [] xs) = d ∙ (ap (λ (zs : List B). zs ++ map g (firsts f before xs)) c ∙ ap (λ (ns : List (List ℕ)). map g (firsts f ns xs)) a) in
    e ∙ (ap (λ (zs : List B). zs ++ map g (firsts f between ys)) second_is
    ∙ (ap (λ (ns : List (List ℕ)). map g (firsts f [] xs) ++ map g (firsts f ns ys)) between_is
    ∙ (sym (map-append g (firsts f [] xs) (firsts f (entered [] (map f xs)) ys))
    ∙ ap (map g) (sym (firsts-append f [] xs ys)))))
