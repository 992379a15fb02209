-- The numbers of types are below their number, so they have 16 bits where the types are few.
use Rattle.std.proofs.Common.{◌≡◌, ℕ, ◌<◌, ◌≤◌, true, false, if◌then◌else◌, Option, Some, None, List, [], ◌∷◌, map, length, refl, arith, All}
use Rattle.std.specs.Str.{bytes_eq}
use Rattle.std.proofs.lemmas.List.Elements.{All-nil, All-cons, All-head}
use Rattle.std.proofs.lemmas.List.Quantifiers.{position-Some}
use Rattle.mf_model.specs.declared.form.Word.{Word}
use Rattle.mf_model.specs.declared.form.Typed.{Typed}
use Rattle.mf_model.specs.declared.form.Header.{Header}
use Rattle.mf_model.specs.declared.form.Domain.{Domain}
use Rattle.mf_model.specs.declared.form.Problem.{Problem}
use Rattle.mf_model.specs.Resolution.{number_of}
use Rattle.mf_types.specs.Names.{Declared, declared_by, numbers_by, numbers_of, types_of, item_types, head_or_zero, parent_in, header_types, type_names, kept_types, firsts, item_text, header_text}
use Rattle.mf_types.specs.Tasks.{AreFew, AreNarrow, IsNarrow}

abbrev pub AreBelow : ℕ → List ℕ → Type 0
AreBelow most ns = All (λ n. n < most) ns

pub every : {X Y : Type 0} (P : X → Type 0) (f : Y → X) → ((y : Y) → P (f y)) → (ys : List Y) → All P (map f ys)
every P f h [] = All-nil P
every P f h (y ∷ ys) = All-cons P (f y) (map f ys) (h y) (every P f h ys)

number_below : (names : List (List ℕ)) (name : List ℕ) (n : ℕ) → number_of names name ≡ Some n → n < length names
number_below names name n e = (position-Some (λ own. bytes_eq own name) names n [] e).0

by_number : (most : ℕ) (o : Option ℕ) (ns : List ℕ) → ((n : ℕ) → o ≡ Some n → n < most) → AreBelow most ns → AreBelow most (numbers_by o ns)
by_number most None ns h all = all
by_number most (Some n) ns h all = All-cons (λ m. m < most) n ns (h n refl) all

numbers_below : (names : List (List ℕ)) (ws : List Word) → AreBelow (length names) (numbers_of names ws)
numbers_below names [] = All-nil (λ n. n < length names)
numbers_below names (w ∷ ws) = by_number (length names) (number_of names w.text) (numbers_of names ws) (number_below names w.text) (numbers_below names ws)

pub types_below : (names : List (List ℕ)) → 0 < length names → (ws : List Word) → AreBelow (length names) (types_of names ws)
types_below names h [] = All-cons (λ n. n < length names) 0 [] h (All-nil (λ n. n < length names))
types_below names h (w ∷ ws) = numbers_below names (w ∷ ws)

narrower : (most : ℕ) (ns : List ℕ) → most ≤ 10001 → AreBelow most ns → IsNarrow ns
narrower most ns h all k d within = let here = all k d within in omega (arith, here, h)

-- of few types, where there may be none
narrow_row : (names : List (List ℕ)) → length names ≤ 10001 → (ws : List Word) → IsNarrow (types_of names ws)
narrow_row names h [] = All-cons (λ n. n < 65536) 0 [] (omega arith) (All-nil (λ n. n < 65536))
narrow_row names h (w ∷ ws) = narrower (length names) (numbers_of names (w ∷ ws)) h (numbers_below names (w ∷ ws))

pub narrow_items : (names : List (List ℕ)) → length names ≤ 10001 → (items : List Typed) → All IsNarrow (map (item_types names) items)
narrow_items names h items = every IsNarrow (item_types names) (λ item. narrow_row names h item.types) items

head_below : (most : ℕ) → 0 < most → (ns : List ℕ) → AreBelow most ns → head_or_zero ns < most
head_below most h [] all = h
head_below most h (n ∷ ns) all = All-head (λ m. m < most) n ns all

parent_below : (names : List (List ℕ)) → 0 < length names → (items : List Typed) (name : List ℕ) → parent_in names items name < length names
parent_below names h [] name = h
parent_below names h (item ∷ items) name =
    elim (bytes_eq item.word.text name) as (λ b. (if b then head_or_zero (types_of names item.types) else parent_in names items name) < length names)
    [ true ↦ head_below (length names) h (types_of names item.types) (types_below names h item.types) | false ↦ parent_below names h items name ]

-- every number of what a domain and a problem declare
pub record AreNumbers (declared : Declared) : Type 0 where
  pub parents : AreBelow (length declared.types) declared.parents
  pub objects : All (AreBelow (length declared.types)) declared.object_types
  pub predicates : All (All (AreBelow (length declared.types))) declared.predicate_types
  pub functions : All (All (AreBelow (length declared.types))) declared.function_types

header_below : (names : List (List ℕ)) → 0 < length names → (h : Header) → All (AreBelow (length names)) (header_types names h)
header_below names h header = every (AreBelow (length names)) (item_types names) (λ item. types_below names h item.types) header.parameters

pub are_numbers : (d : Domain) (p : Problem) → AreNumbers (declared_by d p)
are_numbers d p =
    let names = type_names d.types in
    let some : 0 < length names = omega arith in
    record {
      parents = every (λ n. n < length names) (parent_in names (kept_types d.types)) (parent_below names some (kept_types d.types)) names;
      objects = every (AreBelow (length names)) (item_types names) (λ item. types_below names some item.types) (firsts item_text [] _);
      predicates = every (All (AreBelow (length names))) (header_types names) (header_below names some) (firsts header_text [] d.predicates);
      functions = every (All (AreBelow (length names))) (header_types names) (header_below names some) (firsts header_text [] d.functions);
    }

all_narrower : (most : ℕ) (lists : List (List ℕ)) → most ≤ 10001 → All (AreBelow most) lists → All IsNarrow lists
all_narrower most lists h all k d within = narrower most _ h (all k d within)

pub are_narrow : (d : Domain) (p : Problem) → AreFew (declared_by d p) → AreNarrow (declared_by d p)
are_narrow d p few =
    let numbers = are_numbers d p in
    let most = length (declared_by d p).types in
    record {
      parents = narrower most (declared_by d p).parents few.types numbers.parents;
      objects = all_narrower most (declared_by d p).object_types few.types numbers.objects;
      predicates = λ k list within. all_narrower most _ few.types (numbers.predicates k list within);
      functions = λ k list within. all_narrower most _ few.types (numbers.functions k list within);
    }
