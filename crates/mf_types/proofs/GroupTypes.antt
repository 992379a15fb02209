-- The types of the items of a group are looked up once.
use Rattle.std.proofs.Common.{◌≡◌, ℕ, ◌+◌, ◌-◌, ◌<◌, List, [], ◌∷◌, ◌++◌, length, map, take, get_or, sym, ap, ◌∙◌, arith}
use Rattle.std.proofs.lemmas.List.{get_or-map, get_or-take, length-take-le, map_more}
use Rattle.mf_model.specs.declared.form.Typed.{Typed}
use Rattle.mf_model.specs.TypedLists.{IsAlike, types_at}
use Rattle.mf_types.specs.Names.{item_types, types_of}

-- the types of the item at a place
pub types_there : (items : List Typed) (n : ℕ) (item : Typed) → n < length items → item ≡ get_or items n item → types_at items n ≡ item.types
types_there items n item within is =
    get_or-map (λ (i : Typed). i.types) items n item [] within ∙ ap (λ (i : Typed). i.types) (sym is)

pub row_more : (names : List (List ℕ)) (items : List Typed) (n : ℕ) (item : Typed) (rows : List (List ℕ)) (row : List ℕ) → n < length items → item ≡ get_or items n item → row ≡ item_types names item → rows ≡ map (item_types names) (take n items) → rows ++ row ∷ [] ≡ map (item_types names) (take (n + 1) items)
row_more names items n item rows row within is own so_far =
    ap (λ rs. rs ++ row ∷ []) so_far
    ∙ ap (λ r. map (item_types names) (take n items) ++ r ∷ []) (own ∙ ap (item_types names) is)
    ∙ sym (map_more (item_types names) items n item within)

-- the item before has the same types, and they stand in its row
pub shared_row : (names : List (List ℕ)) (items : List Typed) (n : ℕ) (item : Typed) (rows : List (List ℕ)) (row : List ℕ) → n < length items → item ≡ get_or items n item → rows ≡ map (item_types names) (take n items) → IsAlike items n → row ≡ get_or rows (n - 1) [] → row ≡ item_types names item
shared_row names items n item rows row within is so_far alike own =
    let long = length-take-le n items (omega (arith, within)) in
    own
    ∙ ap (λ rs. get_or rs (n - 1) []) so_far
    ∙ get_or-map (item_types names) (take n items) (n - 1) item [] (omega (arith, long, alike.0))
    ∙ ap (item_types names) (get_or-take n items (n - 1) item (omega (arith, alike.0)))
    ∙ ap (types_of names) (sym (get_or-map (λ (i : Typed). i.types) items (n - 1) item [] (omega (arith, within, alike.0))) ∙ sym alike.1 ∙ types_there items n item within is)
