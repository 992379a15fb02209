-- Items that are put behind those of a typed list.
use Rattle.std.proofs.Common.{◌≡◌, ℕ, ◌-◌, ◌<◌, List, [], ◌∷◌, ◌++◌, length, map, get_or, refl, sym, ap, ◌∙◌, arith}
use Rattle.std.proofs.lemmas.List.{length-append, length-map, map-append, get_or_push, get_or_append_left}
use Rattle.mf_model.specs.declared.form.Word.{Word}
use Rattle.mf_model.specs.declared.form.Typed.{Typed}
use Rattle.mf_model.specs.TypedLists.{types_at, IsAlike}

abbrev pub EndsAs : List Word → List Typed → Type 0
EndsAs types items = (0 < length items) × (types_at items (length items - 1) ≡ types)

at_end : (items : List Typed) (item : Typed) (n : ℕ) → length items ≡ n → types_at (items ++ item ∷ []) n ≡ item.types
at_end items item n e =
    ap (λ ts. get_or ts n []) (map-append (λ (i : Typed). i.types) items (item ∷ []))
    ∙ get_or_push (map (λ (i : Typed). i.types) items) item.types [] n (length-map items (λ (i : Typed). i.types) ∙ e)

before_end : (items : List Typed) (item : Typed) (n : ℕ) → n < length items → types_at (items ++ item ∷ []) n ≡ types_at items n
before_end items item n within =
    let long = length-map items (λ (i : Typed). i.types) in
    ap (λ ts. get_or ts n []) (map-append (λ (i : Typed). i.types) items (item ∷ []))
    ∙ get_or_append_left (map (λ (i : Typed). i.types) items) (item.types ∷ []) [] n (omega arith)

pub pushed_ends : (items : List Typed) (item : Typed) → EndsAs item.types (items ++ item ∷ [])
pushed_ends items item =
    let long = length-append items (item ∷ []) in
    (omega arith, at_end items item (length (items ++ item ∷ []) - 1) (omega arith))

pub pushed_alike : (items : List Typed) (item : Typed) → EndsAs item.types items → IsAlike (items ++ item ∷ []) (length items)
pushed_alike items item ends =
    (ends.0, at_end items item (length items) refl ∙ sym ends.1 ∙ sym (before_end items item (length items - 1) (omega (arith, ends.0))))
