-- The faults of types are found once of the items of a group.
use Rattle.std.proofs.Common.{◌≡◌, sym, ◌∙◌, ap, ℕ, ◌+◌, ◌-◌, ◌<◌, List, drop, length, get_or, Option, arith}
use Rattle.std.specs.List.{flat_map}
use Rattle.mf_model.specs.declared.form.Word.{Word}
use Rattle.mf_model.specs.declared.form.Typed.{Typed}
use Rattle.mf_model.specs.TypedLists.{IsAlike, types_at}
use Rattle.mf_types.specs.declared.least.Fault.{Fault}
use Rattle.mf_types.specs.Faults.{after}
use Rattle.mf_types.specs.Quantified.{item_faults, type_word_faults}
use Rattle.mf_types.specs.Sites.{Site}
use Rattle.mf_types.proofs.GroupTypes.{types_there}
use Rattle.mf_types.proofs.Order.{after_twice}
use Rattle.mf_types.proofs.Walks.{items_more}

abbrev pub word_faults : Site → List Word → List Fault
word_faults site words = flat_map (type_word_faults site) words

-- no fault of the types of the item before a place is left out
abbrev pub IsFound : Site → List Typed → Option Fault → ℕ → Type 0
IsFound site items best n = (m : ℕ) → m + 1 ≡ n → after best (word_faults site (types_at items m)) ≡ best

pub all_found : (site : Site) (items : List Typed) (n : ℕ) (item : Typed) (best next : Option Fault) → n < length items → item ≡ get_or items n item → next ≡ after best (word_faults site item.types) → IsFound site items next (n + 1)
all_found site items n item best next within is step m e =
    ap (λ k. after next (word_faults site (types_at items k))) (omega (arith, e))
    ∙ ap (λ ws. after next (word_faults site ws)) (types_there items n item within is)
    ∙ ap (λ b. after b (word_faults site item.types)) step
    ∙ after_twice best (word_faults site item.types)
    ∙ sym step

-- an item of the same group has no other faults
pub no_more : (site : Site) (items : List Typed) (n : ℕ) (best : Option Fault) → IsAlike items n → IsFound site items best n → after best (word_faults site (types_at items n)) ≡ best
no_more site items n best alike found =
    ap (λ ws. after best (word_faults site ws)) alike.1 ∙ found (n - 1) (omega (arith, alike.0))

pub same_found : (site : Site) (items : List Typed) (n : ℕ) (best : Option Fault) → IsAlike items n → IsFound site items best n → IsFound site items best (n + 1)
same_found site items n best alike found m e =
    ap (λ k. after best (word_faults site (types_at items k))) (omega (arith, e)) ∙ no_more site items n best alike found

pub same_more : (site : Site) (items : List Typed) (n : ℕ) (item : Typed) (best total : Option Fault) → n < length items → item ≡ get_or items n item → IsAlike items n → IsFound site items best n → after best (flat_map (item_faults site) (drop n items)) ≡ total → after best (flat_map (item_faults site) (drop (n + 1) items)) ≡ total
same_more site items n item best total within is alike found so_far =
    items_more (item_faults site) items n item best best total within is
    (sym (ap (λ ws. after best (word_faults site ws)) (sym (types_there items n item within is)) ∙ no_more site items n best alike found))
    so_far
