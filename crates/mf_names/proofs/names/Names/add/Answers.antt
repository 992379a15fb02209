use Rattle.std.proofs.Common.{◌≡◌, ◌∙◌, ap, nat_eq, List, ℕ, ◌++◌, ◌∷◌, [], map, None}
use Rattle.std.specs.Cmp.Lexicographic.{pointwise}
use Rattle.std.proofs.lemmas.Cmp.{nat_list_eq_equiv}
use Rattle.mf_model.specs.Resolution.{number_of}
use Rattle.mf_names.proofs.Places.{entered}
use Rattle.mf_names.proofs.names.Names.add.Goals as goal

pub returns-clause-ok : goal.returns-clause-ok
returns-clause-ok c =
    let name : List ℕ = c.args.name.now in
    let text_is : c.in_ok-text.text.items ≡ name = c.in_ok-text.ensures.items ∙ c.as_slice.ensures in
    let by_front : List (List ℕ) → List (List ℕ) = λ names. names ++ name ∷ [] in
    let none : number_of (map (λ text. text.items) c.self.inside.texts.keys) name ≡ None = ap (λ (names : List (List ℕ)). number_of names name) c.self.view_is ∙ c.requires in
    ap (λ keys. map (λ text. text.items) keys) c.in_ok-insert.ensures.keys
    ∙ entered (λ a b. pointwise nat_eq a.items b.items) (λ text. text.items) c.self.inside.texts.keys c.in_ok-text.text name (λ x. ap (λ n. pointwise nat_eq n x.items) text_is ∙ nat_list_eq_equiv.symm name x.items) text_is none
    ∙ ap by_front c.self.view_is
