use Rattle.std.proofs.Common.{◌∙◌, ap, nat_eq, not, if◌then◌else◌, List, ℕ, Bool, ◌++◌, ◌∷◌, [], map}
use Rattle.std.specs.Cmp.Lexicographic.{pointwise}
use Rattle.std.proofs.lemmas.Cmp.{nat_list_eq_equiv}
use Rattle.mf_types.specs.Names.{is_member}
use Rattle.mf_types.proofs.KeyLemmas.{any_mapped, keys_added}
use Rattle.mf_types.proofs.building.keys.Keys.add.Goals as goal

pub returns-clause-keys : goal.returns-clause-keys
returns-clause-keys c =
    let key : List ℕ = c.args.key.items in
    let extended : List (List ℕ) → List (List ℕ) = λ keys. if is_member keys key then keys else keys ++ key ∷ [] in
    ap (λ keys. map (λ k. k.items) keys) c.in_ok-insert.ensures.keys
    ∙ keys_added (λ a b. pointwise nat_eq a.items b.items) (λ k. k.items) c.args.key (λ x. nat_list_eq_equiv.symm key x.items) c.self.inside.keys.keys
    ∙ ap extended c.self.view_is

pub returns-clause-added : goal.returns-clause-added
returns-clause-added c =
    let key : List ℕ = c.args.key.items in
    let missing : List (List ℕ) → Bool = λ keys. not (is_member keys key) in
    c.in_ok-insert.ensures.added
    ∙ ap not (any_mapped (λ a b. pointwise nat_eq a.items b.items) (λ k. k.items) c.args.key (λ x. nat_list_eq_equiv.symm key x.items) c.self.inside.keys.keys)
    ∙ ap missing c.self.view_is
