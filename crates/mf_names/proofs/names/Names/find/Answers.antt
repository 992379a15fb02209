use Rattle.std.proofs.Common.{◌∙◌, ap, List, ℕ}
use Rattle.std.specs.Str.{bytes_eq}
use Rattle.std.proofs.lemmas.Cmp.{nat_list_eq_equiv}
use Rattle.mf_model.specs.Resolution.{number_of}
use Rattle.mf_names.proofs.Places.{placed}
use Rattle.mf_names.proofs.names.Names.find.Goals as goal

pub returns-clause-value : goal.returns-clause-value
returns-clause-value c =
    let by_view : List (List ℕ) → _ = λ names. number_of names c.args.name.now in
    c.get_index_of.ensures.index
    ∙ placed _ (λ own. bytes_eq own c.args.name.now) (λ text. text.items) (λ text. nat_list_eq_equiv.symm c.args.name.now text.items) c.self.inside.texts.keys
    ∙ ap by_view c.self.view_is
