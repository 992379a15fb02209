use Rattle.std.proofs.Common.{rules, ◌∙◌}
use Rattle.mf_model.specs.Views.{objects_of}
use Rattle.mf_eval.specs.Comparisons.{key_cmp}
use Rattle.mf_eval.proofs.Placing.{is_true_found}
use Rattle.mf_eval.proofs.Searching.{searched_by}
use Rattle.mf_eval.proofs.stored.is_true.Goals as goal

pub returns : goal.returns
returns c =
    let atoms = c.args.atoms.now in
    let objects = objects_of c.args.binding.now c.args.terms.now in
    c.is_ok.ensures.value
    ∙ is_true_found atoms c.args.predicate objects c.binary_search_by.result c.requires c.binary_search_by.ensures.bound
    (searched_by (λ a. key_cmp a.predicate a.objects c.args.predicate objects) atoms c.binary_search_by.result c.binary_search_by.ensures.position (λ a o f' k. search rules))
