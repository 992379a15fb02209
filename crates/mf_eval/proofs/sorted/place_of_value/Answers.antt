use Rattle.std.proofs.Common.{rules}
use Rattle.mf_eval.specs.Comparisons.{cell_cmp}
use Rattle.mf_eval.proofs.Placing.{value_place}
use Rattle.mf_eval.proofs.Searching.{searched_by}
use Rattle.mf_eval.proofs.sorted.place_of_value.Goals as goal

pub returns : goal.returns
returns c =
    let values = c.args.values.now in
    let valued = c.args.valued.now in
    value_place values valued c.binary_search_by.result c.requires c.binary_search_by.ensures.bound
    (searched_by (λ w. cell_cmp w.cell valued.cell) values c.binary_search_by.result c.binary_search_by.ensures.position (λ a o f' k. search rules))
