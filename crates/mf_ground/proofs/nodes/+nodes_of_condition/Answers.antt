use Rattle.mf_model.specs.Objects.{kinds_of}
use Rattle.mf_ground.specs.Nodes.{nodes_of, ways}
use Rattle.mf_ground.proofs.Saturation.{one_more}
use Rattle.mf_ground.proofs.nodes.+nodes_of_condition.Goals as goal

pub nodes_of_quantifier-returns : goal.nodes_of_quantifier-returns
nodes_of_quantifier-returns t c =
    let objects = kinds_of c.args.task.now in
    one_more _ (ways objects c.args.variables.now) (nodes_of objects c.args.part.now) _ _ _ _ c.number_of_bindings-bindings.ensures c.nodes_of_condition.ensures c.saturating_mul.ensures c.saturating_add.ensures
