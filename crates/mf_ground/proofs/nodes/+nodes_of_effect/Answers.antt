use Rattle.mf_model.specs.Objects.{kinds_of}
use Rattle.mf_ground.specs.Nodes.{effect_nodes_of, ways}
use Rattle.mf_ground.proofs.Saturation.{product_is}
use Rattle.mf_ground.proofs.nodes.+nodes_of_effect.Goals as goal

pub nodes_of_each-returns : goal.nodes_of_each-returns
nodes_of_each-returns t c =
    let objects = kinds_of c.args.task.now in
    product_is _ (ways objects c.args.variables.now) (effect_nodes_of objects c.args.part.now) _ _ _ c.number_of_bindings.ensures c.nodes_of_effect.ensures c.saturating_mul.ensures
