use Rattle.mf_validator.proofs.ReadInstances.{plan-few, plan-listed}
use Rattle.mf_validator.proofs.reading.read_plan.Goals as goal

pub returns-clause-instances : goal.returns-clause-instances
returns-clause-instances c = plan-listed c.args.source.now c.args.task.now c.read_text.result c.read_text.ensures

pub returns-clause-few : goal.returns-clause-few
returns-clause-few c = plan-few c.args.source.now c.args.task.now c.read_text.result c.read_text.ensures
