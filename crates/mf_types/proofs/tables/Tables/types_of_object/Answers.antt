use Rattle.std.proofs.Common.{◌∙◌, []}
use Rattle.mf_types.proofs.Found.{default_at}
use Rattle.mf_types.proofs.tables.Tables.types_of_object.Goals as goal

pub returns-in-None : goal.returns-in-None
returns-in-None c = c.args.self.now.none ∙ default_at c.args.self.now.object_types c.args.number [] c.in-None.ensures.value
