use Rattle.std.proofs.Common.{[]}
use Rattle.mf_types.proofs.Found.{default_at}
use Rattle.mf_types.proofs.tables.Tables.types_of_function.Goals as goal

pub returns-in-None : goal.returns-in-None
returns-in-None c = default_at c.args.self.now.function_types c.args.number [] c.in-None.ensures.value
