use Rattle.mf_types.specs.Names.{header_text}
use Rattle.mf_types.proofs.Firsts.{one_names}
use Rattle.mf_types.proofs.declared.symbol_table.Goals as goal

pub returns-clause-names : goal.returns-clause-names
returns-clause-names c = one_names header_text c.args.headers.now c.new.result c.add_headers.new.names c.new.ensures c.in_ok-add_headers.ensures.names
