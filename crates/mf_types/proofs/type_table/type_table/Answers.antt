use Rattle.std.proofs.Common.{◌∙◌, ap}
use Rattle.mf_types.specs.Names.{type_words}
use Rattle.mf_types.specs.Tables.{pointed}
use Rattle.mf_types.proofs.Firsts.{table_names, table_built}
use Rattle.mf_types.proofs.type_table.type_table.Goals as goal

pub returns-clause-names : goal.returns-clause-names
returns-clause-names c =
    table_names c.args.items.now (pointed c.as_slice-2.result.now) c.in_ok-names.names c.add_words.new.names c.in_ok-firsts.ensures.names c.in_ok-names.ensures (ap pointed c.as_slice-2.ensures.value ∙ c.in_ok-words.ensures ∙ ap type_words c.as_slice.ensures)

pub returns-clause-parents : goal.returns-clause-parents
returns-clause-parents c =
    table_built c.args.items.now c.in_ok-names.names c.add_words.new.names c.new-own.result c.add_kept.new.names c.new-types.result c.add_kept.new.out c.as_slice-4.result.now (pointed c.as_slice-2.result.now) (pointed c.as_slice-3.result.now) c.in_ok-parents.parents
    c.in_ok-firsts.ensures.names c.in_ok-names.ensures (ap pointed c.as_slice-2.ensures.value ∙ c.in_ok-words.ensures ∙ ap type_words c.as_slice.ensures)
    (ap pointed c.as_slice-3.ensures.value ∙ c.in_ok-firsts.ensures.firsts)
    c.new-own.ensures c.new-types.ensures c.in_ok-add_kept.ensures.names c.in_ok-add_kept.ensures.types c.as_slice-4.ensures
    c.in_ok-parents.ensures
