use Rattle.mf_types.specs.Names.{item_text, item_types}
use Rattle.mf_types.proofs.Firsts.{both_names, both_types}
use Rattle.mf_types.proofs.declared.object_table.Goals as goal

pub returns-clause-names : goal.returns-clause-names
returns-clause-names c =
    both_names item_text c.args.constants.now c.args.objects.now c.new.result c.add_items.new.names c.add_items-2.new.names c.new.ensures c.in_ok-add_items.ensures.names c.in_ok-add_items-2.ensures.names

pub returns-clause-types : goal.returns-clause-types
returns-clause-types c =
    both_types item_text (item_types c.args.types.now) c.args.constants.now c.args.objects.now c.new.result c.add_items.new.names c.new-2.result c.add_items.new.out c.add_items-2.new.out c.new.ensures c.in_ok-add_items.ensures.names c.new-2.ensures c.in_ok-add_items.ensures.types c.in_ok-add_items-2.ensures.types
