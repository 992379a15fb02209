use Rattle.std.proofs.Common.{◌∙◌}
use Rattle.mf_search.specs.declared.maker.Maker.TheVariants.{Step}
use Rattle.mf_permits.proofs.TableLaws.{child_entered, child_passed, key_is_new, known_row, narrow_shape, new_row, store_shape, whole_after}
use Rattle.mf_permits.proofs.opening.open_child.Goals as goal

pub intern-requires : goal.intern-requires
intern-requires g c = record { shape = store_shape g.N.Naming.case c.args.tables.now c.args.child.now.row c.requires.whole (narrow_shape g.N.Naming.case c.args.child.now.row c.requires.child.row_is) }

pub enter-requires-clause-is_new : goal.enter-requires-clause-is_new
enter-requires-clause-is_new g c =
    let interned = new_row c.args.tables.now.store c.intern.new.self c.args.child.now.row c.in-Ok.state c.in-Ok.is_new c.in-Ok.ensures.ok c.if-is_new.true in
    key_is_new g.N.Naming.case c.args.tables.now _ c.requires.whole interned.1

pub returns-then-is_new-clause-whole : goal.returns-then-is_new-clause-whole
returns-then-is_new-clause-whole g c =
    let interned = new_row c.args.tables.now.store c.intern.new.self c.args.child.now.row c.in-Ok.state c.in-Ok.is_new c.in-Ok.ensures.ok c.if-is_new.true in
    whole_after g.N.Naming.case c.args.child.now.row c.in-Finite.value (Step c.args.parent c.args.child.now.instance c.args.child.now.helpful) _ c.args.tables.now c.enter.new.tables c.requires.whole (record { narrow = c.requires.child.row_is; words = c.words_fit.ensures }) (record {
      is_new = interned.0;
      number = interned.1;
      rows = c.enter.ensures.store ∙ interned.2;
      values = c.enter.ensures.values;
      makers = c.enter.ensures.makers;
      keys = c.enter.ensures.keys;
    })

pub returns-then-is_new-clause-opened : goal.returns-then-is_new-clause-opened
returns-then-is_new-clause-opened g c =
    let interned = new_row c.args.tables.now.store c.intern.new.self c.args.child.now.row c.in-Ok.state c.in-Ok.is_new c.in-Ok.ensures.ok c.if-is_new.true in
    child_entered g.N.Naming.case c.args.parent c.args.child.now c.in-Finite.value c.in-Ok.state c.args.tables.now c.enter.new.tables c.requires.whole c.requires.child c.words_fit.ensures c.in-Finite.is (record {
      is_new = interned.0;
      number = interned.1;
      rows = c.enter.ensures.store ∙ interned.2;
      values = c.enter.ensures.values;
      makers = c.enter.ensures.makers;
      keys = c.enter.ensures.keys;
    })

pub returns-else-is_new-clause-opened : goal.returns-else-is_new-clause-opened
returns-else-is_new-clause-opened g c =
    let interned = known_row c.args.tables.now.store c.intern.new.self c.args.child.now.row c.in-Ok.state c.in-Ok.is_new c.in-Ok.ensures.ok c.if-is_new.false in
    child_passed g.N.Naming.case c.args.parent c.args.child.now c.args.tables.now _ interned.0 (λ i. record { store = interned.1 i; values = c.args.tables.now.values; makers = c.args.tables.now.makers; open_list = c.args.tables.now.open_list })
