use Rattle.std.proofs.Common.{[], ◌∙◌}
use Rattle.mf_search.specs.declared.maker.Maker.TheVariants.{Start}
use Rattle.mf_permits.proofs.BeginLaws.{no_rows, start_first}
use Rattle.mf_permits.proofs.FinishLaws.{kept_tables, kept_whole}
use Rattle.mf_permits.proofs.TableLaws.{key_is_new, narrow_shape, store_shape, whole_after}
use Rattle.mf_permits.proofs.beginning.open_start.Goals as goal

pub intern_new-state-requires-clause-shape : goal.intern_new-state-requires-clause-shape
intern_new-state-requires-clause-shape g c = store_shape g.N.Naming.case c.reserve_states.new.tables c.args.row.now (kept_whole g.N.Naming.case c.args.tables c.reserve_states.new.tables c.reserve_states.ensures.same c.requires.whole) (narrow_shape g.N.Naming.case c.args.row.now c.requires.row)

pub intern_new-state-requires-clause-is_new : goal.intern_new-state-requires-clause-is_new
intern_new-state-requires-clause-is_new g c = no_rows g.N.Naming.case c.reserve_states.new.tables c.args.row.now (kept_tables g.N.Naming.case [] [] c.args.tables c.reserve_states.new.tables c.reserve_states.ensures.same c.requires.none)

pub enter-requires-clause-is_new : goal.enter-requires-clause-is_new
enter-requires-clause-is_new g c =
    let whole = kept_whole g.N.Naming.case c.args.tables c.reserve_states.new.tables c.reserve_states.ensures.same c.requires.whole in
    key_is_new g.N.Naming.case c.reserve_states.new.tables _ whole c.intern_new-state.ensures.number

pub returns-clause-whole : goal.returns-clause-whole
returns-clause-whole g c =
    let whole = kept_whole g.N.Naming.case c.args.tables c.reserve_states.new.tables c.reserve_states.ensures.same c.requires.whole in
    whole_after g.N.Naming.case c.args.row.now c.args.value Start _ c.reserve_states.new.tables c.enter.new.tables whole (record { narrow = c.requires.row; words = c.words_fit.ensures }) (record {
      is_new = no_rows g.N.Naming.case c.reserve_states.new.tables c.args.row.now (kept_tables g.N.Naming.case [] [] c.args.tables c.reserve_states.new.tables c.reserve_states.ensures.same c.requires.none);
      number = c.intern_new-state.ensures.number;
      rows = c.enter.ensures.store ∙ c.intern_new-state.ensures.added;
      values = c.enter.ensures.values;
      makers = c.enter.ensures.makers;
      keys = c.enter.ensures.keys;
    })

pub returns-clause-opened : goal.returns-clause-opened
returns-clause-opened g c =
    let none = kept_tables g.N.Naming.case [] [] c.args.tables c.reserve_states.new.tables c.reserve_states.ensures.same c.requires.none in
    start_first g.N.Naming.case c.args.row.now c.args.value c.intern_new-state.result c.reserve_states.new.tables c.enter.new.tables c.requires.start c.requires.value (record {
      is_new = no_rows g.N.Naming.case c.reserve_states.new.tables c.args.row.now none;
      number = c.intern_new-state.ensures.number;
      rows = c.enter.ensures.store ∙ c.intern_new-state.ensures.added;
      values = c.enter.ensures.values;
      makers = c.enter.ensures.makers;
      keys = c.enter.ensures.keys;
    }) none
