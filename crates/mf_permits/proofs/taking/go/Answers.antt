use Rattle.std.proofs.Common.{refl, sym, ◌∙◌, arith}
use Rattle.std.proofs.lemmas.List.{get_or_default}
use Rattle.mf_permits.proofs.GoLaws.{keeps_goal, keeps_held, room_for_take, values_within}
use Rattle.mf_permits.proofs.taking.go.Goals as goal

pub push_reserved-requires : goal.push_reserved-requires
push_reserved-requires g c = let room = room_for_take g.N.Naming.case c.args.worker c.args.state c.args.ledger.now c.requires.kept c.requires.may in let len = c.args.ledger.now.entries.ok.0 in omega arith

pub returns-then-index-eq0-clause-kept : goal.returns-then-index-eq0-clause-kept
returns-then-index-eq0-clause-kept g c = keeps_goal g.N.Naming.case c.args.worker c.args.state c.args.ledger.now _ c.requires.kept c.requires.may (get_or_default c.args.ledger.now.tables.values.items c.args.state 0 c.index.result.now (values_within g.N.Naming.case c.args.worker c.args.state c.args.ledger.now c.requires.kept c.requires.may) ∙ sym c.index.ensures ∙ c.if-index-eq0.true) (record {
  tables = record { store = refl; values = refl; makers = refl; keys = c.take_least.ensures.keys; rising = c.take_least.ensures.rising };
  entries = c.push_reserved.ensures.items;
  capacity = c.push_reserved.ensures.capacity;
  takes = refl;
  budget = refl;
}) refl refl

pub returns-else-index-eq0-clause-kept : goal.returns-else-index-eq0-clause-kept
returns-else-index-eq0-clause-kept g c = keeps_held g.N.Naming.case c.args.worker c.args.state c.args.ledger.now _ c.requires.kept c.requires.may (λ zero. c.if-index-eq0.false (c.index.ensures ∙ get_or_default c.args.ledger.now.tables.values.items c.args.state c.index.result.now 0 (values_within g.N.Naming.case c.args.worker c.args.state c.args.ledger.now c.requires.kept c.requires.may) ∙ zero)) (record {
  tables = record { store = refl; values = refl; makers = refl; keys = c.take_least.ensures.keys; rising = c.take_least.ensures.rising };
  entries = c.push_reserved.ensures.items;
  capacity = c.push_reserved.ensures.capacity;
  takes = refl;
  budget = refl;
}) refl refl
