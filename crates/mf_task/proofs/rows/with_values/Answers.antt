use Rattle.std.proofs.Common.{◌<◌, ◌∷◌, ◌++◌, [], length, slice_index_or, sym, ap, ◌∙◌, rules, arith}
use Rattle.std.proofs.lemmas.Iterator.Adapters.{YieldsList-from_vec}
use Rattle.std.proofs.lemmas.Iterator.Consumers.{YieldsList-turn}
use Rattle.std.proofs.lemmas.List.{length_push}
use Rattle.mf_task.specs.declared.value.Value.TheVariants.{Finite}
use Rattle.mf_task.specs.CaseRows.{child_with, children_with}
use Rattle.mf_task.proofs.Closing.{one_row_more}
use Rattle.mf_task.proofs.rows.with_values.Goals as goal

pub push_reserved-requires : goal.push_reserved-requires
push_reserved-requires c =
    let t = YieldsList-turn (YieldsList-from_vec c.args.list (search rules) (search rules)) c.loop-offspring.yielded c.loop-offspring.offspring-iterator c.loop-offspring.yielded_by c.next.result c.next.new.self c.in-Some.offspring c.in-Some.is c.next.ensures.steps in
    let n = c.loop-offspring.invariant.len in
    let k = c.loop-offspring.children.ok.0 in
    omega (arith, t.0, n, k, c.loop-offspring.invariant.room, c.requires.room)

pub loop-offspring-preserved : goal.loop-offspring-preserved
loop-offspring-preserved c =
    let t = YieldsList-turn (YieldsList-from_vec c.args.list (search rules) (search rules)) c.loop-offspring.yielded c.loop-offspring.offspring-iterator c.loop-offspring.yielded_by c.next.result c.next.new.self c.in-Some.offspring c.in-Some.is c.next.ensures.steps in
    let n = length_push c.loop-offspring.yielded c.in-Some.offspring in
    let low : length c.loop-offspring.yielded < length c.args.values.now = omega (arith, t.0, c.requires.values) in
    let child = child_with c.in-Some.offspring (slice_index_or c.args.values.now c.loop-offspring.at (Finite 0)) in
    let longer = length_push c.loop-offspring.children.items child in
    let pushed = ap length c.push_reserved.ensures.items in
    record {
      made =
          c.push_reserved.ensures.items
          ∙ ap (λ cs. cs ++ child ∷ []) c.loop-offspring.invariant.made
          ∙ ap (λ at. children_with c.loop-offspring.yielded c.args.values.now ++ child_with c.in-Some.offspring (slice_index_or c.args.values.now at (Finite 0)) ∷ []) c.loop-offspring.invariant.count
          ∙ sym (one_row_more c.loop-offspring.yielded c.args.values.now c.in-Some.offspring (Finite 0) low);
      count = omega (arith, n, c.loop-offspring.invariant.count);
      len = omega (arith, pushed, longer, n, c.loop-offspring.invariant.len);
      room = c.push_reserved.ensures.capacity ∙ c.loop-offspring.invariant.room;
    }
