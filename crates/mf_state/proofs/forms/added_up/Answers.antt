use Rattle.std.proofs.Common.{◌+◌, ap, sym, ◌∙◌, drop, List, Some}
use Rattle.std.proofs.Math.ListN.{drop_of_length-le}
use Rattle.mf_fraction.specs.Exact.{Number}
use Rattle.mf_model.specs.Meaning.{plus}
use Rattle.mf_task.specs.declared.form.Part.{Part}
use Rattle.mf_task.specs.LinearForms.{weight}
use Rattle.mf_task.specs.Rows.{sight_of}
use Rattle.mf_task.specs.Width as width
use Rattle.mf_state.specs.Answers.{answer_of}
use Rattle.mf_state.proofs.FormValues.{added_up-none, added_up-ok, added_up-wide, plus-nothing, weight-none, weight-ok}
use Rattle.mf_state.proofs.Loops.{front_is}
use Rattle.mf_state.proofs.forms.added_up.Goals as goal

pub loop-part-preserved : goal.loop-part-preserved
loop-part-preserved c =
    let value = (sight_of c.args.row.now).value in
    let sum : Number = c.loop-part.sum in
    let rest : List Part = drop (c.loop-part.part-index + 1) c.args.parts.now in
    let front = front_is c.args.parts.now c.loop-part.part-index c.part-item.result c.loop-part-test.true c.part-item.is in
    let there = sym c.value_of.ensures ∙ c.in-Some.is in
    let done = sym c.added.ensures ∙ c.in-Ok.is in
    record {
      checked = sym (ap (λ (ps : List Part). answer_of (width.added_up value sum ps)) front ∙ ap answer_of (added_up-ok value sum c.part-item.result rest c.in-Some.value c.in-Ok.next there done)) ∙ c.loop-part.invariant.checked;
      exact = sym (ap (λ (ps : List Part). plus (Some sum) (weight value ps)) front ∙ weight-ok value sum c.part-item.result rest c.in-Some.value c.in-Ok.next there done) ∙ c.loop-part.invariant.exact;
    }

pub returns-in_default-clause-checked : goal.returns-in_default-clause-checked
returns-in_default-clause-checked c =
    let value = (sight_of c.args.row.now).value in
    let sum : Number = c.loop-part.sum in
    let rest : List Part = drop (c.loop-part.part-index + 1) c.args.parts.now in
    let front = front_is c.args.parts.now c.loop-part.part-index c.part-item.result c.loop-part-test.true c.part-item.is in
    sym (ap (λ (ps : List Part). answer_of (width.added_up value sum ps)) front ∙ ap answer_of (added_up-none value sum c.part-item.result rest (sym c.value_of.ensures ∙ c.in_default.is)))
    ∙ c.loop-part.invariant.checked

pub returns-in_default-clause-exact : goal.returns-in_default-clause-exact
returns-in_default-clause-exact c =
    let value = (sight_of c.args.row.now).value in
    let sum : Number = c.loop-part.sum in
    let rest : List Part = drop (c.loop-part.part-index + 1) c.args.parts.now in
    let front = front_is c.args.parts.now c.loop-part.part-index c.part-item.result c.loop-part-test.true c.part-item.is in
    sym (ap (λ (ps : List Part). plus (Some sum) (weight value ps)) front ∙ weight-none value sum c.part-item.result rest (sym c.value_of.ensures ∙ c.in_default.is))
    ∙ c.loop-part.invariant.exact

pub returns-in-Err-clause-checked : goal.returns-in-Err-clause-checked
returns-in-Err-clause-checked c =
    let value = (sight_of c.args.row.now).value in
    let sum : Number = c.loop-part.sum in
    let rest : List Part = drop (c.loop-part.part-index + 1) c.args.parts.now in
    let front = front_is c.args.parts.now c.loop-part.part-index c.part-item.result c.loop-part-test.true c.part-item.is in
    sym (ap (λ (ps : List Part). answer_of (width.added_up value sum ps)) front ∙ ap answer_of (added_up-wide value sum c.part-item.result rest c.in-Some.value _ (sym c.value_of.ensures ∙ c.in-Some.is) (sym c.added.ensures ∙ c.in-Err.is)))
    ∙ c.loop-part.invariant.checked

pub returns-clause-exact : goal.returns-clause-exact
returns-clause-exact c = plus-nothing c.loop-part.sum c.stored_laws.ensures.proper
    ∙ sym (ap (λ (ps : List Part). plus (Some (let sum : Number = c.loop-part.sum in sum)) (weight (sight_of c.args.row.now).value ps)) (drop_of_length-le c.args.parts.now c.loop-part-test.false))
    ∙ c.loop-part.invariant.exact
