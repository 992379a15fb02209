use Rattle.std.proofs.Common.{◌<◌, [], map, ◌∙◌, sym, length, arith}
use Rattle.std.proofs.lemmas.List.{length-map}
use Rattle.mf_validator.proofs.ArgumentLemmas.{fails-at, goes-on, unequal}
use Rattle.mf_validator.proofs.step.read_arguments.Goals as goal

pub returns-then-parameters-names : goal.returns-then-parameters-names
returns-then-parameters-names c = unequal c.args.lexicon.now.task.now c.args.parameters.now (map (λ name. name.now) c.args.names.now) (λ e. c.if-parameters-names.true (e ∙ length-map c.args.names.now (λ name. name.now)))

pub returns-in_default : goal.returns-in_default
returns-in_default c =
    let inside : c.loop-at.at < length c.args.names.now = omega (arith, c.loop-at-test.true, c.loop-at.invariant.even) in
    fails-at c.args.lexicon.now.task.now c.args.parameters.now c.args.names.now c.loop-at.at c.index-parameters-at.result (record { ref_ptr = (0, 0); now = [] }) c.loop-at.objects
    c.loop-at-test.true inside c.index-parameters-at.is (sym c.read_argument.ensures ∙ c.in_default.is) c.loop-at.invariant.read

pub loop-at-preserved : goal.loop-at-preserved
loop-at-preserved c =
    let inside : c.loop-at.at < length c.args.names.now = omega (arith, c.loop-at-test.true, c.loop-at.invariant.even) in
    record {
      even = c.loop-at.invariant.even;
      read = goes-on c.args.lexicon.now.task.now c.args.parameters.now c.args.names.now c.loop-at.at c.index-parameters-at.result (record { ref_ptr = (0, 0); now = [] }) c.loop-at.objects c.push.new.self c.in-Some.object
          c.loop-at-test.true inside c.index-parameters-at.is (sym c.read_argument.ensures ∙ c.in-Some.is) c.in_ok-push.ensures.ok c.loop-at.invariant.read;
    }
