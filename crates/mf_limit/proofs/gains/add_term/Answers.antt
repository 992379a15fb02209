use Rattle.std.proofs.Common.{◌++◌}
use Rattle.mf_task.specs.LimitClosure.{MayBeDefined, MayFall, MayRise, gain_if}
use Rattle.mf_limit.proofs.Growing.{grows-more}
use Rattle.mf_limit.proofs.gains.add_term.Goals as goal

pub returns : goal.returns
returns c =
    let defined = gain_if c.args.chance.may_be_defined (MayBeDefined c.args.term) in
    let rises = gain_if c.args.chance.may_rise (MayRise c.args.term) in
    let falls = gain_if c.args.chance.may_fall (MayFall c.args.term) in
    grows-more c.args.sets.now c.add_if-defined.new.sets c.add_if-falls.new.sets (λ f. defined) (λ f. rises ++ falls) _ _ (λ f g h within e. e) c.add_if-defined.ensures
    (grows-more c.add_if-defined.new.sets c.add_if-rises.new.sets c.add_if-falls.new.sets (λ f. rises) (λ f. falls) _ _ (λ f g h within e. e) c.add_if-rises.ensures c.add_if-falls.ensures)
