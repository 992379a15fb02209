use Rattle.std.proofs.Common.{◌∙◌, ap}
use Rattle.mf_task.specs.GroundMeaning.{optional_form_at}
use Rattle.mf_task.specs.Rows.{sight_of}
use Rattle.mf_limit.specs.Chances.{number_chance}
use Rattle.mf_limit.specs.Growth.{term_gains}
use Rattle.mf_limit.proofs.Growing.{grows-by, grows-number}
use Rattle.mf_limit.proofs.gains.add_number.Goals as goal

pub returns : goal.returns
returns c =
    let task = c.args.scene.now.task.now in
    let sight = sight_of c.args.scene.now.row.now in
    let chance = c.number_chance.ensures ∙ ap (number_chance c.args.op) c.chance_of_value-value.ensures in
    grows-number task sight c.args.sets.now c.add_term.new.sets c.args.op c.args.term (optional_form_at task c.args.value) c.add_term.result
    (grows-by c.args.sets.now c.add_term.new.sets (λ f. term_gains c.args.term c.number_chance.result) _ c.add_term.result (λ f. ap (term_gains c.args.term) chance) c.add_term.ensures)
