use Rattle.std.proofs.Common.{◌≡◌, ◌∙◌, ◌+◌, ◌∷◌, sym, ap, ℕ, List, drop}
use Rattle.std.proofs.lemmas.List.{drop_more}
use Rattle.mf_task.specs.declared.form.Part.{Part}
use Rattle.mf_task.specs.LimitClosure.{known_value}
use Rattle.mf_task.specs.Rows.{sight_of}
use Rattle.mf_limit.proofs.KnownValues.{known-more, known-none}
use Rattle.mf_limit.proofs.chance.known_value.Goals as goal

pub returns-in_err-sum : goal.returns-in_err-sum
returns-in_err-sum c =
    let sight = sight_of c.args.row.now in
    let parts : List Part = c.args.parts.now in
    let i : ℕ = c.loop-part.part-index in
    let rest : List Part = drop (i + 1) parts in
    let split : drop i parts ≡ c.part-item.result ∷ rest = drop_more parts i c.part-item.result c.loop-part-test.true ∙ ap (λ (p : Part). p ∷ rest) (sym c.part-item.is) in
    c.from_residual.ensures ∙ sym (known-none sight c.loop-part.sum c.part-item.result rest c.in_err-sum.ensures) ∙ sym (ap (known_value sight c.loop-part.sum) split) ∙ c.loop-part.invariant

pub loop-part-preserved : goal.loop-part-preserved
loop-part-preserved c =
    let sight = sight_of c.args.row.now in
    let parts : List Part = c.args.parts.now in
    let i : ℕ = c.loop-part.part-index in
    let rest : List Part = drop (i + 1) parts in
    let split : drop i parts ≡ c.part-item.result ∷ rest = drop_more parts i c.part-item.result c.loop-part-test.true ∙ ap (λ (p : Part). p ∷ rest) (sym c.part-item.is) in
    sym (known-more sight c.loop-part.sum c.part-item.result c.in_ok-sum.sum rest c.in_ok-sum.ensures) ∙ sym (ap (known_value sight c.loop-part.sum) split) ∙ c.loop-part.invariant
