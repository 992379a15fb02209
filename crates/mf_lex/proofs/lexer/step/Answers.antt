use Rattle.std.proofs.Common.{subst, sym}
use Rattle.mf_model.specs.declared.token.Token.{Token}
use Rattle.std.proofs.Common.{List}
use Rattle.mf_lex.specs.Reading.{Reading, IsGap, IsNext}
use Rattle.mf_lex.proofs.Steps.{gap_reads, next_reads}
use Rattle.mf_lex.proofs.lexer.step.Goals as goal

pub returns-in-Gap : goal.returns-in-Gap
returns-in-Gap c =
    let gap : IsGap c.args.source.now c.args.at c.in-Gap.end = rw c.in-Gap.is at c.in_ok-end.ensures in
    (gap.begins, gap_reads c.args.source.now c.args.at c.in-Gap.end c.args.list.now c.requires.reading gap)

pub returns-in_ok-push-in-Next : goal.returns-in_ok-push-in-Next
returns-in_ok-push-in-Next c =
    let next : IsNext c.args.source.now c.args.at c.in-Next.token = rw c.in-Next.is at c.in_ok-end.ensures in
    rw c.end-end.ensures (
      next.begins,
      subst (λ (list : List Token). Reading c.args.source.now c.in-Next.token.span.end list) (sym c.in_ok-push-in-Next.ensures.ok)
          (next_reads c.args.source.now c.args.at c.args.list.now c.in-Next.token c.requires.reading next),
    )
