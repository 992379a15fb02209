use Rattle.std.proofs.Common.{arith, refl}
use Rattle.mf_lex.proofs.Gaps.{word_next, word_long}
use Rattle.mf_lex.proofs.lexer.word.Goals as goal

pub returns-then-end-at-gt255 : goal.returns-then-end-at-gt255
returns-then-end-at-gt255 c = (
  refl,
  word_long c.args.source.now c.args.at c.word_end-end.result
      (record { uncommented = c.requires.uncommented; within = c.requires.within })
      (record {
        first = c.requires.first;
        order = c.word_end-end.ensures.order;
        within = c.word_end-end.ensures.within;
        inside = c.word_end-end.ensures.inside;
        maximal = c.word_end-end.ensures.maximal;
      })
      (omega arith),
)

pub returns : goal.returns
returns c = word_next c.args.source.now c.args.at c.word_end-end.result c.token.result
    (record { uncommented = c.requires.uncommented; within = c.requires.within })
    (record {
      first = c.requires.first;
      order = c.word_end-end.ensures.order;
      within = c.word_end-end.ensures.within;
      inside = c.word_end-end.ensures.inside;
      maximal = c.word_end-end.ensures.maximal;
    })
    (omega arith)
    (record { start_is = c.token.ensures.start; end_is = c.token.ensures.end; kind = c.token.ensures.kind })
