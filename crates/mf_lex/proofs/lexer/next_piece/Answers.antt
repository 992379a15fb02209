use Rattle.std.proofs.Common.{refl}
use Rattle.mf_lex.proofs.Gaps.{blank_gap, comment_gap, bracket_next, bad_found}
use Rattle.mf_lex.proofs.lexer.next_piece.Goals as goal

pub returns-in-Blank : goal.returns-in-Blank
returns-in-Blank c = blank_gap c.args.source.now c.args.at
    (record { uncommented = c.requires.uncommented; within = c.requires.within })
    c.in-Blank.ensures

pub returns-in-Comment : goal.returns-in-Comment
returns-in-Comment c = comment_gap c.args.source.now c.args.at c.comment_end.result
    (record { uncommented = c.requires.uncommented; within = c.requires.within })
    c.in-Comment.ensures
    (record {
      order = c.comment_end.ensures.order;
      within = c.comment_end.ensures.within;
      inside = c.comment_end.ensures.inside;
      ends = c.comment_end.ensures.end;
    })

pub returns-in-Bracket : goal.returns-in-Bracket
returns-in-Bracket c = bracket_next c.args.source.now c.args.at c.token.result
    (record { uncommented = c.requires.uncommented; within = c.requires.within })
    c.in-Bracket.ensures
    (record { start_is = c.token.ensures.start; end_is = c.token.ensures.end; kind = c.token.ensures.kind })

pub returns-in-Bad : goal.returns-in-Bad
returns-in-Bad c = (
  refl,
  bad_found c.args.source.now c.args.at
      (record { uncommented = c.requires.uncommented; within = c.requires.within })
      c.in-Bad.ensures,
)
