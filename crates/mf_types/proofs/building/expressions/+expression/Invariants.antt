use Rattle.std.proofs.Common.{◌≡◌, drop}
use Rattle.mf_types.specs.Gives.{with_front}
use Rattle.mf_types.specs.Tables.{declared_of}
use Rattle.mf_types.specs.Typing.{exprs_of}
use Rattle.mf_types.proofs.building.expressions.+expression.Given as goal

abbrev pub invariant-expressions-loop-raw : goal.invariant-expressions-loop-raw
invariant-expressions-loop-raw l = with_front l.out (exprs_of (declared_of l.tables) (drop l.raw-index l.raws) l.binders) ≡ exprs_of (declared_of l.tables) l.raws l.binders
