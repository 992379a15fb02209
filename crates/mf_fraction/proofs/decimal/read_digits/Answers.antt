use Rattle.std.proofs.Common.{◌∙◌, ap₂, List, ℕ}
use Rattle.mf_fraction.specs.Decimal.{read_parts}
use Rattle.mf_fraction.proofs.Words.{no_number, a_number}
use Rattle.mf_fraction.proofs.decimal.read_digits.Goals as goal

pub returns-then-not-is_unsigned_number : goal.returns-then-not-is_unsigned_number
returns-then-not-is_unsigned_number c =
    no_number c.args.negative c.args.digits.now c.is_unsigned_number.result c.is_unsigned_number.ensures c.if-not-is_unsigned_number.true

pub returns : goal.returns
returns c =
    c.fraction.ensures
    ∙ ap₂ (λ (x y : List ℕ). read_parts c.args.negative x y) c.before_point.ensures c.behind_point.ensures
    ∙ a_number c.args.negative c.args.digits.now c.is_unsigned_number.result c.is_unsigned_number.ensures c.if-not-is_unsigned_number.false
