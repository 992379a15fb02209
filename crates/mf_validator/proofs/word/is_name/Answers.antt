use Rattle.std.proofs.Common.{◌∙◌, sym, rules}
use denote.Enum.Bare.{same_true, same_false}
use Rattle.mf_model.specs.contracts.token.Kind.{the_type}
use Rattle.mf_validator.proofs.WordLemmas.{name_of_kind, other_of_kind}
use Rattle.mf_validator.proofs.word.is_name.Goals as goal

pub returns-then-eq : goal.returns-then-eq
returns-then-eq c =
    c.are_small.ensures
    ∙ name_of_kind c.args.word.now (sym c.kind.ensures ∙ same_true the_type (search rules) _ _ (sym c.eq.ensures ∙ c.if-eq.true))

pub returns-else-eq : goal.returns-else-eq
returns-else-eq c =
    c.if-eq.false
    ∙ other_of_kind c.args.word.now (λ is. same_false the_type _ _ (sym c.eq.ensures ∙ c.if-eq.false) (c.kind.ensures ∙ is))
