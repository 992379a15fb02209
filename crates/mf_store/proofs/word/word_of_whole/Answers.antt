use Rattle.std.proofs.Common.{◌≡◌, ap, subst, ◌∙◌, ℤ, pos, false, true, int_lt, unsigned_abs}
use Rattle.mf_store.specs.Packed.{value_of}
use Rattle.mf_store.proofs.Words.{negative_word, natural_word, number_read}
use Rattle.mf_store.proofs.word.word_of_whole.Goals as goal

pub returns-then-n-lt0-clause-value : goal.returns-then-n-lt0-clause-value
returns-then-n-lt0-clause-value c fs =
    negative_word fs c.args.n c.unsigned_abs.result (subst (λ (z : ℤ). int_lt z (pos 0) ≡ true) (number_read c.args.n c.ranges.n) c.if-n-lt0.true) (c.unsigned_abs.ensures.value ∙ ap unsigned_abs (number_read c.args.n c.ranges.n)) c.requires

pub returns-else-n-lt0-clause-value : goal.returns-else-n-lt0-clause-value
returns-else-n-lt0-clause-value c fs =
    ap (λ (z : ℤ). value_of fs (unsigned_abs z)) (number_read c.args.n c.ranges.n)
    ∙ natural_word fs c.args.n (subst (λ (z : ℤ). int_lt z (pos 0) ≡ false) (number_read c.args.n c.ranges.n) c.if-n-lt0.false) c.requires
