use Rattle.std.proofs.Common.{ap, ◌+◌, ◌∙◌, length}
use Rattle.mf_store.specs.Packed.{value_of}
use Rattle.mf_store.proofs.Words.{last_word}
use Rattle.mf_store.proofs.word.packed_number.Goals as goal

pub returns-clause-value : goal.returns-clause-value
returns-clause-value c =
    ap (λ fs. value_of fs (13835058055282163713 + length c.as_slice-place.result.now)) c.push_reserved.ensures.items ∙ last_word c.args.fractions.now.items c.args.number (length c.as_slice-place.result.now) (ap length c.as_slice-place.ensures.value)
