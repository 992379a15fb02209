use Rattle.mf_input.proofs.DecimalWords.{same_numbers}
use Rattle.mf_input.proofs.laws.same_words_write_one_number.Goals as goal

pub returns : goal.returns
returns c = same_numbers
