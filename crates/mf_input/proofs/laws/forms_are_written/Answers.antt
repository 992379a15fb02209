use Rattle.mf_input.proofs.WrittenFiles.{files_written}
use Rattle.mf_input.proofs.laws.forms_are_written.Goals as goal

pub returns : goal.returns
returns c = files_written
