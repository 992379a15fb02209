use Rattle.std.proofs.Common.{map, string_bytes, refl}
use Rattle.mf_top.specs.Words.{request_of}
use Rattle.mf_top.proofs.CommandLemmas.{runs_unread}
use Rattle.mf_top.proofs.command.run.Goals as goal

pub returns-in-Err : goal.returns-in-Err
returns-in-Err g c = runs_unread (request_of (map string_bytes c.args.words.now)) _ c.in-Err.decision c.in-Err.ensures refl c.deliver.ensures
