use Rattle.std.proofs.Common.{rules, ◌≡◌, ◌≤◌, ◌+◌, length}
use Rattle.mf_io.proofs.FolderLemmas.{Reads-whole}
use Rattle.mf_io.proofs.real_folder.read_whole.Goals as goal

-- One byte more than allowed was asked for and didn't come, so the reader gave all of its bytes.
pub returns-in-Ok-2-clause-bytes : goal.returns-in-Ok-2-clause-bytes
returns-in-Ok-2-clause-bytes g c below =
    let limit : c.take.result.limit ≡ c.args.most + 1 = search rules in
    let fits : length c.read_to_end.new.buf.items ≤ c.args.most = search rules in
    rw (← c.take.ensures.inner, c.from_vec.ensures)
    (Reads-whole _ c.take.result.limit c.args.most c.new-bytes.result.items c.read_to_end.new.buf.items
    limit c.new-bytes.ensures.items fits c.in-Ok-2.ensures.bytes)
