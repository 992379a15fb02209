use Rattle.std.proofs.Common.{length, sym}
use Rattle.std.proofs.lemmas.List.{length-map}
use Rattle.mf_types.specs.Tables.{pointed}
use Rattle.mf_types.proofs.ObjectLists.{objects_found}
use Rattle.mf_types.proofs.listing.object_list_faults.Goals as goal

pub returns : goal.returns
returns c =
    objects_found c.args.best c.in_ok-best.best c.beyond-best.result c.in_ok-best-2.best c.beyond_behind.result (pointed c.args.constants.now) (pointed c.args.objects.now) c.new-names.result c.repeats.new.names (length c.args.constants.now)
    c.new-names.ensures c.in_ok-best.ensures.faults c.in_ok-best.ensures.names c.beyond-best.ensures c.in_ok-best-2.ensures.faults (sym (length-map c.args.constants.now _)) c.beyond_behind.ensures
