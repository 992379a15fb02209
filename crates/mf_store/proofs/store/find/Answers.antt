use Rattle.std.proofs.Common.{subst}
use Rattle.std.proofs.lemmas.Bool.Decides.{not_from_Decides}
use Rattle.mf_store.specs.Numbers.{IsSought}
use Rattle.mf_store.proofs.Seeking.{sought_first, sought_next}
use Rattle.mf_store.proofs.store.find.Goals as goal

pub loop-next-init : goal.loop-next-init
loop-next-init c = sought_first c.args.hash c.args.chains.now.hashes c.args.rows.now.rows c.args.row.now c.requires.hash c.requires.hashes c.first-next.result c.first-next.ensures

pub loop-next-preserved : goal.loop-next-preserved
loop-next-preserved c =
    sought_next c.args.hash c.args.chains.now.hashes c.args.rows.now.rows c.args.row.now c.requires.hash c.requires.hashes c.in-Some.number c.after-next.result
    (subst (IsSought c.args.hash c.args.chains.now.hashes c.args.rows.now.rows c.args.row.now) c.in-Some.is c.loop-next.invariant)
    (not_from_Decides c.is_at.result c.is_at.ensures c.if-is_at.false) c.after-next.ensures
