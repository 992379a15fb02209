use Rattle.std.proofs.Common.{sym, subst, ◌≢◌, ℕ, Some, slice_get}
use Rattle.mf_store.specs.Rows.{HasShape}
use Rattle.mf_store.proofs.Seeking.{one_more}
use Rattle.mf_store.proofs.store.Store.push.Goals as goal

pub invariant_of-self : goal.invariant_of-self
invariant_of-self c =
    one_more c.self.inside.rows c.self.inside.chains c.args.row.now c.args.hash c.push.new.self c.push-2.new.self c.self.invariant c.requires.hash
    (subst (λ s. HasShape s.word_count s.value_count c.args.row.now) (sym c.self.view_is) c.requires.shape)
    (subst (λ s. (j : ℕ) → slice_get s.rows j ≢ Some c.args.row.now) (sym c.self.view_is) c.requires.absent)
    c.push.ensures c.push-2.ensures
