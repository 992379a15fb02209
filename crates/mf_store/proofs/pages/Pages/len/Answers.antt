use Rattle.std.proofs.Common.{sym, ap, ◌∙◌, length}
use Rattle.mf_store.proofs.Paging.{length-strips}
use Rattle.mf_store.proofs.pages.Pages.len.Goals as goal

pub returns : goal.returns
returns c = sym (length-strips c.self.inside.width c.self.inside.len _) ∙ ap (λ v. length v.strips) c.self.view_is
