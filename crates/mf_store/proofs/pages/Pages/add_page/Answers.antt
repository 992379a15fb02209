use Rattle.std.proofs.Common.{ap, ◌∙◌, [], ◌∷◌, ◌++◌, map}
use Rattle.std.proofs.lemmas.List.{map-append}
use Rattle.mf_store.specs.Strips.{strips_of}
use Rattle.mf_store.proofs.Paging.{strips-grown}
use Rattle.mf_store.proofs.pages.Pages.add_page.Goals as goal

pub returns-clause-strips : goal.returns-clause-strips
returns-clause-strips c =
    ap (λ ps. strips_of c.self.inside.width c.self.inside.len (map (λ page. page.items) ps)) c.in_ok-push.ensures.items
    ∙ ap (strips_of c.self.inside.width c.self.inside.len) (map-append (λ page. page.items) c.self.inside.pages.items (c.in_ok-page.page ∷ []))
    ∙ ap (λ words. strips_of c.self.inside.width c.self.inside.len (map (λ page. page.items) c.self.inside.pages.items ++ words ∷ [])) c.in_ok-page.ensures.items
    ∙ strips-grown c.self.inside.width c.self.inside.len (map (λ page. page.items) c.self.inside.pages.items)
    ∙ ap (λ v. v.strips) c.self.view_is
