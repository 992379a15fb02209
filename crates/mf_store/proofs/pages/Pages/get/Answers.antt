use Rattle.std.proofs.Common.{◌≡◌, sym, ap, subst, ◌∙◌, ◌+◌, ◌*◌, ◌/◌, ◌%◌, ◌<◌, ◌≤◌, [], length, get_or, take, drop, arith}
use Rattle.std.proofs.lemmas.List.{length-map}
use Rattle.mf_store.proofs.Paging.{length-strips, get_or-strips, ends_within, page_of}
use Rattle.mf_store.proofs.pages.Pages.get.Goals as goal

pub index-requires : goal.index-requires
index-requires c =
    let e : length c.args.self.now.strips ≡ c.self.inside.len = ap (λ v. length v.strips) (sym c.self.view_is) ∙ length-strips c.self.inside.width c.self.inside.len _ in
    omega (arith, c.self.invariant.0.within, length-map c.self.inside.pages.items (λ page. page.items))

in_page : (c : goal.After-as_slice-page) → c.args.number % 1024 * c.self.inside.width + c.self.inside.width ≤ length c.as_slice-page.result.now
in_page c =
    let e : length c.args.self.now.strips ≡ c.self.inside.len = ap (λ v. length v.strips) (sym c.self.view_is) ∙ length-strips c.self.inside.width c.self.inside.len _ in
    let below : c.args.number / 1024 < length c.self.inside.pages.items = omega (arith, c.self.invariant.0.within, length-map c.self.inside.pages.items (λ page. page.items)) in
    subst (λ words. c.args.number % 1024 * c.self.inside.width + c.self.inside.width ≤ length words) (page_of c.self.inside.pages.items (c.args.number / 1024) c.index.result.now below c.index.ensures ∙ sym c.as_slice-page.ensures.value)
    (ends_within c.self.inside.width c.self.inside.len _ c.self.invariant.0 c.args.number (omega arith))

pub overflow_mul-number : goal.overflow_mul-number
overflow_mul-number c = let h = in_page c in omega arith

pub part-requires : goal.part-requires
part-requires c = in_page c

pub returns-clause-strip : goal.returns-clause-strip
returns-clause-strip c =
    let e : length c.args.self.now.strips ≡ c.self.inside.len = ap (λ v. length v.strips) (sym c.self.view_is) ∙ length-strips c.self.inside.width c.self.inside.len _ in
    let below : c.args.number / 1024 < length c.self.inside.pages.items = omega (arith, c.self.invariant.0.within, length-map c.self.inside.pages.items (λ page. page.items)) in
    c.part.ensures.words
    ∙ ap (λ words. take c.self.inside.width (drop (c.args.number % 1024 * c.self.inside.width) words)) (sym (page_of c.self.inside.pages.items (c.args.number / 1024) c.index.result.now below c.index.ensures ∙ sym c.as_slice-page.ensures.value))
    ∙ sym (get_or-strips c.self.inside.width c.self.inside.len _ c.args.number (omega arith))
    ∙ ap (λ v. get_or v.strips c.args.number []) c.self.view_is
