use Rattle.std.proofs.Common.{◌≡◌, refl, sym, ap, subst, ◌∙◌, ◌+◌, ◌*◌, ◌-◌, ◌/◌, ◌%◌, ◌<◌, ◌≤◌, [], ◌∷◌, ◌++◌, map, length, get_or, set, vec_capacity, arith}
use Rattle.std.proofs.lemmas.List.{length-map, length-set}
use Rattle.std.proofs.lemmas.List.Elements.{All-set}
use Rattle.std.proofs.lemmas.Nat.{mul-le}
use Rattle.mf_store.specs.Strips.{IsPaged, strips_of}
use Rattle.mf_store.proofs.Paging.{page_of, written_page, used_words, strips-pushed, IsPaged-pushed}
use Rattle.mf_store.proofs.pages.Pages.push.Goals as goal

has_room : (c : goal.After-index_mut) → c.self.inside.len < 1024 * length c.self.inside.pages.items
has_room c =
    let room : 0 < 1024 * length c.self.inside.pages.items - c.self.inside.len = subst (λ v. 0 < v.room) (sym c.self.view_is) c.requires.room in
    omega arith

pub fill-requires : goal.fill-requires
fill-requires c =
    let room = has_room c in
    let below : c.self.inside.len / 1024 < length c.self.inside.pages.items = omega arith in
    let fits : length c.args.strip.now ≡ c.self.inside.width = c.requires.width ∙ ap (λ v. v.width) (sym c.self.view_is) in
    let same : length (map (λ page. page.items) c.self.inside.pages.items) ≡ length c.self.inside.pages.items = length-map c.self.inside.pages.items (λ page. page.items) in
    let here : length c.index_mut.result.now.items ≡ c.self.inside.len % 1024 * c.self.inside.width =
    ap length (sym (page_of c.self.inside.pages.items (c.self.inside.len / 1024) c.index_mut.result.now below c.index_mut.ensures.value))
    ∙ used_words c.self.inside.width c.self.inside.len _ c.self.invariant.0 (omega arith) c.args.strip.now fits (c.self.inside.len / 1024) refl in
    let most : (c.self.inside.len % 1024 + 1) * c.self.inside.width ≤ 1024 * c.self.inside.width = mul-le (c.self.inside.len % 1024 + 1) c.self.inside.width 1024 c.self.inside.width (omega arith) (omega arith) in
    let cap : 1024 * c.self.inside.width ≤ vec_capacity c.index_mut.result.now =
    subst (λ page. 1024 * c.self.inside.width ≤ vec_capacity page) (sym c.index_mut.ensures.value) (c.self.invariant.1 (c.self.inside.len / 1024) c.index_mut.result.now below) in
    omega (arith, c.index_mut.result.now.ok.0)

written : (c : goal.After-self-2-1) → map (λ page. page.items) (set c.self.inside.pages.items (c.self.inside.len / 1024) c.fill.new.page)
    ≡ set (map (λ page. page.items) c.self.inside.pages.items) (c.self.inside.len / 1024) (get_or (map (λ page. page.items) c.self.inside.pages.items) (c.self.inside.len / 1024) [] ++ c.args.strip.now)
written c =
    let room : 0 < 1024 * length c.self.inside.pages.items - c.self.inside.len = subst (λ v. 0 < v.room) (sym c.self.view_is) c.requires.room in
    written_page c.self.inside.pages.items (c.self.inside.len / 1024) c.index_mut.result.now c.fill.new.page c.args.strip.now (omega arith) c.index_mut.ensures.value c.fill.ensures.items

pub invariant_of-self : goal.invariant_of-self
invariant_of-self c =
    let room : 0 < 1024 * length c.self.inside.pages.items - c.self.inside.len = subst (λ v. 0 < v.room) (sym c.self.view_is) c.requires.room in
    let below : c.self.inside.len / 1024 < length c.self.inside.pages.items = omega arith in
    let fits : length c.args.strip.now ≡ c.self.inside.width = c.requires.width ∙ ap (λ v. v.width) (sym c.self.view_is) in
    let same : length (map (λ page. page.items) c.self.inside.pages.items) ≡ length c.self.inside.pages.items = length-map c.self.inside.pages.items (λ page. page.items) in
    let cap : 1024 * c.self.inside.width ≤ vec_capacity c.index_mut.result.now =
    subst (λ page. 1024 * c.self.inside.width ≤ vec_capacity page) (sym c.index_mut.ensures.value) (c.self.invariant.1 (c.self.inside.len / 1024) c.index_mut.result.now below) in (
      subst (IsPaged c.self.inside.width (c.self.inside.len + 1)) (sym (written c)) (IsPaged-pushed c.self.inside.width c.self.inside.len _ c.self.invariant.0 (omega arith) c.args.strip.now fits (c.self.inside.len / 1024) refl),
      All-set (λ page. 1024 * c.self.inside.width ≤ vec_capacity page) c.self.inside.pages.items (c.self.inside.len / 1024) c.fill.new.page (omega arith) c.self.invariant.1,
    )

pub returns : goal.returns
returns c =
    let room : 0 < 1024 * length c.self.inside.pages.items - c.self.inside.len = subst (λ v. 0 < v.room) (sym c.self.view_is) c.requires.room in
    let fits : length c.args.strip.now ≡ c.self.inside.width = c.requires.width ∙ ap (λ v. v.width) (sym c.self.view_is) in
    let same : length (map (λ page. page.items) c.self.inside.pages.items) ≡ length c.self.inside.pages.items = length-map c.self.inside.pages.items (λ page. page.items) in
    let long : length (set c.self.inside.pages.items (c.self.inside.len / 1024) c.fill.new.page) ≡ length c.self.inside.pages.items = length-set c.self.inside.pages.items (c.self.inside.len / 1024) c.fill.new.page in
    let strips : strips_of c.self.inside.width (c.self.inside.len + 1) (map (λ page. page.items) (set c.self.inside.pages.items (c.self.inside.len / 1024) c.fill.new.page)) ≡ c.args.self.now.strips ++ c.args.strip.now ∷ [] =
    ap (strips_of c.self.inside.width (c.self.inside.len + 1)) (written c)
    ∙ strips-pushed c.self.inside.width c.self.inside.len _ c.self.invariant.0 (omega arith) c.args.strip.now fits (c.self.inside.len / 1024) refl
    ∙ ap (λ v. v.strips ++ c.args.strip.now ∷ []) c.self.view_is in
    let spare : 1024 * length (set c.self.inside.pages.items (c.self.inside.len / 1024) c.fill.new.page) - (c.self.inside.len + 1) ≡ c.args.self.now.room - 1 =
    (let before : 1024 * length c.self.inside.pages.items - c.self.inside.len ≡ c.args.self.now.room = ap (λ v. v.room) c.self.view_is in omega arith) in
    λ i. record { width = ap (λ v. v.width) c.self.view_is i; strips = strips i; room = spare i }
