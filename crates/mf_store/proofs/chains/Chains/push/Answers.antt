use Rattle.std.proofs.Common.{◌≡◌, sym, ap, subst, ◌∙◌, ◌<◌, ◌+◌, [], ◌∷◌, ◌++◌, length, nat_eq, None, arith}
use Rattle.std.proofs.lemmas.List.{length_push}
use Rattle.indexmap.specs.IndexMap.{get}
use Rattle.mf_store.specs.Chains.{IsChained, IsWalk}
use Rattle.mf_store.proofs.Linking.{chained}
use Rattle.mf_store.proofs.chains.Chains.push.Goals as goal

pub invariant_of-self : goal.invariant_of-self
invariant_of-self c =
    let walk = subst (λ s. IsWalk c.args.hash s.hashes c.last-last.result None) (sym c.self.view_is) c.last-last.ensures in
    let kept = chained c.self.inside.hashes.items c.args.hash (get nat_eq c.self.inside.firsts) c.self.inside.links.items c.self.invariant.0 c.last-last.result (get nat_eq c.join.new.firsts) c.join.new.links.items c.len-number.result
    (c.len-number.ensures ∙ c.self.inside.hashes.ok.0) walk c.join.ensures.first c.join.ensures.same_links c.join.ensures.next c.join.ensures.same_firsts in
    let some : 0 < c.self.inside.room = subst (λ s. 0 < s.room) (sym c.self.view_is) c.requires in
    let long : length c.push_reserved-2.new.self.items ≡ length c.self.inside.hashes.items + 1 = ap length c.push_reserved-2.ensures.items ∙ length_push c.self.inside.hashes.items c.args.hash in (
      subst (λ ls. IsChained (get nat_eq c.join.new.firsts) ls c.push_reserved-2.new.self.items) (sym c.push_reserved.ensures.items)
          (subst (λ hs. IsChained (get nat_eq c.join.new.firsts) (c.join.new.links.items ++ 0 ∷ []) hs) (sym c.push_reserved-2.ensures.items) kept),
      omega arith,
      omega arith,
      omega arith,
    )
