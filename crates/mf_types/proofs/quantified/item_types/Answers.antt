use Rattle.std.proofs.Common.{rules, ◌≡◌, ◌<◌, length, get_or, ap, ◌∙◌}
use Rattle.mf_model.specs.TypedLists.{IsAlike}
use Rattle.mf_types.specs.Faults.{after}
use Rattle.mf_types.specs.Quantified.{item_faults}
use Rattle.mf_types.specs.Sites.{site_of}
use Rattle.mf_types.proofs.TypeWords.{word_faults, all_found, same_found, same_more}
use Rattle.mf_types.proofs.Walks.{items_more}
use Rattle.mf_types.proofs.quantified.item_types.Goals as goal
use Rattle.mf_types.proofs.quantified.item_types.Goals.{then-not-shares_types, else-not-shares_types}

pub loop-n-preserved : goal.loop-n-preserved
loop-n-preserved c =
    let site = site_of c.args.site.now in
    let items = c.args.items.now in
    let n = c.loop-n.n in
    let item = c.item-item.result in
    let within : n < length items = search rules in
    let is : item ≡ get_or items n item = search rules in
    elim c.if-not-shares_types.branch [
      | then-not-shares_types w ↦
          let step : w.type_words-best.result ≡ after c.loop-n.best (word_faults site item.types) =
          w.type_words-best.ensures ∙ ap (λ ws. after c.loop-n.best (word_faults site ws)) w.as_slice.ensures in
          rw (w.best-is)
          record {
            best = items_more (item_faults site) items n item _ _ _ within is step c.loop-n.invariant.best;
            found = all_found site items n item _ _ within is step;
          }
      | else-not-shares_types w ↦
          let alike : IsAlike items n = search rules in
          rw (w.best-is)
          record {
            best = same_more site items n item _ _ within is alike c.loop-n.invariant.found c.loop-n.invariant.best;
            found = same_found site items n _ alike c.loop-n.invariant.found;
          }
    ]
