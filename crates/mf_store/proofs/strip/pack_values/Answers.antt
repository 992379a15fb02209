use Rattle.std.proofs.Common.{◌≡◌, sym, ap, subst, ◌∙◌, ◌+◌, [], ◌∷◌, ◌++◌, map, length, take, arith}
use Rattle.std.specs.List.{All, flat_map}
use Rattle.std.proofs.lemmas.List.{take_more, flat_map_more, length-append, length-take-le}
use Rattle.mf_store.specs.Packed.{value_of, fractions_in, IsCoded}
use Rattle.mf_store.proofs.Strips.{one_value_more, one_word_more, length-fractions}
use Rattle.mf_store.proofs.strip.pack_values.Goals as goal

pub packed-word-requires : goal.packed-word-requires
packed-word-requires c =
    let i = c.loop-value.value-index in
    let long = ap length c.loop-value.invariant.fractions ∙ length-append c.args.fractions.now.items (flat_map fractions_in (take c.loop-value.value-index c.args.values.now)) in
    omega (arith, long, length-fractions (take c.loop-value.value-index c.args.values.now), length-take-le c.loop-value.value-index c.args.values.now (omega arith), c.loop-value.fractions.ok.0, c.args.fractions.now.ok.0)

pub loop-value-preserved : goal.loop-value-preserved
loop-value-preserved c =
    let more : take (c.loop-value.value-index + 1) c.args.values.now ≡ take c.loop-value.value-index c.args.values.now ++ c.value-item.result ∷ [] =
    take_more c.args.values.now c.loop-value.value-index c.value-item.result c.loop-value-test.true ∙ ap (λ v. take c.loop-value.value-index c.args.values.now ++ v ∷ []) (sym c.value-item.is) in
    record {
      values =
          ap (map (value_of c.packed-word.new.fractions.items)) c.push_reserved.ensures.items
          ∙ one_value_more c.loop-value.fractions.items c.value-item.result c.loop-value.words.items c.packed-word.result (take c.loop-value.value-index c.args.values.now) c.packed-word.new.fractions.items
          c.loop-value.invariant.coded c.packed-word.ensures.fractions c.packed-word.ensures.value c.loop-value.invariant.values
          ∙ sym more;
      coded =
          subst (All (IsCoded (length c.packed-word.new.fractions.items))) (sym c.push_reserved.ensures.items)
          (one_word_more c.loop-value.fractions.items c.value-item.result c.loop-value.words.items c.packed-word.result c.packed-word.new.fractions.items c.loop-value.invariant.coded c.packed-word.ensures.fractions c.packed-word.ensures.coded);
      fractions =
          c.packed-word.ensures.fractions
          ∙ ap (λ fs. fs ++ fractions_in c.value-item.result) c.loop-value.invariant.fractions
          ∙ flat_map_more fractions_in c.args.fractions.now.items (take c.loop-value.value-index c.args.values.now) c.value-item.result
          ∙ ap (λ vs. c.args.fractions.now.items ++ flat_map fractions_in vs) (sym more);
      capacity = c.push_reserved.ensures.capacity ∙ c.loop-value.invariant.capacity;
      fraction_capacity = c.packed-word.ensures.capacity ∙ c.loop-value.invariant.fraction_capacity;
    }
