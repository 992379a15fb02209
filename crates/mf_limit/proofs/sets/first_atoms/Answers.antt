use Rattle.std.proofs.Common.{◌∙◌, ◌++◌, ◌∷◌, [], sym, ap, not, Bool, List, length, arith}
use Rattle.std.proofs.lemmas.List.FromFn.{length-map-range_with_len, map-range_with_len_more}
use Rattle.mf_task.specs.Rows.{sight_of}
use Rattle.mf_limit.specs.declared.sets.AtomChance.{AtomChance}
use Rattle.mf_limit.specs.Sets.{first_atom}
use Rattle.mf_limit.proofs.sets.first_atoms.Goals as goal

pub push_reserved-requires : goal.push_reserved-requires
push_reserved-requires c =
    let atoms = first_atom (sight_of c.args.row.now) in
    omega (arith, ap length c.loop-atom.invariant.items, length-map-range_with_len atoms 0 c.loop-atom.atom, c.loop-atom.invariant.room, c.loop-atom-test.true)

pub loop-atom-preserved : goal.loop-atom-preserved
loop-atom-preserved c =
    let atoms = first_atom (sight_of c.args.row.now) in
    let pushed = ap (λ (b : Bool). c.loop-atom.atoms.items ++ record { may_be_true = b; may_be_false = not b } ∷ []) c.bit-holds.ensures in
    record {
      items = c.push_reserved.ensures.items ∙ pushed ∙ ap (λ (xs : List AtomChance). xs ++ atoms c.loop-atom.atom ∷ []) c.loop-atom.invariant.items ∙ sym (map-range_with_len_more atoms 0 c.loop-atom.atom c.loop-atom.atom (omega arith));
      room = omega (arith, c.push_reserved.ensures.capacity, c.loop-atom.invariant.room);
    }
