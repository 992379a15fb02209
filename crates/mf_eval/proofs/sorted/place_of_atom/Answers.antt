use Rattle.mf_eval.proofs.Placing.{atom_place}
use Rattle.mf_eval.proofs.sorted.place_of_atom.Goals as goal

pub returns : goal.returns
returns c = atom_place c.args.atoms.now c.args.atom.now c.binary_search.result c.requires c.binary_search.ensures.bound c.binary_search.ensures.position
