use Rattle.mf_types.specs.Hiding.{place_of}
use Rattle.mf_types.proofs.Hiding.{is_there, kept_outside}
use Rattle.mf_types.proofs.binders.Binders.pop.Goals as goal

pub put_back-requires : goal.put_back-requires
put_back-requires c = is_there (place_of c.self.inside.places) c.self.inside.stack.items c.pop.new.self.items c.in-Some.binder c.as_slice.result.now c.self.invariant c.in-Some.ensures.items c.as_slice.ensures

pub invariant_of-self-2 : goal.invariant_of-self-2
invariant_of-self-2 c = kept_outside (place_of c.self.inside.places) (place_of c.put_back.new.places) c.self.inside.stack.items c.pop.new.self.items c.in-Some.binder c.as_slice.result.now c.self.invariant c.in-Some.ensures.items c.as_slice.ensures c.put_back.ensures
