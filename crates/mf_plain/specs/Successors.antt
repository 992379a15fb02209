-- The successors of a state as the search keeps them.
use Rattle.std.specs.Prelude.{false}
use Rattle.mf_model.specs.declared.state.PlainState.{PlainState}
use Rattle.mf_search.specs.Space.{Child}
use Rattle.mf_plain.specs.declared.successors.Successor.{Successor}

abbrev pub child_of : Successor → Child PlainState
child_of s = record { instance = s.instance; state = s.state; helpful = false }
