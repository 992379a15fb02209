use Rattle.std.proofs.Common.{◌≡◌, drop}
use Rattle.mf_model.specs.States.{value_at}
use Rattle.mf_model.specs.Views.{objects_of}
use Rattle.mf_normal.proofs.lookup.start_value.Given as goal

abbrev pub invariant-loop-valued : goal.invariant-loop-valued
invariant-loop-valued l =
    value_at (drop l.valued-index l.values) l.function (objects_of l.binding l.terms) ≡ value_at l.values l.function (objects_of l.binding l.terms)
