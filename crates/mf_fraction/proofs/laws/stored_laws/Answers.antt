use Rattle.std.proofs.Common.{◌≡◌, true, subst}
use Rattle.mf_fraction.specs.Exact.{Number, fits}
use Rattle.mf_fraction.proofs.Reduced.{number}
use Rattle.mf_fraction.proofs.Checks.{fits_small}
use Rattle.mf_fraction.proofs.Operations.{kept-proper}
use Rattle.mf_fraction.proofs.laws.stored_laws.Goals as goal

pub returns : goal.returns
returns c = record {
  proper = kept-proper c.args.a c.a.inside.numerator c.a.inside.denominator c.a.view_is c.a.invariant;
  narrow = subst (λ (x : Number). fits x ≡ true) c.a.view_is (fits_small (number c.a.inside.numerator c.a.inside.denominator) c.a.invariant.numerator_size c.a.invariant.denominator_size);
}
