use Rattle.std.proofs.Common.{nat_eq, sym, arith}
use Rattle.std.specs.Cmp.Lexicographic.{unequal}
use Rattle.std.proofs.lemmas.List.{length-map}
use Rattle.mf_model.specs.Views.{object_of, objects_of}
use Rattle.mf_normal.proofs.binding.stand_for.Goals as goal

pub returns-then-terms-objects : goal.returns-then-terms-objects
returns-then-terms-objects c =
    sym (unequal nat_eq (objects_of c.args.binding.now c.args.terms.now) c.args.objects.now
    (λ e. c.if-terms-objects.true (omega (arith, e, length-map c.args.terms.now (object_of c.args.binding.now)))))
