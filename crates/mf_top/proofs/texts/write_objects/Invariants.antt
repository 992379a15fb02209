use Rattle.std.proofs.Common.{◌≡◌, ◌++◌, drop}
use Rattle.std.specs.List.{flat_map}
use Rattle.mf_top.specs.Texts.{object_text}
use Rattle.mf_top.proofs.texts.write_objects.Given as goal

abbrev pub invariant-loop-number : goal.invariant-loop-number
invariant-loop-number l =
    l.text ++ flat_map (object_text l.objects) (drop l.number-index l.numbers) ≡ l.fn.text ++ flat_map (object_text l.objects) l.numbers
