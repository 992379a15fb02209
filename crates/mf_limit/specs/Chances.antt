-- What may become of a form and of the term that an effect changes, in the words of the limit closure.
use Rattle.std.specs.Prelude.{Bool, true, false, ◌&&◌, if◌then◌else◌, [], ◌∷◌, Option, Some, None}
use Rattle.std.specs.List.{list_any}
use Rattle.std.specs.declared.cmp.Ordering.{Ordering}
use Rattle.std.specs.declared.cmp.Ordering.TheVariants.{Less, Equal, Greater}
use Rattle.mf_fraction.specs.Exact.{Number, product_of, sum_of}
use Rattle.mf_model.specs.declared.task.Op.{Op}
use Rattle.mf_model.specs.declared.task.Op.TheVariants.{Assign, Increase, Decrease, ScaleUp, ScaleDown}
use Rattle.mf_model.specs.declared.task.Relation.{Relation}
use Rattle.mf_task.specs.declared.form.Form.{Form}
use Rattle.mf_task.specs.declared.form.Part.{Part}
use Rattle.mf_task.specs.GroundMeaning.{relates}
use Rattle.mf_task.specs.LimitClosure.{Family, agrees_with, form_may_be_defined, if_fits, is_zero, known_value, may_get, may_go_down, may_go_up, sign_of_known, then_some}
use Rattle.mf_task.specs.Rows.{Sight}
use Rattle.mf_limit.specs.declared.chance.FormChance.{FormChance}
use Rattle.mf_limit.specs.declared.sets.TermChance.{TermChance}

-- the known value with one part more
unfoldable pub next_known : Sight → Number → Part → Option Number
next_known sight a p =
    if is_zero p.coefficient then Some a
    else then_some (sight.value p.term) (λ v. if_fits (product_of p.coefficient v) (λ product. if_fits (sum_of a product) Some))

abbrev pub chance_of : Sight → Family → Form → FormChance
chance_of sight family a = record {
  may_be_defined = form_may_be_defined family a;
  sign = sign_of_known (known_value sight a.constant a.parts);
  may_go_up = may_go_up family a;
  may_go_down = may_go_down family a;
}

-- of a right side that is undefined in every state
abbrev pub no_chance : FormChance
no_chance = record { may_be_defined = false; sign = None; may_go_up = false; may_go_down = false }

abbrev pub optional_chance : Sight → Family → Option Form → FormChance
optional_chance sight family (Some a) = chance_of sight family a
optional_chance sight family None = no_chance

abbrev pub may_have : FormChance → Ordering → Bool
may_have chance asked = chance.may_be_defined && may_get chance.sign chance.may_go_up chance.may_go_down asked

-- the relation may hold, or fail where that is asked
abbrev pub may_relate : Relation → FormChance → Bool → Bool
may_relate r chance asked = list_any (λ o. agrees_with asked (relates r o) && may_have chance o) (Less ∷ Equal ∷ Greater ∷ [])

-- what becomes of a term by an effect whose right side has these chances
abbrev pub number_chance : Op → FormChance → TermChance
number_chance Assign value = record { may_rise = value.may_be_defined; may_fall = value.may_be_defined; may_be_defined = value.may_be_defined }
number_chance ScaleUp value = record { may_rise = true; may_fall = true; may_be_defined = false }
number_chance ScaleDown value = record { may_rise = true; may_fall = true; may_be_defined = false }
number_chance Increase value = record { may_rise = may_have value Greater; may_fall = may_have value Less; may_be_defined = false }
number_chance Decrease value = record { may_rise = may_have value Less; may_fall = may_have value Greater; may_be_defined = false }
