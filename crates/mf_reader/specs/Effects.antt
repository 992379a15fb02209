-- Effects.
use Rattle.std.specs.Prelude.{List, [], ◌∷◌}
use Rattle.mf_model.specs.declared.task.Op.{Op}
use Rattle.mf_model.specs.declared.token.Span.{Span}
use Rattle.mf_model.specs.declared.form.RawEffect.{RawEffect}
use Rattle.mf_model.specs.declared.form.RawEffect.TheVariants as e
use Rattle.mf_reader.specs.declared.atoms.AtomForm.{AtomForm}
use Rattle.mf_reader.specs.declared.heads.EffectHead.{EffectHead}
use Rattle.mf_reader.specs.declared.heads.EffectHead.TheVariants as head
use Rattle.mf_reader.specs.declared.places.EffectPlace.{EffectPlace}
use Rattle.mf_reader.specs.declared.places.EffectPlace.TheVariants.{Action, When}
use Rattle.mf_reader.specs.Atoms.{atom_at}
use Rattle.mf_reader.specs.Heads.{effect_head_of}
use Rattle.mf_reader.specs.Places.{Seen, effect_in}
use Rattle.mf_reader.specs.Said.{Said, said, bad, left_out, both, mapped, each}

abbrev pub no_effect : Span → Said RawEffect
no_effect span = bad span (e.Group [] span)

abbrev pub added : AtomForm → RawEffect
added atom = e.Add atom.predicate atom.terms atom.span

-- the span of a deletion is that of the list with the `not`
abbrev pub not_effect : Span → List Seen → Said RawEffect
not_effect span (a ∷ []) = mapped (λ atom. e.Delete atom.predicate atom.terms span) a.atom
not_effect span parts = no_effect span

abbrev pub and_effect : EffectPlace → Span → List Seen → Said RawEffect
and_effect place span parts = mapped (λ effects. e.Group effects span) (each (effect_in place) parts)

abbrev pub all_effect : EffectPlace → Span → List Seen → Said RawEffect
all_effect place span (a ∷ b ∷ []) = both (λ variables part. e.Each variables part span) a.variables (effect_in place b)
all_effect place span parts = no_effect span

abbrev pub outer_when : Span → List Seen → Said RawEffect
outer_when span (a ∷ b ∷ []) = both (λ condition part. e.When condition part span) a.cond b.inner
outer_when span parts = no_effect span

-- a `when` inside the effect of a `when` is left out
abbrev pub when_effect : EffectPlace → Span → List Seen → Said RawEffect
when_effect Action span parts = outer_when span parts
when_effect When span parts = left_out span (e.Group [] span)

abbrev pub change_effect : Op → Span → List Seen → Said RawEffect
change_effect op span (a ∷ b ∷ []) = both (λ call value. e.Change op call.function call.terms value span) a.call b.expr
change_effect op span parts = no_effect span

abbrev pub effect_by : EffectHead → EffectPlace → Span → Seen → List Seen → Said RawEffect
effect_by head.Not place span s parts = not_effect span parts
effect_by head.And place span s parts = and_effect place span parts
effect_by head.All place span s parts = all_effect place span parts
effect_by head.When place span s parts = when_effect place span parts
effect_by (head.Change op) place span s parts = change_effect op span parts
effect_by head.Other place span s parts = mapped added (atom_at span (s ∷ parts))

-- `()` does nothing
abbrev pub list_effect : EffectPlace → Span → List Seen → Said RawEffect
list_effect place span [] = said (e.Group [] span)
list_effect place span (s ∷ parts) = effect_by (effect_head_of s.face) place span s parts
