-- What is said of effects agrees with their forms.
use Rattle.std.proofs.Common.{◌≡◌, ℕ, List, [], ◌∷◌, map, refl, ap, sym, ◌∙◌, subst, inl, inr, codes}
use Rattle.mf_model.specs.declared.task.Op.{Op}
use Rattle.mf_model.specs.declared.task.Op.TheVariants.{Assign, Increase, Decrease, ScaleUp, ScaleDown}
use Rattle.mf_model.specs.declared.token.Kind.TheVariants.{Name}
use Rattle.mf_model.specs.declared.token.Span.{Span}
use Rattle.mf_model.specs.declared.tree.Tree.{Tree}
use Rattle.mf_model.specs.declared.form.RawCond.{RawCond}
use Rattle.mf_model.specs.declared.form.RawEffect.{RawEffect, roll-RawEffect}
use Rattle.mf_model.specs.declared.form.RawEffect.TheVariants as raw
use Rattle.mf_model.specs.declared.form.RawEffect.TheViews.{out-RawEffect, roll-out-RawEffect}
use Rattle.mf_model.specs.declared.form.RawEffect.TheOpen.{RawEffect-F}
use Rattle.mf_model.specs.Forms.{IsList, Each}
use Rattle.mf_reader.specs.declared.atoms.AtomForm.{AtomForm}
use Rattle.mf_reader.specs.declared.atoms.CallForm.{CallForm}
use Rattle.mf_reader.specs.declared.heads.EffectHead.{EffectHead}
use Rattle.mf_reader.specs.declared.heads.EffectHead.TheVariants as head
use Rattle.mf_reader.specs.declared.places.EffectPlace.{EffectPlace}
use Rattle.mf_reader.specs.declared.places.EffectPlace.TheVariants.{Action, When}
use Rattle.mf_reader.specs.Said.{said, each}
use Rattle.mf_reader.specs.Heads.{effect_head, effect_head_of}
use Rattle.mf_reader.specs.Places.{effect_in}
use Rattle.mf_reader.specs.Seen.{seen}
use Rattle.mf_reader.specs.Atoms.{atom_at}
use Rattle.mf_reader.specs.Effects.{added, effect_by}
use Rattle.mf_reader.specs.GrammarTerms.{IsListed}
use Rattle.mf_reader.specs.GrammarEffects.{op_word, IsInnerEffect, IsEffect}
use Rattle.mf_reader.proofs.Branches.{seen_branch, Below, by_parts, parts_below}
use Rattle.mf_reader.proofs.Readings.{Reads, both_said, mapped_said, each_complete}
use Rattle.mf_reader.proofs.WordReadings.{face_leaf}
use Rattle.mf_reader.proofs.TypedReadings.{variable_list_reads}
use Rattle.mf_reader.proofs.AtomReadings.{atom_at_complete, atom_reads, call_reads}
use Rattle.mf_reader.proofs.HeadReadings.{effect_head_at, effect_other}
use Rattle.mf_reader.proofs.ExprReadings.{expr_reads}
use Rattle.mf_reader.proofs.CondReadings.{cond_reads}
use Rattle.mf_reader.proofs.EffectSound.{IsWhenIn, EffectIn, EffectRow, effect_row_of, EffectReads, effect_in_list, InnerOf, effect_sound}

-- Heads

not_head : effect_head (codes "not") ≡ head.Not
unfolding effect_head
not_head = refl

and_head : effect_head (codes "and") ≡ head.And
unfolding effect_head
and_head = refl

all_head : effect_head (codes "forall") ≡ head.All
unfolding effect_head
all_head = refl

when_head : effect_head (codes "when") ≡ head.When
unfolding effect_head
when_head = refl

op_head : (op : Op) → effect_head (op_word op) ≡ head.Change op
unfolding effect_head
op_head Assign = refl
op_head Increase = refl
op_head Decrease = refl
op_head ScaleUp = refl
op_head ScaleDown = refl

opened : (place : EffectPlace) (h : Tree) (parts : List Tree) (span : Span) (t : Tree) (kind : EffectHead) → IsList (h ∷ parts) span t → effect_head_of (seen h).face ≡ kind → effect_in place (seen t) ≡ effect_by kind place span (seen h) (map seen parts)
opened place h parts span t kind list is =
    ap (effect_in place) (seen_branch (h ∷ parts) span t list)
    ∙ effect_in_list place span (map seen (h ∷ parts))
    ∙ ap (λ (v : EffectHead). effect_by v place span (seen h) (map seen parts)) is

listed : (place : EffectPlace) (text : List ℕ) (parts : List Tree) (span : Span) (t : Tree) (kind : EffectHead) → effect_head text ≡ kind → (is : IsListed text parts span t) → effect_in place (seen t) ≡ effect_by kind place span (seen is.0) (map seen parts)
listed place text parts span t kind e is = opened place is.0 parts span t kind is.1 (effect_head_at text is.0 is.2 ∙ e)

-- Rows

empty_group : (place : EffectPlace) (vs : List RawEffect) (span : Span) → Each (EffectIn place) vs [] → said (raw.Group [] span) ≡ said (roll-RawEffect (RawEffect-F.Group vs span))
empty_group place [] span h = ap said (sym (raw.rolls-Group [] span))
empty_group place (v ∷ vs) span h = absurd h

when_complete : (place : EffectPlace) → InnerOf place → (v : RawCond) (w : RawEffect) (span : Span) (t : Tree) → IsWhenIn place v w span t → effect_in place (seen t) ≡ said (raw.When v w span)
when_complete When inner v w span t h = absurd h
when_complete Action inner v w span t h =
    listed Action (codes "when") (h.left ∷ h.right ∷ []) span t head.When when_head h.list
    ∙ both_said (λ condition part. raw.When condition part span) (seen h.left).cond (seen h.right).inner v w ((cond_reads h.left).complete v h.is_left) ((inner h.right).complete w h.is_right)

layer_complete : (place : EffectPlace) → InnerOf place → (t : Tree) → Below (EffectReads place) t → (y : RawEffect-F RawEffect) → EffectRow place y t → effect_in place (seen t) ≡ said (roll-RawEffect y)
layer_complete place inner t below (RawEffect-F.Add p ts span) h =
    let form : AtomForm = record { predicate = p; terms = ts; span = span } in
    opened place h.head h.parts span t head.Other h.list (ap effect_head_of (face_leaf Name p.text p.span h.head h.names.0) ∙ effect_other p.text h.names.1)
    ∙ mapped_said added (atom_at span (map seen (h.head ∷ h.parts))) form (atom_at_complete form t h)
    ∙ ap said (sym (raw.rolls-Add p ts span))
layer_complete place inner t below (RawEffect-F.Delete p ts span) h =
    let form : AtomForm = record { predicate = p; terms = ts; span = h.is_part.0 } in
    listed place (codes "not") (h.part ∷ []) span t head.Not not_head h.list
    ∙ mapped_said (λ (atom : AtomForm). raw.Delete atom.predicate atom.terms span) (seen h.part).atom form ((atom_reads h.part).complete form h.is_part.1)
    ∙ ap said (sym (raw.rolls-Delete p ts span))
layer_complete place inner t below (RawEffect-F.Change op f ts w span) h =
    let form : CallForm = record { function = f; terms = ts; span = h.is_left.0 } in
    listed place (op_word op) (h.left ∷ h.right ∷ []) span t (head.Change op) (op_head op) h.list
    ∙ both_said (λ (call : CallForm) value. raw.Change op call.function call.terms value span) (seen h.left).call (seen h.right).expr form w ((call_reads h.left).complete form h.is_left.1) ((expr_reads h.right).complete w h.is_right)
    ∙ ap said (sym (raw.rolls-Change op f ts w span))
layer_complete place inner t below (RawEffect-F.Group vs span) h = elim h [
  | inl row ↦ listed place (codes "and") row.0 span t head.And and_head row.1
      ∙ mapped_said (λ effects. raw.Group effects span) (each (effect_in place) (map seen row.0)) vs (each_complete (effect_in place) (EffectIn place) row.0 (parts_below (EffectReads place) (codes "and") row.0 span t below row.1) vs row.2)
      ∙ ap said (sym (raw.rolls-Group vs span))
  | inr none ↦ ap (effect_in place) (seen_branch [] span t none.0) ∙ effect_in_list place span [] ∙ empty_group place vs span none.1
]
layer_complete place inner t below (RawEffect-F.Each vs w span) h =
    let all = parts_below (EffectReads place) (codes "forall") (h.left ∷ h.right ∷ []) span t below h.list in
    listed place (codes "forall") (h.left ∷ h.right ∷ []) span t head.All all_head h.list
    ∙ both_said (λ variables part. raw.Each variables part span) (seen h.left).variables (effect_in place (seen h.right)) vs w ((variable_list_reads h.left).complete vs h.is_left) (all.1.0.complete w h.is_right)
    ∙ ap said (sym (raw.rolls-Each vs w span))
layer_complete place inner t below (RawEffect-F.When v w span) h = when_complete place inner v w span t h ∙ ap said (sym (raw.rolls-When v w span))

complete : (place : EffectPlace) → InnerOf place → (t : Tree) → Below (EffectReads place) t → (v : RawEffect) → EffectIn place v t → effect_in place (seen t) ≡ said v
complete place inner t below v =
    subst (λ (z : RawEffect). EffectIn place z t → effect_in place (seen t) ≡ said z) (roll-out-RawEffect v)
    (λ h. layer_complete place inner t below (out-RawEffect v) (effect_row_of place (out-RawEffect v) t h))

effect_in_reads : (place : EffectPlace) → InnerOf place → (t : Tree) → EffectReads place t
effect_in_reads place inner = by_parts (EffectReads place) (λ t below. record { sound = effect_sound place inner t below; complete = complete place inner t below })

pub inner_reads : (t : Tree) → Reads (λ s. s.inner) IsInnerEffect t
inner_reads t = let r = effect_in_reads When tt t in record { sound = r.sound; complete = r.complete }

pub effect_reads : (t : Tree) → Reads (λ s. s.effect) IsEffect t
effect_reads t = let r = effect_in_reads Action (effect_in_reads When tt) t in record { sound = r.sound; complete = r.complete }
