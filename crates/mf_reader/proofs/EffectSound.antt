-- An effect that is said without a fault is of its form.
use Rattle.std.proofs.Common.{◌≡◌, ℕ, List, [], ◌∷◌, map, refl, ap, sym, ◌∙◌, subst, inl, inr, codes}
use Rattle.std.specs.List.{AllByRecursion}
use Rattle.mf_model.specs.declared.task.Op.{Op}
use Rattle.mf_model.specs.declared.token.Kind.{Kind}
use Rattle.mf_model.specs.declared.token.Span.{Span}
use Rattle.mf_model.specs.declared.tree.Tree.{Tree}
use Rattle.mf_model.specs.declared.form.RawCond.{RawCond}
use Rattle.mf_model.specs.declared.form.RawEffect.{RawEffect, map-RawEffect, rec-RawEffect, roll-RawEffect}
use Rattle.mf_model.specs.declared.form.RawEffect.TheVariants as raw
use Rattle.mf_model.specs.declared.form.RawEffect.TheOpen.{RawEffect-F}
use Rattle.mf_model.specs.declared.form.RawEffect.TheFolds.{rec-roll-RawEffect}
use Rattle.mf_model.specs.Forms.{IsList, IsWord}
use Rattle.mf_reader.specs.declared.heads.EffectHead.{EffectHead}
use Rattle.mf_reader.specs.declared.heads.EffectHead.TheVariants as head
use Rattle.mf_reader.specs.declared.places.EffectPlace.{EffectPlace}
use Rattle.mf_reader.specs.declared.places.EffectPlace.TheVariants.{Action, When}
use Rattle.mf_reader.specs.Said.{Said, mapped, each}
use Rattle.mf_reader.specs.Heads.{effect_head_of}
use Rattle.mf_reader.specs.Places.{Seen, effect_in}
use Rattle.mf_reader.specs.Seen.{seen, seen_word, seen_list}
use Rattle.mf_reader.specs.Atoms.{atom_at}
use Rattle.mf_reader.specs.Effects.{no_effect, added, not_effect, and_effect, all_effect, when_effect, change_effect, effect_by, list_effect}
use Rattle.mf_reader.specs.GrammarConditions.{IsGrouped}
use Rattle.mf_reader.specs.GrammarEffects.{op_word, IsEffect_form, NoWhen, IsWhen}
use Rattle.mf_reader.proofs.Branches.{seen_leaf, seen_branch, by_cases, Below}
use Rattle.mf_reader.proofs.Readings.{Reads, some_fault, none_of_both, each_sound}
use Rattle.mf_reader.proofs.TypedReadings.{variable_list_reads}
use Rattle.mf_reader.proofs.AtomReadings.{atom_at_sound, atom_reads, call_reads}
use Rattle.mf_reader.proofs.HeadReadings.{EffectWord, effect_word}
use Rattle.mf_reader.proofs.ExprRows.{each_natural}
use Rattle.mf_reader.proofs.ExprReadings.{expr_reads}
use Rattle.mf_reader.proofs.CondReadings.{cond_reads}

-- The form of each variant

natural : (IsWhen : RawCond → RawEffect → Span → Tree → Type 0) (X : Type 0) (v : X → RawEffect) (k : RawEffect → Tree → Type 0) (x : RawEffect-F X) → IsEffect_form IsWhen X v (λ p. k (v p)) x ≡ IsEffect_form IsWhen RawEffect (λ y. y) k (map-RawEffect X RawEffect v x)
natural IsWhen X v k (RawEffect-F.Add predicate terms span) = refl
natural IsWhen X v k (RawEffect-F.Delete predicate terms span) = refl
natural IsWhen X v k (RawEffect-F.Change op function terms value span) = refl
natural IsWhen X v k (RawEffect-F.Group parts span) = λ i t. IsGrouped (λ ts. each_natural RawEffect X v k parts ts i) span t
natural IsWhen X v k (RawEffect-F.Each variables part span) = refl
natural IsWhen X v k (RawEffect-F.When condition part span) = refl

-- the effects where the conditions before them are as `IsWhen` says
abbrev pub EffectBy : (RawCond → RawEffect → Span → Tree → Type 0) → RawEffect → Tree → Type 0
EffectBy IsWhen = rec-RawEffect (Tree → Type 0) (IsEffect_form IsWhen)

abbrev pub EffectRowBy : (RawCond → RawEffect → Span → Tree → Type 0) → RawEffect-F RawEffect → Tree → Type 0
EffectRowBy IsWhen = IsEffect_form IsWhen RawEffect (λ y. y) (EffectBy IsWhen)

pub effect_row : (IsWhen : RawCond → RawEffect → Span → Tree → Type 0) (y : RawEffect-F RawEffect) (t : Tree) → EffectBy IsWhen (roll-RawEffect y) t ≡ EffectRowBy IsWhen y t
effect_row IsWhen y t = ap (λ (f : Tree → Type 0). f t) (rec-roll-RawEffect (Tree → Type 0) (IsEffect_form IsWhen) (natural IsWhen) y)

abbrev pub IsWhenIn : EffectPlace → RawCond → RawEffect → Span → Tree → Type 0
IsWhenIn Action = IsWhen
IsWhenIn When = NoWhen

-- the effects of a place
abbrev pub EffectIn : EffectPlace → RawEffect → Tree → Type 0
EffectIn place = EffectBy (IsWhenIn place)

abbrev pub EffectRow : EffectPlace → RawEffect-F RawEffect → Tree → Type 0
EffectRow place = EffectRowBy (IsWhenIn place)

by_row : (place : EffectPlace) (y : RawEffect-F RawEffect) (v : RawEffect) (t : Tree) → roll-RawEffect y ≡ v → EffectRow place y t → EffectIn place v t
by_row place y v t is h = subst (λ (z : RawEffect). EffectIn place z t) is (subst (λ (T : Type 0). T) (sym (effect_row (IsWhenIn place) y t)) h)

pub effect_row_of : (place : EffectPlace) (y : RawEffect-F RawEffect) (t : Tree) → EffectIn place (roll-RawEffect y) t → EffectRow place y t
effect_row_of place y t h = subst (λ (T : Type 0). T) (effect_row (IsWhenIn place) y t) h

-- Words and lists at a place

abbrev pub EffectReads : EffectPlace → Tree → Type 0
EffectReads place = Reads (effect_in place) (EffectIn place)

effect_in_word : (place : EffectPlace) (kind : Kind) (text : List ℕ) (span : Span) → effect_in place (seen_word kind text span) ≡ no_effect span
effect_in_word Action kind text span = refl
effect_in_word When kind text span = refl

pub effect_in_list : (place : EffectPlace) (span : Span) (items : List Seen) → effect_in place (seen_list span items) ≡ list_effect place span items
effect_in_list Action span items = refl
effect_in_list When span items = refl

abbrev SoundAt : EffectPlace → Tree → Said RawEffect → Type 0
SoundAt place t r = r.faults ≡ [] → EffectIn place r.value t

-- Lists

not_sound : (place : EffectPlace) (h : Tree) (parts : List Tree) (span : Span) (t : Tree) → IsList (h ∷ parts) span t → IsWord (codes "not") h → SoundAt place t (not_effect span (map seen parts))
not_sound place h [] span t list is = λ e. some_fault _ _ e
not_sound place h (a ∷ []) span t list is = λ e.
    let v = (seen a).atom.value in
    by_row place (RawEffect-F.Delete v.predicate v.terms span) (raw.Delete v.predicate v.terms span) t (raw.rolls-Delete v.predicate v.terms span) (record { part = a; list = (h, list, is); is_part = (v.span, (atom_reads a).sound e) })
not_sound place h (a ∷ b ∷ rest) span t list is = λ e. some_fault _ _ e

and_sound : (place : EffectPlace) (h : Tree) (parts : List Tree) (span : Span) (t : Tree) → IsList (h ∷ parts) span t → IsWord (codes "and") h → AllByRecursion (EffectReads place) parts → SoundAt place t (and_effect place span (map seen parts))
and_sound place h parts span t list is all = λ e.
    let vs = (each (effect_in place) (map seen parts)).value in
    by_row place (RawEffect-F.Group vs span) (raw.Group vs span) t (raw.rolls-Group vs span) (inl (parts, (h, list, is), each_sound (effect_in place) (EffectIn place) parts all e))

all_sound : (place : EffectPlace) (h : Tree) (parts : List Tree) (span : Span) (t : Tree) → IsList (h ∷ parts) span t → IsWord (codes "forall") h → AllByRecursion (EffectReads place) parts → SoundAt place t (all_effect place span (map seen parts))
all_sound place h [] span t list is all = λ e. some_fault _ _ e
all_sound place h (a ∷ []) span t list is all = λ e. some_fault _ _ e
all_sound place h (a ∷ b ∷ []) span t list is all = λ e.
    let v = (seen a).variables.value in
    let w = (effect_in place (seen b)).value in
    let none = none_of_both (seen a).variables.faults (effect_in place (seen b)).faults e in
    by_row place (RawEffect-F.Each v w span) (raw.Each v w span) t (raw.rolls-Each v w span) (record { left = a; right = b; list = (h, list, is); is_left = (variable_list_reads a).sound none.0; is_right = all.1.0.sound none.1 })
all_sound place h (a ∷ b ∷ d ∷ rest) span t list is all = λ e. some_fault _ _ e

change_sound : (place : EffectPlace) (op : Op) (h : Tree) (parts : List Tree) (span : Span) (t : Tree) → IsList (h ∷ parts) span t → IsWord (op_word op) h → SoundAt place t (change_effect op span (map seen parts))
change_sound place op h [] span t list is = λ e. some_fault _ _ e
change_sound place op h (a ∷ []) span t list is = λ e. some_fault _ _ e
change_sound place op h (a ∷ b ∷ []) span t list is = λ e.
    let v = (seen a).call.value in
    let w = (seen b).expr.value in
    let none = none_of_both (seen a).call.faults (seen b).expr.faults e in
    by_row place (RawEffect-F.Change op v.function v.terms w span) (raw.Change op v.function v.terms w span) t (raw.rolls-Change op v.function v.terms w span) (record { left = a; right = b; list = (h, list, is); is_left = (v.span, (call_reads a).sound none.0); is_right = (expr_reads b).sound none.1 })
change_sound place op h (a ∷ b ∷ d ∷ rest) span t list is = λ e. some_fault _ _ e

-- effects behind a `when` are known where the place can have a `when`
abbrev pub InnerOf : EffectPlace → Type 0
InnerOf Action = (t : Tree) → EffectReads When t
InnerOf When = Unit {0}

when_sound : (place : EffectPlace) → InnerOf place → (h : Tree) (parts : List Tree) (span : Span) (t : Tree) → IsList (h ∷ parts) span t → IsWord (codes "when") h → SoundAt place t (when_effect place span (map seen parts))
when_sound When inner h parts span t list is = λ e. some_fault _ _ e
when_sound Action inner h [] span t list is = λ e. some_fault _ _ e
when_sound Action inner h (a ∷ []) span t list is = λ e. some_fault _ _ e
when_sound Action inner h (a ∷ b ∷ []) span t list is = λ e.
    let v = (seen a).cond.value in
    let w = (seen b).inner.value in
    let none = none_of_both (seen a).cond.faults (seen b).inner.faults e in
    by_row Action (RawEffect-F.When v w span) (raw.When v w span) t (raw.rolls-When v w span) (record { left = a; right = b; list = (h, list, is); is_left = (cond_reads a).sound none.0; is_right = (inner b).sound none.1 })
when_sound Action inner h (a ∷ b ∷ d ∷ rest) span t list is = λ e. some_fault _ _ e

atom_sound : (place : EffectPlace) (items : List Tree) (span : Span) (t : Tree) → IsList items span t → SoundAt place t (mapped added (atom_at span (map seen items)))
atom_sound place items span t list = λ e.
    let a = (atom_at span (map seen items)).value in
    by_row place (RawEffect-F.Add a.predicate a.terms a.span) (added a) t (raw.rolls-Add a.predicate a.terms a.span) (atom_at_sound items span t list e)

by_sound : (place : EffectPlace) → InnerOf place → (kind : EffectHead) (h : Tree) (parts : List Tree) (span : Span) (t : Tree) → EffectWord kind h → IsList (h ∷ parts) span t → AllByRecursion (EffectReads place) parts → SoundAt place t (effect_by kind place span (seen h) (map seen parts))
by_sound place inner head.Not h parts span t is list all = not_sound place h parts span t list is
by_sound place inner head.And h parts span t is list all = and_sound place h parts span t list is all
by_sound place inner head.All h parts span t is list all = all_sound place h parts span t list is all
by_sound place inner head.When h parts span t is list all = when_sound place inner h parts span t list is
by_sound place inner (head.Change op) h parts span t is list all = change_sound place op h parts span t list is
by_sound place inner head.Other h parts span t is list all = atom_sound place (h ∷ parts) span t list

list_sound : (place : EffectPlace) → InnerOf place → (items : List Tree) (span : Span) (t : Tree) → IsList items span t → AllByRecursion (EffectReads place) items → SoundAt place t (list_effect place span (map seen items))
list_sound place inner [] span t list all = λ e. by_row place (RawEffect-F.Group [] span) (raw.Group [] span) t (raw.rolls-Group [] span) (inr (list, tt))
list_sound place inner (h ∷ parts) span t list all = by_sound place inner (effect_head_of (seen h).face) h parts span t (effect_word h) list all.1

pub effect_sound : (place : EffectPlace) → InnerOf place → (t : Tree) → Below (EffectReads place) t → SoundAt place t (effect_in place (seen t))
effect_sound place inner = by_cases (λ t. Below (EffectReads place) t → SoundAt place t (effect_in place (seen t)))
    (λ kind text span t leaf below. subst (SoundAt place t) (sym (ap (effect_in place) (seen_leaf kind text span t leaf) ∙ effect_in_word place kind text span)) (λ e. some_fault _ _ e))
    (λ items span t list below. subst (SoundAt place t) (sym (ap (effect_in place) (seen_branch items span t list) ∙ effect_in_list place span (map seen items))) (list_sound place inner items span t list (below items span list)))
