-- What is said of actions agrees with their form.
use Rattle.std.proofs.Common.{◌≡◌, ℕ, true, false, if◌then◌else◌, Option, Some, None, is_none, List, [], ◌∷◌, ◌++◌, refl, ap, sym, ◌∙◌, subst, inl, inr, codes}
use Rattle.std.specs.List.{AllByRecursion}
use Rattle.std.specs.Option.{unwrap_or}
use Rattle.std.specs.Str.{bytes_eq}
use Rattle.mf_model.proofs.Choices.{if_true, same_text}
use Rattle.mf_model.specs.declared.token.Kind.{Kind}
use Rattle.mf_model.specs.declared.token.Span.{Span}
use Rattle.mf_model.specs.declared.tree.Tree.{Tree}
use Rattle.mf_model.specs.declared.form.Typed.{Typed}
use Rattle.mf_model.specs.declared.form.RawCond.{RawCond}
use Rattle.mf_model.specs.declared.form.RawCond.TheVariants as cond
use Rattle.mf_model.specs.declared.form.RawEffect.{RawEffect}
use Rattle.mf_model.specs.declared.form.RawEffect.TheVariants as effect
use Rattle.mf_model.specs.declared.form.RawAction.{RawAction}
use Rattle.mf_model.specs.Forms.{IsLeaf, IsWord, Part, TakeTurns, IsActionKey, NoPart, IsPart}
use Rattle.mf_reader.specs.declared.actions.Slots.{Slots}
use Rattle.mf_reader.specs.declared.keys.PartKey.{PartKey}
use Rattle.mf_reader.specs.declared.keys.PartKey.TheVariants.{Parameters, Precondition, Effect, Other}
use Rattle.mf_reader.specs.Said.{Said, said, bad, both}
use Rattle.mf_reader.specs.Faces.{name_at, span_of}
use Rattle.mf_reader.specs.Keys.{part_key, part_key_of}
use Rattle.mf_reader.specs.Seen.{seen}
use Rattle.mf_reader.specs.Actions.{no_parts, may_stand, with_part, parts_from, made_action, action_at}
use Rattle.mf_reader.specs.GrammarTerms.{IsListed, IsVariableList}
use Rattle.mf_reader.specs.GrammarConditions.{IsCond}
use Rattle.mf_reader.specs.GrammarEffects.{IsEffect}
use Rattle.mf_reader.specs.GrammarSections.{AreParameters, IsPrecondition, IsOutcome, IsAction}
use Rattle.mf_reader.proofs.Branches.{by_cases}
use Rattle.mf_reader.proofs.Readings.{some_fault, none_of_both, both_said, mapped_said}
use Rattle.mf_reader.proofs.Choices.{by_test}
use Rattle.mf_reader.proofs.WordReadings.{true_false, text_same, at_text, name_reads, face_leaf, face_branch}
use Rattle.mf_reader.proofs.TypedReadings.{variable_list_reads}
use Rattle.mf_reader.proofs.CondReadings.{cond_reads}
use Rattle.mf_reader.proofs.EffectReadings.{effect_reads}
use Rattle.mf_reader.proofs.SlotReadings.{is_free, Filled, None_at, Slot, slot_of, filled_of, skipped}

-- Keywords of parts

abbrev KeyText : PartKey → List ℕ → Type 0
KeyText Parameters text = text ≡ codes ":parameters"
KeyText Precondition text = text ≡ codes ":precondition"
KeyText Effect text = text ≡ codes ":effect"
KeyText Other text = Unit {0}

text_of_key : (text : List ℕ) → KeyText (part_key text) text
unfolding part_key
text_of_key text =
    by_test (λ h. KeyText h text) (bytes_eq text (codes ":parameters")) _ _ (λ e. same_text text (codes ":parameters") e) (λ _.
    by_test (λ h. KeyText h text) (bytes_eq text (codes ":precondition")) _ _ (λ e. same_text text (codes ":precondition") e) (λ _.
    by_test (λ h. KeyText h text) (bytes_eq text (codes ":effect")) _ _ (λ e. same_text text (codes ":effect") e) (λ _. tt)))

abbrev KeyWord : PartKey → Tree → Type 0
KeyWord Parameters t = IsWord (codes ":parameters") t
KeyWord Precondition t = IsWord (codes ":precondition") t
KeyWord Effect t = IsWord (codes ":effect") t
KeyWord Other t = Unit {0}

key_leaf : (key : PartKey) (kind : Kind) (text : List ℕ) (span : Span) (t : Tree) → IsLeaf kind text span t → KeyText key text → KeyWord key t
key_leaf Parameters kind text span t leaf e = at_text kind text (codes ":parameters") span t leaf e
key_leaf Precondition kind text span t leaf e = at_text kind text (codes ":precondition") span t leaf e
key_leaf Effect kind text span t leaf e = at_text kind text (codes ":effect") span t leaf e
key_leaf Other kind text span t leaf e = tt

key_word : (t : Tree) → KeyWord (part_key_of (seen t).face) t
key_word = by_cases (λ t. KeyWord (part_key_of (seen t).face) t)
    (λ kind text span t leaf. subst (λ (h : PartKey). KeyWord h t) (ap part_key_of (sym (face_leaf kind text span t leaf))) (key_leaf (part_key text) kind text span t leaf (text_of_key text)))
    (λ items span t list. subst (λ (h : PartKey). KeyWord h t) (ap part_key_of (sym (face_branch items span t list))) tt)

key_at : (text : List ℕ) (t : Tree) → IsWord text t → part_key_of (seen t).face ≡ part_key text
key_at text t h = ap part_key_of (face_leaf h.0 text h.1 t h.2)

parameters_key : part_key (codes ":parameters") ≡ Parameters
unfolding part_key
parameters_key = refl

precondition_key : part_key (codes ":precondition") ≡ Precondition
unfolding part_key
precondition_key = refl

effect_key : part_key (codes ":effect") ≡ Effect
unfolding part_key
effect_key = refl

-- Slots

abbrev part : List ℕ → Tree → Part
part key value = record { key = key; value = value }

abbrev PartAt : List ℕ → Tree → Part → Type 0
PartAt key value p = p ≡ part key value

record PartsFilled (old new : Slots) (parts : List Part) : Type 0 where
  parameters : Filled (PartAt (codes ":parameters")) IsVariableList old.parameters new.parameters parts
  condition : Filled (PartAt (codes ":precondition")) IsCond old.condition new.condition parts
  effect : Filled (PartAt (codes ":effect")) IsEffect old.effect new.effect parts

-- a part with another key
other_key : (key own : List ℕ) (t : Tree) → bytes_eq own key ≡ false → ¬ ((h : Tree) × PartAt key h (part own t))
other_key key own t differ = λ h.
    let e : own ≡ key = ap (λ (p : Part). p.key) h.1 in
    true_false (sym (subst (λ (v : List ℕ). bytes_eq v key ≡ true) (sym e) (text_same key)) ∙ differ)

abbrev Parted : Slots → Slots → List Tree → Type 0
Parted old new ts = (parts : List Part) × TakeTurns parts ts × AllByRecursion IsActionKey parts × PartsFilled old new parts

part_sound : (key : PartKey) (old fin : Slots) (k t : Tree) (ts : List Tree) → KeyWord key k → may_stand key old ≡ true → (with_part key old t).faults ≡ [] → Parted (with_part key old t).value fin ts → Parted old fin (k ∷ t ∷ ts)
part_sound Parameters old fin k t ts word free e rest =
    let h = rest.3 in (
      part (codes ":parameters") t ∷ rest.0,
      (word, refl, rest.1),
      (inl refl, rest.2),
      record {
        parameters = inr ((seen t).variables.value, record { free = is_free old.parameters free; is = t; at = refl; of = (variable_list_reads t).sound e }, h.parameters);
        condition = inl (other_key (codes ":precondition") (codes ":parameters") t refl, h.condition);
        effect = inl (other_key (codes ":effect") (codes ":parameters") t refl, h.effect);
      },
    )
part_sound Precondition old fin k t ts word free e rest =
    let h = rest.3 in (
      part (codes ":precondition") t ∷ rest.0,
      (word, refl, rest.1),
      (inr (inl refl), rest.2),
      record {
        parameters = inl (other_key (codes ":parameters") (codes ":precondition") t refl, h.parameters);
        condition = inr ((seen t).cond.value, record { free = is_free old.condition free; is = t; at = refl; of = (cond_reads t).sound e }, h.condition);
        effect = inl (other_key (codes ":effect") (codes ":precondition") t refl, h.effect);
      },
    )
part_sound Effect old fin k t ts word free e rest =
    let h = rest.3 in (
      part (codes ":effect") t ∷ rest.0,
      (word, refl, rest.1),
      (inr (inr refl), rest.2),
      record {
        parameters = inl (other_key (codes ":parameters") (codes ":effect") t refl, h.parameters);
        condition = inl (other_key (codes ":precondition") (codes ":effect") t refl, h.condition);
        effect = inr ((seen t).effect.value, record { free = is_free old.effect free; is = t; at = refl; of = (effect_reads t).sound e }, h.effect);
      },
    )
part_sound Other old fin k t ts word free e rest = true_false (sym free)

parts_sound : (old : Slots) (ts : List Tree) → (parts_from old ts).faults ≡ [] → Parted old (parts_from old ts).value ts
parts_sound old [] = λ e. ([], tt, tt, record { parameters = refl; condition = refl; effect = refl })
parts_sound old (k ∷ []) = λ e. some_fault _ _ e
parts_sound old (k ∷ t ∷ ts) =
    let key = part_key_of (seen k).face in
    by_test (λ (x : Said Slots). x.faults ≡ [] → Parted old x.value (k ∷ t ∷ ts)) (may_stand key old) (both (λ part rest. rest) (with_part key old t) (parts_from (with_part key old t).value ts)) (bad (span_of (seen k).face) old)
    (λ free e. let h = none_of_both (with_part key old t).faults (parts_from (with_part key old t).value ts).faults e in
    part_sound key old _ k t ts (key_word k) free h.0 (parts_sound (with_part key old t).value ts h.1))
    (λ free e. some_fault _ _ e)

part_read : (key : PartKey) (old next : Slots) (k t : Tree) (ts : List Tree) → part_key_of (seen k).face ≡ key → may_stand key old ≡ true → with_part key old t ≡ said next → parts_from old (k ∷ t ∷ ts) ≡ parts_from next ts
part_read key old next k t ts is free e =
    ap (λ (h : PartKey). if may_stand h old then both (λ part rest. rest) (with_part h old t) (parts_from (with_part h old t).value ts) else bad (span_of (seen k).face) old) is
    ∙ if_true (may_stand key old) (both (λ part rest. rest) (with_part key old t) (parts_from (with_part key old t).value ts)) (bad (span_of (seen k).face) old) free
    ∙ ap (λ (x : Said Slots). both (λ part rest. rest) x (parts_from x.value ts)) e

-- what fills a slot with its key
abbrev Filling : {V : Type 0} → List ℕ → (V → Tree → Type 0) → Option V → Option V → Tree → List Part → Type 0
Filling {V = V} key Of old new t parts = (v : V) × (old ≡ None) × Of v t × Filled (PartAt key) Of (Some v) new parts

filling : {V : Type 0} (key : List ℕ) (Of : V → Tree → Type 0) (old new : Option V) (t : Tree) (parts : List Part) → Filled (PartAt key) Of old new (part key t ∷ parts) → Filling key Of old new t parts
filling key Of old new t parts h = elim h [
  | inl skip ↦ absurd (skip.0 (t, refl))
  | inr fill ↦ (fill.0, fill.1.free, subst (λ (z : Tree). Of fill.0 z) (sym (ap (λ (p : Part). p.value) fill.1.at)) fill.1.of, fill.2)
]

key_same : (p : Part) (key : List ℕ) (t : Tree) → p.key ≡ key → p.value ≡ t → p ≡ part key t
key_same p key t e f = ap (λ (own : List ℕ). part own p.value) e ∙ ap (λ (v : Tree). part key v) f

parts_complete : (parts : List Part) (old fin : Slots) (ts : List Tree) → TakeTurns parts ts → AllByRecursion IsActionKey parts → PartsFilled old fin parts → parts_from old ts ≡ said fin
parts_complete [] old fin [] turns keys h = ap said (slots_same h.parameters h.condition h.effect)
  where
    slots_same : {old fin : Slots} → fin.parameters ≡ old.parameters → fin.condition ≡ old.condition → fin.effect ≡ old.effect → old ≡ fin
    slots_same {old} {fin} a b d = λ i. record { parameters = sym a i; condition = sym b i; effect = sym d i }
parts_complete [] old fin (t ∷ ts) turns keys h = absurd turns
parts_complete (p ∷ ps) old fin [] turns keys h = absurd turns
parts_complete (p ∷ ps) old fin (k ∷ []) turns keys h = absurd turns
parts_complete (p ∷ ps) old fin (k ∷ t ∷ ts) turns keys h = elim keys.0 [
  | inl e ↦ (
      let g = subst (λ (q : Part). PartsFilled old fin (q ∷ ps)) (key_same p (codes ":parameters") t e turns.1) h in
      let f = filling (codes ":parameters") IsVariableList old.parameters fin.parameters t ps g.parameters in
      let next : Slots = record old { parameters = Some f.0 } in
      part_read Parameters old next k t ts (key_at (codes ":parameters") k (subst (λ (v : List ℕ). IsWord v k) e turns.0) ∙ parameters_key) (ap is_none f.1)
      (mapped_said (λ variables. record old { parameters = Some variables }) (seen t).variables f.0 ((variable_list_reads t).complete f.0 f.2))
      ∙ parts_complete ps next fin ts turns.2 keys.1 (record {
        parameters = f.3;
        condition = skipped (PartAt (codes ":precondition")) IsCond old.condition fin.condition (part (codes ":parameters") t) ps (other_key (codes ":precondition") (codes ":parameters") t refl) g.condition;
        effect = skipped (PartAt (codes ":effect")) IsEffect old.effect fin.effect (part (codes ":parameters") t) ps (other_key (codes ":effect") (codes ":parameters") t refl) g.effect;
      }))
  | inr others ↦ elim others [
    | inl e ↦ (
        let g = subst (λ (q : Part). PartsFilled old fin (q ∷ ps)) (key_same p (codes ":precondition") t e turns.1) h in
        let f = filling (codes ":precondition") IsCond old.condition fin.condition t ps g.condition in
        let next : Slots = record old { condition = Some f.0 } in
        part_read Precondition old next k t ts (key_at (codes ":precondition") k (subst (λ (v : List ℕ). IsWord v k) e turns.0) ∙ precondition_key) (ap is_none f.1)
        (mapped_said (λ cond. record old { condition = Some cond }) (seen t).cond f.0 ((cond_reads t).complete f.0 f.2))
        ∙ parts_complete ps next fin ts turns.2 keys.1 (record {
          condition = f.3;
          parameters = skipped (PartAt (codes ":parameters")) IsVariableList old.parameters fin.parameters (part (codes ":precondition") t) ps (other_key (codes ":parameters") (codes ":precondition") t refl) g.parameters;
          effect = skipped (PartAt (codes ":effect")) IsEffect old.effect fin.effect (part (codes ":precondition") t) ps (other_key (codes ":effect") (codes ":precondition") t refl) g.effect;
        }))
    | inr e ↦ (
        let g = subst (λ (q : Part). PartsFilled old fin (q ∷ ps)) (key_same p (codes ":effect") t e turns.1) h in
        let f = filling (codes ":effect") IsEffect old.effect fin.effect t ps g.effect in
        let next : Slots = record old { effect = Some f.0 } in
        part_read Effect old next k t ts (key_at (codes ":effect") k (subst (λ (v : List ℕ). IsWord v k) e turns.0) ∙ effect_key) (ap is_none f.1)
        (mapped_said (λ effect. record old { effect = Some effect }) (seen t).effect f.0 ((effect_reads t).complete f.0 f.2))
        ∙ parts_complete ps next fin ts turns.2 keys.1 (record {
          effect = f.3;
          parameters = skipped (PartAt (codes ":parameters")) IsVariableList old.parameters fin.parameters (part (codes ":effect") t) ps (other_key (codes ":parameters") (codes ":effect") t refl) g.parameters;
          condition = skipped (PartAt (codes ":precondition")) IsCond old.condition fin.condition (part (codes ":effect") t) ps (other_key (codes ":precondition") (codes ":effect") t refl) g.condition;
        }))
  ]
]

-- The part with a key, or none

abbrev OfPart : {V : Type 0} → (V → Tree → Type 0) → Option V → Option Tree → Type 0
OfPart Of None None = Unit {0}
OfPart Of (Some v) (Some t) = Of v t
OfPart Of None (Some t) = ⊥
OfPart Of (Some v) None = ⊥

no_part : (key : List ℕ) (parts : List Part) → None_at (PartAt key) parts → NoPart key parts
no_part key [] h = tt
no_part key (p ∷ ps) h = ((λ e. h.0 (p.value, key_same p key p.value e refl)), no_part key ps h.1)

none_at : (key : List ℕ) (parts : List Part) → NoPart key parts → None_at (PartAt key) parts
none_at key [] h = tt
none_at key (p ∷ ps) h = ((λ x. h.0 (ap (λ (q : Part). q.key) x.1)), none_at key ps h.1)

part_of_slot : {V : Type 0} (key : List ℕ) (Of : V → Tree → Type 0) (new : Option V) (parts : List Part) → Slot (PartAt key) Of new parts → (found : Option Tree) × IsPart key found parts × OfPart Of new found
part_of_slot key Of None parts h = (None, no_part key parts h, tt)
part_of_slot key Of (Some v) parts h =
    (Some h.is, record { before = h.before; after = h.after; split = h.split ∙ ap (λ (q : Part). h.before ++ q ∷ h.after) h.at; none_before = no_part key h.before h.none_before; none_after = no_part key h.after h.none_after }, h.of)

slot_of_part : {V : Type 0} (key : List ℕ) (Of : V → Tree → Type 0) (new : Option V) (parts : List Part) (found : Option Tree) → IsPart key found parts → OfPart Of new found → Slot (PartAt key) Of new parts
slot_of_part key Of None parts None h of = none_at key parts h
slot_of_part key Of (Some v) parts (Some t) h of = record { before = h.before; item = part key t; after = h.after; is = t; split = h.split; at = refl; of = of; none_before = none_at key h.before h.none_before; none_after = none_at key h.after h.none_after }
slot_of_part key Of None parts (Some t) h of = absurd of
slot_of_part key Of (Some v) parts None h of = absurd of

-- Actions

parameters_of : (o : Option (List Typed)) (found : Option Tree) → OfPart IsVariableList o found → AreParameters (unwrap_or o []) found
parameters_of None None h = refl
parameters_of (Some v) (Some t) h = h
parameters_of None (Some t) h = absurd h
parameters_of (Some v) None h = absurd h

condition_of : (span : Span) (o : Option RawCond) (found : Option Tree) → OfPart IsCond o found → IsPrecondition span (unwrap_or o (cond.And [] span)) found
condition_of span None None h = refl
condition_of span (Some v) (Some t) h = h
condition_of span None (Some t) h = absurd h
condition_of span (Some v) None h = absurd h

effect_of : (span : Span) (o : Option RawEffect) (found : Option Tree) → OfPart IsEffect o found → IsOutcome span (unwrap_or o (effect.Group [] span)) found
effect_of span None None h = refl
effect_of span (Some v) (Some t) h = h
effect_of span None (Some t) h = absurd h
effect_of span (Some v) None h = absurd h

pub action_sound : (items : List Tree) (span : Span) (t : Tree) → IsListed (codes ":action") items span t → (action_at span items).faults ≡ [] → IsAction (action_at span items).value t
action_sound [] span t list e = some_fault _ _ e
action_sound (name ∷ rest) span t list e =
    let none = none_of_both (name_at (seen name).face).faults (parts_from no_parts rest).faults e in
    let h = parts_sound no_parts rest none.1 in
    let slots = (parts_from no_parts rest).value in
    let filled = h.3 in
    let p = part_of_slot (codes ":parameters") IsVariableList slots.parameters h.0 (slot_of (PartAt (codes ":parameters")) IsVariableList slots.parameters h.0 filled.parameters) in
    let c = part_of_slot (codes ":precondition") IsCond slots.condition h.0 (slot_of (PartAt (codes ":precondition")) IsCond slots.condition h.0 filled.condition) in
    let f = part_of_slot (codes ":effect") IsEffect slots.effect h.0 (slot_of (PartAt (codes ":effect")) IsEffect slots.effect h.0 filled.effect) in
    record {
      name = name;
      rest = rest;
      span = span;
      list = list;
      named = (name_reads name).sound none.0;
      parts = h.0;
      turns = h.1;
      keys = h.2;
      parameters_part = p.0;
      condition_part = c.0;
      effect_part = f.0;
      parameters_stand = p.1;
      condition_stands = c.1;
      effect_stands = f.1;
      parameters = parameters_of slots.parameters p.0 p.2;
      condition = condition_of span slots.condition c.0 c.2;
      effect = effect_of span slots.effect f.0 f.2;
    }

given_parameters : (items : List Typed) (found : Option Tree) → AreParameters items found → (o : Option (List Typed)) × OfPart IsVariableList o found × (unwrap_or o [] ≡ items)
given_parameters items None h = (None, tt, sym h)
given_parameters items (Some t) h = (Some items, h, refl)

given_condition : (span : Span) (raw : RawCond) (found : Option Tree) → IsPrecondition span raw found → (o : Option RawCond) × OfPart IsCond o found × (unwrap_or o (cond.And [] span) ≡ raw)
given_condition span raw None h = (None, tt, sym h)
given_condition span raw (Some t) h = (Some raw, h, refl)

given_effect : (span : Span) (raw : RawEffect) (found : Option Tree) → IsOutcome span raw found → (o : Option RawEffect) × OfPart IsEffect o found × (unwrap_or o (effect.Group [] span) ≡ raw)
given_effect span raw None h = (None, tt, sym h)
given_effect span raw (Some t) h = (Some raw, h, refl)

same_action : (a : RawAction) (ps : List Typed) (c : RawCond) (f : RawEffect) → ps ≡ a.parameters → c ≡ a.condition → f ≡ a.effect → record { word = a.word; parameters = ps; condition = c; effect = f } ≡ a
same_action a ps c f x y z = λ i. record { word = a.word; parameters = x i; condition = y i; effect = z i }

pub action_complete : (a : RawAction) (t : Tree) (h : IsAction a t) → action_at h.span (h.name ∷ h.rest) ≡ said a
action_complete a t h =
    let p = given_parameters a.parameters h.parameters_part h.parameters in
    let c = given_condition h.span a.condition h.condition_part h.condition in
    let f = given_effect h.span a.effect h.effect_part h.effect in
    let slots : Slots = record { parameters = p.0; condition = c.0; effect = f.0 } in
    both_said (made_action h.span) (name_at (seen h.name).face) (parts_from no_parts h.rest) a.word slots ((name_reads h.name).complete a.word h.named)
    (parts_complete h.parts no_parts slots h.rest h.turns h.keys (record {
      parameters = filled_of (PartAt (codes ":parameters")) IsVariableList p.0 h.parts (slot_of_part (codes ":parameters") IsVariableList p.0 h.parts h.parameters_part h.parameters_stand p.1);
      condition = filled_of (PartAt (codes ":precondition")) IsCond c.0 h.parts (slot_of_part (codes ":precondition") IsCond c.0 h.parts h.condition_part h.condition_stands c.1);
      effect = filled_of (PartAt (codes ":effect")) IsEffect f.0 h.parts (slot_of_part (codes ":effect") IsEffect f.0 h.parts h.effect_part h.effect_stands f.1);
    }))
    ∙ ap said (same_action a (unwrap_or p.0 []) (unwrap_or c.0 (cond.And [] h.span)) (unwrap_or f.0 (effect.Group [] h.span)) p.2 c.2 f.2)
