-- Actions: a name, and parts in any order.
use Rattle.std.specs.Prelude.{Bool, false, if◌then◌else◌, Some, None, is_none, List, [], ◌∷◌}
use Rattle.std.specs.Option.{unwrap_or}
use Rattle.mf_model.specs.declared.token.Span.{Span}
use Rattle.mf_model.specs.declared.tree.Tree.{Tree}
use Rattle.mf_model.specs.declared.form.Word.{Word}
use Rattle.mf_model.specs.declared.form.RawCond.TheVariants as c
use Rattle.mf_model.specs.declared.form.RawEffect.TheVariants as e
use Rattle.mf_model.specs.declared.form.RawAction.{RawAction}
use Rattle.mf_reader.specs.declared.keys.PartKey.{PartKey}
use Rattle.mf_reader.specs.declared.keys.PartKey.TheVariants.{Parameters, Precondition, Effect, Other}
use Rattle.mf_reader.specs.declared.actions.Slots.{Slots}
use Rattle.mf_reader.specs.Faces.{name_at, span_of, word}
use Rattle.mf_reader.specs.Keys.{part_key_of}
use Rattle.mf_reader.specs.Said.{Said, said, bad, both, mapped}
use Rattle.mf_reader.specs.Seen.{seen}

-- no part stands
abbrev pub no_parts : Slots
no_parts = record { parameters = None; condition = None; effect = None }

-- the part may stand: each stands once
abbrev pub may_stand : PartKey → Slots → Bool
may_stand Parameters slots = is_none slots.parameters
may_stand Precondition slots = is_none slots.condition
may_stand Effect slots = is_none slots.effect
may_stand Other slots = false

abbrev pub with_part : PartKey → Slots → Tree → Said Slots
with_part Parameters slots t = mapped (λ variables. record slots { parameters = Some variables }) (seen t).variables
with_part Precondition slots t = mapped (λ cond. record slots { condition = Some cond }) (seen t).cond
with_part Effect slots t = mapped (λ effect. record slots { effect = Some effect }) (seen t).effect
with_part Other slots t = said slots

-- the parts behind these; a word that is no keyword of a part, or that of a part that stands, ends the action, and
-- so does a keyword with nothing behind it
abbrev mutual
  pub parts_from : Slots → List Tree → Said Slots
  parts_from slots [] = said slots
  parts_from slots (key ∷ ts) = part_behind slots key ts

  pub part_behind : Slots → Tree → List Tree → Said Slots
  part_behind slots key [] = bad (span_of (seen key).face) slots
  part_behind slots key (t ∷ ts) =
      if may_stand (part_key_of (seen key).face) slots
      then both (λ part rest. rest) (with_part (part_key_of (seen key).face) slots t) (parts_from (with_part (part_key_of (seen key).face) slots t).value ts)
      else bad (span_of (seen key).face) slots

-- a missing part is empty, and has the span of the action
abbrev pub made_action : Span → Word → Slots → RawAction
made_action span name slots = record {
  word = name;
  parameters = unwrap_or slots.parameters [];
  condition = unwrap_or slots.condition (c.And [] span);
  effect = unwrap_or slots.effect (e.Group [] span);
}

-- (:action name part*)
abbrev pub action_at : Span → List Tree → Said RawAction
action_at span [] = bad span (made_action span (word [] span) no_parts)
action_at span (name ∷ parts) = both (made_action span) (name_at (seen name).face) (parts_from no_parts parts)
