use Rattle.std.proofs.Common.{◌<◌, ◌-◌, ℕ, List, Option, None, length, subst, sym, ◌∙◌, arith}
use Rattle.std.proofs.lemmas.Bool.{eq-eqb, false≢true}
use Rattle.std.proofs.lemmas.List.{get_or_default}
use Rattle.mf_permits.specs.declared.answers.Taken.{Taken}
use Rattle.mf_permits.specs.Core.{TakeAnswers, world_of}
use Rattle.mf_permits.specs.Ledger.{HoldOpened, IsLeastHeld, seen_of}
use Rattle.mf_permits.proofs.TakeLaws.{chosen, hold_opened}
use Rattle.mf_permits.proofs.taking.decide.Goals as goal

pub least_held-least-requires-clause-opened : goal.least_held-least-requires-clause-opened
least_held-least-requires-clause-opened g c =
    subst (λ (busy : List (Option ℕ)). HoldOpened busy (length c.as_slice-2.result.now)) (sym c.as_slice.ensures.value)
    (subst (λ (values : List ℕ). HoldOpened c.args.ledger.now.busy.items (length values)) (sym c.as_slice-2.ensures.value) (hold_opened g.N.Naming.case c.args.ledger.now c.requires.kept))

pub returns : goal.returns
returns g c =
    let low = c.requires.low in
    let high = c.requires.high in
    let within : c.args.worker - 1 < length c.args.ledger.now.busy.items = omega arith in
    let held : IsLeastHeld c.args.ledger.now.busy.items c.args.ledger.now.tables.values.items (length c.args.ledger.now.busy.items) c.least_held-least.result =
    subst (λ (busy : List (Option ℕ)). IsLeastHeld busy c.args.ledger.now.tables.values.items (length busy) c.least_held-least.result) c.as_slice.ensures.value
    (subst (λ (values : List ℕ). IsLeastHeld c.as_slice.result.now values (length c.as_slice.result.now) c.least_held-least.result) c.as_slice-2.ensures.value c.least_held-least.ensures) in
    subst (λ (taken : Taken). TakeAnswers g.N.Naming.case (length c.args.ledger.now.busy.items) (world_of g.N.Naming.case (seen_of c.args.ledger.now)) c.args.ledger.now.halted c.args.worker taken) (sym c.choose.ensures)
    (chosen g.N.Naming.case c.args.ledger.now c.args.worker c.least.result c.least_held-least.result (record {
      keeps = c.requires.kept;
      low = c.requires.low;
      high = c.requires.high;
      idle = get_or_default c.args.ledger.now.busy.items (c.args.worker - 1) None c.index.result.now within ∙ sym c.index.ensures ∙ c.in_default.is;
      going = sym c.is_going.ensures ∙ c.if-not-is_going.false;
      halted = c.if-ledger.false;
      takes = λ e. false≢true (sym c.if-is_spent.false ∙ c.is_spent.ensures ∙ eq-eqb c.args.ledger.now.takes c.args.ledger.now.budget e);
      rising = c.least.ensures.rising;
    }) c.least.ensures.value held)
