use Rattle.std.proofs.Common.{ℕ, true, List, Option, length, subst, sym, ap, ◌∙◌}
use Rattle.std.proofs.lemmas.Bool.{eq-eqb, eqb-true, false≢true}
use Rattle.mf_search.specs.declared.status.Status.{Status}
use Rattle.mf_search.specs.Answers.{IsStatus}
use Rattle.mf_permits.specs.Core.{world_of}
use Rattle.mf_permits.specs.Ledger.{HoldOpened, IsLeastHeld, is_going, seen_of}
use Rattle.mf_permits.proofs.StatusLaws.{status_is}
use Rattle.mf_permits.proofs.TakeLaws.{hold_opened}
use Rattle.mf_permits.proofs.ending.status.Goals as goal

pub least_held-least-requires-clause-opened : goal.least_held-least-requires-clause-opened
least_held-least-requires-clause-opened g c =
    subst (λ (busy : List (Option ℕ)). HoldOpened busy (length c.as_slice-in-Going.result.now)) (sym c.as_slice.ensures.value)
    (subst (λ (values : List ℕ). HoldOpened c.args.ledger.now.busy.items (length values)) (sym c.as_slice-in-Going.ensures.value) (hold_opened g.N.Naming.case c.args.ledger.now c.requires))

pub returns-in-Going : goal.returns-in-Going
returns-in-Going g c =
    let held : IsLeastHeld c.args.ledger.now.busy.items c.args.ledger.now.tables.values.items (length c.args.ledger.now.busy.items) c.least_held-least.result =
    subst (λ (busy : List (Option ℕ)). IsLeastHeld busy c.args.ledger.now.tables.values.items (length busy) c.least_held-least.result) c.as_slice.ensures.value
    (subst (λ (values : List ℕ). IsLeastHeld c.as_slice.result.now values (length c.as_slice.result.now) c.least_held-least.result) c.as_slice-in-Going.ensures.value c.least_held-least.ensures) in
    subst (λ (status : Status). IsStatus g.N.Naming.case.budget (world_of g.N.Naming.case (seen_of c.args.ledger.now)) c.args.ledger.now.halted status) (sym c.going_status.ensures)
    (status_is g.N.Naming.case c.args.ledger.now c.least_held-least.result c.least-first.result _ c.requires (ap is_going c.in-Going.is) c.least-first.ensures.rising held c.least-first.ensures.value
    (λ e. eqb-true c.args.ledger.now.takes c.args.ledger.now.budget (sym c.is_spent.ensures ∙ e))
    (λ e same. false≢true (sym e ∙ c.is_spent.ensures ∙ eq-eqb c.args.ledger.now.takes c.args.ledger.now.budget same)))
