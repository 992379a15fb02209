use Rattle.mf_search.specs.World.{world}
use Rattle.std.proofs.Common.{◌≡◌, ℕ, List, Contains, ◌≤◌, ◌<◌, length, ap, sym, subst}
use Rattle.mf_search.specs.Rebuilt.{parent_of}
use Rattle.mf_search.proofs.Sound.{legal_sound, first_is_start}
use Rattle.mf_search.proofs.OneStep.{taken_is, legal_in_budget}
use Rattle.mf_search.proofs.OneWorker.{legal_in_number, all_idle}
use Rattle.mf_search.proofs.Counting.{more_than_taken, budget_spent}
use Rattle.mf_search.proofs.Fuel.{legal_parents}
use Rattle.mf_search.proofs.numbers.numbers_are_sound.Goals as goal

pub returns-clause-taken : goal.returns-clause-taken
returns-clause-taken g c sp entries = taken_is sp entries

pub returns-clause-budget : goal.returns-clause-budget
returns-clause-budget g c sp budget workers entries legal = subst (λ (ts : List ℕ). length ts ≤ budget) (taken_is sp entries) (legal_in_budget sp budget workers entries legal)

pub returns-clause-in_range : goal.returns-clause-in_range
returns-clause-in_range g c sp budget workers entries i legal h = (legal_sound sp budget workers entries legal).in_range i (subst (λ ts. Contains ts i) (sym (taken_is sp entries)) h)

pub returns-clause-busy : goal.returns-clause-busy
returns-clause-busy g c sp budget workers entries worker i legal h =
    let r = legal_in_number sp budget workers entries legal worker i h in
    (subst (λ ts. Contains ts i) (taken_is sp entries) ((legal_sound sp budget workers entries legal).busy_taken worker i h), r.0, r.1)

pub returns-clause-alone : goal.returns-clause-alone
returns-clause-alone g c sp budget workers entries this that i legal h k = (legal_sound sp budget workers entries legal).busy_alone this that i h k

pub returns-clause-valued : goal.returns-clause-valued
returns-clause-valued g c sp budget workers entries i legal h = (legal_sound sp budget workers entries legal).valued i h

pub returns-clause-parent : goal.returns-clause-parent
returns-clause-parent g c sp budget workers entries i p n helpful legal h e = legal_parents sp budget workers entries legal i p h (ap parent_of e)

pub returns-clause-no_goal : goal.returns-clause-no_goal
returns-clause-no_goal g c sp budget workers entries i legal going h = (legal_sound sp budget workers entries legal).no_goal going i (subst (λ ts. Contains ts i) (sym (taken_is sp entries)) h)

pub returns-clause-idle : goal.returns-clause-idle
returns-clause-idle g c sp budget workers entries legal idle = all_idle workers (world sp entries) (legal_in_number sp budget workers entries legal) idle

pub returns-clause-start : goal.returns-clause-start
returns-clause-start g c sp budget workers entries legal low = let r = first_is_start sp (world sp entries) (legal_sound sp budget workers entries legal) low in (r.state_is, r.maker_is)

pub returns-clause-more_opened : goal.returns-clause-more_opened
returns-clause-more_opened g c sp budget workers entries i legal left = subst (λ (ts : List ℕ). length ts < length (world sp entries).opened) (taken_is sp entries) (more_than_taken sp (world sp entries) i (legal_sound sp budget workers entries legal) left)

pub returns-clause-spent : goal.returns-clause-spent
returns-clause-spent g c sp budget workers entries legal answer = (subst (λ (ts : List ℕ). length ts ≡ budget) (taken_is sp entries) answer.2, budget_spent sp budget (world sp entries) (legal_sound sp budget workers entries legal) answer)
