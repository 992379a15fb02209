-- Rounds that add at once what they find come to the limit closure.
use Rattle.std.proofs.Common.{◌≡◌, refl, sym, subst, ℕ, suc, ◌+◌, Bool, true, false, List, arith}
use Rattle.std.specs.List.{flat_map, list_all}
use Rattle.mf_task.specs.declared.ground.GroundCond.{GroundCond}
use Rattle.mf_task.specs.declared.task.Task.{Task}
use Rattle.mf_task.specs.LimitClosure.{IsWithin, action_gains, family_after, limit_closure, may_hold, next_family, round_count}
use Rattle.mf_task.specs.Rows.{Sight}
use Rattle.mf_limit.specs.declared.sets.LimitSets.{LimitSets}
use Rattle.mf_limit.specs.Growth.{Grows}
use Rattle.mf_task.specs.NumberedTasks.{is_numbered}
use Rattle.mf_limit.specs.Sets.{HasSizesOf, IsFirst, IsLimit, family_of}
use Rattle.mf_limit.proofs.Families.{all-more, gains-within, has-gains, hold-more, round-more, within-within}
use Rattle.mf_limit.proofs.Growing.{sizes-kept}
use Rattle.mf_limit.proofs.Rounds.{after-within, first-within, limit-closed}

-- after so many rounds
pub record IsUnderway (task : Task) (sight : Sight) (n : ℕ) (sets : LimitSets) : Type 0 where
  pub sizes : HasSizesOf task sets
  pub reached : IsWithin (family_after task sight n) (family_of sets)
  pub within : IsWithin (family_of sets) (limit_closure task sight)

abbrev pub GrowsByRound : Task → Sight → LimitSets → LimitSets → Bool → Type 0
GrowsByRound task sight old new is_new = Grows old new (λ f. flat_map (action_gains task sight f) task.actions) is_new

module _ (task : Task) (sight : Sight) (numbered : is_numbered task ≡ true) where
  pub underway-first : (sets : LimitSets) → HasSizesOf task sets → IsFirst sight sets → IsUnderway task sight 0 sets
  underway-first sets sizes first = record {
    sizes = sizes;
    reached = first.all;
    within = within-within (family_of sets) (family_after task sight 0) (limit_closure task sight) first.only (limit-closed task sight numbered).first;
  }

  module _ (old new : LimitSets) (is_new : Bool) (grows : GrowsByRound task sight old new is_new) where
    given : IsWithin (next_family task sight (family_of old)) (family_of new)
    given = gains-within (family_of old) (family_of new) (flat_map (action_gains task sight (family_of old)) task.actions) grows.kept grows.given

    within : IsWithin (family_of old) (limit_closure task sight) → IsWithin (family_of new) (limit_closure task sight)
    within h = grows.least (limit_closure task sight) h
        (has-gains (limit_closure task sight) (limit_closure task sight) (flat_map (action_gains task sight (limit_closure task sight)) task.actions) (limit-closed task sight numbered).next)

    pub underway-next : (n : ℕ) → IsUnderway task sight n old → IsUnderway task sight (n + 1) new
    underway-next n way = let next : suc n ≡ n + 1 = omega arith in record {
      sizes = sizes-kept task old new (λ f. flat_map (action_gains task sight f) task.actions) is_new way.sizes grows;
      reached = subst (λ k. IsWithin (family_after task sight k) (family_of new)) next
          (within-within (family_after task sight (suc n)) (next_family task sight (family_of old)) (family_of new) (round-more task sight (family_after task sight n) (family_of old) way.reached) given);
      within = within way.within;
    }

    -- a round that adds nothing new is the last
    pub ended : (n : ℕ) → IsUnderway task sight n old → is_new ≡ false → IsLimit task sight new
    ended n way steady = record {
      all = after-within task sight (family_of new) (record {
        first = within-within (family_after task sight 0) (family_after task sight n) (family_of new) (first-within task sight numbered n) (within-within (family_after task sight n) (family_of old) (family_of new) way.reached grows.kept);
        next = within-within (next_family task sight (family_of new)) (next_family task sight (family_of old)) (family_of new) (round-more task sight (family_of new) (family_of old) (grows.steady steady)) given;
      }) (round_count task);
      only = within way.within;
    }

  -- and so is the last of as many as there may be
  pub ended-all : (sets : LimitSets) → IsUnderway task sight (round_count task) sets → IsLimit task sight sets
  ended-all sets way = record { all = way.reached; only = way.within }

-- conditions may hold in sets as in the family that they have
same-test : (b c : Bool) → (b ≡ true → c ≡ true) → (c ≡ true → b ≡ true) → b ≡ c
same-test true c one other = sym (one refl)
same-test false true one other = other refl
same-test false false one other = refl

pub limit-holds : (task : Task) (sight : Sight) (sets : LimitSets) → IsLimit task sight sets → (conditions : List GroundCond)
    → list_all (may_hold task sight (family_of sets)) conditions ≡ list_all (may_hold task sight (limit_closure task sight)) conditions
limit-holds task sight sets is conditions =
    same-test (list_all (may_hold task sight (family_of sets)) conditions) (list_all (may_hold task sight (limit_closure task sight)) conditions)
    (all-more (may_hold task sight (family_of sets)) (may_hold task sight (limit_closure task sight)) (hold-more task sight (family_of sets) (limit_closure task sight) is.only) conditions)
    (all-more (may_hold task sight (limit_closure task sight)) (may_hold task sight (family_of sets)) (hold-more task sight (limit_closure task sight) (family_of sets) is.all) conditions)
