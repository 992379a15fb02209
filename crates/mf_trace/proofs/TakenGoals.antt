-- Whether a goal was taken, by the last entry of a history.
use Rattle.std.proofs.Common.{◌≡◌, ◌≢◌, ℕ, ◌-◌, ◌<◌, ◌++◌, List, [], ◌∷◌, Option, Some, None, length, slice_get, refl, sym, ap, ◌∙◌, subst, arith, suc}
use Rattle.std.proofs.lemmas.Option.{none-some, same_Some}
use Rattle.mf_search.specs.declared.entry.Entry.{Entry}
use Rattle.mf_search.specs.declared.entry.Entry.TheVariants.{Take, Done, Wide}
use Rattle.mf_search.specs.Space.{Space}
use Rattle.mf_search.specs.World.{Opened, Going, AtGoal, AtWide, World, at, next, Legal, world}
use Rattle.mf_search.proofs.OneStep.{legal_last, next_goal, next_take, take_opens_nothing, world_push}

one_place : (n : ℕ) → suc (suc n) - 1 ≡ suc n
one_place n = omega arith

last_place : (n : ℕ) → n ≡ suc n - 1
last_place n = omega arith

later_last : {A : Type 0} (y z : A) (zs : List A) → slice_get (z ∷ zs) (length (z ∷ zs) - 1) ≡ slice_get (y ∷ z ∷ zs) (length (y ∷ z ∷ zs) - 1)
later_last y z zs = sym (ap (slice_get (y ∷ z ∷ zs)) (one_place (length zs)) ∙ ap (slice_get (z ∷ zs)) (last_place (length zs)))

nothing_else : {A : Type 0} (z : A) (zs : List A) → z ∷ zs ≢ []
nothing_else z zs e = cc

-- A list with a last element is one element longer than its front.
pub last_split : {A : Type 0} (xs : List A) (x : A) → slice_get xs (length xs - 1) ≡ Some x → (front : List A) × (xs ≡ front ++ x ∷ [])
last_split [] x e = absurd (none-some x e)
last_split (y ∷ []) x e = ([], ap (λ z. z ∷ []) (same_Some y x e))
last_split (y ∷ z ∷ zs) x e = let r = last_split (z ∷ zs) x (later_last y z zs ∙ e) in (y ∷ r.0, ap (λ ys. y ∷ ys) r.1)

-- A list without one is empty.
pub none_last : {A : Type 0} (xs : List A) → slice_get xs (length xs - 1) ≡ None → xs ≡ []
none_last [] e = refl
none_last (y ∷ []) e = absurd (none-some y (sym e))
none_last (y ∷ z ∷ zs) e = absurd (nothing_else z zs (none_last (z ∷ zs) (later_last y z zs ∙ e)))

pub no_goal_at_first : {S : Type 0} (sp : Space S) (entries : List Entry) → entries ≡ [] → (goal : ℕ) → (world sp entries).ending ≡ AtGoal goal → ⊥
no_goal_at_first sp entries none goal e = let first : Going ≡ AtGoal goal = sym (ap (λ es. (world sp es).ending) none) ∙ e in absurd cc

pub goal_taken : {S : Type 0} (sp : Space S) (entries front : List Entry) (worker i : ℕ) → entries ≡ front ++ Take worker i ∷ [] → (at sp (world sp entries).opened i).value ≡ 0 → (world sp entries).ending ≡ AtGoal i
goal_taken {S} sp entries front worker i e zero_value =
    let pushed : world sp entries ≡ next sp (world sp front) (Take worker i) = ap (world sp) e ∙ world_push sp front (Take worker i) in
    let same : (world sp entries).opened ≡ (world sp front).opened = ap (λ (w : World S). w.opened) pushed ∙ take_opens_nothing sp (world sp front) worker i in
    let here : (at sp (world sp front).opened i).value ≡ 0 = ap (λ (os : List (Opened S)). (at sp os i).value) (sym same) ∙ zero_value in
    ap (λ (w : World S). w.ending) (pushed ∙ next_goal sp (world sp front) worker i here)

going_on : {S : Type 0} (sp : Space S) (budget workers : ℕ) (front : List Entry) (worker i : ℕ) → Legal sp budget workers (front ++ Take worker i ∷ []) → (at sp (world sp (front ++ Take worker i ∷ [])).opened i).value ≢ 0 → (world sp (front ++ Take worker i ∷ [])).ending ≡ Going
going_on {S} sp budget workers front worker i legal other =
    let pushed : world sp (front ++ Take worker i ∷ []) ≡ next sp (world sp front) (Take worker i) = world_push sp front (Take worker i) in
    let same : (world sp (front ++ Take worker i ∷ [])).opened ≡ (world sp front).opened = ap (λ (w : World S). w.opened) pushed ∙ take_opens_nothing sp (world sp front) worker i in
    let here : (at sp (world sp front).opened i).value ≢ 0 = λ z. other (ap (λ (os : List (Opened S)). (at sp os i).value) same ∙ z) in
    ap (λ (w : World S). w.ending) (pushed ∙ next_take sp (world sp front) worker i here) ∙ (legal_last sp budget workers front (Take worker i) legal).1.going

-- No goal was taken where the last entry takes none.
pub no_goal_taken : {S : Type 0} (sp : Space S) (budget workers : ℕ) (entries front : List Entry) (e : Entry) → Legal sp budget workers entries → entries ≡ front ++ e ∷ [] → ((worker i : ℕ) → e ≡ Take worker i → (at sp (world sp entries).opened i).value ≢ 0) → (goal : ℕ) → (world sp entries).ending ≡ AtGoal goal → ⊥
no_goal_taken {S} sp budget workers entries front (Take worker i) legal e other goal found =
    let going : (world sp entries).ending ≡ Going = rw e (going_on sp budget workers front worker i (rw (← e) legal) (rw (← e) (other worker i refl))) in
    let clash : Going ≡ AtGoal goal = sym going ∙ found in
    absurd cc
no_goal_taken {S} sp budget workers entries front (Done worker i) legal e other goal found =
    let pushed : (world sp entries).ending ≡ (world sp front).ending = ap (λ es. (world sp es).ending) e ∙ ap (λ (w : World S). w.ending) (world_push sp front (Done worker i)) in
    let going : (world sp entries).ending ≡ Going = pushed ∙ (legal_last sp budget workers front (Done worker i) (rw (← e) legal)).1.going in
    let clash : Going ≡ AtGoal goal = sym going ∙ found in
    absurd cc
no_goal_taken {S} sp budget workers entries front (Wide worker i n) legal e other goal found =
    let ended : (world sp entries).ending ≡ AtWide i n = ap (λ es. (world sp es).ending) e ∙ ap (λ (w : World S). w.ending) (world_push sp front (Wide worker i n)) in
    let clash : AtWide i n ≡ AtGoal goal = sym ended ∙ found in
    absurd cc

-- The state that an entry takes was opened.
pub taken_within : {S : Type 0} (sp : Space S) (budget workers : ℕ) (entries front : List Entry) (worker i : ℕ) → Legal sp budget workers entries → entries ≡ front ++ Take worker i ∷ [] → i < length (world sp entries).opened
taken_within {S} sp budget workers entries front worker i legal e =
    let pushed : world sp entries ≡ next sp (world sp front) (Take worker i) = ap (world sp) e ∙ world_push sp front (Take worker i) in
    let same : (world sp entries).opened ≡ (world sp front).opened = ap (λ (w : World S). w.opened) pushed ∙ take_opens_nothing sp (world sp front) worker i in
    rw same (legal_last sp budget workers front (Take worker i) (rw (← e) legal)).1.is_open.0
