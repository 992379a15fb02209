-- That `no plan` is begun on out only where the history's answer is that there is none.
use Rattle.std.proofs.Common.{◌≡◌, ℕ, zero, suc, ◌<◌, inl, inr, Option, Some, None, Result, Ok, Err, List, [], ◌∷◌, ◌++◌, drop, take, codes, refl, sym, ◌∙◌, ap, subst, arith}
use Rattle.std.proofs.lemmas.List.Prefix.{front_rest}
use Rattle.std.specs.Option.{option_map}
use Rattle.mf_io.specs.declared.folder.Loading.{Loading}
use Rattle.mf_io.specs.declared.sink.PutFault.{PutFault}
use Rattle.mf_io.specs.Sink.{Appends, AppendsFront}
use Rattle.mf_io.proofs.SinkLemmas.{AppendsFront-all}
use Rattle.mf_model.specs.declared.task.TypedTask.{TypedTask}
use Rattle.mf_model.specs.declared.state.Instance.{Instance}
use Rattle.mf_top.specs.declared.decision.Decision.{Decision}
use Rattle.mf_top.specs.Call.{Call, WritesBoth}
use Rattle.mf_top.specs.Plan.{BeginsNoPlan, HasNoPlan}
use Rattle.mf_top.specs.Search.{IsAnswer}
use Rattle.mf_top.specs.Texts.{plan_text, budget_text}
use Rattle.mf_top.proofs.CallLemmas.{Delivered}
use Rattle.mf_top.proofs.PlanLemmas.{Found, PlanEnds, has_no_plan}

-- a front part of the text for out is written on it
front_of_out : (decision : Decision) (call : Call) (delivered : Result Unit PutFault) → WritesBoth decision.out decision.err call.out call.err delivered →
    AppendsFront decision.out call.out.before call.out.after
front_of_out decision call (Ok done) written = AppendsFront-all decision.out call.out.before call.out.after written.0
front_of_out decision call (Err fault) (inl front) = front.0
front_of_out decision call (Err fault) (inr all) = AppendsFront-all decision.out call.out.before call.out.after all.0

-- the bytes after the written ones are told
told_after : (written text said : List ℕ) (m : ℕ) (ob oa : Option (List ℕ)) → ob ≡ Some written → oa ≡ Some (written ++ said) → Appends (take m text) ob oa →
    take m text ≡ said
told_after written text said m ob oa told begun appends =
    let both : Some (written ++ said) ≡ Some (written ++ take m text) =
    sym begun ∙ subst (λ o. oa ≡ option_map (λ w. w ++ take m text) o) told appends in
    let same : written ++ said ≡ written ++ take m text = cc in
    sym (front_rest (written ++ said) written (take m text) same) ∙ front_rest (written ++ said) written said refl

-- the first byte of a front part
first_byte : (x y : ℕ) (xs ys : List ℕ) (m n : ℕ) → 0 < n → take m (x ∷ xs) ≡ take n (y ∷ ys) → x ≡ y
first_byte x y xs ys m zero some same = absurd (omega arith)
first_byte x y xs ys zero (suc n) some same = cc
first_byte x y xs ys (suc m) (suc n) some same = cc

no_byte : (y : ℕ) (ys : List ℕ) (m n : ℕ) → 0 < n → take m [] ≡ take n (y ∷ ys) → ⊥
no_byte y ys m zero some same = omega arith
no_byte y ys zero (suc n) some same = cc
no_byte y ys (suc m) (suc n) some same = cc

-- a plan's text begins with a bracket or a semicolon
plan_begins : (task : TypedTask) (steps : List Instance) (m n : ℕ) → 0 < n → take m (plan_text task steps) ≡ take n (codes "no plan\n") → ⊥
plan_begins task [] m n some same = let e = first_byte 59 110 (drop 1 (plan_text task [])) (drop 1 (codes "no plan\n")) m n some same in omega arith
plan_begins task (step ∷ steps) m n some same =
    let e = first_byte 40 110 (drop 1 (plan_text task (step ∷ steps))) (drop 1 (codes "no plan\n")) m n some same in omega arith

nothing_begun : (text : List ℕ) (m n : ℕ) → text ≡ [] → 0 < n → take m text ≡ take n (codes "no plan\n") → ⊥
nothing_begun text m n empty some same = no_byte 110 (drop 1 (codes "no plan\n")) m n some (subst (λ t. take m t ≡ take n (codes "no plan\n")) empty same)

-- a decision whose text for out begins like `no plan`
decision_begun : (names : List (List ℕ)) (d p domain problem : List ℕ) (budget : ℕ) (before after : List Loading) (decision : Decision) (m n : ℕ) → 0 < n →
    take m decision.out ≡ take n (codes "no plan\n") → PlanEnds names d p domain problem budget before after decision →
    (decision.status ≡ 1) × Found domain problem budget decision
decision_begun names d p domain problem budget before after decision m n some same (inl runs) = absurd (nothing_begun decision.out m n runs.out_is some same)
decision_begun names d p domain problem budget before after decision m n some same (inr (inl (name, fails, is))) =
    absurd (nothing_begun decision.out m n (ap (λ e. e.out) is) some same)
decision_begun names d p domain problem budget before after decision m n some same (inr (inr (inl (text, refusal, is)))) =
    absurd (nothing_begun decision.out m n (ap (λ e. e.out) is) some same)
decision_begun names d p domain problem budget before after decision m n some same (inr (inr (inr f))) = (by f.is_answer, f)
  where
    begun : take m f.answer.text ≡ take n (codes "no plan\n")
    begun = ap (take m) (sym (ap (λ e. e.out) f.is)) ∙ same

    by : IsAnswer f.task budget f.searched f.answer → decision.status ≡ 1
    by (inl (at, finds)) = absurd (plan_begins f.task finds.steps m n some (ap (take m) (sym finds.text_is) ∙ begun))
    by (inr (inl (one, finds, text))) = ap (λ e. e.status) f.is ∙ one
    by (inr (inr (six, answered, text))) =
        absurd (let e = first_byte 98 110 (drop 1 (budget_text budget)) (drop 1 (codes "no plan\n")) m n some (ap (take m) (sym text) ∙ begun) in omega arith)

pub begun_none : (names : List (List ℕ)) (d p domain problem : List ℕ) (budget : ℕ) (call : Call) (decision : Decision) → Delivered decision call →
    PlanEnds names d p domain problem budget call.log_before call.log_after decision → BeginsNoPlan call.out → HasNoPlan domain problem budget call.history
begun_none names d p domain problem budget call decision delivers ends begins =
    let front = front_of_out decision call delivers.delivered delivers.written in
    let same = told_after begins.written decision.out (take begins.more (codes "no plan\n")) front.0 call.out.before call.out.after begins.told begins.begun front.2 in
    let begun = decision_begun names d p domain problem budget call.log_before call.log_after decision front.0 begins.more begins.some same ends in
    has_no_plan domain problem budget call decision delivers begun.1 begun.0
