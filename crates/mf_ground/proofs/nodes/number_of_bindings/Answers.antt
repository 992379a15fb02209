use Rattle.std.proofs.Common.{◌≡◌, ◌∙◌, ap, sym, ℕ, ◌+◌, ◌*◌, ◌-◌, ◌^◌, List, [], ◌∷◌, length, drop, arith}
use Rattle.std.proofs.lemmas.List.{drop_more, drop_all}
use Rattle.mf_model.specs.Objects.{having, kinds_of}
use Rattle.mf_ground.specs.Nodes.{ways}
use Rattle.mf_ground.specs.Saturated.{saturated}
use Rattle.mf_ground.proofs.Saturation.{multiplied}
use Rattle.mf_ground.proofs.Ways.{ways_more}
use Rattle.mf_ground.proofs.nodes.number_of_bindings.Goals as goal

pub loop-types-preserved : goal.loop-types-preserved
loop-types-preserved c =
    let objects = kinds_of c.args.task.now in
    let variables : List (List ℕ) = c.args.variables.now in
    let i : ℕ = c.loop-types.types-index in
    let item : List ℕ = c.types-item.result in
    let rest : List (List ℕ) = drop (i + 1) variables in
    let count : ℕ = c.objects_having.result in
    let parts : drop i variables ≡ item ∷ rest = drop_more variables i item c.loop-types-test.true ∙ ap (λ (x : List ℕ). x ∷ rest) (sym c.types-item.is) in
    let counted : count ≡ length (having item 0 objects) = c.objects_having.ensures ∙ ap (λ (types : List ℕ). length (having types 0 objects)) c.as_slice.ensures in
    let split : ways objects (drop i variables) ≡ count * ways objects rest =
    ap (λ (types : List (List ℕ)). ways objects types) parts ∙ ways_more objects item rest ∙ ap (λ (n : ℕ). n * ways objects rest) (sym counted) in
    record {
      product = multiplied (2 ^ 64 - 1) c.loop-types.bindings count (ways objects rest) c.saturating_mul-bindings.result (ways objects (drop i variables)) (saturated (ways objects variables)) c.saturating_mul-bindings.ensures split c.loop-types.invariant.product;
      bound = omega (arith, c.saturating_mul-bindings.ensures);
    }

pub returns : goal.returns
returns c =
    let objects = kinds_of c.args.task.now in
    let variables : List (List ℕ) = c.args.variables.now in
    let none : drop c.loop-types.types-index variables ≡ [] = drop_all c.loop-types.types-index variables c.loop-types-test.false in
    let one : ways objects (drop c.loop-types.types-index variables) ≡ 1 = ap (λ (types : List (List ℕ)). ways objects types) none in
    let all : saturated (c.loop-types.bindings * 1) ≡ saturated (ways objects variables) = ap (λ (n : ℕ). saturated (c.loop-types.bindings * n)) (sym one) ∙ c.loop-types.invariant.product in
    omega (arith, all, c.loop-types.invariant.bound)
