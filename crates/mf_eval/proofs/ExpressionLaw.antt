-- The checked value of an expression is the exact one, or `Wide` exactly where some subexpression is too wide.
use Rattle.std.proofs.Common.{◌≡◌, ℕ, Bool, true, false, ◌||◌, List, [], ◌∷◌, map, Option, Result, Ok, refl, subst, sym, ap, ◌∙◌}
use Rattle.mf_fraction.specs.Exact.{Number}
use Rattle.mf_fraction.specs.declared.faults.Wide.{Wide}
use Rattle.mf_model.specs.declared.task.Expr.{Expr}
use Rattle.mf_model.specs.declared.task.Expr.TheOpen.{Expr-F}
use Rattle.mf_model.specs.declared.task.Expr.TheFolds.{ind-Expr, fold-roll-Expr, map-Expr}
use Rattle.mf_model.specs.Meaning.{combined, negated, sum_of_all, product_of_all, value_of, value_step}
use Rattle.mf_model.specs.Views.{Look}
use Rattle.mf_eval.specs.declared.operation.Operation.{Operation}
use Rattle.mf_eval.specs.declared.operation.Operation.TheVariants.{Sum, Difference, Product, Quotient}
use Rattle.mf_eval.specs.Answers.{answered, ◌>>=◌}
use Rattle.mf_eval.specs.Checked.{empty_of, kept, kept_all, kept_both, kept_front, kept_step, kept_value, operation_of}
use Rattle.mf_eval.specs.Width.{Sized, is_too_wide, is_wide, sized, sized_all, sized_both, sized_front, sized_of, sized_step}

pub record Agrees (r : Result (Option Number) Wide) (s : Sized) (v : Option Number) : Type 0 where
  pub kept_is : r ≡ answered s.wide s.value
  pub value_is : s.value ≡ v

abbrev pub Claim : Look → Expr → Type 0
Claim look e = (b : List ℕ) → Agrees (kept_value look e b) (sized_of look e b) (value_of look e b)

abbrev Piece : Look → Type 0
Piece look = (e : Expr) × Claim look e

abbrev wholes : (look : Look) → List (Piece look) → List Expr
wholes look ps = map (λ p. p.0) ps

-- two parts
both_where : (op : Operation) (w x : Bool) (u v : Option Number) → kept_both op (answered w u) (answered x v) ≡ answered ((w || x) || is_too_wide (operation_of op u v)) (operation_of op u v)
both_where op true x u v = refl
both_where op false true u v = refl
both_where op false false u v = refl

both_agree : (op : Operation) (q r : Result (Option Number) Wide) (s t : Sized) (u v : Option Number) → Agrees q s u → Agrees r t v → Agrees (kept_both op q r) (sized_both (operation_of op) s t) (operation_of op u v)
both_agree op q r s t u v a b = record {
  kept_is = ap (λ (x : Result (Option Number) Wide). kept_both op x r) a.kept_is ∙ ap (λ (x : Result (Option Number) Wide). kept_both op (answered s.wide s.value) x) b.kept_is ∙ both_where op s.wide t.wide s.value t.value;
  value_is = ap (λ (x : Option Number). operation_of op x t.value) a.value_is ∙ ap (λ (x : Option Number). operation_of op u x) b.value_is;
}

-- a front and one more part
turn_where : (op : Operation) (g : Option Number → Result (Option Number) Wide) (w x : Bool) (u v : Option Number) → (answered w u >>= λ a. answered x v >>= λ c. kept (operation_of op a c) >>= g) ≡ (answered ((w || x) || is_too_wide (operation_of op u v)) (operation_of op u v) >>= g)
turn_where op g true x u v = refl
turn_where op g false true u v = refl
turn_where op g false false u v = refl

end_where : (w : Bool) (u : Option Number) → (answered w u >>= λ a. Ok a) ≡ answered w u
end_where true u = refl
end_where false u = refl

module _ (look : Look) (b : List ℕ) where
  kepts : List (Piece look) → List (Result (Option Number) Wide)
  kepts ps = map (λ part. part b) (map (kept_value look) (wholes look ps))

  sizeds : List (Piece look) → List Sized
  sizeds ps = map (λ part. part b) (map (sized_of look) (wholes look ps))

  values : List (Piece look) → List (Option Number)
  values ps = map (λ part. part b) (map (value_of look) (wholes look ps))

  front_kept : (op : Operation) (s : Sized) (ps : List (Piece look)) → (answered s.wide s.value >>= λ a. kept_front op a (kepts ps)) ≡ answered (sized_front (operation_of op) s (sizeds ps)).wide (sized_front (operation_of op) s (sizeds ps)).value
  unfolding kepts sizeds
  front_kept op s [] = end_where s.wide s.value
  front_kept op s (p ∷ ps) =
      let t = sized_of look p.0 b in
      ap (λ (r : Result (Option Number) Wide). answered s.wide s.value >>= λ a. r >>= λ c. kept (operation_of op a c) >>= λ front. kept_front op front (kepts ps)) (p.1 b).kept_is
      ∙ turn_where op (λ a. kept_front op a (kepts ps)) s.wide t.wide s.value t.value
      ∙ front_kept op (sized_both (operation_of op) s t) ps

  front_value : (op : Operation) (s : Sized) (v : Option Number) → s.value ≡ v → (ps : List (Piece look)) → (sized_front (operation_of op) s (sizeds ps)).value ≡ combined (operation_of op) v (values ps)
  unfolding sizeds values
  front_value op s v e [] = e
  front_value op s v e (p ∷ ps) =
      front_value op (sized_both (operation_of op) s (sized_of look p.0 b)) (operation_of op v (value_of look p.0 b))
      (ap (λ (x : Option Number). operation_of op x (sized_of look p.0 b).value) e ∙ ap (λ (x : Option Number). operation_of op v x) (p.1 b).value_is) ps

  all_kept : (op : Operation) (ps : List (Piece look)) → kept_all op (kepts ps) ≡ answered (sized_all (operation_of op) (empty_of op) (sizeds ps)).wide (sized_all (operation_of op) (empty_of op) (sizeds ps)).value
  unfolding kepts sizeds
  all_kept op [] = refl
  all_kept op (p ∷ ps) =
      ap (λ (r : Result (Option Number) Wide). r >>= λ a. kept_front op a (kepts ps)) (p.1 b).kept_is ∙ front_kept op (sized_of look p.0 b) ps

  sum_value : (ps : List (Piece look)) → (sized_all (operation_of Sum) (empty_of Sum) (sizeds ps)).value ≡ sum_of_all (values ps)
  unfolding sizeds values
  sum_value [] = refl
  sum_value (p ∷ ps) = front_value Sum (sized_of look p.0 b) (value_of look p.0 b) (p.1 b).value_is ps

  product_value : (ps : List (Piece look)) → (sized_all (operation_of Product) (empty_of Product) (sizeds ps)).value ≡ product_of_all (values ps)
  unfolding sizeds values
  product_value [] = refl
  product_value (p ∷ ps) = front_value Product (sized_of look p.0 b) (value_of look p.0 b) (p.1 b).value_is ps

negative_where : (w : Bool) (u : Option Number) → (answered w u >>= λ a. kept (negated a)) ≡ answered (w || is_too_wide (negated u)) (negated u)
negative_where true u = refl
negative_where false u = refl

negative_agrees : (r : Result (Option Number) Wide) (s : Sized) (v : Option Number) → Agrees r s v → Agrees (r >>= λ a. kept (negated a)) (sized (negated s.value) s.wide) (negated v)
negative_agrees r s v a = record {
  kept_is = ap (λ (x : Result (Option Number) Wide). x >>= λ c. kept (negated c)) a.kept_is ∙ negative_where s.wide s.value;
  value_is = ap negated a.value_is;
}

abbrev Layer : Look → Expr-F Expr → Type 0
Layer look x = (b : List ℕ) → Agrees (kept_step look (map-Expr Expr (List ℕ → Result (Option Number) Wide) (kept_value look) x) b) (sized_step look (map-Expr Expr (List ℕ → Sized) (sized_of look) x) b) (value_step look (map-Expr Expr (List ℕ → Option Number) (value_of look) x) b)

level : (look : Look) (y : Expr-F (Piece look)) → Layer look (map-Expr (Piece look) Expr (λ p. p.0) y)
unfolding kepts sizeds values
level look (Expr-F.Number n) b = record { kept_is = refl; value_is = refl }
level look (Expr-F.Function function terms) b = record { kept_is = refl; value_is = refl }
level look (Expr-F.Sum parts) b = record { kept_is = all_kept look b Sum parts; value_is = sum_value look b parts }
level look (Expr-F.Difference left right) b = both_agree Difference _ _ _ _ _ _ (left.1 b) (right.1 b)
level look (Expr-F.Negative part) b = negative_agrees _ _ _ (part.1 b)
level look (Expr-F.Product parts) b = record { kept_is = all_kept look b Product parts; value_is = product_value look b parts }
level look (Expr-F.Quotient left right) b = both_agree Quotient _ _ _ _ _ _ (left.1 b) (right.1 b)
level look Expr-F.TotalTime b = record { kept_is = refl; value_is = refl }

agree_along : (q r : Result (Option Number) Wide) (s t : Sized) (u v : Option Number) → q ≡ r → s ≡ t → u ≡ v → Agrees r t v → Agrees q s u
agree_along q r s t u v e f g a = record {
  kept_is = e ∙ a.kept_is ∙ ap (λ (x : Sized). answered x.wide x.value) (sym f);
  value_is = ap (λ (x : Sized). x.value) f ∙ a.value_is ∙ sym g;
}

claims : (look : Look) (e : Expr) → Claim look e
claims look = ind-Expr (Claim look) (λ x y is b.
    let at_layer = subst (λ z. Layer look z) is (level look y) b in
    agree_along _ _ _ _ _ _
    (ap (λ (f : List ℕ → Result (Option Number) Wide). f b) (fold-roll-Expr (List ℕ → Result (Option Number) Wide) (kept_step look) x))
    (ap (λ (f : List ℕ → Sized). f b) (fold-roll-Expr (List ℕ → Sized) (sized_step look) x))
    (ap (λ (f : List ℕ → Option Number). f b) (fold-roll-Expr (List ℕ → Option Number) (value_step look) x))
    at_layer)

pub kept_value-is : (look : Look) (e : Expr) (b : List ℕ) → kept_value look e b ≡ answered (is_wide look e b) (value_of look e b)
kept_value-is look e b = (claims look e b).kept_is ∙ ap (λ (v : Option Number). answered (is_wide look e b) v) (claims look e b).value_is
