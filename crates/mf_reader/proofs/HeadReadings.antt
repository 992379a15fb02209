-- What the head word of a list says of its form.
use Rattle.std.proofs.Common.{◌≡◌, ℕ, false, List, [], ◌∷◌, refl, ap, sym, ◌∙◌, subst, codes}
use Rattle.std.specs.List.{list_any}
use Rattle.std.specs.Str.{bytes_eq}
use Rattle.mf_model.proofs.Choices.{if_false, same_text}
use Rattle.mf_model.specs.declared.token.Kind.{Kind}
use Rattle.mf_model.specs.declared.token.Kind.TheVariants.{Name}
use Rattle.mf_model.specs.declared.token.Span.{Span}
use Rattle.mf_model.specs.declared.tree.Tree.{Tree}
use Rattle.mf_model.specs.declared.form.Word.{Word}
use Rattle.mf_model.specs.Forms.{IsLeaf, IsWord, IsName, reserved}
use Rattle.mf_reader.specs.declared.heads.CondHead.{CondHead}
use Rattle.mf_reader.specs.declared.heads.CondHead.TheVariants as c
use Rattle.mf_reader.specs.declared.heads.EffectHead.{EffectHead}
use Rattle.mf_reader.specs.declared.heads.EffectHead.TheVariants as e
use Rattle.mf_reader.specs.declared.heads.ExprHead.{ExprHead}
use Rattle.mf_reader.specs.declared.heads.ExprHead.TheVariants as x
use Rattle.mf_reader.specs.Heads.{cond_head, cond_head_of, expr_head, expr_head_of, effect_head, effect_head_of}
use Rattle.mf_reader.specs.Seen.{seen}
use Rattle.mf_reader.specs.GrammarExpressions.{operators}
use Rattle.mf_reader.specs.GrammarConditions.{relation_word, cond_words}
use Rattle.mf_reader.specs.GrammarEffects.{op_word}
use Rattle.mf_reader.proofs.Branches.{by_cases, leaf_list}
use Rattle.mf_reader.proofs.Choices.{by_test, not_listed, none_more}
use Rattle.mf_reader.proofs.WordReadings.{at_text, face_leaf, face_branch}

-- a name is no list, and has one text
name_text : (kind : Kind) (text : List ℕ) (span : Span) (w : Word) (t : Tree) → IsLeaf kind text span t → IsName w t → text ≡ w.text
name_text kind text span w t leaf name = let e = sym leaf ∙ name in cc

-- Expressions

abbrev ExprText : ExprHead → List ℕ → Type 0
ExprText x.Sum text = text ≡ codes "+"
ExprText x.Product text = text ≡ codes "*"
ExprText x.Minus text = text ≡ codes "-"
ExprText x.Quotient text = text ≡ codes "/"
ExprText x.Other text = list_any (λ word. bytes_eq text word) operators ≡ false

expr_text : (text : List ℕ) → ExprText (expr_head text) text
unfolding expr_head
expr_text text =
    by_test (λ h. ExprText h text) (bytes_eq text (codes "+")) _ _ (λ e. same_text text (codes "+") e) (λ n1.
    by_test (λ h. ExprText h text) (bytes_eq text (codes "*")) _ _ (λ e. same_text text (codes "*") e) (λ n2.
    by_test (λ h. ExprText h text) (bytes_eq text (codes "-")) _ _ (λ e. same_text text (codes "-") e) (λ n3.
    by_test (λ h. ExprText h text) (bytes_eq text (codes "/")) _ _ (λ e. same_text text (codes "/") e) (λ n4.
    none_more text (codes "+") (codes "*" ∷ codes "-" ∷ codes "/" ∷ []) n1 (none_more text (codes "*") (codes "-" ∷ codes "/" ∷ []) n2 (none_more text (codes "-") (codes "/" ∷ []) n3 (none_more text (codes "/") [] n4 refl)))))))

-- the tree is a word with the text of the head
abbrev pub ExprWord : ExprHead → Tree → Type 0
ExprWord x.Sum t = IsWord (codes "+") t
ExprWord x.Product t = IsWord (codes "*") t
ExprWord x.Minus t = IsWord (codes "-") t
ExprWord x.Quotient t = IsWord (codes "/") t
ExprWord x.Other t = (w : Word) → IsName w t → list_any (λ word. bytes_eq w.text word) operators ≡ false

expr_leaf : (h : ExprHead) (kind : Kind) (text : List ℕ) (span : Span) (t : Tree) → IsLeaf kind text span t → ExprText h text → ExprWord h t
expr_leaf x.Sum kind text span t leaf e = at_text kind text (codes "+") span t leaf e
expr_leaf x.Product kind text span t leaf e = at_text kind text (codes "*") span t leaf e
expr_leaf x.Minus kind text span t leaf e = at_text kind text (codes "-") span t leaf e
expr_leaf x.Quotient kind text span t leaf e = at_text kind text (codes "/") span t leaf e
expr_leaf x.Other kind text span t leaf e = λ w name. subst (λ (v : List ℕ). list_any (λ word. bytes_eq v word) operators ≡ false) (name_text kind text span w t leaf name) e

pub expr_word : (t : Tree) → ExprWord (expr_head_of (seen t).face) t
expr_word = by_cases (λ t. ExprWord (expr_head_of (seen t).face) t)
    (λ kind text span t leaf. subst (λ (h : ExprHead). ExprWord h t) (ap expr_head_of (sym (face_leaf kind text span t leaf))) (expr_leaf (expr_head text) kind text span t leaf (expr_text text)))
    (λ items span t list. subst (λ (h : ExprHead). ExprWord h t) (ap expr_head_of (sym (face_branch items span t list))) (λ w name. leaf_list Name w.text w.span items span t name list))

pub expr_head_at : (text : List ℕ) (t : Tree) → IsWord text t → expr_head_of (seen t).face ≡ expr_head text
expr_head_at text t h = ap expr_head_of (face_leaf h.0 text h.1 t h.2)

pub expr_other : (text : List ℕ) → list_any (λ word. bytes_eq text word) operators ≡ false → expr_head text ≡ x.Other
unfolding expr_head
expr_other text e =
    if_false (bytes_eq text (codes "+")) _ _ (not_listed text (codes "+") operators e refl)
    ∙ if_false (bytes_eq text (codes "*")) _ _ (not_listed text (codes "*") operators e refl)
    ∙ if_false (bytes_eq text (codes "-")) _ _ (not_listed text (codes "-") operators e refl)
    ∙ if_false (bytes_eq text (codes "/")) _ _ (not_listed text (codes "/") operators e refl)

-- Conditions

abbrev CondText : CondHead → List ℕ → Type 0
CondText c.Not text = text ≡ codes "not"
CondText c.And text = text ≡ codes "and"
CondText c.Or text = text ≡ codes "or"
CondText c.Imply text = text ≡ codes "imply"
CondText c.All text = text ≡ codes "forall"
CondText c.Any text = text ≡ codes "exists"
CondText c.Equal text = text ≡ codes "="
CondText (c.Compare relation) text = text ≡ relation_word relation
CondText c.Preference text = Unit {0}
CondText c.Other text = list_any (λ word. bytes_eq text word) cond_words ≡ false

cond_text : (text : List ℕ) → CondText (cond_head text) text
unfolding cond_head
cond_text text =
    by_test (λ h. CondText h text) (bytes_eq text (codes "not")) _ _ (λ e. same_text text (codes "not") e) (λ _.
    by_test (λ h. CondText h text) (bytes_eq text (codes "and")) _ _ (λ e. same_text text (codes "and") e) (λ _.
    by_test (λ h. CondText h text) (bytes_eq text (codes "or")) _ _ (λ e. same_text text (codes "or") e) (λ _.
    by_test (λ h. CondText h text) (bytes_eq text (codes "imply")) _ _ (λ e. same_text text (codes "imply") e) (λ _.
    by_test (λ h. CondText h text) (bytes_eq text (codes "forall")) _ _ (λ e. same_text text (codes "forall") e) (λ _.
    by_test (λ h. CondText h text) (bytes_eq text (codes "exists")) _ _ (λ e. same_text text (codes "exists") e) (λ _.
    by_test (λ h. CondText h text) (bytes_eq text (codes "=")) _ _ (λ e. same_text text (codes "=") e) (λ n1.
    by_test (λ h. CondText h text) (bytes_eq text (codes "<")) _ _ (λ e. same_text text (codes "<") e) (λ n2.
    by_test (λ h. CondText h text) (bytes_eq text (codes "<=")) _ _ (λ e. same_text text (codes "<=") e) (λ n3.
    by_test (λ h. CondText h text) (bytes_eq text (codes ">=")) _ _ (λ e. same_text text (codes ">=") e) (λ n4.
    by_test (λ h. CondText h text) (bytes_eq text (codes ">")) _ _ (λ e. same_text text (codes ">") e) (λ n5.
    by_test (λ h. CondText h text) (bytes_eq text (codes "preference")) _ _ (λ e. tt) (λ n6.
    none_more text (codes "=") (codes "<" ∷ codes "<=" ∷ codes ">=" ∷ codes ">" ∷ codes "preference" ∷ []) n1 (none_more text (codes "<") (codes "<=" ∷ codes ">=" ∷ codes ">" ∷ codes "preference" ∷ []) n2 (none_more text (codes "<=") (codes ">=" ∷ codes ">" ∷ codes "preference" ∷ []) n3 (none_more text (codes ">=") (codes ">" ∷ codes "preference" ∷ []) n4 (none_more text (codes ">") (codes "preference" ∷ []) n5 (none_more text (codes "preference") [] n6 refl)))))))))))))))))

abbrev pub CondWord : CondHead → Tree → Type 0
CondWord c.Not t = IsWord (codes "not") t
CondWord c.And t = IsWord (codes "and") t
CondWord c.Or t = IsWord (codes "or") t
CondWord c.Imply t = IsWord (codes "imply") t
CondWord c.All t = IsWord (codes "forall") t
CondWord c.Any t = IsWord (codes "exists") t
CondWord c.Equal t = IsWord (codes "=") t
CondWord (c.Compare relation) t = IsWord (relation_word relation) t
CondWord c.Preference t = Unit {0}
CondWord c.Other t = (w : Word) → IsName w t → list_any (λ word. bytes_eq w.text word) cond_words ≡ false

cond_leaf : (h : CondHead) (kind : Kind) (text : List ℕ) (span : Span) (t : Tree) → IsLeaf kind text span t → CondText h text → CondWord h t
cond_leaf c.Not kind text span t leaf e = at_text kind text (codes "not") span t leaf e
cond_leaf c.And kind text span t leaf e = at_text kind text (codes "and") span t leaf e
cond_leaf c.Or kind text span t leaf e = at_text kind text (codes "or") span t leaf e
cond_leaf c.Imply kind text span t leaf e = at_text kind text (codes "imply") span t leaf e
cond_leaf c.All kind text span t leaf e = at_text kind text (codes "forall") span t leaf e
cond_leaf c.Any kind text span t leaf e = at_text kind text (codes "exists") span t leaf e
cond_leaf c.Equal kind text span t leaf e = at_text kind text (codes "=") span t leaf e
cond_leaf (c.Compare relation) kind text span t leaf e = at_text kind text (relation_word relation) span t leaf e
cond_leaf c.Preference kind text span t leaf e = tt
cond_leaf c.Other kind text span t leaf e = λ w name. subst (λ (v : List ℕ). list_any (λ word. bytes_eq v word) cond_words ≡ false) (name_text kind text span w t leaf name) e

pub cond_word : (t : Tree) → CondWord (cond_head_of (seen t).face) t
cond_word = by_cases (λ t. CondWord (cond_head_of (seen t).face) t)
    (λ kind text span t leaf. subst (λ (h : CondHead). CondWord h t) (ap cond_head_of (sym (face_leaf kind text span t leaf))) (cond_leaf (cond_head text) kind text span t leaf (cond_text text)))
    (λ items span t list. subst (λ (h : CondHead). CondWord h t) (ap cond_head_of (sym (face_branch items span t list))) (λ w name. leaf_list Name w.text w.span items span t name list))

pub cond_head_at : (text : List ℕ) (t : Tree) → IsWord text t → cond_head_of (seen t).face ≡ cond_head text
cond_head_at text t h = ap cond_head_of (face_leaf h.0 text h.1 t h.2)

pub cond_other : (text : List ℕ) → list_any (λ word. bytes_eq text word) reserved ≡ false → list_any (λ word. bytes_eq text word) cond_words ≡ false → cond_head text ≡ c.Other
unfolding cond_head
cond_other text free e =
    if_false (bytes_eq text (codes "not")) _ _ (not_listed text (codes "not") reserved free refl)
    ∙ if_false (bytes_eq text (codes "and")) _ _ (not_listed text (codes "and") reserved free refl)
    ∙ if_false (bytes_eq text (codes "or")) _ _ (not_listed text (codes "or") reserved free refl)
    ∙ if_false (bytes_eq text (codes "imply")) _ _ (not_listed text (codes "imply") reserved free refl)
    ∙ if_false (bytes_eq text (codes "forall")) _ _ (not_listed text (codes "forall") reserved free refl)
    ∙ if_false (bytes_eq text (codes "exists")) _ _ (not_listed text (codes "exists") reserved free refl)
    ∙ if_false (bytes_eq text (codes "=")) _ _ (not_listed text (codes "=") cond_words e refl)
    ∙ if_false (bytes_eq text (codes "<")) _ _ (not_listed text (codes "<") cond_words e refl)
    ∙ if_false (bytes_eq text (codes "<=")) _ _ (not_listed text (codes "<=") cond_words e refl)
    ∙ if_false (bytes_eq text (codes ">=")) _ _ (not_listed text (codes ">=") cond_words e refl)
    ∙ if_false (bytes_eq text (codes ">")) _ _ (not_listed text (codes ">") cond_words e refl)
    ∙ if_false (bytes_eq text (codes "preference")) _ _ (not_listed text (codes "preference") cond_words e refl)

-- Effects

abbrev EffectText : EffectHead → List ℕ → Type 0
EffectText e.Not text = text ≡ codes "not"
EffectText e.And text = text ≡ codes "and"
EffectText e.All text = text ≡ codes "forall"
EffectText e.When text = text ≡ codes "when"
EffectText (e.Change op) text = text ≡ op_word op
EffectText e.Other text = Unit {0}

effect_text : (text : List ℕ) → EffectText (effect_head text) text
unfolding effect_head
effect_text text =
    by_test (λ h. EffectText h text) (bytes_eq text (codes "not")) _ _ (λ e. same_text text (codes "not") e) (λ _.
    by_test (λ h. EffectText h text) (bytes_eq text (codes "and")) _ _ (λ e. same_text text (codes "and") e) (λ _.
    by_test (λ h. EffectText h text) (bytes_eq text (codes "forall")) _ _ (λ e. same_text text (codes "forall") e) (λ _.
    by_test (λ h. EffectText h text) (bytes_eq text (codes "when")) _ _ (λ e. same_text text (codes "when") e) (λ _.
    by_test (λ h. EffectText h text) (bytes_eq text (codes "assign")) _ _ (λ e. same_text text (codes "assign") e) (λ _.
    by_test (λ h. EffectText h text) (bytes_eq text (codes "increase")) _ _ (λ e. same_text text (codes "increase") e) (λ _.
    by_test (λ h. EffectText h text) (bytes_eq text (codes "decrease")) _ _ (λ e. same_text text (codes "decrease") e) (λ _.
    by_test (λ h. EffectText h text) (bytes_eq text (codes "scale-up")) _ _ (λ e. same_text text (codes "scale-up") e) (λ _.
    by_test (λ h. EffectText h text) (bytes_eq text (codes "scale-down")) _ _ (λ e. same_text text (codes "scale-down") e) (λ _. tt)))))))))

abbrev pub EffectWord : EffectHead → Tree → Type 0
EffectWord e.Not t = IsWord (codes "not") t
EffectWord e.And t = IsWord (codes "and") t
EffectWord e.All t = IsWord (codes "forall") t
EffectWord e.When t = IsWord (codes "when") t
EffectWord (e.Change op) t = IsWord (op_word op) t
EffectWord e.Other t = Unit {0}

effect_leaf : (h : EffectHead) (kind : Kind) (text : List ℕ) (span : Span) (t : Tree) → IsLeaf kind text span t → EffectText h text → EffectWord h t
effect_leaf e.Not kind text span t leaf is = at_text kind text (codes "not") span t leaf is
effect_leaf e.And kind text span t leaf is = at_text kind text (codes "and") span t leaf is
effect_leaf e.All kind text span t leaf is = at_text kind text (codes "forall") span t leaf is
effect_leaf e.When kind text span t leaf is = at_text kind text (codes "when") span t leaf is
effect_leaf (e.Change op) kind text span t leaf is = at_text kind text (op_word op) span t leaf is
effect_leaf e.Other kind text span t leaf is = tt

pub effect_word : (t : Tree) → EffectWord (effect_head_of (seen t).face) t
effect_word = by_cases (λ t. EffectWord (effect_head_of (seen t).face) t)
    (λ kind text span t leaf. subst (λ (h : EffectHead). EffectWord h t) (ap effect_head_of (sym (face_leaf kind text span t leaf))) (effect_leaf (effect_head text) kind text span t leaf (effect_text text)))
    (λ items span t list. subst (λ (h : EffectHead). EffectWord h t) (ap effect_head_of (sym (face_branch items span t list))) tt)

pub effect_head_at : (text : List ℕ) (t : Tree) → IsWord text t → effect_head_of (seen t).face ≡ effect_head text
effect_head_at text t h = ap effect_head_of (face_leaf h.0 text h.1 t h.2)

pub effect_other : (text : List ℕ) → list_any (λ word. bytes_eq text word) reserved ≡ false → effect_head text ≡ e.Other
unfolding effect_head
effect_other text free =
    if_false (bytes_eq text (codes "not")) _ _ (not_listed text (codes "not") reserved free refl)
    ∙ if_false (bytes_eq text (codes "and")) _ _ (not_listed text (codes "and") reserved free refl)
    ∙ if_false (bytes_eq text (codes "forall")) _ _ (not_listed text (codes "forall") reserved free refl)
    ∙ if_false (bytes_eq text (codes "when")) _ _ (not_listed text (codes "when") reserved free refl)
    ∙ if_false (bytes_eq text (codes "assign")) _ _ (not_listed text (codes "assign") reserved free refl)
    ∙ if_false (bytes_eq text (codes "increase")) _ _ (not_listed text (codes "increase") reserved free refl)
    ∙ if_false (bytes_eq text (codes "decrease")) _ _ (not_listed text (codes "decrease") reserved free refl)
    ∙ if_false (bytes_eq text (codes "scale-up")) _ _ (not_listed text (codes "scale-up") reserved free refl)
    ∙ if_false (bytes_eq text (codes "scale-down")) _ _ (not_listed text (codes "scale-down") reserved free refl)
