-- What one file says: it has one value at most, and none where it is refused.
use Rattle.std.proofs.Common.{◌≡◌, ℕ, inl, inr, Err, List, [], refl, sym, ◌∙◌, ap, subst}
use Rattle.mf_model.specs.declared.token.Token.{Token}
use Rattle.mf_model.specs.declared.tree.Tree.{Tree}
use Rattle.mf_model.specs.Tokens.{IsTokens}
use Rattle.mf_model.specs.Trees.{IsTreeOf}
use Rattle.mf_lex.specs.declared.fault.LexFault.{LexFault}
use Rattle.mf_lex.specs.declared.fault.LexFault.TheVariants as lex
use Rattle.mf_lex.specs.declared.fault.TreeFault.{TreeFault}
use Rattle.mf_lex.specs.declared.fault.TreeFault.TheVariants as tree
use Rattle.mf_lex.specs.Reading.{IsLexFault, NoTokens}
use Rattle.mf_lex.specs.Answers.{IsTreeFault, NoTree}
use Rattle.mf_lex.proofs.Whole.{unique_tree}
use Rattle.mf_reader.specs.declared.fault.FormFault.{FormFault}
use Rattle.mf_reader.specs.declared.fault.FormFault.TheVariants as form
use Rattle.mf_reader.specs.Laws.{IsReadingOf}
use Rattle.mf_reader.specs.Order.{IsAnsweredFault}
use Rattle.mf_reader.specs.Said.{Said, FirstIs, Refuses}
use Rattle.mf_input.specs.Files.{IsFileOf}
use Rattle.mf_input.specs.Kinds.{lex_refusal, tree_refusal, form_refusal}
use Rattle.mf_input.specs.Refusals.{ReadsTree, ReadsFile}

-- the tree

pub tokens_refused : (source : List ℕ) (fault : LexFault) → IsLexFault source fault → NoTokens source fault → ReadsTree source (Err (lex_refusal fault))
tokens_refused source (lex.BadByte at) is none = (is, λ tree has. none _ has.tokens)
tokens_refused source (lex.TooLong at) is none = (is, λ tree has. none _ has.tokens)
tokens_refused source lex.Memory is none = tt

pub tree_refused : (source : List ℕ) (tokens : List Token) (fault : TreeFault) → IsTokens source tokens → IsTreeFault source tokens fault → NoTree source fault →
    ReadsTree source (Err (tree_refusal fault))
tree_refused source tokens (tree.Unbalanced at) are is none = ((tokens, are, is), none)
tree_refused source tokens (tree.TooDeep at) are is none = ((tokens, are, is), none)
tree_refused source tokens tree.Memory are is none = tt

-- the form, which agrees with a reading

pub only_value : {A : Type 0} (reading : Tree → Said A) (Form : A → Tree → Type 0) → IsReadingOf reading Form → (source : List ℕ) (left right : A) →
    IsFileOf Form source left → IsFileOf Form source right → left ≡ right
only_value {A = A} reading Form reads source left right one other =
    let same : other.tree ≡ one.tree = unique_tree source other.tree one.tree other.is_tree one.is_tree in
    let form : Form right one.tree = subst (Form right) same other.form in
    ap (λ (x : Said A). x.value) (sym (reads.complete one.tree left one.form) ∙ reads.complete one.tree right form)

no_value : {A : Type 0} (reading : Tree → Said A) (Form : A → Tree → Type 0) → IsReadingOf reading Form → (source : List ℕ) (tree : Tree) (fault : FormFault) → IsTreeOf source tree →
    FirstIs fault (reading tree).faults → (value : A) → IsFileOf Form source value → ⊥
no_value {A = A} reading Form reads source tree fault is_tree first value has =
    let same : has.tree ≡ tree = unique_tree source has.tree tree has.is_tree is_tree in
    let none : (reading has.tree).faults ≡ [] = ap (λ (x : Said A). x.faults) (reads.complete has.tree value has.form) in
    let empty : (reading tree).faults ≡ [] = subst (λ t. (reading t).faults ≡ []) same none in
    subst (FirstIs fault) empty first

pub form_refused : {A : Type 0} (reading : Tree → Said A) (Form : A → Tree → Type 0) → IsReadingOf reading Form → (source : List ℕ) (tree : Tree) (fault : FormFault) → IsTreeOf source tree →
    Refuses fault (reading tree).faults → IsAnsweredFault fault (reading tree).faults → ReadsFile Form (λ t. (reading t).faults) source (Err (form_refusal fault))
form_refused reading Form reads source tree (form.UnknownRequirement span) is_tree first least = record {
  refusal = inr (inl (refl, record { tree = tree; span = span; is_tree = is_tree; first = first; least = least; place = refl }));
  none = no_value reading Form reads source tree (form.UnknownRequirement span) is_tree first;
}
form_refused reading Form reads source tree (form.LeftOut span) is_tree first least = record {
  refusal = inr (inr (inl (refl, record { tree = tree; span = span; is_tree = is_tree; first = first; least = least; place = refl })));
  none = no_value reading Form reads source tree (form.LeftOut span) is_tree first;
}
form_refused reading Form reads source tree (form.BadForm span) is_tree first least = record {
  refusal = inr (inr (inr (refl, record { tree = tree; span = span; is_tree = is_tree; first = first; least = least; place = refl })));
  none = no_value reading Form reads source tree (form.BadForm span) is_tree first;
}
form_refused reading Form reads source tree form.Memory is_tree first least = tt
