-- What is said of names of files and of requirements agrees with their forms.
use Rattle.std.proofs.Common.{◌≡◌, ℕ, true, List, [], ◌∷◌, refl, ap, ◌∙◌}
use Rattle.std.specs.List.{list_any, AllByRecursion}
use Rattle.std.specs.Str.{bytes_eq}
use Rattle.mf_model.proofs.Choices.{if_true}
use Rattle.mf_model.specs.declared.token.Kind.{Kind}
use Rattle.mf_model.specs.declared.token.Kind.TheVariants.{Left, Right, Name, Variable, Keyword, Number, Sign, Plain}
use Rattle.mf_model.specs.declared.token.Span.{Span}
use Rattle.mf_model.specs.declared.tree.Tree.{Tree}
use Rattle.mf_model.specs.declared.tree.Tree.TheViews.{out-Tree}
use Rattle.mf_model.specs.declared.tree.Tree.TheOpen.{Tree-F}
use Rattle.mf_model.specs.Forms.{IsLeaf, IsWord, IsTitle, IsNamed}
use Rattle.mf_reader.specs.Said.{Said, said, bad}
use Rattle.mf_reader.specs.Faces.{has_text}
use Rattle.mf_reader.specs.Laws.{IsReadingOf}
use Rattle.mf_reader.specs.Seen.{seen}
use Rattle.mf_reader.specs.Requirements.{known, is_known, requirement_leaf, requirement_layer, requirement_of, requirements_of}
use Rattle.mf_reader.specs.Titles.{any_layer, one_word, title_layer, title_of}
use Rattle.mf_reader.specs.GrammarSections.{IsRequirement}
use Rattle.mf_reader.proofs.Readings.{some_fault, none_of_both, both_said}
use Rattle.mf_reader.proofs.Choices.{by_test}
use Rattle.mf_reader.proofs.WordReadings.{text_sound, text_complete}

-- Names

any_sound : (t : Tree) (x : Tree-F Tree) → out-Tree t ≡ x → (any_layer x).faults ≡ [] → IsWord (any_layer x).value t
any_sound t (Tree-F.Leaf kind text span) is e = (kind, span, is)
any_sound t (Tree-F.Branch items span) is e = some_fault _ _ e

pub word_sound : (span : Span) (ts : List Tree) → (one_word span ts).faults ≡ [] → IsTitle (one_word span ts).value ts
word_sound span [] e = some_fault _ _ e
word_sound span (t ∷ []) e = (t, refl, any_sound t (out-Tree t) refl e)
word_sound span (t ∷ u ∷ rest) e = some_fault _ _ e

pub word_complete : (span : Span) (ts : List Tree) (name : List ℕ) → IsTitle name ts → one_word span ts ≡ said name
word_complete span ts name h = ap (one_word span) h.1 ∙ ap any_layer h.2.2

title_sound : (key : List ℕ) (t : Tree) (x : Tree-F Tree) → out-Tree t ≡ x → (title_layer key x).faults ≡ [] → IsNamed key (title_layer key x).value t
title_sound key t (Tree-F.Leaf kind text span) is = λ e. some_fault _ _ e
title_sound key t (Tree-F.Branch [] span) is = λ e. some_fault _ _ e
title_sound key t (Tree-F.Branch (head ∷ parts) span) is =
    by_test (λ (x : Said (List ℕ)). x.faults ≡ [] → IsNamed key x.value t) (has_text key (seen head).face) (one_word span parts) (bad span [])
    (λ word e. (record { parts = parts; span = span }, (head, is, text_sound key head word), word_sound span parts e))
    (λ word e. some_fault _ _ e)

pub title_reads : (key : List ℕ) → IsReadingOf (title_of key) (IsNamed key)
title_reads key = record {
  sound = λ t e. title_sound key t (out-Tree t) refl e;
  complete = λ t name h.
      ap (title_layer key) h.1.1
      ∙ if_true (has_text key (seen h.1.0).face) (one_word h.0.span h.0.parts) (bad h.0.span []) (text_complete key h.1.0 h.1.2)
      ∙ word_complete h.0.span h.0.parts name h.2;
}

-- Requirements

leaf_sound : (t : Tree) (kind : Kind) (text : List ℕ) (span : Span) → IsLeaf kind text span t → (requirement_leaf kind text span).faults ≡ [] → IsRequirement t
unfolding is_known
leaf_sound t Keyword text span leaf =
    by_test (λ (x : Said (Unit {0})). x.faults ≡ [] → IsRequirement t) (is_known text) _ _
    (λ is e. record { text = text; span = span; keyword = leaf; is_known = is })
    (λ is e. some_fault _ _ e)
leaf_sound t Left text span leaf = λ e. some_fault _ _ e
leaf_sound t Right text span leaf = λ e. some_fault _ _ e
leaf_sound t Name text span leaf = λ e. some_fault _ _ e
leaf_sound t Variable text span leaf = λ e. some_fault _ _ e
leaf_sound t Number text span leaf = λ e. some_fault _ _ e
leaf_sound t Sign text span leaf = λ e. some_fault _ _ e
leaf_sound t Plain text span leaf = λ e. some_fault _ _ e

requirement_sound : (t : Tree) (x : Tree-F Tree) → out-Tree t ≡ x → (requirement_layer x).faults ≡ [] → IsRequirement t
requirement_sound t (Tree-F.Leaf kind text span) is e = leaf_sound t kind text span is e
requirement_sound t (Tree-F.Branch items span) is e = some_fault _ _ e

known_complete : (text : List ℕ) (span : Span) → list_any (λ word. bytes_eq text word) known ≡ true → requirement_leaf Keyword text span ≡ said tt
unfolding is_known
known_complete text span is = if_true (is_known text) (said tt) _ is

requirement_complete : (t : Tree) → IsRequirement t → requirement_of t ≡ said tt
requirement_complete t h = ap requirement_layer h.keyword ∙ known_complete h.text h.span h.is_known

pub requirements_sound : (ts : List Tree) → (requirements_of ts).faults ≡ [] → AllByRecursion IsRequirement ts
requirements_sound [] e = tt
requirements_sound (t ∷ ts) e =
    let h = none_of_both (requirement_of t).faults (requirements_of ts).faults e in
    (requirement_sound t (out-Tree t) refl h.0, requirements_sound ts h.1)

pub requirements_complete : (ts : List Tree) → AllByRecursion IsRequirement ts → requirements_of ts ≡ said tt
requirements_complete [] h = refl
requirements_complete (t ∷ ts) h = both_said (λ one others. tt) (requirement_of t) (requirements_of ts) tt tt (requirement_complete t h.0) (requirements_complete ts h.1)
