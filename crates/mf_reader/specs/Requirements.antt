-- The requirements that a file declares: each a keyword that is known.
use Rattle.std.specs.Prelude.{ℕ, Bool, if◌then◌else◌, List, [], ◌∷◌, codes}
use Rattle.std.specs.List.{list_any}
use Rattle.std.specs.Str.{bytes_eq}
use Rattle.mf_model.specs.declared.token.Kind.{Kind}
use Rattle.mf_model.specs.declared.token.Kind.TheVariants.{Keyword}
use Rattle.mf_model.specs.declared.token.Span.{Span}
use Rattle.mf_model.specs.declared.tree.Tree.{Tree}
use Rattle.mf_model.specs.declared.tree.Tree.TheViews.{out-Tree}
use Rattle.mf_model.specs.declared.tree.Tree.TheOpen.{Tree-F}
use Rattle.mf_reader.specs.declared.fault.FormFault.TheVariants.{UnknownRequirement}
use Rattle.mf_reader.specs.Said.{Said, said, faulty, bad, both}

-- the requirements that a file may declare
abbrev pub known : List (List ℕ)
known = codes ":strips" ∷ codes ":typing" ∷ codes ":negative-preconditions" ∷ codes ":disjunctive-preconditions" ∷ codes ":equality" ∷ codes ":existential-preconditions" ∷ codes ":universal-preconditions" ∷ codes ":quantified-preconditions" ∷ codes ":conditional-effects" ∷ codes ":fluents" ∷ codes ":numeric-fluents" ∷ codes ":action-costs" ∷ codes ":adl" ∷ []

unfoldable pub is_known : List ℕ → Bool
is_known text = list_any (λ own. bytes_eq text own) known

abbrev pub requirement_leaf : Kind → List ℕ → Span → Said (Unit {0})
requirement_leaf Keyword text span = if is_known text then said tt else faulty (UnknownRequirement span) tt
requirement_leaf _ text span = bad span tt

abbrev pub requirement_layer : Tree-F Tree → Said (Unit {0})
requirement_layer (Tree-F.Leaf kind text span) = requirement_leaf kind text span
requirement_layer (Tree-F.Branch items span) = bad span tt

abbrev pub requirement_of : Tree → Said (Unit {0})
requirement_of t = requirement_layer (out-Tree t)

-- (:requirements Keyword*)
abbrev pub requirements_of : List Tree → Said (Unit {0})
requirements_of [] = said tt
requirements_of (t ∷ ts) = both (λ one others. tt) (requirement_of t) (requirements_of ts)
