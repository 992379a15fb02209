-- The names of domains and problems: one word of any kind.
use Rattle.std.specs.Prelude.{ℕ, if◌then◌else◌, List, [], ◌∷◌}
use Rattle.mf_model.specs.declared.token.Span.{Span}
use Rattle.mf_model.specs.declared.tree.Tree.{Tree}
use Rattle.mf_model.specs.declared.tree.Tree.TheViews.{out-Tree}
use Rattle.mf_model.specs.declared.tree.Tree.TheOpen.{Tree-F}
use Rattle.mf_reader.specs.Faces.{has_text}
use Rattle.mf_reader.specs.Said.{Said, said, bad}
use Rattle.mf_reader.specs.Seen.{seen}

abbrev pub any_layer : Tree-F Tree → Said (List ℕ)
any_layer (Tree-F.Leaf kind text span) = said text
any_layer (Tree-F.Branch items span) = bad span []

abbrev pub any_word : Tree → Said (List ℕ)
any_word t = any_layer (out-Tree t)

-- one word alone
abbrev pub one_word : Span → List Tree → Said (List ℕ)
one_word span (t ∷ []) = any_word t
one_word span ts = bad span []

abbrev pub title_layer : List ℕ → Tree-F Tree → Said (List ℕ)
title_layer key (Tree-F.Branch (head ∷ parts) span) = if has_text key (seen head).face then one_word span parts else bad span []
title_layer key (Tree-F.Branch [] span) = bad span []
title_layer key (Tree-F.Leaf kind text span) = bad span []

-- (domain W) and the like
abbrev pub title_of : List ℕ → Tree → Said (List ℕ)
title_of key t = title_layer key (out-Tree t)
