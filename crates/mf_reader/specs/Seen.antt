-- What is said of a tree at each place: all the lower forms at once, from the inside out.
use Rattle.std.specs.Prelude.{ℕ, List, []}
use Rattle.mf_model.specs.declared.token.Kind.{Kind}
use Rattle.mf_model.specs.declared.token.Span.{Span}
use Rattle.mf_model.specs.declared.tree.Tree.{Tree, fold-Tree}
use Rattle.mf_model.specs.declared.tree.Tree.TheOpen.{Tree-F}
use Rattle.mf_reader.specs.declared.places.EffectPlace.TheVariants as effect_place
use Rattle.mf_reader.specs.declared.places.ExprPlace.TheVariants as expr_place
use Rattle.mf_reader.specs.Atoms.{atom_at, call_at, no_atom, no_call}
use Rattle.mf_reader.specs.Conditions.{list_cond, no_cond}
use Rattle.mf_reader.specs.Effects.{list_effect, no_effect}
use Rattle.mf_reader.specs.Expressions.{list_expr, word_expr}
use Rattle.mf_reader.specs.Faces.{Leaf, Branch, name_at}
use Rattle.mf_reader.specs.Said.{bad, mapped}
use Rattle.mf_reader.specs.Typed.{alone, list_parent, list_types, typed_variables}
pub use Rattle.mf_reader.specs.Places.{Seen}

abbrev pub seen_word : Kind → List ℕ → Span → Seen
seen_word kind text span = record {
  face = Leaf kind text span;
  types = mapped alone (name_at (Leaf kind text span));
  parent = name_at (Leaf kind text span);
  variables = bad span [];
  atom = no_atom span;
  call = no_call span;
  expr = word_expr expr_place.Action kind text span;
  metric = word_expr expr_place.Metric kind text span;
  cond = no_cond span;
  effect = no_effect span;
  inner = no_effect span;
}

abbrev pub seen_list : Span → List Seen → Seen
seen_list span items = record {
  face = Branch span;
  types = list_types span items;
  parent = list_parent span items;
  variables = typed_variables items;
  atom = atom_at span items;
  call = call_at span items;
  expr = list_expr expr_place.Action span items;
  metric = list_expr expr_place.Metric span items;
  cond = list_cond span items;
  effect = list_effect effect_place.Action span items;
  inner = list_effect effect_place.When span items;
}

abbrev pub seen_step : Tree-F Seen → Seen
seen_step (Tree-F.Leaf kind text span) = seen_word kind text span
seen_step (Tree-F.Branch items span) = seen_list span items

abbrev pub seen : Tree → Seen
seen = fold-Tree Seen seen_step
