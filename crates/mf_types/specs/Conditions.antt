-- Faults in conditions.
use Rattle.std.specs.Prelude.{List, [], ◌∷◌, ◌++◌}
use Rattle.mf_model.specs.declared.form.Word.{Word}
use Rattle.mf_model.specs.declared.form.RawExpr.{RawExpr}
use Rattle.mf_model.specs.declared.form.RawCond.{RawCond, fold-RawCond}
use Rattle.mf_model.specs.declared.form.RawCond.TheOpen.{RawCond-F}
use Rattle.mf_types.specs.declared.least.Fault.{Fault}
use Rattle.mf_types.specs.Scopes.{Scope}
use Rattle.mf_types.specs.Arguments.{atom_faults, term_faults}
use Rattle.mf_types.specs.Sites.{Site}
use Rattle.mf_types.specs.Expressions.{expr_faults}
use Rattle.mf_types.specs.Quantified.{quantified}

-- the faults of each part
abbrev pub all_faults : List (Scope → List Fault) → Scope → List Fault
all_faults [] scope = []
all_faults (part ∷ parts) scope = part scope ++ all_faults parts scope

abbrev pub both_faults : (Scope → List Fault) → (Scope → List Fault) → Scope → List Fault
both_faults left right scope = left scope ++ right scope

abbrev pub same_faults : Site → Word → Word → Scope → List Fault
same_faults site left right scope = term_faults site scope left ++ term_faults site scope right

abbrev pub comparison_faults : Site → RawExpr → RawExpr → Scope → List Fault
comparison_faults site left right scope = expr_faults site left scope ++ expr_faults site right scope

abbrev pub cond_step : Site → RawCond-F (Scope → List Fault) → Scope → List Fault
cond_step site (RawCond-F.Atom predicate terms span) scope = atom_faults site scope predicate terms
cond_step site (RawCond-F.Same left right span) scope = same_faults site left right scope
cond_step site (RawCond-F.Compare relation left right span) scope = comparison_faults site left right scope
cond_step site (RawCond-F.Not part span) scope = part scope
cond_step site (RawCond-F.And parts span) scope = all_faults parts scope
cond_step site (RawCond-F.Or parts span) scope = all_faults parts scope
cond_step site (RawCond-F.Imply left right span) scope = both_faults left right scope
cond_step site (RawCond-F.All variables part span) scope = quantified site variables part scope
cond_step site (RawCond-F.Any variables part span) scope = quantified site variables part scope

abbrev pub cond_faults : Site → RawCond → Scope → List Fault
cond_faults site = fold-RawCond (Scope → List Fault) (cond_step site)
