-- What the code looks up while it makes forms, as the definition of forms sees it.
use Rattle.std.specs.Prelude.{not}
use Rattle.mf_model.specs.Objects.{member}
use Rattle.mf_model.specs.States.{value_at}
use Rattle.mf_task.specs.Grounding.{term_number}
use Rattle.mf_task.specs.LinearForms.{Functions}
use Rattle.mf_normal.specs.declared.lookup.Lookup.{Lookup}

abbrev pub functions_seen : Lookup → Functions
functions_seen lookup = record {
  is_constant = λ function. not (member function lookup.changed);
  start = value_at lookup.values;
  term = term_number lookup.terms;
}
