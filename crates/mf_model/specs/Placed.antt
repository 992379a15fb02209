-- What a token is, and where it stands.
use Rattle.mf_model.specs.declared.token.Span.{Span}
use Rattle.mf_model.specs.declared.token.Kind.{Kind}

pub record Placed : Type 0 where
  pub kind : Kind
  pub span : Span
