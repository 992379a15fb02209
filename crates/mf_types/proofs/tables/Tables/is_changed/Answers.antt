use Rattle.std.proofs.Common.{Option, ℕ, is_some, ◌∙◌, ap}
use Rattle.std.specs.Str.{bytes_eq}
use Rattle.mf_types.proofs.Found.{found_any}
use Rattle.mf_types.proofs.tables.Tables.is_changed.Goals as goal

pub returns : goal.returns
returns c =
    let known : Option ℕ → _ = is_some in
    c.is_some.ensures ∙ ap known c.find.ensures.value ∙ found_any (λ own. bytes_eq own c.args.name.now) c.args.self.now.changed
