use Rattle.std.proofs.Common.{◌≡◌, ◌∙◌, ap, sym, List, ℕ, true}
use Rattle.std.specs.Option.{is_some}
use Rattle.mf_model.specs.Resolution.{number_of}
use Rattle.mf_validator.proofs.Tables.{known-name, new-name}
use Rattle.mf_validator.proofs.directory.Directory.enter.Goals as goal

pub returns-then-is_some : goal.returns-then-is_some
returns-then-is_some c = λ names lists count.
    let own : List (List ℕ) = c.args.self.now.names in
    let known : is_some (number_of own c.args.name.now) ≡ true =
    ap (λ (name : List ℕ). is_some (number_of own name)) (sym c.as_slice.ensures) ∙ ap is_some (sym c.find.ensures.value) ∙ sym c.is_some.ensures ∙ c.if-is_some.true in
    known-name c.args.self.now names c.args.name.now known lists

pub returns : goal.returns
returns c = λ names lists count.
    new-name c.args.self.now (record { names = c.add.new.self; numbers = c.push.new.self }) names c.args.name.now c.args.number c.in_ok-add.ensures.ok c.in_ok-push.ensures.items lists count
