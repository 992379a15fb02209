-- No fault at a word is answered where the best so far stands before the word.
use Rattle.std.proofs.Common.{◌≡◌, Bool, true, false, if◌then◌else◌, nat_eq, nat_lt, ℕ, Option, Some, None, List, refl, sym, ap, arith}
use Rattle.std.proofs.lemmas.Bool.Decides.{nat_tests}
use Rattle.mf_model.specs.declared.form.FileKind.{FileKind}
use Rattle.mf_model.specs.declared.form.Word.{Word}
use Rattle.mf_types.specs.declared.least.Fault.{Fault}
use Rattle.mf_types.specs.declared.least.FaultKind.{FaultKind}
use Rattle.mf_types.specs.declared.least.FaultKind.TheVariants.{UnknownName, WrongType}
use Rattle.mf_types.specs.Arguments.{term_faults, term_types, type_faults, unknown}
use Rattle.mf_types.specs.Faults.{after, at_word, fault_at, file_rank, rank, stands_before}
use Rattle.mf_types.specs.Related.{are_related}
use Rattle.mf_types.specs.Scopes.{Scope}
use Rattle.mf_types.specs.Sites.{Site, unless}
use Rattle.mf_types.proofs.Order.{comes}

comes_earlier : (a s r b t q : ℕ) → (if nat_eq a b then nat_lt s t else nat_lt a b) ≡ true → comes a s r b t q ≡ true
comes_earlier a s r b t q h = grind (arith, nat_tests)

stays : (best : Option Fault) (kind : FaultKind) (file : FileKind) (w : Word) → stands_before best file w ≡ true → best ≡ after best (at_word kind file w)
stays None kind file w h = let no : ⊥ = cc in absurd no
stays (Some best) kind file w h =
    sym (ap (λ (b : Bool). if b then Some best else Some (fault_at kind file w.span)) (comes_earlier (file_rank best.file) best.span.start (rank best.kind) (file_rank file) w.span.start (rank kind) h))

pub settled_term : (site : Site) (scope : Scope) (w : Word) (best : Option Fault) → stands_before best site.file w ≡ true → best ≡ after best (term_faults site scope w)
settled_term site scope w best h = by (term_types site.declared scope w.text)
  where
    by : (o : Option (List ℕ)) → best ≡ after best (unknown site w o)
    by (Some types) = refl
    by None = stays best UnknownName site.file w h

pub settled_argument : (site : Site) (wanted : List ℕ) (w : Word) (own : Option (List ℕ)) (best : Option Fault) → stands_before best site.file w ≡ true → best ≡ after best (type_faults site wanted w own)
settled_argument site wanted w None best h = refl
settled_argument site wanted w (Some own) best h = by (are_related site.declared.parents own wanted)
  where
    by : (b : Bool) → best ≡ after best (unless b (at_word WrongType site.file w))
    by true = refl
    by false = stays best WrongType site.file w h
