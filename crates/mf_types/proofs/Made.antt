-- What is made of an answer is what its definition makes of the value.
use Rattle.std.proofs.Common.{ap, Option, Some, Result, Ok, Err}
use Rattle.mf_model.specs.Options.{◌>>=◌}
use Rattle.mf_types.specs.declared.refusal.Refusal.{Refusal}
use Rattle.mf_types.specs.declared.refusal.Refusal.TheVariants.{Refused, Memory}
use Rattle.mf_types.specs.Gives.{Gives, made}

pub made_gives : {A B : Type 0} (make : A → B) (answer : Result A Refusal) (read : Option A) → Gives answer read → Gives (made make answer) (read >>= (λ x. Some (make x)))
made_gives make (Ok x) read h = ap (λ r. r >>= (λ x. Some (make x))) h
made_gives make (Err Refused) read h = ap (λ r. r >>= (λ x. Some (make x))) h
made_gives make (Err Memory) read h = tt
