-- What a call answered against what its definition gives: the value, or nothing.
use Rattle.std.specs.Prelude.{◌≡◌, Option, Some, None, Result, Ok, Err, List, ◌++◌}
use Rattle.mf_model.specs.Options.{◌>>=◌}
use Rattle.mf_types.specs.declared.refusal.Refusal.{Refusal}
use Rattle.mf_types.specs.declared.refusal.Refusal.TheVariants.{Refused, Memory}

-- want of memory says nothing of the definition
abbrev pub Refuses : {A : Type 0} → Refusal → Option A → Type 0
Refuses Refused read = read ≡ None
Refuses Memory read = Unit {0}

abbrev pub Gives : {A : Type 0} → Result A Refusal → Option A → Type 0
Gives (Ok x) read = read ≡ Some x
Gives (Err e) read = Refuses e read

-- what was read so far joined with the rest
abbrev pub with_front : {A : Type 0} → List A → Option (List A) → Option (List A)
with_front front rest = rest >>= (λ xs. Some (front ++ xs))

-- what is made of an answer
abbrev pub made : {A B : Type 0} → (A → B) → Result A Refusal → Result B Refusal
made make (Ok x) = Ok (make x)
made make (Err e) = Err e
