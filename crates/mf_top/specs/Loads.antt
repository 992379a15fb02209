-- The loads of a call: its files are loaded in the order of the words, up to one whose load ends the call.
use Rattle.std.specs.Prelude.{◌≡◌, ℕ, ◌<◌, ◌≤◌, ◌⊎◌, true, false, Option, Result, Ok, Err, List, [], ◌∷◌, ◌++◌, map, length, IfSome, Some}
use Rattle.std.specs.List.{AllZip}
use Rattle.mf_io.specs.declared.folder.Loading.{Loading}
use Rattle.mf_io.specs.Folder.{Notes}
use Rattle.mf_top.specs.declared.decision.Decision.{Decision}
use Rattle.mf_top.specs.declared.load.Two.{Two}
use Rattle.mf_top.specs.declared.load.Three.{Three}
use Rattle.mf_top.specs.Decision.{stops, refuses, out_of_memory, IsUnlessMemory}
use Rattle.mf_top.specs.Texts.{unread_text, too_long_text}

-- the most bytes that a file may have
abbrev pub greatest_length : ℕ
greatest_length = 16777216

abbrev pub found_load : List ℕ → Loading
found_load name = record { name = name; failed = false }

abbrev pub failed_load : List ℕ → Loading
failed_load name = record { name = name; failed = true }

-- the bytes are those that the folder holds, if it tells them, and no more than allowed
pub record Reads (held : Option (List ℕ)) (bytes : List ℕ) : Type 0 where
  pub told : IfSome held (λ told. bytes ≡ told)
  pub allowed : length bytes ≤ greatest_length

-- the folder holds more bytes than allowed, if it tells them
abbrev pub IsTooLong : Option (List ℕ) → Type 0
IsTooLong held = IfSome held (λ bytes. greatest_length < length bytes)

-- the load of this file ends the call: memory ran out, or the load failed, or the file is too long
abbrev pub EndsLoad : Option (List ℕ) → List ℕ → (before after : List Loading) → Decision → Type 0
EndsLoad held name before after decision =
    ((after ≡ before) × (decision ≡ out_of_memory))
    ⊎ (Notes name true before after × IsUnlessMemory (stops 4 (unread_text name)) decision)
    ⊎ (Notes name false before after × IsTooLong held × IsUnlessMemory (refuses (too_long_text name)) decision)

-- the step: the bytes of the file
abbrev pub LoadsFile : Option (List ℕ) → List ℕ → (before after : List Loading) → Result (List ℕ) Decision → Type 0
LoadsFile held name before after (Ok bytes) = Notes name false before after × Reads held bytes
LoadsFile held name before after (Err decision) = EndsLoad held name before after decision

-- the files of these names were loaded, in their order, and these are their bytes
pub record AreRead (held : List ℕ → Option (List ℕ)) (names : List (List ℕ)) (before after : List Loading) (sources : List (List ℕ)) : Type 0 where
  pub log : after ≡ before ++ map found_load names
  pub read : AllZip (λ name bytes. Reads (held name) bytes) names sources

-- the files of these names are loaded, in their order, up to one whose load ends the call
abbrev pub EndsLoads : (List ℕ → Option (List ℕ)) → List (List ℕ) → (before after : List Loading) → Decision → Type 0
EndsLoads held [] before after decision = ⊥
EndsLoads held (name ∷ names) before after decision =
    EndsLoad (held name) name before after decision
    ⊎ ((bytes : List ℕ) × Reads (held name) bytes × EndsLoads held names (before ++ found_load name ∷ []) after decision)

-- the step: the bytes of two files, and of three
abbrev pub LoadsTwo : (List ℕ → Option (List ℕ)) → (domain problem : List ℕ) → (before after : List Loading) → Result Two Decision → Type 0
LoadsTwo held domain problem before after (Ok two) = AreRead held (domain ∷ problem ∷ []) before after (two.domain ∷ two.problem ∷ [])
LoadsTwo held domain problem before after (Err decision) = EndsLoads held (domain ∷ problem ∷ []) before after decision

abbrev pub LoadsThree : (List ℕ → Option (List ℕ)) → (domain problem third : List ℕ) → (before after : List Loading) → Result Three Decision → Type 0
LoadsThree held domain problem third before after (Ok three) =
    AreRead held (domain ∷ problem ∷ third ∷ []) before after (three.domain ∷ three.problem ∷ three.third ∷ [])
LoadsThree held domain problem third before after (Err decision) = EndsLoads held (domain ∷ problem ∷ third ∷ []) before after decision

-- The files of these names are loaded, and then their bytes decide.
abbrev pub LoadsThen : (List ℕ → Option (List ℕ)) → List (List ℕ) → (List (List ℕ) → Decision → Type 0) → (before after : List Loading) → Decision → Type 0
LoadsThen held names Decides before after decision =
    EndsLoads held names before after decision
    ⊎ ((sources : List (List ℕ)) × AreRead held names before after sources × Decides sources decision)

-- What the bytes say that the folder tells

-- the folder tells that the files of these names have these bytes
abbrev pub Tells : (List ℕ → Option (List ℕ)) → (names sources : List (List ℕ)) → Type 0
Tells held names sources = AllZip (λ name bytes. held name ≡ Some bytes) names sources

-- no file is longer than allowed
abbrev pub AllFit : List (List ℕ) → Type 0
AllFit [] = Unit {0}
AllFit (bytes ∷ sources) = (length bytes ≤ greatest_length) × AllFit sources

-- a file is longer than allowed
abbrev pub SomeIsTooLong : List (List ℕ) → Type 0
SomeIsTooLong [] = ⊥
SomeIsTooLong (bytes ∷ sources) = (greatest_length < length bytes) ⊎ SomeIsTooLong sources

-- this text refuses the first file that is longer than allowed
abbrev pub IsLengthRefusal : (names sources : List (List ℕ)) → List ℕ → Type 0
IsLengthRefusal [] sources text = ⊥
IsLengthRefusal (name ∷ names) [] text = ⊥
IsLengthRefusal (name ∷ names) (bytes ∷ sources) text =
    ((greatest_length < length bytes) × (text ≡ too_long_text name))
    ⊎ ((length bytes ≤ greatest_length) × IsLengthRefusal names sources text)
