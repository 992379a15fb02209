-- What a load answers, and what it leaves in the folder's log.
use Rattle.std.specs.Prelude.{◌≡◌, ℕ, ◌<◌, ◌≤◌, nat_le, Bool, true, false, if◌then◌else◌, Option, Result, Ok, Err, List, [], ◌∷◌, ◌++◌, length, map, find, IfSome, unwrap_or, count_by, bytes_eq}
use Rattle.std.specs.Option.{option_map}
use Rattle.mf_io.specs.declared.folder.Loading.{Loading}
use Rattle.mf_io.specs.declared.folder.Loaded.{Loaded}
use Rattle.mf_io.specs.declared.folder.Loaded.TheVariants.{Whole, TooLong}
use Rattle.mf_io.specs.declared.folder.LoadFault.{LoadFault}
use Rattle.mf_io.specs.declared.folder.LoadFault.TheVariants.{Failed, Memory}

-- the log has grown by one load of this name
abbrev pub Notes : List ℕ → Bool → List Loading → List Loading → Type 0
Notes name failed before after = after ≡ before ++ record { name = name; failed = failed } ∷ []

-- A load of `name`, where `held` is what the folder holds under it, if it tells:
-- a whole file is the bytes held, which are no more than allowed; a file is too long where more are held than allowed;
-- and the log has one more load, a failed one exactly at a fault. Want of memory leaves the log as it was.
abbrev pub Loads : Option (List ℕ) → List ℕ → ℕ → List Loading → List Loading → Result Loaded LoadFault → Type 0
Loads held name most before after (Ok (Whole text)) = (length text ≤ most) × IfSome held (λ bytes. text ≡ bytes) × Notes name false before after
Loads held name most before after (Ok TooLong) = IfSome held (λ bytes. most < length bytes) × Notes name false before after
Loads held name most before after (Err Failed) = Notes name true before after
Loads held name most before after (Err Memory) = after ≡ before

-- the count of read faults of a folder with this log
abbrev pub read_faults : List Loading → ℕ
read_faults log = count_by (λ loading. loading.failed) log

-- a log of loads of these names, none of which failed
abbrev pub unfailed : List (List ℕ) → List Loading
unfailed names = map (λ name. record { name = name; failed = false }) names

-- the bytes of the first file with this name; a file is a name and its bytes
abbrev pub first_named : List (List ℕ × List ℕ) → List ℕ → Option (List ℕ)
first_named files name = option_map (λ file. file.1) (find (λ file. bytes_eq file.0 name) files)

-- the same, where a name that no file has stands for the empty file
abbrev pub named_or_empty : List (List ℕ × List ℕ) → List ℕ → List ℕ
named_or_empty files name = unwrap_or (first_named files name) []

-- what a load of these bytes finds
abbrev pub loaded_of : ℕ → List ℕ → Result Loaded LoadFault
loaded_of most bytes = if nat_le (length bytes) most then Ok (Whole bytes) else Ok TooLong

-- the answer is the wanted one, unless memory was wanting
abbrev pub Answers : Result Loaded LoadFault → Result Loaded LoadFault → Type 0
Answers wanted (Ok loaded) = Ok loaded ≡ wanted
Answers wanted (Err Failed) = Err Failed ≡ wanted
Answers wanted (Err Memory) = Unit {0}

-- the part of `Loads` that speaks of the answer alone
abbrev pub Reads : Option (List ℕ) → ℕ → Result Loaded LoadFault → Type 0
Reads held most (Ok (Whole text)) = (length text ≤ most) × IfSome held (λ bytes. text ≡ bytes)
Reads held most (Ok TooLong) = IfSome held (λ bytes. most < length bytes)
Reads held most (Err fault) = Unit {0}

-- the outcome of a load was noted and handed on, unless memory was wanting
abbrev pub Noted : List ℕ → Result Loaded LoadFault → List Loading → List Loading → Result Loaded LoadFault → Type 0
Noted name outcome before after (Ok loaded) = (Ok loaded ≡ outcome) × Notes name false before after
Noted name outcome before after (Err Failed) = (Err Failed ≡ outcome) × Notes name true before after
Noted name outcome before after (Err Memory) = after ≡ before
