-- What a folder in memory answers to its next load.
use Rattle.std.specs.Prelude.{ℕ, if◌then◌else◌, Result, Err, List, length}
use Rattle.std.specs.Option.{option_map_or}
use Rattle.mf_io.specs.declared.folder.Loaded.{Loaded}
use Rattle.mf_io.specs.declared.folder.LoadFault.{LoadFault}
use Rattle.mf_io.specs.declared.folder.LoadFault.TheVariants.{Failed}
use Rattle.mf_io.specs.declared.memory_folder.MemoryFolder.{MemoryFolder}
use Rattle.mf_io.specs.Counts.{next_count, is_listed}
use Rattle.mf_io.specs.Folder.{first_named, loaded_of}

-- The next load fails where its number is listed, or where the name isn't held; else it reads the bytes held.
abbrev pub outcome_of : MemoryFolder → List ℕ → ℕ → Result Loaded LoadFault
outcome_of folder name most =
    if is_listed (next_count (length folder.log)) folder.failing then Err Failed
    else option_map_or (loaded_of most) (first_named folder.files name) (Err Failed)
