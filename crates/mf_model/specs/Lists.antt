-- Lists whose items are written over in place.
use Rattle.std.specs.Prelude.{List, ◌++◌, length, take, drop}

-- a list with these items in the places of its own: its length stays, so that more of them are cut off and missing ones
-- are its own
abbrev pub with_items : {A : Type 0} → List A → List A → List A
with_items old items = take (length old) (items ++ drop (length items) old)
