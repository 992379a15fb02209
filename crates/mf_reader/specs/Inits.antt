-- The init of a problem: the atoms that hold at the start, and the values of function terms.
use Rattle.std.specs.Prelude.{ℕ, Bool, true, false, not, if◌then◌else◌, Option, Some, None, List, [], ◌∷◌, map, codes}
use Rattle.std.specs.Str.{bytes_eq}
use Rattle.mf_model.specs.declared.token.Kind.TheVariants.{Number}
use Rattle.mf_model.specs.declared.token.Span.{Span}
use Rattle.mf_model.specs.declared.tree.Tree.{Tree}
use Rattle.mf_model.specs.declared.tree.Tree.TheViews.{out-Tree}
use Rattle.mf_model.specs.declared.tree.Tree.TheOpen.{Tree-F}
use Rattle.mf_model.specs.declared.form.Word.{Word}
use Rattle.mf_model.specs.declared.form.RawCond.TheVariants as c
use Rattle.mf_reader.specs.declared.atoms.CallForm.{CallForm}
use Rattle.mf_reader.specs.declared.inits.Starts.{Starts}
use Rattle.mf_reader.specs.declared.inits.InitHead.{InitHead}
use Rattle.mf_reader.specs.declared.inits.InitHead.TheVariants.{At, Equal, Not, Other}
use Rattle.mf_reader.specs.declared.inits.InitItem.{InitItem}
use Rattle.mf_reader.specs.declared.inits.InitItem.TheVariants.{Fact, Value}
use Rattle.mf_reader.specs.Atoms.{made_call, no_call}
use Rattle.mf_reader.specs.Conditions.{atom_cond}
use Rattle.mf_reader.specs.Faces.{Face, Leaf, Branch, is_term, name_at, no_word, word}
use Rattle.mf_reader.specs.Heads.{function_of}
use Rattle.mf_reader.specs.Said.{Said, said, bad, left_out, both, mapped, each}
use Rattle.mf_reader.specs.Seen.{seen}

-- what stands for an item where there is none
abbrev pub empty_item : Span → InitItem
empty_item span = Fact (c.And [] span)

-- Values: (= (function name*) number)

abbrev pub number_at : Face → Said Word
number_at (Leaf Number text span) = said (word text span)
number_at (Leaf kind text span) = no_word span
number_at (Branch span) = no_word span

abbrev pub named_call : Option Word → Span → List Tree → Said CallForm
named_call (Some function) span parts = mapped (made_call span function) (each (λ s. name_at s.face) (map seen parts))
named_call None span parts = no_call span

-- a function of objects: no variables stand in the init
abbrev pub start_layer : Tree-F Tree → Said CallForm
start_layer (Tree-F.Branch (head ∷ parts) span) = named_call (function_of (seen head).face) span parts
start_layer (Tree-F.Branch [] span) = no_call span
start_layer (Tree-F.Leaf kind text span) = no_call span

abbrev pub start_term : Tree → Said CallForm
start_term t = start_layer (out-Tree t)

abbrev pub made_value : CallForm → Word → InitItem
made_value call number = Value (record { function = call.function; objects = call.terms; value = number })

-- one side alone is a name or a variable
abbrev pub differ : Face → Face → Bool
differ a b = if is_term a then not (is_term b) else is_term b

abbrev pub init_value : Span → List Tree → Said InitItem
init_value span (a ∷ b ∷ []) = if differ (seen a).face (seen b).face then bad span (empty_item span) else both made_value (start_term a) (number_at (seen b).face)
init_value span parts = bad span (empty_item span)

-- Atoms

abbrev pub init_atom : Tree → Said InitItem
init_atom t = mapped (λ atom. Fact (atom_cond atom)) (seen t).atom

-- (not atom)
abbrev pub init_not : Span → List Tree → Said InitItem
init_not span (a ∷ []) = mapped (λ atom. Fact (c.Not (atom_cond atom) span)) (seen a).atom
init_not span parts = bad span (empty_item span)

abbrev pub is_number : Face → Bool
is_number (Leaf Number text span) = true
is_number (Leaf kind text span) = false
is_number (Branch span) = false

abbrev pub begins_with_number : List Tree → Bool
begins_with_number [] = false
begins_with_number (t ∷ ts) = is_number (seen t).face

-- an effect at a time is left out; any other `at` is an atom
abbrev pub init_at : Span → List Tree → Tree → Said InitItem
init_at span parts t = if begins_with_number parts then left_out span (empty_item span) else init_atom t

-- Items

unfoldable pub init_head : List ℕ → InitHead
init_head text =
    if bytes_eq text (codes "at") then At
    else (if bytes_eq text (codes "=") then Equal
    else (if bytes_eq text (codes "not") then Not
    else Other))

abbrev pub init_head_of : Face → InitHead
init_head_of (Leaf kind text span) = init_head text
init_head_of (Branch span) = Other

abbrev pub item_by : InitHead → Span → List Tree → Tree → Said InitItem
item_by At span parts t = init_at span parts t
item_by Equal span parts t = init_value span parts
item_by Not span parts t = init_not span parts
item_by Other span parts t = init_atom t

abbrev pub item_layer : Tree-F Tree → Tree → Said InitItem
item_layer (Tree-F.Branch (head ∷ parts) span) t = item_by (init_head_of (seen head).face) span parts t
item_layer (Tree-F.Branch [] span) t = bad span (empty_item span)
item_layer (Tree-F.Leaf kind text span) t = bad span (empty_item span)

abbrev pub init_item : Tree → Said InitItem
init_item t = item_layer (out-Tree t) t

abbrev pub with_item : InitItem → Starts → Starts
with_item (Fact cond) starts = record starts { atoms = cond ∷ starts.atoms }
with_item (Value value) starts = record starts { values = value ∷ starts.values }

abbrev pub init_of : List Tree → Said Starts
init_of [] = said (record { atoms = []; values = [] })
init_of (t ∷ ts) = both with_item (init_item t) (init_of ts)
