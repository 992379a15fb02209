-- The head words of the grammar.
use Rattle.std.specs.Prelude.{ℕ, Bool, if◌then◌else◌, Option, Some, None, List, codes}
use Rattle.std.specs.Str.{bytes_eq}
use Rattle.std.specs.List.{list_any}
use Rattle.mf_model.specs.declared.task.Op.TheVariants.{Assign, Increase, Decrease, ScaleUp, ScaleDown}
use Rattle.mf_model.specs.declared.task.Relation.TheVariants.{Less, AtMost, AtLeast, More}
use Rattle.mf_model.specs.declared.token.Kind.TheVariants.{Name}
use Rattle.mf_model.specs.declared.form.Word.{Word}
use Rattle.mf_model.specs.Forms.{reserved}
use Rattle.mf_reader.specs.declared.heads.CondHead.{CondHead}
use Rattle.mf_reader.specs.declared.heads.CondHead.TheVariants as c
use Rattle.mf_reader.specs.declared.heads.EffectHead.{EffectHead}
use Rattle.mf_reader.specs.declared.heads.EffectHead.TheVariants as e
use Rattle.mf_reader.specs.declared.heads.ExprHead.{ExprHead}
use Rattle.mf_reader.specs.declared.heads.ExprHead.TheVariants as x
use Rattle.mf_reader.specs.Faces.{Face, Leaf, Branch, word}

unfoldable pub cond_head : List ℕ → CondHead
cond_head text =
    if bytes_eq text (codes "not") then c.Not
    else (if bytes_eq text (codes "and") then c.And
    else (if bytes_eq text (codes "or") then c.Or
    else (if bytes_eq text (codes "imply") then c.Imply
    else (if bytes_eq text (codes "forall") then c.All
    else (if bytes_eq text (codes "exists") then c.Any
    else (if bytes_eq text (codes "=") then c.Equal
    else (if bytes_eq text (codes "<") then c.Compare Less
    else (if bytes_eq text (codes "<=") then c.Compare AtMost
    else (if bytes_eq text (codes ">=") then c.Compare AtLeast
    else (if bytes_eq text (codes ">") then c.Compare More
    else (if bytes_eq text (codes "preference") then c.Preference
    else c.Other)))))))))))

abbrev pub cond_head_of : Face → CondHead
cond_head_of (Leaf kind text span) = cond_head text
cond_head_of (Branch span) = c.Other

unfoldable pub expr_head : List ℕ → ExprHead
expr_head text =
    if bytes_eq text (codes "+") then x.Sum
    else (if bytes_eq text (codes "*") then x.Product
    else (if bytes_eq text (codes "-") then x.Minus
    else (if bytes_eq text (codes "/") then x.Quotient
    else x.Other)))

abbrev pub expr_head_of : Face → ExprHead
expr_head_of (Leaf kind text span) = expr_head text
expr_head_of (Branch span) = x.Other

unfoldable pub effect_head : List ℕ → EffectHead
effect_head text =
    if bytes_eq text (codes "not") then e.Not
    else (if bytes_eq text (codes "and") then e.And
    else (if bytes_eq text (codes "forall") then e.All
    else (if bytes_eq text (codes "when") then e.When
    else (if bytes_eq text (codes "assign") then e.Change Assign
    else (if bytes_eq text (codes "increase") then e.Change Increase
    else (if bytes_eq text (codes "decrease") then e.Change Decrease
    else (if bytes_eq text (codes "scale-up") then e.Change ScaleUp
    else (if bytes_eq text (codes "scale-down") then e.Change ScaleDown
    else e.Other))))))))

abbrev pub effect_head_of : Face → EffectHead
effect_head_of (Leaf kind text span) = effect_head text
effect_head_of (Branch span) = e.Other

-- the heads of conditions, effects and types that name no predicate
unfoldable pub is_reserved : List ℕ → Bool
is_reserved text = list_any (λ own. bytes_eq text own) reserved

abbrev pub unreserved : Word → Option Word
unreserved w = if is_reserved w.text then None else Some w

-- the name of a function
abbrev pub function_of : Face → Option Word
function_of (Leaf Name text span) = Some (word text span)
function_of (Leaf kind text span) = None
function_of (Branch span) = None

-- the name of a predicate
abbrev pub predicate_of : Face → Option Word
predicate_of (Leaf Name text span) = unreserved (word text span)
predicate_of (Leaf kind text span) = None
predicate_of (Branch span) = None
