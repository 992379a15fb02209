-- Levels of conditions from the first levels of their leaves.
use Rattle.std.specs.Prelude.{ℕ, Bool, true, false, not, List, get_or, Option, Some, None}
use Rattle.mf_task.specs.declared.ground.GroundCond.{GroundCond, fold-GroundCond}
use Rattle.mf_task.specs.declared.ground.GroundCond.TheOpen.{GroundCond-F}
use Rattle.mf_task.specs.Layers.{Want, Below, AtMost, Zero, NotZero, AtLeast, Above, and_level, fact_level, or_level, want_of}
use Rattle.mf_task.specs.LimitClosure.{agrees_with}
use Rattle.mf_graph.specs.declared.levels.Levels.{Levels}

-- an atom without a place is false from the first layer on
abbrev pub atom_level : Levels → Bool → ℕ → Option ℕ
atom_level levels true atom = get_or levels.possible atom None
atom_level levels false atom = get_or levels.possibly_false atom (Some 0)

abbrev pub levels_for : Levels → Want → List (Option ℕ)
levels_for levels Below = levels.below
levels_for levels AtMost = levels.at_most
levels_for levels Zero = levels.zero
levels_for levels NotZero = levels.not_zero
levels_for levels AtLeast = levels.at_least
levels_for levels Above = levels.above

-- of the number 0
abbrev pub zero_level : Want → Option ℕ
zero_level Below = None
zero_level AtMost = Some 0
zero_level Zero = Some 0
zero_level NotZero = None
zero_level AtLeast = Some 0
zero_level Above = None

abbrev pub form_level : Levels → Want → ℕ → Option ℕ
form_level levels want form = get_or (levels_for levels want) form (zero_level want)

abbrev pub level_step_by : Levels → GroundCond-F (Bool → Option ℕ) → Bool → Option ℕ
level_step_by levels (GroundCond-F.Fact holds) asked = fact_level (agrees_with asked holds)
level_step_by levels GroundCond-F.Neither asked = None
level_step_by levels (GroundCond-F.Atom atom) asked = atom_level levels asked atom
level_step_by levels (GroundCond-F.Compare r form) asked = form_level levels (want_of asked r) form
level_step_by levels (GroundCond-F.Not part) asked = part (not asked)
level_step_by levels (GroundCond-F.And parts) asked = and_level parts asked
level_step_by levels (GroundCond-F.Or parts) asked = or_level parts asked

abbrev pub level_by : Levels → GroundCond → Bool → Option ℕ
level_by levels = fold-GroundCond (Bool → Option ℕ) (level_step_by levels)
