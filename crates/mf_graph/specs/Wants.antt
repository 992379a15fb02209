-- What is asked of a form.
use Rattle.mf_task.specs.Layers as layers
use Rattle.mf_graph.specs.declared.want.Want.{Want}
use Rattle.mf_graph.specs.declared.want.Want.TheVariants as want

abbrev pub want_shown : Want → layers.Want
want_shown want.Below = layers.Below
want_shown want.AtMost = layers.AtMost
want_shown want.Zero = layers.Zero
want_shown want.NotZero = layers.NotZero
want_shown want.AtLeast = layers.AtLeast
want_shown want.Above = layers.Above
