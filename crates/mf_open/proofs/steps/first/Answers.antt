use Rattle.std.proofs.Common.{◌≡◌, ◌-◌, sym, ap, ◌∙◌, subst, List, length, take, Some}
use Rattle.std.specs.Prelude.{slice_get}
use Rattle.mf_open.specs.declared.key.Key.{Key}
use Rattle.mf_open.specs.declared.nodes.Node.{Node}
use Rattle.mf_open.specs.declared.bucket.Bucket.{Bucket}
use Rattle.mf_open.specs.Chains.{node_at}
use Rattle.mf_open.specs.Buckets.{key_in}
use Rattle.mf_open.proofs.Grouping.{rising_keys}
use Rattle.mf_open.proofs.Leaving.{last_split, first_held, first_is}
use Rattle.mf_open.proofs.steps.first.Goals as goal

pub get-requires : goal.get-requires
get-requires c =
    let bs = c.args.buckets.now.items in
    let b : Bucket = c.in_ok-bucket.bucket.now in
    let read = subst (λ (cs : List Bucket). Some b ≡ slice_get cs (length cs - 1)) c.deref.ensures.value c.in_ok-bucket.ensures.value in
    first_held c.args.nodes.now bs (take (length bs - 1) bs) b (last_split bs b (sym read)) c.requires

pub returns-clause-value : goal.returns-clause-value
returns-clause-value c =
    let bs = c.args.buckets.now.items in
    let b : Bucket = c.in_ok-bucket.bucket.now in
    let read = subst (λ (cs : List Bucket). Some b ≡ slice_get cs (length cs - 1)) c.deref.ensures.value c.in_ok-bucket.ensures.value in
    ap (λ (k : Key). Some k) (c.key.ensures ∙ ap (λ (n : Node). key_in b n.state) c.get.ensures)
    ∙ sym (first_is (node_at c.args.nodes.now.list.items) bs (take (length bs - 1) bs) b (last_split bs b (sym read)))

pub returns-clause-rising : goal.returns-clause-rising
returns-clause-rising c = rising_keys (node_at c.args.nodes.now.list.items) c.args.buckets.now.items c.requires.chains c.requires.falls
