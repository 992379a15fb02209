use Rattle.mf_open.specs.declared.bucket.Bucket.{Bucket}
use Rattle.mf_open.proofs.Entering.{in_bucket, written_in, written_new}
use Rattle.mf_open.proofs.steps.enter.Goals as goal

pub with-requires-clause-apart : goal.with-requires-clause-apart
with-requires-clause-apart c =
    let b : Bucket = c.index.result.now in
    let found = in_bucket c.args.nodes.now c.as_slice.result.now c.args.buckets.now.items c.in-Bucket.at b c.args.key c.as_slice.ensures.value c.requires.sound c.in-Bucket.ensures.0 c.in-Bucket.ensures.1 c.index.ensures c.requires.is_new in
    found.apart

pub with-requires-clause-counted : goal.with-requires-clause-counted
with-requires-clause-counted c =
    let b : Bucket = c.index.result.now in
    let found = in_bucket c.args.nodes.now c.as_slice.result.now c.args.buckets.now.items c.in-Bucket.at b c.args.key c.as_slice.ensures.value c.requires.sound c.in-Bucket.ensures.0 c.in-Bucket.ensures.1 c.index.ensures c.requires.is_new in
    found.counted

pub with-requires-clause-fresh : goal.with-requires-clause-fresh
with-requires-clause-fresh c =
    let b : Bucket = c.index.result.now in
    let found = in_bucket c.args.nodes.now c.as_slice.result.now c.args.buckets.now.items c.in-Bucket.at b c.args.key c.as_slice.ensures.value c.requires.sound c.in-Bucket.ensures.0 c.in-Bucket.ensures.1 c.index.ensures c.requires.is_new in
    found.lacks

pub returns-in-Bucket-clause-sound : goal.returns-in-Bucket-clause-sound
returns-in-Bucket-clause-sound c =
    let b : Bucket = c.index.result.now in
    let found = in_bucket c.args.nodes.now c.as_slice.result.now c.args.buckets.now.items c.in-Bucket.at b c.args.key c.as_slice.ensures.value c.requires.sound c.in-Bucket.ensures.0 c.in-Bucket.ensures.1 c.index.ensures c.requires.is_new in
    (written_in c.args.nodes.now c.with.new.nodes c.args.buckets.now.items c.in-Bucket.at b c.with.result c.args.key c.requires.sound found c.with.ensures.takes c.with.ensures.same.0 c.with.ensures.same.1 c.with.ensures.same.2).0

pub returns-in-Bucket-clause-keys : goal.returns-in-Bucket-clause-keys
returns-in-Bucket-clause-keys c =
    let b : Bucket = c.index.result.now in
    let found = in_bucket c.args.nodes.now c.as_slice.result.now c.args.buckets.now.items c.in-Bucket.at b c.args.key c.as_slice.ensures.value c.requires.sound c.in-Bucket.ensures.0 c.in-Bucket.ensures.1 c.index.ensures c.requires.is_new in
    (written_in c.args.nodes.now c.with.new.nodes c.args.buckets.now.items c.in-Bucket.at b c.with.result c.args.key c.requires.sound found c.with.ensures.takes c.with.ensures.same.0 c.with.ensures.same.1 c.with.ensures.same.2).1

pub returns-in-Ok-clause-sound : goal.returns-in-Ok-clause-sound
returns-in-Ok-clause-sound c = (written_new c.args.nodes.now c.of_one-bucket.new.nodes c.as_slice.result.now c.args.buckets.now.items c.insert.new.self.items c.in-Gap.at c.of_one-bucket.result c.args.key c.as_slice.ensures.value c.requires.sound c.in-Ok.ensures.items c.of_one-bucket.ensures.takes c.of_one-bucket.ensures.same.0 c.of_one-bucket.ensures.same.1 c.of_one-bucket.ensures.same.2 c.in-Gap.ensures.1 c.in-Gap.ensures.2).0

pub returns-in-Ok-clause-keys : goal.returns-in-Ok-clause-keys
returns-in-Ok-clause-keys c = (written_new c.args.nodes.now c.of_one-bucket.new.nodes c.as_slice.result.now c.args.buckets.now.items c.insert.new.self.items c.in-Gap.at c.of_one-bucket.result c.args.key c.as_slice.ensures.value c.requires.sound c.in-Ok.ensures.items c.of_one-bucket.ensures.takes c.of_one-bucket.ensures.same.0 c.of_one-bucket.ensures.same.1 c.of_one-bucket.ensures.same.2 c.in-Gap.ensures.1 c.in-Gap.ensures.2).1
