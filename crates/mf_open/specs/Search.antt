-- Where a bucket is among buckets that fall.
use Rattle.std.specs.Prelude.{◌≡◌, ℕ, ◌<◌, ◌≤◌, List, length, take, drop, slice_index_or}
use Rattle.std.specs.List.{All}
use Rattle.mf_open.specs.declared.bucket.Bucket.{Bucket}
use Rattle.mf_open.specs.declared.search.Found.{Found}
use Rattle.mf_open.specs.Buckets.{group}

-- The bucket of a group is at the place, or all before the place are above the group and all from there on below.
abbrev pub IsFound : List Bucket → ℕ → Found → Type 0
IsFound bs wanted (Found.Bucket at) = (at < length bs) × ((d : Bucket) → group (slice_index_or bs at d).value (slice_index_or bs at d).plain ≡ wanted)
IsFound bs wanted (Found.Gap at) = (at ≤ length bs) × All (λ b. wanted < group b.value b.plain) (take at bs) × All (λ b. group b.value b.plain < wanted) (drop at bs)
