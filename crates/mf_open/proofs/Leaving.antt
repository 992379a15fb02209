-- What the least key is, and what it leaves when it is taken.
use Rattle.std.proofs.Common.{◌≡◌, sym, ◌∙◌, ap, subst, ℕ, suc, ◌+◌, ◌-◌, ◌<◌, ◌≤◌, List, [], ◌∷◌, ◌++◌, map, length, take, drop, Some, arith}
use Rattle.std.specs.Prelude.{slice_get}
use Rattle.std.proofs.lemmas.List.{take_more, take_all, append-nil}
use Rattle.std.proofs.lemmas.Option.{slice_get_within, get_or_from_slice_get}
use Rattle.std.proofs.lemmas.List.Elements.{All-nil}
use Rattle.mf_open.specs.declared.key.Key.{Key}
use Rattle.mf_open.specs.declared.nodes.Node.{Node}
use Rattle.mf_open.specs.declared.nodes.Nodes.{Nodes}
use Rattle.mf_open.specs.declared.bucket.Bucket.{Bucket}
use Rattle.mf_open.specs.Chains.{run, states, later, times, free_times, Frees}
use Rattle.mf_open.specs.Buckets.{group, key_in, keys_of, in_chain, Rises, IsChain, Falls, Sound, Relinks}
use Rattle.mf_open.proofs.Places.{once_self, once_same, run_same, states_same, later_same}
use Rattle.mf_open.proofs.Others.{look, keys_append, all_left, remains, whole, sound_apart, sound_counted, sound_chain}
use Rattle.mf_open.proofs.Grouping.{falls_above, falls_with, falls_without}

-- a list before its last item
pub last_split : (bs : List Bucket) (b : Bucket) → slice_get bs (length bs - 1) ≡ Some b → bs ≡ take (length bs - 1) bs ++ b ∷ []
last_split bs b e =
    let within : length bs - 1 < length bs = slice_get_within bs (length bs - 1) b e in
    let n : length bs ≤ length bs - 1 + 1 = omega arith in
    sym (take_all (length bs - 1 + 1) bs n) ∙ take_more bs (length bs - 1) b within ∙ ap (λ (c : Bucket). take (length bs - 1) bs ++ c ∷ []) (get_or_from_slice_get bs (length bs - 1) b b e)

-- the keys before and after the first of the last bucket
pub keys_first : (f : ℕ → Node) (front : List Bucket) (b : Bucket) → keys_of f (front ++ b ∷ []) ≡ key_in b (f b.first).state ∷ (map (key_in b) (states f b.more (f b.first).next) ++ keys_of f front)
keys_first f front b = keys_append f front (b ∷ [])

pub first_is : (f : ℕ → Node) (bs front : List Bucket) (b : Bucket) → bs ≡ front ++ b ∷ [] → slice_get (keys_of f bs) 0 ≡ Some (key_in b (f b.first).state)
first_is f bs front b e = ap (λ (cs : List Bucket). slice_get (keys_of f cs) 0) e ∙ ap (λ (ks : List Key). slice_get ks 0) (keys_first f front b)

-- the first node of a bucket is not free
pub first_held : (nodes : Nodes) (bs front : List Bucket) (b : Bucket) → bs ≡ front ++ b ∷ [] → Sound nodes bs → free_times nodes b.first ≡ 0
first_held nodes bs front b e sound =
    let o = once_self b.first in
    omega (arith, sound_apart nodes front [] b (subst (Sound nodes) e sound) b.first)

pub first_spare : (nodes : Nodes) (bs front : List Bucket) (b : Bucket) → bs ≡ front ++ b ∷ [] → Sound nodes bs → nodes.spare < length nodes.list.items
first_spare nodes bs front b e sound = omega (arith, sound_counted nodes front [] b (subst (Sound nodes) e sound))

-- the first node of a bucket was let go
rest_kept : (old new : Nodes) (b : Bucket) → Frees old new b.first → ((p : ℕ) → in_chain (look old) b p ≤ 1) → (p : ℕ) → 0 < times p (run (look old) b.more (look old b.first).next) → look new p ≡ look old p
rest_kept old new b frees apart p held = frees.elsewhere p (λ e. let o = once_same p b.first e in omega (arith, apart p))

links_taken : (old new : Nodes) (b : Bucket) → Frees old new b.first → Relinks old new (in_chain (look old) b) (λ p. times p (run (look old) b.more (look old b.first).next))
links_taken old new b frees = record {
  moved = λ p. omega (arith, frees.given p);
  elsewhere = λ p h. frees.elsewhere p (λ e. let o = once_same p b.first e in omega arith);
}

-- the last bucket held that key alone
pub left_none : (old new : Nodes) (bs front : List Bucket) (b : Bucket) → bs ≡ front ++ b ∷ [] → Sound old bs → Frees old new b.first → b.more ≡ 0 → Sound new front × (keys_of (look new) front ≡ drop 1 (keys_of (look old) bs))
left_none old new bs front b e all frees none =
    let sound = subst (Sound old) e all in
    let rest = remains old new front [] (in_chain (look old) b) (λ p. times p (run (look old) b.more (look old b.first).next)) (links_taken old new b frees) (sound_apart old front [] b sound) in (
      record {
        apart = λ p. omega (arith, rest.apart p);
        counted = omega (arith, sound_counted old front [] b sound, frees.counted.0, frees.counted.1);
        chains = rest.front_kept.chains (all_left (IsChain (look old)) front (b ∷ []) sound.chains);
        falls = subst Falls (append-nil front) (falls_without front [] b sound.falls);
      },
      rest.front_kept.keys
          ∙ ap (λ (n : ℕ). map (key_in b) (states (look old) n (look old b.first).next) ++ keys_of (look old) front) (sym none)
          ∙ ap (drop 1) (sym (ap (keys_of (look old)) e ∙ keys_first (look old) front b)),
    )

-- the last bucket holds more keys
left_bucket : (old new : Nodes) (front : List Bucket) (b : Bucket) (m : ℕ) → Sound old (front ++ b ∷ []) → Frees old new b.first → b.more ≡ suc m → Sound new (front ++ record { value = b.value; plain = b.plain; first = (look old b.first).next; last = b.last; more = m } ∷ []) × (keys_of (look new) (front ++ record { value = b.value; plain = b.plain; first = (look old b.first).next; last = b.last; more = m } ∷ []) ≡ drop 1 (keys_of (look old) (front ++ b ∷ [])))
left_bucket old new front b m sound frees more =
    let next : ℕ = (look old b.first).next in
    let c : Bucket = record { value = b.value; plain = b.plain; first = (look old b.first).next; last = b.last; more = m } in
    let apart = sound_apart old front [] b sound in
    let chain = sound_chain old front [] b sound in
    let rest = remains old new front [] (in_chain (look old) b) (λ p. times p (run (look old) b.more (look old b.first).next)) (links_taken old new b frees) apart in
    let kept : (p : ℕ) → 0 < times p (run (look old) (suc m) (look old b.first).next) → look new p ≡ look old p =
    subst (λ (n : ℕ). (p : ℕ) → 0 < times p (run (look old) n (look old b.first).next) → look new p ≡ look old p) more (rest_kept old new b frees (λ p. omega (arith, apart p))) in
    let places : run (look new) (suc m) (look old b.first).next ≡ run (look old) b.more (look old b.first).next =
    run_same (look old) (look new) (suc m) (look old b.first).next kept ∙ ap (λ (n : ℕ). run (look old) n (look old b.first).next) (sym more) in
    let numbers : states (look new) (suc m) (look old b.first).next ≡ states (look old) b.more (look old b.first).next =
    states_same (look old) (look new) (suc m) (look old b.first).next kept ∙ ap (λ (n : ℕ). states (look old) n (look old b.first).next) (sym more) in (
      whole new front [] c
          (λ p. let k : times p (run (look new) (suc m) (look old b.first).next) ≡ times p (run (look old) b.more (look old b.first).next) = ap (times p) places in omega (arith, rest.apart p))
          (omega (arith, sound_counted old front [] b sound, frees.counted.0, frees.counted.1))
          (rest.front_kept.chains (all_left (IsChain (look old)) front (b ∷ []) sound.chains))
          (record {
            last = chain.last ∙ ap (λ (n : ℕ). later (look old) n b.first) more ∙ sym (later_same (look old) (look new) m (look old b.first).next kept);
            rises = subst Rises (sym numbers) chain.rises.1;
          })
          (All-nil (IsChain (look new)))
          (falls_with front [] c (falls_without front [] b sound.falls) (falls_above front [] b sound.falls) (All-nil (λ (d : Bucket). group d.value d.plain < group b.value b.plain))),
      keys_append (look new) front (c ∷ [])
          ∙ ap (λ (xs : List ℕ). map (key_in b) xs ++ keys_of (look new) front) numbers
          ∙ ap (λ (ks : List Key). map (key_in b) (states (look old) b.more (look old b.first).next) ++ ks) rest.front_kept.keys
          ∙ ap (drop 1) (sym (keys_first (look old) front b)),
    )

pub left_more : (old new : Nodes) (bs cs front : List Bucket) (b : Bucket) (next : ℕ) → bs ≡ front ++ b ∷ [] → Sound old bs → Frees old new b.first → next ≡ (look old b.first).next → 0 < b.more → cs ≡ front ++ record { value = b.value; plain = b.plain; first = next; last = b.last; more = b.more - 1 } ∷ [] → Sound new cs × (keys_of (look new) cs ≡ drop 1 (keys_of (look old) bs))
left_more old new bs cs front b next e sound frees follows some is =
    let more : b.more ≡ suc (b.more - 1) = omega arith in
    let left = left_bucket old new front b (b.more - 1) (subst (Sound old) e sound) frees more in
    let form : cs ≡ front ++ record { value = b.value; plain = b.plain; first = (look old b.first).next; last = b.last; more = b.more - 1 } ∷ [] =
    is ∙ ap (λ (n : ℕ). front ++ record { value = b.value; plain = b.plain; first = n; last = b.last; more = b.more - 1 } ∷ []) follows in
    (subst (Sound new) (sym form) left.0, ap (keys_of (look new)) form ∙ left.1 ∙ ap (λ (ds : List Bucket). drop 1 (keys_of (look old) ds)) (sym e))
