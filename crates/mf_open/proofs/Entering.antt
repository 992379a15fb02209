-- What a key that is entered leaves.
use Rattle.std.proofs.Common.{◌≡◌, refl, sym, ◌∙◌, ap, subst, ℕ, suc, ◌+◌, ◌<◌, ◌≤◌, Bool, true, false, List, [], ◌∷◌, ◌++◌, map, length, set, get_or, take, drop, arith}
use Rattle.std.specs.List.{All, Contains}
use Rattle.std.proofs.lemmas.List.Elements.{All-tail}
use Rattle.std.proofs.lemmas.List.{set-get_or, set_split, append-nil, take-append-drop}
use Rattle.mf_open.specs.declared.key.Key.{Key}
use Rattle.mf_open.specs.declared.nodes.Node.{Node}
use Rattle.mf_open.specs.declared.nodes.Nodes.{Nodes}
use Rattle.mf_open.specs.declared.bucket.Bucket.{Bucket}
use Rattle.mf_open.specs.Keys.{with_key}
use Rattle.mf_open.specs.Chains.{free_times}
use Rattle.mf_open.specs.Buckets.{group, key_in, keys_of, states_in, in_chain, in_chains, count_of, with_number, Lacks, IsChain, Falls, Sound, TakesIn}
use Rattle.mf_open.proofs.Others.{look, keys_append, chains_append, count_append, all_left, all_right, Remains, remains, whole, sound_apart, sound_counted}
use Rattle.mf_open.proofs.Grouping.{group_of, lacks_number, with_key_between, with_key_map, all_below, all_above, falls_above, falls_below, falls_with, falls_without}

pub same_group : (v w : ℕ) (p q : Bool) → group v p ≡ group w q → (v ≡ w) × (p ≡ q)
unfolding group
same_group v w true true e = (omega arith, refl)
same_group v w true false e = absurd (omega arith)
same_group v w false true e = absurd (omega arith)
same_group v w false false e = (omega arith, refl)

-- a list around one of its items
pub split_at : (bs : List Bucket) (at : ℕ) (b : Bucket) → at < length bs → b ≡ get_or bs at b → bs ≡ take at bs ++ b ∷ drop (suc at) bs
split_at bs at b within read =
    sym (set-get_or bs at b) ∙ set_split bs at (get_or bs at b) within ∙ ap (λ (c : Bucket). take at bs ++ c ∷ drop (suc at) bs) (sym read)

map_alike : (b c : Bucket) (xs : List ℕ) → c.value ≡ b.value → c.plain ≡ b.plain → map (key_in c) xs ≡ map (key_in b) xs
map_alike b c xs v p =
    ap (λ (w : ℕ). map (λ (s : ℕ). record { value = w; plain = c.plain; state = s }) xs) v
    ∙ ap (λ (q : Bool). map (λ (s : ℕ). record { value = b.value; plain = q; state = s }) xs) p

key_alike : (b : Bucket) (k : Key) → b.value ≡ k.value → b.plain ≡ k.plain → key_in b k.state ≡ k
key_alike b k v p =
    ap (λ (w : ℕ). record { value = w; plain = b.plain; state = k.state }) v
    ∙ ap (λ (q : Bool). record { value = k.value; plain = q; state = k.state }) p

group_alike : (v w : ℕ) (p q : Bool) → v ≡ w → p ≡ q → group v p ≡ group w q
group_alike v w p q e f = ap (λ (x : ℕ). group x p) e ∙ ap (group w) f

keys_around : (f : ℕ → Node) (front back : List Bucket) (b : Bucket) → keys_of f (front ++ b ∷ back) ≡ (keys_of f back ++ map (key_in b) (states_in f b)) ++ keys_of f front
keys_around f front back b = keys_append f front (b ∷ back)

-- a bucket took in the number of a key
pub entered_in : (old new : Nodes) (front back : List Bucket) (b c : Bucket) (k : Key) → Sound old (front ++ b ∷ back) → TakesIn old new (in_chain (look old) b) (with_number k.state (states_in (look old) b)) c → c.value ≡ b.value → c.plain ≡ b.plain → c.more ≡ b.more + 1 → b.value ≡ k.value → b.plain ≡ k.plain → Sound new (front ++ c ∷ back) × (keys_of (look new) (front ++ c ∷ back) ≡ with_key k (keys_of (look old) (front ++ b ∷ back)))
entered_in old new front back b c k sound takes cv cp cm bv bp =
    let f = look old in
    let g = look new in
    let rest : Remains old new front back (in_chain (look new) c) = remains old new front back (in_chain (look old) b) (in_chain (look new) c) takes.links (sound_apart old front back b sound) in
    let above = falls_above front back b sound.falls in
    let below = falls_below front back b sound.falls in
    let same : group b.value b.plain ≡ group c.value c.plain = sym (group_alike c.value b.value c.plain b.plain cv cp) in
    let is_key : group b.value b.plain ≡ group_of k = group_alike b.value k.value b.plain k.plain bv bp in
    let falls : Falls (front ++ c ∷ back) = falls_with front back c (falls_without front back b sound.falls)
    (subst (λ (n : ℕ). All (λ (d : Bucket). n < group d.value d.plain) front) same above)
    (subst (λ (n : ℕ). All (λ (d : Bucket). group d.value d.plain < n) back) same below) in
    let counted : new.spare + (count_of front + suc c.more + count_of back) ≡ length new.list.items = omega (arith, takes.counted, sound_counted old front back b sound) in (
      whole new front back c rest.apart counted
          (rest.front_kept.chains (all_left (IsChain (look old)) front (b ∷ back) sound.chains)) takes.chain
          (rest.back_kept.chains (All-tail (IsChain (look old)) b back (all_right (IsChain (look old)) front (b ∷ back) sound.chains))) falls,
      keys_around (look new) front back c
          ∙ ap (λ (ks : List Key). (ks ++ map (key_in c) (states_in (look new) c)) ++ keys_of (look new) front) rest.back_kept.keys
          ∙ ap (λ (ks : List Key). (keys_of (look old) back ++ map (key_in c) (states_in (look new) c)) ++ ks) rest.front_kept.keys
          ∙ ap (λ (xs : List ℕ). (keys_of (look old) back ++ map (key_in c) xs) ++ keys_of (look old) front) takes.numbers_are
          ∙ ap (λ (ks : List Key). (keys_of (look old) back ++ ks) ++ keys_of (look old) front) (map_alike b c (with_number k.state (states_in (look old) b)) cv cp ∙ sym (with_key_map b k.state (states_in (look old) b)))
          ∙ ap (λ (j : Key). (keys_of (look old) back ++ with_key j (map (key_in b) (states_in (look old) b))) ++ keys_of (look old) front) (key_alike b k bv bp)
          ∙ sym (with_key_between k (keys_of (look old) back) (map (key_in b) (states_in (look old) b)) (keys_of (look old) front)
          (all_below k (look old) back (subst (λ (n : ℕ). All (λ (d : Bucket). group d.value d.plain < n) back) is_key below))
          (all_above k (look old) front (subst (λ (n : ℕ). All (λ (d : Bucket). n < group d.value d.plain) front) is_key above)))
          ∙ ap (with_key k) (sym (keys_around (look old) front back b)),
    )

-- a new bucket holds a key alone
pub entered_new : (old new : Nodes) (front back : List Bucket) (c : Bucket) (k : Key) → Sound old (front ++ back) → TakesIn old new (λ _. 0) (k.state ∷ []) c → c.value ≡ k.value → c.plain ≡ k.plain → c.more ≡ 0 → All (λ b. group k.value k.plain < group b.value b.plain) front → All (λ b. group b.value b.plain < group k.value k.plain) back → Sound new (front ++ c ∷ back) × (keys_of (look new) (front ++ c ∷ back) ≡ with_key k (keys_of (look old) (front ++ back)))
entered_new old new front back c k sound takes cv cp cm above below =
    let apart : (p : ℕ) → in_chains (look old) front p + 0 + in_chains (look old) back p + free_times old p ≤ 1 = λ p. let e = chains_append (look old) front back p in omega (arith, sound.apart p) in
    let rest : Remains old new front back (in_chain (look new) c) = remains old new front back (λ _. 0) (in_chain (look new) c) takes.links apart in
    let same : group_of k ≡ group c.value c.plain = sym (group_alike c.value k.value c.plain k.plain cv cp) in
    let falls : Falls (front ++ c ∷ back) = falls_with front back c sound.falls
    (subst (λ (n : ℕ). All (λ (d : Bucket). n < group d.value d.plain) front) same above)
    (subst (λ (n : ℕ). All (λ (d : Bucket). group d.value d.plain < n) back) same below) in
    let counted : new.spare + (count_of front + suc c.more + count_of back) ≡ length new.list.items = let e = count_append front back in omega (arith, takes.counted, sound.counted) in (
      whole new front back c rest.apart counted
          (rest.front_kept.chains (all_left (IsChain (look old)) front back sound.chains)) takes.chain
          (rest.back_kept.chains (all_right (IsChain (look old)) front back sound.chains)) falls,
      keys_around (look new) front back c
          ∙ ap (λ (ks : List Key). (ks ++ map (key_in c) (states_in (look new) c)) ++ keys_of (look new) front) rest.back_kept.keys
          ∙ ap (λ (ks : List Key). (keys_of (look old) back ++ map (key_in c) (states_in (look new) c)) ++ ks) rest.front_kept.keys
          ∙ ap (λ (xs : List ℕ). (keys_of (look old) back ++ map (key_in c) xs) ++ keys_of (look old) front) takes.numbers_are
          ∙ ap (λ (j : Key). (keys_of (look old) back ++ j ∷ []) ++ keys_of (look old) front) (key_alike c k cv cp)
          ∙ sym (with_key_between k (keys_of (look old) back) [] (keys_of (look old) front) (all_below k (look old) back below) (all_above k (look old) front above))
          ∙ ap (λ (ks : List Key). with_key k (ks ++ keys_of (look old) front)) (append-nil (keys_of (look old) back))
          ∙ ap (with_key k) (sym (keys_append (look old) front back)),
    )

-- the bucket of a key, as it was found at a place
pub record InBucket (nodes : Nodes) (bs : List Bucket) (at : ℕ) (b : Bucket) (k : Key) : Type 0 where
  pub within : at < length bs
  pub split : bs ≡ take at bs ++ b ∷ drop (suc at) bs
  pub value : b.value ≡ k.value
  pub plain : b.plain ≡ k.plain
  pub apart : (p : ℕ) → in_chain (look nodes) b p + free_times nodes p ≤ 1
  pub counted : b.more < length nodes.list.items
  pub lacks : Lacks k.state (states_in (look nodes) b)

pub in_bucket : (nodes : Nodes) (seen bs : List Bucket) (at : ℕ) (b : Bucket) (k : Key) → seen ≡ bs → Sound nodes bs → at < length seen → ((d : Bucket) → group (get_or seen at d).value (get_or seen at d).plain ≡ group k.value k.plain) → b ≡ get_or bs at b → (Contains (keys_of (look nodes) bs) k → ⊥) → InBucket nodes bs at b k
in_bucket nodes seen bs at b k e sound held same read is_new =
    let within : at < length bs = subst (λ (cs : List Bucket). at < length cs) e held in
    let split = split_at bs at b within read in
    let whole = subst (Sound nodes) split sound in
    let alike : group b.value b.plain ≡ group k.value k.plain = ap (λ (c : Bucket). group c.value c.plain) (read ∙ ap (λ (cs : List Bucket). get_or cs at b) (sym e)) ∙ same b in
    let fields = same_group b.value k.value b.plain k.plain alike in
    record {
      within = within;
      split = split;
      value = fields.0;
      plain = fields.1;
      apart = λ p. omega (arith, sound_apart nodes (take at bs) (drop (suc at) bs) b whole p);
      counted = omega (arith, sound_counted nodes (take at bs) (drop (suc at) bs) b whole);
      lacks = lacks_number (look nodes) (take at bs) (drop (suc at) bs) b k.state
          (λ h. is_new (subst (λ (cs : List Bucket). Contains (keys_of (look nodes) cs) k) (sym split)
          (subst (Contains (keys_of (look nodes) (take at bs ++ b ∷ drop (suc at) bs))) (key_alike b k fields.0 fields.1) h)));
    }

-- the buckets after one of them took in the number of a key
pub written_in : (old new : Nodes) (bs : List Bucket) (at : ℕ) (b c : Bucket) (k : Key) → Sound old bs → InBucket old bs at b k → TakesIn old new (in_chain (look old) b) (with_number k.state (states_in (look old) b)) c → c.value ≡ b.value → c.plain ≡ b.plain → c.more ≡ b.more + 1 → Sound new (set bs at c) × (keys_of (look new) (set bs at c) ≡ with_key k (keys_of (look old) bs))
written_in old new bs at b c k sound found takes cv cp cm =
    let both = entered_in old new (take at bs) (drop (suc at) bs) b c k (subst (Sound old) found.split sound) takes cv cp cm found.value found.plain in (
      subst (Sound new) (sym (set_split bs at c found.within)) both.0,
      ap (keys_of (look new)) (set_split bs at c found.within) ∙ both.1 ∙ ap (λ (cs : List Bucket). with_key k (keys_of (look old) cs)) (sym found.split),
    )

-- the buckets with a new one
pub written_new : (old new : Nodes) (seen bs cs : List Bucket) (at : ℕ) (c : Bucket) (k : Key) → seen ≡ bs → Sound old bs → cs ≡ take at bs ++ c ∷ drop at bs → TakesIn old new (λ _. 0) (k.state ∷ []) c → c.value ≡ k.value → c.plain ≡ k.plain → c.more ≡ 0 → All (λ b. group k.value k.plain < group b.value b.plain) (take at seen) → All (λ b. group b.value b.plain < group k.value k.plain) (drop at seen) → Sound new cs × (keys_of (look new) cs ≡ with_key k (keys_of (look old) bs))
written_new old new seen bs cs at c k e sound is takes cv cp cm above below =
    let both = entered_new old new (take at bs) (drop at bs) c k (subst (Sound old) (sym (take-append-drop at bs)) sound) takes cv cp cm
    (subst (λ (ds : List Bucket). All (λ b. group k.value k.plain < group b.value b.plain) (take at ds)) e above)
    (subst (λ (ds : List Bucket). All (λ b. group b.value b.plain < group k.value k.plain) (drop at ds)) e below) in (
      subst (Sound new) (sym is) both.0,
      ap (keys_of (look new)) is ∙ both.1 ∙ ap (λ (ds : List Bucket). with_key k (keys_of (look old) ds)) (take-append-drop at bs),
    )
