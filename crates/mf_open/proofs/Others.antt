-- Lists of buckets: joined, and those whose nodes did not change.
use Rattle.std.proofs.Common.{◌≡◌, refl, sym, ◌∙◌, ap, subst, ℕ, zero, suc, ◌+◌, ◌<◌, ◌≤◌, List, [], ◌∷◌, ◌++◌, map, length, append_assoc, arith}
use Rattle.std.specs.List.{All}
use Rattle.std.proofs.lemmas.List.{append-nil}
use Rattle.std.proofs.lemmas.List.Elements.{All-nil, All-head, All-tail, All-cons, All-append}
use Rattle.mf_open.specs.declared.key.Key.{Key}
use Rattle.mf_open.specs.declared.nodes.Node.{Node}
use Rattle.mf_open.specs.declared.nodes.Nodes.{Nodes}
use Rattle.mf_open.specs.declared.bucket.Bucket.{Bucket}
use Rattle.mf_open.specs.Chains.{node_at, run, times, past, free_times}
use Rattle.mf_open.specs.Buckets.{key_in, keys_of, states_in, in_chain, in_chains, count_of, Rises, IsChain, Falls, Sound, Relinks}
use Rattle.mf_open.proofs.Places.{past_most, run_same, states_same, later_same}

pub keys_append : (f : ℕ → Node) (xs ys : List Bucket) → keys_of f (xs ++ ys) ≡ keys_of f ys ++ keys_of f xs
keys_append f [] ys = sym (append-nil (keys_of f ys))
keys_append f (b ∷ bs) ys =
    ap (λ (ks : List Key). ks ++ map (key_in b) (states_in f b)) (keys_append f bs ys)
    ∙ append_assoc (keys_of f ys) (keys_of f bs) (map (key_in b) (states_in f b))

pub chains_append : (f : ℕ → Node) (xs ys : List Bucket) (p : ℕ) → in_chains f (xs ++ ys) p ≡ in_chains f xs p + in_chains f ys p
chains_append f [] ys p = omega arith
chains_append f (b ∷ bs) ys p = let k = chains_append f bs ys p in omega arith

pub count_append : (xs ys : List Bucket) → count_of (xs ++ ys) ≡ count_of xs + count_of ys
count_append [] ys = omega arith
count_append (b ∷ bs) ys = let k = count_append bs ys in omega arith

pub all_left : {X : Type 0} (P : X → Type 0) (xs ys : List X) → All P (xs ++ ys) → All P xs
all_left P [] ys h = All-nil P
all_left P (x ∷ xs) ys h = All-cons P x xs (All-head P x (xs ++ ys) h) (all_left P xs ys (All-tail P x (xs ++ ys) h))

pub all_right : {X : Type 0} (P : X → Type 0) (xs ys : List X) → All P (xs ++ ys) → All P ys
all_right P [] ys h = h
all_right P (x ∷ xs) ys h = all_right P xs ys (All-tail P x (xs ++ ys) h)

-- buckets none of whose nodes changed
pub record Unchanged (f g : ℕ → Node) (bs : List Bucket) : Type 0 where
  pub keys : keys_of g bs ≡ keys_of f bs
  pub places : (p : ℕ) → in_chains g bs p ≡ in_chains f bs p
  pub chains : All (IsChain f) bs → All (IsChain g) bs

chain_same : (f g : ℕ → Node) (b : Bucket) → ((p : ℕ) → 0 < in_chain f b p → g p ≡ f p) → IsChain f b → IsChain g b
chain_same f g b h chain = record {
  last = chain.last ∙ sym (later_same f g b.more b.first h);
  rises = subst Rises (sym (states_same f g (suc b.more) b.first h)) chain.rises;
}

pub unchanged : (f g : ℕ → Node) (bs : List Bucket) → ((p : ℕ) → 0 < in_chains f bs p → g p ≡ f p) → Unchanged f g bs
unchanged f g [] h = record { keys = refl; places = λ p. refl; chains = λ all. All-nil (IsChain g) }
unchanged f g (b ∷ bs) h =
    let mine : (p : ℕ) → 0 < in_chain f b p → g p ≡ f p = λ p k. h p (omega arith) in
    let rest = unchanged f g bs (λ p k. h p (omega arith)) in
    let numbers : states_in g b ≡ states_in f b = states_same f g (suc b.more) b.first mine in
    let places : run g (suc b.more) b.first ≡ run f (suc b.more) b.first = run_same f g (suc b.more) b.first mine in
    record {
      keys = ap (λ (ks : List Key). ks ++ map (key_in b) (states_in g b)) rest.keys ∙ ap (λ (xs : List ℕ). keys_of f bs ++ map (key_in b) xs) numbers;
      places = λ p. let k : times p (run g (suc b.more) b.first) ≡ times p (run f (suc b.more) b.first) = ap (times p) places in omega (arith, rest.places p);
      chains = λ all. All-cons (IsChain g) b bs (chain_same f g b mine (All-head (IsChain f) b bs all)) (rest.chains (All-tail (IsChain f) b bs all));
    }

abbrev pub look : Nodes → ℕ → Node
look nodes = node_at nodes.list.items

-- what is left of other buckets, where the nodes of one chain and free ones were linked anew
pub record Remains (old new : Nodes) (front back : List Bucket) (after : ℕ → ℕ) : Type 0 where
  pub front_kept : Unchanged (look old) (look new) front
  pub back_kept : Unchanged (look old) (look new) back
  pub apart : (p : ℕ) → in_chains (look new) front p + after p + in_chains (look new) back p + free_times new p ≤ 1

pub remains : (old new : Nodes) (front back : List Bucket) (before after : ℕ → ℕ) → Relinks old new before after → ((p : ℕ) → in_chains (look old) front p + before p + in_chains (look old) back p + free_times old p ≤ 1) → Remains old new front back after
remains old new front back before after links apart =
    let front_kept = unchanged (look old) (look new) front (λ p h. links.elsewhere p (omega (arith, apart p))) in
    let back_kept = unchanged (look old) (look new) back (λ p h. links.elsewhere p (omega (arith, apart p))) in
    record {
      front_kept = front_kept;
      back_kept = back_kept;
      apart = λ p. omega (arith, front_kept.places p, back_kept.places p, links.moved p, apart p);
    }

-- the whole of an open list, from its parts
pub whole : (nodes : Nodes) (front back : List Bucket) (b : Bucket) → ((p : ℕ) → in_chains (look nodes) front p + in_chain (look nodes) b p + in_chains (look nodes) back p + free_times nodes p ≤ 1) → nodes.spare + (count_of front + suc b.more + count_of back) ≡ length nodes.list.items → All (IsChain (look nodes)) front → IsChain (look nodes) b → All (IsChain (look nodes)) back → Falls (front ++ b ∷ back) → Sound nodes (front ++ b ∷ back)
whole nodes front back b apart counted front_chains chain back_chains falls = record {
  apart = λ p. let k = chains_append (look nodes) front (b ∷ back) p in omega (arith, apart p);
  counted = let k = count_append front (b ∷ back) in omega arith;
  chains = All-append (IsChain (look nodes)) front (b ∷ back) front_chains (All-cons (IsChain (look nodes)) b back chain back_chains);
  falls = falls;
}

pub sound_apart : (nodes : Nodes) (front back : List Bucket) (b : Bucket) → Sound nodes (front ++ b ∷ back) → (p : ℕ) → in_chains (look nodes) front p + in_chain (look nodes) b p + in_chains (look nodes) back p + free_times nodes p ≤ 1
sound_apart nodes front back b sound p = let k = chains_append (look nodes) front (b ∷ back) p in omega (arith, sound.apart p)

pub sound_counted : (nodes : Nodes) (front back : List Bucket) (b : Bucket) → Sound nodes (front ++ b ∷ back) → nodes.spare + (count_of front + suc b.more + count_of back) ≡ length nodes.list.items
sound_counted nodes front back b sound = let k = count_append front (b ∷ back) in omega (arith, sound.counted)

pub sound_chain : (nodes : Nodes) (front back : List Bucket) (b : Bucket) → Sound nodes (front ++ b ∷ back) → IsChain (look nodes) b
sound_chain nodes front back b sound = All-head (IsChain (look nodes)) b back (all_right (IsChain (look nodes)) front (b ∷ back) sound.chains)

-- an open list with nothing in it
free_none : (f : ℕ → Node) (free spare len p : ℕ) → spare ≡ 0 → times p (run f spare free) + past len p ≤ 1
free_none f free zero len p e = omega (arith, past_most len p)
free_none f free (suc k) len p e = absurd (omega arith)

pub sound_empty : (nodes : Nodes) (bs : List Bucket) → bs ≡ [] → nodes.list.items ≡ [] → nodes.spare ≡ 0 → Sound nodes bs
sound_empty nodes bs none blank spare =
    subst (Sound nodes) (sym none)
    (record {
      apart = λ p. omega (arith, free_none (look nodes) nodes.free nodes.spare (length nodes.list.items) p spare);
      counted = let n : length nodes.list.items ≡ 0 = ap length blank in omega arith;
      chains = All-nil (IsChain (look nodes));
      falls = tt;
    })
