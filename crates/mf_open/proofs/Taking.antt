-- Buckets that take in one more state.
use Rattle.std.proofs.Common.{◌≡◌, ◌≢◌, refl, sym, ◌∙◌, ap, subst, ℕ, suc, ◌+◌, ◌<◌, ◌≤◌, inl, inr, Bool, [], ◌∷◌, arith}
use Rattle.std.proofs.lemmas.Bool.{lt-ltb, cases_eq}
use Rattle.mf_open.specs.declared.nodes.Node.{Node}
use Rattle.mf_open.specs.declared.nodes.Nodes.{Nodes}
use Rattle.mf_open.specs.declared.bucket.Bucket.{Bucket}
use Rattle.mf_open.specs.Chains.{node_at, run, states, once, times, free_times, Puts, Sets, IsSpot}
use Rattle.mf_open.specs.Buckets.{in_chain, states_in, Rises, Lacks, with_number, IsChain, TakesIn}
use Rattle.mf_open.proofs.Places.{once_self, once_same}
use Rattle.mf_open.proofs.Spots.{Inserts, Longer, spot_in_run, run_front, states_front, later_front, longer, rises_with}

abbrev look : Nodes → ℕ → Node
look nodes = node_at nodes.list.items

-- where a node was put, it was free
was_free : (old new : Nodes) (node : Node) (at : ℕ) → Puts old new node at → 0 < free_times old at
was_free old new node at puts = let o = once_self at in omega (arith, puts.taken at)

apart_from : (old new : Nodes) (node : Node) (at p : ℕ) → Puts old new node at → free_times old p ≡ 0 → p ≢ at
apart_from old new node at p puts h e =
    let o = once_same p at e in omega (arith, puts.taken p)

pub takes_one : (old new : Nodes) (value : ℕ) (plain : Bool) (s next at : ℕ) → Puts old new (record { state = s; next = next }) at → TakesIn old new (λ _. 0) (s ∷ []) (record { value = value; plain = plain; first = at; last = at; more = 0 })
takes_one old new value plain s next at puts = record {
  links = record {
    moved = λ p. omega (arith, puts.taken p);
    elsewhere = λ p h. puts.elsewhere p (apart_from old new _ at p puts (omega arith));
  };
  chain = record { last = refl; rises = (tt, tt) };
  numbers_are = ap (λ (x : Node). x.state ∷ []) puts.here;
  counted = puts.counted;
  room = puts.room;
}

takes_first : (old new : Nodes) (b : Bucket) (s at : ℕ) → Puts old new (record { state = s; next = b.first }) at → ((p : ℕ) → in_chain (look old) b p + free_times old p ≤ 1) → IsChain (look old) b → s < (look old b.first).state → TakesIn old new (in_chain (look old) b) (with_number s (states_in (look old) b)) (record { value = b.value; plain = b.plain; first = at; last = b.last; more = suc b.more })
takes_first old new b s at puts apart chain below =
    let free = was_free old new (record { state = s; next = b.first }) at puts in
    let fresh : times at (run (look old) (suc b.more) b.first) ≡ 0 = omega (arith, apart at) in
    let links : (look new at).next ≡ b.first = ap (λ (x : Node). x.next) puts.here in
    let holds : (look new at).state ≡ s = ap (λ (x : Node). x.state) puts.here in
    let places = run_front (look old) (look new) b.more b.first at links puts.elsewhere fresh in
    let numbers : states (look new) (suc (suc b.more)) at ≡ s ∷ states (look old) (suc b.more) b.first = states_front (look old) (look new) b.more b.first at links puts.elsewhere fresh ∙ ap (λ (x : ℕ). x ∷ states (look old) (suc b.more) b.first) holds in
    record {
      links = record {
        moved = λ p. let k : times p (run (look new) (suc (suc b.more)) at) ≡ once p at + times p (run (look old) (suc b.more) b.first) = ap (times p) places in omega (arith, puts.taken p);
        elsewhere = λ p h. puts.elsewhere p (apart_from old new _ at p puts (omega arith));
      };
      chain = record {
        last = chain.last ∙ sym (later_front (look old) (look new) b.more b.first at links puts.elsewhere fresh);
        rises = subst Rises (sym numbers) (below, chain.rises);
      };
      numbers_are = numbers ∙ (rw (lt-ltb s (look old b.first).state below));
      counted = puts.counted;
      room = puts.room;
    }

pub takes_front : (old new : Nodes) (b : Bucket) (s at : ℕ) → Puts old new (record { state = s; next = b.first }) at → ((p : ℕ) → in_chain (look old) b p + free_times old p ≤ 1) → IsChain (look old) b → s < (look old b.first).state → TakesIn old new (in_chain (look old) b) (with_number s (states_in (look old) b)) (record { value = b.value; plain = b.plain; first = at; last = b.last; more = b.more + 1 })
takes_front old new b s at puts apart chain below =
    let one : suc b.more ≡ b.more + 1 = omega arith in
    subst (λ (m : ℕ). TakesIn old new (in_chain (look old) b) (with_number s (states_in (look old) b)) (record { value = b.value; plain = b.plain; first = at; last = b.last; more = m })) one
    (takes_first old new b s at puts apart chain below)

takes_at : (old mid new : Nodes) (b : Bucket) (s before at last : ℕ) → Puts old mid (record { state = s; next = (look old before).next }) at → Sets mid new (record { state = (look mid before).state; next = at }) before → ((p : ℕ) → in_chain (look old) b p + free_times old p ≤ 1) → IsChain (look old) b → Lacks s (states_in (look old) b) → IsSpot (look old) b.more b.first s before → (before ≡ b.last → last ≡ at) → (before ≢ b.last → last ≡ b.last) → TakesIn old new (in_chain (look old) b) (with_number s (states_in (look old) b)) (record { value = b.value; plain = b.plain; first = b.first; last = last; more = suc b.more })
takes_at old mid new b s before at last puts sets apart chain lacks spot at_last at_other =
    let f = look old in
    let g = look new in
    let free = was_free old mid (record { state = s; next = (look old before).next }) at puts in
    let held = spot_in_run (look old) b.more b.first s before spot in
    let unfree : free_times old before ≡ 0 = omega (arith, apart before) in
    let other : before ≢ at = apart_from old mid (record { state = s; next = (look old before).next }) at before puts unfree in
    let back : at ≢ before = λ e. other (sym e) in
    let fresh : times at (run (look old) (suc b.more) b.first) ≡ 0 = omega (arith, apart at) in
    let ins : Inserts (look old) (look new) s before at = record {
      made = sets.elsewhere at back ∙ puts.here;
      linked = sets.here ∙ ap (λ (x : Node). record { state = x.state; next = at }) (puts.elsewhere before other);
      elsewhere = λ q h k. sets.elsewhere q k ∙ puts.elsewhere q h;
    } in
    let more : Longer (look old) (look new) b.more b.first s before at = longer (look old) (look new) b.more b.first s before at ins fresh (λ q. omega (arith, apart q)) spot in
    record {
      links = record {
        moved = λ p. omega (arith, more.places p, sets.kept p, puts.taken p);
        elsewhere = λ p h. ins.elsewhere p (apart_from old mid _ at p puts (omega arith)) (λ e. let k : times p (run (look old) (suc b.more) b.first) ≡ times before (run (look old) (suc b.more) b.first) = ap (λ (x : ℕ). times x (run (look old) (suc b.more) b.first)) e in absurd (omega arith));
      };
      chain = record {
        last = elim (cases_eq before b.last) [
          | inl same ↦ at_last same ∙ sym (more.at_last (same ∙ chain.last))
          | inr apart ↦ at_other apart ∙ chain.last ∙ sym (more.at_other (λ e. apart (e ∙ sym chain.last)))
        ];
        rises = subst Rises (sym more.numbers) (rises_with s (states_in (look old) b) chain.rises lacks);
      };
      numbers_are = more.numbers;
      counted = let k = puts.counted in omega (arith, sets.counted.0, sets.counted.1);
      room = let k = puts.room in omega (arith, sets.room);
    }

pub takes_after : (old mid new : Nodes) (b : Bucket) (s before at last : ℕ) → Puts old mid (record { state = s; next = (look old before).next }) at → Sets mid new (record { state = (look mid before).state; next = at }) before → ((p : ℕ) → in_chain (look old) b p + free_times old p ≤ 1) → IsChain (look old) b → Lacks s (states_in (look old) b) → IsSpot (look old) b.more b.first s before → (before ≡ b.last → last ≡ at) → (before ≢ b.last → last ≡ b.last) → TakesIn old new (in_chain (look old) b) (with_number s (states_in (look old) b)) (record { value = b.value; plain = b.plain; first = b.first; last = last; more = b.more + 1 })
takes_after old mid new b s before at last puts sets apart chain lacks spot at_last at_other =
    let one : suc b.more ≡ b.more + 1 = omega arith in
    subst (λ (m : ℕ). TakesIn old new (in_chain (look old) b) (with_number s (states_in (look old) b)) (record { value = b.value; plain = b.plain; first = b.first; last = last; more = m })) one
    (takes_at old mid new b s before at last puts sets apart chain lacks spot at_last at_other)
