-- What is known while the tree of a file grows, and what its growth ends in.
use Rattle.std.proofs.Common.{◌≡◌, ℕ, ◌+◌, ◌-◌, ◌<◌, ◌≤◌, Bool, true, false, List, [], ◌∷◌, ◌++◌, length, map, sym, refl, ap, ◌∙◌, subst, inl, inr, append_assoc, arith}
use Rattle.std.specs.Prelude.{◌≢◌, nat_lt, if◌then◌else◌, Result}
use Rattle.std.specs.List.{All}
use Rattle.std.proofs.lemmas.Bool.Decides.{nat_tests}
use Rattle.std.proofs.lemmas.List.{append-nil}
use Rattle.std.proofs.lemmas.List.Elements.{All-nil, All-cons, All-append}
use Rattle.mf_model.specs.declared.token.Span.{Span}
use Rattle.mf_model.specs.declared.token.Token.{Token}
use Rattle.mf_model.specs.declared.token.Kind.{Kind}
use Rattle.mf_model.specs.declared.token.Kind.TheVariants.{Left, Right, Name, Variable, Keyword, Number, Sign, Plain}
use Rattle.mf_model.specs.declared.tree.Tree.{Tree}
use Rattle.mf_model.specs.Tokens.{text_of, IsTokenAt, AreTokensFrom, IsTokens}
use Rattle.mf_model.specs.Trees.{TreeWord, flat, depth, greatest, words, joined, right_of, lefts, rights, lefts_in, rights_in, open_lists, IsWordOf, IsTreeOf, IsOutside, IsDeep, IsSound, IsUnclosed, UnbalancedAt, TooDeepAt}
use Rattle.mf_lex.specs.declared.growth.Frame.{Frame}
use Rattle.mf_lex.specs.declared.fault.TreeFault.{TreeFault}
use Rattle.mf_lex.specs.declared.fault.TreeFault.TheVariants.{TooDeep}
use Rattle.mf_lex.specs.Growth.{goes, fails, with_item, leaf_of, opened, closed, open_step, close_step, step_by, step_of, alone, after_step, grow, start_by, tree_of}
use Rattle.mf_lex.specs.Answers.{IsTreeAnswer}
use Rattle.mf_lex.proofs.Folds.{flat_leaf, flat_branch, depth_leaf, depth_branch, words_leaf, words_branch}
use Rattle.mf_lex.proofs.Counts.{lefts-append, rights-append, lefts_in_word, rights_in_word, sound_none, sound_more}
use Rattle.mf_lex.proofs.OneByte.{bracket_one}

-- ---- the tokens of the open lists

abbrev pub opening : ℕ → Token
opening start = record { kind = Left; span = record { start = start; end = start + 1 } }

abbrev pub front : Frame → List Token
front f = opening f.start ∷ joined (map flat f.items)

-- the innermost list is the first
abbrev pub behind : List Frame → List Token
behind [] = []
behind (f ∷ fs) = behind fs ++ front f

-- an item in a list with so many open lists, itself among them
pub record Fine (s : List ℕ) (deep : ℕ) (item : Tree) : Type 0 where
  pub words : All (IsWordOf s) (words item)
  pub shallow : depth item + deep ≤ 256
  pub even : lefts (flat item) ≡ rights (flat item)

pub record Well (s : List ℕ) (deep : ℕ) (f : Frame) : Type 0 where
  pub words : All (IsWordOf s) (joined (map words f.items))
  pub shallow : greatest (map depth f.items) + deep ≤ 256
  pub even : lefts (joined (map flat f.items)) ≡ rights (joined (map flat f.items))

abbrev pub AreWell : List ℕ → List Frame → Type 0
AreWell s [] = Unit {0}
AreWell s (f ∷ fs) = Well s (length fs + 1) f × AreWell s fs

pub record Grows (s : List ℕ) (all : List Token) (top : Frame) (below : List Frame) (rest : List Token) : Type 0 where
  pub tokens : (behind below ++ front top) ++ rest ≡ all
  pub well : Well s (length below + 1) top
  pub outer : AreWell s below
  pub sound : IsSound (behind below ++ front top)

-- ---- one item more

pub joined_push : {X : Type 0} (f : Tree → List X) (xs : List Tree) (x : Tree) → joined (map f (xs ++ x ∷ [])) ≡ joined (map f xs) ++ f x
joined_push f [] x = append-nil (f x)
joined_push f (y ∷ xs) x = ap (λ r. f y ++ r) (joined_push f xs x) ∙ sym (append_assoc (f y) (joined (map f xs)) (f x))

greatest_push : (xs : List Tree) (x : Tree) (n : ℕ) → greatest (map depth xs) + n ≤ 256 → depth x + n ≤ 256 → greatest (map depth (xs ++ x ∷ [])) + n ≤ 256
greatest_push [] x n h k = omega arith
greatest_push (y ∷ xs) x n h k = let more = greatest_push xs x n (omega arith) k in omega arith

well_item : (s : List ℕ) (deep : ℕ) (f : Frame) (item : Tree) → Well s deep f → Fine s deep item → Well s deep (with_item item f)
well_item s deep f item well fine = record {
  words = subst (λ (ws : List TreeWord). All (IsWordOf s) ws) (sym (joined_push words f.items item)) (All-append (IsWordOf s) (joined (map words f.items)) (words item) well.words fine.words);
  shallow = greatest_push f.items item deep well.shallow fine.shallow;
  even = ap lefts (joined_push flat f.items item) ∙ lefts-append (joined (map flat f.items)) (flat item) ∙ (λ i. well.even i + fine.even i) ∙ sym (rights-append (joined (map flat f.items)) (flat item)) ∙ sym (ap rights (joined_push flat f.items item));
}

pub front_item : (f : Frame) (item : Tree) → front (with_item item f) ≡ front f ++ flat item
front_item f item = ap (λ (ts : List Token). opening f.start ∷ ts) (joined_push flat f.items item)

-- ---- how many lists are open

front_open : (s : List ℕ) (deep : ℕ) (f : Frame) → Well s deep f → lefts (front f) ≡ rights (front f) + 1
front_open s deep f well = let e = well.even in omega arith

behind_open : (s : List ℕ) (fs : List Frame) → AreWell s fs → lefts (behind fs) ≡ rights (behind fs) + length fs
behind_open s [] h = omega arith
behind_open s (f ∷ fs) h =
    let inner = behind_open s fs h.1 in
    let own = front_open s (length fs + 1) f h.0 in
    let l = lefts-append (behind fs) (front f) in
    let r = rights-append (behind fs) (front f) in
    omega arith

pub all_open : (s : List ℕ) (all : List Token) (top : Frame) (below : List Frame) (rest : List Token) → Grows s all top below rest → open_lists (behind below ++ front top) ≡ length below + 1
all_open s all top below rest grows =
    let outer = behind_open s below grows.outer in
    let own = front_open s (length below + 1) top grows.well in
    let l = lefts-append (behind below) (front top) in
    let r = rights-append (behind below) (front top) in
    omega arith

-- ---- one token more

opening_is : (t : Token) → t.kind ≡ Left → t.span.end ≡ t.span.start + 1 → opening t.span.start ≡ t
opening_is t left one =
    λ i. record { kind = sym left i; span = record { start = t.span.start; end = sym one i } }

closing_is : (start : ℕ) (t : Token) → t.kind ≡ Right → t.span.end ≡ t.span.start + 1 → right_of (record { start = start; end = t.span.end }) ≡ t
closing_is start t right one =
    let first : t.span.end - 1 ≡ t.span.start = omega arith in
    λ i. record { kind = sym right i; span = record { start = first i; end = t.span.end } }

flat_closed : (top : Frame) (t : Token) → t.kind ≡ Right → t.span.end ≡ t.span.start + 1 → flat (closed top t) ≡ front top ++ t ∷ []
flat_closed top t right one =
    flat_branch top.items (record { start = top.start; end = t.span.end }) ∙ ap (λ (u : Token). front top ++ u ∷ []) (closing_is top.start t right one)

fine_closed : (s : List ℕ) (deep : ℕ) (top : Frame) (t : Token) → Well s (deep + 1) top → Fine s deep (closed top t)
fine_closed s deep top t well =
    let span : Span = record { start = top.start; end = t.span.end } in
    let items = joined (map flat top.items) in
    record {
      words = subst (λ (ws : List TreeWord). All (IsWordOf s) ws) (sym (words_branch top.items span)) well.words;
      shallow = let d = depth_branch top.items span in let h = well.shallow in omega arith;
      even = let f = flat_branch top.items span in
          let l = ap lefts f in
          let r = ap rights f in
          let ls = lefts-append items (right_of span ∷ []) in
          let rs = rights-append items (right_of span ∷ []) in
          let e = well.even in
          omega arith;
    }

fine_leaf : (s : List ℕ) (deep : ℕ) (t : Token) → t.kind ≢ Left → t.kind ≢ Right → deep ≤ 256 → Fine s deep (leaf_of s t)
fine_leaf s deep t not_left not_right le = record {
  words = subst (λ (ws : List TreeWord). All (IsWordOf s) ws) (sym (words_leaf t.kind (text_of s t.span) t.span))
      (All-cons (IsWordOf s) (record { kind = t.kind; text = text_of s t.span; span = t.span }) [] (record { not_left = not_left; not_right = not_right; text = refl }) (All-nil (IsWordOf s)));
  shallow = let d = depth_leaf t.kind (text_of s t.span) t.span in omega arith;
  even = let f = flat_leaf t.kind (text_of s t.span) t.span in
      ap lefts f ∙ lefts_in_word t.kind 0 not_left ∙ sym (rights_in_word t.kind 0 not_right) ∙ sym (ap rights f);
}

module _ (s : List ℕ) (all : List Token) where
  inside : (top : Frame) (below : List Frame) (rest : List Token) (t : Token) → Grows s all top below rest → ¬ IsOutside (behind below ++ front top) t
  inside top below rest t grows fault =
      let n = all_open s all top below rest grows in
      let z = fault.none_open in
      absurd (omega arith)

  more : (top : Frame) (below : List Frame) (t : Token) (ts : List Token) → Grows s all top below (t ∷ ts) → ¬ IsDeep (behind below ++ front top) t → (next : Frame) (outer : List Frame) → behind outer ++ front next ≡ (behind below ++ front top) ++ t ∷ [] → Well s (length outer + 1) next → AreWell s outer → Grows s all next outer ts
  more top below t ts grows shallow next outer is well wells =
      let before = behind below ++ front top in
      record {
        tokens = ap (λ (xs : List Token). xs ++ ts) is ∙ append_assoc before (t ∷ []) ts ∙ grows.tokens;
        well = well;
        outer = wells;
        sound = subst IsSound (sym is) (sound_more before t grows.sound (inside top below (t ∷ ts) t grows) shallow);
      }

  grows_open : (top : Frame) (below : List Frame) (t : Token) (ts : List Token) → Grows s all top below (t ∷ ts) → t.kind ≡ Left → t.span.end ≡ t.span.start + 1 → length below < 255 → Grows s all (opened t) (top ∷ below) ts
  grows_open top below t ts grows left one lt =
      more top below t ts grows
      (λ fault. let n = all_open s all top below (t ∷ ts) grows in let d = fault.all_open in absurd (omega arith))
      (opened t) (top ∷ below)
      (ap (λ (u : Token). (behind below ++ front top) ++ u ∷ []) (opening_is t left one))
      (record { words = All-nil (IsWordOf s); shallow = omega arith; even = refl })
      (grows.well, grows.outer)

  grows_close : (top : Frame) (f : Frame) (fs : List Frame) (t : Token) (ts : List Token) → Grows s all top (f ∷ fs) (t ∷ ts) → t.kind ≡ Right → t.span.end ≡ t.span.start + 1 → Grows s all (with_item (closed top t) f) fs ts
  grows_close top f fs t ts grows right one =
      let item = closed top t in
      more top (f ∷ fs) t ts grows
      (λ fault. let l = fault.left in absurd (cc))
      (with_item item f) fs
      (ap (λ (xs : List Token). behind fs ++ xs) (front_item f item ∙ ap (λ (xs : List Token). front f ++ xs) (flat_closed top t right one))
      ∙ sym (append_assoc (behind fs) (front f) (front top ++ t ∷ []))
      ∙ sym (append_assoc (behind fs ++ front f) (front top) (t ∷ [])))
      (well_item s (length fs + 1) f item grows.outer.0 (fine_closed s (length fs + 1) top t (subst (λ (n : ℕ). Well s n top) (omega arith) grows.well)))
      grows.outer.1

  grows_leaf : (top : Frame) (below : List Frame) (t : Token) (ts : List Token) → Grows s all top below (t ∷ ts) → t.kind ≢ Left → t.kind ≢ Right → Grows s all (with_item (leaf_of s t) top) below ts
  grows_leaf top below t ts grows not_left not_right =
      let item = leaf_of s t in
      more top below t ts grows
      (λ fault. not_left fault.left)
      (with_item item top) below
      (ap (λ (xs : List Token). behind below ++ xs) (front_item top item ∙ ap (λ (xs : List Token). front top ++ xs) (flat_leaf t.kind (text_of s t.span) t.span))
      ∙ sym (append_assoc (behind below) (front top) (t ∷ [])))
      (well_item s (length below + 1) top item grows.well (fine_leaf s (length below + 1) t not_left not_right (let h = grows.well.shallow in omega arith)))
      grows.outer

  -- the list is closed

  whole : (top : Frame) (t : Token) → IsTokens s all → Grows s all top [] (t ∷ []) → t.kind ≡ Right → t.span.end ≡ t.span.start + 1 → IsTreeOf s (closed top t)
  whole top t are grows right one =
      let fine = fine_closed s 0 top t grows.well in
      let d = depth_branch top.items (record { start = top.start; end = t.span.end }) in
      record {
        is_list = omega arith;
        shallow = let h = fine.shallow in omega arith;
        words = fine.words;
        tokens = subst (IsTokens s) (sym (flat_closed top t right one ∙ grows.tokens)) are;
      }

  outside : (top : Frame) (t : Token) (u : Token) (us : List Token) → Grows s all top [] (t ∷ u ∷ us) → t.kind ≡ Right → UnbalancedAt s all u.span.start
  outside top t u us grows right =
      let before = front top ++ t ∷ [] in
      let n = all_open s all top [] (t ∷ u ∷ us) grows in
      let shut : IsSound before = sound_more (front top) t grows.sound (inside top [] (t ∷ u ∷ us) t grows) (λ fault. let l = fault.left in absurd (cc)) in
      let l = lefts-append (front top) (t ∷ []) ∙ ap (λ (k : Kind). lefts (front top) + lefts_in k 0) right in
      let r = rights-append (front top) (t ∷ []) ∙ ap (λ (k : Kind). rights (front top) + rights_in k 0) right in
      let own = front_open s 1 top grows.well in
      inl (before, u, us, sym (append_assoc (front top) (t ∷ []) (u ∷ us) ∙ grows.tokens), shut, record { none_open = omega arith; no_start = λ e. absurd (cc) }, refl)

  closes : (top : Frame) (t : Token) (ts : List Token) → IsTokens s all → Grows s all top [] (t ∷ ts) → t.kind ≡ Right → t.span.end ≡ t.span.start + 1 → IsTreeAnswer s all (alone (closed top t) ts)
  closes top t [] are grows right one = whole top t are grows right one
  closes top t (u ∷ us) are grows right one = outside top t u us grows right

  too_deep : (top : Frame) (below : List Frame) (t : Token) (ts : List Token) → Grows s all top below (t ∷ ts) → t.kind ≡ Left → 255 ≤ length below → TooDeepAt all t.span.start
  too_deep top below t ts grows left ge =
      let n = all_open s all top below (t ∷ ts) grows in
      let h = grows.well.shallow in
      (behind below ++ front top, t, ts, sym grows.tokens, grows.sound, record { all_open = omega arith; left = left }, refl)

  unclosed : (top : Frame) (below : List Frame) → Grows s all top below [] → UnbalancedAt s all (length s)
  unclosed top below grows =
      let n = all_open s all top below [] grows in
      let before = behind below ++ front top in
      let is : before ≡ all = sym (append-nil before) ∙ grows.tokens in
      inr (subst IsSound is grows.sound, subst IsUnclosed is (record { open_or_none = inl (omega arith) }), refl)

  -- ---- all tokens

  abbrev Go : Type 0
  Go = Frame → List Frame → Result Tree TreeFault

  opens : (go : Go) (top : Frame) (below : List Frame) (t : Token) (ts : List Token) → Grows s all top below (t ∷ ts) → t.kind ≡ Left → t.span.end ≡ t.span.start + 1 → ((f : Frame) (fs : List Frame) → Grows s all f fs ts → IsTreeAnswer s all (go f fs)) → IsTreeAnswer s all (after_step go ts (open_step top below t))
  opens go top below t ts grows left one ih = by_room (nat_lt (length below) 255) refl
    where
      by_room : (b : Bool) → nat_lt (length below) 255 ≡ b → IsTreeAnswer s all (after_step go ts (if b then goes (opened t) (top ∷ below) else fails (TooDeep t.span.start)))
      by_room true e = ih (opened t) (top ∷ below) (grows_open top below t ts grows left one (grind (arith, nat_tests)))
      by_room false e = too_deep top below t ts grows left (grind (arith, nat_tests))

  shuts : (go : Go) (top : Frame) (below : List Frame) (t : Token) (ts : List Token) → IsTokens s all → Grows s all top below (t ∷ ts) → t.kind ≡ Right → t.span.end ≡ t.span.start + 1 → ((f : Frame) (fs : List Frame) → Grows s all f fs ts → IsTreeAnswer s all (go f fs)) → IsTreeAnswer s all (after_step go ts (close_step top below t))
  shuts go top [] t ts are grows right one ih = closes top t ts are grows right one
  shuts go top (f ∷ fs) t ts are grows right one ih =
      ih (with_item (closed top t) f) fs (grows_close top f fs t ts grows right one)

  goes_on : (go : Go) (k : Kind) (top : Frame) (below : List Frame) (t : Token) (ts : List Token) → IsTokens s all → IsTokenAt s t → Grows s all top below (t ∷ ts) → t.kind ≡ k → ((f : Frame) (fs : List Frame) → Grows s all f fs ts → IsTreeAnswer s all (go f fs)) → IsTreeAnswer s all (after_step go ts (step_by k s top below t))
  goes_on go Left top below t ts are placed grows e ih = opens go top below t ts grows e (bracket_one s t placed (inl e)) ih
  goes_on go Right top below t ts are placed grows e ih = shuts go top below t ts are grows e (bracket_one s t placed (inr e)) ih
  goes_on go Name top below t ts are placed grows e ih = ih _ below (grows_leaf top below t ts grows (λ h. absurd (cc)) (λ h. absurd (cc)))
  goes_on go Variable top below t ts are placed grows e ih = ih _ below (grows_leaf top below t ts grows (λ h. absurd (cc)) (λ h. absurd (cc)))
  goes_on go Keyword top below t ts are placed grows e ih = ih _ below (grows_leaf top below t ts grows (λ h. absurd (cc)) (λ h. absurd (cc)))
  goes_on go Number top below t ts are placed grows e ih = ih _ below (grows_leaf top below t ts grows (λ h. absurd (cc)) (λ h. absurd (cc)))
  goes_on go Sign top below t ts are placed grows e ih = ih _ below (grows_leaf top below t ts grows (λ h. absurd (cc)) (λ h. absurd (cc)))
  goes_on go Plain top below t ts are placed grows e ih = ih _ below (grows_leaf top below t ts grows (λ h. absurd (cc)) (λ h. absurd (cc)))

  grown : IsTokens s all → (rest : List Token) (at : ℕ) (top : Frame) (below : List Frame) → AreTokensFrom s at rest → Grows s all top below rest → IsTreeAnswer s all (grow s (length s) rest top below)
  unfolding step_of
  grown are [] at top below h grows = unclosed top below grows
  grown are (t ∷ ts) at top below h grows =
      goes_on (λ f fs. grow s (length s) ts f fs) t.kind top below t ts are h.2 grows refl
      (λ f fs more_grows. grown are ts t.span.end f fs h.3 more_grows)

-- ---- the first token

starts : (s : List ℕ) (t : Token) (ts : List Token) → t.kind ≡ Left → t.span.end ≡ t.span.start + 1 → Grows s (t ∷ ts) (opened t) [] ts
starts s t ts left one =
    let is = opening_is t left one in
    record {
      tokens = ap (λ (u : Token). u ∷ ts) is;
      well = record { words = All-nil (IsWordOf s); shallow = omega arith; even = refl };
      outer = tt;
      sound = sound_more [] (opening t.span.start) sound_none (λ fault. fault.no_start refl refl) (λ fault. let d = fault.all_open in absurd (omega arith));
    }

no_list : (s : List ℕ) (t : Token) (ts : List Token) → t.kind ≢ Left → UnbalancedAt s (t ∷ ts) t.span.start
no_list s t ts not_left =
    inl ([], t, ts, refl, sound_none, record { none_open = refl; no_start = λ e. not_left }, refl)

starts_by : (k : Kind) (s : List ℕ) (t : Token) (ts : List Token) → IsTokens s (t ∷ ts) → t.kind ≡ k → IsTreeAnswer s (t ∷ ts) (start_by k s (length s) t ts)
starts_by Left s t ts are e = grown s (t ∷ ts) are ts t.span.end (opened t) [] are.3 (starts s t ts e (bracket_one s t are.2 (inl e)))
starts_by Right s t ts are e = no_list s t ts (λ h. absurd (cc))
starts_by Name s t ts are e = no_list s t ts (λ h. absurd (cc))
starts_by Variable s t ts are e = no_list s t ts (λ h. absurd (cc))
starts_by Keyword s t ts are e = no_list s t ts (λ h. absurd (cc))
starts_by Number s t ts are e = no_list s t ts (λ h. absurd (cc))
starts_by Sign s t ts are e = no_list s t ts (λ h. absurd (cc))
starts_by Plain s t ts are e = no_list s t ts (λ h. absurd (cc))

-- the answer is the tree of the file, or its first fault
pub answer : (s : List ℕ) (tokens : List Token) → IsTokens s tokens → IsTreeAnswer s tokens (tree_of s (length s) tokens)
answer s [] are = inr (sound_none, record { open_or_none = inr refl }, refl)
answer s (t ∷ ts) are = starts_by t.kind s t ts are refl
