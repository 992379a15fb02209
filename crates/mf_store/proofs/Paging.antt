-- Where a strip lies in the pages, and what one strip more or one page more changes.
use Rattle.std.proofs.Common.{◌≡◌, ◌≢◌, ◌⊎◌, inl, inr, refl, sym, ap, subst, ◌∙◌, ℕ, zero, suc, ◌+◌, ◌*◌, ◌-◌, ◌/◌, ◌%◌, ◌^◌, ◌<◌, ◌≤◌, min, List, [], ◌∷◌, ◌++◌, map, length, get_or, set, take, drop, Vec, arith}
use Rattle.std.specs.List.{range_with_len}
use Rattle.std.proofs.lemmas.List.{get_or-set_same, get_or-set_other, get_or-map, take-append-le, drop-append-le, drop_at, take_all, length-append, length-drop, length-set, map-set}
use Rattle.std.proofs.lemmas.List.FromFn.{length-map-range_with_len, get_or-map-range_with_len, map-range_with_len_more, fill_by_all}
use Rattle.std.proofs.lemmas.Nat.{mul-le}
use Rattle.std.proofs.lemmas.Bool.{cases_eq}
use Rattle.mf_store.specs.Strips.{strip_at, strips_of, IsPaged}

-- the same function below n gives the same list
alike : {X : Type 0} (f g : ℕ → X) (n : ℕ) (d : X) → ((k : ℕ) → k < n → f k ≡ g k) → map f (range_with_len 0 n) ≡ map g (range_with_len 0 n)
alike f g n d same =
    fill_by_all g (map f (range_with_len 0 n)) n d (length-map-range_with_len f 0 n) (λ k h. get_or-map-range_with_len f 0 n k k d h (omega arith) ∙ same k h)

pub length-strips : (w len : ℕ) (pages : List (List ℕ)) → length (strips_of w len pages) ≡ len
unfolding strips_of
length-strips w len pages = length-map-range_with_len (strip_at w pages) 0 len

pub get_or-strips : (w len : ℕ) (pages : List (List ℕ)) (n : ℕ) → n < len → get_or (strips_of w len pages) n [] ≡ strip_at w pages n
unfolding strips_of
get_or-strips w len pages n h = get_or-map-range_with_len (strip_at w pages) 0 len n n [] h (omega arith)

pub strips-none : (w : ℕ) (pages : List (List ℕ)) → strips_of w 0 pages ≡ []
unfolding strips_of
strips-none w pages = refl

-- the words of a page that was read
pub page_of : {Z : Type 0} (pages : List (Vec ℕ Z)) (i : ℕ) (page : Vec ℕ Z) → i < length pages → page ≡ get_or pages i page → get_or (map (λ p. p.items) pages) i [] ≡ page.items
page_of pages i page h e = get_or-map (λ p. p.items) pages i page [] h ∙ ap (λ p. p.items) (sym e)

module _ (w len : ℕ) (pages : List (List ℕ)) (p : IsPaged w len pages) where
  -- a strip lies within its page
  pub ends_within : (n : ℕ) → n < len → n % 1024 * w + w ≤ length (get_or pages (n / 1024) [])
  ends_within n h =
      let e : length (get_or pages (n / 1024) []) ≡ min 1024 (len - 1024 * (n / 1024)) * w = p.filled (n / 1024) in
      let l : (n % 1024 + 1) * w ≤ min 1024 (len - 1024 * (n / 1024)) * w = mul-le (n % 1024 + 1) w (min 1024 (len - 1024 * (n / 1024))) w (omega arith) (omega arith) in
      omega arith

-- one page more, with no words in it
pub get_or-grown : (pages : List (List ℕ)) (k : ℕ) → get_or (pages ++ [] ∷ []) k [] ≡ get_or pages k []
get_or-grown [] zero = refl
get_or-grown [] (suc k) = refl
get_or-grown (p ∷ ps) zero = refl
get_or-grown (p ∷ ps) (suc k) = get_or-grown ps k

pub strips-grown : (w len : ℕ) (pages : List (List ℕ)) → strips_of w len (pages ++ [] ∷ []) ≡ strips_of w len pages
unfolding strips_of
strips-grown w len pages =
    alike (strip_at w (pages ++ [] ∷ [])) (strip_at w pages) len [] (λ n h. ap (λ page. take w (drop (n % 1024 * w) page)) (get_or-grown pages (n / 1024)))

pub IsPaged-grown : (w len : ℕ) (pages : List (List ℕ)) → IsPaged w len pages → 1024 * (length pages + 1) < 2 ^ 64 → IsPaged w len (pages ++ [] ∷ [])
IsPaged-grown w len pages p small =
    let more : length (pages ++ [] ∷ []) ≡ length pages + 1 = length-append pages ([] ∷ []) ∙ omega arith in
    record {
      filled = λ k. ap length (get_or-grown pages k) ∙ p.filled k;
      within = omega arith;
      small = omega arith;
    }

-- one strip more, at the end of the page that is being filled
module _ (w len : ℕ) (pages : List (List ℕ)) (p : IsPaged w len pages) (room : len < 1024 * length pages) (strip : List ℕ) (fits : length strip ≡ w) (k : ℕ) (is : k ≡ len / 1024) where
  pub used_words : length (get_or pages k []) ≡ len % 1024 * w
  used_words = p.filled k ∙ ap (λ n. n * w) (omega arith)

  the_page : get_or (set pages k (get_or pages k [] ++ strip)) k [] ≡ get_or pages k [] ++ strip
  the_page = get_or-set_same pages k _ [] (omega arith)

  earlier : (n : ℕ) → n < len → strip_at w (set pages k (get_or pages k [] ++ strip)) n ≡ strip_at w pages n
  earlier n h = by (cases_eq (n / 1024) k)
    where
      by : (n / 1024 ≡ k) ⊎ (n / 1024 ≢ k) → strip_at w (set pages k (get_or pages k [] ++ strip)) n ≡ strip_at w pages n
      by (inl e) =
          let within : n % 1024 * w + w ≤ length (get_or pages k []) = subst (λ j. n % 1024 * w + w ≤ length (get_or pages j [])) e (ends_within w len pages p n h) in
          let left : w ≤ length (drop (n % 1024 * w) (get_or pages k [])) = omega (arith, length-drop (n % 1024 * w) (get_or pages k [])) in
          ap (λ j. take w (drop (n % 1024 * w) (get_or (set pages k (get_or pages k [] ++ strip)) j []))) e
          ∙ ap (λ page. take w (drop (n % 1024 * w) page)) the_page
          ∙ ap (take w) (drop-append-le (n % 1024 * w) (get_or pages k []) strip (omega arith))
          ∙ take-append-le w (drop (n % 1024 * w) (get_or pages k [])) strip left
          ∙ ap (λ j. take w (drop (n % 1024 * w) (get_or pages j []))) (sym e)
      by (inr other) = ap (λ page. take w (drop (n % 1024 * w) page)) (get_or-set_other pages k (n / 1024) _ [] other)

  newest : strip_at w (set pages k (get_or pages k [] ++ strip)) len ≡ strip
  newest =
      ap (λ j. take w (drop (len % 1024 * w) (get_or (set pages k (get_or pages k [] ++ strip)) j []))) (sym is)
      ∙ ap (λ page. take w (drop (len % 1024 * w) page)) the_page
      ∙ ap (take w) (drop_at (get_or pages k []) strip (len % 1024 * w) used_words)
      ∙ take_all w strip (omega arith)

  pub strips-pushed : strips_of w (len + 1) (set pages k (get_or pages k [] ++ strip)) ≡ strips_of w len pages ++ strip ∷ []
  unfolding strips_of
  strips-pushed =
      map-range_with_len_more (strip_at w (set pages k (get_or pages k [] ++ strip))) 0 len len (omega arith)
      ∙ ap (λ xs. xs ++ strip_at w (set pages k (get_or pages k [] ++ strip)) len ∷ []) (alike (strip_at w (set pages k (get_or pages k [] ++ strip))) (strip_at w pages) len [] earlier)
      ∙ ap (λ x. map (strip_at w pages) (range_with_len 0 len) ++ x ∷ []) newest

  pub IsPaged-pushed : IsPaged w (len + 1) (set pages k (get_or pages k [] ++ strip))
  IsPaged-pushed =
      let same : length (set pages k (get_or pages k [] ++ strip)) ≡ length pages = length-set pages k _ in
      record {
        filled = λ j. by j (cases_eq j k);
        within = omega arith;
        small = omega arith;
      }
    where
      by : (j : ℕ) → (j ≡ k) ⊎ (j ≢ k) → length (get_or (set pages k (get_or pages k [] ++ strip)) j []) ≡ min 1024 (len + 1 - 1024 * j) * w
      by j (inl e) =
          ap (λ i. length (get_or (set pages k (get_or pages k [] ++ strip)) i [])) e ∙ ap length the_page
          ∙ length-append (get_or pages k []) strip
          ∙ (let one : length (get_or pages k []) + length strip ≡ (len % 1024 + 1) * w = (let u = used_words in omega arith) in one)
          ∙ ap (λ n. n * w) (omega arith)
      by j (inr other) =
          ap length (get_or-set_other pages k j _ [] other) ∙ p.filled j ∙ ap (λ n. n * w) (omega arith)

-- the same, of pages that are kept as `Vec`s: the page that is written is put back
pub written_page : {Z : Type 0} (pages : List (Vec ℕ Z)) (k : ℕ) (page next : Vec ℕ Z) (strip : List ℕ) → k < length pages → page ≡ get_or pages k page → next.items ≡ page.items ++ strip
    → map (λ p. p.items) (set pages k next) ≡ set (map (λ p. p.items) pages) k (get_or (map (λ p. p.items) pages) k [] ++ strip)
written_page pages k page next strip h e n =
    map-set (λ p. p.items) pages k next
    ∙ ap (set (map (λ p. p.items) pages) k) (n ∙ ap (λ words. words ++ strip) (sym (page_of pages k page h e)))
