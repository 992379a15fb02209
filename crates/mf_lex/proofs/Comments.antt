-- What the bytes of a file are once its comments are cleared, as far as it is read.
use Rattle.std.proofs.Common.{◌≡◌, ℕ, zero, suc, ◌+◌, ◌-◌, ◌<◌, ◌≤◌, Bool, true, false, List, ◌∷◌, length, get_or, drop, sym, ap, ◌∙◌, subst, inl, inr, arith}
use Rattle.std.specs.Prelude.{if◌then◌else◌}
use Rattle.std.proofs.lemmas.Bool.{cases_lt}
use Rattle.std.proofs.lemmas.List.{drop_more, drop_all, drop-drop, get_or-drop}
use Rattle.mf_model.specs.Tokens.{in_comment, cleared, without_comments}
use Rattle.mf_lex.proofs.Classes.{comment_ends, line_feed_plain}

-- a comment is open in front of the place, or none
pub record Stands (inside : Bool) (s : List ℕ) (at : ℕ) : Type 0 where
  pub rest : drop at (without_comments s) ≡ cleared inside (drop at s)

get_first : (xs : List ℕ) (at : ℕ) → get_or xs at 0 ≡ get_or (drop at xs) 0 0
get_first xs at = sym (get_or-drop at xs 0 0 ∙ ap (λ i. get_or xs i 0) (omega arith))

-- one byte

pub cleared_byte : (inside : Bool) (s : List ℕ) (at : ℕ) → Stands inside s at → at < length s → get_or (without_comments s) at 0 ≡ (if in_comment inside (get_or s at 0) then 32 else get_or s at 0)
cleared_byte inside s at here lt =
    get_first (without_comments s) at ∙ ap (λ (xs : List ℕ). get_or xs 0 0) (here.rest ∙ ap (cleared inside) (drop_more s at 0 lt))

pub stands_more : (inside : Bool) (s : List ℕ) (at : ℕ) → Stands inside s at → at < length s → Stands (in_comment inside (get_or s at 0)) s (at + 1)
stands_more inside s at here lt = record {
  rest = sym (drop-drop 1 at (without_comments s)) ∙ ap (drop 1) (here.rest ∙ ap (cleared inside) (drop_more s at 0 lt));
}

pub cleared_end : (inside : Bool) (s : List ℕ) (at : ℕ) → Stands inside s at → length s ≤ at → get_or (without_comments s) at 0 ≡ 0
cleared_end inside s at here le =
    get_first (without_comments s) at ∙ ap (λ (xs : List ℕ). get_or xs 0 0) (here.rest ∙ ap (cleared inside) (drop_all at s le))

-- a run of bytes that leave things as they are

pub record Run (inside : Bool) (s : List ℕ) (from to : ℕ) : Type 0 where
  pub same : (i : ℕ) → from ≤ i → i < to → in_comment inside (get_or s i 0) ≡ inside

pub run_stands : (inside : Bool) (s : List ℕ) (from : ℕ) (n : ℕ) → Stands inside s from → from + n ≤ length s → Run inside s from (from + n) → (k : ℕ) → k ≤ n → Stands inside s (from + k)
run_stands inside s from n here within run zero le = subst (Stands inside s) (omega arith) here
run_stands inside s from n here within run (suc k) le =
    let before : Stands inside s (from + k) = run_stands inside s from n here within run k (omega arith) in
    let more = stands_more inside s (from + k) before (omega arith) in
    let same : in_comment inside (get_or s (from + k) 0) ≡ inside = run.same (from + k) (omega arith) (omega arith) in
    subst (λ (b : Bool). Stands b s (from + suc k)) same (subst (λ (i : ℕ). Stands (in_comment inside (get_or s (from + k) 0)) s i) (omega arith) more)

pub run_bytes : (inside : Bool) (s : List ℕ) (from : ℕ) (n : ℕ) → Stands inside s from → from + n ≤ length s → Run inside s from (from + n) → (i : ℕ) → from ≤ i → i < from + n → get_or (without_comments s) i 0 ≡ (if inside then 32 else get_or s i 0)
run_bytes inside s from n here within run i lo hi =
    let there : Stands inside s i = subst (Stands inside s) (omega arith) (run_stands inside s from n here within run (i - from) (omega arith)) in
    cleared_byte inside s i there (omega arith) ∙ ap (λ (b : Bool). if b then 32 else get_or s i 0) (run.same i lo hi)

-- behind a comment: the byte 10, or the end

pub stands_behind : (s : List ℕ) (at : ℕ) → Stands true s at → (at < length s → get_or s at 0 ≡ 10) → Stands false s at
stands_behind s at here end =
    elim (cases_lt at (length s)) [
      | inl lt ↦ (
          let b = get_or s at 0 in
          let open_ends : in_comment true b ≡ false = comment_ends b (end lt) in
          let none_begins : in_comment false b ≡ false = line_feed_plain b (end lt) in
          let split = drop_more s at 0 lt in
          record {
            rest = here.rest ∙ ap (cleared true) split ∙ (λ i. (if open_ends i then 32 else b) ∷ cleared (open_ends i) (drop (at + 1) s)) ∙ sym (λ i. (if none_begins i then 32 else b) ∷ cleared (none_begins i) (drop (at + 1) s)) ∙ sym (ap (cleared false) split);
          })
      | inr le ↦ record {
        rest = here.rest ∙ ap (cleared true) (drop_all at s le) ∙ sym (ap (cleared false) (drop_all at s le));
      }
    ]
