-- When a reader gave all of its bytes.
use Rattle.std.proofs.Common.{◌≡◌, ℕ, ◌+◌, ◌≤◌, Option, Ok, List, [], ◌++◌, arith, Some, None, IfSome, length, take, ap, ◌∙◌, inl, inr}
use Rattle.std.proofs.lemmas.List.{take_all, length-take-le}
use Rattle.std.proofs.lemmas.Bool.{cases_lt}
use Rattle.std.specs.Option.{option_map}
use Rattle.mf_io.specs.declared.folder.Loaded.TheVariants.{Whole}
use Rattle.mf_io.specs.Folder.{Reads}

-- A reader that gave at most one byte more than allowed gave all of its bytes, if it gave no more than allowed.
pub Reads-whole : (held : Option (List ℕ)) (limit most : ℕ) (start bytes : List ℕ) → limit ≡ most + 1 → start ≡ [] → length bytes ≤ most →
    IfSome (option_map (take limit) held) (λ given. bytes ≡ start ++ given) → Reads held most (Ok (Whole bytes))
Reads-whole None limit most start bytes one_more empty fits given = (fits, tt)
Reads-whole (Some all) limit most start bytes one_more empty fits given =
    let front : bytes ≡ take limit all = given ∙ ap (λ xs. xs ++ take limit all) empty in
    let same : length bytes ≡ length (take limit all) = ap length front in (
      fits,
      front ∙ take_all limit all (elim (cases_lt most (length all)) [
        | inl more ↦ let full : length (take limit all) ≡ limit = length-take-le limit all (omega arith) in absurd (omega arith)
        | inr few ↦ omega arith
      ]),
    )
