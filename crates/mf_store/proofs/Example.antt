-- The definitions, computed on small rows.
use Rattle.std.specs.Prelude.{◌≡◌, refl, ◌+◌, ◌^◌, true, false, pos, negsuc, [], ◌∷◌, Some, None}
use Rattle.mf_fraction.specs.Exact.{Number, whole}
use Rattle.mf_store.specs.Packed.{value_of}
use Rattle.mf_store.specs.Rows.{bit_in}
use Rattle.mf_store.specs.SameRows.{same_rows}

-- bit 100 is bit 36 of the second word
set : bit_in (0 ∷ 2 ^ 36 ∷ []) 100 ≡ true
set = refl

unset : bit_in (0 ∷ 2 ^ 36 ∷ []) 36 ≡ false
unset = refl

past : bit_in (0 ∷ 2 ^ 36 ∷ []) 128 ≡ false
past = refl

half : Number
half = record { num = pos 1; den = 2 }

seven : value_of [] 7 ≡ Some (whole (pos 7))
unfolding value_of
seven = refl

minus_seven : value_of [] (2 ^ 63 + 7) ≡ Some (whole (negsuc 6))
unfolding value_of
minus_seven = refl

undefined : value_of [] (2 ^ 63) ≡ None
unfolding value_of
undefined = refl

second : value_of (whole (pos 1) ∷ half ∷ []) (2 ^ 63 + 2 ^ 62 + 2) ≡ Some half
unfolding value_of half
second = refl

-- rows differ in one value
other : same_rows (record { bits = 1 ∷ []; values = Some half ∷ [] }) (record { bits = 1 ∷ []; values = None ∷ [] }) ≡ false
other = refl
