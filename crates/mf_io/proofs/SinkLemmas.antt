-- How puts that follow each other go together.
use Rattle.std.proofs.Common.{ℕ, ◌+◌, ◌-◌, ◌≤◌, Option, Some, None, List, ◌++◌, length, take, drop, ap, refl, arith}
use Rattle.std.proofs.lemmas.List.{append_assoc, take_rest, length-drop}
use Rattle.std.proofs.Math.Seq.{take-add, take-length}
use Rattle.mf_io.specs.Sink.{Appends, AppendsFront}

-- bytes put one after the other are put as one
pub Appends-join : (xs ys : List ℕ) (first second third : Option (List ℕ)) →
    Appends xs first second → Appends ys second third → Appends (xs ++ ys) first third
Appends-join xs ys None second third x y = rw y (rw x refl)
Appends-join xs ys (Some bytes) second third x y = rw y (rw x (ap (λ all. Some all) (append_assoc bytes xs ys)))

-- the front of the bytes up to `at`, and then n of the rest, is the front of n more
pub Appends-more : (bytes : List ℕ) (at n : ℕ) (first second third : Option (List ℕ)) →
    Appends (take at bytes) first second → Appends (take n (take (length bytes - at) (drop at bytes))) second third →
    Appends (take (at + n) bytes) first third
Appends-more bytes at n first second third x y =
    rw (take-add at n bytes) (Appends-join (take at bytes) (take n (drop at bytes)) first second third x
    (rw (take_rest bytes at) at y))

-- n of the rest lie within the bytes
pub within_rest : (bytes : List ℕ) (at n : ℕ) → at ≤ length bytes → n ≤ length (take (length bytes - at) (drop at bytes)) →
    at + n ≤ length bytes
within_rest bytes at n inside below =
    let left : n ≤ length bytes - at = rw (take_rest bytes at, length-drop at bytes) at below in omega arith

-- all bytes are a front part of themselves
pub AppendsFront-all : (bytes : List ℕ) (before after : Option (List ℕ)) → Appends bytes before after → AppendsFront bytes before after
AppendsFront-all bytes before after all =
    (length bytes, omega arith, rw (take-length bytes) all)

-- a step of putting all bytes
pub ruleset putting = (Appends-more, within_rest)
