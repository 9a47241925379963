-- A text in which each occurrence of another text is replaced, from the left, and what was replaced
-- is looked at no more.
use Rattle.std.specs.Prelude.{ℕ, ◌+◌, zero, suc, Bool, false, nat_eq, if◌then◌else◌, List, [], ◌∷◌}
use Rattle.std.specs.Prelude.{◌++◌, length, take, drop, Option, Some, None, option_map}
use Rattle.std.specs.List.{starts_with}

-- whether p stands at the front of a text; an empty text stands nowhere
abbrev pub stands : List ℕ → List ℕ → Bool
stands [] s = false
stands (b ∷ p) s = starts_with nat_eq s (b ∷ p)

-- behind how many characters of a text p stands first
abbrev pub first_at : List ℕ → List ℕ → Option ℕ
first_at p [] = None
first_at p (c ∷ s) = if stands p (c ∷ s) then Some 0 else option_map (λ i. i + 1) (first_at p s)

-- What stands before the first occurrence of p, then r, then what is behind it, replaced likewise;
-- so many times at most.
abbrev pub replaced_times : List ℕ → List ℕ → ℕ → List ℕ → List ℕ
replaced_times p r zero s = s
replaced_times p r (suc n) s =
    elim (first_at p s) [
      | None ↦ s
      | Some i ↦ take i s ++ (r ++ replaced_times p r n (drop (i + length p) s))
    ]

-- Each occurrence of p in s replaced by r. An occurrence has a character at least, so s has no more
-- of them than characters.
abbrev pub replaced : List ℕ → List ℕ → List ℕ → List ℕ
replaced s p r = replaced_times p r (length s) s

-- what is behind the last occurrence that is replaced, or all of s where none is; so many times at
-- most
abbrev pub behind_times : List ℕ → ℕ → List ℕ → List ℕ
behind_times p zero s = s
behind_times p (suc n) s =
    elim (first_at p s) [ None ↦ s | Some i ↦ behind_times p n (drop (i + length p) s) ]

-- what stands in s behind the last occurrence of p that is replaced, or all of s where none is
abbrev pub behind_last : List ℕ → List ℕ → List ℕ
behind_last p s = behind_times p (length s) s
