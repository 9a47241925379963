-- How the crate works: the position automaton of a condition, that is which atoms can read first,
-- which can read last, and which can read behind which. The places of an expression's atoms are n,
-- n + 1 and so on, from left to right.
use Rattle.std.specs.Prelude.{ℕ, ◌+◌, Bool, true, false, ◌&&◌, ◌||◌, ◌==◌}
use Rattle.lazy_dfa.specs.Expression.{contains, Expression, Nothing, OneOf, End, Sequence, Choice}
use Rattle.lazy_dfa.specs.Expression.{Star, Plus, Optional, size}

-- whether it reads no character; `end` says whether a `$` does
abbrev pub empty : Bool → Expression → Bool
empty end Nothing = true
empty end (OneOf set) = false
empty end End = end
empty end (Sequence a b) = empty end a && empty end b
empty end (Choice a b) = empty end a || empty end b
empty end (Star a) = true
empty end (Plus a) = empty end a
empty end (Optional a) = true

-- whether the atom at the place p can read its first character
abbrev pub first : Expression → ℕ → ℕ → Bool
first Nothing n p = false
first (OneOf set) n p = p == n
first End n p = false
first (Sequence a b) n p = first a n p || (empty false a && first b (n + size a) p)
first (Choice a b) n p = first a n p || first b (n + size a) p
first (Star a) n p = first a n p
first (Plus a) n p = first a n p
first (Optional a) n p = first a n p

-- whether the atom at the place p can read its last character
abbrev pub last : Bool → Expression → ℕ → ℕ → Bool
last end Nothing n p = false
last end (OneOf set) n p = p == n
last end End n p = false
last end (Sequence a b) n p = last end b (n + size a) p || (empty end b && last end a n p)
last end (Choice a b) n p = last end a n p || last end b (n + size a) p
last end (Star a) n p = last end a n p
last end (Plus a) n p = last end a n p
last end (Optional a) n p = last end a n p

-- whether the atom at the place q can read the character behind the one that the atom at p reads
abbrev pub follow : Expression → ℕ → ℕ → ℕ → Bool
follow Nothing n p q = false
follow (OneOf set) n p q = false
follow End n p q = false
follow (Sequence a b) n p q =
    (follow a n p q || follow b (n + size a) p q) || (last false a n p && first b (n + size a) q)
follow (Choice a b) n p q = follow a n p q || follow b (n + size a) p q
follow (Star a) n p q = follow a n p q || (last false a n p && first a n q)
follow (Plus a) n p q = follow a n p q || (last false a n p && first a n q)
follow (Optional a) n p q = follow a n p q

-- whether there is an atom at the place p that reads the character c
abbrev pub reads : Expression → ℕ → ℕ → ℕ → Bool
reads Nothing n p c = false
reads (OneOf set) n p c = (p == n) && contains set c
reads End n p c = false
reads (Sequence a b) n p c = reads a n p c || reads b (n + size a) p c
reads (Choice a b) n p c = reads a n p c || reads b (n + size a) p c
reads (Star a) n p c = reads a n p c
reads (Plus a) n p c = reads a n p c
reads (Optional a) n p c = reads a n p c
