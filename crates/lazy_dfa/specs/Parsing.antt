-- How the crate works: reading a condition from left to right, as functions. The grammar decides:
-- what is read is the longest `alt` (proved in proofs/Grammar.antt and proofs/Longest.antt).
-- Private contracts cite these functions, and no public one.
use Rattle.std.specs.Prelude.{◌≡◌, ℕ, zero, suc, ◌+◌, ◌*◌, ◌≤◌, Bool, true, false, nat_le, ◌==◌}
use Rattle.std.specs.Prelude.{if◌then◌else◌, List, [], ◌∷◌, length, Option, Some, None, Result, Ok}
use Rattle.std.specs.Prelude.{Err}
use Rattle.std.specs.Option.{option_map}
use Rattle.lazy_dfa.specs.Expression.{CharacterSet, only, digit, any, Expression, Nothing, OneOf}
use Rattle.lazy_dfa.specs.Expression.{End, Sequence, Choice, Star, Plus, Optional}
use Rattle.lazy_dfa.specs.Syntax.{is_punctuation, is_literal, is_plain}

-- what stands behind a character, where the text begins with it
abbrev pub behind : ℕ → List ℕ → Option (List ℕ)
behind d [] = None
behind d (c ∷ t) = if c == d then Some t else None

-- ---- classes

-- the punctuation that the text begins with
abbrev pub punctuation_at : List ℕ → Option (ℕ × List ℕ)
punctuation_at [] = None
punctuation_at (c ∷ t) = if is_punctuation c then Some (c, t) else None

-- the character that stands for itself in a class, with which the text begins
abbrev pub plain_at : List ℕ → Option (ℕ × List ℕ)
plain_at [] = None
plain_at (c ∷ t) = if is_plain c then Some (c, t) else None

-- the character of a class, where it is known what stands behind a `\`
abbrev pub class_character_by : List ℕ → Option (List ℕ) → Option (ℕ × List ℕ)
class_character_by t (Some u) = punctuation_at u
class_character_by t None = plain_at t

-- the character of a class that the text begins with
abbrev pub class_character_at : List ℕ → Option (ℕ × List ℕ)
class_character_at t = class_character_by t (behind 92 t)

-- a range, and what stands behind it
abbrev pub Ranged : Type 0
Ranged = (ℕ × ℕ) × List ℕ

-- the range from a character to the one that was read
abbrev pub range_to : ℕ → Option (ℕ × List ℕ) → Option Ranged
range_to a None = None
range_to a (Some x) = if nat_le a x.0 then Some ((a, x.0), x.1) else None

-- the range that begins with a character, where it is known what stands behind a `-`
abbrev pub range_from : ℕ × List ℕ → Option (List ℕ) → Option Ranged
range_from x None = Some ((x.0, x.0), x.1)
range_from x (Some u) = range_to x.0 (class_character_at u)

-- the range that begins with the character that was read
abbrev pub range_at : Option (ℕ × List ℕ) → Option Ranged
range_at None = None
range_at (Some x) = range_from x (behind 45 x.1)

-- what stands behind the `d` of a `\d`
abbrev pub digits_at : Option (List ℕ) → Option (List ℕ)
digits_at None = None
digits_at (Some t) = behind 100 t

-- an item, where it is known what stands behind a `\d`
abbrev pub item_by : List ℕ → Option (List ℕ) → Option Ranged
item_by t (Some u) = Some ((48, 57), u)
item_by t None = range_at (class_character_at t)

-- the item of a class that the text begins with
abbrev pub item_at : List ℕ → Option Ranged
item_at t = item_by t (digits_at (behind 92 t))

-- the items of a class, and what stands behind its bracket
abbrev pub Classed : Type 0
Classed = List (ℕ × ℕ) × List ℕ

-- one item more before the others
abbrev pub with_item : ℕ × ℕ → Option Classed → Option Classed
with_item r None = None
with_item r (Some x) = Some (r ∷ x.0, x.1)

-- the last item, or one with more behind it
abbrev pub items_by : Option Classed → ℕ × ℕ → Option (List ℕ) → Option Classed
items_by more r (Some u) = Some (r ∷ [], u)
items_by more r None = with_item r more

-- the items from the first one on
abbrev pub items_from : (List ℕ → Option Classed) → Option Ranged → Option Classed
items_from more None = None
items_from more (Some x) = items_by (more x.1) x.0 (behind 93 x.1)

-- the items of a class, of which there are at most k
unfoldable pub items_at : ℕ → List ℕ → Option Classed
items_at zero t = None
items_at (suc k) t = items_from (items_at k) (item_at t)

-- ---- atoms

-- a part, and what stands behind it
pub record Found : Type 0 where
  pub tree : Expression
  pub rest : List ℕ

-- the part, with what stands behind it
abbrev pub found : Expression → List ℕ → Found
found e t = record { tree = e; rest = t }

-- What a reader finds, or how many characters are left where no `alt` goes on. Want of an atom is
-- None.
abbrev pub Reader : Type 0
Reader = List ℕ → Result Found ℕ

-- what stands behind a `\`: digits or punctuation
abbrev pub escaped_by : List ℕ → Option (List ℕ) → Option (CharacterSet × List ℕ)
escaped_by t (Some u) = Some (digit, u)
escaped_by t None = option_map (λ x. (only x.0, x.1)) (punctuation_at t)

-- the literal that the text begins with
abbrev pub literal_at : List ℕ → Option (CharacterSet × List ℕ)
literal_at [] = None
literal_at (c ∷ t) = if is_literal c then Some (only c, t) else None

-- a single character, where it is known what stands behind a `.` and behind a `\`
abbrev pub single_by : List ℕ → Option (List ℕ) → Option (List ℕ) → Option (CharacterSet × List ℕ)
single_by t (Some u) escape = Some (any, u)
single_by t None (Some u) = escaped_by u (behind 100 u)
single_by t None None = literal_at t

-- the set of the one character that the text begins with, where that is an atom
abbrev pub single_at : List ℕ → Option (CharacterSet × List ℕ)
single_at t = single_by t (behind 46 t) (behind 92 t)

-- a class, by its items
abbrev pub class_of : ℕ → Bool → Option Classed → Result (Option Found) ℕ
class_of left negated None = Err left
class_of left negated (Some x) =
    Ok (Some (found (OneOf (record { negated = negated; ranges = x.0 })) x.1))

-- a class, where it is known what stands behind a `^`
abbrev pub class_by : ℕ → List ℕ → Option (List ℕ) → Result (Option Found) ℕ
class_by left t (Some u) = class_of left true (items_at (length u) u)
class_by left t None = class_of left false (items_at (length t) t)

-- a group, where it is known what stands behind its `)`
abbrev pub closed_by : ℕ → Expression → Option (List ℕ) → Result (Option Found) ℕ
closed_by left e None = Err left
closed_by left e (Some t) = Ok (Some (found e t))

-- a group, by what was read in it
abbrev pub group_of : ℕ → Result Found ℕ → Result (Option Found) ℕ
group_of left (Err l) = Err left
group_of left (Ok p) = closed_by left p.tree (behind 41 p.rest)

-- an atom, where it is known what stands behind a `(` and behind a `[`
abbrev pub atom_by : Reader → List ℕ → Option (List ℕ) → Option (List ℕ) → Result (Option Found) ℕ
atom_by inside t (Some u) class = group_of (length t) (inside u)
atom_by inside t None (Some u) = class_by (length t) u (behind 94 u)
atom_by inside t None None = Ok (option_map (λ x. found (OneOf x.0) x.1) (single_at t))

-- the atom that the text begins with, where `inside` reads groups
abbrev pub atom_at : Reader → List ℕ → Result (Option Found) ℕ
atom_at inside t = atom_by inside t (behind 40 t) (behind 91 t)

-- ---- repetitions, sequences and alternatives

-- an atom, where it is known what stands behind a `*`, a `+` and a `?`
abbrev pub suffixed_by : Found → Option (List ℕ) → Option (List ℕ) → Option (List ℕ) → Found
suffixed_by p (Some t) plus optional = found (Star p.tree) t
suffixed_by p None (Some t) optional = found (Plus p.tree) t
suffixed_by p None None (Some t) = found (Optional p.tree) t
suffixed_by p None None None = p

-- an atom with the `*`, `+` or `?` behind it
abbrev pub suffixed : Found → Found
suffixed p = suffixed_by p (behind 42 p.rest) (behind 43 p.rest) (behind 63 p.rest)

-- the same, of what a reader found
abbrev pub repeated : Result (Option Found) ℕ → Result (Option Found) ℕ
repeated (Err l) = Err l
repeated (Ok None) = Ok None
repeated (Ok (Some p)) = Ok (Some (suffixed p))

-- a repetition, where it is known what stands behind a `$`
abbrev pub rep_by : Reader → List ℕ → Option (List ℕ) → Result (Option Found) ℕ
rep_by inside t (Some u) = Ok (Some (found End u))
rep_by inside t None = repeated (atom_at inside t)

-- the repetition or the `$` that the text begins with, where `inside` reads groups
abbrev pub rep_at : Reader → List ℕ → Result (Option Found) ℕ
rep_at inside t = rep_by inside t (behind 36 t)

-- a part before what a reader found
abbrev pub joined : (Expression → Expression → Expression) → Expression → Result Found ℕ
    → Result Found ℕ
joined f a (Err l) = Err l
joined f a (Ok p) = Ok (found (f a p.tree) p.rest)

-- a sequence, by its first part
abbrev pub seq_by : Reader → List ℕ → Result (Option Found) ℕ → Result Found ℕ
seq_by more t (Err l) = Err l
seq_by more t (Ok None) = Ok (found Nothing t)
seq_by more t (Ok (Some p)) = joined Sequence p.tree (more p.rest)

-- alternatives, where it is known what stands behind a `|`
abbrev pub alt_from : Reader → Found → Option (List ℕ) → Result Found ℕ
alt_from more p None = Ok p
alt_from more p (Some t) = joined Choice p.tree (more t)

-- alternatives, by their first side
abbrev pub alt_by : Reader → Result Found ℕ → Result Found ℕ
alt_by more (Err l) = Err l
alt_by more (Ok p) = alt_from more p (behind 124 p.rest)

-- what is read in a run: alternatives, or the parts of a sequence
pub data Run : Type 0 where
  Alternatives : Run
  Parts : Run

-- reading a run, with at most k calls one in another
unfoldable pub parse : ℕ → Run → Reader
parse zero run t = Err (length t)
parse (suc k) Alternatives t = alt_by (parse k Alternatives) (parse k Parts t)
parse (suc k) Parts t = seq_by (parse k Parts) t (rep_at (parse k Alternatives) t)

-- how much `parse` needs
abbrev pub needed : Run → List ℕ → ℕ
needed Alternatives t = 2 * length t + 2
needed Parts t = 2 * length t + 1

-- what is read, from however much
pub record Reads (run : Run) (t : List ℕ) (r : Result Found ℕ) : Type 0 where
  pub parsed : (k : ℕ) → needed run t ≤ k → parse k run t ≡ r
