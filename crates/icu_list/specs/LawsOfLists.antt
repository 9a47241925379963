-- Laws that contracts above cite, as statements.
use Rattle.std.specs.Prelude.{◌≡◌, ◌↔◌, ◌<◌, ◌^◌, ℕ, true, List, map, None, IfSome}
use Rattle.lazy_dfa.specs.Expression.{Expression}
use Rattle.lazy_dfa.specs.Meaning.{holds}
use Rattle.lazy_dfa.specs.Refusals.{condition}
use Rattle.writeable_core.specs.Hint.{byte_length, exact, text_hint}
use Rattle.writeable_core.specs.Marks.{Mark, characters}
use Rattle.icu_list.specs.Conditions.{applies}
use Rattle.icu_list.specs.Patterns.{Patterns}
use Rattle.icu_list.specs.Joined.{joined, marked_joined}
use Rattle.icu_list.specs.ListHint.{list_hint}

-- a condition applies to a text exactly where it holds on it
abbrev pub ConditionsApply : Type 0
ConditionsApply = (pattern : List ℕ) (e : Expression) (text : List ℕ) → condition pattern e
    → (applies pattern text ≡ true) ↔ holds e text

-- a pattern text has one expression at most
abbrev pub OneExpression : Type 0
OneExpression = (pattern : List ℕ) (e f : Expression) → condition pattern e
    → condition pattern f → e ≡ f

-- the characters of a marked list are the list of the items' characters
abbrev pub CharactersAreJoined : Type 0
CharactersAreJoined = (p : Patterns) (items : List (List Mark))
    → characters (marked_joined p (map characters items) items) ≡ joined p (map characters items)

-- neither the end nor a stored pair has a special
abbrev pub HasNoSpecial : Patterns → Type 0
HasNoSpecial p = (p.end.special ≡ None) × IfSome p.pair (λ pair. pair.special ≡ None)

-- without specials the hint of a list of texts is exact, where its bytes fit a `usize`
abbrev pub HintsAreExact : Type 0
HintsAreExact = (p : Patterns) (items : List (List ℕ)) → HasNoSpecial p
    → byte_length (joined p items) < 2 ^ 64
    → list_hint p (map text_hint items) ≡ exact (byte_length (joined p items))
