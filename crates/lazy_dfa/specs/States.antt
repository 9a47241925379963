-- How the crate works: the state table, by which it steps where a condition has one. A state is
-- what a text reaches: nothing before its first character, and then a set of positions.
use Rattle.std.specs.Prelude.{◌≡◌, ℕ, zero, suc, ◌+◌, ◌≤◌, ◌<◌, List, length, slice_index}
use Rattle.std.specs.Prelude.{slice_index_or, Option, Some, None, Result, Ok, Err, [], ◌∷◌, ◌++◌}
use Rattle.std.specs.Prelude.{◌⊎◌}
use Rattle.std.specs.Char.{IsScalar}
use Rattle.std.specs.List.{All, Contains}
use Rattle.std.specs.List.Sorted.{IsNonDecreasing}
use Rattle.std.specs.declared.alloc.AllocError.{AllocError}
use Rattle.std.specs.declared.alloc.Global.{Global}
use Rattle.std.specs.declared.vec.Vec.{Vec}
use Rattle.lazy_dfa.specs.declared.automaton.Range.{Range}
use Rattle.lazy_dfa.specs.declared.matcher.Matcher.{Matcher}
use Rattle.lazy_dfa.specs.declared.matcher.Place.{Place}
use Rattle.lazy_dfa.specs.declared.table.Table.{Table}
use Rattle.lazy_dfa.specs.Expression.{Expression}
use Rattle.lazy_dfa.specs.Machine.{Machine, IsFor, machine_of}
use Rattle.lazy_dfa.specs.Refusals.{HasManyStates}
use Rattle.lazy_dfa.specs.Steps.{IsStep}
use Rattle.lazy_dfa.specs.Progress.{IsReached}

-- ---- classes of characters

-- the next of all characters
abbrev pub IsNext : ℕ → Option ℕ → Type 0
IsNext c None = (d : ℕ) → IsScalar d → d ≤ c
IsNext c (Some next) = (c < next) × ((d : ℕ) → IsScalar d → c < d → next ≤ d)

-- where there is a next character, it is among them
abbrev pub ContainsNext : List ℕ → Option ℕ → Type 0
ContainsNext firsts None = Unit {0}
ContainsNext firsts (Some next) = Contains firsts next

-- a class begins with the range, and another one behind it
pub record IsEdged (firsts : List ℕ) (r : Range) : Type 0 where
  pub begins : Contains firsts r.first
  pub next : Option ℕ
  pub is_next : IsNext r.last next
  pub ends : ContainsNext firsts next

-- what was among the characters still is
abbrev pub Keeps : List ℕ → List ℕ → Type 0
Keeps old new = (e : ℕ) → Contains old e → Contains new e

-- the first characters of the classes, in order: each range is some classes, one behind the other
pub record IsClasses (ranges : List Range) (firsts : List ℕ) : Type 0 where
  pub sorted : IsNonDecreasing firsts
  pub least : Contains firsts 0
  pub edged : All (IsEdged firsts) ranges

-- the character is in the class k
pub record IsInClass (firsts : List ℕ) (c k : ℕ) : Type 0 where
  pub within : k < length firsts
  pub begins : slice_index firsts k ≤ c
  pub last : (e : ℕ) → Contains firsts e → e ≤ c → e ≤ slice_index firsts k

-- ---- states

-- the states by number: that before the first character, and then the sets
abbrev pub state : List ℕ → ℕ → Option ℕ
state sets zero = None
state sets (suc i) = Some (slice_index sets i)

-- whatever the automaton is for, there is a text that reaches the state
abbrev pub IsReachable : Machine → Option ℕ → Type 0
IsReachable m r = (c : Expression) → IsFor m c → (u : List ℕ) × All IsScalar u × IsReached c u r

-- the sets that were found differ, and each is reached by a text
pub record AreFound (m : Machine) (sets : List ℕ) : Type 0 where
  pub reached : (i : ℕ) → i < length sets → IsReachable m (Some (slice_index sets i))
  pub differ : (i j : ℕ) → i < j → j < length sets → slice_index sets i ≡ slice_index sets j → ⊥

-- the sets stay, and others may stand behind them
pub record IsLonger (old new : List ℕ) : Type 0 where
  pub longer : length old ≤ length new
  pub same : (i : ℕ) → i < length old → slice_index new i ≡ slice_index old i

-- the set is none of them
abbrev pub IsNew : List ℕ → ℕ → Type 0
IsNew sets set = (i : ℕ) → i < length sets → slice_index sets i ≡ set → ⊥

-- the set was added, as there was room
pub record IsAdded (old : List ℕ) (set : ℕ) (new : List ℕ) : Type 0 where
  pub room : length old < 255
  pub none : IsNew old set
  pub added : new ≡ old ++ set ∷ []

-- the set has the number, or none where it is the 256th
abbrev pub Numbers : List ℕ → ℕ → Result (Option ℕ) AllocError → List ℕ → Type 0
Numbers old set (Ok (Some n)) new = (n < length new) × (slice_index new n ≡ set)
    × ((new ≡ old) ⊎ IsAdded old set new)
Numbers old set (Ok None) new = (new ≡ old) × (length old ≡ 255) × IsNew old set
Numbers old set (Err e) new = Unit {0}

-- a row tells by class which of the sets is next; the first k classes were done
pub record IsRow (m : Machine) (firsts sets : List ℕ) (from : Option ℕ) (k : ℕ) (row : List ℕ) :
    Type 0 where
  pub full : length row ≡ k
  pub known : (i : ℕ) → i < k → slice_index row i < length sets
  pub steps : (i : ℕ) → i < k
      → IsStep m from (slice_index firsts i) (Some (slice_index sets (slice_index row i)))

-- each row is that of the state with its number
abbrev pub AreRows : Machine → List ℕ → List ℕ → List (Vec ℕ Global) → Type 0
AreRows m firsts sets rows = (n : ℕ) (d : Vec ℕ Global) → n < length rows
    → IsRow m firsts sets (state sets n) (length firsts) (slice_index_or rows n d).items

-- the condition has more states than a table
abbrev pub IsTooLarge : Machine → Type 0
IsTooLarge m = (c : Expression) → IsFor m c → HasManyStates c

-- the row of a state was made, and what it leads to was found
abbrev pub MakesRow : Machine → List ℕ → Option ℕ → List ℕ
    → Result (Option (Vec ℕ Global)) AllocError → List ℕ → Type 0
MakesRow m firsts from old (Ok (Some row)) new =
    AreFound m new × (length new ≤ 255) × IsLonger old new
    × IsRow m firsts new from (length firsts) row.items
MakesRow m firsts from old (Ok None) new = IsTooLarge m
MakesRow m firsts from old (Err e) new = Unit {0}

-- the table steps as the automaton does, and its sets are few
pub record IsTable (m : Machine) (t : Table) : Type 0 where
  pub few : length t.sets.items ≤ 255
  pub classes : IsClasses m.ranges t.firsts.items
  pub all : length t.rows.items ≡ length t.sets.items + 1
  pub rows : AreRows m t.firsts.items t.sets.items t.rows.items

-- where there is a table, it steps as the automaton does
abbrev pub HasTable : Machine → Option Table → Type 0
HasTable m None = Unit {0}
HasTable m (Some t) = IsTable m t

-- the table was made
abbrev pub MakesTable : Machine → Result (Option Table) AllocError → Type 0
MakesTable m (Ok (Some t)) = IsTable m t
MakesTable m (Ok None) = IsTooLarge m
MakesTable m (Err e) = Unit {0}

-- the row is that of the state
pub record IsAtRow (t : Table) (place : Place) : Type 0 where
  pub within : place.row < length t.rows.items
  pub here : place.reached ≡ state t.sets.items place.row

-- where there is a table, the row is that of the state
abbrev pub IsAt : Option Table → Place → Type 0
IsAt None place = Unit {0}
IsAt (Some t) place = IsAtRow t place

-- what a contract sees of a matcher
abbrev pub machine : Matcher → Machine
machine matcher = machine_of matcher.automaton matcher.whole
