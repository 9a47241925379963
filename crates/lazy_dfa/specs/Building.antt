-- How the crate works: what reading a part of a condition into an automaton gives.
use Rattle.std.specs.Borrow.{Bor}
use Rattle.std.specs.declared.alloc.AllocError.{AllocError}
use Rattle.std.specs.Prelude.{◌≡◌, ℕ, ◌+◌, ◌*◌, ◌^◌, ◌≤◌, ◌<◌, List, length, Bool, Option, Some}
use Rattle.std.specs.Prelude.{None, Result, Ok, Err}
use Rattle.lazy_dfa.specs.declared.automaton.Automaton.{Automaton}
use Rattle.lazy_dfa.specs.declared.parser.Parsed.{Parsed}
use Rattle.lazy_dfa.specs.declared.parser.Stop.{Stop}
use Rattle.lazy_dfa.specs.declared.parser.Stop.TheVariants.{NoMemory, Left}
use Rattle.lazy_dfa.specs.Expression.{Expression, OneOf, set_of}
use Rattle.lazy_dfa.specs.Compiled.{Adds, AddsRanges, Sums}
use Rattle.lazy_dfa.specs.Parsing.{Run, Alternatives, Found, found, Reader, Reads, parse, items_at}
use Rattle.lazy_dfa.specs.Parsing.{suffixed}

-- a part with this expression was added, and the rest of the text is left
pub record Builds (e : Expression) (old : Automaton) (text : List ℕ) (p : Parsed)
    (new : Automaton) : Type 0 where
  pub sums : Sums p.part e old.size
  pub adds : Adds old e new
  pub shorter : length p.rest.now ≤ length text
  pub room : new.size + length p.rest.now ≤ old.size + length text

-- alternatives or a sequence were read
abbrev pub ReadsRun : Run → List ℕ → Automaton → Automaton → Result Parsed Stop → Type 0
ReadsRun run text old new (Ok p) = (e : Expression) × Reads run text (Ok (found e p.rest.now))
    × Builds e old text p new
ReadsRun run text old new (Err NoMemory) = Unit {0}
ReadsRun run text old new (Err (Left left)) = Reads run text (Err left)

-- how a reader of one part reads the text, with enough for groups
pub record ReadsPart (read : Reader → List ℕ → Result (Option Found) ℕ) (text : List ℕ)
    (r : Result (Option Found) ℕ) : Type 0 where
  pub parsed : (k : ℕ) → 2 * length text ≤ k → read (parse k Alternatives) text ≡ r

-- an atom or a repetition was read, if there is one
abbrev pub ReadsOne : (Reader → List ℕ → Result (Option Found) ℕ) → List ℕ → Automaton → Automaton
    → Result (Option Parsed) Stop → Type 0
ReadsOne read text old new (Ok (Some p)) =
    (e : Expression) × ReadsPart read text (Ok (Some (found e p.rest.now)))
    × Builds e old text p new × (length p.rest.now < length text)
ReadsOne read text old new (Ok None) = ReadsPart read text (Ok None) × (new ≡ old)
ReadsOne read text old new (Err NoMemory) = Unit {0}
ReadsOne read text old new (Err (Left left)) = ReadsPart read text (Err left)

-- the items of a class were read as ranges of the next atom
abbrev pub ReadsItems : List ℕ → Automaton → Automaton → Result (Option (Bor (List ℕ))) AllocError
    → Type 0
ReadsItems text old new (Ok (Some rest)) =
    (rs : List (ℕ × ℕ)) × ((k : ℕ) → length text ≤ k → items_at k text ≡ Some (rs, rest.now))
    × AddsRanges old (2 ^ old.size) rs new × (length rest.now < length text)
ReadsItems text old new (Ok None) = (k : ℕ) → length text ≤ k → items_at k text ≡ None
ReadsItems text old new (Err e) = Unit {0}

-- an atom that was read is repeated
abbrev pub Repeats : Automaton → Parsed → Automaton → Parsed → Type 0
Repeats old atom new p = (e : Expression) (before : Automaton) (text : List ℕ)
    → Builds e before text atom old
    → (f : Expression) × (suffixed (found e atom.rest.now) ≡ found f p.rest.now)
    × Builds f before text p new × (length p.rest.now ≤ length atom.rest.now)

-- a class was read, from its first item on
abbrev pub ReadsClass : ℕ → Bool → List ℕ → Automaton → Automaton → Result (Option Parsed) Stop
    → Type 0
ReadsClass left negated text old new (Ok (Some p)) =
    (rs : List (ℕ × ℕ)) × (items_at (length text) text ≡ Some (rs, p.rest.now))
    × Sums p.part (OneOf (set_of negated rs)) old.size × Adds old (OneOf (set_of negated rs)) new
    × (length p.rest.now < length text)
ReadsClass left negated text old new (Ok None) = ⊥
ReadsClass left negated text old new (Err NoMemory) = Unit {0}
ReadsClass left negated text old new (Err (Left l)) =
    (l ≡ left) × (items_at (length text) text ≡ None)
