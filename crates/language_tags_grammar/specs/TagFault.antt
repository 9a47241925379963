-- What is wrong with a text that no tag has: RFC 5646, section 2.1, read from the left.
use Rattle.std.specs.Prelude.{◌≡◌, ◌≢◌, ℕ, ◌+◌, ◌<◌, ◌≤◌, Bool, ◌||◌, false, List, [], length, take}
use Rattle.std.specs.Prelude.{slice_get, Some, None, IsTrue}
use Rattle.std.specs.List.{list_all}
use Rattle.language_tags_grammar.specs.Begun.{Begun, EndInThirdExtlang, EndsInSingleton, EndsInX}
use Rattle.language_tags_grammar.specs.Grandfathered.{grandfathered}
use Rattle.language_tags_grammar.specs.Pieces.{is_dash, lowercase, pieces}
use Rattle.language_tags_grammar.specs.Shapes.{is_extlang, is_small}
use Rattle.language_tags_grammar.specs.TagOf.{BeginsOtherwise, StandsBehindX}
use Rattle.language_tags_grammar.specs.declared.error.ParseError.{ParseError}
use Rattle.language_tags_grammar.specs.declared.error.ParseError.TheVariants.{EmptyExtension}
use Rattle.language_tags_grammar.specs.declared.error.ParseError.TheVariants.{EmptyPrivateUse}
use Rattle.language_tags_grammar.specs.declared.error.ParseError.TheVariants.{ForbiddenChar}
use Rattle.language_tags_grammar.specs.declared.error.ParseError.TheVariants.{InvalidSubtag}
use Rattle.language_tags_grammar.specs.declared.error.ParseError.TheVariants.{InvalidLanguage}
use Rattle.language_tags_grammar.specs.declared.error.ParseError.TheVariants.{SubtagTooLong}
use Rattle.language_tags_grammar.specs.declared.error.ParseError.TheVariants.{EmptySubtag}
use Rattle.language_tags_grammar.specs.declared.error.ParseError.TheVariants.{TooManyExtlangs}
use Rattle.language_tags_grammar.specs.declared.error.ParseError.TheVariants.{NoMemory}

-- from one to eight bytes
abbrev pub IsSized : List ℕ → Type 0
IsSized piece = (1 ≤ length piece) × (length piece ≤ 8)

-- one letter or digit
abbrev pub IsSingle : List ℕ → Type 0
IsSingle piece = (length piece ≡ 1) × IsTrue (list_all is_small piece)

abbrev pub IsSecondSingle : List (List ℕ) → List ℕ → Type 0
IsSecondSingle before piece = EndsInSingleton before × IsSingle piece

abbrev pub IsFourthExtlang : List (List ℕ) → List ℕ → Type 0
IsFourthExtlang before piece = EndInThirdExtlang before × IsTrue (is_extlang piece)

-- what is wrong with a piece behind these
abbrev pub IsWrongBehind : List (List ℕ) → List ℕ → ParseError → Type 0
IsWrongBehind before piece EmptySubtag = piece ≡ []
IsWrongBehind before piece SubtagTooLong = 8 < length piece
IsWrongBehind before piece InvalidLanguage = IsSized piece × (before ≡ [])
IsWrongBehind before piece EmptyExtension = IsSized piece × IsSecondSingle before piece
IsWrongBehind before piece TooManyExtlangs = IsSized piece × IsFourthExtlang before piece
IsWrongBehind before piece InvalidSubtag =
    IsSized piece × (before ≢ []) × (¬ IsSecondSingle before piece)
    × (¬ IsFourthExtlang before piece)
IsWrongBehind before piece EmptyPrivateUse = ⊥
IsWrongBehind before piece ForbiddenChar = ⊥
IsWrongBehind before piece NoMemory = ⊥

-- what is wrong with pieces that begin a tag and end before it does
abbrev pub IsUnfinished : List (List ℕ) → ParseError → Type 0
IsUnfinished ps EmptyExtension = EndsInSingleton ps
IsUnfinished ps EmptyPrivateUse = EndsInX ps
IsUnfinished ps EmptySubtag = ⊥
IsUnfinished ps SubtagTooLong = ⊥
IsUnfinished ps InvalidLanguage = ⊥
IsUnfinished ps TooManyExtlangs = ⊥
IsUnfinished ps InvalidSubtag = ⊥
IsUnfinished ps ForbiddenChar = ⊥
IsUnfinished ps NoMemory = ⊥

-- each of the first k lists of leading pieces begins a tag
abbrev pub AreBegun : List (List ℕ) → ℕ → Type 0
AreBegun ps k = (j : ℕ) → j < k → Begun (take (j + 1) ps)

-- the first place at which the pieces no longer begin a tag, and what is wrong there
pub record IsWrongAt (ps : List (List ℕ)) (fault : ParseError) : Type 0 where
  pub place : ℕ
  pub before : AreBegun ps place
  pub piece : List ℕ
  pub piece_is : slice_get ps place ≡ Some piece
  pub breaks : ¬ Begun (take (place + 1) ps)
  pub wrong : IsWrongBehind (take place ps) piece fault

pub data IsFaultOfPieces (ps : List (List ℕ)) (fault : ParseError) : Type 0 where
  at_piece : IsWrongAt ps fault → IsFaultOfPieces ps fault
  at_end : AreBegun ps (length ps) → IsUnfinished ps fault → IsFaultOfPieces ps fault

-- behind `x-`: the first piece that is empty or too long
pub record IsFirstBad (ps : List (List ℕ)) (Bad : List ℕ → Type 0) : Type 0 where
  pub place : ℕ
  pub before : (j : ℕ) (piece : List ℕ) → j < place → slice_get ps j ≡ Some piece → IsSized piece
  pub piece : List ℕ
  pub piece_is : slice_get ps place ≡ Some piece
  pub bad : Bad piece

-- the characters of a private use tag
abbrev pub are_allowed : List ℕ → Bool
are_allowed rest = list_all (λ c. is_small c || is_dash c) rest

abbrev pub IsFaultBehindX : List ℕ → ParseError → Type 0
IsFaultBehindX rest ForbiddenChar = are_allowed rest ≡ false
IsFaultBehindX rest EmptyPrivateUse = rest ≡ []
IsFaultBehindX rest EmptySubtag =
    IsTrue (are_allowed rest) × (rest ≢ []) × IsFirstBad (pieces rest) (λ piece. piece ≡ [])
IsFaultBehindX rest SubtagTooLong =
    IsTrue (are_allowed rest) × IsFirstBad (pieces rest) (λ piece. 8 < length piece)
IsFaultBehindX rest EmptyExtension = ⊥
IsFaultBehindX rest InvalidSubtag = ⊥
IsFaultBehindX rest InvalidLanguage = ⊥
IsFaultBehindX rest TooManyExtlangs = ⊥
IsFaultBehindX rest NoMemory = ⊥

-- the fault of a text: of what stands behind `x-`, else of its pieces, without their case
pub data IsFaultOf (text : List ℕ) (fault : ParseError) : Type 0 where
  behind_x : grandfathered text ≡ None → (rest : List ℕ) → StandsBehindX rest text
      → IsFaultBehindX rest fault → IsFaultOf text fault
  in_pieces : grandfathered text ≡ None → BeginsOtherwise text
      → IsFaultOfPieces (pieces (lowercase text)) fault → IsFaultOf text fault
