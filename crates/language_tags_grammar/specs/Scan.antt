-- The steps of the scanner, over pieces in lower case: its functions' exact answers. The laws of
-- `TagOf` and `TagFault` are proved of them, and no public contract cites them.
use Rattle.std.specs.Prelude.{ℕ, zero, suc, ◌+◌, Bool, ◌&&◌, ◌||◌, ◌==◌, nat_le, nat_lt}
use Rattle.std.specs.Prelude.{if◌then◌else◌, List, [], ◌∷◌, length, slice_index, Result, Ok, Err}
use Rattle.std.specs.Char.{is_ascii_digit, is_ascii_lowercase}
use Rattle.std.specs.List.{list_all}
use Rattle.std.specs.Str.{byte}
use Rattle.language_tags_grammar.specs.Shapes.{is_small, is_extlang, is_variant, is_content}
use Rattle.language_tags_grammar.specs.Shapes.{is_private}
use Rattle.language_tags_grammar.specs.declared.error.ParseError.{ParseError}
use Rattle.language_tags_grammar.specs.declared.error.ParseError.TheVariants.{EmptyExtension}
use Rattle.language_tags_grammar.specs.declared.error.ParseError.TheVariants.{EmptyPrivateUse}
use Rattle.language_tags_grammar.specs.declared.error.ParseError.TheVariants.{InvalidSubtag}
use Rattle.language_tags_grammar.specs.declared.error.ParseError.TheVariants.{InvalidLanguage}
use Rattle.language_tags_grammar.specs.declared.error.ParseError.TheVariants.{SubtagTooLong}
use Rattle.language_tags_grammar.specs.declared.error.ParseError.TheVariants.{EmptySubtag}
use Rattle.language_tags_grammar.specs.declared.error.ParseError.TheVariants.{TooManyExtlangs}
use Rattle.language_tags_grammar.specs.declared.ends.Ends.{Ends}
use Rattle.language_tags_grammar.specs.declared.stage.Stage.{Stage}
use Rattle.language_tags_grammar.specs.declared.stage.Stage.TheVariants.{Start, LongLanguage}
use Rattle.language_tags_grammar.specs.declared.stage.Stage.TheVariants.{Extlangs, Script, Region}
use Rattle.language_tags_grammar.specs.declared.stage.Stage.TheVariants.{Variant, Singleton}
use Rattle.language_tags_grammar.specs.declared.stage.Stage.TheVariants.{Extension, X, Private}

-- four letters; two letters or three digits
abbrev pub is_small_script : List ℕ → Bool
is_small_script piece = length piece == 4 && list_all is_ascii_lowercase piece

abbrev pub is_small_region : List ℕ → Bool
is_small_region piece =
    (length piece == 2 && list_all is_ascii_lowercase piece)
    || (length piece == 3 && list_all is_ascii_digit piece)

abbrev pub is_single : List ℕ → Bool
is_single piece = length piece == 1 && list_all is_small piece

-- the stage behind a piece, by the stage before it
abbrev pub opening : List ℕ → Result Stage ParseError
opening piece =
    if is_single piece then
    (if slice_index piece 0 == byte "x" then Ok X else Ok Singleton) else Err InvalidSubtag

abbrev pub behind_region : List ℕ → Result Stage ParseError
behind_region piece = if is_variant piece then Ok Variant else opening piece

abbrev pub behind_script : List ℕ → Result Stage ParseError
behind_script piece = if is_small_region piece then Ok Region else behind_region piece

abbrev pub behind_extlangs : List ℕ → Result Stage ParseError
behind_extlangs piece = if is_small_script piece then Ok Script else behind_script piece

abbrev pub behind_extlang : ℕ → List ℕ → Result Stage ParseError
behind_extlang n piece =
    if is_extlang piece then
    (if nat_lt n 3 then Ok (Extlangs (n + 1)) else Err TooManyExtlangs) else
    behind_extlangs piece

abbrev pub behind_singleton : List ℕ → Result Stage ParseError
behind_singleton piece =
    if is_content piece then Ok Extension else
    (if is_single piece then Err EmptyExtension else Err InvalidSubtag)

abbrev pub behind_content : List ℕ → Result Stage ParseError
behind_content piece = if is_content piece then Ok Extension else opening piece

abbrev pub behind_x : List ℕ → Result Stage ParseError
behind_x piece = if is_private piece then Ok Private else Err InvalidSubtag

abbrev pub at_start : List ℕ → Result Stage ParseError
at_start piece =
    if nat_le 2 (length piece) && list_all is_ascii_lowercase piece
    then (if nat_le (length piece) 3 then Ok (Extlangs 0) else Ok LongLanguage)
    else Err InvalidLanguage

abbrev pub in_place : Stage → List ℕ → Result Stage ParseError
in_place Start piece = at_start piece
in_place LongLanguage piece = behind_extlangs piece
in_place (Extlangs n) piece = behind_extlang n piece
in_place Script piece = behind_script piece
in_place Region piece = behind_region piece
in_place Variant piece = behind_region piece
in_place Singleton piece = behind_singleton piece
in_place Extension piece = behind_content piece
in_place X piece = behind_x piece
in_place Private piece = behind_x piece

abbrev pub stage_after : Stage → List ℕ → Result Stage ParseError
stage_after stage piece =
    if length piece == 0 then Err EmptySubtag
    else (if nat_lt 8 (length piece) then Err SubtagTooLong else in_place stage piece)

-- where the parts end, once a piece that ends at n has led to the stage
abbrev pub ends_at : Ends → Stage → ℕ → Ends
ends_at ends Start n = ends
ends_at ends LongLanguage n =
    record { language = n; extlang = n; script = n; region = n; variant = n; extension = n }
ends_at ends (Extlangs zero) n =
    record { language = n; extlang = n; script = n; region = n; variant = n; extension = n }
ends_at ends (Extlangs (suc k)) n =
    record ends { extlang = n; script = n; region = n; variant = n; extension = n }
ends_at ends Script n = record ends { script = n; region = n; variant = n; extension = n }
ends_at ends Region n = record ends { region = n; variant = n; extension = n }
ends_at ends Variant n = record ends { variant = n; extension = n }
ends_at ends Singleton n = record ends { extension = n }
ends_at ends Extension n = record ends { extension = n }
ends_at ends X n = ends
ends_at ends Private n = ends

abbrev pub no_ends : Ends
no_ends = record { language = 0; extlang = 0; script = 0; region = 0; variant = 0; extension = 0 }

-- what the stage behind the last piece says
abbrev pub at_last : Stage → Ends → Result Ends ParseError
at_last Singleton ends = Err EmptyExtension
at_last X ends = Err EmptyPrivateUse
at_last Start ends = Ok ends
at_last LongLanguage ends = Ok ends
at_last (Extlangs n) ends = Ok ends
at_last Script ends = Ok ends
at_last Region ends = Ok ends
at_last Variant ends = Ok ends
at_last Extension ends = Ok ends
at_last Private ends = Ok ends

-- the answer of the next step, or the fault of this one
abbrev pub and_then : {A B : Type 0} → (A → Result B ParseError) → Result A ParseError
    → Result B ParseError
and_then next (Ok x) = next x
and_then next (Err fault) = Err fault

-- the ends of the parts that the pieces from place n on complete
abbrev pub scanned_from : Stage → ℕ → Ends → List (List ℕ) → Result Ends ParseError
scanned_from stage n ends [] = at_last stage ends
scanned_from stage n ends (p ∷ ps) =
    and_then (λ next. scanned_from next (n + length p + 1) (ends_at ends next (n + length p)) ps)
    (stage_after stage p)

abbrev pub scanned : List (List ℕ) → Result Ends ParseError
scanned ps = scanned_from Start 0 no_ends ps
