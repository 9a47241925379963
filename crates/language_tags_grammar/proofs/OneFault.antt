-- A text has one fault at most.
use Rattle.std.proofs.Common.{rules, ◌≡◌, ℕ, zero, suc, ◌<◌, true, false, ⊎_elim, List, [], ◌∷◌}
use Rattle.std.proofs.Common.{◌++◌, Some, map, length, take, drop, refl, sym, ap, ◌∙◌, subst, arith}
use Rattle.std.specs.Prelude.{IsTrue, slice_get}
use Rattle.std.specs.Str.{byte}
use Rattle.std.proofs.lemmas.Bool.{cases_order}
use Rattle.std.proofs.lemmas.Bool.Decides.{nat_tests}
use Rattle.std.proofs.lemmas.List.{length-append}
use Rattle.std.proofs.lemmas.Option.{slice_get_within}
use Rattle.language_tags_grammar.specs.Begun.{EndInThirdExtlang, EndsInSingleton, EndsInX}
use Rattle.language_tags_grammar.specs.Pieces.{lowercase, pieces}
use Rattle.language_tags_grammar.specs.Shapes.{is_extlang, is_singleton}
use Rattle.language_tags_grammar.specs.Tag.{written}
use Rattle.language_tags_grammar.specs.TagFault.{are_allowed, IsFaultBehindX, IsFaultOf}
use Rattle.language_tags_grammar.specs.TagFault.{IsFaultOfPieces, IsFirstBad, IsSingle, IsSized}
use Rattle.language_tags_grammar.specs.TagFault.{IsUnfinished, IsWrongBehind, at_end, at_piece}
use Rattle.language_tags_grammar.specs.TagFault.{behind_x, in_pieces}
use Rattle.language_tags_grammar.specs.declared.error.ParseError.{ParseError}
use Rattle.language_tags_grammar.specs.declared.error.ParseError.TheVariants.{EmptyExtension}
use Rattle.language_tags_grammar.specs.declared.error.ParseError.TheVariants.{EmptyPrivateUse}
use Rattle.language_tags_grammar.specs.declared.error.ParseError.TheVariants.{ForbiddenChar}
use Rattle.language_tags_grammar.specs.declared.error.ParseError.TheVariants.{InvalidSubtag}
use Rattle.language_tags_grammar.specs.declared.error.ParseError.TheVariants.{InvalidLanguage}
use Rattle.language_tags_grammar.specs.declared.error.ParseError.TheVariants.{SubtagTooLong}
use Rattle.language_tags_grammar.specs.declared.error.ParseError.TheVariants.{EmptySubtag}
use Rattle.language_tags_grammar.specs.declared.error.ParseError.TheVariants.{TooManyExtlangs}

-- ---- what is wrong with a piece: no two faults hold of it

-- an empty piece isn't too long
empty_long : (piece : List ℕ) → piece ≡ [] → 8 < length piece → ⊥
empty_long piece e h = omega (arith, ap length e)

-- it has no byte
empty_sized : (piece : List ℕ) → piece ≡ [] → IsSized piece → ⊥
empty_sized piece e h = omega (arith, ap length e)

-- a piece that is too long has too many
long_sized : (piece : List ℕ) → 8 < length piece → IsSized piece → ⊥
long_sized piece a h = omega arith

-- a first piece stands behind no singleton
first_singleton : (before : List (List ℕ)) → before ≡ [] → EndsInSingleton before → ⊥
first_singleton before e h = let clash = sym e ∙ h.ends.in_order in cc

-- and behind no third extlang
first_third : (before : List (List ℕ)) → before ≡ [] → EndInThirdExtlang before → ⊥
first_third before e h = let clash = sym e ∙ h.in_order in cc

-- a single letter is no extlang
single_extlang : (piece : List ℕ) → IsSingle piece → IsTrue (is_extlang piece) → ⊥
single_extlang piece h k = grind (arith, nat_tests)

-- so a piece has one fault at most behind those before it
wrong_one : (before : List (List ℕ)) (piece : List ℕ) (f g : ParseError)
    → IsWrongBehind before piece f
    → IsWrongBehind before piece g → f ≡ g
wrong_one before piece EmptySubtag EmptySubtag h k = refl
wrong_one before piece SubtagTooLong SubtagTooLong h k = refl
wrong_one before piece InvalidLanguage InvalidLanguage h k = refl
wrong_one before piece EmptyExtension EmptyExtension h k = refl
wrong_one before piece TooManyExtlangs TooManyExtlangs h k = refl
wrong_one before piece InvalidSubtag InvalidSubtag h k = refl
wrong_one before piece f g h k =
    absurd
    (search (
      rules,
      empty_long piece,
      empty_sized piece,
      long_sized piece,
      first_singleton before,
      first_third before,
      single_extlang piece,
    ))

-- ---- what is wrong at the end

-- the last pieces of the same pieces are the same
last_same : (xs ys : List (List ℕ)) (x y : List ℕ) → xs ++ (x ∷ []) ≡ ys ++ (y ∷ []) → x ≡ y
last_same [] [] x y e = cc
last_same [] (b ∷ ys) x y e = absurd (omega (arith, ap length e, length-append ys (y ∷ [])))
last_same (a ∷ xs) [] x y e = absurd (omega (arith, ap length e, length-append xs (x ∷ [])))
last_same (a ∷ xs) (b ∷ ys) x y e = last_same xs ys x y (ap (drop 1) e)

-- a singleton isn't the `x` of private use
singleton_x : (ps : List (List ℕ)) → EndsInSingleton ps → EndsInX ps → ⊥
singleton_x ps h k =
    let last : (h.singleton ∷ []) ≡ (byte "x" ∷ []) =
    last_same (map lowercase (written h.parts)) (map lowercase (written k.parts)) _ _
    (sym h.ends.in_order ∙ k.ends.in_order) in
    let same : h.singleton ≡ byte "x" = cc in
    let clash : false ≡ true = ap is_singleton (sym same) ∙ h.is in cc

-- so there is one fault at most at the end
unfinished_one : (ps : List (List ℕ)) (f g : ParseError) → IsUnfinished ps f
    → IsUnfinished ps g → f ≡ g
unfinished_one ps EmptyExtension EmptyExtension h k = refl
unfinished_one ps EmptyPrivateUse EmptyPrivateUse h k = refl
unfinished_one ps f g h k = absurd (search (rules, singleton_x ps))

-- ---- of pieces, at the first place that breaks

-- the first place that breaks is one, and what is wrong there
pieces_one : (ps : List (List ℕ)) (f g : ParseError) → IsFaultOfPieces ps f
    → IsFaultOfPieces ps g → f ≡ g
pieces_one ps f g (at_piece w) (at_piece v) =
    ⊎_elim
    (λ (e : w.place ≡ v.place).
    let found : Some w.piece ≡ Some v.piece = sym w.piece_is ∙ ap (slice_get ps) e ∙ v.piece_is in
    let same : w.piece ≡ v.piece = cc in
    wrong_one (take w.place ps) w.piece f g w.wrong
    (subst (λ i. IsWrongBehind (take i ps) w.piece g) (sym e)
    (subst (λ p. IsWrongBehind (take v.place ps) p g) (sym same) v.wrong)))
    (⊎_elim (λ (lt : w.place < v.place). absurd (w.breaks (v.before w.place lt)))
    (λ (lt : v.place < w.place). absurd (v.breaks (w.before v.place lt))))
    (cases_order w.place v.place)
pieces_one ps f g (at_piece w) (at_end all h) =
    absurd (w.breaks (all w.place (slice_get_within ps w.place w.piece w.piece_is)))
pieces_one ps f g (at_end all h) (at_piece v) =
    absurd (v.breaks (all v.place (slice_get_within ps v.place v.piece v.piece_is)))
pieces_one ps f g (at_end all h) (at_end other k) = unfinished_one ps f g h k

-- ---- behind `x-`

-- the first bad piece is empty or too long, and not both
empty_first : (ps : List (List ℕ)) → IsFirstBad ps (λ piece. piece ≡ [])
    → IsFirstBad ps (λ piece. 8 < length piece) → ⊥
empty_first ps h k =
    ⊎_elim
    (λ (e : h.place ≡ k.place).
    let found : Some h.piece ≡ Some k.piece = sym h.piece_is ∙ ap (slice_get ps) e ∙ k.piece_is in
    let same : h.piece ≡ k.piece = cc in
    empty_long k.piece (sym same ∙ h.bad) k.bad)
    (⊎_elim
    (λ (lt : h.place < k.place).
    empty_sized h.piece h.bad (k.before h.place h.piece lt h.piece_is))
    (λ (lt : k.place < h.place). long_sized k.piece k.bad (h.before k.place k.piece lt k.piece_is)))
    (cases_order h.place k.place)

-- the one piece of the empty text is empty
only_piece : (place : ℕ) (piece : List ℕ) → slice_get ([] ∷ []) place ≡ Some piece → piece ≡ []
only_piece zero piece e = cc
only_piece (suc place) piece e = cc

-- so no piece of the empty text is too long
nothing_long : (rest : List ℕ) → rest ≡ []
    → IsFirstBad (pieces rest) (λ piece. 8 < length piece) → ⊥
nothing_long rest e h =
    empty_long h.piece
    (only_piece h.place h.piece (ap (λ r. slice_get (pieces r) h.place) (sym e) ∙ h.piece_is))
    h.bad

-- the empty text has no forbidden character
forbidden_nothing : (rest : List ℕ) → are_allowed rest ≡ false → rest ≡ [] → ⊥
forbidden_nothing rest h e = let clash : true ≡ false = ap are_allowed (sym e) ∙ h in cc

-- characters that are allowed aren't forbidden
forbidden_allowed : (rest : List ℕ) → are_allowed rest ≡ false → IsTrue (are_allowed rest) → ⊥
forbidden_allowed rest h k = let clash : true ≡ false = sym k ∙ h in cc

-- so there is one fault at most behind `x-`
behind_one : (rest : List ℕ) (f g : ParseError) → IsFaultBehindX rest f
    → IsFaultBehindX rest g → f ≡ g
behind_one rest ForbiddenChar ForbiddenChar h k = refl
behind_one rest EmptyPrivateUse EmptyPrivateUse h k = refl
behind_one rest EmptySubtag EmptySubtag h k = refl
behind_one rest SubtagTooLong SubtagTooLong h k = refl
behind_one rest f g h k =
    absurd
    (search (
      rules,
      empty_first (pieces rest),
      nothing_long rest,
      forbidden_nothing rest,
      forbidden_allowed rest,
    ))

-- ---- a text's fault

-- a text has one fault at most
pub one_fault : (text : List ℕ) (f g : ParseError) → IsFaultOf text f → IsFaultOf text g → f ≡ g
one_fault text f g (behind_x a rest b h) (behind_x c other d k) =
    behind_one rest f g h (subst (λ r. IsFaultBehindX r g) (ap (drop 2) (sym d ∙ b)) k)
one_fault text f g (behind_x a rest b h) (in_pieces c otherwise k) = absurd (otherwise rest b)
one_fault text f g (in_pieces a otherwise h) (behind_x c rest d k) = absurd (otherwise rest d)
one_fault text f g (in_pieces a b h) (in_pieces c d k) = pieces_one _ f g h k
