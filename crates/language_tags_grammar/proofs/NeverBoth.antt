-- A text that has a tag has no fault.
use Rattle.std.proofs.Common.{◌≡◌, ℕ, zero, suc, ◌+◌, ◌<◌, true, false, List, [], ◌∷◌, ◌++◌, Some}
use Rattle.std.proofs.Common.{Ok, MatchResult, length, take, drop, refl, sym, ap, ◌∙◌, append-nil}
use Rattle.std.proofs.Common.{arith, subst}
use Rattle.std.specs.Prelude.{◌&&◌, ◌||◌, slice_get}
use Rattle.std.specs.List.{list_all}
use Rattle.std.specs.Str.{byte}
use Rattle.std.proofs.lemmas.Bool.Decides.{nat_tests}
use Rattle.std.proofs.lemmas.List.Splits.{join_with_byte-slice_split}
use Rattle.language_tags_grammar.specs.Begun.{Begun}
use Rattle.language_tags_grammar.specs.Pieces.{is_dash, joined, lowercase, pieces}
use Rattle.language_tags_grammar.specs.Shapes.{is_private, is_small}
use Rattle.language_tags_grammar.specs.Tag.{Parts, Tag}
use Rattle.language_tags_grammar.specs.TagFault.{IsFaultBehindX, IsFaultOf, IsFaultOfPieces}
use Rattle.language_tags_grammar.specs.TagFault.{IsUnfinished, are_allowed, at_end, at_piece}
use Rattle.language_tags_grammar.specs.TagFault.{behind_x, in_pieces}
use Rattle.language_tags_grammar.specs.TagOf.{IsLangtag, IsTagOf, langtag, private_use, whole}
use Rattle.language_tags_grammar.specs.declared.error.ParseError.{ParseError}
use Rattle.language_tags_grammar.specs.declared.error.ParseError.TheVariants.{EmptyExtension}
use Rattle.language_tags_grammar.specs.declared.error.ParseError.TheVariants.{EmptyPrivateUse}
use Rattle.language_tags_grammar.specs.declared.error.ParseError.TheVariants.{ForbiddenChar}
use Rattle.language_tags_grammar.specs.declared.error.ParseError.TheVariants.{InvalidSubtag}
use Rattle.language_tags_grammar.specs.declared.error.ParseError.TheVariants.{InvalidLanguage}
use Rattle.language_tags_grammar.specs.declared.error.ParseError.TheVariants.{SubtagTooLong}
use Rattle.language_tags_grammar.specs.declared.error.ParseError.TheVariants.{EmptySubtag}
use Rattle.language_tags_grammar.specs.declared.error.ParseError.TheVariants.{TooManyExtlangs}
use Rattle.language_tags_grammar.specs.declared.error.ParseError.TheVariants.{NoMemory}
use Rattle.language_tags_grammar.specs.declared.stage.Stage.{Stage}
use Rattle.language_tags_grammar.specs.declared.stage.Stage.TheVariants.{Start, Singleton, X}
use Rattle.language_tags_grammar.specs.Lemmas.Faults.{Ended, Stops, outcome, reached_nothing}
use Rattle.language_tags_grammar.specs.Lemmas.Faults.{stage_in}
use Rattle.language_tags_grammar.specs.Lemmas.Flat.{Flat, nothing}
use Rattle.language_tags_grammar.specs.Lemmas.Forward.{run}
use Rattle.language_tags_grammar.specs.Lemmas.Grammar.{parts_passed, singleton_passed, x_passed}
use Rattle.language_tags_grammar.specs.Lemmas.PartsLaws.{IsEnd, flat, in_front, in_private}

-- ---- langtags

some_place : (ps : List (List ℕ)) (i : ℕ) (x : List ℕ) → slice_get ps i ≡ Some x → i < length ps
some_place [] i x e = cc
some_place (p ∷ ps) zero x e = omega arith
some_place (p ∷ ps) (suc i) x e = omega (arith, some_place ps i x e)

not_singleton : IsEnd Singleton → ⊥
not_singleton (in_front a b) = omega arith
not_singleton (in_private a) = omega arith

not_x : IsEnd X → ⊥
not_x (in_front a b) = omega arith
not_x (in_private a) = omega arith

module _ (ps : List (List ℕ)) (s : Stage) (f : Flat) (is : run Start nothing ps ≡ Ok (s, f))
    (e : IsEnd s) where
  ended : Ended ps (s, f)
  ended =
      subst (λ q. MatchResult q (Ended ps) (Stops ps)) is (outcome ps Start nothing reached_nothing)

  finished_fault : (fault : ParseError) → IsUnfinished ps fault → ⊥
  finished_fault EmptyExtension h =
      not_singleton (subst IsEnd (ap stage_in (sym is ∙ (singleton_passed ps h).1)) e)
  finished_fault EmptyPrivateUse h =
      not_x (subst IsEnd (ap stage_in (sym is ∙ (x_passed ps h).1)) e)
  finished_fault EmptySubtag h = absurd h
  finished_fault SubtagTooLong h = absurd h
  finished_fault InvalidLanguage h = absurd h
  finished_fault TooManyExtlangs h = absurd h
  finished_fault InvalidSubtag h = absurd h
  finished_fault ForbiddenChar h = absurd h
  finished_fault NoMemory h = absurd h

  no_fault : (fault : ParseError) → IsFaultOfPieces ps fault → ⊥
  no_fault fault (at_end all h) = finished_fault fault h
  no_fault fault (at_piece w) =
      w.breaks (subst (λ qs. Begun (take (w.place + 1) qs)) (sym ended.all)
      (ended.reached.begun w.place
      (subst (λ qs. w.place < length qs) ended.all (some_place ps w.place w.piece w.piece_is))))

pub langtag_no_fault : (text : List ℕ) (p : Parts) (fault : ParseError) → IsLangtag text p
    → IsFaultOfPieces (pieces (lowercase text)) fault → ⊥
langtag_no_fault text p fault h w =
    let all = parts_passed p h.shapes in
    no_fault (pieces (lowercase text)) all.0 (flat p)
    (ap (run Start nothing) h.in_order ∙ all.2) all.1 fault w

-- ---- private use

private_at : (ps : List (List ℕ)) (i : ℕ) (x : List ℕ) → list_all is_private ps ≡ true
    → slice_get ps i ≡ Some x → is_private x ≡ true
private_at [] i x h e = cc
private_at (p ∷ ps) zero x h e =
    let head : is_private p ≡ true = grind (arith, nat_tests) in
    let same : p ≡ x = cc in
    ap is_private (sym same) ∙ head
private_at (p ∷ ps) (suc i) x h e =
    let tail : list_all is_private ps ≡ true = grind (arith, nat_tests) in
    private_at ps i x tail e

allowed_small : (x : List ℕ) (rest : List ℕ) → list_all is_small x ≡ true → are_allowed rest ≡ true
    → are_allowed (x ++ rest) ≡ true
allowed_small [] rest e h = h
allowed_small (c ∷ x) rest e h =
    let head : is_small c ≡ true = grind (arith, nat_tests) in
    let tail : list_all is_small x ≡ true = grind (arith, nat_tests) in
    λ i. (head i || is_dash c) && allowed_small x rest tail h i

allowed_pieces : (ps : List (List ℕ)) → list_all is_private ps ≡ true
    → are_allowed (joined ps) ≡ true
allowed_pieces [] h = refl
allowed_pieces (x ∷ []) h =
    let small : list_all is_small x ≡ true = grind (arith, nat_tests) in
    subst (λ t. are_allowed t ≡ true) (append-nil x) (allowed_small x [] small refl)
allowed_pieces (x ∷ y ∷ ps) h =
    let head : is_private x ≡ true = grind (arith, nat_tests) in
    let small : list_all is_small x ≡ true = grind (arith, nat_tests) in
    let tail : list_all is_private (y ∷ ps) ≡ true = grind (arith, nat_tests) in
    allowed_small x (byte "-" ∷ joined (y ∷ ps)) small (allowed_pieces (y ∷ ps) tail)

module _ (rest : List ℕ) (h : list_all is_private (pieces rest) ≡ true) where
  allowed : are_allowed rest ≡ true
  allowed = ap are_allowed (sym (join_with_byte-slice_split 45 rest))
      ∙ allowed_pieces (pieces rest) h

  behind_no_fault : (fault : ParseError) → IsFaultBehindX rest fault → ⊥
  behind_no_fault ForbiddenChar w = let clash : true ≡ false = sym allowed ∙ w in cc
  behind_no_fault EmptyPrivateUse w =
      let clash : false ≡ true = ap (λ t. list_all is_private (pieces t)) (sym w) ∙ h in cc
  behind_no_fault EmptySubtag w =
      let b = w.2 in
      let is = private_at (pieces rest) b.place b.piece h b.piece_is in
      let clash : false ≡ true = ap is_private (sym b.bad) ∙ is in cc
  behind_no_fault SubtagTooLong w =
      let b = w.1 in
      let is = private_at (pieces rest) b.place b.piece h b.piece_is in
      let long : 8 < length b.piece = b.bad in
      absurd (grind (arith, nat_tests))
  behind_no_fault EmptyExtension w = absurd w
  behind_no_fault InvalidSubtag w = absurd w
  behind_no_fault InvalidLanguage w = absurd w
  behind_no_fault TooManyExtlangs w = absurd w
  behind_no_fault NoMemory w = absurd w

pub never_both : (t : List ℕ) (g : Tag) (fault : ParseError) → IsTagOf t g → IsFaultOf t fault → ⊥
never_both t g fault (whole x a is) (behind_x b rest c d) = cc
never_both t g fault (whole x a is) (in_pieces b c d) = cc
never_both t g fault (private_use a rest behind are is) (behind_x b other too w) =
    behind_no_fault other
    (ap (λ r. list_all is_private (pieces r)) (ap (drop 2) (sym too ∙ behind)) ∙ are) fault w
never_both t g fault (private_use a rest behind are is) (in_pieces b otherwise w) =
    otherwise rest behind
never_both t g fault (langtag a otherwise p h is) (behind_x b rest behind w) = otherwise rest behind
never_both t g fault (langtag a otherwise p h is) (in_pieces b c w) = langtag_no_fault t p fault h w
