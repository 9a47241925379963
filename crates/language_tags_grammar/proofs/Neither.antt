-- A text has a tag or a fault.
use Rattle.std.proofs.Common.{◌≡◌, ◌≢◌, ℕ, ◌<◌, ◌≤◌, Bool, true, false, ◌⊎◌, inl, inr, List, []}
use Rattle.std.proofs.Common.{◌∷◌, Option, Some, None, Result, Ok, Err, MatchResult, nat_lt, length}
use Rattle.std.proofs.Common.{drop, refl, sym, ap, ◌∙◌, arith}
use Rattle.std.specs.Prelude.{◌==◌, codes, nat_eq}
use Rattle.std.specs.List.{list_all, starts_with}
use Rattle.std.proofs.lemmas.Bool.Decides.{nat_tests}
use Rattle.language_tags_grammar.specs.Grandfathered.{grandfathered}
use Rattle.language_tags_grammar.specs.Pieces.{lowercase, pieces}
use Rattle.language_tags_grammar.specs.Scan.{scanned}
use Rattle.language_tags_grammar.specs.Shapes.{is_private}
use Rattle.language_tags_grammar.specs.Tag.{Tag, Whole, Plain}
use Rattle.language_tags_grammar.specs.TagFault.{IsFaultBehindX, IsFaultOf, IsFaultOfPieces}
use Rattle.language_tags_grammar.specs.TagFault.{are_allowed, behind_x, in_pieces}
use Rattle.language_tags_grammar.specs.TagOf.{BeginsOtherwise, IsTagOf, StandsBehindX, langtag}
use Rattle.language_tags_grammar.specs.TagOf.{private_use, whole}
use Rattle.language_tags_grammar.specs.declared.ends.Ends.{Ends}
use Rattle.language_tags_grammar.specs.declared.error.ParseError.{ParseError}
use Rattle.language_tags_grammar.specs.declared.error.ParseError.TheVariants.{EmptyPrivateUse}
use Rattle.language_tags_grammar.specs.declared.error.ParseError.TheVariants.{ForbiddenChar}
use Rattle.language_tags_grammar.specs.declared.error.ParseError.TheVariants.{SubtagTooLong}
use Rattle.language_tags_grammar.specs.declared.error.ParseError.TheVariants.{EmptySubtag}
use Rattle.language_tags_grammar.specs.Lemmas.Faults.{Scanned, no_bytes, scanned_law}
use Rattle.language_tags_grammar.specs.Lemmas.ScannedText.{begins-x}
use Rattle.language_tags_grammar.specs.Lemmas.PieceLaws.{some_piece}
use Rattle.language_tags_grammar.specs.Lemmas.PrivateLaws.{Checked, all_private, checked_more}
use Rattle.language_tags_grammar.specs.Lemmas.PrivateLaws.{checked_none, first_bad}

-- ---- what stands behind `x-`

abbrev Behind : List ℕ → Type 0
Behind rest = (list_all is_private (pieces rest) ≡ true)
    ⊎ ((fault : ParseError) × IsFaultBehindX rest fault)

look : (rest : List ℕ) → are_allowed rest ≡ true → rest ≢ [] → (left : List (List ℕ))
    → Checked (pieces rest) left → Behind rest
look rest allowed some [] h = inl (all_private rest allowed h)
look rest allowed some (x ∷ left) h =
    by (λ more. look rest allowed some left more) (length x == 0) (nat_lt 8 (length x)) refl refl
  where
    by : (Checked (pieces rest) left → Behind rest) → (a b : Bool) → (length x == 0) ≡ a
        → nat_lt 8 (length x) ≡ b → Behind rest
    by more true b e f =
        let none : length x ≡ 0 = grind (arith, nat_tests) in
        inr (
          EmptySubtag,
          (allowed, some, first_bad (pieces rest) left x (λ p. p ≡ []) h (no_bytes x none)),
        )
    by more false true e f =
        let long : 8 < length x = grind (arith, nat_tests) in
        inr (SubtagTooLong, (allowed, first_bad (pieces rest) left x (λ p. 8 < length p) h long))
    by more false false e f =
        let low : 1 ≤ length x = grind (arith, nat_tests) in
        let high : length x ≤ 8 = grind (arith, nat_tests) in
        more (checked_more (pieces rest) left x h (low, high))

behind : (rest : List ℕ) → Behind rest
behind [] = inr (EmptyPrivateUse, refl)
behind (c ∷ rest) = by (are_allowed (c ∷ rest)) refl
  where
    by : (b : Bool) → are_allowed (c ∷ rest) ≡ b → Behind (c ∷ rest)
    by true e =
        look (c ∷ rest) e (λ f. cc) (pieces (c ∷ rest))
        (checked_none (pieces (c ∷ rest)) (pieces (c ∷ rest)) refl)
    by false e = inr (ForbiddenChar, e)

-- ---- every text

abbrev TagOrFault : List ℕ → Type 0
TagOrFault t = ((tag : Tag) × IsTagOf t tag) ⊎ ((fault : ParseError) × IsFaultOf t fault)

module _ (t : List ℕ) (none : grandfathered t ≡ None) where
  private_either : (rest : List ℕ) → StandsBehindX rest t → Behind rest → TagOrFault t
  private_either rest stands (inl are) =
      inl (Whole (lowercase t), private_use none rest stands are refl)
  private_either rest stands (inr fault) = inr (fault.0, behind_x none rest stands fault.1)

  langtag_either : BeginsOtherwise t → (r : Result Ends ParseError)
      → MatchResult r (Scanned (pieces (lowercase t))) (IsFaultOfPieces (pieces (lowercase t)))
      → TagOrFault t
  langtag_either otherwise (Ok ends) s =
      inl (
        Plain s.parts,
        langtag none otherwise s.parts (record { shapes = s.shapes; in_order = s.in_order }) refl,
      )
  langtag_either otherwise (Err fault) h = inr (fault, in_pieces none otherwise h)

  other_either : TagOrFault t
  other_either = by (starts_with nat_eq (lowercase t) (codes "x-")) refl
    where
      by : (b : Bool) → starts_with nat_eq (lowercase t) (codes "x-") ≡ b → TagOrFault t
      by true e =
          private_either (drop 2 (lowercase t)) (sym (begins-x (lowercase t) e))
          (behind (drop 2 (lowercase t)))
      by false e =
          langtag_either
          (λ rest x. let clash : true ≡ false =
          ap (λ u. starts_with nat_eq u (codes "x-")) (sym x) ∙ e in cc)
          (scanned (pieces (lowercase t)))
          (scanned_law (pieces (lowercase t)) (some_piece (lowercase t)))

pub tag_or_fault : (t : List ℕ)
    → ((tag : Tag) × IsTagOf t tag) ⊎ ((fault : ParseError) × IsFaultOf t fault)
tag_or_fault t = by (grandfathered t) refl
  where
    by : (o : Option (List ℕ)) → grandfathered t ≡ o
        → ((tag : Tag) × IsTagOf t tag) ⊎ ((fault : ParseError) × IsFaultOf t fault)
    by (Some x) e = inl (Whole x, whole x e refl)
    by None e = other_either t e
