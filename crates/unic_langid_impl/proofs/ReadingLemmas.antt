-- A reader that takes what it can takes the identifier.
use Rattle.std.proofs.Common.{◌≡◌, ◌≢◌, ℕ, suc, Bool, true, false, cond, List, [], ◌∷◌, ◌++◌}
use Rattle.std.proofs.Common.{Option, Some, None, map, length, drop, refl, sym, ap, subst, ◌∙◌}
use Rattle.std.proofs.Common.{append_assoc, arith, is_some, Bor, Result, Ok, Err}
use Rattle.std.specs.Prelude.{◌&&◌, ◌||◌, IfSome, MatchOption, option_and_then, IfOk, IfErr, OnOk}
use Rattle.std.specs.List.{All, list_all}
use Rattle.std.specs.Option.{option_copied, option_map}
use Rattle.std.specs.Char.{is_ascii_digit, is_ascii_uppercase, to_ascii_lowercase}
use Rattle.std.specs.Char.{to_ascii_uppercase}
use Rattle.std.proofs.lemmas.Bool.{false≢true}
use Rattle.std.proofs.lemmas.Bool.Decides.{nat_tests}
use Rattle.std.proofs.lemmas.List.{append-nil, length-map, map-append}
use Rattle.std.proofs.lemmas.List.Elements.{All-nil, All-push, All-head, All-tail}
use Rattle.std.proofs.lemmas.List.Splits.{length-slice_split}
use Rattle.tinystr.specs.Shapes.{IsVariant, is_region, is_script, is_variant}
use Rattle.tinystr.specs.Text.{titlecase}
use Rattle.unic_langid_impl.specs.Identifier.{Identifier, nothing, part}
use Rattle.unic_langid_impl.specs.Pieces.{first_piece, is_separator, pieces_of}
use Rattle.unic_langid_impl.specs.Reading.{AreIdentifier, AreNoIdentifier, BeginsWithLanguage}
use Rattle.unic_langid_impl.specs.Reading.{BeginsWithNoLanguage, IsAscendingOf, IsParserFault}
use Rattle.unic_langid_impl.specs.Reading.{IsReadUpTo, Reads, Refuses, Stops, id_of}
use Rattle.unic_langid_impl.specs.Subtags.{IsLanguage, language_of, lowercase, uppercase}
use Rattle.unic_langid_impl.specs.declared.parser.error.ParserError.{ParserError}
use Rattle.unic_langid_impl.specs.declared.parser.error.ParserError.TheVariants.{InvalidLanguage}
use Rattle.unic_langid_impl.specs.declared.parser.error.ParserError.TheVariants.{InvalidSubtag}
use Rattle.unic_langid_impl.specs.declared.parser.error.ParserError.TheVariants.{NoMemory}
use Rattle.unic_langid_impl.specs.Taking.{BeginsWithNoVariant, TakesVariants, left_behind, taken}

-- ---- one variant more

pub takes_none : (pieces : List (List ℕ)) → TakesVariants pieces [] pieces
takes_none pieces = record { front = []; parts = refl; shapes = All-nil IsVariant; are = refl }

first_is : (pieces : List (List ℕ)) (piece : List ℕ) → Some piece ≡ first_piece pieces
    → pieces ≡ piece ∷ drop 1 pieces
first_is [] piece e = cc
first_is (p ∷ pieces) piece e = let same : p ≡ piece = cc in ap (λ q. q ∷ pieces) same

pub takes_more : (old variants left new : List (List ℕ)) (piece variant : List ℕ)
    → TakesVariants old variants left
    → Some piece ≡ first_piece left → IsVariant (lowercase piece) → variant ≡ lowercase piece
    → new ≡ drop 1 left
    → TakesVariants old (variants ++ variant ∷ []) new
takes_more old variants left new piece variant h e shape is next =
    let split = first_is left piece e in record {
      front = h.front ++ piece ∷ [];
      parts = append_assoc h.front (piece ∷ []) new ∙ ap (λ l. h.front ++ piece ∷ l) next
          ∙ ap (λ l. h.front ++ l) (sym split)
          ∙ h.parts;
      shapes =
          rw (map-append lowercase h.front (piece ∷ []))
          (All-push IsVariant (map lowercase h.front) (lowercase piece) h.shapes shape);
      are = ap (λ l. l ++ variant ∷ []) h.are ∙ ap (λ v. map lowercase h.front ++ v ∷ []) is
          ∙ sym (map-append lowercase h.front (piece ∷ []));
    }

-- ---- shapes have no piece in common, by their lengths and the first character of a variant of
-- four

length-titlecase : (text : List ℕ) → length (titlecase text) ≡ length text
length-titlecase [] = refl
length-titlecase (c ∷ text) = ap suc (length-map text to_ascii_lowercase)

pub region-variant : (piece : List ℕ) → is_region (uppercase piece) ≡ true
    → is_variant (lowercase piece) ≡ false
region-variant piece h =
    let a = length-map piece to_ascii_uppercase in
    let b = length-map piece to_ascii_lowercase in grind (arith, nat_tests)

pub script-region : (piece : List ℕ) → is_script (titlecase piece) ≡ true
    → is_region (uppercase piece) ≡ false
script-region piece h =
    let a = length-map piece to_ascii_uppercase in
    let b = length-titlecase piece in grind (arith, nat_tests)

letter_first : (c : ℕ) → is_ascii_uppercase (to_ascii_uppercase c) ≡ true
    → is_ascii_digit (to_ascii_lowercase c) ≡ false
letter_first c h = grind (arith, nat_tests)

pub script-variant : (piece : List ℕ) → is_script (titlecase piece) ≡ true
    → is_variant (lowercase piece) ≡ false
script-variant [] h = refl
script-variant (c ∷ piece) h =
    let first : is_ascii_uppercase (to_ascii_uppercase c) ≡ true = grind (arith, nat_tests) in
    let digit = letter_first c first in
    let a = length-map piece to_ascii_lowercase in grind (arith, nat_tests)

-- ---- which pieces may stand behind a language

abbrev shaped_script : List ℕ → Bool
shaped_script piece = is_script (titlecase piece)

abbrev shaped_region : List ℕ → Bool
shaped_region piece = is_region (uppercase piece)

abbrev shaped_variant : List ℕ → Bool
shaped_variant piece = is_variant (lowercase piece)

-- a piece of the shape or not, and then what may follow it
abbrev perhaps : (List ℕ → Bool) → (List (List ℕ) → Bool) → List (List ℕ) → Bool
perhaps is follow [] = true
perhaps is follow (piece ∷ pieces) = (is piece && follow pieces) || follow (piece ∷ pieces)

abbrev may_be_variants : List (List ℕ) → Bool
may_be_variants pieces = list_all shaped_variant pieces

abbrev may_be_region_on : List (List ℕ) → Bool
may_be_region_on = perhaps shaped_region may_be_variants

abbrev may_be_script_on : List (List ℕ) → Bool
may_be_script_on = perhaps shaped_script may_be_region_on

or_true : (b : Bool) → (b || true) ≡ true
or_true true = refl
or_true false = refl

-- a piece of the shape, or none, and then what may follow
module _ (is : List ℕ → Bool) (follow : List (List ℕ) → Bool) where
  perhaps-true : (o : Option (List ℕ)) (pieces : List (List ℕ)) → IfSome o (λ p. is p ≡ true)
      → follow pieces ≡ true
      → perhaps is follow (part o ++ pieces) ≡ true
  perhaps-true None [] h f = refl
  perhaps-true None (p ∷ pieces) h f =
      ap (λ b. (is p && follow pieces) || b) f ∙ or_true (is p && follow pieces)
  perhaps-true (Some p) pieces h f = rw (h, f) refl

  -- what stops behind it stops it
  perhaps-false : (o : Option (List ℕ)) (pieces : List (List ℕ)) → follow pieces ≡ false
      → follow [] ≡ true
      → MatchOption o (IfSome (first_piece pieces) (λ p. is p ≡ false))
      (λ p. follow (p ∷ pieces) ≡ false)
      → perhaps is follow (part o ++ pieces) ≡ false
  perhaps-false None [] f nothing h = absurd (false≢true (sym f ∙ nothing))
  perhaps-false None (p ∷ pieces) f nothing h = rw (h, f) refl
  perhaps-false (Some p) pieces f nothing h = rw (f, h) (and_false (is p))
    where
      and_false : (b : Bool) → ((b && false) || false) ≡ false
      and_false true = refl
      and_false false = refl

variants-true : (pieces : List (List ℕ)) → All IsVariant (map lowercase pieces)
    → may_be_variants pieces ≡ true
variants-true [] h = refl
variants-true (p ∷ pieces) h =
    let first : shaped_variant p ≡ true =
    All-head IsVariant (lowercase p) (map lowercase pieces) h in
    rw first (variants-true pieces (All-tail IsVariant (lowercase p) (map lowercase pieces) h))

variants-false : (front behind : List (List ℕ)) (piece : List ℕ) → shaped_variant piece ≡ false
    → may_be_variants (front ++ piece ∷ behind) ≡ false
variants-false [] behind piece h = rw h refl
variants-false (p ∷ front) behind piece h =
    rw (variants-false front behind piece h) (and_false (shaped_variant p))
  where
    and_false : (b : Bool) → (b && false) ≡ false
    and_false true = refl
    and_false false = refl

module _ (is : List ℕ → Bool) (case : List ℕ → List ℕ) where
  pub shaped-from : (subtag piece : Option (List ℕ)) → IfSome subtag (λ t. is t ≡ true)
      → subtag ≡ option_map case piece
      → IfSome piece (λ p. is (case p) ≡ true)
  shaped-from subtag None h e = tt
  shaped-from subtag (Some p) h e = subst (λ o. IfSome o (λ t. is t ≡ true)) e h

-- the pieces behind the language of an identifier
recognised : (first : List ℕ) (pieces : List (List ℕ)) (i : Identifier)
    → AreIdentifier (first ∷ pieces) i
    → may_be_script_on pieces ≡ true
recognised first pieces i h =
    let tail : pieces ≡ part h.script ++ (part h.region ++ h.variants) = ap (drop 1) h.pieces_are in
    subst (λ l. may_be_script_on l ≡ true) (sym tail)
    (perhaps-true shaped_script may_be_region_on h.script (part h.region ++ h.variants)
    (shaped-from is_script titlecase i.script h.script h.is_script h.script_is)
    (perhaps-true shaped_region may_be_variants h.region h.variants
    (shaped-from is_region uppercase i.region h.region h.is_region h.region_is)
    (variants-true h.variants h.are_variants)))

-- ---- what one step takes

module _ (is : List ℕ → Bool) (case : List ℕ → List ℕ) where
  taken-left : (pieces : List (List ℕ))
      → part (taken is case pieces) ++ left_behind is case pieces ≡ pieces
  taken-left [] = refl
  taken-left (p ∷ pieces) = go (is (case p))
    where
      go : (b : Bool) → part (cond b (Some p) None) ++ cond b pieces (p ∷ pieces) ≡ p ∷ pieces
      go true = refl
      go false = refl

  taken-shape : (pieces : List (List ℕ))
      → IfSome (option_map case (taken is case pieces)) (λ t. is t ≡ true)
  taken-shape [] = tt
  taken-shape (p ∷ pieces) = go (is (case p)) refl
    where
      go : (b : Bool) → is (case p) ≡ b
          → IfSome (option_map case (cond b (Some p) None)) (λ t. is t ≡ true)
      go true e = e
      go false e = tt

  -- it took a piece of the shape, or the first piece has another one
  taken-first : (pieces : List (List ℕ))
      → MatchOption (taken is case pieces) (IfSome (first_piece pieces) (λ p. is (case p) ≡ false))
      (λ p. is (case p) ≡ true)
  taken-first [] = tt
  taken-first (p ∷ pieces) = go (is (case p)) refl
    where
      go : (b : Bool) → is (case p) ≡ b
          → MatchOption (cond b (Some p) None) (is (case p) ≡ false) (λ q. is (case q) ≡ true)
      go true e = e
      go false e = e

-- ---- the whole

-- the pieces behind a language that a reader took, and the first that it left
module _ (script region : Option (List ℕ)) (front : List (List ℕ)) (stop : List ℕ)
    (no_variant : shaped_variant stop ≡ false) where
  abbrev behind_script : List (List ℕ) → List (List ℕ)
  behind_script rest = part region ++ (front ++ stop ∷ rest)

  first-front : (rest : List (List ℕ))
      → first_piece (front ++ stop ∷ rest) ≡ first_piece (front ++ stop ∷ [])
  first-front rest = go front
    where
      go : (l : List (List ℕ)) → first_piece (l ++ stop ∷ rest) ≡ first_piece (l ++ stop ∷ [])
      go [] = refl
      go (p ∷ l) = refl

  first-region : (rest : List (List ℕ))
      → first_piece (behind_script rest) ≡ first_piece (behind_script [])
  first-region rest = go region
    where
      go : (o : Option (List ℕ))
          → first_piece (part o ++ (front ++ stop ∷ rest))
          ≡ first_piece (part o ++ (front ++ stop ∷ []))
      go None = first-front rest
      go (Some p) = refl

  module _ (rest : List (List ℕ))
      (no_region :
      MatchOption region
      (IfSome (first_piece (front ++ stop ∷ rest)) (λ p. shaped_region p ≡ false))
      (λ p. shaped_region p ≡ true))
      (no_script :
      MatchOption script
      (IfSome (first_piece (behind_script rest)) (λ p. shaped_script p ≡ false))
      (λ p. shaped_script p ≡ true)) where
    -- with any pieces behind that one
    regions-false : (more : List (List ℕ)) → may_be_region_on (behind_script more) ≡ false
    regions-false more =
        perhaps-false shaped_region may_be_variants region (front ++ stop ∷ more)
        (variants-false front more stop no_variant) refl (go region no_region)
      where
        go : (o : Option (List ℕ))
            → MatchOption o
            (IfSome (first_piece (front ++ stop ∷ rest)) (λ p. shaped_region p ≡ false))
            (λ p. shaped_region p ≡ true)
            → MatchOption o
            (IfSome (first_piece (front ++ stop ∷ more)) (λ p. shaped_region p ≡ false))
            (λ p. may_be_variants (p ∷ (front ++ stop ∷ more)) ≡ false)
        go None h =
            subst (λ o. IfSome o (λ p. shaped_region p ≡ false))
            (first-front rest ∙ sym (first-front more)) h
        go (Some p) h = rw (region-variant p h) refl

    scripts-false : (more : List (List ℕ))
        → may_be_script_on (part script ++ behind_script more) ≡ false
    scripts-false more =
        perhaps-false shaped_script may_be_region_on script (behind_script more)
        (regions-false more) refl (go script no_script)
      where
        go : (o : Option (List ℕ))
            → MatchOption o
            (IfSome (first_piece (behind_script rest)) (λ p. shaped_script p ≡ false))
            (λ p. shaped_script p ≡ true)
            → MatchOption o
            (IfSome (first_piece (behind_script more)) (λ p. shaped_script p ≡ false))
            (λ p. may_be_region_on (p ∷ behind_script more) ≡ false)
        go None h =
            subst (λ o. IfSome o (λ p. shaped_script p ≡ false))
            (first-region rest ∙ sym (first-region more)) h
        go (Some p) h = rw (script-region p h, script-variant p h) refl

    no_identifier : (first : List ℕ) (more : List (List ℕ))
        → AreNoIdentifier (first ∷ (part script ++ behind_script more))
    no_identifier first more i h = false≢true (sym (scripts-false more) ∙ recognised first _ i h)

-- the steps of a reader, one after another
pub record Steps (pieces left : List (List ℕ)) (i : Identifier) : Type 0 where
  pub variants : List (List ℕ)
  pub is_language : IfSome (first_piece pieces) (λ p. IsLanguage (lowercase p))
  pub language_is : i.language
      ≡ option_and_then (λ p. language_of (lowercase p)) (first_piece pieces)
  pub script_is : i.script ≡ option_map titlecase (taken is_script titlecase (drop 1 pieces))
  pub region_is : i.region
      ≡ option_map uppercase
      (taken is_region uppercase (left_behind is_script titlecase (drop 1 pieces)))
  pub variants_are :
      TakesVariants
      (left_behind is_region uppercase (left_behind is_script titlecase (drop 1 pieces))) variants
      left
  pub ascending : IsAscendingOf variants i.variants
  pub stop : BeginsWithNoVariant left

no_texts : (texts : List (List ℕ)) → IsAscendingOf [] texts → texts ≡ []
no_texts [] h = refl
no_texts (text ∷ texts) h =
    let (k, below, is) = (h.same text).0 (0, omega arith, refl) in absurd (omega (arith, below))

nothing_of : (i : Identifier) → i.language ≡ None → i.script ≡ None → i.region ≡ None
    → i.variants ≡ [] → i ≡ nothing
nothing_of i l s r v k = record { language = l k; script = s k; region = r k; variants = v k }

none_before : (front left : List (List ℕ)) → front ++ left ≡ [] → (front ≡ []) × (left ≡ [])
none_before [] left e = (refl, e)
none_before (p ∷ front) left e = cc

module _ (left : List (List ℕ)) (i : Identifier) where
  steps-nothing : Steps [] left i → Reads [] left i
  steps-nothing h =
      let (none, rest) = none_before h.variants_are.front left h.variants_are.parts in
      let variants : h.variants ≡ [] = h.variants_are.are ∙ ap (map lowercase) none in (
        rest,
        nothing_of i h.language_is h.script_is h.region_is
            (no_texts i.variants (subst (λ l. IsAscendingOf l i.variants) variants h.ascending)),
      )

  module _ (first : List ℕ) (pieces : List (List ℕ)) (h : Steps (first ∷ pieces) left i) where
    abbrev script : Option (List ℕ)
    script = taken is_script titlecase pieces

    abbrev past_script : List (List ℕ)
    past_script = left_behind is_script titlecase pieces

    abbrev region : Option (List ℕ)
    region = taken is_region uppercase past_script

    abbrev past_region : List (List ℕ)
    past_region = left_behind is_region uppercase past_script

    abbrev front : List (List ℕ)
    front = h.variants_are.front

    -- the pieces behind the language, part by part
    parts : part script ++ (part region ++ (front ++ left)) ≡ pieces
    parts =
        ap (λ l. part script ++ (part region ++ l)) h.variants_are.parts
        ∙ ap (λ l. part script ++ l) (taken-left is_region uppercase past_script)
        ∙ taken-left is_script titlecase pieces

    abbrev before : List (List ℕ)
    before = first ∷ (part script ++ (part region ++ front))

    before-append : (l : List (List ℕ))
        → before ++ l ≡ first ∷ (part script ++ (part region ++ (front ++ l)))
    before-append l =
        ap (λ k. first ∷ k) (append_assoc (part script) (part region ++ front) l)
        ∙ ap (λ k. first ∷ (part script ++ k)) (append_assoc (part region) front l)

    are : AreIdentifier before i
    are = record {
      language = first;
      script = script;
      region = region;
      variants = front;
      pieces_are = refl;
      is_language = h.is_language;
      is_script = rw h.script_is (taken-shape is_script titlecase pieces);
      is_region = rw h.region_is (taken-shape is_region uppercase past_script);
      are_variants = h.variants_are.shapes;
      language_is = h.language_is;
      script_is = h.script_is;
      region_is = h.region_is;
      variants_are = subst (λ l. IsAscendingOf l i.variants) h.variants_are.are h.ascending;
    }

    module _ (stop : List ℕ) (rest : List (List ℕ)) (is : left ≡ stop ∷ rest) where
      past_region_is : past_region ≡ front ++ stop ∷ rest
      past_region_is = sym h.variants_are.parts ∙ ap (λ l. front ++ l) is

      past_script_is : past_script ≡ part region ++ (front ++ stop ∷ rest)
      past_script_is = sym (taken-left is_region uppercase past_script)
          ∙ ap (λ l. part region ++ l) past_region_is

      no_variant : shaped_variant stop ≡ false
      no_variant = subst BeginsWithNoVariant is h.stop

      no_region :
          MatchOption region
          (IfSome (first_piece (front ++ stop ∷ rest)) (λ p. shaped_region p ≡ false))
          (λ p. shaped_region p ≡ true)
      no_region = go region past_script past_script_is (taken-first is_region uppercase past_script)
        where
          go : (o : Option (List ℕ)) (l : List (List ℕ)) → l ≡ part o ++ (front ++ stop ∷ rest)
              → MatchOption o (IfSome (first_piece l) (λ p. shaped_region p ≡ false))
              (λ p. shaped_region p ≡ true)
              → MatchOption o
              (IfSome (first_piece (front ++ stop ∷ rest)) (λ p. shaped_region p ≡ false))
              (λ p. shaped_region p ≡ true)
          go None l e g = subst (λ k. IfSome (first_piece k) (λ p. shaped_region p ≡ false)) e g
          go (Some p) l e g = g

      pieces_are : pieces ≡ part script ++ (part region ++ (front ++ stop ∷ rest))
      pieces_are = sym (taken-left is_script titlecase pieces)
          ∙ ap (λ l. part script ++ l) past_script_is

      no_script :
          MatchOption script
          (IfSome (first_piece (part region ++ (front ++ stop ∷ rest)))
          (λ p. shaped_script p ≡ false)) (λ p. shaped_script p ≡ true)
      no_script = go script pieces pieces_are (taken-first is_script titlecase pieces)
        where
          go : (o : Option (List ℕ)) (l : List (List ℕ))
              → l ≡ part o ++ (part region ++ (front ++ stop ∷ rest))
              → MatchOption o (IfSome (first_piece l) (λ p. shaped_script p ≡ false))
              (λ p. shaped_script p ≡ true)
              → MatchOption o
              (IfSome (first_piece (part region ++ (front ++ stop ∷ rest)))
              (λ p. shaped_script p ≡ false)) (λ p. shaped_script p ≡ true)
          go None l e g = subst (λ k. IfSome (first_piece k) (λ p. shaped_script p ≡ false)) e g
          go (Some p) l e g = g

      -- with whatever stands behind the piece that is left
      none : (more : List (List ℕ))
          → AreNoIdentifier (first ∷ (part script ++ (part region ++ (front ++ stop ∷ more))))
      none more =
          no_identifier script region front stop no_variant rest no_region no_script first more

      stops_at : AreNoIdentifier (before ++ stop ∷ [])
      stops_at = subst AreNoIdentifier (sym (before-append (stop ∷ []))) (none [])

      none_whole : AreNoIdentifier (first ∷ pieces)
      none_whole = subst AreNoIdentifier (ap (λ l. first ∷ l) (sym pieces_are)) (none rest)

    stops : Stops before left
    stops = go left refl
      where
        go : (l : List (List ℕ)) → left ≡ l → Stops before l
        go [] e = tt
        go (stop ∷ rest) e = stops_at stop rest e

    steps-up_to : IsReadUpTo (first ∷ pieces) left i
    steps-up_to = record {
      before = before;
      parts = before-append left ∙ ap (λ l. first ∷ l) parts;
      are = are;
      stops = stops;
    }

    steps-none : left ≢ [] → AreNoIdentifier (first ∷ pieces)
    steps-none some = go left refl
      where
        go : (l : List (List ℕ)) → left ≡ l → AreNoIdentifier (first ∷ pieces)
        go [] e = absurd (some e)
        go (stop ∷ rest) e = none_whole stop rest e

pub steps-reads : (pieces left : List (List ℕ)) (i : Identifier) → Steps pieces left i
    → Reads pieces left i
steps-reads [] left i h = steps-nothing left i h
steps-reads (first ∷ pieces) left i h = steps-up_to left i first pieces h

-- what a misfit says of all the pieces
pub record Misfit (pieces left : List (List ℕ)) (i : Identifier) : Type 0 where
  pub language : BeginsWithLanguage pieces
  pub none : AreNoIdentifier pieces
  pub up_to : IsReadUpTo pieces left i

pub steps-misfit : (pieces left : List (List ℕ)) (i : Identifier) → Steps pieces left i → left ≢ []
    → Misfit pieces left i
steps-misfit [] left i h some = absurd (some (steps-nothing left i h).0)
steps-misfit (first ∷ pieces) left i h some = record {
  language = h.is_language;
  none = steps-none left i first pieces h some;
  up_to = steps-up_to left i first pieces h;
}

-- the pieces that were taken stand before those that are left
pub steps-suffix : (pieces front left : List (List ℕ))
    → front ++ left
    ≡ left_behind is_region uppercase (left_behind is_script titlecase (drop 1 pieces))
    → (taken : List (List ℕ)) × (taken ++ left ≡ pieces)
steps-suffix [] front left e = (front, e)
steps-suffix (first ∷ pieces) front left e =
    let past = left_behind is_script titlecase pieces in
    let script = part (taken is_script titlecase pieces) in
    let region = part (taken is_region uppercase past) in (
      first ∷ (script ++ (region ++ front)),
      ap (λ k. first ∷ k)
          (append_assoc script (region ++ front) left
          ∙ ap (λ k. script ++ k) (append_assoc region front left)
          ∙ ap (λ l. script ++ (region ++ l)) e
          ∙ ap (λ l. script ++ l) (taken-left is_region uppercase past)
          ∙ taken-left is_script titlecase pieces),
    )

-- a piece is left where a look found one
pub some_left : (pieces : List (List ℕ)) (o : Option (Bor (List ℕ)))
    → option_copied o ≡ first_piece pieces → is_some o ≡ true
    → pieces ≢ []
some_left pieces None e some = absurd (false≢true some)
some_left [] (Some p) e some = cc
some_left (p ∷ pieces) (Some q) e some = λ k. cc

-- ---- of all the pieces of a text

pieces_of-some : (bytes : List ℕ) → pieces_of bytes ≢ []
pieces_of-some bytes e = absurd (omega (arith, length-slice_split is_separator bytes, ap length e))

reads-id : (bytes : List ℕ) (pieces left : List (List ℕ)) (i : Identifier)
    → pieces ≡ pieces_of bytes → left ≡ []
    → Reads pieces left i → id_of bytes i
reads-id bytes [] left i is none h = absurd (pieces_of-some bytes (sym is))
reads-id bytes (p ∷ pieces) left i is none h =
    subst (λ l. AreIdentifier l i)
    (sym (append-nil h.before) ∙ ap (λ l. h.before ++ l) (sym none) ∙ h.parts ∙ is) h.are

module _ (bytes : List ℕ) (pieces left : List (List ℕ)) (is : pieces ≡ pieces_of bytes) where
  pub reads-ok : (r : Result Identifier ParserError) → IfOk r (Reads pieces left)
      → OnOk r (false ≡ false → left ≡ []) → IfOk r (id_of bytes)
  reads-ok (Ok i) h whole = reads-id bytes pieces left i is (whole refl) h
  reads-ok (Err e) h whole = tt

  pub refuses-err : (r : Result Identifier ParserError) → IfErr r (Refuses false pieces left)
      → IfErr r (IsParserFault bytes)
  refuses-err (Ok i) h = tt
  refuses-err (Err InvalidLanguage) h = subst BeginsWithNoLanguage is h.0
  refuses-err (Err InvalidSubtag) h =
      (subst BeginsWithLanguage is h.1, subst AreNoIdentifier is h.2)
  refuses-err (Err NoMemory) h = tt
