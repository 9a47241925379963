-- Over an empty registry the printed text of a data locale without subdivision asks for that
-- locale.
use Rattle.std.proofs.Common.{◌≡◌, ◌≤◌, ℕ, Bool, true, false, cond, inl, List, [], ◌∷◌, ◌++◌}
use Rattle.std.proofs.Common.{Option, Some, None, map, length, refl, sym, ap, ◌∙◌, subst}
use Rattle.std.proofs.Common.{append-nil, arith}
use Rattle.std.specs.Prelude.{◌&&◌, IfSome, codes}
use Rattle.std.specs.Char.{is_ascii_lowercase}
use Rattle.std.specs.List.{All, find, list_all}
use Rattle.std.specs.List.Sorted.{IsStrictlySortedBy}
use Rattle.std.specs.Option.{option_map}
use Rattle.std.specs.Str.{bytes_eq}
use Rattle.std.proofs.lemmas.Bool.Decides.{nat_tests}
use Rattle.std.proofs.lemmas.List.Elements.{All-nil, All-cons}
use Rattle.std.proofs.lemmas.Slice.Eq.{bytes_eq-Decides}
use Rattle.icu_locale_core.specs.Locale.{IsLocale, Locale, print}
use Rattle.icu_locale_core.specs.Shapes.{IsLanguage, IsRegion, IsScript, IsVariant, is_language}
use Rattle.icu_locale_core.specs.Shapes.{is_region, is_script, is_variant}
use Rattle.language_tags.specs.PrivateUse.{is_private_use}
use Rattle.language_tags_grammar.specs.Grandfathered.{grandfathered, grandfathereds}
use Rattle.language_tags_grammar.specs.Grandfathered.{is_grandfathered}
use Rattle.language_tags_grammar.specs.Lemmas.KeptLaws.{clean-append, one-clean, pieces-print}
use Rattle.language_tags_grammar.specs.Lemmas.KeptLaws.{region-clean, script-clean, smalls-clean}
use Rattle.language_tags_grammar.specs.Lemmas.PartsLaws.{letters-small, region-upper, script-title}
use Rattle.language_tags_grammar.specs.Lemmas.PartsLaws.{small-lowercase, variant-small}
use Rattle.language_tags_grammar.specs.Lemmas.PieceLaws.{pieces-lowercase}
use Rattle.language_tags_grammar.specs.Lemmas.PrivateLaws.{begins_otherwise}
use Rattle.language_tags_grammar.specs.Pieces.{joined, lowercase, pieces, titlecase, uppercase}
use Rattle.language_tags_grammar.specs.Shapes.{AreParts}
use Rattle.language_tags_grammar.specs.Tag.{Plain, Whole, at_most_one, front_of, print as tag_text}
use Rattle.language_tags_grammar.specs.Tag.{written}
use Rattle.language_tags_grammar.specs.TagOf.{IsTagOf, langtag, whole}
use Rattle.unic_langid_impl.specs.Identifier.{Ascend, Identifier}
use Rattle.unic_langid_impl.specs.Pieces.{pieces_of}
use Rattle.unic_langid_impl.specs.Reading.{id_of}
use Rattle.unic_langid_impl.specs.Subtags.{is_und, language_of, language_text}
use Rattle.wanted_locale.specs.Laws.{PrintedIsWanted, empty_registry}
use Rattle.wanted_locale.specs.Wanted.{HasIdentifier, IsWantedOf, least}
use Rattle.wanted_locale.proofs.AnyCase.{in_any_case, titlecase-lowercase, uppercase-lowercase}
use Rattle.wanted_locale.proofs.EmptyRegistry.{parts_of, parts_stay, whole_stays}
use Rattle.wanted_locale.proofs.PrintedText.{pieces_of-joined, print-is, subtags}

-- what is found passes the test
find_passes : (test : List ℕ → Bool) (gs : List (List ℕ)) (g : List ℕ) → find test gs ≡ Some g
    → test g ≡ true
find_passes test [] g e = cc
find_passes test (x ∷ gs) g e = by (find_passes test gs g) (test x) refl e
  where
    by : (find test gs ≡ Some g → test g ≡ true) → (b : Bool) → test x ≡ b
        → cond b (Some x) (find test gs) ≡ Some g → test g ≡ true
    by rest true passes f = let same : x ≡ g = cc in ap test (sym same) ∙ passes
    by rest false passes f = rest f

-- a grandfathered tag is its text without case
found_lowercase : (text g : List ℕ) → grandfathered text ≡ Some g → lowercase g ≡ lowercase text
found_lowercase text g e =
    (bytes_eq-Decides (lowercase g) (lowercase text)).0
    (find_passes (λ h. bytes_eq (lowercase h) (lowercase text)) grandfathereds g e)

-- no language is `x`
x_is_short : (t : List ℕ) → IsLanguage t → t ≡ codes "x" → ⊥
x_is_short t h e = let clash : false ≡ true = ap is_language (sym e) ∙ h in cc

-- a locale's subtags as an identifier
abbrev identifier_of : Locale → Identifier
identifier_of l =
    record {
      language = language_of l.language;
      script = l.script;
      region = l.region;
      variants = at_most_one l.variant;
    }

-- a script is in its own case
script-same : (o : Option (List ℕ)) → IfSome o IsScript → o ≡ option_map titlecase o
script-same None h = refl
script-same (Some s) h = ap Some (sym (script-title s h) ∙ titlecase-lowercase s)

-- a region too
region-same : (o : Option (List ℕ)) → IfSome o IsRegion → o ≡ option_map uppercase o
region-same None h = refl
region-same (Some s) h = ap Some (sym (region-upper s h) ∙ uppercase-lowercase s)

-- and a variant
variant-same : (o : Option (List ℕ)) → IfSome o IsVariant
    → map lowercase (at_most_one o) ≡ at_most_one o
variant-same None h = refl
variant-same (Some s) h = λ i. small-lowercase s (variant-small s h) i ∷ []

-- at most one variant has its shape
one_variant : (o : Option (List ℕ)) → IfSome o IsVariant → All IsVariant (at_most_one o)
one_variant None h = All-nil IsVariant
one_variant (Some s) h = All-cons IsVariant s [] h (All-nil IsVariant)

-- in the words of a tag's shapes
all_variants : (o : Option (List ℕ)) → IfSome o IsVariant
    → list_all is_variant (at_most_one o) ≡ true
all_variants None h = refl
all_variants (Some s) h = λ i. h i && true

-- and ascends
ascends : (o : Option (List ℕ)) → Ascend (at_most_one o)
unfolding IsStrictlySortedBy
ascends None = tt
ascends (Some s) = (tt, tt)

-- the language that a text names has that text
language-is : (t : List ℕ) → t ≡ language_text (language_of t)
language-is t = by (is_und t) refl
  where
    by : (b : Bool) → is_und t ≡ b → t ≡ language_text (cond b None (Some t))
    by true e = (bytes_eq-Decides t _).0 e
    by false e = refl

module _ (l : Locale) (h : IsLocale l) (none : l.subdivision ≡ None) where
  -- the language is of small letters
  letters : list_all is_ascii_lowercase l.language ≡ true
  letters = let shape : IsLanguage l.language = h.language in grind (arith, nat_tests)

  -- and short
  short : length l.language ≤ 3
  short = let shape : IsLanguage l.language = h.language in grind (arith, nat_tests)

  -- the parts have their shapes
  shapes : AreParts (parts_of l)
  shapes = record {
    language = (let shape : IsLanguage l.language = h.language in grind (arith, nat_tests));
    extlangs = refl;
    few = omega arith;
    short = inl refl;
    script = h.script;
    region = h.region;
    variants = all_variants l.variant h.variant;
    extensions = tt;
    private = refl;
  }

  -- the text is that of the parts up to the variants
  text_is : print l ≡ front_of (Plain (parts_of l))
  text_is = print-is l none

  -- and of all of them
  written_is : written (parts_of l) ≡ l.language ∷ subtags l
  written_is =
      ap (λ vs. l.language ∷ (at_most_one l.script ++ (at_most_one l.region ++ vs)))
      (append-nil (at_most_one l.variant))

  -- its pieces
  pieces_are : pieces_of (print l) ≡ l.language ∷ subtags l
  pieces_are =
      ap pieces_of (print-is l none)
      ∙ pieces_of-joined l.language (subtags l)
      (smalls-clean l.language (letters-small l.language letters))
      (clean-append (at_most_one l.script) _ (one-clean is_script script-clean l.script h.script)
      (clean-append (at_most_one l.region) _ (one-clean is_region region-clean l.region h.region)
      (one-clean is_variant (λ x e. smalls-clean x (variant-small x e)) l.variant h.variant)))

  -- the language is in lower case
  lower : lowercase l.language ≡ l.language
  lower = small-lowercase l.language (letters-small l.language letters)

  -- the text is the identifier
  is_identifier : id_of (print l) (identifier_of l)
  is_identifier =
      let variants = variant-same l.variant h.variant in record {
        language = l.language;
        script = l.script;
        region = l.region;
        variants = at_most_one l.variant;
        pieces_are = pieces_are;
        is_language =
            (let shape : IsLanguage l.language = h.language in rw lower (grind (arith, nat_tests)));
        is_script = h.script;
        is_region = h.region;
        are_variants = rw variants (one_variant l.variant h.variant);
        language_is = ap language_of (sym lower);
        script_is = script-same l.script h.script;
        region_is = region-same l.region h.region;
        variants_are =
            rw variants (record { ascend = ascends l.variant; same = λ t. (λ g. g, λ g. g) });
      }

  -- where the text is a grandfathered tag it stays that tag, and is read in that spelling
  grandfathered_wants : (g : List ℕ) → grandfathered (print l) ≡ Some g
      → HasIdentifier empty_registry (print l) (identifier_of l)
  grandfathered_wants g e = record {
    front = g;
    has = record {
      canonical = Whole g;
      has = record {
        tag = Whole g;
        parsed = whole g e refl;
        canon = whole_stays (is_private_use (Whole g)) (is_grandfathered g) g;
      };
      front_is = refl;
    };
    is = in_any_case g (print l) (identifier_of l) (found_lowercase (print l) g e) is_identifier;
  }

  -- any other text has the parts of the locale
  is_langtag : grandfathered (print l) ≡ None → IsTagOf (print l) (Plain (parts_of l))
  is_langtag e =
      let text : print l ≡ joined (written (parts_of l)) = text_is ∙ ap joined (sym written_is) in
      let cut : pieces (print l) ≡ written (parts_of l) =
      ap pieces text ∙ pieces-print (parts_of l) shapes in
      langtag e
      (begins_otherwise (print l) l.language _ cut
      (λ x. absurd (x_is_short l.language h.language (sym lower ∙ x))))
      (parts_of l)
      (record { shapes = shapes; in_order = pieces-lowercase (print l) ∙ ap (map lowercase) cut })
      refl

  -- which stay
  parts_want : grandfathered (print l) ≡ None
      → HasIdentifier empty_registry (print l) (identifier_of l)
  parts_want e = record {
    front = print l;
    has = record {
      canonical = Plain (parts_of l);
      has = record {
        tag = Plain (parts_of l);
        parsed = is_langtag e;
        canon =
            parts_stay l h short (is_private_use (Plain (parts_of l)))
            (is_grandfathered (tag_text (Plain (parts_of l))));
      };
      front_is = text_is;
    };
    is = is_identifier;
  }

  -- so either way it asks for the identifier
  wants : (o : Option (List ℕ)) → grandfathered (print l) ≡ o
      → HasIdentifier empty_registry (print l) (identifier_of l)
  wants None e = parts_want e
  wants (Some g) e = grandfathered_wants g e

  -- of one variant the least is that one
  least-one : (o : Option (List ℕ)) → o ≡ least (at_most_one o)
  least-one None = refl
  least-one (Some s) = refl

  -- and for the locale
  is_wanted : IsWantedOf empty_registry (print l) l
  is_wanted = record {
    identifier = identifier_of l;
    has = wants (grandfathered (print l)) refl;
    short = subst (λ t. length t ≤ 3) (language-is l.language) short;
    locale = λ i. record {
      language = language-is l.language i;
      script = l.script;
      region = l.region;
      variant = least-one l.variant i;
      subdivision = none i;
    };
  }

-- the law, as it is stated
pub PrintedIsWanted-holds : PrintedIsWanted
PrintedIsWanted-holds = is_wanted
