-- Canonical parts from a text to which they were appended one by one.
use Rattle.std.proofs.Common.{◌≡◌, ℕ, ◌+◌, ◌≤◌, Bool, true, false, ◌⊎◌, inl, inr, List, [], ◌∷◌}
use Rattle.std.proofs.Common.{◌++◌, Option, Some, None, map, length, refl, sym, ap, ◌∙◌, arith}
use Rattle.std.proofs.Common.{append_assoc, append-nil, length-append, subst, cond}
use Rattle.std.specs.Prelude.{IfSome, IsTrue, is_some, unwrap_or}
use Rattle.std.specs.List.{AllByRecursion, flat_map, list_all}
use Rattle.std.specs.List.Sorted.{IsPermutation, IsSortedBy}
use Rattle.std.specs.Option.{option_map}
use Rattle.std.specs.Str.{byte}
use Rattle.language_tags_grammar.specs.Kept.{EndAt, KeepsParts, parts_at}
use Rattle.language_tags_grammar.specs.Pieces.{dashed, joined, part_text, pieces}
use Rattle.language_tags_grammar.specs.Shapes.{AreParts, IsExtension, is_extlang, is_language}
use Rattle.language_tags_grammar.specs.Shapes.{is_private, is_region, is_script, is_variant}
use Rattle.language_tags_grammar.specs.Tag.{Extension, Parts, Tag, Whole, Plain, at_most_one}
use Rattle.language_tags_grammar.specs.Tag.{extension_pieces, extensions_of, extlangs_of}
use Rattle.language_tags_grammar.specs.Tag.{language_of, private_of, private_pieces, region_of}
use Rattle.language_tags_grammar.specs.Tag.{script_of, variants_of, written}
use Rattle.language_tags_grammar.specs.declared.ends.Ends.{Ends}
use Rattle.language_tags_grammar.specs.Lemmas.KeptLaws.{clean-append, dashed-append, E, P, R, S, V}
use Rattle.language_tags_grammar.specs.Lemmas.KeptLaws.{X, each-clean, joined-dashed, keeps}
use Rattle.language_tags_grammar.specs.Lemmas.KeptLaws.{one-clean, parts_at-text, pieces-dashed}
use Rattle.language_tags_grammar.specs.Lemmas.KeptLaws.{region-clean, script-clean, smalls-clean}
use Rattle.language_tags_grammar.specs.Lemmas.KeptLaws.{text-parts}
use Rattle.language_tags_grammar.specs.Lemmas.PartsLaws.{extlang-small, language-small}
use Rattle.language_tags_registry.specs.Registry.{Tables, value_of}
use Rattle.language_tags.specs.Canon.{AreCanonical, extlang_value, is_before, not_written, replaced}
use Rattle.language_tags.specs.Canon.{unless_suppressed}
use Rattle.language_tags.specs.CanonText.{IsShaped, dash_text}

-- ---- one part

pub dash-part : (ps : List (List ℕ)) → dash_text (part_text ps) ≡ dashed ps
dash-part [] = refl
dash-part (p ∷ ps) = ap (λ t. byte "-" ∷ t) (joined-dashed p ps)

pub dash-one : (o : Option (List ℕ)) → dash_text o ≡ dashed (at_most_one o)
dash-one None = refl
dash-one (Some t) = ap (λ u. byte "-" ∷ u) (sym (append-nil t))

-- ---- the parts before the variants

module _ (language : List ℕ) (extlangs : List (List ℕ)) (script region : Option (List ℕ))
    (t₀ t₁ t₂ t₃ : List ℕ)
    (is₀ : t₀ ≡ language) (is₁ : t₁ ≡ t₀ ++ dashed extlangs)
    (is₂ : t₂ ≡ t₁ ++ dashed (at_most_one script))
    (is₃ : t₃ ≡ t₂ ++ dashed (at_most_one region)) where
  front : List (List ℕ)
  front = extlangs ++ (at_most_one script ++ at_most_one region)

  front-text : t₃ ≡ language ++ dashed (extlangs ++ (at_most_one script ++ at_most_one region))
  front-text =
      is₃
      ∙ ap (λ t. t ++ dashed (at_most_one region)) (is₂
      ∙ ap (λ t. t ++ dashed (at_most_one script)) (is₁ ∙ ap (λ t. t ++ dashed extlangs) is₀))
      ∙ regroup language (dashed extlangs) (dashed (at_most_one script))
      (dashed (at_most_one region))
      ∙ ap (λ t. language ++ t)
      (sym (dashed-append extlangs (at_most_one script ++ at_most_one region)
      ∙ ap (λ t. dashed extlangs ++ t) (dashed-append (at_most_one script) (at_most_one region))))
    where
      regroup : (a b c d : List ℕ) → ((a ++ b) ++ c) ++ d ≡ a ++ (b ++ (c ++ d))
      regroup a b c d = simp append_assoc

  pub front-pieces : is_language language ≡ true → list_all is_extlang extlangs ≡ true
      → IfSome script (λ s. IsTrue (is_script s))
      → IfSome region (λ r. IsTrue (is_region r))
      → pieces t₃ ≡ language ∷ (extlangs ++ (at_most_one script ++ at_most_one region))
  front-pieces l e s r =
      ap pieces front-text
      ∙ pieces-dashed language (extlangs ++ (at_most_one script ++ at_most_one region))
      (smalls-clean language (language-small language l))
      (clean-append extlangs _
      (each-clean is_extlang (λ x f. smalls-clean x (extlang-small x f)) extlangs e)
      (clean-append (at_most_one script) _ (one-clean is_script script-clean script s)
      (one-clean is_region region-clean region r)))

-- ---- all parts

module _ (q : Parts) (ends : Ends) (t₀ t₁ t₂ t₃ t₄ t₅ t₆ : List ℕ) where
  -- the parts stand there one by one, and the ends are where each of them ends
  pub record IsBuilt : Type 0 where
    pub language : t₀ ≡ q.language
    pub extlang : t₁ ≡ t₀ ++ E q
    pub script : t₂ ≡ t₁ ++ S q
    pub region : t₃ ≡ t₂ ++ R q
    pub variant : t₄ ≡ t₃ ++ V q
    pub extension : t₅ ≡ t₄ ++ X q
    pub private : t₆ ≡ t₅ ++ P q
    pub language_end : ends.language ≡ length t₀
    pub extlang_end : ends.extlang ≡ length t₁
    pub script_end : ends.script ≡ length t₂
    pub region_end : ends.region ≡ length t₃
    pub variant_end : ends.variant ≡ length t₄
    pub extension_end : ends.extension ≡ length t₅

  module _ (h : IsBuilt) where
    built-text : t₆ ≡ joined (written q)
    built-text =
        h.private
        ∙ ap (λ t. t ++ P q) (h.extension
        ∙ ap (λ t. t ++ X q) (h.variant
        ∙ ap (λ t. t ++ V q) (h.region
        ∙ ap (λ t. t ++ R q) (h.script
        ∙ ap (λ t. t ++ S q) (h.extlang
        ∙ ap (λ t. t ++ E q) h.language)))))
        ∙ regroup q.language (E q) (S q) (R q) (V q) (X q) (P q)
        ∙ sym (text-parts q)
      where
        regroup : (a b c d e f g : List ℕ)
            → (((((a ++ b) ++ c) ++ d) ++ e) ++ f) ++ g ≡ a ++ (b ++ (c ++ (d ++ (e ++ (f ++ g)))))
        regroup a b c d e f g = simp append_assoc

    built-ends : EndAt q ends
    built-ends = record {
      language = h.language_end ∙ ap length h.language;
      extlang = behind _ _ _ _ _ h.extlang_end h.language_end h.extlang;
      script = behind _ _ _ _ _ h.script_end h.extlang_end h.script;
      region = behind _ _ _ _ _ h.region_end h.script_end h.region;
      variant = behind _ _ _ _ _ h.variant_end h.region_end h.variant;
      extension = behind _ _ _ _ _ h.extension_end h.variant_end h.extension;
    }
      where
        behind : (m n : ℕ) (t u x : List ℕ) → m ≡ length u → n ≡ length t → u ≡ t ++ x
            → m ≡ n + length x
        behind m n t u x a b e = omega (arith, ap length e, length-append t x)

    pub built-keeps : AreParts q → KeepsParts t₆ ends (parts_at ends t₆)
    built-keeps shapes =
        subst (λ t. KeepsParts t ends (parts_at ends t)) (sym built-text)
        (keeps q ends built-ends shapes)

    pub built-parts : AreParts q → parts_at ends t₆ ≡ q
    built-parts shapes = ap (parts_at ends) built-text ∙ parts_at-text q ends built-ends shapes

-- ---- the shapes of canonical parts

-- extlangs stand there only behind a language that may have them
still-short : (b : Bool) (new old : List (List ℕ)) (m n : ℕ) → new ≡ cond b [] old
    → (old ≡ []) ⊎ (n ≤ 3) → (n ≤ 3 → m ≤ 3)
    → (new ≡ []) ⊎ (m ≤ 3)
still-short true new old m n e h short = inl e
still-short false new old m n e (inl f) short = inl (e ∙ f)
still-short false new old m n e (inr f) short = inr (short f)

still-extlangs : (b : Bool) (new old : List (List ℕ)) → new ≡ cond b [] old
    → list_all is_extlang old ≡ true → list_all is_extlang new ≡ true
still-extlangs true new old e h = ap (list_all is_extlang) e
still-extlangs false new old e h = ap (list_all is_extlang) e ∙ h

still-few : (b : Bool) (new old : List (List ℕ)) → new ≡ cond b [] old → length old ≤ 3
    → length new ≤ 3
still-few true new old e h = omega (arith, ap length e)
still-few false new old e h = omega (arith, ap length e, h)

still-private : (g : Tag) → IsShaped g → list_all is_private (private_of g) ≡ true
still-private (Whole text) h = absurd h
still-private (Plain p) h = h.private

old-extlangs : (g : Tag) → IsShaped g → list_all is_extlang (extlangs_of g) ≡ true
old-extlangs (Whole text) h = absurd h
old-extlangs (Plain p) h = h.extlangs

old-short : (g : Tag) → IsShaped g → (extlangs_of g ≡ []) ⊎ (length (language_of g) ≤ 3)
old-short (Whole text) h = absurd h
old-short (Plain p) h = h.short

-- ---- what the steps leave

pub record IsPushed (R : Tables) (g : Tag) (text : List ℕ) (ends : Ends) : Type 0 where
  pub language : List ℕ
  pub extlang : Option (List ℕ)
  pub script : Option (List ℕ)
  pub region : Option (List ℕ)
  pub extensions : List Extension
  pub private : Option (List ℕ)
  pub t₀ : List ℕ
  pub t₁ : List ℕ
  pub t₂ : List ℕ
  pub t₃ : List ℕ
  pub t₄ : List ℕ
  pub t₅ : List ℕ
  pub shaped : IsShaped g
  pub few : length (extlangs_of g) ≤ 1
  pub language_is : language
      ≡ unwrap_or (extlang_value R (extlangs_of g)) (replaced R.languages_preferred (language_of g))
  pub language_shape : IsTrue (is_language language)
  pub language_short : length (language_of g) ≤ 3 → length language ≤ 3
  pub extlang_is : at_most_one extlang
      ≡ cond (is_some (extlang_value R (extlangs_of g))) [] (extlangs_of g)
  pub script_is : script
      ≡ unless_suppressed (value_of R.languages_suppress_script language)
      (option_map (replaced R.scripts_preferred) (script_of g))
  pub script_shape : IfSome script (λ s. IsTrue (is_script s))
  pub region_is : region ≡ option_map (replaced R.regions_preferred) (region_of g)
  pub region_shape : IfSome region (λ r. IsTrue (is_region r))
  pub variants_shape : IsTrue (list_all is_variant
      (not_written (pieces t₃) (map (replaced R.variants_preferred) (variants_of g))))
  pub permutation : IsPermutation (extensions_of g) extensions
  pub order : IsSortedBy is_before extensions
  pub extensions_shape : AllByRecursion IsExtension extensions
  pub private_is : private ≡ part_text (private_pieces (private_of g))
  pub text₀ : t₀ ≡ language
  pub text₁ : t₁ ≡ t₀ ++ dash_text extlang
  pub text₂ : t₂ ≡ t₁ ++ dash_text script
  pub text₃ : t₃ ≡ t₂ ++ dash_text region
  pub text₄ : t₄ ≡ t₃
      ++ dashed (not_written (pieces t₃) (map (replaced R.variants_preferred) (variants_of g)))
  pub text₅ : t₅ ≡ t₄ ++ dashed (flat_map extension_pieces extensions)
  pub text₆ : text ≡ t₅ ++ dash_text private
  pub language_end : ends.language ≡ length t₀
  pub extlang_end : ends.extlang ≡ length t₁
  pub script_end : ends.script ≡ length t₂
  pub region_end : ends.region ≡ length t₃
  pub variant_end : ends.variant ≡ length t₄
  pub extension_end : ends.extension ≡ length t₅

module _ (R : Tables) (g : Tag) (text : List ℕ) (ends : Ends) (h : IsPushed R g text ends) where
  abbrev pub new_parts : Parts
  new_parts = record {
    language = h.language;
    extlangs = at_most_one h.extlang;
    script = h.script;
    region = h.region;
    variants = not_written (pieces h.t₃) (map (replaced R.variants_preferred) (variants_of g));
    extensions = h.extensions;
    private = private_of g;
  }

  new-extlangs : list_all is_extlang (at_most_one h.extlang) ≡ true
  new-extlangs =
      still-extlangs (is_some (extlang_value R (extlangs_of g))) (at_most_one h.extlang)
      (extlangs_of g) h.extlang_is
      (old-extlangs g h.shaped)

  new-shapes : AreParts new_parts
  new-shapes = record {
    language = h.language_shape;
    extlangs = new-extlangs;
    few =
        still-few (is_some (extlang_value R (extlangs_of g))) (at_most_one h.extlang)
        (extlangs_of g) h.extlang_is
        (omega (arith, h.few));
    short =
        still-short (is_some (extlang_value R (extlangs_of g))) (at_most_one h.extlang)
        (extlangs_of g) (length h.language)
        (length (language_of g)) h.extlang_is (old-short g h.shaped) h.language_short;
    script = h.script_shape;
    region = h.region_shape;
    variants = h.variants_shape;
    extensions = h.extensions_shape;
    private = still-private g h.shaped;
  }

  new-built : IsBuilt new_parts ends h.t₀ h.t₁ h.t₂ h.t₃ h.t₄ h.t₅ text
  new-built = record {
    language = h.text₀;
    extlang = h.text₁ ∙ ap (λ t. h.t₀ ++ t) (dash-one h.extlang);
    script = h.text₂ ∙ ap (λ t. h.t₁ ++ t) (dash-one h.script);
    region = h.text₃ ∙ ap (λ t. h.t₂ ++ t) (dash-one h.region);
    variant = h.text₄;
    extension = h.text₅;
    private = h.text₆ ∙ ap (λ o. h.t₅ ++ dash_text o) h.private_is
        ∙ ap (λ t. h.t₅ ++ t) (dash-part (private_pieces (private_of g)));
    language_end = h.language_end;
    extlang_end = h.extlang_end;
    script_end = h.script_end;
    region_end = h.region_end;
    variant_end = h.variant_end;
    extension_end = h.extension_end;
  }

  pub pushed-keeps : KeepsParts text ends (parts_at ends text)
  pushed-keeps = built-keeps new_parts ends h.t₀ h.t₁ h.t₂ h.t₃ h.t₄ h.t₅ text new-built new-shapes

  pub pushed-parts : parts_at ends text ≡ new_parts
  pushed-parts = built-parts new_parts ends h.t₀ h.t₁ h.t₂ h.t₃ h.t₄ h.t₅ text new-built new-shapes

  pub pushed-canonical : AreCanonical R g new_parts
  pushed-canonical = record {
    language = h.language_is;
    extlangs = h.extlang_is;
    script = h.script_is;
    region = h.region_is;
    variants = ap (λ w. not_written w (map (replaced R.variants_preferred) (variants_of g)))
        (front-pieces h.language
        (at_most_one h.extlang) h.script h.region h.t₀ h.t₁ h.t₂ h.t₃ new-built.language
        new-built.extlang
        new-built.script new-built.region h.language_shape new-extlangs h.script_shape
        h.region_shape);
    extensions = h.permutation;
    order = h.order;
    private = refl;
  }
