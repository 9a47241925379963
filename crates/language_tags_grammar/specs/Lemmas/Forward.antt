-- The scanner passes the pieces of a tag's parts, section by section.
use Rattle.std.proofs.Common.{◌≡◌, ℕ, suc, ◌+◌, ◌<◌, ◌≤◌, Bool, true, false, List, [], ◌∷◌, Result}
use Rattle.std.proofs.Common.{Ok, Err, length, refl, ap, ◌∙◌, cond, arith, add-one, nat_lt}
use Rattle.std.specs.Prelude.{◌==◌, ◌&&◌}
use Rattle.std.specs.Char.{is_ascii_digit, is_ascii_lowercase}
use Rattle.std.specs.List.{list_all}
use Rattle.std.specs.Str.{byte}
use Rattle.std.proofs.lemmas.Bool.Decides.{nat_tests}
use Rattle.language_tags_grammar.specs.Scan.{and_then, behind_extlang, behind_extlangs}
use Rattle.language_tags_grammar.specs.Scan.{behind_region, behind_script, in_place, is_single}
use Rattle.language_tags_grammar.specs.Scan.{is_small_region, is_small_script, opening, stage_after}
use Rattle.language_tags_grammar.specs.Shapes.{is_content, is_extlang, is_private, is_singleton}
use Rattle.language_tags_grammar.specs.Shapes.{is_small, is_variant}
use Rattle.language_tags_grammar.specs.declared.error.ParseError.{ParseError}
use Rattle.language_tags_grammar.specs.declared.error.ParseError.TheVariants.{EmptyExtension}
use Rattle.language_tags_grammar.specs.declared.error.ParseError.TheVariants.{InvalidSubtag}
use Rattle.language_tags_grammar.specs.declared.error.ParseError.TheVariants.{SubtagTooLong}
use Rattle.language_tags_grammar.specs.declared.error.ParseError.TheVariants.{EmptySubtag}
use Rattle.language_tags_grammar.specs.declared.error.ParseError.TheVariants.{TooManyExtlangs}
use Rattle.language_tags_grammar.specs.declared.stage.Stage.{Stage}
use Rattle.language_tags_grammar.specs.declared.stage.Stage.TheVariants.{Start, LongLanguage}
use Rattle.language_tags_grammar.specs.declared.stage.Stage.TheVariants.{Extlangs, Script, Region}
use Rattle.language_tags_grammar.specs.declared.stage.Stage.TheVariants.{Variant, Singleton}
use Rattle.language_tags_grammar.specs.declared.stage.Stage.TheVariants.{Extension, X, Private}
use Rattle.language_tags_grammar.specs.Lemmas.Flat.{Flat, grown}

-- the stage and the sections behind pieces
abbrev pub run : Stage → Flat → List (List ℕ) → Result (Stage × Flat) ParseError
run s f [] = Ok (s, f)
run s f (x ∷ ps) = and_then (λ next. run next (grown next f x) ps) (stage_after s x)

pub run_step : (s next : Stage) (f : Flat) (x : List ℕ) (rest : List (List ℕ))
    → stage_after s x ≡ Ok next
    → run s f (x ∷ rest) ≡ run next (grown next f x) rest
run_step s next f x rest e = ap (and_then (λ t. run t (grown t f x) rest)) e

-- ---- one piece

pub sized : (s : Stage) (x : List ℕ) → 1 ≤ length x → length x ≤ 8 → stage_after s x ≡ in_place s x
sized s x some few =
    let a : (length x == 0) ≡ false = grind (arith, nat_tests) in
    let b : nat_lt 8 (length x) ≡ false = grind (arith, nat_tests) in
    λ i. cond (a i) (Err EmptySubtag) (cond (b i) (Err SubtagTooLong) (in_place s x))

-- how far a stage is
abbrev pub rank : Stage → ℕ
rank Start = 0
rank LongLanguage = 1
rank (Extlangs n) = 1
rank Script = 2
rank Region = 3
rank Variant = 4
rank Extension = 5
rank Singleton = 6
rank X = 7
rank Private = 8

module _ (x : List ℕ) where
  no_script : is_small_script x ≡ false → behind_extlangs x ≡ behind_script x
  no_script e = ap (λ b. cond b (Ok Script) (behind_script x)) e

  no_region : is_small_region x ≡ false → behind_script x ≡ behind_region x
  no_region e = ap (λ b. cond b (Ok Region) (behind_region x)) e

  no_extlang : (n : ℕ) → is_extlang x ≡ false → behind_extlang n x ≡ behind_extlangs x
  no_extlang n e =
      ap
      (λ b. cond b (cond (nat_lt n 3) (Ok (Extlangs (n + 1))) (Err TooManyExtlangs))
      (behind_extlangs x)) e

  pub to_extlang : (n : ℕ) → is_extlang x ≡ true → n < 3
      → stage_after (Extlangs n) x ≡ Ok (Extlangs (suc n))
  to_extlang n e less =
      let below : nat_lt n 3 ≡ true = grind (arith, nat_tests) in
      sized (Extlangs n) x (grind (arith, nat_tests)) (grind (arith, nat_tests))
      ∙ (λ i. cond (e i) (cond (below i) (Ok (Extlangs (add-one n i))) (Err TooManyExtlangs))
      (behind_extlangs x))

  module _ (e : is_small_script x ≡ true) where
    script_sized : (s : Stage) → stage_after s x ≡ in_place s x
    script_sized s = sized s x (grind (arith, nat_tests)) (grind (arith, nat_tests))

    is_script : behind_extlangs x ≡ Ok Script
    is_script = ap (λ b. cond b (Ok Script) (behind_script x)) e

    script-no_extlang : is_extlang x ≡ false
    script-no_extlang = grind (arith, nat_tests)

    pub to_script : (s : Stage) → 1 ≤ rank s → rank s ≤ 1 → stage_after s x ≡ Ok Script
    to_script LongLanguage a b = script_sized LongLanguage ∙ is_script
    to_script (Extlangs n) a b =
        script_sized (Extlangs n) ∙ no_extlang n script-no_extlang ∙ is_script
    to_script Start a b = absurd (omega arith)
    to_script Script a b = absurd (omega arith)
    to_script Region a b = absurd (omega arith)
    to_script Variant a b = absurd (omega arith)
    to_script Singleton a b = absurd (omega arith)
    to_script Extension a b = absurd (omega arith)
    to_script X a b = absurd (omega arith)
    to_script Private a b = absurd (omega arith)

-- three digits are no extlang
digit_letter : (c : ℕ) → is_ascii_digit c ≡ true → is_ascii_lowercase c ≡ false
digit_letter c e = grind (arith, nat_tests)

region-no_extlang : (x : List ℕ) → is_small_region x ≡ true → is_extlang x ≡ false
region-no_extlang [] e = refl
region-no_extlang (c ∷ []) e = refl
region-no_extlang (c ∷ d ∷ []) e = refl
region-no_extlang (c ∷ d ∷ g ∷ []) e =
    let digit : is_ascii_digit c ≡ true = grind (arith, nat_tests) in
    let letter = digit_letter c digit in
    grind (arith, nat_tests)
region-no_extlang (c ∷ d ∷ g ∷ h ∷ x) e = grind (arith, nat_tests)

region-no_script : (x : List ℕ) → is_small_region x ≡ true → is_small_script x ≡ false
region-no_script x e = grind (arith, nat_tests)

variant-no_extlang : (x : List ℕ) → is_variant x ≡ true → is_extlang x ≡ false
variant-no_extlang x e = grind (arith, nat_tests)

variant-no_region : (x : List ℕ) → is_variant x ≡ true → is_small_region x ≡ false
variant-no_region x e = grind (arith, nat_tests)

variant-no_script : (x : List ℕ) → is_variant x ≡ true → is_small_script x ≡ false
variant-no_script [] e = refl
variant-no_script (c ∷ x) e = by (length (c ∷ x) == 4) refl
  where
    by : (b : Bool) → (length (c ∷ x) == 4) ≡ b
        → (b && (is_ascii_lowercase c && list_all is_ascii_lowercase x)) ≡ false
    by true four =
        let digit : is_ascii_digit c ≡ true = grind (arith, nat_tests) in
        ap (λ b. b && list_all is_ascii_lowercase x) (digit_letter c digit)
    by false other = refl

module _ (x : List ℕ) (e : is_small_region x ≡ true) where
  region_sized : (s : Stage) → stage_after s x ≡ in_place s x
  region_sized s = sized s x (grind (arith, nat_tests)) (grind (arith, nat_tests))

  is_region : behind_script x ≡ Ok Region
  is_region = ap (λ b. cond b (Ok Region) (behind_region x)) e

  pub to_region : (s : Stage) → 1 ≤ rank s → rank s ≤ 2 → stage_after s x ≡ Ok Region
  to_region LongLanguage a b =
      region_sized LongLanguage ∙ no_script x (region-no_script x e) ∙ is_region
  to_region (Extlangs n) a b =
      region_sized (Extlangs n) ∙ no_extlang x n (region-no_extlang x e)
      ∙ no_script x (region-no_script x e) ∙ is_region
  to_region Script a b = region_sized Script ∙ is_region
  to_region Start a b = absurd (omega arith)
  to_region Region a b = absurd (omega arith)
  to_region Variant a b = absurd (omega arith)
  to_region Singleton a b = absurd (omega arith)
  to_region Extension a b = absurd (omega arith)
  to_region X a b = absurd (omega arith)
  to_region Private a b = absurd (omega arith)

module _ (x : List ℕ) (e : is_variant x ≡ true) where
  variant_sized : (s : Stage) → stage_after s x ≡ in_place s x
  variant_sized s = sized s x (grind (arith, nat_tests)) (grind (arith, nat_tests))

  variant_first : behind_region x ≡ Ok Variant
  variant_first = ap (λ b. cond b (Ok Variant) (opening x)) e

  variant_third : behind_extlangs x ≡ Ok Variant
  variant_third = no_script x (variant-no_script x e) ∙ no_region x (variant-no_region x e)
      ∙ variant_first

  pub to_variant : (s : Stage) → 1 ≤ rank s → rank s ≤ 4 → stage_after s x ≡ Ok Variant
  to_variant LongLanguage a b = variant_sized LongLanguage ∙ variant_third
  to_variant (Extlangs n) a b =
      variant_sized (Extlangs n) ∙ no_extlang x n (variant-no_extlang x e) ∙ variant_third
  to_variant Script a b = variant_sized Script ∙ no_region x (variant-no_region x e) ∙ variant_first
  to_variant Region a b = variant_sized Region ∙ variant_first
  to_variant Variant a b = variant_sized Variant ∙ variant_first
  to_variant Start a b = absurd (omega arith)
  to_variant Singleton a b = absurd (omega arith)
  to_variant Extension a b = absurd (omega arith)
  to_variant X a b = absurd (omega arith)
  to_variant Private a b = absurd (omega arith)

-- a singleton
module _ (c : ℕ) (e : is_singleton c ≡ true) where
  opens : opening (c ∷ []) ≡ Ok Singleton
  opens =
      let small : is_small c ≡ true = grind (arith, nat_tests) in
      let other : (c == byte "x") ≡ false = grind (arith, nat_tests) in
      λ i. cond (small i && true) (cond (other i) (Ok X) (Ok Singleton)) (Err InvalidSubtag)

  pub to_singleton : (s : Stage) → 1 ≤ rank s → rank s ≤ 5 → stage_after s (c ∷ []) ≡ Ok Singleton
  to_singleton LongLanguage a b = opens
  to_singleton (Extlangs n) a b = opens
  to_singleton Script a b = opens
  to_singleton Region a b = opens
  to_singleton Variant a b = opens
  to_singleton Extension a b = opens
  to_singleton Start a b = absurd (omega arith)
  to_singleton Singleton a b = absurd (omega arith)
  to_singleton X a b = absurd (omega arith)
  to_singleton Private a b = absurd (omega arith)

pub to_x : (s : Stage) → 1 ≤ rank s → rank s ≤ 5 → stage_after s (byte "x" ∷ []) ≡ Ok X
to_x LongLanguage a b = refl
to_x (Extlangs n) a b = refl
to_x Script a b = refl
to_x Region a b = refl
to_x Variant a b = refl
to_x Extension a b = refl
to_x Start a b = absurd (omega arith)
to_x Singleton a b = absurd (omega arith)
to_x X a b = absurd (omega arith)
to_x Private a b = absurd (omega arith)

-- what stands behind a singleton
module _ (x : List ℕ) (e : is_content x ≡ true) where
  content_sized : (s : Stage) → stage_after s x ≡ in_place s x
  content_sized s = sized s x (grind (arith, nat_tests)) (grind (arith, nat_tests))

  pub to_content : (s : Stage) → 5 ≤ rank s → rank s ≤ 6 → stage_after s x ≡ Ok Extension
  to_content Singleton a b =
      content_sized Singleton
      ∙ ap
      (λ b. cond b (Ok Extension) (cond (is_single x) (Err EmptyExtension) (Err InvalidSubtag)))
      e
  to_content Extension a b = content_sized Extension ∙ ap (λ b. cond b (Ok Extension) (opening x)) e
  to_content LongLanguage a b = absurd (omega arith)
  to_content (Extlangs n) a b = absurd (omega arith)
  to_content Script a b = absurd (omega arith)
  to_content Region a b = absurd (omega arith)
  to_content Variant a b = absurd (omega arith)
  to_content Start a b = absurd (omega arith)
  to_content X a b = absurd (omega arith)
  to_content Private a b = absurd (omega arith)

module _ (x : List ℕ) (e : is_private x ≡ true) where
  private_sized : (s : Stage) → stage_after s x ≡ in_place s x
  private_sized s = sized s x (grind (arith, nat_tests)) (grind (arith, nat_tests))

  pub to_private : (s : Stage) → 7 ≤ rank s → stage_after s x ≡ Ok Private
  to_private X a = private_sized X ∙ ap (λ b. cond b (Ok Private) (Err InvalidSubtag)) e
  to_private Private a = private_sized Private ∙ ap (λ b. cond b (Ok Private) (Err InvalidSubtag)) e
  to_private LongLanguage a = absurd (omega arith)
  to_private (Extlangs n) a = absurd (omega arith)
  to_private Script a = absurd (omega arith)
  to_private Region a = absurd (omega arith)
  to_private Variant a = absurd (omega arith)
  to_private Start a = absurd (omega arith)
  to_private Singleton a = absurd (omega arith)
  to_private Extension a = absurd (omega arith)
