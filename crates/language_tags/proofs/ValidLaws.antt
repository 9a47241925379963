-- Lists that are gone through from the front, and the rules of a tag.
use Rattle.std.proofs.Common.{Bor, ◌≡◌, ◌≢◌, ℕ, suc, ◌+◌, Bool, true, false, not, List, [], ◌∷◌}
use Rattle.std.proofs.Common.{◌++◌, Option, Some, None, map, length, refl, sym, ap, ◌∙◌, cond}
use Rattle.std.proofs.Common.{arith, lit<}
use Rattle.std.specs.Prelude.{MatchOption, ◌&&◌, ◌||◌, nat_eq, nat_lt}
use Rattle.std.specs.List.{flat_map, list_any, onto_first, position_or_len, slice_split}
use Rattle.std.specs.Str.{bytes_eq}
use Rattle.std.proofs.lemmas.Bool.Decides.{nat_tests}
use Rattle.std.proofs.lemmas.List.Splits.{slice_split_first}
use Rattle.std.proofs.lemmas.Str.Pattern.{IsSplitOnceResult, split_once_first}
use Rattle.writeable_core.specs.FirstFailure.{Condition, first_failure}
use Rattle.writeable_core.specs.FirstFailureLaws.{failed_first, passed_first}
use Rattle.language_tags_grammar.specs.Tag.{Extension, Tag, at_most_one, extensions_of, extlangs_of}
use Rattle.language_tags_grammar.specs.Tag.{language_of, print, region_of, script_of, variants_of}
use Rattle.language_tags_registry.specs.Registry.{Tables}
use Rattle.language_tags.specs.Extensions.{item_of}
use Rattle.language_tags.specs.Valid.{are_different, extlang_rules, is_known_language, is_space}
use Rattle.language_tags.specs.Valid.{region_rules, rules, script_rules, variant_rules}
use Rattle.language_tags.specs.declared.error.ValidationError.{ValidationError}
use Rattle.language_tags.specs.declared.error.ValidationError.TheVariants.{DuplicateVariant}
use Rattle.language_tags.specs.declared.error.ValidationError.TheVariants.{DuplicateExtension}
use Rattle.language_tags.specs.declared.error.ValidationError.TheVariants.{MultipleExtendedLanguageSubtags}
use Rattle.language_tags.specs.declared.error.ValidationError.TheVariants.{PrimaryLanguageNotInRegistry}
use Rattle.language_tags.specs.declared.error.ValidationError.TheVariants.{NoMemory}

-- ---- a test of some

module _ {A : Type 0} (test : A → Bool) (it rest : List A) (x : A) (step : it ≡ x ∷ rest) where
  pub any_hit : test x ≡ true → list_any test it ≡ true
  any_hit e = ap (list_any test) step ∙ ap (λ b. b || list_any test rest) e

  pub any_miss : test x ≡ false → list_any test it ≡ list_any test rest
  any_miss e = ap (list_any test) step ∙ ap (λ b. b || list_any test rest) e

pub any_none : {A : Type 0} (test : A → Bool) (it : List A) → it ≡ [] → list_any test it ≡ false
any_none test it e = ap (list_any test) e

pub any_last : {A : Type 0} (test : A → Bool) (it : List A) (x : A) (b : Bool) → it ≡ x ∷ []
    → b ≡ test x → b ≡ list_any test it
any_last test it x b step e = e ∙ sym (right (test x)) ∙ ap (list_any test) (sym step)
  where
    right : (c : Bool) → c || false ≡ c
    right true = refl
    right false = refl

pub nat_same : (a b : ℕ) → a ≡ b → nat_eq a b ≡ true
nat_same a b e = grind (arith, nat_tests)

pub nat_other : (a b : ℕ) → (a ≡ b → ⊥) → nat_eq a b ≡ false
nat_other a b h = grind (arith, nat_tests)

-- ---- different elements

module _ {A : Type 0} (same : A → A → Bool) (it rest : List A) (x : A) (step : it ≡ x ∷ rest) where
  pub different_hit : list_any (same x) rest ≡ true → are_different same it ≡ false
  different_hit e = ap (are_different same) step ∙ ap (λ b. not b && are_different same rest) e

  pub different_miss : list_any (same x) rest ≡ false
      → are_different same it ≡ are_different same rest
  different_miss e = ap (are_different same) step ∙ ap (λ b. not b && are_different same rest) e

pub different_one : {A : Type 0} (same : A → A → Bool) (it : List A) (x : A) → it ≡ x ∷ []
    → are_different same it ≡ true
different_one same it x e = ap (are_different same) e

pub different_none : {A : Type 0} (same : A → A → Bool) (it : List A) → it ≡ []
    → are_different same it ≡ true
different_none same it e = ap (are_different same) e

-- ---- singletons of extensions

abbrev pub singles : List Extension → List ℕ
singles es = map (λ e. e.singleton) es

singles-items : (es : List Extension) → map (λ i. i.0) (map item_of es) ≡ singles es
singles-items [] = refl
singles-items (e ∷ es) = ap (λ cs. e.singleton ∷ cs) (singles-items es)

pub singles-step : (es fs : List Extension) (c : ℕ) (text : List ℕ)
    → map item_of es ≡ (c, text) ∷ map item_of fs
    → singles es ≡ c ∷ singles fs
singles-step es fs c text e =
    sym (singles-items es) ∙ ap (map (λ i. i.0)) e ∙ ap (λ cs. c ∷ cs) (singles-items fs)

pub singles-none : (es : List Extension) → map item_of es ≡ [] → singles es ≡ []
singles-none es e = sym (singles-items es) ∙ ap (map (λ i. i.0)) e

-- ---- texts between spaces

no_space : (text : List ℕ) → position_or_len is_space text ≡ length text
    → slice_split is_space text ≡ text ∷ []
no_space [] e = refl
no_space (c ∷ text) e = by (no_space text) (is_space c) e
  where
    by : (position_or_len is_space text ≡ length text → slice_split is_space text ≡ text ∷ [])
        → (b : Bool)
        → cond (not b) (1 + position_or_len is_space text) 0 ≡ suc (length text)
        → cond b ([] ∷ slice_split is_space text) (onto_first c (slice_split is_space text))
        ≡ (c ∷ text) ∷ []
    by rest true e = absurd (omega arith)
    by rest false e = ap (onto_first c) (rest (omega arith))

-- what `split_once` gives at a space
pub first_word : (text : List ℕ) (r : Option (Bor (List ℕ) × Bor (List ℕ)))
    → IsSplitOnceResult 32 text r
    → MatchOption r (slice_split is_space text ≡ text ∷ [])
    (λ x. slice_split is_space text ≡ x.0.now ∷ slice_split is_space x.1.now)
first_word text None h = no_space text (split_once_first 32 text None h (lit< tt))
first_word text (Some x) h =
    let cut = split_once_first 32 text (Some x) h (lit< tt) in
    slice_split_first is_space text 0 cut.0
    ∙ (λ i. sym cut.1 i ∷ slice_split is_space (sym cut.2 i))

-- ---- rules

module _ {E : Type 0} where
  pub breaks : (b : Bool) (f : E) (cs : List (Condition E)) → b ≡ false
      → Some f ≡ first_failure ((b, f) ∷ cs)
  breaks b f cs e = ap (λ c. cond c (first_failure cs) (Some f)) (sym e)

  pub keeps : (b : Bool) (f : E) (cs : List (Condition E)) → b ≡ true
      → first_failure cs ≡ first_failure ((b, f) ∷ cs)
  keeps b f cs e = ap (λ c. cond c (first_failure cs) (Some f)) (sym e)

  pub part_breaks : (xs ys : List (Condition E)) (f : E) → Some f ≡ first_failure xs
      → Some f ≡ first_failure (xs ++ ys)
  part_breaks xs ys f e = sym (failed_first xs ys f (sym e))

  pub part_keeps : (xs ys : List (Condition E)) → None ≡ first_failure xs
      → first_failure ys ≡ first_failure (xs ++ ys)
  part_keeps xs ys e = sym (passed_first xs ys (sym e))

  -- the rules of the elements of a list
  module _ {A : Type 0} (rules_of : A → List (Condition E)) (it rest : List A) (x : A)
      (step : it ≡ x ∷ rest) where
    pub one_breaks : (f : E) → Some f ≡ first_failure (rules_of x)
        → Some f ≡ first_failure (flat_map rules_of it)
    one_breaks f e = part_breaks (rules_of x) (flat_map rules_of rest) f e
        ∙ ap (λ xs. first_failure (flat_map rules_of xs)) (sym step)

    pub one_keeps : None ≡ first_failure (rules_of x)
        → first_failure (flat_map rules_of rest) ≡ first_failure (flat_map rules_of it)
    one_keeps e = part_keeps (rules_of x) (flat_map rules_of rest) e
        ∙ ap (λ xs. first_failure (flat_map rules_of xs)) (sym step)

  pub none_breaks : {A : Type 0} (rules_of : A → List (Condition E)) (it : List A) → it ≡ []
      → None ≡ first_failure (flat_map rules_of it)
  none_breaks rules_of it e = ap (λ xs. first_failure (flat_map rules_of xs)) (sym e)

-- the rules of a tag, where the first two hold: which list decides
module _ (R : Tables) (g : Tag) (few : nat_lt (length (extlangs_of g)) 2 ≡ true)
    (known : is_known_language R (language_of g) ≡ true) where
  abbrev pub Es : List (Condition ValidationError)
  Es = flat_map (extlang_rules R (print g)) (extlangs_of g)

  abbrev pub Ss : List (Condition ValidationError)
  Ss = flat_map (script_rules R) (at_most_one (script_of g))

  abbrev pub Rs : List (Condition ValidationError)
  Rs = flat_map (region_rules R) (at_most_one (region_of g))

  abbrev pub Vs : List (Condition ValidationError)
  Vs = flat_map (variant_rules R (print g)) (variants_of g)

  abbrev pub Ds : List (Condition ValidationError)
  Ds =
      (are_different bytes_eq (variants_of g), DuplicateVariant)
      ∷ (are_different nat_eq (map (λ e. e.singleton) (extensions_of g)), DuplicateExtension)
      ∷ []

  from_extlangs : first_failure (Es ++ (Ss ++ (Rs ++ (Vs ++ Ds)))) ≡ first_failure (rules R g)
  from_extlangs =
      let rest = Es ++ (Ss ++ (Rs ++ (Vs ++ Ds))) in
      keeps (is_known_language R (language_of g)) PrimaryLanguageNotInRegistry rest known
      ∙ keeps (nat_lt (length (extlangs_of g)) 2) MultipleExtendedLanguageSubtags
      ((is_known_language R (language_of g), PrimaryLanguageNotInRegistry) ∷ rest) few

  pub extlang_broken : (f : ValidationError) → Some f ≡ first_failure Es
      → Some f ≡ first_failure (rules R g)
  extlang_broken f e = part_breaks Es (Ss ++ (Rs ++ (Vs ++ Ds))) f e ∙ from_extlangs

  module _ (extlangs : None ≡ first_failure Es) where
    from_script : first_failure (Ss ++ (Rs ++ (Vs ++ Ds))) ≡ first_failure (rules R g)
    from_script = part_keeps Es (Ss ++ (Rs ++ (Vs ++ Ds))) extlangs ∙ from_extlangs

    pub script_broken : (f : ValidationError) → Some f ≡ first_failure Ss
        → Some f ≡ first_failure (rules R g)
    script_broken f e = part_breaks Ss (Rs ++ (Vs ++ Ds)) f e ∙ from_script

    module _ (script : None ≡ first_failure Ss) where
      from_region : first_failure (Rs ++ (Vs ++ Ds)) ≡ first_failure (rules R g)
      from_region = part_keeps Ss (Rs ++ (Vs ++ Ds)) script ∙ from_script

      pub region_broken : (f : ValidationError) → Some f ≡ first_failure Rs
          → Some f ≡ first_failure (rules R g)
      region_broken f e = part_breaks Rs (Vs ++ Ds) f e ∙ from_region

      module _ (region : None ≡ first_failure Rs) where
        from_variants : first_failure (Vs ++ Ds) ≡ first_failure (rules R g)
        from_variants = part_keeps Rs (Vs ++ Ds) region ∙ from_region

        pub variant_broken : (f : ValidationError) → Some f ≡ first_failure Vs
            → Some f ≡ first_failure (rules R g)
        variant_broken f e = part_breaks Vs Ds f e ∙ from_variants

        pub from_repeats : None ≡ first_failure Vs → first_failure Ds ≡ first_failure (rules R g)
        from_repeats variants = part_keeps Vs Ds variants ∙ from_variants

-- ---- no rule speaks of memory

abbrev Speak : List (Condition ValidationError) → Type 0
Speak [] = Unit {0}
Speak (c ∷ cs) = (c.1 ≢ NoMemory) × Speak cs

speak-append : (xs ys : List (Condition ValidationError)) → Speak xs → Speak ys → Speak (xs ++ ys)
speak-append [] ys h k = k
speak-append (x ∷ xs) ys h k = (h.0, speak-append xs ys h.1 k)

speak-flat : {A : Type 0} (rules_of : A → List (Condition ValidationError))
    → ((x : A) → Speak (rules_of x)) → (xs : List A)
    → Speak (flat_map rules_of xs)
speak-flat rules_of each [] = tt
speak-flat rules_of each (x ∷ xs) =
    speak-append (rules_of x) (flat_map rules_of xs) (each x) (speak-flat rules_of each xs)

speak-first : (cs : List (Condition ValidationError)) → Speak cs
    → first_failure cs ≡ Some NoMemory → ⊥
speak-first [] h e = cc
speak-first (c ∷ cs) h e = by c.0 (speak-first cs h.1) e
  where
    by : (b : Bool) → (first_failure cs ≡ Some NoMemory → ⊥)
        → cond b (first_failure cs) (Some c.1) ≡ Some NoMemory → ⊥
    by true rest f = rest f
    by false rest f = h.0 (let same : c.1 ≡ NoMemory = cc in same)

pub rules_speak : (R : Tables) (g : Tag) → first_failure (rules R g) ≡ Some NoMemory → ⊥
rules_speak R g =
    speak-first (rules R g) (
      λ e. cc,
      (
        λ e. cc,
        speak-append (flat_map (extlang_rules R (print g)) (extlangs_of g)) _
            (speak-flat (extlang_rules R (print g)) (λ x. (λ e. cc, (λ e. cc, tt))) (extlangs_of g))
            (speak-append (flat_map (script_rules R) (at_most_one (script_of g))) _
            (speak-flat (script_rules R) (λ x. (λ e. cc, tt)) (at_most_one (script_of g)))
            (speak-append (flat_map (region_rules R) (at_most_one (region_of g))) _
            (speak-flat (region_rules R) (λ x. (λ e. cc, tt)) (at_most_one (region_of g)))
            (speak-append (flat_map (variant_rules R (print g)) (variants_of g)) _
            (speak-flat (variant_rules R (print g)) (λ x. (λ e. cc, (λ e. cc, tt))) (variants_of g))
            (λ e. cc, (λ e. cc, tt))))),
      ),
    )
