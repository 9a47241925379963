-- Each return by the rules that stand before it.
use Rattle.std.proofs.Common.{◌≡◌, ◌∷◌, [], true, false, ap, sym, ◌∙◌, arith, length}
use Rattle.std.specs.Prelude.{nat_eq, nat_lt}
use Rattle.std.specs.Str.{bytes_eq}
use Rattle.std.proofs.lemmas.Bool.Decides.{nat_tests}
use Rattle.language_tags_grammar.specs.Tag.{extensions_of, extlangs_of, language_of, variants_of}
use Rattle.language_tags.specs.Valid.{are_different, is_known_language}
use Rattle.language_tags.specs.declared.error.ValidationError.TheVariants.{DuplicateVariant}
use Rattle.language_tags.specs.declared.error.ValidationError.TheVariants.{DuplicateExtension}
use Rattle.language_tags.proofs.ValidLaws.{breaks, extlang_broken, from_repeats, keeps}
use Rattle.language_tags.proofs.ValidLaws.{region_broken, script_broken, singles, variant_broken}
use Rattle.language_tags.proofs.tag.LanguageTag.first_fault.Goals as goal

pub returns-in-Some : goal.returns-in-Some
returns-in-Some c =
    let g = c.args.self.now in
    let few : nat_lt (length (extlangs_of g)) 2 ≡ true =
    grind (arith, nat_tests, c.has_few_extlangs.ensures, c.if-not-has_few_extlangs.false) in
    let known : is_known_language c.args.registry.now (language_of g) ≡ true =
    ap (is_known_language c.args.registry.now) (sym c.primary_language.ensures.value)
    ∙ (let yes : is_known_language c.args.registry.now c.primary_language.result.now ≡ true =
    grind (arith, nat_tests, c.is_known_language.ensures, c.if-not-is_known_language.false) in
    yes) in
    extlang_broken c.args.registry.now c.args.self.now few known c.in-Some.fault c.in-Some.ensures

pub returns-in-Some-script_fault : goal.returns-in-Some-script_fault
returns-in-Some-script_fault c =
    let g = c.args.self.now in
    let few : nat_lt (length (extlangs_of g)) 2 ≡ true =
    grind (arith, nat_tests, c.has_few_extlangs.ensures, c.if-not-has_few_extlangs.false) in
    let known : is_known_language c.args.registry.now (language_of g) ≡ true =
    ap (is_known_language c.args.registry.now) (sym c.primary_language.ensures.value)
    ∙ (let yes : is_known_language c.args.registry.now c.primary_language.result.now ≡ true =
    grind (arith, nat_tests, c.is_known_language.ensures, c.if-not-is_known_language.false) in
    yes) in
    script_broken c.args.registry.now c.args.self.now few known c.in_default.ensures
    c.in-Some-script_fault.fault c.in-Some-script_fault.ensures

pub returns-in-Some-region_fault : goal.returns-in-Some-region_fault
returns-in-Some-region_fault c =
    let g = c.args.self.now in
    let few : nat_lt (length (extlangs_of g)) 2 ≡ true =
    grind (arith, nat_tests, c.has_few_extlangs.ensures, c.if-not-has_few_extlangs.false) in
    let known : is_known_language c.args.registry.now (language_of g) ≡ true =
    ap (is_known_language c.args.registry.now) (sym c.primary_language.ensures.value)
    ∙ (let yes : is_known_language c.args.registry.now c.primary_language.result.now ≡ true =
    grind (arith, nat_tests, c.is_known_language.ensures, c.if-not-is_known_language.false) in
    yes) in
    region_broken c.args.registry.now c.args.self.now few known c.in_default.ensures
    c.in_default-script_fault.ensures
    c.in-Some-region_fault.fault c.in-Some-region_fault.ensures

pub returns-in-Some-variant_fault : goal.returns-in-Some-variant_fault
returns-in-Some-variant_fault c =
    let g = c.args.self.now in
    let few : nat_lt (length (extlangs_of g)) 2 ≡ true =
    grind (arith, nat_tests, c.has_few_extlangs.ensures, c.if-not-has_few_extlangs.false) in
    let known : is_known_language c.args.registry.now (language_of g) ≡ true =
    ap (is_known_language c.args.registry.now) (sym c.primary_language.ensures.value)
    ∙ (let yes : is_known_language c.args.registry.now c.primary_language.result.now ≡ true =
    grind (arith, nat_tests, c.is_known_language.ensures, c.if-not-is_known_language.false) in
    yes) in
    variant_broken c.args.registry.now c.args.self.now few known c.in_default.ensures
    c.in_default-script_fault.ensures c.in_default-region_fault.ensures
    c.in-Some-variant_fault.fault c.in-Some-variant_fault.ensures

pub returns-then-not-has_different_variants : goal.returns-then-not-has_different_variants
returns-then-not-has_different_variants c =
    let g = c.args.self.now in
    let few : nat_lt (length (extlangs_of g)) 2 ≡ true =
    grind (arith, nat_tests, c.has_few_extlangs.ensures, c.if-not-has_few_extlangs.false) in
    let known : is_known_language c.args.registry.now (language_of g) ≡ true =
    ap (is_known_language c.args.registry.now) (sym c.primary_language.ensures.value)
    ∙ (let yes : is_known_language c.args.registry.now c.primary_language.result.now ≡ true =
    grind (arith, nat_tests, c.is_known_language.ensures, c.if-not-is_known_language.false) in
    yes) in
    let twice : are_different bytes_eq (variants_of g) ≡ false =
    grind (
      arith,
      nat_tests,
      c.has_different_variants.ensures,
      c.if-not-has_different_variants.true,
    ) in
    breaks (are_different bytes_eq (variants_of g)) DuplicateVariant
    ((are_different nat_eq (singles (extensions_of g)), DuplicateExtension) ∷ []) twice
    ∙ from_repeats c.args.registry.now c.args.self.now few known c.in_default.ensures
    c.in_default-script_fault.ensures c.in_default-region_fault.ensures
    c.in_default-variant_fault.ensures

pub returns-then-not-has_different_singletons : goal.returns-then-not-has_different_singletons
returns-then-not-has_different_singletons c =
    let g = c.args.self.now in
    let few : nat_lt (length (extlangs_of g)) 2 ≡ true =
    grind (arith, nat_tests, c.has_few_extlangs.ensures, c.if-not-has_few_extlangs.false) in
    let known : is_known_language c.args.registry.now (language_of g) ≡ true =
    ap (is_known_language c.args.registry.now) (sym c.primary_language.ensures.value)
    ∙ (let yes : is_known_language c.args.registry.now c.primary_language.result.now ≡ true =
    grind (arith, nat_tests, c.is_known_language.ensures, c.if-not-is_known_language.false) in
    yes) in
    let once : are_different bytes_eq (variants_of g) ≡ true =
    grind (
      arith,
      nat_tests,
      c.has_different_variants.ensures,
      c.if-not-has_different_variants.false,
    ) in
    let there : are_different nat_eq (singles c.extension_subtags.result) ≡ false =
    grind (
      arith,
      nat_tests,
      c.has_different_singletons.ensures,
      c.if-not-has_different_singletons.true,
    ) in
    let twice : are_different nat_eq (singles (extensions_of g)) ≡ false =
    ap (λ es. are_different nat_eq (singles es)) (sym c.extension_subtags.ensures) ∙ there in
    breaks (are_different nat_eq (singles (extensions_of g))) DuplicateExtension [] twice
    ∙ keeps (are_different bytes_eq (variants_of g)) DuplicateVariant
    ((are_different nat_eq (singles (extensions_of g)), DuplicateExtension) ∷ []) once
    ∙ from_repeats c.args.registry.now c.args.self.now few known c.in_default.ensures
    c.in_default-script_fault.ensures c.in_default-region_fault.ensures
    c.in_default-variant_fault.ensures

pub returns : goal.returns
returns c =
    let g = c.args.self.now in
    let few : nat_lt (length (extlangs_of g)) 2 ≡ true =
    grind (arith, nat_tests, c.has_few_extlangs.ensures, c.if-not-has_few_extlangs.false) in
    let known : is_known_language c.args.registry.now (language_of g) ≡ true =
    ap (is_known_language c.args.registry.now) (sym c.primary_language.ensures.value)
    ∙ (let yes : is_known_language c.args.registry.now c.primary_language.result.now ≡ true =
    grind (arith, nat_tests, c.is_known_language.ensures, c.if-not-is_known_language.false) in
    yes) in
    let once : are_different bytes_eq (variants_of g) ≡ true =
    grind (
      arith,
      nat_tests,
      c.has_different_variants.ensures,
      c.if-not-has_different_variants.false,
    ) in
    let there : are_different nat_eq (singles c.extension_subtags.result) ≡ true =
    grind (
      arith,
      nat_tests,
      c.has_different_singletons.ensures,
      c.if-not-has_different_singletons.false,
    ) in
    let only : are_different nat_eq (singles (extensions_of g)) ≡ true =
    ap (λ es. are_different nat_eq (singles es)) (sym c.extension_subtags.ensures) ∙ there in
    keeps (are_different nat_eq (singles (extensions_of g))) DuplicateExtension [] only
    ∙ keeps (are_different bytes_eq (variants_of g)) DuplicateVariant
    ((are_different nat_eq (singles (extensions_of g)), DuplicateExtension) ∷ []) once
    ∙ from_repeats c.args.registry.now c.args.self.now few known c.in_default.ensures
    c.in_default-script_fault.ensures c.in_default-region_fault.ensures
    c.in_default-variant_fault.ensures
