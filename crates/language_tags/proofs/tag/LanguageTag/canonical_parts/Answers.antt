use Rattle.std.proofs.Common.{◌++◌, string_bytes, ap, ◌∙◌, length}
use Rattle.std.specs.Option.{option_copied}
use Rattle.language_tags_grammar.specs.Tag.{Plain}
use Rattle.language_tags_grammar.specs.declared.ends.Ends.{Ends}
use Rattle.language_tags.proofs.BuiltLaws.{IsPushed, new_parts, pushed-canonical, pushed-keeps}
use Rattle.language_tags.proofs.BuiltLaws.{pushed-parts}
use Rattle.language_tags.proofs.tag.LanguageTag.canonical_parts.Goals as goal

pub of_parts-requires : goal.of_parts-requires
of_parts-requires c =
    let ends : Ends = record {
      language = length c.as_str-language_end.result.now;
      extlang = length c.as_str-extlang_end.result.now;
      script = length c.as_str-script_end.result.now;
      region = length c.as_str-region_end.result.now;
      variant = length c.as_str-variant_end.result.now;
      extension = length c.as_str-extension_end.result.now;
    } in
    let text = string_bytes c.push_part-4.new.text in
    let pushed : IsPushed c.args.registry.now c.args.self.now text ends = record {
      language = c.new_language-language.result.now;
      extlang = option_copied c.new_extlang-extlang.result;
      script = option_copied c.new_script-script.result;
      region = option_copied c.new_region-region.result;
      extensions = c.in_ok-push_extensions.ensures.0;
      private = option_copied c.private_use.result;
      t₀ = string_bytes c.push_str.new.self;
      t₁ = string_bytes c.push_part.new.text;
      t₂ = string_bytes c.push_part-2.new.text;
      t₃ = string_bytes c.push_part-3.new.text;
      t₄ = string_bytes c.push_variants.new.text;
      t₅ = string_bytes c.push_extensions.new.text;
      shaped = c.requires.shapes;
      few = c.requires.few;
      language_is = c.new_language-language.ensures.value;
      language_shape = c.new_language-language.ensures.shape;
      language_short = c.new_language-language.ensures.short;
      extlang_is = c.new_extlang-extlang.ensures;
      script_is = c.new_script-script.ensures.value;
      script_shape = c.new_script-script.ensures.shape;
      region_is = c.new_region-region.ensures.value;
      region_shape = c.new_region-region.ensures.shape;
      variants_shape = c.in_ok-push_variants.ensures.shape;
      permutation = c.in_ok-push_extensions.ensures.1;
      order = c.in_ok-push_extensions.ensures.2;
      extensions_shape = c.in_ok-push_extensions.ensures.3;
      private_is = c.private_use.ensures.value;
      text₀ = c.in_ok-push_str.ensures.bytes
          ∙ ap (λ t. t ++ c.new_language-language.result.now) c.in_ok-text.ensures.bytes;
      text₁ = c.in_ok-push_part.ensures;
      text₂ = c.in_ok-push_part-2.ensures;
      text₃ = c.in_ok-push_part-3.ensures;
      text₄ = c.in_ok-push_variants.ensures.text;
      text₅ = c.in_ok-push_extensions.ensures.4;
      text₆ = c.in_ok-push_part-4.ensures;
      language_end = ap length c.as_str-language_end.ensures.value;
      extlang_end = ap length c.as_str-extlang_end.ensures.value;
      script_end = ap length c.as_str-script_end.ensures.value;
      region_end = ap length c.as_str-region_end.ensures.value;
      variant_end = ap length c.as_str-variant_end.ensures.value;
      extension_end = ap length c.as_str-extension_end.ensures.value;
    } in
    pushed-keeps c.args.registry.now c.args.self.now text ends pushed

pub returns : goal.returns
returns c =
    let ends : Ends = record {
      language = length c.as_str-language_end.result.now;
      extlang = length c.as_str-extlang_end.result.now;
      script = length c.as_str-script_end.result.now;
      region = length c.as_str-region_end.result.now;
      variant = length c.as_str-variant_end.result.now;
      extension = length c.as_str-extension_end.result.now;
    } in
    let text = string_bytes c.push_part-4.new.text in
    let pushed : IsPushed c.args.registry.now c.args.self.now text ends = record {
      language = c.new_language-language.result.now;
      extlang = option_copied c.new_extlang-extlang.result;
      script = option_copied c.new_script-script.result;
      region = option_copied c.new_region-region.result;
      extensions = c.in_ok-push_extensions.ensures.0;
      private = option_copied c.private_use.result;
      t₀ = string_bytes c.push_str.new.self;
      t₁ = string_bytes c.push_part.new.text;
      t₂ = string_bytes c.push_part-2.new.text;
      t₃ = string_bytes c.push_part-3.new.text;
      t₄ = string_bytes c.push_variants.new.text;
      t₅ = string_bytes c.push_extensions.new.text;
      shaped = c.requires.shapes;
      few = c.requires.few;
      language_is = c.new_language-language.ensures.value;
      language_shape = c.new_language-language.ensures.shape;
      language_short = c.new_language-language.ensures.short;
      extlang_is = c.new_extlang-extlang.ensures;
      script_is = c.new_script-script.ensures.value;
      script_shape = c.new_script-script.ensures.shape;
      region_is = c.new_region-region.ensures.value;
      region_shape = c.new_region-region.ensures.shape;
      variants_shape = c.in_ok-push_variants.ensures.shape;
      permutation = c.in_ok-push_extensions.ensures.1;
      order = c.in_ok-push_extensions.ensures.2;
      extensions_shape = c.in_ok-push_extensions.ensures.3;
      private_is = c.private_use.ensures.value;
      text₀ = c.in_ok-push_str.ensures.bytes
          ∙ ap (λ t. t ++ c.new_language-language.result.now) c.in_ok-text.ensures.bytes;
      text₁ = c.in_ok-push_part.ensures;
      text₂ = c.in_ok-push_part-2.ensures;
      text₃ = c.in_ok-push_part-3.ensures;
      text₄ = c.in_ok-push_variants.ensures.text;
      text₅ = c.in_ok-push_extensions.ensures.4;
      text₆ = c.in_ok-push_part-4.ensures;
      language_end = ap length c.as_str-language_end.ensures.value;
      extlang_end = ap length c.as_str-extlang_end.ensures.value;
      script_end = ap length c.as_str-script_end.ensures.value;
      region_end = ap length c.as_str-region_end.ensures.value;
      variant_end = ap length c.as_str-variant_end.ensures.value;
      extension_end = ap length c.as_str-extension_end.ensures.value;
    } in (
      new_parts c.args.registry.now c.args.self.now text ends pushed,
      pushed-canonical c.args.registry.now c.args.self.now text ends pushed,
      c.of_parts.ensures
          ∙ ap Plain (pushed-parts c.args.registry.now c.args.self.now text ends pushed),
    )
