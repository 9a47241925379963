use Rattle.std.proofs.Common.{◌≡◌, ◌∙◌, ap, sym, refl, rules}
use Rattle.icu_locale_core.specs.Reading.{before_dash, from_dash, left, taken}
use Rattle.icu_locale_core.specs.Shapes.{is_script, is_region, is_variant}
use Rattle.icu_locale_core.specs.ReadingLaws.{language_is, last_is, read-prints, taken-shape}
use Rattle.icu_locale_core.proofs.data.DataLocale.try_from_str.Goals as goal

pub returns-in_err-language-clause-variant : goal.returns-in_err-language-clause-variant
returns-in_err-language-clause-variant c = (
  search rules,
  λ (l, shape, is). absurd (c.in_err-language.ensures
      (let first : c.split_first.result.0.now ≡ l.language =
      c.split_first.ensures.first ∙ ap before_dash (sym is) ∙ language_is l shape in
      rw first shape.language)),
)

pub returns-in_err-subdivision-clause-variant : goal.returns-in_err-subdivision-clause-variant
returns-in_err-subdivision-clause-variant c = (
  search rules,
  λ (l, shape, is). absurd (c.in_err-subdivision.ensures.err l.subdivision shape.subdivision
      (sym (c.variant-variant.ensures.rest
      ∙ ap (left is_variant) (c.region-region.ensures.rest
      ∙ ap (left is_region) (c.script-script.ensures.rest
      ∙ ap (left is_script) (c.split_first.ensures.rest ∙ ap from_dash (sym is))))
      ∙ last_is l shape))),
)

pub returns-clause-ok : goal.returns-clause-ok
returns-clause-ok c =
    let rest = c.split_first.ensures.rest in
    let behind_script = c.script-script.ensures.rest ∙ ap (left is_script) rest in
    let behind_region = c.region-region.ensures.rest ∙ ap (left is_region) behind_script in
    let behind_variant = c.variant-variant.ensures.rest ∙ ap (left is_variant) behind_region in
    read-prints c.args.text.now (record {
      language = c.in_ok-language.language;
      script = c.script-script.result.0;
      region = c.region-region.result.0;
      variant = c.variant-variant.result.0;
      subdivision = c.in_ok-subdivision.subdivision;
    }) (c.in_ok-language.ensures.1 ∙ c.split_first.ensures.first)
    (c.script-script.ensures.first ∙ ap (taken is_script) rest)
    (c.region-region.ensures.first ∙ ap (taken is_region) behind_script)
    (c.variant-variant.ensures.first ∙ ap (taken is_variant) behind_region)
    (c.in_ok-subdivision.ensures.ok ∙ behind_variant)

pub returns-clause-variant : goal.returns-clause-variant
returns-clause-variant c = (
  λ _. (
    record {
      language = c.in_ok-language.language;
      script = c.script-script.result.0;
      region = c.region-region.result.0;
      variant = c.variant-variant.result.0;
      subdivision = c.in_ok-subdivision.subdivision;
    },
    record {
      language = rw c.in_ok-language.ensures.1 c.in_ok-language.ensures.0;
      script =
          rw c.script-script.ensures.first (taken-shape is_script refl c.split_first.result.1.now);
      region =
          rw c.region-region.ensures.first
          (taken-shape is_region refl c.script-script.result.1.now);
      variant =
          rw c.variant-variant.ensures.first
          (taken-shape is_variant refl c.region-region.result.1.now);
      subdivision = c.in_ok-subdivision.ensures.shape;
    },
    returns-clause-ok c,
  ),
  λ _. refl,
)
