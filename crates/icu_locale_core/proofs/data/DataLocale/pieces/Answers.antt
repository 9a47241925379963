use Rattle.std.proofs.Common.{◌≡◌, ◌∙◌, ap, rules}
use Rattle.std.specs.Prelude.{codes}
use Rattle.std.specs.Option.{option_copied}
use Rattle.icu_locale_core.specs.Locale.{marked, print}
use Rattle.icu_locale_core.specs.ReadingLaws.{print-pieces}
use Rattle.icu_locale_core.proofs.data.DataLocale.pieces.Goals as goal

pub returns-clause-whole : goal.returns-clause-whole
returns-clause-whole c =
    let script : option_copied c.map-script.result ≡ c.self.inside.script = search rules in
    let region : option_copied c.map-region.result ≡ c.self.inside.region = search rules in
    let variant : option_copied c.map-variant.result ≡ c.self.inside.variant = search rules in
    let subdivision : option_copied c.map-subdivision.result ≡ c.self.inside.subdivision =
    search rules in
    print-pieces (record {
      language = c.self.inside.language;
      script = c.self.inside.script;
      region = c.self.inside.region;
      variant = c.self.inside.variant;
      subdivision = c.self.inside.subdivision;
    }) c.as_str.result.now c.behind_mark.result.0.now c.behind_mark.result.1.now
    c.behind_mark-2.result.0.now
    c.behind_mark-2.result.1.now c.behind_mark-3.result.0.now c.behind_mark-3.result.1.now
    c.behind_mark-4.result.0.now c.behind_mark-4.result.1.now c.as_str.ensures.value
    (c.behind_mark.ensures ∙ ap (marked (codes "-")) script)
    (c.behind_mark-2.ensures ∙ ap (marked (codes "-")) region)
    (c.behind_mark-3.ensures ∙ ap (marked (codes "-")) variant)
    (c.behind_mark-4.ensures ∙ ap (marked (codes "-u-sd-")) subdivision)
    ∙ ap print c.self.view_is
