use Rattle.std.proofs.Common.{sym, ◌∙◌}
use Rattle.icu_locale_fallback.proofs.Lookups.{get-from_entries}
use Rattle.icu_locale_fallback.proofs.table.value_at.Goals as goal

-- what the map finds by the order of keys is what the finite map has
pub returns : goal.returns
returns g c =
    c.copied.ensures ∙ c.get.ensures.value
    ∙ sym (get-from_entries g.K.Ord.cmp g.met.K.Ord.total c.args.table.now c.args.key.now)
