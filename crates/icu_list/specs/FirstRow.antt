-- The formatter of the first row of a kind, a locale and a length.
use Rattle.std.specs.Prelude.{◌≡◌, List, Option, None, IsSomeAnd, find}
use Rattle.icu_locale_core.specs.Locale.{Locale}
use Rattle.icu_list.specs.declared.error.DataError.{DataError}
use Rattle.icu_list.specs.declared.error.DataError.TheVariants.{MissingLocale}
use Rattle.icu_list.specs.declared.formatter.ListFormatter.{ListFormatter}
use Rattle.icu_list.specs.declared.options.ListLength.{ListLength}
use Rattle.icu_list.specs.declared.tables.ListKind.{ListKind}
use Rattle.icu_list.specs.declared.tables.ListTableRow.{ListTableRow}
use Rattle.icu_list.specs.Tables.{is_row_of, length_of}

-- the first row, where there is one
abbrev pub row_of : ListKind → Locale → Option ListLength → List ListTableRow → Option ListTableRow
row_of kind locale length rows = find (is_row_of kind locale (length_of length)) rows

-- the formatter has the row's patterns
abbrev pub IsOfFirstRow : Option ListTableRow → ListFormatter → Type 0
IsOfFirstRow row formatter = IsSomeAnd row (λ r. formatter.patterns.now ≡ r.patterns)

-- there is no such row
abbrev pub IsMissing : Option ListTableRow → DataError → Type 0
IsMissing row error = (error ≡ MissingLocale) × (row ≡ None)
