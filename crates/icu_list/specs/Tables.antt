-- Rows of list tables.
use Rattle.std.specs.Prelude.{Bool, true, false, ◌&&◌, Option, Some, None}
use Rattle.icu_locale_core.specs.Equality.{same_locale}
use Rattle.icu_locale_core.specs.Locale.{Locale}
use Rattle.icu_list.specs.declared.options.ListLength.{ListLength}
use Rattle.icu_list.specs.declared.options.ListLength.TheVariants.{Wide, Short, Narrow}
use Rattle.icu_list.specs.declared.tables.ListKind.{ListKind}
use Rattle.icu_list.specs.declared.tables.ListKind.TheVariants as kind
use Rattle.icu_list.specs.declared.tables.ListTableRow.{ListTableRow}

-- equal kinds of lists
abbrev pub same_kind : ListKind → ListKind → Bool
same_kind kind.And kind.And = true
same_kind kind.Or kind.Or = true
same_kind kind.Unit kind.Unit = true
same_kind kind.And kind.Or = false
same_kind kind.And kind.Unit = false
same_kind kind.Or kind.And = false
same_kind kind.Or kind.Unit = false
same_kind kind.Unit kind.And = false
same_kind kind.Unit kind.Or = false

-- equal lengths
abbrev pub same_length : ListLength → ListLength → Bool
same_length Wide Wide = true
same_length Short Short = true
same_length Narrow Narrow = true
same_length Wide Short = false
same_length Wide Narrow = false
same_length Short Wide = false
same_length Short Narrow = false
same_length Narrow Wide = false
same_length Narrow Short = false

-- whether a row is of this kind, locale and length
abbrev pub is_row_of : ListKind → Locale → ListLength → ListTableRow → Bool
is_row_of kind locale length row =
    same_kind row.kind kind && (same_locale row.locale locale && same_length row.length length)

-- the length that is set, or the default
abbrev pub length_of : Option ListLength → ListLength
length_of None = Wide
length_of (Some length) = length
