use Rattle.std.proofs.Common.{[], sym, ◌∙◌}
use Rattle.gettext.proofs.FirstRow.{no_header, header_fields_are, header_is_utf8}
use Rattle.gettext.proofs.MetadataSettings.{holds}
use Rattle.gettext.proofs.parser.settings.Settings.of_row.Goals as goal

pub returns-then-has_id : goal.returns-then-has_id
returns-then-has_id c =
    let none = no_header _ _ _ c.requires
    (rw (← c.bytes_of.ensures) (sym c.has_id.ensures ∙ c.if-has_id.true)) in
    (rw none c.plain.ensures, holds _ _ [] none _ _ c.plain.ensures.encoding c.plain.ensures.rule)

pub from_utf8_unchecked-requires : goal.from_utf8_unchecked-requires
from_utf8_unchecked-requires c =
    let u = header_is_utf8 c.args.bytes.now c.args.options c.args.row c.requires
    c.bytes_of-forms.result.now c.place_of.result c.bytes_of-forms.ensures
    c.place_of.ensures.value c.type_inv.bytes in
    rw (sym c.first_encoding.ensures, c.in-Utf8.is) at u

pub from_utf8_unchecked-requires-in_default : goal.from_utf8_unchecked-requires-in_default
from_utf8_unchecked-requires-in_default c =
    let u = header_is_utf8 c.args.bytes.now c.args.options c.args.row c.requires
    c.bytes_of-forms.result.now c.place_of.result c.bytes_of-forms.ensures
    c.place_of.ensures.value c.type_inv.bytes in
    rw (
      c.deref.ensures.value,
      c.in_ok-push_decoded-in_default.ensures,
      c.new-text.ensures.items,
      c.first_encoding.ensures,
    ) u

pub returns-in-Utf8 : goal.returns-in-Utf8
returns-in-Utf8 c =
    let fields = header_fields_are c.args.bytes.now c.args.options c.args.row c.requires
    c.bytes_of-forms.result.now c.place_of.result c.bytes_of-forms.ensures
    c.place_of.ensures.value
    (rw (← c.bytes_of.ensures) (sym c.has_id.ensures ∙ c.if-has_id.false)) in
    let plain = rw (← c.in-Utf8.ensures, ← c.from_utf8_unchecked.ensures) at fields in
    rw plain c.of_text.ensures

pub returns-in_ok-push_decoded-in_default : goal.returns-in_ok-push_decoded-in_default
returns-in_ok-push_decoded-in_default c =
    let fields = header_fields_are c.args.bytes.now c.args.options c.args.row c.requires
    c.bytes_of-forms.result.now c.place_of.result c.bytes_of-forms.ensures
    c.place_of.ensures.value
    (rw (← c.bytes_of.ensures) (sym c.has_id.ensures ∙ c.if-has_id.false)) in
    let h = rw (
      c.from_utf8_unchecked-in_default.ensures,
      c.deref.ensures.value,
      c.in_ok-push_decoded-in_default.ensures,
      c.new-text.ensures.items,
      c.first_encoding.ensures,
    ) at c.of_text-in_default.ensures in
    rw fields h
