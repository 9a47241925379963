-- Which statuses the errors of the layers below are.
use Rattle.std.specs.Prelude.{ℕ}
use Rattle.icu_locale_fallback.specs.declared.rows.TableError.{TableError}
use Rattle.icu_locale_fallback.specs.declared.rows.TableError.TheVariants as locales
use Rattle.language_tags_registry.specs.declared.error.RegistryError.{RegistryError}
use Rattle.language_tags_registry.specs.declared.error.RegistryError.TheVariants as tags
use Rattle.localise_document.specs.declared.error.DocumentError.{DocumentError}
use Rattle.localise_document.specs.declared.error.DocumentError.TheVariants as document
use Rattle.localise_status.specs.declared.status.RequestCause.TheVariants as request
use Rattle.localise_status.specs.declared.status.Status.{Status}
use Rattle.localise_status.specs.declared.status.Status.TheVariants as status
use Rattle.localise_status.specs.declared.status.TableCause.TheVariants as table
use Rattle.reading.specs.declared.error.ReadError.{ReadError}
use Rattle.reading.specs.declared.error.ReadError.TheVariants as unread
use Rattle.wanted_locale.specs.declared.error.TagCause.{TagCause}
use Rattle.wanted_locale.specs.declared.error.TagCause.TheVariants as wanted
use Rattle.writeable_core.specs.declared.sink.SinkError.{SinkError}
use Rattle.writeable_core.specs.declared.sink.SinkError.TheVariants as sink

abbrev pub status_of_reading : ReadError → Status
status_of_reading unread.Fault = status.ReadFault
status_of_reading unread.TooLong = status.TooLong
status_of_reading unread.NoMemory = status.NoMemory

abbrev pub status_of_document : DocumentError → Status
status_of_document document.NotJson = status.NotJson
status_of_document (document.Shape place) = status.Shape place
status_of_document document.NoMemory = status.NoMemory

abbrev pub status_of_registry : RegistryError → Status
status_of_registry (tags.DuplicateKey t row) =
    status.Table (table.Registry (tags.DuplicateKey t row))
status_of_registry (tags.BadKey t row) = status.Table (table.Registry (tags.BadKey t row))
status_of_registry (tags.BadValue t row) = status.Table (table.Registry (tags.BadValue t row))
status_of_registry tags.NoMemory = status.NoMemory

abbrev pub status_of_fallback : TableError → Status
status_of_fallback (locales.DuplicateKey t row) =
    status.Table (table.Fallback (locales.DuplicateKey t row))
status_of_fallback (locales.BadKey t row) = status.Table (table.Fallback (locales.BadKey t row))
status_of_fallback (locales.BadValue t row) = status.Table (table.Fallback (locales.BadValue t row))
status_of_fallback locales.NoMemory = status.NoMemory

-- of request i's tag
abbrev pub status_of_tag : ℕ → TagCause → Status
status_of_tag i wanted.NoMemory = status.NoMemory
status_of_tag i (wanted.Parse fault) = status.Request i (request.Tag (wanted.Parse fault))
status_of_tag i (wanted.Canonical fault) = status.Request i (request.Tag (wanted.Canonical fault))
status_of_tag i (wanted.Identifier fault) = status.Request i (request.Tag (wanted.Identifier fault))

abbrev pub status_of_sink : SinkError → Status
status_of_sink sink.Fault = status.WriteFault
status_of_sink sink.NoMemory = status.NoMemory
