-- The characters of words in ASCII, which are their bytes, and what is said with them.
use Rattle.std.proofs.Common.{◌≡◌, ℕ, zero, suc, List, [], ◌∷◌, ◌++◌, true, codes, sym, refl, ap}
use Rattle.std.proofs.Common.{ap₂, ◌∙◌, arith}
use Rattle.std.proofs.lemmas.Bool.{and_parts, ltb-true}
use Rattle.std.proofs.lemmas.Str.{chars-IsAscii}
use Rattle.std.specs.List.{list_all}
use Rattle.std.specs.Str.{IsAscii, chars}
use Rattle.gettext.specs.Errors as catalogs
use Rattle.gettext.specs.declared.error.Error.{Error}
use Rattle.gettext.specs.declared.error.Error.TheVariants as mo
use Rattle.icu_list.specs.Words as lists
use Rattle.icu_list.specs.declared.error.DataError.{DataError}
use Rattle.icu_list.specs.declared.error.DataError.TheVariants as patterns
use Rattle.icu_locale_fallback.specs.Words as fallback
use Rattle.icu_locale_fallback.specs.declared.rows.TableError.{TableError}
use Rattle.icu_locale_fallback.specs.declared.rows.TableError.TheVariants as locales
use Rattle.language_tags.specs.Words as validity
use Rattle.language_tags.specs.declared.error.ValidationError.{ValidationError}
use Rattle.language_tags.specs.declared.error.ValidationError.TheVariants as valid
use Rattle.language_tags_grammar.specs.Words as grammar
use Rattle.language_tags_grammar.specs.declared.error.ParseError.{ParseError}
use Rattle.language_tags_grammar.specs.declared.error.ParseError.TheVariants as parse
use Rattle.language_tags_registry.specs.Words as registry
use Rattle.language_tags_registry.specs.declared.error.RegistryError.{RegistryError}
use Rattle.language_tags_registry.specs.declared.error.RegistryError.TheVariants as tags
use Rattle.lazy_dfa.specs.Words as condition
use Rattle.lazy_dfa.specs.declared.error.ConditionError.{ConditionError}
use Rattle.lazy_dfa.specs.declared.error.ConditionError.TheVariants as conditions
use Rattle.localise.specs.declared.error.BundleCause.{BundleCause}
use Rattle.localise.specs.declared.error.BundleCause.TheVariants as bundle
use Rattle.localise_document.specs.Names.{fallback_names, field_name, name_at, registry_names}
use Rattle.localise_document.specs.Names.{section_name}
use Rattle.localise_document.specs.declared.place.Field.{Field}
use Rattle.localise_document.specs.declared.place.Field.TheVariants as fields
use Rattle.localise_document.specs.declared.place.Section.{Section}
use Rattle.localise_document.specs.declared.place.Section.TheVariants as sections
use Rattle.localise_status.specs.Ascii.{in_ascii}
use Rattle.localise_status.specs.FaultLines.{bundle_text, fallback_text, numbered_text}
use Rattle.localise_status.specs.FaultLines.{registry_text, request_text, row_text}
use Rattle.localise_status.specs.declared.status.RequestCause.{RequestCause}
use Rattle.localise_status.specs.declared.status.RequestCause.TheVariants as request
use Rattle.unic_langid_impl.specs.Words as identifiers
use Rattle.unic_langid_impl.specs.declared.errors.LanguageIdentifierError.{LanguageIdentifierError}
use Rattle.unic_langid_impl.specs.declared.errors.LanguageIdentifierError.TheVariants as id
use Rattle.unic_langid_impl.specs.declared.parser.error.ParserError.TheVariants as parser
use Rattle.wanted_locale.specs.Words as wanted
use Rattle.wanted_locale.specs.declared.error.TagCause.{TagCause}
use Rattle.wanted_locale.specs.declared.error.TagCause.TheVariants as tag

-- ---- texts in ASCII

-- a text whose bytes are ASCII is so at each place
ascii_at : (text : List ℕ) → in_ascii text ≡ true → IsAscii text
ascii_at [] all i = omega arith
ascii_at (c ∷ text) all zero = ltb-true c 128 (and_parts _ _ all).0
ascii_at (c ∷ text) all (suc i) = ascii_at text (and_parts _ _ all).1 i

-- its characters are its bytes
pub plain : (text : List ℕ) → in_ascii text ≡ true → chars text ≡ text
plain text all = chars-IsAscii text (ascii_at text all)

-- so are those of the same text
pub said : (text words : List ℕ) → words ≡ text → in_ascii text ≡ true → chars words ≡ text
said text words same all = ap chars same ∙ plain text all

-- ---- each error says words in ASCII

-- a text that is no tag
parse_ascii : (e : ParseError) → in_ascii (grammar.words_of e) ≡ true
parse_ascii parse.EmptyExtension = refl
parse_ascii parse.EmptyPrivateUse = refl
parse_ascii parse.ForbiddenChar = refl
parse_ascii parse.InvalidSubtag = refl
parse_ascii parse.InvalidLanguage = refl
parse_ascii parse.SubtagTooLong = refl
parse_ascii parse.EmptySubtag = refl
parse_ascii parse.TooManyExtlangs = refl
parse_ascii parse.NoMemory = refl

-- a tag without a canonical form
validity_ascii : (e : ValidationError) → in_ascii (validity.words_of e) ≡ true
validity_ascii valid.DuplicateVariant = refl
validity_ascii valid.DuplicateExtension = refl
validity_ascii valid.MultipleExtendedLanguageSubtags = refl
validity_ascii valid.PrimaryLanguageNotInRegistry = refl
validity_ascii valid.ExtendedLanguageNotInRegistry = refl
validity_ascii valid.ScriptNotInRegistry = refl
validity_ascii valid.RegionNotInRegistry = refl
validity_ascii valid.VariantNotInRegistry = refl
validity_ascii valid.WrongExtendedLanguagePrefix = refl
validity_ascii valid.WrongVariantPrefix = refl
validity_ascii valid.NoMemory = refl

-- a text that is no identifier
identifier_ascii : (e : LanguageIdentifierError) → in_ascii (identifiers.words_of e) ≡ true
identifier_ascii id.Unknown = refl
identifier_ascii (id.ParserError parser.InvalidLanguage) = refl
identifier_ascii (id.ParserError parser.InvalidSubtag) = refl
identifier_ascii (id.ParserError parser.NoMemory) = refl
identifier_ascii id.NoMemory = refl

-- a tag that asks for no locale
tag_ascii : (e : TagCause) → in_ascii (wanted.words_of e) ≡ true
tag_ascii (tag.Parse fault) = parse_ascii fault
tag_ascii (tag.Canonical fault) = validity_ascii fault
tag_ascii (tag.Identifier fault) = identifier_ascii fault
tag_ascii tag.NoMemory = refl

-- a file that is no catalog
catalog_ascii : (e : Error) → in_ascii (catalogs.words_of e) ≡ true
catalog_ascii mo.BadMagic = refl
catalog_ascii mo.DecodingError = refl
catalog_ascii mo.Eof = refl
catalog_ascii mo.Io = refl
catalog_ascii mo.MalformedMetadata = refl
catalog_ascii mo.MisplacedMetadata = refl
catalog_ascii mo.PluralParsing = refl
catalog_ascii mo.UnknownEncoding = refl
catalog_ascii mo.TooLong = refl
catalog_ascii mo.NoMemory = refl

-- a condition
condition_ascii : (e : ConditionError) → in_ascii (condition.words_of e) ≡ true
condition_ascii conditions.NotAnchored = refl
condition_ascii conditions.TooLong = refl
condition_ascii (conditions.Syntax place) = refl
condition_ascii conditions.NoMemory = refl

-- a pattern
pub list_ascii : (e : DataError) → in_ascii (lists.words_of e) ≡ true
list_ascii patterns.InvalidPattern = refl
list_ascii patterns.CannotStore = refl
list_ascii (patterns.Condition error) = condition_ascii error
list_ascii patterns.MissingLocale = refl
list_ascii patterns.NotJsonForm = refl
list_ascii patterns.NoMemory = refl

-- the registry
registry_ascii : (e : RegistryError) → in_ascii (registry.words_of e) ≡ true
registry_ascii (tags.DuplicateKey table row) = refl
registry_ascii (tags.BadKey table row) = refl
registry_ascii (tags.BadValue table row) = refl
registry_ascii tags.NoMemory = refl

-- tables of fallback
fallback_ascii : (e : TableError) → in_ascii (fallback.words_of e) ≡ true
fallback_ascii (locales.DuplicateKey table row) = refl
fallback_ascii (locales.BadKey table row) = refl
fallback_ascii (locales.BadValue table row) = refl
fallback_ascii locales.NoMemory = refl

-- ---- names are in ASCII

-- sections
pub section_ascii : (s : Section) → in_ascii (section_name s) ≡ true
section_ascii sections.Document = refl
section_ascii sections.Registry = refl
section_ascii sections.Fallback = refl
section_ascii sections.Bundles = refl
section_ascii sections.Root = refl
section_ascii sections.Requests = refl

-- the name of a table, where all have names in ASCII
name_ascii : (names : List (List ℕ)) (n : ℕ) → list_all in_ascii names ≡ true
    → in_ascii (name_at names n) ≡ true
name_ascii [] n all = refl
name_ascii (name ∷ names) zero all = (and_parts _ _ all).0
name_ascii (name ∷ names) (suc n) all = name_ascii names n (and_parts _ _ all).1

-- fields
pub field_ascii : (f : Field) → in_ascii (field_name f) ≡ true
field_ascii fields.Whole = refl
field_ascii fields.Unknown = refl
field_ascii fields.Tag = refl
field_ascii fields.Mo = refl
field_ascii fields.List = refl
field_ascii fields.Context = refl
field_ascii fields.Singular = refl
field_ascii fields.Plural = refl
field_ascii fields.Count = refl
field_ascii fields.Placeholder = refl
field_ascii fields.Items = refl
field_ascii (fields.RegistryTable table) = name_ascii registry_names table refl
field_ascii (fields.FallbackTable table) = name_ascii fallback_names table refl

-- ---- what is said, in characters

-- a bundle or a request, and what is wrong with it
pub numbered : (i : ℕ) (what part text words : List ℕ) → in_ascii what ≡ true → in_ascii part ≡ true
    → in_ascii text ≡ true → words ≡ text
    → numbered_text (chars what) i (chars part ++ chars words) ≡ numbered_text what i (part ++ text)
numbered i what part text words w p t same =
    ap₂ (λ a b. numbered_text a i (b ++ chars words)) (plain what w) (plain part p)
    ∙ ap (λ b. numbered_text what i (part ++ b)) (said text words same t)

-- a tag of a bundle that asks for no locale
pub bundle_tag : (i : ℕ) (b : BundleCause) (e : TagCause) (words : List ℕ) → b ≡ bundle.Tag e
    → words ≡ wanted.words_of e
    → numbered_text (chars (codes "bundle")) i (chars (codes "tag: ") ++ chars words)
    ≡ numbered_text (codes "bundle") i (bundle_text b)
bundle_tag i b e words is same =
    numbered i (codes "bundle") (codes "tag: ") (wanted.words_of e) words refl refl
    (tag_ascii e) same
    ∙ ap (λ x. numbered_text (codes "bundle") i (bundle_text x)) (sym is)

-- a catalog that was refused
pub bundle_catalog : (i : ℕ) (b : BundleCause) (e : Error) (words : List ℕ) → b ≡ bundle.Mo e
    → words ≡ catalogs.words_of e
    → numbered_text (chars (codes "bundle")) i (chars (codes "catalog: ") ++ chars words)
    ≡ numbered_text (codes "bundle") i (bundle_text b)
bundle_catalog i b e words is same =
    numbered i (codes "bundle") (codes "catalog: ") (catalogs.words_of e) words refl refl
    (catalog_ascii e) same
    ∙ ap (λ x. numbered_text (codes "bundle") i (bundle_text x)) (sym is)

-- a list that was refused
pub bundle_list : (i : ℕ) (b : BundleCause) (e : DataError) (words : List ℕ) → b ≡ bundle.List e
    → words ≡ lists.words_of e
    → numbered_text (chars (codes "bundle")) i (chars (codes "list: ") ++ chars words)
    ≡ numbered_text (codes "bundle") i (bundle_text b)
bundle_list i b e words is same =
    numbered i (codes "bundle") (codes "list: ") (lists.words_of e) words refl refl
    (list_ascii e) same
    ∙ ap (λ x. numbered_text (codes "bundle") i (bundle_text x)) (sym is)

-- a tag of a request that asks for no locale
pub request_tag : (i : ℕ) (r : RequestCause) (e : TagCause) (words : List ℕ) → r ≡ request.Tag e
    → words ≡ wanted.words_of e
    → numbered_text (chars (codes "request")) i (chars (codes "tag: ") ++ chars words)
    ≡ numbered_text (codes "request") i (request_text r)
request_tag i r e words is same =
    numbered i (codes "request") (codes "tag: ") (wanted.words_of e) words refl refl
    (tag_ascii e) same
    ∙ ap (λ x. numbered_text (codes "request") i (request_text x)) (sym is)

-- a walk that loops
pub request_loops : (i : ℕ) (r : RequestCause) → r ≡ request.ChainLoops
    → numbered_text (chars (codes "request")) i (chars (codes "") ++ chars (codes "fallback loops"))
    ≡ numbered_text (codes "request") i (request_text r)
request_loops i r is =
    numbered i (codes "request") (codes "") (codes "fallback loops")
    (codes "fallback loops") refl refl refl refl
    ∙ ap (λ x. numbered_text (codes "request") i (request_text x)) (sym is)

-- a row of a table, and the words of its error
pub registry_row : (table row : ℕ) (e k : RegistryError) (words : List ℕ) → e ≡ k
    → words ≡ registry.words_of e
    → row_text (field_name (fields.RegistryTable table)) row (registry.words_of k) ≡ registry_text k
    → row_text (field_name (fields.RegistryTable table)) row (chars words) ≡ registry_text e
registry_row table row e k words is same text =
    ap (λ w. row_text (field_name (fields.RegistryTable table)) row w)
    (said (registry.words_of e) words same (registry_ascii e) ∙ ap registry.words_of is)
    ∙ text ∙ ap registry_text (sym is)

-- a row of a table of fallback
pub fallback_row : (table row : ℕ) (e k : TableError) (words : List ℕ) → e ≡ k
    → words ≡ fallback.words_of e
    → row_text (field_name (fields.FallbackTable table)) row (fallback.words_of k) ≡ fallback_text k
    → row_text (field_name (fields.FallbackTable table)) row (chars words) ≡ fallback_text e
fallback_row table row e k words is same text =
    ap (λ w. row_text (field_name (fields.FallbackTable table)) row w)
    (said (fallback.words_of e) words same (fallback_ascii e) ∙ ap fallback.words_of is)
    ∙ text ∙ ap fallback_text (sym is)

-- want of memory
pub registry_memory : (e : RegistryError) (words : List ℕ) → e ≡ tags.NoMemory
    → words ≡ registry.words_of e
    → chars words ≡ registry_text e
registry_memory e words is same =
    said (registry.words_of e) words same (registry_ascii e) ∙ ap registry.words_of is
    ∙ ap registry_text (sym is)

-- want of memory at a table of fallback
pub fallback_memory : (e : TableError) (words : List ℕ) → e ≡ locales.NoMemory
    → words ≡ fallback.words_of e
    → chars words ≡ fallback_text e
fallback_memory e words is same =
    said (fallback.words_of e) words same (fallback_ascii e) ∙ ap fallback.words_of is
    ∙ ap fallback_text (sym is)
