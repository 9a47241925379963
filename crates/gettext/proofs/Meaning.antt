-- A file has no fault exactly where it means something.
use Rattle.std.proofs.Common.{◌≡◌, ℕ, zero, suc, ◌≤◌, Bool, true, false, ◌||◌, List, [], ◌∷◌}
use Rattle.std.proofs.Common.{length, take, map, Option, Some, None, refl, sym, ap, ◌∙◌, ◌⊎◌, inl}
use Rattle.std.proofs.Common.{inr}
use Rattle.std.specs.Option.{unwrap_or}
use Rattle.std.specs.List.{list_all}
use Rattle.std.specs.Prelude.{is_some, ◌==◌}
use Rattle.std.specs.Str.{chars}
use Rattle.std.proofs.lemmas.Bool.{and_parts, leb-true, le-leb}
use Rattle.std.proofs.lemmas.Slice.Eq.{bytes_eq-Decides}
use Rattle.std.specs.Bool.{Decides}
use Rattle.std.proofs.lemmas.Bool.Decides.{Decides-or, same_from_decides}
use Rattle.writeable_core.specs.FirstFailure.{first_failure}
use Rattle.writeable_core.specs.FirstFailureLaws.{failed_first, passed_first}
use Rattle.writeable_core.specs.FirstFailureLaws.{parts_pass}
use Rattle.gettext.specs.declared.error.Error.{Error}
use Rattle.gettext.specs.declared.error.Error.TheVariants.{NoMemory}
use Rattle.gettext.specs.declared.encoding.Encoding.{Encoding}
use Rattle.gettext.specs.Options.{Options}
use Rattle.writeable_core.specs.Texts.{same_text}
use Rattle.gettext.specs.Encoding.{is_valid, text_in}
use Rattle.gettext.specs.Metadata.{Field, value_of}
use Rattle.gettext.specs.Messages.{Message, Messages, Rule, Default, Expr, has_id}
use Rattle.gettext.specs.Layout.{head_of, pieces_of, original_of, translation_of, count_of}
use Rattle.gettext.specs.Layout.{originals_of, translations_of, little_endian, big_endian}
use Rattle.gettext.specs.Mo.{AreTexts, IsRow, AreRows, entries, row_message, fields_in_file}
use Rattle.gettext.specs.Mo.{header_fields, plural_of, IsRuleBy, IsRule, named_encoding}
use Rattle.gettext.specs.Mo.{first_encoding, later_encoding}
use Rattle.gettext.specs.Faults.{header_conditions, row_conditions, rows_conditions}
use Rattle.gettext.specs.Faults.{metadata_conditions, all_rows_conditions, first_fault, mo_fault}
use Rattle.gettext.specs.Checks.{rule_by, rule_of, is_ruled, metadata_checks, all_rows_checks}
use Rattle.gettext.specs.Checks.{found_fault}
use Rattle.gettext.specs.Files.{found_fields}
use Rattle.gettext.proofs.Encodings.{IsText-is, IsText-text_in}
use Rattle.gettext.proofs.ExpressionOf.{expression_found, expression_is, some_mapped}
use Rattle.gettext.proofs.Ids.{has_id-text_in}
use Rattle.gettext.proofs.MetadataSettings.{first_named, rule_without}
use Rattle.gettext.proofs.Rows.{RowHolds, row_holds, row_passes}
use Rattle.gettext.proofs.Conditions.{all_hold}
use Rattle.gettext.proofs.Memory.{or_memory}

-- ---- texts

-- valid pieces are texts
AreTexts-texts : (e : Encoding) (pieces : List (List ℕ)) → list_all (is_valid e) pieces ≡ true
    → AreTexts e pieces (map (text_in e) pieces)
AreTexts-texts e [] all = tt
AreTexts-texts e (p ∷ pieces) all =
    let both = and_parts (is_valid e p) (list_all (is_valid e) pieces) all in
    (IsText-text_in e p both.0, AreTexts-texts e pieces both.1)

-- pieces that are texts are valid, and the texts are theirs
AreTexts-are : (e : Encoding) (pieces texts : List (List ℕ)) → AreTexts e pieces texts
    → (list_all (is_valid e) pieces ≡ true) × (texts ≡ map (text_in e) pieces)
AreTexts-are e [] [] t = (refl, refl)
AreTexts-are e (p ∷ pieces) (x ∷ texts) t =
    let first = IsText-is e p x t.0 in
    let rest = AreTexts-are e pieces texts t.1 in
    (rw first.0 rest.0, rw (first.1, rest.1) refl)
AreTexts-are e [] (x ∷ texts) t = absurd t
AreTexts-are e (p ∷ pieces) [] t = absurd t

-- ---- rows

-- a row whose conditions hold is a message
row_means : (b : List ℕ) (e : Encoding) (i : ℕ) → RowHolds b e i → IsRow b e i (row_message b e i)
unfolding row_message
row_means b e i h =
    record {
      original = h.original;
      ended = h.ended;
      key = IsText-text_in e (head_of (original_of b i)) h.key;
      id = rw (has_id-text_in e (head_of (original_of b i)) h.key) h.id;
      translation = h.translation;
      forms = AreTexts-texts e (pieces_of (translation_of b i)) h.forms;
    }

-- of a row that is a message the conditions hold, and the message is this one
row_is : (b : List ℕ) (e : Encoding) (i : ℕ) (m : Message) → IsRow b e i m
    → RowHolds b e i × (m ≡ row_message b e i)
unfolding row_message
row_is b e i m r =
    let key = IsText-is e (head_of (original_of b i)) m.key r.key in
    let forms = AreTexts-are e (pieces_of (translation_of b i)) m.forms r.forms in
    let id : ((i == 0) || has_id (head_of (original_of b i))) ≡ true =
    rw (← has_id-text_in e (head_of (original_of b i)) key.0, ← key.1) r.id in
    let k : m.key ≡ text_in e (head_of (original_of b i)) = key.1 in
    let f : m.forms ≡ map (text_in e) (pieces_of (translation_of b i)) = forms.1 in (
      record {
        original = r.original;
        ended = r.ended;
        key = key.0;
        id = id;
        translation = r.translation;
        forms = forms.0;
      },
      λ j. record { key = k j; forms = f j },
    )

-- the messages of n rows from row i on
unfoldable pub row_messages : List ℕ → Encoding → ℕ → ℕ → List Message
row_messages b e i zero = []
row_messages b e i (suc n) = row_message b e i ∷ row_messages b e (suc i) n

-- rows whose conditions hold are messages
rows_mean : (b : List ℕ) (e : Encoding) (i n : ℕ) → first_failure (rows_conditions b e i n) ≡ None
    → AreRows b e e i (row_messages b e i n)
unfolding rows_conditions row_messages
rows_mean b e i zero h = tt
rows_mean b e i (suc n) h =
    let both = parts_pass (row_conditions b e i) (rows_conditions b e (suc i) n) h in
    (row_means b e i (row_holds b e i both.0), rows_mean b e (suc i) n both.1)

-- of rows that are messages the conditions hold, and the messages are these
rows_are : (b : List ℕ) (e : Encoding) (i : ℕ) (ms : List Message) → AreRows b e e i ms
    → (first_failure (rows_conditions b e i (length ms)) ≡ None)
    × (ms ≡ row_messages b e i (length ms))
unfolding rows_conditions row_messages
rows_are b e i [] r = (refl, refl)
rows_are b e i (m ∷ ms) r =
    let first = row_is b e i m r.0 in
    let rest = rows_are b e (suc i) ms r.1 in (
      passed_first (row_conditions b e i) (rows_conditions b e (suc i) (length ms))
          (row_passes b e i first.0) ∙ rest.0,
      cc,
    )

-- they are so many
length-row_messages : (b : List ℕ) (e : Encoding) (i n : ℕ) → length (row_messages b e i n) ≡ n
unfolding row_messages
length-row_messages b e i zero = refl
length-row_messages b e i (suc n) = ap suc (length-row_messages b e (suc i) n)

-- ---- the metadata

-- the rule of a file is read
rule_by-is : (forced : Bool) (plural : Option (List ℕ)) (rule : Rule) → IsRuleBy forced plural rule
    → rule_by forced plural ≡ Some rule
rule_by-is true plural rule h = rw h refl
rule_by-is false None rule h = rw h refl
rule_by-is false (Some text) rule h = rw (expression_found (chars text) h.0 h.1, h.2) refl

-- what is read is the rule
pub rule_by-holds : (forced : Bool) (plural : Option (List ℕ)) (rule : Rule)
    → rule_by forced plural ≡ Some rule → IsRuleBy forced plural rule
rule_by-holds true plural rule h = cc
rule_by-holds false None rule h = cc
rule_by-holds false (Some text) rule h =
    let found = some_mapped Expr _ rule h in
    (found.0, expression_is (chars text) found.0 found.1, sym found.2)

-- what metadata settle
record Settled (o : Options) (found : Option (List Field)) : Type 0 where
  pub fields : List Field
  pub is : found ≡ Some fields
  pub encoding : Encoding
  pub named : named_encoding o fields ≡ Some encoding
  pub rule : Rule
  pub ruled : rule_of o fields ≡ Some rule

-- what passes the test is there
some_passes : {X : Type 0} (r : Option X) → is_some r ≡ true → (x : X) × (r ≡ Some x)
some_passes None h = absurd cc
some_passes (Some x) h = (x, refl)

-- metadata whose conditions hold settle all three
settled : (o : Options) (found : Option (List Field))
    → first_failure (metadata_checks o found) ≡ None → Settled o found
unfolding metadata_conditions
settled o None h = absurd cc
settled o (Some fields) h =
    let all = all_hold (metadata_checks o (Some fields)) h in
    let e = some_passes (named_encoding o fields) all.1.0 in
    let r = some_passes (rule_of o fields) all.1.1.0 in
    record {
      fields = fields;
      is = refl;
      encoding = e.0;
      named = e.1;
      rule = r.0;
      ruled = r.1;
    }

-- of metadata that settle all three the conditions hold
settled_passes : (o : Options) (found : Option (List Field)) → Settled o found
    → first_failure (metadata_checks o found) ≡ None
unfolding metadata_conditions
settled_passes o found s = rw (s.is, s.named, s.ruled) refl

-- without rows
settled_by_nothing : (o : Options) → Settled o (Some [])
unfolding value_of
settled_by_nothing o = record {
  fields = [];
  is = refl;
  encoding = first_encoding o;
  named = first_named o.encoding;
  rule = _;
  ruled = rule_without o.forced;
}

-- ---- the header

-- what the conditions of the header say
pub record HeaderHolds (b : List ℕ) : Type 0 where
  pub header : 28 ≤ length b
  pub magic : (take 4 b ≡ little_endian) ⊎ (take 4 b ≡ big_endian)
  pub originals : originals_of b ≤ length b
  pub translations : translations_of b ≤ length b

-- the test for a magic number tells
magic_decided : (m : List ℕ)
    → Decides (same_text m little_endian || same_text m big_endian)
    ((m ≡ little_endian) ⊎ (m ≡ big_endian))
magic_decided m =
    Decides-or _ _ (bytes_eq-Decides m little_endian) (bytes_eq-Decides m big_endian)

-- a header that holds passes
pub header_passes : (b : List ℕ) → HeaderHolds b → first_failure (header_conditions b) ≡ None
unfolding header_conditions
header_passes b h =
    rw (
      le-leb 28 (length b) h.header,
      (magic_decided (take 4 b)).1 h.magic,
      le-leb _ _ h.originals,
      le-leb
          _ _ h.translations,
    ) refl

-- a header that passes holds
pub header_holds : (b : List ℕ) → first_failure (header_conditions b) ≡ None → HeaderHolds b
unfolding header_conditions
header_holds b h =
    let all = all_hold (header_conditions b) h in
    record {
      header = leb-true _ _ all.0;
      magic = (magic_decided (take 4 b)).0 all.1.0;
      originals = leb-true _ _ all.1.1.0;
      translations = leb-true _ _ all.1.1.1.0;
    }

-- ---- the file

-- the messages of a file with n rows
unfoldable pub all_messages : List ℕ → Options → ℕ → List Message
all_messages b o zero = []
all_messages b o (suc n) =
    row_message b (first_encoding o) 0 ∷ row_messages b (later_encoding b o) 1 n

-- its rule, where there is one
unfoldable pub rule_found : List ℕ → Options → ℕ → Rule
rule_found b o n = unwrap_or (rule_of o (unwrap_or (found_fields b o n) [])) Default

-- what a file means, where it means something
unfoldable pub meaning : List ℕ → Options → Messages
meaning b o = record { rule = rule_found b o (count_of b); pairs = all_messages b o (count_of b) }

-- what all rows say where their conditions hold
record RowsMean (b : List ℕ) (o : Options) (n : ℕ) : Type 0 where
  pub settles : Settled o (found_fields b o n)
  pub header : header_fields (all_messages b o n) ≡ Some settles.fields
  pub rows : AreRows b (first_encoding o) settles.encoding 0 (all_messages b o n)
  pub count : length (all_messages b o n) ≡ n

-- the encoding behind the metadata is the one that is settled
named_later : (b : List ℕ) (o : Options) (s : Settled o (fields_in_file b o))
    → later_encoding b o ≡ s.encoding
unfolding later_encoding
named_later b o s = rw (s.is, s.named) refl

-- rows whose conditions hold, the metadata's among them, are messages
all_rows_mean : (b : List ℕ) (o : Options) (n : ℕ) → first_failure (all_rows_checks b o n) ≡ None
    → RowsMean b o n
unfolding all_rows_conditions all_messages found_fields fields_in_file settled_by_nothing
all_rows_mean b o zero h = record {
  settles = settled_by_nothing o;
  header = refl;
  rows = tt;
  count = refl;
}
all_rows_mean b o (suc n) h =
    let first = parts_pass (row_conditions b (first_encoding o) 0) _ h in
    let second = parts_pass (metadata_checks o (fields_in_file b o))
    (rows_conditions b (later_encoding b o) 1 n) first.1 in
    let s = settled o (fields_in_file b o) second.0 in
    record {
      settles = s;
      header = s.is;
      rows = (
        row_means b (first_encoding o) 0 (row_holds b (first_encoding o) 0 first.0),
        rw (← named_later b o s) (rows_mean b (later_encoding b o) 1 n second.1),
      );
      count = ap suc (length-row_messages b (later_encoding b o) 1 n);
    }

-- of rows that are messages, with metadata that settle, all conditions hold
all_rows_are : (b : List ℕ) (o : Options) (pairs : List Message) (fields : List Field)
    (encoding : Encoding) (rule : Rule) → header_fields pairs ≡ Some fields
    → named_encoding o fields ≡ Some encoding → rule_of o fields ≡ Some rule
    → AreRows b (first_encoding o) encoding 0 pairs
    → (first_failure (all_rows_checks b o (length pairs)) ≡ None)
    × (pairs ≡ all_messages b o (length pairs)) × (found_fields b o (length pairs) ≡ Some fields)
unfolding all_rows_conditions all_messages found_fields fields_in_file settled_by_nothing
all_rows_are b o [] fields encoding rule h n r rows = (refl, refl, h)
all_rows_are b o (m ∷ ms) fields encoding rule h n r rows =
    let first = row_is b (first_encoding o) 0 m rows.0 in
    let is : fields_in_file b o ≡ Some fields = rw (← first.1) h in
    let s : Settled o (fields_in_file b o) = record {
      fields = fields;
      is = is;
      encoding = encoding;
      named = n;
      rule = rule;
      ruled = r;
    } in
    let rest = rows_are b (later_encoding b o) 1 ms (rw (named_later b o s) rows.1) in
    let metadata = passed_first (metadata_checks o (fields_in_file b o))
    (rows_conditions b (later_encoding b o) 1 (length ms))
    (settled_passes o (fields_in_file b o) s) in (
      passed_first (row_conditions b (first_encoding o) 0)
          _ (row_passes b (first_encoding o) 0 first.0) ∙ metadata ∙ rest.0,
      cc,
      is,
    )

-- a file without a fault means something
pub has_meaning : (b : List ℕ) (o : Options) → found_fault b o ≡ None → entries b o (meaning b o)
unfolding first_fault meaning rule_found
has_meaning b o h =
    let both = parts_pass (header_conditions b) (all_rows_checks b o (count_of b)) h in
    let header = header_holds b both.0 in
    let m = all_rows_mean b o (count_of b) both.1 in
    let rule : rule_of o m.settles.fields ≡ Some (rule_found b o (count_of b)) =
    rw (m.settles.is, m.settles.ruled) refl in
    record {
      header = header.header;
      magic = header.magic;
      originals = header.originals;
      translations = header.translations;
      count = m.count;
      fields = m.settles.fields;
      metadata = m.header;
      encoding = m.settles.encoding;
      charset = m.settles.named;
      rows = m.rows;
      rule = rule_by-holds o.forced (plural_of m.settles.fields) (rule_found b o (count_of b)) rule;
    }

-- a file that means something has no fault, and means this
pub is_meaning : (b : List ℕ) (o : Options) (c : Messages) → entries b o c
    → (found_fault b o ≡ None) × (c ≡ meaning b o)
unfolding first_fault meaning rule_found
is_meaning b o c h =
    let ruled = rule_by-is o.forced (plural_of h.fields) c.rule h.rule in
    let rows =
    all_rows_are b o c.pairs h.fields h.encoding c.rule h.metadata h.charset ruled h.rows in
    let counted = rw h.count at rows in
    let header = header_passes b (record {
      header = h.header;
      magic = h.magic;
      originals = h.originals;
      translations = h.translations;
    }) in
    let pairs : c.pairs ≡ all_messages b o (count_of b) = counted.1 in
    let rule : c.rule ≡ rule_found b o (count_of b) = rw (counted.2, ruled) refl in (
      passed_first (header_conditions b) (all_rows_checks b o (count_of b)) header
          ∙ counted.0,
      λ i. record { rule = rule i; pairs = pairs i },
    )

-- its metadata are those of what it means
pub fields_are : (b : List ℕ) (o : Options) (c : Messages) (h : entries b o c)
    → found_fields b o (count_of b) ≡ Some h.fields
fields_are b o c h =
    let ruled = rule_by-is o.forced (plural_of h.fields) c.rule h.rule in
    let counted =
    rw h.count at (all_rows_are b o c.pairs h.fields h.encoding c.rule h.metadata h.charset ruled
    h.rows) in
    counted.2

-- ---- what reading says

-- where the header fails, that is the fault
pub header_fails : (b : List ℕ) (o : Options) (e : Error)
    → first_failure (header_conditions b) ≡ Some e → found_fault b o ≡ Some e
unfolding first_fault
header_fails b o e h = failed_first (header_conditions b) (all_rows_checks b o (count_of b)) e h

-- where it passes and the rows fail, that is
pub rows_fail : (b : List ℕ) (o : Options) (count : ℕ) (e : Error) → count ≡ count_of b
    → first_failure (header_conditions b) ≡ None
    → (e ≡ NoMemory) ⊎ (first_failure (all_rows_checks b o count) ≡ Some e)
    → (e ≡ NoMemory) ⊎ (found_fault b o ≡ Some e)
unfolding first_fault
rows_fail b o count e k passed h = or_memory h
    (λ g. passed_first (header_conditions b) (all_rows_checks b o (count_of b)) passed
    ∙ (rw k at g))

-- where both pass there is no fault
pub all_pass : (b : List ℕ) (o : Options) (count : ℕ) → count ≡ count_of b
    → first_failure (header_conditions b) ≡ None → first_failure (all_rows_checks b o count) ≡ None
    → found_fault b o ≡ None
unfolding first_fault
all_pass b o count k passed h =
    passed_first (header_conditions b) (all_rows_checks b o (count_of b)) passed ∙ (rw k at h)

-- a file that means something is refused for want of memory alone
pub only_memory : (b : List ℕ) (o : Options) (c : Messages) (e : Error) → entries b o c
    → (e ≡ NoMemory) ⊎ (found_fault b o ≡ Some e) → e ≡ NoMemory
only_memory b o c e h (inl memory) = memory
only_memory b o c e h (inr fault) = let none = (is_meaning b o c h).0 in absurd cc

-- ---- what is found is what is wrong

-- a rule is read of the metadata exactly where there is one
rule_decided : (o : Options) (fields : List Field)
    → Decides (is_some (rule_of o fields)) ((rule : Rule) × IsRule o fields rule)
rule_decided o fields = (
  λ h. let r = some_passes (rule_of o fields) h in
      (r.0, rule_by-holds o.forced (plural_of fields) r.0 r.1),
  λ r. rw (rule_by-is o.forced (plural_of fields) r.0 r.1) refl,
)

-- what the reader finds is wrong
pub fault_found : (b : List ℕ) (o : Options) (f : Option Error) → found_fault b o ≡ f
    → mo_fault b o f
fault_found b o f h = record {
  ruled = is_ruled o (fields_in_file b o);
  decided = rule_decided o (unwrap_or (fields_in_file b o) []);
  first = h;
}

-- what is wrong is what the reader finds
pub found_is : (b : List ℕ) (o : Options) (f : Option Error) → mo_fault b o f → found_fault b o ≡ f
found_is b o f h = ap (first_fault b o)
    (same_from_decides (is_ruled o (fields_in_file b o)) h.ruled
    (rule_decided o (unwrap_or (fields_in_file b o) [])) h.decided) ∙ h.first
