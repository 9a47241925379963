-- What is read of a file stands for what the file means.
use Rattle.std.proofs.Common.{◌≡◌, ℕ, zero, suc, ◌<◌, Bool, true, false, cond, List, [], ◌∷◌}
use Rattle.std.proofs.Common.{length, map, Option, Some, None, refl, sym, ap, ◌∙◌, arith}
use Rattle.std.specs.Option.{option_map, unwrap_or}
use Rattle.std.specs.List.{slice_get, AllByRecursion}
use Rattle.std.specs.Prelude.{encode_utf8_all, ◌==◌}
use Rattle.std.proofs.lemmas.Bool.{and_parts, ne_eqb}
use Rattle.std.proofs.lemmas.Option.{same_Some}
use Rattle.std.proofs.lemmas.Slice.Eq.{bytes_eq-Decides}
use Rattle.gettext.specs.declared.encoding.Encoding.{Encoding}
use Rattle.gettext.specs.declared.encoding.Encoding.TheVariants.{Utf8, Latin1, Windows1252}
use Rattle.gettext.specs.declared.parser.settings.Settings.{Settings}
use Rattle.gettext.specs.declared.spans.Row.{Row}
use Rattle.gettext.specs.Optional.{◌>>=◌}
use Rattle.gettext.specs.Options.{Options}
use Rattle.std.specs.Prelude.{Vec}
use Rattle.std.specs.declared.alloc.Global.{Global}
use Rattle.writeable_core.specs.Texts.{same_text}
use Rattle.gettext.specs.Rule.{rule_shown}
use Rattle.gettext.specs.Metadata.{Field, value_of}
use Rattle.gettext.specs.Messages.{Message, Messages, Rule, StandsFor}
use Rattle.gettext.specs.Messages.{lookup, has_id, header_of, plurals_among, plurals_of}
use Rattle.gettext.specs.Messages.{plurals_named, bound_by}
use Rattle.gettext.specs.Layout.{count_of}
use Rattle.gettext.specs.Mo.{IsRuleBy, AreRows, entries, fields_of_header, header_fields}
use Rattle.gettext.specs.Mo.{row_message}
use Rattle.gettext.specs.Mo.{first_encoding, later_encoding, plural_of, IsInUtf8}
use Rattle.gettext.specs.Checks.{found_fault}
use Rattle.gettext.specs.Settings.{plurals_by}
use Rattle.gettext.specs.Table.{message_at, IsRowOf, Sorts, held, messages_of, HasOneHeader, Keeps}
use Rattle.gettext.specs.Reader.{row_of, rows_from, IsRowIn}
use Rattle.gettext.specs.Decoding.{AreRowsIn, decoded_message, decoded_messages, Decodes}
use Rattle.gettext.specs.Files.{found_fields, AreFileRows, is_utf_8, is_in_utf8, IsFile}
use Rattle.gettext.proofs.Bounds.{has_other, one_header-alike, bound-stands}
use Rattle.gettext.proofs.Lookups.{lookup-messages}
use Rattle.gettext.proofs.Meaning.{rule_by-holds, all_messages, row_messages, rule_found, meaning}
use Rattle.gettext.proofs.Meaning.{has_meaning}
use Rattle.gettext.proofs.Meaning.{is_meaning, fields_are}
use Rattle.gettext.proofs.Rows.{key_bytes-row_of, form_bytes-row_of}

-- ---- the messages of rows

-- a row in its place is decoded as the file says
row_decodes : (b : List ℕ) (e : Encoding) (i : ℕ)
    → decoded_message b e (row_of b i) ≡ row_message b e i
unfolding decoded_message row_message
row_decodes b e i = rw (key_bytes-row_of b i, form_bytes-row_of b i) refl

-- so are rows in one encoding
rows_decode : (b : List ℕ) (e : Encoding) (i n : ℕ)
    → decoded_messages b e e (rows_from b i n) ≡ row_messages b e i n
unfolding rows_from row_messages
rows_decode b e i zero = refl
rows_decode b e i (suc n) = rw (row_decodes b e i, rows_decode b e (suc i) n) refl

-- so are all rows of a file
all_decode : (b : List ℕ) (o : Options) (n : ℕ) (later : Encoding) → later ≡ later_encoding b o
    → decoded_messages b (first_encoding o) later (rows_from b 0 n) ≡ all_messages b o n
unfolding rows_from all_messages
all_decode b o zero later e = refl
all_decode b o (suc n) later e =
    rw (e, row_decodes b (first_encoding o) 0, rows_decode b (later_encoding b o) 1 n) refl

-- ---- ids

-- each row past row 0 has an id
pub all_have_ids : (b : List ℕ) (e : Encoding) (i : ℕ) (ms : List Message) → 0 < i
    → AreRows b e e i ms → AllByRecursion (λ m. has_id m.key ≡ true) ms
all_have_ids b e i [] lt rows = tt
all_have_ids b e i (m ∷ ms) lt rows =
    let other : (i == 0) ≡ false = ne_eqb i 0 (λ z. omega (arith, lt, z)) in
    let id = rw other at rows.0.id in
    (id, all_have_ids b e (suc i) ms (omega arith) rows.1)

-- messages with ids have none under a key without
not_there : (ms : List Message) (k : List ℕ) → AllByRecursion (λ m. has_id m.key ≡ true) ms
    → has_id k ≡ false → lookup ms k ≡ None
not_there [] k all h = refl
not_there (m ∷ ms) k all h = rw (not_there ms k all.1 h, has_other m.key k all.0 h) refl

-- messages with ids have no metadata
no_header_there : (ms : List Message) → AllByRecursion (λ m. has_id m.key ≡ true) ms
    → header_of ms ≡ None
no_header_there [] all = refl
no_header_there (m ∷ ms) all = rw (no_header_there ms all.1, all.0) refl

-- a message before those has the only key without an id, if it has one
pub one_header : (m : Message) (ms : List Message) → AllByRecursion (λ m. has_id m.key ≡ true) ms
    → HasOneHeader (m ∷ ms)
one_header m ms all = λ k q x y e f h g. sym (is_first k x e h) ∙ is_first q y f g where
  is_first : (k : List ℕ) (x : Message) → lookup (m ∷ ms) k ≡ Some x → has_id k ≡ false → m.key ≡ k
  is_first k x e h = by_test (same_text m.key k) refl (rw (not_there ms k all h) at e) where
    by_test : (t : Bool) → same_text m.key k ≡ t → cond t (Some m) None ≡ Some x → m.key ≡ k
    by_test true t g = (bytes_eq-Decides m.key k).0 t
    by_test false t g = absurd cc

-- ---- the bound

-- the number of plurals in the header is that in the metadata of the file
header_plurals : (m : Message) (ms : List Message) (fields : List Field)
    → AllByRecursion (λ m. has_id m.key ≡ true) ms → header_fields (m ∷ ms) ≡ Some fields
    → (header_of (m ∷ ms) >>= plurals_named) ≡ plurals_among fields
unfolding value_of plurals_of
header_plurals m ms fields all h =
    rw (no_header_there ms all) (by_id (has_id m.key) (slice_get m.forms 0) refl h) where
      by_id : (t : Bool) (form : Option (List ℕ)) → slice_get m.forms 0 ≡ form
          → fields_of_header (cond t None form) ≡ Some fields
          → (cond t None (Some m) >>= plurals_named) ≡ plurals_among fields
      by_id true form e g = let same : [] ≡ fields = same_Some _ _ g in rw (← same) refl
      by_id false None e g = let same : [] ≡ fields = same_Some _ _ g in rw (e, ← same) refl
      by_id false (Some text) e g = rw (e, g) refl

-- the bound that is kept is that of the rule over the messages
bound_is : (forced : Bool) (plural : Option (List ℕ)) (rule : Rule) (fields : List Field)
    (pairs : List Message) → IsRuleBy forced plural rule
    → (header_of pairs >>= plurals_named) ≡ plurals_among fields
    → plurals_by forced fields ≡ bound_by rule pairs
bound_is true plural rule fields pairs r h = rw r refl
bound_is false None rule fields pairs r h = rw r (sym h)
bound_is false (Some text) rule fields pairs r h = rw r.2 (sym h)

-- ---- the table

module _ (b : List ℕ) (o : Options) (n : ℕ) (rows : List Row) (s : Settings) (buffer : List ℕ)
    (laid sorted : List Row) (are : AreFileRows b o n rows s) (counted : n ≡ count_of b)
    (sound : found_fault b o ≡ None)
    (fit : AllByRecursion (IsRowOf buffer) laid)
    (say : map (message_at buffer) laid ≡ all_messages b o n)
    (sorts : Sorts buffer laid sorted) where
  -- what the table keeps
  abbrev kept : Messages
  kept = messages_of (held buffer sorted s.rule)

  -- the table finds what the messages of the file have
  alike : (key : List ℕ)
      → lookup (map (message_at buffer) sorted) key ≡ lookup (all_messages b o n) key
  alike key =
      lookup-messages buffer sorted key sorts.table.rows_fit
      ∙ ap (option_map (message_at buffer)) (sorts.finds (encode_utf8_all key))
      ∙ sym (lookup-messages buffer laid key fit) ∙ ap (λ (ms : List Message). lookup ms key) say

  -- its rule is that of the file
  rule_is : rule_shown s.rule ≡ rule_found b o n
  unfolding rule_found
  rule_is = rw are.settings.rule refl

  -- so it stands for what the file means
  stands_for_meaning : StandsFor kept (meaning b o)
  unfolding held meaning
  stands_for_meaning = record { rule = rw (← counted) rule_is; lookups = rw (← counted) alike }

  -- the file means something
  means : entries b o (meaning b o)
  means = has_meaning b o sound

  -- the table stands for whatever the file means
  pub laid_stands : (c : Messages) → entries b o c → StandsFor kept c
  laid_stands c h = rw (is_meaning b o c h).1 stands_for_meaning

  -- the messages of the file, of which the first alone may have an empty id
  record FirstAlone (ms : List Message) : Type 0 where
    pub one : HasOneHeader ms
    pub plurals : (header_of ms >>= plurals_named) ≡ plurals_among means.fields

  -- the first message alone may have an empty id, and its metadata name the number of plurals
  first_alone : (ms : List Message) → header_fields ms ≡ Some means.fields
      → AreRows b (first_encoding o) means.encoding 0 ms → FirstAlone ms
  unfolding value_of
  first_alone [] h rows = record {
    one = λ k q x y e f g i. absurd cc;
    plurals = let same : [] ≡ means.fields = same_Some _ _ h in rw (← same) refl;
  }
  first_alone (m ∷ ms) h rows =
      let ids = all_have_ids b means.encoding 1 ms (omega arith) rows.1 in
      record { one = one_header m ms ids; plurals = header_plurals m ms means.fields ids h }

  -- the table keeps what its type asks
  pub laid_keeps : Keeps buffer sorted s.rule s.plurals
  unfolding held meaning
  laid_keeps =
      let first = first_alone (meaning b o).pairs means.metadata means.rows in
      let one : HasOneHeader (map (message_at buffer) sorted) = one_header-alike
      (map (message_at buffer) sorted) (meaning b o).pairs stands_for_meaning.lookups first.one in
      let fields : means.fields ≡ unwrap_or (found_fields b o n) [] =
      sym (ap (λ (k : ℕ). unwrap_or (found_fields b o k) []) counted
      ∙ ap (λ (f : Option (List Field)). unwrap_or f []) (fields_are b o (meaning b o) means)) in
      record {
        table = sorts.table;
        header = one;
        bounded = are.settings.plurals
            ∙ bound_is o.forced (plural_of (unwrap_or (found_fields b o n) [])) (rule_shown s.rule)
            (unwrap_or (found_fields b o n) []) (meaning b o).pairs
            (rule_by-holds o.forced _ _ are.settings.rule) (rw (← fields) first.plurals)
            ∙ ap (λ (r : Rule). bound_by r (meaning b o).pairs) stands_for_meaning.rule
            ∙ sym (bound-stands kept (meaning b o) one stands_for_meaning);
      }

-- ---- rows in UTF-8

-- a valid row in UTF-8 is a message where it stands
row_in_place : (b : List ℕ) (e : Encoding) (r : Row) → e ≡ Utf8 → IsRowIn b e r
    → IsRowOf b r × (message_at b r ≡ decoded_message b e r)
unfolding message_at decoded_message
row_in_place b e r u h =
    let h' = rw u at h in (
      record {
        key_inside = h'.key_inside;
        key = h'.key;
        forms_inside = h'.forms_inside;
        forms = h'.forms;
      },
      rw u refl,
    )

-- rows of a file are its messages where they stand
record AreInPlace (b : List ℕ) (first later : Encoding) (rows : List Row) : Type 0 where
  pub fit : AllByRecursion (IsRowOf b) rows
  pub say : map (message_at b) rows ≡ decoded_messages b first later rows

-- rows in UTF-8 are
others_in_place : (b : List ℕ) (e : Encoding) (rows : List Row) → e ≡ Utf8 → AreRowsIn b e e rows
    → AreInPlace b e e rows
others_in_place b e [] u h = record { fit = tt; say = refl }
others_in_place b e (r ∷ rows) u h =
    let this = row_in_place b e r u h.0 in
    let rest = others_in_place b e rows u h.1 in
    record { fit = (this.0, rest.fit); say = rw (this.1, rest.say) refl }

-- the test for UTF-8 tells
utf_8_is : (e : Encoding) → is_utf_8 e ≡ true → e ≡ Utf8
utf_8_is Utf8 h = refl
utf_8_is Latin1 h = absurd cc
utf_8_is Windows1252 h = absurd cc

-- a file whose rows are all in UTF-8 needs no decoding
in_place : (b : List ℕ) (first later : Encoding) (rows : List Row) → AreRowsIn b first later rows
    → is_in_utf8 (length rows) first later ≡ true → AreInPlace b first later rows
in_place b first later [] h u = record { fit = tt; say = refl }
in_place b first later (r ∷ []) h u =
    let this = row_in_place b first r (utf_8_is first u) h.0 in
    record { fit = (this.0, tt); say = rw this.1 refl }
in_place b first later (r ∷ q ∷ rows) h u =
    let both = and_parts (is_utf_8 first) (is_utf_8 later) u in
    let this = row_in_place b first r (utf_8_is first both.0) h.0 in
    let rest = others_in_place b later (q ∷ rows) (utf_8_is later both.1) h.1 in
    record { fit = (this.0, rest.fit); say = rw (this.1, rest.say) refl }

-- so many rows are so many
length-rows_from : (b : List ℕ) (i n : ℕ) → length (rows_from b i n) ≡ n
unfolding rows_from
length-rows_from b i zero = refl
length-rows_from b i (suc n) = ap suc (length-rows_from b (suc i) n)

-- decoded as is settled, the rows are the messages of the file
say_all : (b : List ℕ) (o : Options) (n : ℕ) (rows : List Row) (s : Settings)
    → AreFileRows b o n rows s
    → decoded_messages b (first_encoding o) s.encoding rows ≡ all_messages b o n
unfolding rows_from all_messages found_fields later_encoding
say_all b o zero rows s are = rw are.are refl
say_all b o (suc n) rows s are =
    let later : s.encoding ≡ later_encoding b o = rw are.settings.encoding refl in
    rw are.are (all_decode b o (suc n) s.encoding later)

-- the code sees that each row is in UTF-8 where each is
told_in_utf8 : (b : List ℕ) (o : Options) (n : ℕ) (rows : List Row) (s : Settings)
    → AreFileRows b o n rows s → n ≡ count_of b → IsInUtf8 b o
    → is_in_utf8 n (first_encoding o) s.encoding ≡ true
unfolding found_fields later_encoding
told_in_utf8 b o zero rows s are k u = refl
told_in_utf8 b o (suc zero) rows s are k u = let first : first_encoding o ≡ Utf8 =
    u 0 (omega (arith, k)) in rw first refl
told_in_utf8 b o (suc (suc n)) rows s are k u =
    let first : first_encoding o ≡ Utf8 = u 0 (omega (arith, k)) in
    let later : later_encoding b o ≡ Utf8 = u 1 (omega (arith, k)) in
    let same : s.encoding ≡ later_encoding b o = rw are.settings.encoding refl in
    rw (first, same, later) refl

module _ (b : List ℕ) (o : Options) (n : ℕ) (rows : List Row) (s : Settings)
    (are : AreFileRows b o n rows s) (count : ℕ) (long : count ≡ length rows) where
  -- the rows are valid in the encodings that are settled
  fits : AreRowsIn b (first_encoding o) s.encoding rows
  fits = rw are.are are.fit

  -- in UTF-8 they are messages where they stand
  rows_in_place : is_in_utf8 count (first_encoding o) s.encoding ≡ true
      → AreInPlace b (first_encoding o) s.encoding rows
  rows_in_place u = in_place b (first_encoding o) s.encoding rows fits (rw (← long) u)

  -- and fit the bytes of the file
  pub fit_in_place : is_in_utf8 count (first_encoding o) s.encoding ≡ true
      → AllByRecursion (IsRowOf b) rows
  fit_in_place u = (rows_in_place u).fit

  module _ (counted : n ≡ count_of b) (sound : found_fault b o ≡ None) where
    -- such a file is read as it stands
    pub file_in_place : (sorted : Vec Row Global)
        → is_in_utf8 count (first_encoding o) s.encoding ≡ true → Sorts b rows sorted.items
        → IsFile b o (record {
          texts = None;
          rows = sorted;
          settings = s;
        })
    file_in_place sorted u sorts =
        let place = rows_in_place u in
        let say : map (message_at b) rows ≡ all_messages b o n = place.say
        ∙ say_all b o n rows s are in
        record {
          keeps = laid_keeps b o n rows s b rows sorted.items are counted sound place.fit say sorts;
          stands =
              laid_stands b o n rows s b rows sorted.items are counted sound place.fit say sorts;
          plain = λ u. refl;
        }

    -- any other is read by its decoded texts
    pub file_decoded : (texts : Vec ℕ Global) (laid sorted : Vec Row Global)
        → is_in_utf8 count (first_encoding o) s.encoding ≡ false
        → Decodes b (first_encoding o) s.encoding rows texts.items laid.items
        → Sorts texts.items laid.items sorted.items → IsFile b o (record {
          texts = Some texts;
          rows = sorted;
          settings = s;
        })
    file_decoded texts laid sorted u d sorts =
        let say : map (message_at texts.items) laid.items ≡ all_messages b o n = d.messages
        ∙ say_all b o n rows s are in
        record {
          keeps = laid_keeps b o n rows s texts.items laid.items sorted.items are counted sound
              d.fit say sorts;
          stands = laid_stands b o n rows s texts.items laid.items sorted.items are counted sound
              d.fit say sorts;
          plain = λ told.
              let same : count ≡ n = long ∙ ap length are.are ∙ length-rows_from b 0 n in
              let yes = told_in_utf8 b o n rows s are counted told in
              let clash : true ≡ false = sym yes
              ∙ ap (λ (k : ℕ). is_in_utf8 k (first_encoding o) s.encoding) (sym same) ∙ u in
              absurd cc;
        }
