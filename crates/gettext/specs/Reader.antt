-- What the steps of reading a file give. The contracts of private functions cite these.
use Rattle.std.specs.Prelude.{◌≡◌, ℕ, zero, suc, ◌+◌, ◌-◌, ◌≤◌, true, List, [], length, take, drop}
use Rattle.std.specs.Prelude.{◌∷◌, ◌++◌, Option, Some, None, Result, MatchResult, ◌⊎◌}
use Rattle.std.specs.List.{list_all, AllByRecursion}
use Rattle.std.specs.List.Sorted.{IsStrictlySortedBy}
use Rattle.std.specs.Ordering.{nat_cmp}
use Rattle.std.specs.Cmp.Lexicographic.{slice_cmp}
use Rattle.std.specs.BTreeMap.{BTreeMap, get_by, keys}
use Rattle.std.specs.Borrow.{Bor}
use Rattle.gettext.specs.declared.error.Error.{Error}
use Rattle.gettext.specs.declared.error.Error.TheVariants.{NoMemory}
use Rattle.gettext.specs.declared.parser.layout.Header.{Header}
use Rattle.gettext.specs.declared.spans.Span.{Span}
use Rattle.gettext.specs.declared.spans.Row.{Row}
use Rattle.gettext.specs.Layout.{is_big_endian, count_of, originals_of, translations_of}
use Rattle.gettext.specs.Layout.{text_offset, text_length, closed_text_of, text_of, original_of}
use Rattle.gettext.specs.Layout.{head_of}
use Rattle.gettext.specs.declared.encoding.Encoding.{Encoding}
use Rattle.gettext.specs.Encoding.{is_valid}
use Rattle.gettext.specs.Table.{key_bytes, form_bytes, row_for, IsRowOf, LiesIn}

-- Ok gives P where there is no fault, and an error is the fault.
abbrev pub Gives : {X : Type 0} → (X → Type 0) → Result X Error → Option Error → Type 0
Gives P result fault = MatchResult result (λ x. P x × (fault ≡ None)) (λ e. fault ≡ Some e)

-- the same, but that memory may run out
abbrev pub GivesInMemory : {X : Type 0} → (X → Type 0) → Result X Error → Option Error → Type 0
GivesInMemory P result fault =
    MatchResult result (λ x. P x × (fault ≡ None)) (λ e. (e ≡ NoMemory) ⊎ (fault ≡ Some e))

-- what is read of the first 28 bytes
pub record IsHeader (b : List ℕ) (header : Header) : Type 0 where
  pub count : header.count ≡ count_of b
  pub originals : header.originals ≡ originals_of b
  pub translations : header.translations ≡ translations_of b
  pub order : header.big_endian ≡ is_big_endian b

-- where the text of row i of a table stands
unfoldable pub text_span : List ℕ → ℕ → ℕ → Span
text_span b table i = record {
  start = text_offset b table i;
  end = text_offset b table i + text_length b table i;
}

-- the span of a text that lies in the file with its closing byte
pub record IsTextSpan (b : List ℕ) (table i : ℕ) (span : Span) : Type 0 where
  pub is : span ≡ text_span b table i
  pub ordered : span.start ≤ span.end
  pub inside : span.end + 1 ≤ length b
  pub closed : take (span.end + 1 - span.start) (drop span.start b) ≡ closed_text_of b table i
  pub text : take (span.end - span.start) (drop span.start b) ≡ text_of b table i

-- where the head of the original of row i stands
unfoldable pub head_span : List ℕ → ℕ → Span
head_span b i =
    record {
      start = text_offset b (originals_of b) i;
      end = text_offset b (originals_of b) i + length (head_of (original_of b i));
    }

-- where the texts of row i stand
unfoldable pub row_of : List ℕ → ℕ → Row
row_of b i = record { key = head_span b i; forms = text_span b (translations_of b) i }

-- the ranges of a row lie in the file, and its texts are valid in an encoding
pub record IsRowIn (b : List ℕ) (e : Encoding) (row : Row) : Type 0 where
  pub key_inside : LiesIn b row.key
  pub key : is_valid e (key_bytes b row) ≡ true
  pub forms_inside : LiesIn b row.forms
  pub forms : list_all (is_valid e) (form_bytes b row) ≡ true

-- the row that was read
pub record IsReadRow (b : List ℕ) (e : Encoding) (i : ℕ) (row : Row) : Type 0 where
  pub is : row ≡ row_of b i
  pub fits : IsRowIn b e row

-- n rows from row i on
unfoldable pub rows_from : List ℕ → ℕ → ℕ → List Row
rows_from b i zero = []
rows_from b i (suc n) = row_of b i ∷ rows_from b (suc i) n

-- a row beside the bytes of its key
pub record IsKeyed (b : List ℕ) (entry : Bor (List ℕ) × Row) : Type 0 where
  pub key : entry.0.now ≡ key_bytes b entry.1
  pub row : IsRowOf b entry.1

-- The map finds the last of the rows with each key.
pub record Collects (b : List ℕ) (rows : List Row)
    (found : BTreeMap (Bor (List ℕ)) Row) : Type 0 where
  pub keyed : AllByRecursion (IsKeyed b) found.entries
  pub ordered : IsStrictlySortedBy (λ x y. slice_cmp nat_cmp x.now y.now) (keys found)
  pub finds : (q : List ℕ) → get_by (λ k. slice_cmp nat_cmp q k.now) found ≡ row_for b rows q

-- n rows from row first on stand behind the others, and are read in an encoding
pub record Pushed (old new : List Row) (b : List ℕ) (e : Encoding) (first n : ℕ) : Type 0 where
  pub rows : new ≡ old ++ rows_from b first n
  pub fit : AllByRecursion (IsRowIn b e) (rows_from b first n)
