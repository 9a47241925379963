-- The subtags of a cell. A cell is seen as its characters and read as its bytes; those of a subtag
-- are the same.
use Rattle.std.proofs.Common.{◌≡◌, ◌≢◌, ℕ, List, ◌∷◌, ◌++◌, Option, Some, None, IsUtf8, sym, ap}
use Rattle.std.proofs.Common.{◌∙◌, subst, refl}
use Rattle.std.specs.Prelude.{MatchOption, IsSomeAnd}
use Rattle.std.specs.Str.{chars, IsAscii}
use Rattle.std.proofs.lemmas.Str.{chars-IsAscii, encodes-chars}
use Rattle.std.proofs.lemmas.Str.Ascii.{encodes-IsAscii}
use lib.Utf8.{encodes}
use Rattle.unic_langid_impl.specs.Identifier.{Identifier, IsIdentifier, part, print}
use Rattle.unic_langid_impl.specs.Likely.{Triple, identifier_of}
use Rattle.unic_langid_impl.specs.LikelyRows.{LanguageCell, PrintsTriple}
use Rattle.unic_langid_impl.specs.Pieces.{first_piece, pieces_of}
use Rattle.unic_langid_impl.specs.Reading.{IsParserFault, id_of}
use Rattle.unic_langid_impl.specs.Subtags.{IsLanguage, IsLanguageOrNone, language_of, language_text}
use Rattle.unic_langid_impl.specs.Subtags.{lowercase}
use Rattle.unic_langid_impl.specs.declared.parser.error.ParserError.{ParserError}
use Rattle.unic_langid_impl.specs.declared.parser.error.ParserError.TheVariants.{InvalidLanguage}
use Rattle.unic_langid_impl.specs.declared.parser.error.ParserError.TheVariants.{InvalidSubtag}
use Rattle.unic_langid_impl.specs.declared.parser.error.ParserError.TheVariants.{NoMemory}
use Rattle.unic_langid_impl.proofs.Determined.{determined}
use Rattle.unic_langid_impl.proofs.PrintLemmas.{id-IsIdentifier, language-is, language-same}
use Rattle.unic_langid_impl.proofs.PrintLemmas.{language_ascii, language_shape, print-ascii}
use Rattle.unic_langid_impl.proofs.PrintLemmas.{print-id}

-- the bytes of a text that is seen as ASCII characters, and the characters of one that is read as
-- ASCII bytes
bytes_of : (text cell : List ℕ) → IsUtf8 text → chars text ≡ cell → IsAscii cell → text ≡ cell
bytes_of text cell utf8 is ascii =
    sym (encodes-chars text utf8) ∙ ap encodes is ∙ encodes-IsAscii cell ascii

characters_of : (text cell : List ℕ) → chars text ≡ cell → IsAscii text → text ≡ cell
characters_of text cell is ascii = sym (chars-IsAscii text ascii) ∙ is

module _ (text cell : List ℕ) (utf8 : IsUtf8 text) (is : chars text ≡ cell) where
  -- ---- a language

  named : (k : Option (List ℕ)) → LanguageCell cell k → text ≡ language_text k
  named k h =
      bytes_of text cell utf8 is (subst IsAscii h.text (language_ascii k h.shape)) ∙ sym h.text

  pub language-cell : (l : Option (List ℕ)) → IsLanguage (lowercase text)
      → l ≡ language_of (lowercase text)
      → text ≡ language_text l → LanguageCell cell l
  language-cell l shape names same =
      let there : IsLanguageOrNone l =
      subst IsLanguageOrNone (sym names) (language_shape (lowercase text) shape) in record {
        shape = there;
        text =
            sym same
            ∙ characters_of text cell is (subst IsAscii (sym same) (language_ascii l there));
      }

  pub language-none : ¬ (IsLanguage (lowercase text)) → (k : Option (List ℕ))
      → ¬ (LanguageCell cell k)
  language-none refused k h =
      refused (subst (λ t. IsLanguage (lowercase t)) (sym (named k h)) (language-is k h.shape))

  pub language-other : (l : Option (List ℕ)) → l ≡ language_of (lowercase text)
      → text ≢ language_text l
      → (k : Option (List ℕ)) → ¬ (LanguageCell cell k)
  language-other l names other k h =
      let same : l ≡ k = names ∙ ap (λ t. language_of (lowercase t)) (named k h)
      ∙ sym (language-same k h.shape) in
      other (named k h ∙ ap language_text (sym same))

  -- ---- a script or a region

  module _ (Shape : List ℕ → Type 0) (case : List ℕ → List ℕ)
      (canonical : (t : List ℕ) → Shape t → case t ≡ t)
      (is_ascii : (t : List ℕ) → Shape t → IsAscii t) where
    subtag_named : (k : List ℕ) → Shape k × (k ≡ cell) → text ≡ k
    subtag_named k h = bytes_of text cell utf8 is (subst IsAscii h.1 (is_ascii k h.0)) ∙ sym h.1

    pub subtag-cell : (s : List ℕ) → Shape (case text) → s ≡ case text → text ≡ s
        → Shape s × (s ≡ cell)
    subtag-cell s shape names same =
        let there : Shape s = subst Shape (sym names) shape in
        (there, sym same ∙ characters_of text cell is (subst IsAscii (sym same) (is_ascii s there)))

    pub subtag-none : ¬ (Shape (case text)) → (k : List ℕ) → ¬ (Shape k × (k ≡ cell))
    subtag-none refused k h =
        refused (subst Shape (sym (ap case (subtag_named k h) ∙ canonical k h.0)) h.0)

    pub subtag-other : (s : List ℕ) → s ≡ case text → text ≢ s → (k : List ℕ)
        → ¬ (Shape k × (k ≡ cell))
    subtag-other s names other k h =
        other (subtag_named k h ∙ sym (names ∙ ap case (subtag_named k h) ∙ canonical k h.0))

  -- ---- a printed triple

  printed : (t : Triple) → PrintsTriple cell t → text ≡ print (identifier_of t)
  printed t h =
      bytes_of text cell utf8 is (subst IsAscii h.text (print-ascii (identifier_of t) h.shape))
      ∙ sym h.text

  read_as : (t : Triple) → PrintsTriple cell t → id_of text (identifier_of t)
  read_as t h =
      subst (λ l. id_of l (identifier_of t)) (sym (printed t h))
      (print-id (identifier_of t) h.shape)

  pub triple-cell : (i : Identifier) (o : Option Triple) → id_of text i
      → MatchOption o ((t : Triple) → identifier_of t ≡ i → t.0 ≢ None → print i ≢ text)
      (λ t. (identifier_of t ≡ i) × (t.0 ≢ None) × (print i ≡ text))
      → MatchOption o ((t : Triple) → ¬ (PrintsTriple cell t)) (PrintsTriple cell)
  triple-cell i None h none = λ t p.
      let same : identifier_of t ≡ i =
      determined (pieces_of text) (identifier_of t) i (read_as t p) h in
      none t same p.language (ap print (sym same) ∙ sym (printed t p))
  triple-cell i (Some t) h some =
      let shape : IsIdentifier i = id-IsIdentifier (pieces_of text) i h in record {
        shape = subst IsIdentifier (sym some.0) shape;
        language = some.1;
        text = ap print some.0 ∙ some.2
            ∙ characters_of text cell is (subst IsAscii some.2 (print-ascii i shape));
      }

  pub triple-none : (e : ParserError) → e ≢ NoMemory → IsParserFault text e → (t : Triple)
      → ¬ (PrintsTriple cell t)
  triple-none e other fault t p = no_fault text (identifier_of t) e other (read_as t p) fault
    where
      no_fault : (bytes : List ℕ) (i : Identifier) (e : ParserError) → e ≢ NoMemory → id_of bytes i
          → ¬ (IsParserFault bytes e)
      no_fault bytes i InvalidLanguage other h fault =
          let begins :
          IsSomeAnd
          (first_piece (h.language ∷ (part h.script ++ (part h.region ++ h.variants))))
          (λ first. ¬ (IsLanguage (lowercase first))) =
          subst (λ l. IsSomeAnd (first_piece l) (λ first. ¬ (IsLanguage (lowercase first))))
          h.pieces_are fault in
          begins h.is_language
      no_fault bytes i InvalidSubtag other h fault = fault.1 i h
      no_fault bytes i NoMemory other h fault = other refl
