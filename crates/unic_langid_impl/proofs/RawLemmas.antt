-- The subtag of a number: the text that the number's bytes are, without the zeros behind it.
use Rattle.std.proofs.Common.{◌≡◌, ◌≢◌, ℕ, ◌≤◌, nat_lt, List, Option, Some, None, length, take, sym}
use Rattle.std.proofs.Common.{ap, subst, ◌∙◌, arith}
use Rattle.std.specs.Prelude.{◌==◌}
use Rattle.std.specs.Int.{Width, from_le_bytes, to_le_bytes, w64}
use Rattle.std.specs.List.{position, position_or_len}
use Rattle.std.specs.Option.{option_map}
use Rattle.std.proofs.lemmas.Bool.Decides.{nat_tests}
use Rattle.std.proofs.lemmas.List.{take_all}
use Rattle.tinystr.specs.Text.{unpadded}
use Rattle.unic_langid_impl.specs.Subtags.{IsLanguage, IsLanguageOrNone, is_language, is_und}
use Rattle.unic_langid_impl.specs.Subtags.{language_of, language_text, lowercase}
use Rattle.unic_langid_impl.proofs.NumberLemmas.{bytes-text_64}
use Rattle.unic_langid_impl.proofs.PieceLemmas.{found_at, found_none}
use Rattle.unic_langid_impl.proofs.PrintLemmas.{language-is, language-same}
use Rattle.unic_langid_impl.proofs.SubtagLemmas.{language_fits}
use Rattle.std.specs.Cmp.{first_so}
use Rattle.std.specs.Prelude.{not}

module _ (bytes : List ℕ) where
  abbrev end_of : ℕ
  end_of = position_or_len (λ byte. byte == 0) bytes

  pub zero-found : (n : ℕ) → Some n ≡ position (λ byte. byte == 0) bytes
      → take n bytes ≡ unpadded bytes
  zero-found n e = ap (λ k. take k bytes) (found_at (nat_lt end_of (length bytes)) end_of n e).1

  pub zero-none : None ≡ position (λ byte. byte == 0) bytes → bytes ≡ unpadded bytes
  zero-none e =
      let past = found_none (nat_lt end_of (length bytes)) end_of e in
      let within : length bytes ≤ end_of = grind (arith, nat_tests, past) in
      sym (take_all end_of bytes within)

-- what was read of a number's bytes
module _ (width : Width) (number : ℕ) (read : List ℕ) (Shape : List ℕ → Type 0)
    (case : List ℕ → List ℕ)
    (canonical : (s : List ℕ) → Shape s → case s ≡ s)
    (found : (s : List ℕ) → Shape s → from_le_bytes width s ≡ number → read ≡ s) where
  pub none-raw : ¬ (Shape (case read)) → (s : List ℕ) → Shape s → from_le_bytes width s ≢ number
  none-raw refused s h e = refused (subst Shape (sym (ap case (found s h e) ∙ canonical s h)) h)

  pub other-raw : (t : List ℕ) → t ≡ case read → from_le_bytes width t ≢ number
      → (s : List ℕ) → Shape s
      → from_le_bytes width s ≢ number
  other-raw t names other s h e =
      other (ap (from_le_bytes width) (names ∙ ap case (found s h e) ∙ canonical s h) ∙ e)

-- the same of a language
module _ (number : ℕ) (read : List ℕ) (is : read ≡ unpadded (to_le_bytes w64 number)) where
  named : (l : Option (List ℕ)) → IsLanguageOrNone l
      → option_map (from_le_bytes w64) l ≡ Some number → read ≡ language_text l
  named None h e = cc
  named (Some t) h e =
      let tiny = language_fits t (first_so (is_language t) (not (is_und t)) h) in
      let same : from_le_bytes w64 t ≡ number = cc in
      is ∙ bytes-text_64 t number tiny.bytes tiny.fits same

  pub none-language : ¬ (IsLanguage (lowercase read)) → (l : Option (List ℕ)) → IsLanguageOrNone l
      → option_map (from_le_bytes w64) l ≢ Some number
  none-language refused l h e =
      refused (subst (λ t. IsLanguage (lowercase t)) (sym (named l h e)) (language-is l h))

  pub other-language : (k : Option (List ℕ)) → k ≡ language_of (lowercase read)
      → option_map (from_le_bytes w64) k ≢ Some number → (l : Option (List ℕ)) → IsLanguageOrNone l
      → option_map (from_le_bytes w64) l ≢ Some number
  other-language k names other l h e =
      let same : k ≡ l = names ∙ ap (λ t. language_of (lowercase t)) (named l h e)
      ∙ sym (language-same l h) in
      other (ap (option_map (from_le_bytes w64)) same ∙ e)
