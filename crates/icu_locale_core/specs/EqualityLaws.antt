-- The tests for sameness decide it.
use Rattle.std.specs.Prelude.{◌≡◌, ℕ, List, Option, Some, None}
use Rattle.std.specs.Bool.{Decides}
use Rattle.std.proofs.Common.{refl, ap}
use Rattle.std.proofs.lemmas.Bool.{and_parts, and_from}
use Rattle.std.proofs.lemmas.Slice.Eq.{bytes_eq-Decides}
use Rattle.icu_locale_core.specs.Equality.{same_text, same_subtag, same_locale}
use Rattle.icu_locale_core.specs.Locale.{Locale}

-- of texts
pub same_text-Decides : (a b : List ℕ) → Decides (same_text a b) (a ≡ b)
same_text-Decides = bytes_eq-Decides

-- of subtags
pub same_subtag-Decides : (a b : Option (List ℕ)) → Decides (same_subtag a b) (a ≡ b)
same_subtag-Decides None None = (λ _. refl, λ _. refl)
same_subtag-Decides None (Some t) = (λ e. cc, λ e. cc)
same_subtag-Decides (Some s) None = (λ e. cc, λ e. cc)
same_subtag-Decides (Some s) (Some t) =
    (λ e. ap Some ((same_text-Decides s t).0 e), λ e. (same_text-Decides s t).1 cc)

-- of locales
pub same_locale-Decides : (a b : Locale) → Decides (same_locale a b) (a ≡ b)
same_locale-Decides a b = (
  λ e.
      let language = and_parts _ _ e in
      let script = and_parts _ _ language.1 in
      let region = and_parts _ _ script.1 in
      let variant = and_parts _ _ region.1 in
      λ i. record {
        language = (same_text-Decides a.language b.language).0 language.0 i;
        script = (same_subtag-Decides a.script b.script).0 script.0 i;
        region = (same_subtag-Decides a.region b.region).0 region.0 i;
        variant = (same_subtag-Decides a.variant b.variant).0 variant.0 i;
        subdivision = (same_subtag-Decides a.subdivision b.subdivision).0 variant.1 i;
      },
  λ e.
      and_from _ _ ((same_text-Decides a.language b.language).1 (ap (λ l. l.language) e))
      (and_from _ _ ((same_subtag-Decides a.script b.script).1 (ap (λ l. l.script) e))
      (and_from _ _ ((same_subtag-Decides a.region b.region).1 (ap (λ l. l.region) e))
      (and_from _ _ ((same_subtag-Decides a.variant b.variant).1 (ap (λ l. l.variant) e))
      ((same_subtag-Decides a.subdivision b.subdivision).1 (ap (λ l. l.subdivision) e))))),
)
