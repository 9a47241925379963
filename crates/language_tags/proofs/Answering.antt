-- The canonical form goes by what a registry answers.
use Rattle.std.proofs.Common.{◌≡◌, ℕ, Bool, true, false, List, [], ◌∷◌, ◌++◌, Option, Some, None}
use Rattle.std.proofs.Common.{map, unwrap_or, is_some, cond, refl, ap, ap₂, ◌∙◌, subst}
use Rattle.std.specs.Option.{option_map}
use Rattle.language_tags.specs.Canon.{AreCanonical, GoesTo, IsCanonIn, IsCanonOf, PartsGoTo}
use Rattle.language_tags.specs.Canon.{Rewrites, Stays, extlang_value, not_written, replaced}
use Rattle.language_tags.specs.Canon.{unless_suppressed}
use Rattle.language_tags.specs.Laws.{AnswerAlike}
use Rattle.language_tags.specs.PrivateUse.{is_private_use}
use Rattle.language_tags_grammar.specs.Grandfathered.{is_grandfathered}
use Rattle.language_tags_grammar.specs.Tag.{Parts, Tag, Whole, Plain, at_most_one, extlangs_of}
use Rattle.language_tags_grammar.specs.Tag.{language_of, print, region_of, script_of, variants_of}
use Rattle.language_tags_registry.specs.Registry.{Tables, table_of, value_of}
use Rattle.language_tags_registry.specs.declared.kind.RegistryTable.{RegistryTable}
use Rattle.language_tags_registry.specs.declared.kind.RegistryTable.TheVariants.{LanguagesPreferred}
use Rattle.language_tags_registry.specs.declared.kind.RegistryTable.TheVariants.{LanguagesSuppressScript}
use Rattle.language_tags_registry.specs.declared.kind.RegistryTable.TheVariants.{ExtlangsPreferred}
use Rattle.language_tags_registry.specs.declared.kind.RegistryTable.TheVariants.{ScriptsPreferred}
use Rattle.language_tags_registry.specs.declared.kind.RegistryTable.TheVariants.{RegionsPreferred}
use Rattle.language_tags_registry.specs.declared.kind.RegistryTable.TheVariants.{VariantsPreferred}
use Rattle.language_tags_registry.specs.declared.kind.RegistryTable.TheVariants.{GrandfatheredsPreferred}
use Rattle.language_tags_registry.specs.declared.kind.RegistryTable.TheVariants.{RedundantsPreferred}

-- where a text leads and where it doesn't, a result is carried along
goes_along : (o p : Option (List ℕ)) (A B : Option Tag → Type 0) (result : Option Tag) → o ≡ p
    → (A result → B result)
    → GoesTo o A result → GoesTo p B result
goes_along None None A B result e f h = f h
goes_along (Some t) (Some u) A B None e f h = h
goes_along (Some t) (Some u) A B (Some tag) e f h = let same : t ≡ u = cc in
    subst (λ text. GoesTo (Some text) B (Some tag)) same h
goes_along None (Some u) A B result e f h = cc
goes_along (Some t) None A B result e f h = cc

module _ (R S : Tables) (alike : AnswerAlike R S) where
  -- what a subtag is replaced by
  replaced-alike : (table : RegistryTable) (subtag : List ℕ)
      → replaced (table_of table R) subtag ≡ replaced (table_of table S) subtag
  replaced-alike table subtag = ap (λ value. unwrap_or value subtag) (alike table subtag)

  -- what a subtag that may be missing is replaced by
  option-alike : (table : RegistryTable) (subtag : Option (List ℕ))
      → option_map (replaced (table_of table R)) subtag
      ≡ option_map (replaced (table_of table S)) subtag
  option-alike table None = refl
  option-alike table (Some subtag) = ap Some (replaced-alike table subtag)

  -- what subtags are replaced by
  map-alike : (table : RegistryTable) (subtags : List (List ℕ))
      → map (replaced (table_of table R)) subtags ≡ map (replaced (table_of table S)) subtags
  map-alike table [] = refl
  map-alike table (subtag ∷ subtags) =
      ap₂ (λ x xs. x ∷ xs) (replaced-alike table subtag) (map-alike table subtags)

  -- the preferred value of an extlang
  extlang-alike : (extlangs : List (List ℕ)) → extlang_value R extlangs ≡ extlang_value S extlangs
  extlang-alike [] = refl
  extlang-alike (extlang ∷ extlangs) = alike ExtlangsPreferred extlang

  -- canonical parts
  parts-alike : (g : Tag) (q : Parts) → AreCanonical R g q → AreCanonical S g q
  parts-alike g q c = record {
    language = c.language
        ∙ ap₂ unwrap_or (extlang-alike (extlangs_of g))
        (replaced-alike LanguagesPreferred (language_of g));
    extlangs = c.extlangs
        ∙ ap (λ value. cond (is_some value) [] (extlangs_of g)) (extlang-alike (extlangs_of g));
    script =
        c.script ∙ ap₂ unless_suppressed (alike LanguagesSuppressScript q.language)
        (option-alike ScriptsPreferred (script_of g));
    region = c.region ∙ option-alike RegionsPreferred (region_of g);
    variants = c.variants
        ∙ ap
        (not_written (q.language ∷ (q.extlangs ++ (at_most_one q.script ++ at_most_one q.region))))
        (map-alike VariantsPreferred (variants_of g));
    extensions = c.extensions;
    order = c.order;
    private = c.private;
  }

  -- parts that go to parts
  goes-alike : (g : Tag) (result : Option Tag) → PartsGoTo R g result → PartsGoTo S g result
  goes-alike g None h = h
  goes-alike g (Some (Whole text)) h = h
  goes-alike g (Some (Plain q)) h = (h.0, parts-alike g q h.1)

  rewrites-alike : (g : Tag) (result : Option Tag) → Rewrites R g result → Rewrites S g result
  rewrites-alike (Whole text) result h = h
  rewrites-alike (Plain p) result h = goes-alike (Plain p) result h

  in-alike : (private whole : Bool) (g : Tag) (result : Option Tag)
      → IsCanonIn private whole R g result → IsCanonIn private whole S g result
  in-alike true whole g result h = h
  in-alike false true g result h =
      goes_along (value_of R.grandfathereds_preferred (print g))
      (value_of S.grandfathereds_preferred (print g)) (Stays g) (Stays g) result
      (alike GrandfatheredsPreferred (print g)) (λ x. x) h
  in-alike false false g result h =
      goes_along (value_of R.redundants_preferred (print g))
      (value_of S.redundants_preferred (print g)) (Rewrites R g) (Rewrites S g) result
      (alike RedundantsPreferred (print g)) (rewrites-alike g result) h

-- the canonical form is the same over registries that answer alike
pub goes_by_answers : (R S : Tables) (g : Tag) (canonical : Option Tag) → AnswerAlike R S
    → IsCanonOf R g canonical → IsCanonOf S g canonical
goes_by_answers R S g canonical alike h =
    in-alike R S alike (is_private_use g) (is_grandfathered (print g)) g canonical h
