-- What each slot holds, the slots before it being empty.
use Rattle.std.proofs.Common.{Some, ap, ◌∙◌}
use Rattle.serde_json.proofs.Views.{view-Object}
use Rattle.serde_json.specs.View.{view, members_view}
use Rattle.localise_document.proofs.Slots.{filled_anew, taken}
use Rattle.localise_document.proofs.Sections.{section_of_object}
use Rattle.localise_document.specs.Names.{fallback_names}
use Rattle.localise_document.specs.Tables.{section_of}
use Rattle.localise_document.specs.declared.place.Section.TheVariants.{Fallback}
use Rattle.localise_document.proofs.tables.fallback_members_of.Goals as goal

pub returns-clause-ok : goal.returns-clause-ok
returns-clause-ok c =
    record {
      members = members_view c.in-Object.members.entries;
      read =
          ap (λ d. section_of Fallback fallback_names (Some d))
          (ap view c.in-Object.is ∙ view-Object c.in-Object.members)
          ∙ section_of_object Fallback fallback_names
          (members_view c.in-Object.members.entries) c.in-Some.ensures.0;
      has = record {
        likely_language = taken _ _ _ _ _ c.take.ensures.value c.in-Some.ensures.1;
        likely_language_script =
            taken _ _ _ _ _ c.take-2.ensures.value (filled_anew _ _ _ _ c.in-Some.ensures.1);
        likely_language_region =
            taken _ _ _ _ _ c.take-3.ensures.value
            (filled_anew _ _ _ _ (filled_anew _ _ _ _ c.in-Some.ensures.1));
        parents =
            taken _ _ _ _ _ c.take-4.ensures.value
            (filled_anew _ _ _ _ (filled_anew _ _ _ _ (filled_anew _ _ _ _ c.in-Some.ensures.1)));
      };
    }
