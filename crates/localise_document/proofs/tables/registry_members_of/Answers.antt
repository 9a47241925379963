-- What each slot holds, the slots before it being empty.
use Rattle.std.proofs.Common.{Some, ap, ◌∙◌}
use Rattle.serde_json.proofs.Views.{view-Object}
use Rattle.serde_json.specs.View.{view, members_view}
use Rattle.localise_document.proofs.Slots.{filled_anew, taken}
use Rattle.localise_document.proofs.Sections.{section_of_object}
use Rattle.localise_document.specs.Names.{registry_names}
use Rattle.localise_document.specs.Tables.{section_of}
use Rattle.localise_document.specs.declared.place.Section.TheVariants.{Registry}
use Rattle.localise_document.proofs.tables.registry_members_of.Goals as goal

pub returns-clause-ok : goal.returns-clause-ok
returns-clause-ok c =
    record {
      members = members_view c.in-Object.members.entries;
      read =
          ap (λ d. section_of Registry registry_names (Some d))
          (ap view c.in-Object.is ∙ view-Object c.in-Object.members)
          ∙ section_of_object Registry registry_names
          (members_view c.in-Object.members.entries) c.in-Some.ensures.0;
      has = record {
        languages = taken _ _ _ _ _ c.take.ensures.value c.in-Some.ensures.1;
        languages_preferred =
            taken _ _ _ _ _ c.take-2.ensures.value (filled_anew _ _ _ _ c.in-Some.ensures.1);
        languages_suppress_script =
            taken _ _ _ _ _ c.take-3.ensures.value
            (filled_anew _ _ _ _ (filled_anew _ _ _ _ c.in-Some.ensures.1));
        extlangs =
            taken _ _ _ _ _ c.take-4.ensures.value
            (filled_anew _ _ _ _ (filled_anew _ _ _ _ (filled_anew _ _ _ _ c.in-Some.ensures.1)));
        extlangs_preferred =
            taken _ _ _ _ _ c.take-5.ensures.value
            (filled_anew _ _ _ _
            (filled_anew _ _ _ _
            (filled_anew _ _ _ _ (filled_anew _ _ _ _ c.in-Some.ensures.1))));
        scripts =
            taken _ _ _ _ _ c.take-6.ensures.value
            (filled_anew _ _ _ _
            (filled_anew _ _ _ _
            (filled_anew _ _ _ _
            (filled_anew _ _ _ _ (filled_anew _ _ _ _ c.in-Some.ensures.1)))));
        scripts_preferred =
            taken _ _ _ _ _ c.take-7.ensures.value
            (filled_anew _ _ _ _
            (filled_anew _ _ _ _
            (filled_anew _ _ _ _
            (filled_anew _ _ _ _
            (filled_anew _ _ _ _ (filled_anew _ _ _ _ c.in-Some.ensures.1))))));
        regions =
            taken _ _ _ _ _ c.take-8.ensures.value
            (filled_anew _ _ _ _
            (filled_anew _ _ _ _
            (filled_anew _ _ _ _
            (filled_anew _ _ _ _
            (filled_anew _ _ _ _
            (filled_anew _ _ _ _
            (filled_anew _ _ _ _ c.in-Some.ensures.1)))))));
        regions_preferred =
            taken _ _ _ _ _ c.take-9.ensures.value
            (filled_anew _ _ _ _
            (filled_anew _ _ _ _
            (filled_anew _ _ _ _
            (filled_anew _ _ _ _
            (filled_anew _ _ _ _
            (filled_anew _ _ _ _
            (filled_anew _ _ _ _
            (filled_anew _ _ _ _ c.in-Some.ensures.1))))))));
        variants =
            taken _ _ _ _ _ c.take-10.ensures.value
            (filled_anew _ _ _ _
            (filled_anew _ _ _ _
            (filled_anew _ _ _ _
            (filled_anew _ _ _ _
            (filled_anew _ _ _ _
            (filled_anew _ _ _ _
            (filled_anew _ _ _ _
            (filled_anew _ _ _ _
            (filled_anew _ _ _ _ c.in-Some.ensures.1)))))))));
        variants_preferred =
            taken _ _ _ _ _ c.take-11.ensures.value
            (filled_anew _ _ _ _
            (filled_anew _ _ _ _
            (filled_anew _ _ _ _
            (filled_anew _ _ _ _
            (filled_anew _ _ _ _
            (filled_anew _ _ _ _
            (filled_anew _ _ _ _
            (filled_anew _ _ _ _
            (filled_anew _ _ _ _
            (filled_anew _ _ _ _ c.in-Some.ensures.1))))))))));
        grandfathereds_preferred =
            taken _ _ _ _ _ c.take-12.ensures.value
            (filled_anew _ _ _ _
            (filled_anew _ _ _ _
            (filled_anew _ _ _ _
            (filled_anew _ _ _ _
            (filled_anew _ _ _ _
            (filled_anew _ _ _ _
            (filled_anew _ _ _ _
            (filled_anew _ _ _ _
            (filled_anew _ _ _ _
            (filled_anew _ _ _ _
            (filled_anew _ _ _ _
            c.in-Some.ensures.1)))))))))));
        redundants_preferred =
            taken _ _ _ _ _ c.take-13.ensures.value
            (filled_anew _ _ _ _
            (filled_anew _ _ _ _
            (filled_anew _ _ _ _
            (filled_anew _ _ _ _
            (filled_anew _ _ _ _
            (filled_anew _ _ _ _
            (filled_anew _ _ _ _
            (filled_anew _ _ _ _
            (filled_anew _ _ _ _
            (filled_anew _ _ _ _
            (filled_anew _ _ _ _
            (filled_anew _ _ _ _
            c.in-Some.ensures.1))))))))))));
      };
    }
