-- What each slot holds, the slots before it being empty.
use Rattle.std.proofs.Common.{ap, ◌∙◌}
use Rattle.serde_json.proofs.Views.{view-Object}
use Rattle.serde_json.specs.View.{view, members_view}
use Rattle.localise_document.proofs.Slots.{filled_anew, taken}
use Rattle.localise_document.proofs.document.members_from.Goals as goal

pub returns-clause-ok : goal.returns-clause-ok
returns-clause-ok c =
    record {
      members = members_view c.in-Object.members.entries;
      is_object = ap view c.in-Object.is ∙ view-Object c.in-Object.members;
      known = c.in-Some.ensures.0;
      bundles =
          taken _ _ _ _ _ c.take-3.ensures.value
          (filled_anew _ _ _ _ (filled_anew _ _ _ _ c.in-Some.ensures.1));
      fallback = taken _ _ _ _ _ c.take-2.ensures.value (filled_anew _ _ _ _ c.in-Some.ensures.1);
      registry = taken _ _ _ _ _ c.take.ensures.value c.in-Some.ensures.1;
      requests =
          taken _ _ _ _ _ c.take-5.ensures.value
          (filled_anew _ _ _ _
          (filled_anew _ _ _ _
          (filled_anew _ _ _ _ (filled_anew _ _ _ _ c.in-Some.ensures.1))));
      root =
          taken _ _ _ _ _ c.take-4.ensures.value
          (filled_anew _ _ _ _ (filled_anew _ _ _ _ (filled_anew _ _ _ _ c.in-Some.ensures.1)));
    }
