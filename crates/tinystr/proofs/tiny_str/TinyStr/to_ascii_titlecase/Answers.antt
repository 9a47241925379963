use Rattle.std.proofs.Common.{◌≡◌, ◌∙◌}
use Rattle.tinystr.specs.Text.{titlecase, unpadded}
use Rattle.tinystr.proofs.Padding.{raised, raised_some, raised_none, raised-map, holds_text-raised}
use Rattle.tinystr.proofs.Padding.{unpadded-raised}
use Rattle.tinystr.proofs.tiny_str.TinyStr.to_ascii_titlecase.Goals.{in-Some, in_default}
use Rattle.tinystr.proofs.tiny_str.TinyStr.to_ascii_titlecase.Goals as goal

pub invariant_of-title : goal.invariant_of-title
invariant_of-title g c =
    elim c.match-first_mut.branch [
      | in-Some w ↦ rw (w.title-inside-is, w.to_ascii_uppercase.ensures.value)
          (holds_text-raised _ _ _ c.title.invariant
          (raised_some _ _ w.in-Some.ensures.item.0 w.in-Some.ensures.item.1))
      | in_default w ↦ rw w.title-inside-is
          (holds_text-raised _ _ _ c.title.invariant (raised_none _ w.in_default.ensures.item.0))
    ]

pub returns : goal.returns
returns g c =
    let text : raised (unpadded c.title.inside.bytes) ≡ titlecase c.args.self =
    cc (raised-map c.args.self) in
    elim c.match-first_mut.branch [
      | in-Some w ↦ rw (w.title-inside-is, w.to_ascii_uppercase.ensures.value)
          (unpadded-raised _ _ _ c.title.invariant
          (raised_some _ _ w.in-Some.ensures.item.0 w.in-Some.ensures.item.1) ∙ text)
      | in_default w ↦ rw w.title-inside-is
          (unpadded-raised _ _ _ c.title.invariant (raised_none _ w.in_default.ensures.item.0)
          ∙ text)
    ]
