use Rattle.std.proofs.Common.{refl, map, ap, ◌∙◌}
use Rattle.std.specs.Char.{to_ascii_lowercase}
use Rattle.tinystr.proofs.Padding.{holds_text-map, unpadded-map, lower_keeps}
use Rattle.tinystr.proofs.tiny_str.TinyStr.to_ascii_lowercase.Goals as goal

pub invariant_of-self : goal.invariant_of-self
invariant_of-self g c =
    rw c.make_ascii_lowercase.ensures.after
    (holds_text-map to_ascii_lowercase refl lower_keeps _ _ c.self.invariant)

pub returns : goal.returns
returns g c =
    rw c.make_ascii_lowercase.ensures.after
    (unpadded-map to_ascii_lowercase refl lower_keeps _ _ c.self.invariant
    ∙ ap (map to_ascii_lowercase) c.self.view_is)
