use Rattle.std.proofs.Common.{refl, map, ap, ◌∙◌}
use Rattle.std.specs.Char.{to_ascii_uppercase}
use Rattle.tinystr.proofs.Padding.{holds_text-map, unpadded-map, upper_keeps}
use Rattle.tinystr.proofs.tiny_str.TinyStr.to_ascii_uppercase.Goals as goal

pub invariant_of-self : goal.invariant_of-self
invariant_of-self g c =
    rw c.make_ascii_uppercase.ensures.after
    (holds_text-map to_ascii_uppercase refl upper_keeps _ _ c.self.invariant)

pub returns : goal.returns
returns g c =
    rw c.make_ascii_uppercase.ensures.after
    (unpadded-map to_ascii_uppercase refl upper_keeps _ _ c.self.invariant
    ∙ ap (map to_ascii_uppercase) c.self.view_is)
