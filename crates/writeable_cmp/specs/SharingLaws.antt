-- Texts that are looked for in other bytes, one after another.
use Rattle.std.specs.Prelude.{ℕ, List, [], ◌++◌}
use Rattle.std.proofs.Common.{refl, ◌∙◌}
use Rattle.writeable_core.specs.SinkLaws.{append_nothing, append_both}
use Rattle.writeable_cmp.specs.Sharing.{Sharing, Shared}

pub Shared-nothing : (s : Sharing) → Shared s [] s
Shared-nothing s = record { text = append_nothing s.text; reference = refl }

pub Shared-both : (a b c : Sharing) (s t : List ℕ) → Shared a s b → Shared b t c
    → Shared a (s ++ t) c
Shared-both a b c s t p q = record {
  text = append_both a.text b.text c.text s t p.text q.text;
  reference = q.reference ∙ p.reference;
}
