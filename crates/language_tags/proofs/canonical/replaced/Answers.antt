use Rattle.std.proofs.Common.{ap, inl, inr, refl}
use Rattle.std.specs.Prelude.{unwrap_or}
use Rattle.language_tags.proofs.canonical.replaced.Goals as goal

pub returns-in-Some : goal.returns-in-Some
returns-in-Some c =
    record {
      value = ap (λ o. unwrap_or o c.args.subtag.now) c.in-Some.ensures.value;
      shape = inr c.in-Some.ensures.shape;
    }

pub returns-in-None : goal.returns-in-None
returns-in-None c =
    record {
      value = ap (λ o. unwrap_or o c.args.subtag.now) c.in-None.ensures.value;
      shape = inl refl;
    }
