use Rattle.std.proofs.Common.{refl}
use Rattle.lazy_dfa.proofs.part.Part.end.Goals as goal

pub returns : goal.returns
returns c = λ n. let before = c.nothing.ensures n in record {
  empties = refl;
  empties_at_end = before.empties_at_end;
  firsts = before.firsts;
  lasts = before.lasts;
  lasts_at_end = before.lasts_at_end;
}
