-- Texts that a `FixedSink` took, one after another.
use Rattle.std.specs.Prelude.{ℕ, List, [], ◌++◌}
use Rattle.std.proofs.Common.{arith}
use Rattle.writeable_core.specs.SinkLaws.{append_nothing, append_both}
use Rattle.writeable_sinks.specs.FixedSink.{Holding, Grew}

pub Grew-nothing : (s : Holding) → Grew s [] s
Grew-nothing s = record { text = append_nothing s.text; later = omega arith }

pub Grew-both : (a b c : Holding) (s t : List ℕ) → Grew a s b → Grew b t c → Grew a (s ++ t) c
Grew-both a b c s t p q = record {
  text = append_both a.text b.text c.text s t p.text q.text;
  later = omega (arith, p.later, q.later);
}
