-- Texts that a `ScriptSink` took, one after another.
use Rattle.std.specs.Prelude.{ℕ, List, [], ◌++◌}
use Rattle.std.proofs.Common.{arith, refl, ◌∙◌}
use Rattle.writeable_core.specs.SinkLaws.{append_nothing, append_both}
use Rattle.writeable_sinks.specs.ScriptSink.{Script, Wrote}

pub Wrote-nothing : (s : Script) → Wrote s [] s
Wrote-nothing s = record { text = append_nothing s.text; failing = refl; later = omega arith }

pub Wrote-both : (a b c : Script) (s t : List ℕ) → Wrote a s b → Wrote b t c → Wrote a (s ++ t) c
Wrote-both a b c s t p q = record {
  text = append_both a.text b.text c.text s t p.text q.text;
  failing = q.failing ∙ p.failing;
  later = omega (arith, p.later, q.later);
}
