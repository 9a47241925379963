-- Texts that are compared, one after another.
use Rattle.std.specs.Prelude.{ℕ, List, [], ◌++◌, encode_utf8_all}
use Rattle.std.proofs.Common.{refl, ap, ◌∙◌, append_assoc, arith}
use Rattle.std.proofs.lemmas.Str.{encodes-append}
use Rattle.writeable_cmp.specs.Comparing.{Comparison, outcome, Compared}

pub Compared-nothing : (s : Comparison) → Compared s [] s
Compared-nothing s = record { outcome = λ more. refl; later = omega arith }

pub Compared-both : (a b c : Comparison) (s t : List ℕ) → Compared a s b → Compared b t c
    → Compared a (s ++ t) c
Compared-both a b c s t p q = record {
  outcome = λ more.
      ap (λ bytes. outcome a (bytes ++ more)) (encodes-append s t)
      ∙ ap (outcome a) (append_assoc (encode_utf8_all s) (encode_utf8_all t) more)
      ∙ p.outcome (encode_utf8_all t ++ more) ∙ q.outcome more;
  later = omega (arith, p.later, q.later);
}
