-- Counts of texts one after another.
use Rattle.std.specs.Prelude.{◌≡◌, ℕ, ◌+◌, List, [], ◌++◌}
use Rattle.std.proofs.Common.{arith, sym, ap, ◌∙◌}
use Rattle.std.proofs.lemmas.Grind.{common_steps}
use Rattle.writeable_core.specs.Hint.{byte_length}
use Rattle.writeable_core.specs.HintLaws.{byte_length-append}
use Rattle.writeable_sinks.specs.CountSink.{counted, Counts}

pub counted-both : (a s t : ℕ) → counted (counted a s) t ≡ counted a (s + t)
counted-both a s t = grind (arith, common_steps)

pub Counts-nothing : (a : ℕ) → Counts a [] a
Counts-nothing a = grind (arith, common_steps)

pub Counts-both : (a b c : ℕ) (s t : List ℕ) → Counts a s b → Counts b t c → Counts a (s ++ t) c
Counts-both a b c s t p q =
    q ∙ ap (λ n. counted n (byte_length t)) p ∙ counted-both a (byte_length s) (byte_length t)
    ∙ ap (counted a) (sym (byte_length-append s t))
