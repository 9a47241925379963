-- What a stepper answers once a text was written to it.
use Rattle.std.proofs.Common.{◌≡◌, ◌↔◌, ℕ, Bool, true, false, List, ◌++◌, Result, Ok, Err, inl, inr}
use Rattle.std.proofs.Common.{refl, sym, subst, arith, ◌⊎◌}
use Rattle.std.specs.Prelude.{OnOk, OnErr}
use Rattle.std.proofs.lemmas.Bool.{true≢false}
use Rattle.writeable_core.specs.declared.sink.SinkError.{SinkError}
use Rattle.writeable_core.specs.declared.sink.SinkError.TheVariants.{Fault, NoMemory}
use Rattle.writeable_core.specs.Sink.{TookPrefix, HasCause}
use Rattle.lazy_dfa.specs.Expression.{Expression}
use Rattle.lazy_dfa.specs.Meaning.{early, front, holds}
use Rattle.lazy_dfa.specs.Machine.{Machine, IsFor}
use Rattle.lazy_dfa.specs.Stepping.{Decided, HasRead, Took}
use Rattle.lazy_dfa.specs.Progress.{Progress, begun}
use Rattle.lazy_dfa.specs.SteppingLaws.{read_from_begin}
use Rattle.lazy_dfa.proofs.Texts.{early_longer, holds_early, holds_longer}

module _ (c : Expression) (m : Machine) (f : IsFor m c) (text : List ℕ) (now : Progress) (b : Bool)
    (holding : (c : Expression) (u : List ℕ) → IsFor now.machine c → HasRead c u now → (b ≡ true)
    ↔ holds c u)
    (deciding : (c : Expression) (u : List ℕ) → IsFor now.machine c → HasRead c u now → Decided c u
    → (b ≡ true) ↔ early c u) where
  settled : (u : List ℕ) → Decided c u → early c u ⊎ front c u → early c u
  settled u d (inl y) = y
  settled u (inl y) (inr z) = y
  settled u (inr none) (inr z) = absurd (none z)

  matches_part : (u w : List ℕ) → u ++ w ≡ text → IsFor now.machine c → HasRead c u now
      → Decided c u → (b ≡ true) ↔ holds c text
  matches_part u w e g h d = (
    (λ t. subst (λ (x : List ℕ). holds c x) e
        (holds_early c (u ++ w) (early_longer c u w ((deciding c u g h d).0 t)))),
    (λ x. (deciding c u g h d).1
        (settled u d (holds_longer c u w (subst (λ (y : List ℕ). holds c y) (sym e) x)))),
  )

  matches_by : (r : Result (Unit {0}) SinkError) → OnOk r (Took (begun m) text now)
      → OnErr r (TookPrefix Took (begun m) text now) → HasCause 0 now.refusals false r
      → (b ≡ true) ↔ holds c text
  matches_by (Ok x) took none cause =
      holding c text (subst (λ (n : Machine). IsFor n c) (sym took.machine) f)
      (read_from_begin c m text now f took)
  matches_by (Err NoMemory) none took cause = absurd (true≢false (sym (cause.no_memory refl)))
  matches_by (Err Fault) none took cause =
      let h = read_from_begin c m took.front now f took.taken in
      matches_part took.front took.rest took.parts
      (subst (λ (n : Machine). IsFor n c) (sym took.taken.machine) f) h
      (h.refused (omega (arith, cause.fault refl)))

  pub matches_from : (start : Progress) → start ≡ begun m → (r : Result (Unit {0}) SinkError)
      → OnOk r (Took start text now) → OnErr r (TookPrefix Took start text now)
      → HasCause start.refusals now.refusals false r → (b ≡ true) ↔ holds c text
  matches_from start e r ok err cause =
      matches_by r (subst (λ (s : Progress). OnOk r (Took s text now)) e ok)
      (subst (λ (s : Progress). OnErr r (TookPrefix Took s text now)) e err)
      (subst (λ (s : Progress). HasCause s.refusals now.refusals false r) e cause)
