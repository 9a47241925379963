-- Answers that may be want of memory.
use Rattle.std.proofs.Common.{◌≡◌, ◌⊎◌, inl, inr}
use Rattle.gettext.specs.declared.error.Error.{Error}
use Rattle.gettext.specs.declared.error.Error.TheVariants.{NoMemory}

-- what another answer says is said in other words
pub or_memory : {P Q : Type 0} {e : Error} → (e ≡ NoMemory) ⊎ P → (P → Q) → (e ≡ NoMemory) ⊎ Q
or_memory (inl memory) f = inl memory
or_memory (inr h) f = inr (f h)
