-- The form for a count: of a file's rule, and of a function that is forced.
use Rattle.std.proofs.Common.{◌≡◌, ℕ, List, Option, Some, None, refl, sym, ap, ◌∙◌}
use Rattle.gettext.specs.Optional.{◌>>=◌}
use Rattle.gettext.specs.Rule.{rule_shown}
use Rattle.gettext.specs.Messages.{Messages, Rule, StandsFor, number_for, numbered_within, form}
use Rattle.gettext.specs.Messages.{text_or}
use Rattle.gettext.specs.Table.{Held, messages_of}

module _ (h : Held) (m : Messages) (key : List ℕ) (n : ℕ) (s : StandsFor (messages_of h) m) where
  -- the form for n is the one with the number that the kept rule gives
  pub form-at : (given number : Option ℕ) → number ≡ number_for (rule_shown h.rule) given n
      → form m given key n ≡ (number >>= numbered_within m key)
  unfolding form
  form-at given number e = ap (λ (r : Rule). number_for r given n >>= numbered_within m key)
      (sym s.rule) ∙ ap (λ (o : Option ℕ). o >>= numbered_within m key) (sym e)

-- the text of a form that is there
pub text_found : (found other : List ℕ) (number : ℕ) (form : Option (ℕ × List ℕ))
    → Some (number, found) ≡ form → found ≡ text_or form other
text_found found other number form e = rw (← e) refl

-- the other text where no form is there
pub text_absent : (other : List ℕ) (form : Option (ℕ × List ℕ)) → None ≡ form
    → other ≡ text_or form other
text_absent other form e = rw (← e) refl
