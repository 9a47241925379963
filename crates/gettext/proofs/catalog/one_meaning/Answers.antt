use Rattle.std.proofs.Common.{◌∙◌, sym, refl}
use Rattle.gettext.specs.Checks.{found_fault}
use Rattle.gettext.proofs.Alike.{form_alike}
use Rattle.gettext.proofs.Faults.{is_mo_fault}
use Rattle.gettext.proofs.KeyParts.{key_parts}
use Rattle.gettext.proofs.Meaning.{meaning, has_meaning, is_meaning, fault_found, found_is}
use Rattle.gettext.proofs.catalog.one_meaning.Goals as goal

pub returns-clause-faultless : goal.returns-clause-faultless
returns-clause-faultless c =
    λ b o. (
      (λ none. (meaning b o, has_meaning b o (found_is b o _ none))),
      (λ h. fault_found b o _ (is_meaning b o h.0 h.1).0),
    )

pub returns-clause-unique : goal.returns-clause-unique
returns-clause-unique c = λ b o x y h k. (is_meaning b o x h).1 ∙ sym (is_meaning b o y k).1

pub returns-clause-fault : goal.returns-clause-fault
returns-clause-fault c = λ b o. (found_fault b o, fault_found b o _ refl)

pub returns-clause-one_fault : goal.returns-clause-one_fault
returns-clause-one_fault c = λ b o e f h k. sym (found_is b o e h) ∙ found_is b o f k

pub returns-clause-faults : goal.returns-clause-faults
returns-clause-faults c = λ b o e h. is_mo_fault b o e h

pub returns-clause-alike : goal.returns-clause-alike
returns-clause-alike c = λ b o x kept h s. form_alike b o x kept h s

pub returns-clause-parts : goal.returns-clause-parts
returns-clause-parts c = λ b e i m row. key_parts e _ m.key row.key
