use Rattle.std.proofs.Common.{arith}
use Rattle.std.proofs.lemmas.Grind.{common_steps}
use Rattle.gettext.proofs.Conditions.{has_no_nul, is_not_text, has_no_id, is_key}
use Rattle.gettext.proofs.parser.rows.key_len.Goals as goal

pub returns-then-len-original-clause-fault : goal.returns-then-len-original-clause-fault
returns-then-len-original-clause-fault c =
    has_no_nul _ _ _ _ c.place_of-len.ensures.value (omega arith)

pub returns-then-not-is_valid-clause-fault : goal.returns-then-not-is_valid-clause-fault
returns-then-not-is_valid-clause-fault c =
    is_not_text _ _ _ _ c.place_of-len.ensures.value c.if-len-original.false
    (grind (arith, common_steps))

pub returns-then-not-has_id-clause-fault : goal.returns-then-not-has_id-clause-fault
returns-then-not-has_id-clause-fault c =
    has_no_id _ _ _ _ c.place_of-len.ensures.value c.if-len-original.false
    (grind (arith, common_steps)) (grind (arith, common_steps)) (grind (arith, common_steps))

pub returns-clause-fault : goal.returns-clause-fault
returns-clause-fault c =
    is_key _ _ _ _ c.place_of-len.ensures.value c.if-len-original.false
    (grind (arith, common_steps)) (grind (arith, common_steps))
