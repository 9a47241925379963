use Rattle.std.proofs.Common.{◌≤◌, length}
use Rattle.localise_document.specs.Members.{texts}
use Rattle.localise_document.proofs.MembersByName.{IsRead}
use Rattle.localise_document.proofs.members.members_by_name.Given as goal

abbrev pub invariant-loop-key : goal.invariant-loop-key
invariant-loop-key g l = IsRead (texts l.names) l.fn.members.entries l.key-iterator l.slots
    × (l.next ≤ length l.names)
