use Rattle.std.proofs.Common.{map, drop, chars}
use denote.Text.{Utf8}
use denote.Shadow.{shadow}
use Rattle.icu_list.specs.Frames.{whole, left, frame_of}
use Rattle.icu_list.specs.Joined.{element, literal}
use Rattle.icu_list.proofs.Going.{Going}
use Rattle.icu_list.proofs.formatted.write_parts_joined.Given as goal

abbrev pub invariant-loop-value : goal.invariant-loop-value
invariant-loop-value g l =
    shadow (Utf8 l.between)
    × Going g.P.PartsWrite.took_marks l.fn.sink l.sink
    (whole literal (frame_of l.joints) (element (g.W.Writeable.marked l.first))
    (map element (map g.W.Writeable.marked l.inner)) (element (g.W.Writeable.marked l.last)))
    (left literal (frame_of l.joints) (element (g.W.Writeable.marked l.last)) (chars l.between)
    (map element (map g.W.Writeable.marked (drop l.value-index l.inner))))
