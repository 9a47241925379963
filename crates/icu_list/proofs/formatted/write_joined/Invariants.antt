use Rattle.std.proofs.Common.{map, drop, chars}
use denote.Text.{Utf8}
use denote.Shadow.{shadow}
use Rattle.icu_list.specs.Frames.{whole, left, frame_of}
use Rattle.icu_list.specs.Joined.{as_it_is}
use Rattle.icu_list.proofs.Going.{Going}
use Rattle.icu_list.proofs.formatted.write_joined.Given as goal

abbrev pub invariant-loop-value : goal.invariant-loop-value
invariant-loop-value g l =
    shadow (Utf8 l.between)
    × Going g.S.Sink.took l.fn.sink l.sink
    (whole as_it_is (frame_of l.joints) (g.W.Writeable.text l.first)
    (map g.W.Writeable.text l.inner) (g.W.Writeable.text l.last))
    (left as_it_is (frame_of l.joints) (g.W.Writeable.text l.last) (chars l.between)
    (map g.W.Writeable.text (drop l.value-index l.inner)))
