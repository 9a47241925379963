use Rattle.std.proofs.Common.{◌+◌, ◌-◌, ◌/◌, ◌∙◌, sym, arith}
use Rattle.gettext.specs.Messages.{key_of}
use Rattle.gettext.specs.Table.{key_bytes}
use Rattle.gettext.proofs.Keys.{goes_up, goes_down, is_found, is_absent}
use Rattle.std.specs.Option.{option_map}
use Rattle.gettext.proofs.catalog.table.find_row.Goals as goal

pub loop-low-preserved-in-Less : goal.loop-low-preserved-in-Less
unfolding key_bytes
loop-low-preserved-in-Less c =
    goes_up c.args.buffer.now c.args.rows.now
    (key_of (option_map (λ s. s.now) c.args.context) c.args.id.now) c.requires c.loop-low.low
    c.loop-low.high (c.loop-low.low + (c.loop-low.high - c.loop-low.low) / 2) (record {
      key = record { start = 0; end = 0 };
      forms = record { start = 0; end = 0 };
    }) c.loop-low.invariant (omega arith) (omega arith)
    (rw (← c.bytes_of.ensures) (sym c.compare_key.ensures ∙ c.in-Less.is))

pub returns-in-Equal : goal.returns-in-Equal
unfolding key_bytes
returns-in-Equal c =
    is_found c.args.buffer.now c.args.rows.now
    (key_of (option_map (λ s. s.now) c.args.context) c.args.id.now) c.requires
    (c.loop-low.low + (c.loop-low.high - c.loop-low.low) / 2)
    _ (omega (arith, c.loop-low.invariant.inside))
    (rw (← c.bytes_of.ensures) (sym c.compare_key.ensures ∙ c.in-Equal.is))

pub loop-low-preserved : goal.loop-low-preserved
unfolding key_bytes
loop-low-preserved c =
    goes_down c.args.buffer.now c.args.rows.now
    (key_of (option_map (λ s. s.now) c.args.context) c.args.id.now) c.requires c.loop-low.low
    c.loop-low.high (c.loop-low.low + (c.loop-low.high - c.loop-low.low) / 2) (record {
      key = record { start = 0; end = 0 };
      forms = record { start = 0; end = 0 };
    }) c.loop-low.invariant (omega arith) (omega arith)
    (rw (← c.bytes_of.ensures) (sym c.compare_key.ensures ∙ c.in-Greater.is))

pub returns : goal.returns
returns c = is_absent c.args.buffer.now c.args.rows.now
    (key_of (option_map (λ s. s.now) c.args.context) c.args.id.now) c.requires c.loop-low.low
    c.loop-low.high c.loop-low.invariant (omega arith)
