use Rattle.std.proofs.Common.{◌≡◌, true, length, ◌==◌, ◌∷◌, [], Some, None, sym, ◌∙◌, lit<, refl}
use Rattle.std.proofs.Common.{map, ap, inr}
use Rattle.std.specs.Option.{option_map}
use Rattle.std.specs.List.{slice_split}
use Rattle.std.proofs.lemmas.List.{map-append}
use Rattle.std.proofs.lemmas.Result.{err_from_is_err_and}
use Rattle.std.proofs.lemmas.Option.{none-some}
use Rattle.std.proofs.lemmas.Iterator.Splits.{YieldsList-from_str_split}
use Rattle.std.proofs.lemmas.Iterator.Consumers.{YieldsList-so_far, YieldsList-turn, YieldsList-end}
use Rattle.gettext.specs.declared.error.Error.TheVariants.{MalformedMetadata}
use Rattle.gettext.specs.Metadata.{shown, fields_of, field_of, is_colon, is_line_feed}
use Rattle.gettext.proofs.MetadataCuts.{pieces_at}
use Rattle.gettext.proofs.MetadataFields.{nothing_read, line_skipped, line_read, all_read, read_as}
use Rattle.gettext.proofs.MetadataFields.{all_malformed, from_ok_or}
use Rattle.gettext.proofs.metadata.parse_metadata.Goals as goal

pub loop-line-init : goal.loop-line-init
loop-line-init c = nothing_read _ c.new-fields.ensures.empty

pub loop-line-preserved-then-is_empty : goal.loop-line-preserved-then-is_empty
loop-line-preserved-then-is_empty c =
    let empty : (length c.in-Some.line.now == 0) ≡ true = sym c.if-is_empty.ensures in
    rw (map-append (λ s. s.now) _ (c.in-Some.line ∷ []))
    (line_skipped (map (λ s. s.now) _) _ _ empty c.loop-line.invariant)

malformed : (c : goal.After-drop-fields) → fields_of c.args.blob.now ≡ None
malformed c =
    let road = YieldsList-from_str_split {s = c.into_iter-line-iterator.result} 10 c.args.blob.now
    (lit< tt) (cc) (cc) (cc) in
    let at = pieces_at (λ s. s.now) (slice_split is_line_feed c.args.blob.now) c.loop-line.yielded
    c.in-Some.line (YieldsList-so_far road c.loop-line.yielded _ c.loop-line.yielded_by)
    (YieldsList-turn road c.loop-line.yielded _ c.loop-line.yielded_by _ _ c.in-Some.line
    c.in-Some.is c.next.ensures.steps) in
    let no_field : field_of is_colon c.in-Some.line.now ≡ None = sym c.field_at.ensures
    ∙ ap (option_map shown)
    (from_ok_or c.field_at.result MalformedMetadata c.in_err-name.field-0.0
    c.in_err-name.ensures.value).0 in
    all_malformed c.args.blob.now (map (λ s. s.now) c.loop-line.yielded) at.0 c.in-Some.line.now
    c.loop-line.fields (sym c.if-is_empty.ensures) no_field at.1 c.loop-line.invariant

pub returns-in_err-name-clause-ok : goal.returns-in_err-name-clause-ok
returns-in_err-name-clause-ok c = λ fields is. absurd (none-some fields (sym (malformed c) ∙ is))

pub returns-in_err-name-clause-err : goal.returns-in_err-name-clause-err
returns-in_err-name-clause-err c =
    let p = err_from_is_err_and c.from_residual.result c.from_residual.ensures.1 in
    let which = from_ok_or c.field_at.result MalformedMetadata c.in_err-name.field-0.0
    c.in_err-name.ensures.value in
    rw p.1 (inr (p.2 ∙ which.1, malformed c))

pub loop-line-preserved : goal.loop-line-preserved
loop-line-preserved c =
    let field : field_of is_colon c.in-Some.line.now
    ≡ Some (shown (c.in_ok-name.name, c.in_ok-name.value)) =
    sym c.field_at.ensures ∙ ap (option_map shown) c.in_ok-name.ensures.ok_part in
    rw (map-append (λ s. s.now) c.loop-line.yielded (c.in-Some.line ∷ []))
    (line_read (map (λ s. s.now) c.loop-line.yielded) c.in-Some.line.now c.loop-line.fields
    c.insert.new.self (shown (c.in_ok-name.name, c.in_ok-name.value)) c.in_ok-name.value
    (sym c.if-is_empty.ensures) field refl c.in_ok-insert.ensures.updates c.loop-line.invariant)

pub returns-clause-ok : goal.returns-clause-ok
returns-clause-ok c =
    let end : map (λ s. s.now) c.loop-line.yielded ≡ slice_split is_line_feed c.args.blob.now =
    (YieldsList-end
    (YieldsList-from_str_split {s = c.into_iter-line-iterator.result} 10 c.args.blob.now (lit< tt)
    (cc) (cc) (cc)) c.loop-line.yielded _ c.loop-line.yielded_by _ _ c.in-None.is
    c.next.ensures.steps).0 in
    read_as c.args.blob.now (map (λ s. s.now) c.loop-line.yielded) c.loop-line.fields end
    c.loop-line.invariant

pub returns-clause-sound : goal.returns-clause-sound
returns-clause-sound c =
    let end : map (λ s. s.now) c.loop-line.yielded ≡ slice_split is_line_feed c.args.blob.now =
    (YieldsList-end
    (YieldsList-from_str_split {s = c.into_iter-line-iterator.result} 10 c.args.blob.now (lit< tt)
    (cc) (cc) (cc)) c.loop-line.yielded _ c.loop-line.yielded_by _ _ c.in-None.is
    c.next.ensures.steps).0 in
    all_read c.args.blob.now (map (λ s. s.now) c.loop-line.yielded) c.loop-line.fields end
    c.loop-line.invariant
