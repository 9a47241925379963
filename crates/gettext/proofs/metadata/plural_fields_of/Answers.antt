use Rattle.std.proofs.Common.{◌≡◌, true, false, ◌∷◌, [], Some, sym, lit<, refl, map, codes}
use Rattle.std.specs.List.{slice_split}
use Rattle.std.proofs.lemmas.List.{map-append}
use Rattle.std.proofs.lemmas.Iterator.Splits.{YieldsList-from_str_split}
use Rattle.std.proofs.lemmas.Iterator.Consumers.{YieldsList-end}
use Rattle.writeable_core.specs.Texts.{same_text}
use Rattle.gettext.specs.Metadata.{shown, plural_fields, plural_in, is_semicolon}
use Rattle.gettext.proofs.MetadataFields.{nothing_found, piece_skipped, piece_found}
use Rattle.gettext.proofs.MetadataFields.{plural_is_no_count}
use Rattle.gettext.proofs.metadata.plural_fields_of.Goals as goal

pub loop-piece-init : goal.loop-piece-init
loop-piece-init c = nothing_found

pub loop-piece-preserved-in_default : goal.loop-piece-preserved-in_default
loop-piece-preserved-in_default c =
    rw (map-append (λ s. s.now) _ (c.in-Some.piece ∷ []))
    (piece_skipped (map (λ s. s.now) _) _ _ _ (sym c.in_default.ensures) c.loop-piece.invariant)

pub loop-piece-preserved-then-eq : goal.loop-piece-preserved-then-eq
loop-piece-preserved-then-eq c =
    let plural : same_text c.in-Some-field_at.name.now (codes "plural") ≡ true =
    sym c.if-eq.ensures in
    rw (map-append (λ s. s.now) c.loop-piece.yielded (c.in-Some.piece ∷ []))
    (piece_found (map (λ s. s.now) c.loop-piece.yielded) c.in-Some.piece.now
    (shown (c.in-Some-field_at.name, c.in-Some-field_at.value)) c.loop-piece.count
    c.loop-piece.expression c.loop-piece.count (Some c.in-Some-field_at.value)
    (sym c.in-Some-field_at.ensures)
    (rw (plural_is_no_count c.in-Some-field_at.name.now plural) refl) (rw plural refl)
    c.loop-piece.invariant)

pub loop-piece-preserved-then-is_count_name : goal.loop-piece-preserved-then-is_count_name
loop-piece-preserved-then-is_count_name c =
    let other : same_text c.in-Some-field_at.name.now (codes "plural") ≡ false =
    sym c.if-eq.ensures in
    rw (map-append (λ s. s.now) c.loop-piece.yielded (c.in-Some.piece ∷ []))
    (piece_found (map (λ s. s.now) c.loop-piece.yielded) c.in-Some.piece.now
    (shown (c.in-Some-field_at.name, c.in-Some-field_at.value)) c.loop-piece.count
    c.loop-piece.expression (Some c.in-Some-field_at.value) c.loop-piece.expression
    (sym c.in-Some-field_at.ensures) (rw (← c.if-is_count_name.ensures) refl) (rw other refl)
    c.loop-piece.invariant)

pub loop-piece-preserved : goal.loop-piece-preserved
loop-piece-preserved c =
    let other : same_text c.in-Some-field_at.name.now (codes "plural") ≡ false =
    sym c.if-eq.ensures in
    rw (map-append (λ s. s.now) c.loop-piece.yielded (c.in-Some.piece ∷ []))
    (piece_found (map (λ s. s.now) c.loop-piece.yielded) c.in-Some.piece.now
    (shown (c.in-Some-field_at.name, c.in-Some-field_at.value)) c.loop-piece.count
    c.loop-piece.expression c.loop-piece.count c.loop-piece.expression
    (sym c.in-Some-field_at.ensures) (rw (← c.if-is_count_name.ensures) refl) (rw other refl)
    c.loop-piece.invariant)

pub returns-clause-count : goal.returns-clause-count
unfolding plural_fields
returns-clause-count c =
    let end : map (λ s. s.now) c.loop-piece.yielded ≡ slice_split is_semicolon c.args.forms.now =
    (YieldsList-end
    (YieldsList-from_str_split {s = c.into_iter-piece-iterator.result} 59 c.args.forms.now (lit< tt)
    (cc) (cc) (cc)) c.loop-piece.yielded _ c.loop-piece.yielded_by _ _ c.in-None.is
    c.next.ensures.steps).0 in
    rw (← end) c.loop-piece.invariant.count_found

pub returns-clause-expression : goal.returns-clause-expression
unfolding plural_in plural_fields
returns-clause-expression c =
    let end : map (λ s. s.now) c.loop-piece.yielded ≡ slice_split is_semicolon c.args.forms.now =
    (YieldsList-end
    (YieldsList-from_str_split {s = c.into_iter-piece-iterator.result} 59 c.args.forms.now (lit< tt)
    (cc) (cc) (cc)) c.loop-piece.yielded _ c.loop-piece.yielded_by _ _ c.in-None.is
    c.next.ensures.steps).0 in
    rw (← end) c.loop-piece.invariant.expression_found
