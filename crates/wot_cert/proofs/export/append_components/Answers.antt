use Rattle.wot_component.specs.Text.{parts_text}
use Rattle.wot_cert.proofs.AppendedTexts.{all_of, appends_then, another_name, in_a_row, some_of, some_after}
use Rattle.wot_component.proofs.Fits.{parts_fit}
use Rattle.wot_cert.proofs.export.append_components.Goals as goal

pub append_parts-requires-clause-fit : goal.append_parts-requires-clause-fit
append_parts-requires-clause-fit c = rw c.user_ids.ensures.user_ids (parts_fit _ _ _ c.user_ids.ensures.set.1)

pub append_parts-requires-2-clause-fit : goal.append_parts-requires-2-clause-fit
append_parts-requires-2-clause-fit c = rw c.attributes.ensures.attributes (parts_fit _ _ _ c.attributes.ensures.set.1)

pub append_parts-requires-3-clause-fit : goal.append_parts-requires-3-clause-fit
append_parts-requires-3-clause-fit c = rw c.subkeys.ensures.subkeys (parts_fit _ _ _ c.subkeys.ensures.set.1)

pub returns-in_err-append_parts : goal.returns-in_err-append_parts
returns-in_err-append_parts c =
    some_of c.from_residual.result _ _ _ _ c.from_residual.ensures.1 c.in_err-append_parts.ensures.0
    c.in_err-append_parts.ensures.1

pub returns-in_err-append_parts-2 : goal.returns-in_err-append_parts-2
returns-in_err-append_parts-2 c =
    let first = c.in_ok-append_parts.ensures in
    some_after c.from_residual-in_err-append_parts-2.result _ _ _ _ _ _ c.from_residual-in_err-append_parts-2.ensures.1
    (all_of (parts_text 13) _ _ _ _ _ c.user_ids.ensures.user_ids first.1 first.2) c.in_err-append_parts-2.ensures.0
    c.in_err-append_parts-2.ensures.1

pub returns : goal.returns
returns c =
    let first = c.in_ok-append_parts.ensures in
    let second = c.in_ok-append_parts-2.ensures in
    let one = all_of (parts_text 13) _ _ _ _ _ c.user_ids.ensures.user_ids first.1 first.2 in
    let two = all_of (parts_text 17) _ _ _ _ _ c.attributes.ensures.attributes second.1 second.2 in
    appends_then c.append_parts-3.result _ _ _ _ _ (in_a_row _ _ _ _ _ one two)
    (another_name (parts_text 14) c.append_parts-3.result _ _ _ _ c.subkeys.ensures.subkeys c.append_parts-3.ensures)
