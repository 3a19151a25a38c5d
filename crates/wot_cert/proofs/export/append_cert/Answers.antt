use Rattle.std.proofs.Common.{◌++◌, refl}
use Rattle.wot_packet.specs.Writing.{written}
use Rattle.wot_component.specs.Text.{sigs_text, parts_text}
use Rattle.wot_cert.proofs.AppendedTexts.{all_of, appends_then, in_a_row, none_of, regrouped, some_after}
use Rattle.wot_component.proofs.Fits.{sigs_fit}
use Rattle.wot_cert.proofs.export.append_cert.Goals as goal

pub append_sigs-requires : goal.append_sigs-requires
append_sigs-requires c = rw c.direct.ensures.direct (sigs_fit _ _ _ _ c.direct.ensures.set.1)

pub returns-in_err-write_packet : goal.returns-in_err-write_packet
returns-in_err-write_packet c =
    none_of c.from_residual.result _ _ _ _ c.from_residual.ensures.1 c.in_err-write_packet.ensures.kept

pub returns-in_err-append_sigs : goal.returns-in_err-append_sigs
returns-in_err-append_sigs c =
    some_after c.from_residual-in_err-append_sigs.result _ _ _ _ _ _ c.from_residual-in_err-append_sigs.ensures.1
    c.in_ok-write_packet.ensures.written c.in_err-append_sigs.ensures.0 c.in_err-append_sigs.ensures.1

pub returns : goal.returns
returns c =
    let cert = c.args.cert.now in
    let sigs = c.in_ok-append_sigs.ensures in
    let key = all_of (written 6) _ _ _ _ _ c.body.ensures.body c.in_ok-write_packet.ensures.written refl in
    let direct = all_of sigs_text _ _ _ _ _ c.direct.ensures.direct sigs.1 sigs.2 in
    regrouped c.append_components.result _ _ (written 6 cert.key ++ sigs_text cert.direct) (parts_text 13 cert.user_ids)
    (parts_text 17 cert.attributes) (parts_text 14 cert.subkeys)
    (appends_then c.append_components.result _ _ _ (written 6 cert.key ++ sigs_text cert.direct)
    (parts_text 13 cert.user_ids ++ parts_text 17 cert.attributes ++ parts_text 14 cert.subkeys)
    (in_a_row _ _ _ (written 6 cert.key) (sigs_text cert.direct) key direct) c.append_components.ensures)
