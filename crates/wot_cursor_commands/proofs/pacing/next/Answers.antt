use Rattle.std.proofs.Common.{◌≡◌, true, sym, ap, ◌∙◌}
use Rattle.std.specs.Prelude.{is_some}
use Rattle.wot_keyring_spec.specs.Keyring.{Keyring}
use Rattle.wot_cache.specs.Views.{view_at}
use Rattle.wot_table.specs.Table.{entry_at}
use Rattle.wot_cursor.specs.Age.{age_of}
use Rattle.wot_cursor.specs.declared.stamps.Stamps.{Stamps}
use Rattle.wot_plain.specs.Pacing.{stamps_in}
use Rattle.wot_plain.specs.Session.{Session, session_of}
use Rattle.wot_cursor_commands.proofs.Pieces.{given_by, stamps_now}
use Rattle.wot_cursor_commands.proofs.pacing.next.Goals as goal

pub returns-in-Same-clause-goes : goal.returns-in-Same-clause-goes
returns-in-Same-clause-goes c =
    let s : Session = session_of c.args.engine.now c.args.cursors.now in
    let view = c.in-Some.cursor.now.view in
    let shown : is_some (view_at c.args.engine.now.views view) ≡ true =
    sym (rw c.view.ensures.view at c.in-Some-revision.ensures.open) in
    let now : Stamps = record { keyring = c.changes.result; view = c.in-Some-revision.revision } in
    let here : now ≡ stamps_in s view =
    stamps_now s view now (c.changes.ensures.changes ∙ ap (λ (k : Keyring). k.changes) c.keyring.ensures.keyring)
    (rw c.view.ensures.view at c.in-Some-revision.ensures.revision) in
    let both : age_of c.stamps.result now ≡ age_of c.in-Some.cursor.now.stamps (stamps_in s view) =
    λ i. age_of (c.stamps.ensures.stamps i) (here i) in
    given_by (entry_at c.args.cursors.now c.args.name.now) c.in-Some.cursor.now s c.args.name.now c.args.count
    c.in-Some.ensures.found shown c.give.result
    (sym both ∙ sym c.in-Same.ensures.first) (c.give.ensures.gives c.args.cursors.now)
