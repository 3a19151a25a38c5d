-- What a cursor's `next` returns: its piece, or why there is none.
use Rattle.std.proofs.Common.{◌≡◌, ℕ, ◌≤◌, ◌==◌, Bool, true, false, List, length, map, Option, Some, None, Result, Ok}
use Rattle.std.proofs.Common.{Err, refl, sym, ap, subst, ◌∙◌, arith}
use Rattle.std.specs.Prelude.{IfOk, IfSome, IsSomeAnd, is_some}
use Rattle.std.specs.Option.{unwrap_or}
use Rattle.std.proofs.lemmas.Bool.{eqb-true}
use Rattle.std.proofs.lemmas.List.{length-map}
use Rattle.wot_reply_lines.specs.declared.lines.BindLine.{BindLine}
use Rattle.wot_script.specs.declared.reply.Reply.{Reply}
use Rattle.wot_script.specs.declared.reply.Reply.TheVariants as replies
use Rattle.wot_edge.specs.Record.{Record}
use Rattle.wot_keyring_spec.specs.Keyring.{certificates_in}
use Rattle.wot_network.specs.Net.{network_for}
use Rattle.wot_network.specs.Roads.{present_of}
use Rattle.wot_answers.specs.declared.parts.Parts.{Parts}
use Rattle.wot_cache.specs.declared.view.View.{View}
use Rattle.wot_cache.specs.Parts.{ArePartsOf, present_from}
use Rattle.wot_cache.specs.State.{Engine}
use Rattle.wot_cache.specs.Revisions.{revision_at}
use Rattle.wot_cache.specs.Views.{view_at}
use Rattle.wot_cursor.specs.Age.{age_of}
use Rattle.wot_cursor.specs.Cursors.{Cursor, Cursors}
use Rattle.wot_cursor.specs.declared.stamps.Age.{Age}
use Rattle.wot_cursor.specs.declared.stamps.Age.TheVariants as ages
use Rattle.wot_cursor.specs.declared.stamps.Stamps.{Stamps}
use Rattle.wot_explain.specs.declared.bind.Bind.{Bind}
use Rattle.wot_explain.specs.Listing.{HasList, IsOfEachList, pairs_in}
use Rattle.wot_explain.specs.Piece.{IsThePiece, piece_of}
use Rattle.wot_plain.specs.declared.draft.CursorMove.{CursorMove}
use Rattle.wot_plain.specs.declared.draft.DraftReply.{DraftReply}
use Rattle.wot_plain.specs.Listing.{bind_line}
use Rattle.wot_plain.specs.Pacing.{ReturnsPiece, GivesPiece, Goes, GoesBy, GoesFrom, Leaves, OnTold, TellsPiece, behind}
use Rattle.wot_plain.specs.Pacing.{piece, settled, stamps_in}
use Rattle.wot_plain.specs.Session.{Session, session_of}
use Rattle.wot_plain.proofs.Results.{if_ok}

-- a reply that moves no cursor
pub left : (s : Session) (drafted : DraftReply) (reply : Reply) → drafted.reply ≡ reply → drafted.moved ≡ None →
    Leaves reply s.cursors drafted.reply (settled drafted.moved s.cursors)
left s drafted reply r m = (r, ap (λ (o : Option CursorMove). settled o s.cursors) m)

-- the two current numbers
pub stamps_now : (s : Session) (view : List ℕ) (now : Stamps) → now.keyring ≡ s.changes →
    Some now.view ≡ revision_at s.revisions view → now ≡ stamps_in s view
stamps_now s view now k t =
    let revision : now.view ≡ unwrap_or (revision_at s.revisions view) 0 = ap (λ (o : Option ℕ). unwrap_or o 0) t in
    λ i. record { keyring = k i; view = revision i }

-- ---- an existing cursor over an open view

module _ (found : Option Cursor) (cursor : Cursor) (s : Session) (name : List ℕ) (count : ℕ) (is : Some cursor ≡ found)
    (shown : is_some (view_at s.state.views cursor.view) ≡ true) where
  from_cursor : (drafted : DraftReply) → GoesFrom (view_at s.state.views cursor.view) s name count cursor drafted.reply
      (settled drafted.moved s.cursors)
      → Goes found s name count drafted.reply (settled drafted.moved s.cursors)
  from_cursor drafted goes = subst (λ (o : Option Cursor). Goes o s name count drafted.reply (settled drafted.moved s.cursors))
      is goes

  -- if both numbers are unchanged, the piece is returned
  pub given_by : {E : Type 0} (r : Result DraftReply E) → age_of cursor.stamps (stamps_in s cursor.view) ≡ ages.Same
      → IfOk r (λ drafted. IfSome (view_at s.state.views cursor.view)
      (λ view. GivesPiece s name count cursor view drafted.reply (settled drafted.moved s.cursors)))
      → IfOk r (λ drafted. Goes found s name count drafted.reply (settled drafted.moved s.cursors))
  given_by r e gives = if_ok r _ _ (λ drafted g. from_cursor drafted (by drafted (view_at s.state.views cursor.view) shown g))
      gives
    where
      by : (drafted : DraftReply) (o : Option View) → is_some o ≡ true →
          IfSome o (λ view. GivesPiece s name count cursor view drafted.reply (settled drafted.moved s.cursors))
          → GoesFrom o s name count cursor drafted.reply (settled drafted.moved s.cursors)
      by drafted None there g = absurd cc
      by drafted (Some view) there g =
          subst (λ (a : Age). GoesBy a s name count cursor view drafted.reply (settled drafted.moved s.cursors)) (sym e) g

-- ---- pieces

positive : (n : ℕ) → 1 ≤ n → (n == 0) ≡ false
positive n some = by (n == 0) refl
  where
    by : (b : Bool) → (n == 0) ≡ b → (n == 0) ≡ false
    by true e = let zero : n ≡ 0 = eqb-true n 0 e in absurd (omega (arith, some, zero))
    by false e = e

-- the reply with the piece
pub piece_is : (binds : List Bind) (lines items : List BindLine) → lines ≡ map bind_line binds → items ≡ lines →
    replies.Piece (length items) lines ≡ piece binds
piece_is binds lines items l i =
    let n : length items ≡ length binds = ap length (i ∙ l) ∙ length-map binds bind_line in
    λ j. replies.Piece (n j) (l j)

-- a piece over the parts of a view is a piece from that view
pub gives_piece : {E : Type 0} (r : Result DraftReply E) (engine : Engine) (cursors : Cursors) (name : List ℕ) (count : ℕ)
    (cursor : Cursor) (parts : Parts)
    → 1 ≤ cursor.wanted → IsSomeAnd (view_at engine.views cursor.view) (λ v. ArePartsOf engine.keyring v parts) →
    IsOfEachList HasList
    → IfOk r (λ drafted. TellsPiece parts name count cursor drafted)
    → OnTold r cursors (ReturnsPiece (session_of engine cursors) name count cursor)
gives_piece (Err e) engine cursors name count cursor parts some are has gives = tt
gives_piece (Ok drafted) engine cursors name count cursor parts some are has gives =
    by (view_at engine.views cursor.view) are
  where
    by : (o : Option View) → IsSomeAnd o (λ v. ArePartsOf engine.keyring v parts)
        → IfSome o (λ view. GivesPiece (session_of engine cursors) name count cursor view drafted.reply
        (settled drafted.moved cursors))
    by None are = absurd are
    by (Some view) are =
        let pairs = pairs_in (certificates_in engine.keyring) in
        let record_at : List ℕ → Record = network_for (present_from engine.keyring view) in
        let here : IsThePiece (network_for (present_of parts.roads)) parts.roots.now cursor.wanted
        (pairs_in (certificates_in parts.keyring.now)) cursor.place count gives.0
        ≡ IsThePiece record_at view.roots cursor.wanted pairs cursor.place count gives.0 =
        λ i. IsThePiece (network_for (are.roads i)) (are.roots i) cursor.wanted (pairs_in (certificates_in (are.keyring i)))
        cursor.place count gives.0 in
        let the : IsThePiece record_at view.roots cursor.wanted pairs cursor.place count gives.0 =
        subst (λ (P : Type 0). P) here gives.1 in
        let all = has record_at view.roots cursor.wanted pairs some in
        let same : gives.0 ≡ piece_of cursor.place count all.0 = the all.0 all.1 in
        rw (positive cursor.wanted some) (
          all.0,
          all.1,
          (gives.2 ∙ ap piece same, gives.3 cursors ∙ ap (λ (binds : List Bind). behind cursors name binds) same),
        )
