-- Each run has exactly one outcome, if each line has.
use Rattle.std.proofs.Common.{◌≡◌, ℕ, List, [], ◌∷◌, ◌++◌, Option, refl, sym, ap, subst, ◌∙◌, append_assoc}
use Rattle.wot_policy.specs.declared.rows.PolicyRows.{PolicyRows}
use Rattle.wot_script.specs.declared.reply.Reply.{Reply}
use Rattle.wot_certd.specs.World.{World}
use Rattle.wot_cache.specs.State.{IsState}
use Rattle.wot_plain.specs.Entry.{use_of}
use Rattle.wot_laws.specs.OneLine.{OneOutcome}
use Rattle.wot_plain.specs.Lines.{command_in_line}
use Rattle.wot_plain.specs.Scene.{Scene, Step, opening, served_in, world_behind}
use Rattle.wot_plain.specs.Served.{Served}
use Rattle.wot_plain.specs.Transcript.{Run, RepliesTo, listed}
use Rattle.wot_plain.specs.Watching.{ReportsWatches}
use Rattle.wot_plain.specs.Session.{Session}

module _ (rows : PolicyRows) (law : OneOutcome rows) where
  -- watch lines don't change the state
  told_state : (old : Session) (told : List Reply) (new : Session) → ReportsWatches old told new → new.state ≡ old.state
  told_state old told new t = ap (λ (w : Session). w.state) t.left

  Step-can : (old : Scene) (line : List ℕ) → IsState old.whole.state →
      (reply : Option Reply) (told : List Reply) (new : Scene) → Step rows old line reply told new
      → IsState new.whole.state
  Step-can old line can reply told new p =
      subst IsState (sym (told_state p.mid told new.whole p.tells))
      (law.stays old.whole line (served_in old (use_of (command_in_line line))) reply p.mid can p.does)

  Step-one : (old : Scene) (line : List ℕ) → IsState old.whole.state →
      (reply other : Option Reply) (told others : List Reply) (new third : Scene)
      → Step rows old line reply told new → Step rows old line other others third →
      (reply ≡ other) × (told ≡ others) × (new ≡ third)
  Step-one old line can reply other told others new third p q =
      let given : Served = served_in old (use_of (command_in_line line)) in
      let both = law.one old.whole line given reply other p.mid q.mid can p.does q.does in
      let q' : ReportsWatches p.mid others third.whole = subst (λ (m : Session). ReportsWatches m others third.whole) (sym both.1)
      q.tells in
      let said = law.tells_one p.mid told others new.whole third.whole (law.stays old.whole line given reply p.mid can
      p.does) p.tells q' in
      let world : new.world ≡ third.world = p.world ∙ sym q.world in
      (both.0, said.0, λ i. record { whole = said.1 i; world = world i })

  Step-some : (old : Scene) (line : List ℕ) → (reply : Option Reply) × (told : List Reply) × (new : Scene) × Step rows
      old line reply told new
  Step-some old line =
      let some = law.some old.whole line (served_in old (use_of (command_in_line line))) in
      let said = law.tells some.1 in (
        some.0,
        said.0,
        record { whole = said.1; world = world_behind old (use_of (command_in_line line)) },
        record { mid = some.1; does = some.2; tells = said.2; world = refl },
      )

  pub Run-one : (lines : List (List ℕ)) (old : Scene) → IsState old.whole.state → (r s : List Reply) (m n : Scene) →
      Run rows old lines r m → Run rows old lines s n → (r ≡ s) × (m ≡ n)
  Run-one [] old can r s m n p q = (p.0 ∙ sym q.0, p.1 ∙ sym q.1)
  Run-one (line ∷ lines) old can r s m n p q =
      let first = Step-one old line can p.0 q.0 p.1 q.1 p.2 q.2 p.4 q.4 in
      let q' : Run rows p.2 lines q.3 n = subst (λ (c : Scene). Run rows c lines q.3 n) (sym first.2) q.5 in
      let others = Run-one lines p.2 (Step-can old line can p.0 p.1 p.2 p.4) p.3 q.3 m n p.5 q' in (
        p.6 ∙ ap (λ (x : Option Reply). (listed x ++ p.1) ++ p.3) first.0
            ∙ ap (λ (x : List Reply). (listed q.0 ++ x) ++ p.3) first.1
            ∙ ap (λ (x : List Reply). (listed q.0 ++ q.1) ++ x) others.0 ∙ sym q.6,
        others.1,
      )

  pub RepliesTo-one : (world : World) (lines : List (List ℕ)) (replies others : List Reply) →
      RepliesTo rows world lines replies → RepliesTo rows world lines others → replies ≡ others
  RepliesTo-one world lines replies others p q =
      (Run-one lines (opening world) tt replies others p.last q.last p.run q.run).0

  pub Run-some : (lines : List (List ℕ)) (old : Scene) → (r : List Reply) × (m : Scene) × Run rows old lines r m
  Run-some [] old = ([], old, (refl, refl))
  Run-some (line ∷ lines) old =
      let first = Step-some old line in
      let others = Run-some lines first.2 in (
        (listed first.0 ++ first.1) ++ others.0,
        others.1,
        (
          first.0,
          first.1,
          first.2,
          others.0,
          first.3,
          others.2,
          refl,
        ),
      )

  pub RepliesTo-some : (world : World) (lines : List (List ℕ)) →
      (replies : List Reply) × RepliesTo rows world lines replies
  RepliesTo-some world lines = let all = Run-some lines (opening world) in (all.0, record { last = all.1; run = all.2 })

-- ---- prefixes

module _ (rows : PolicyRows) where
  -- the replies to first lines are a prefix of all replies
  pub Run-prefix : (lines more : List (List ℕ)) (old : Scene) (r : List Reply) (m : Scene) →
      Run rows old (lines ++ more) r m → (s : List Reply) × (n : Scene) × (t : List Reply) × Run rows old lines s
      n × (r ≡ s ++ t)
  Run-prefix [] more old r m p = ([], old, r, (refl, refl), refl)
  Run-prefix (line ∷ lines) more old r m p =
      let q = Run-prefix lines more p.2 p.3 m p.5 in
      let here : List Reply = listed p.0 ++ p.1 in (
        here ++ q.0,
        q.1,
        q.2,
        (p.0, p.1, p.2, q.0, p.4, q.3, refl),
        p.6 ∙ ap (λ (x : List Reply). here ++ x) q.4
            ∙ sym (append_assoc here q.0 q.2),
      )

  -- one run after another
  pub Run-append : (lines more : List (List ℕ)) (old mid new : Scene) (r s : List Reply) → Run rows old lines r mid →
      Run rows mid more s new → Run rows old (lines ++ more) (r ++ s) new
  Run-append [] more old mid new r s p q =
      let e : s ≡ r ++ s = sym (ap (λ (x : List Reply). x ++ s) p.0) in
      subst (λ (x : List Reply). Run rows old more x new) e (subst (λ (x : Scene). Run rows x more s new) p.1 q)
  Run-append (line ∷ lines) more old mid new r s p q = (
    p.0,
    p.1,
    p.2,
    p.3 ++ s,
    p.4,
    Run-append lines more p.2 mid new p.3 s p.5 q,
    ap (λ (x : List Reply). x ++ s) p.6
        ∙ append_assoc (listed p.0 ++ p.1) p.3 s,
  )
