-- Runs, line by line.
use Rattle.std.proofs.Common.{ℕ, List, [], ◌∷◌, ◌++◌, refl, sym, ap, ◌∙◌}
use Rattle.wot_policy.specs.declared.rows.PolicyRows.{PolicyRows}
use Rattle.wot_script.specs.declared.reply.Reply.{Reply}
use Rattle.wot_laws.specs.Exchanges.{AreOfRun, Exchange, Passes, RunsAreExchanges, lines_in, replies_in}
use Rattle.wot_plain.specs.Scene.{Scene}
use Rattle.wot_plain.specs.Transcript.{Run, listed}

module _ (rows : PolicyRows) where
  run_told : (lines : List (List ℕ)) (old : Scene) (told : List Reply) (new : Scene) → Run rows old lines told new
      → AreOfRun rows old lines told new
  run_told [] old told new r = record { exchanges = []; lines_are = refl; replies_are = sym r.0; passes = r.1 }
  run_told (line ∷ lines) old told new r =
      let rest = run_told lines r.2 r.3 new r.5 in
      record {
        exchanges = record { line = line; reply = r.0; reported = r.1 } ∷ rest.exchanges;
        lines_are = ap (λ (ls : List (List ℕ)). line ∷ ls) rest.lines_are;
        replies_are = ap (λ (rs : List Reply). (listed r.0 ++ r.1) ++ rs) rest.replies_are ∙ sym r.6;
        passes = (r.2, r.4, rest.passes);
      }

  run_of : (exchanges : List Exchange) (old new : Scene) → Passes rows old exchanges new
      → Run rows old (lines_in exchanges) (replies_in exchanges) new
  run_of [] old new p = (refl, p)
  run_of (x ∷ exchanges) old new p = (
    x.reply,
    x.reported,
    p.0,
    replies_in exchanges,
    p.1,
    run_of exchanges p.0 new p.2,
    refl,
  )

  pub runs_told : RunsAreExchanges rows
  runs_told = record {
    reported = λ old lines told new r. run_told lines old told new r;
    run = λ old exchanges new p. run_of exchanges old new p;
  }
