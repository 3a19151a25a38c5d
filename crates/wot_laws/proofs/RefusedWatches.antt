-- A refusal doesn't change the watches.
use Rattle.std.proofs.Common.{◌≡◌, ℕ, Bool, true, false, List, Option, Some, None}
use Rattle.std.proofs.Common.{refl, sym, ap, ◌∙◌}
use Rattle.std.specs.Prelude.{MatchBool, is_some}
use Rattle.wot_types.specs.declared.fpr.Fpr.{Fpr}
use Rattle.wot_table.specs.Table.{entry_at, with_entry, without_entry}
use Rattle.wot_script.specs.declared.reply.Reply.{Reply}
use Rattle.wot_script.specs.declared.reply.Reply.TheVariants as replies
use Rattle.wot_cache.specs.declared.view.View.{View}
use Rattle.wot_cache.specs.Views.{view_at}
use Rattle.wot_watch.specs.Watches.{Watches, is_full}
use Rattle.wot_plain.specs.declared.class.Class.{Class}
use Rattle.wot_laws.specs.OneLine.{is_refused}
use Rattle.wot_plain.specs.Watching.{LeavesWatches}
use Rattle.wot_plain.specs.Watching.{Opens, TakesOff, Watching, is_watching, opened}
use Rattle.wot_plain.specs.Session.{Session}
use Rattle.wot_plain.proofs.Watched.{watched_cases}

refused_not : (told reply : Reply) (P : Type 0) → reply ≡ told → is_refused told ≡ false → is_refused reply ≡ true → P
refused_not told reply P e not is = let never : false ≡ true = sym not ∙ sym (ap is_refused e) ∙ is in absurd cc

opens_left : (s : Session) (name view : List ℕ) (target : Fpr) (wanted : ℕ) (uid : List ℕ) (o : Option View)
    (reply : Reply) (watches : Watches)
    → Opens s name view target wanted uid o reply watches → is_refused reply ≡ true → watches ≡ s.watches
opens_left s name view target wanted uid None reply watches l e = l.1
opens_left s name view target wanted uid (Some there) reply watches p e = by (is_full s.watches name) p.2
  where
    by : (b : Bool)
        → MatchBool b (LeavesWatches replies.FullWatches s.watches reply watches)
        (LeavesWatches (replies.WatchAmount name p.0) (with_entry s.watches name (opened view target wanted uid p.0))
        reply watches) → watches ≡ s.watches
    by true l = l.1
    by false l = refused_not (replies.WatchAmount name p.0) reply (watches ≡ s.watches) l.0 refl e

off_left : (s : Session) (name : List ℕ) (reply : Reply) (watches : Watches) → TakesOff s name reply watches →
    is_refused reply ≡ true → watches ≡ s.watches
off_left s name reply watches l e = by (is_some (entry_at s.watches name)) l
  where
    by : (b : Bool) → MatchBool b (LeavesWatches replies.Done (without_entry s.watches name) reply watches)
        (LeavesWatches replies.NoWatch s.watches reply watches)
        → watches ≡ s.watches
    by true l = refused_not replies.Done reply (watches ≡ s.watches) l.0 refl e
    by false l = l.1

pub watching_left : (s : Session) (class : Class) (reply : Reply) (watches : Watches) → is_watching class ≡ true →
    Watching s class reply watches
    → is_refused reply ≡ true → watches ≡ s.watches
watching_left s class reply watches e =
    watched_cases (λ (c : Class). Watching s c reply watches → is_refused reply ≡ true → watches ≡ s.watches)
    (λ name view target wanted uid. opens_left s name view target wanted uid (view_at s.state.views view) reply watches)
    (λ name. off_left s name reply watches) class e
