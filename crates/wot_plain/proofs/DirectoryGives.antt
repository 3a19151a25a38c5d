-- What the certificate directory returns for a line, and the step that the line then has.
use Rattle.std.proofs.Common.{◌≡◌, ℕ, List, [], ◌∷◌, ◌++◌, Option, Some, None, refl, sym, ap, subst, ◌∙◌}
use Rattle.wot_types.specs.declared.name.Name.{Name}
use Rattle.wot_io.specs.Input.{lines_of}
use Rattle.wot_policy.specs.declared.rows.PolicyRows.{PolicyRows}
use Rattle.wot_script.specs.declared.reply.Reply.{Reply}
use Rattle.wot_certd.specs.World.{World}
use Rattle.wot_plain.specs.Session.{Session}
use Rattle.wot_plain.specs.Entry.{CallNothing, IsServed, IsWorldAfter, Use, WasGiven, entry_for, given_by, put_for}
use Rattle.wot_plain.specs.Entry.{unused, use_of, world_after}
use Rattle.wot_plain.specs.Lines.{command_in_line}
use Rattle.wot_plain.specs.LineStep.{LineStep}
use Rattle.wot_plain.specs.Scene.{Scene, Step, served_in, world_behind}
use Rattle.wot_plain.specs.Served.{Served, unserved}
use Rattle.wot_plain.specs.Transcript.{IsNow}
use Rattle.wot_plain.specs.Watching.{ReportsWatches}

-- what is kept, with a directory in this world
abbrev pub over : Session → World → Scene
over whole world = record { whole = whole; world = world }

-- if the directory's world is unknown, no line of the input uses the directory
abbrev pub IsUncalled : Option World → List ℕ → Type 0
IsUncalled None input = CallNothing (lines_of input)
IsUncalled (Some origin) input = Unit {0}

-- if the directory's world is unknown, this line doesn't use the directory
abbrev pub MayCall : Option World → List ℕ → Type 0
MayCall None line = use_of (command_in_line line) ≡ unused
MayCall (Some origin) line = Unit {0}

calls_nothing : (done : List (List ℕ)) (line : List ℕ) (more : List (List ℕ)) → CallNothing (done ++ line ∷ more) →
    use_of (command_in_line line) ≡ unused
calls_nothing [] line more all = all.0
calls_nothing (other ∷ done) line more all = calls_nothing done line more all.1

pub may_call : (origin : Option World) (input : List ℕ) (done : List (List ℕ)) (line : List ℕ) (more : List (List ℕ)) →
    lines_of input ≡ done ++ line ∷ more
    → IsUncalled origin input → MayCall origin line
may_call None input done line more e uncalled = calls_nothing done line more (subst CallNothing e uncalled)
may_call (Some origin) input done line more e uncalled = tt

-- ---- steps

step_by : (rows : PolicyRows) (now : World) (old mid new : Session) (line : List ℕ) (reply : Option Reply)
    (told : List Reply) (use_ : Use) (given : Served)
    → use_of (command_in_line line) ≡ use_ → given ≡ served_in (over old now) use_ → LineStep rows old line given reply mid →
    ReportsWatches mid told new
    → Step rows (over old now) line reply told (over new (world_behind (over old now) use_))
step_by rows now old mid new line reply told use_ given e g does tells =
    let there : LineStep rows old line (served_in (over old now) use_) reply mid =
    subst (λ (x : Served). LineStep rows old line x reply mid) g does in
    let Both : Use → Type 0 = λ u. LineStep rows old line (served_in (over old now) u) reply
    mid × (world_behind (over old now) use_ ≡ world_behind (over old now) u) in
    let both : Both (use_of (command_in_line line)) = subst Both (sym e) (there, refl) in
    record { mid = mid; does = both.0; tells = tells; world = both.1 }

-- a line that doesn't use the directory
pub uncalled_step : (rows : PolicyRows) (now : World) (old mid new : Session) (line : List ℕ) (reply : Option Reply)
    (told : List Reply) → use_of (command_in_line line) ≡ unused
    → LineStep rows old line unserved reply mid → ReportsWatches mid told new → Step rows (over old now) line reply told
    (over new now)
uncalled_step rows now old mid new line reply told e does tells = step_by rows now old mid new line reply told unused
    unserved e refl does tells

-- the line's step, and the world after it
pub record Goes (rows : PolicyRows) (origin after : Option World) (now : World) (old new : Session) (line : List ℕ)
    (reply : Option Reply) (told : List Reply) : Type 0 where
  pub next : World
  pub is_next : IsNow origin after next
  pub step : Step rows (over old now) line reply told (over new next)

given_so : (entry : Option Name) (now : World) (given : Served) → WasGiven entry (Some now) given →
    given ≡ given_by now entry
given_so None now given asked = asked
given_so (Some name) now given asked = asked

after_so : (entry : Option Name) (put : Option (List ℕ)) (now : World) (after : Option World) →
    IsWorldAfter entry put (Some now) after
    → after ≡ Some (world_after now entry put)
after_so None put now after world = world
after_so (Some name) put now after world = world

pub goes : (rows : PolicyRows) (origin before after : Option World) (now : World) (old mid new : Session) (line : List ℕ)
    (use_ : Use) (given : Served) (reply : Option Reply) (told : List Reply)
    → use_of (command_in_line line) ≡ use_ → MayCall origin line → IsNow origin before now →
    IsServed old.state use_ before given after
    → LineStep rows old line given reply mid → ReportsWatches mid told new → Goes rows origin after now old new line reply told
goes rows None before after now old mid new line use_ given reply told e may is served does tells =
    let idle : IsServed old.state unused before given after =
    subst (λ (u : Use). IsServed old.state u before given after) (sym e ∙ may) served in
    record {
      next = now;
      is_next = tt;
      step = uncalled_step rows now old mid new line reply told may
          (subst (λ (x : Served). LineStep rows old line x reply mid) idle.asked does) tells;
    }
goes rows (Some origin) before after now old mid new line use_ given reply told e may is served does tells =
    let there : IsServed old.state use_ (Some now) given after =
    subst (λ (o : Option World). IsServed old.state use_ o given after) is served in
    let g : given ≡ served_in (over old now) use_ = given_so (entry_for old.state use_) now given there.asked in
    let w : after ≡ Some (world_after now (entry_for old.state use_) (put_for old.state use_ given.read)) =
    after_so (entry_for old.state use_) (put_for old.state use_ given.read) now after there.world in
    record {
      next = world_behind (over old now) use_;
      is_next = w ∙ ap (λ (x : Served). Some (world_after now (entry_for old.state use_)
          (put_for old.state use_ x.read))) g;
      step = step_by rows now old mid new line reply told use_ given e g does tells;
    }
