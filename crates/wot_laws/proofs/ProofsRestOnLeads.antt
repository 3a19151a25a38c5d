-- A proof of absence and a check have the same reply in states that hold the same at what these depend on.
use Rattle.std.proofs.Common.{◌≡◌, inl, inr, ℕ, Bool, true, false, List, [], ◌∷◌, map, Option, Some, None, refl}
use Rattle.std.proofs.Common.{cond, sym, subst}
use Rattle.std.specs.Prelude.{nat_le}
use Rattle.wot_types.specs.declared.fpr.Fpr.{Fpr}
use Rattle.wot_types.specs.Fpr.{same_fpr}
use Rattle.wot_types.specs.FprLaws.{same_fpr-true}
use Rattle.wot_policy.specs.declared.rows.PolicyRows.{PolicyRows}
use Rattle.wot_verdict.specs.Verdicts.{Entries}
use Rattle.wot_script.specs.declared.command.Command.{Command}
use Rattle.wot_script.specs.declared.command.Command.TheVariants.{Absence, Check}
use Rattle.wot_reply_lines.specs.declared.claims.ClaimLine.{ClaimLine}
use Rattle.wot_reply_lines.specs.declared.claims.ClaimStepLine.{ClaimStepLine}
use Rattle.wot_reply_lines.specs.declared.claims.LabelLine.{LabelLine}
use Rattle.wot_script.specs.declared.reply.Reply.{Reply}
use Rattle.wot_reply_lines.specs.Claims.{IsClaimSpelled}
use Rattle.wot_script.specs.Grammar.{command_of}
use Rattle.wot_script.specs.Spelling.{HasSpelling}
use Rattle.wot_component.specs.Certificate.{Certificate, unmarked}
use Rattle.wot_component.specs.Judged.{judged}
use Rattle.wot_edge.specs.declared.path.Path.{Path}
use Rattle.wot_edge.specs.Agree.{Agree}
use Rattle.wot_edge.specs.Answer.{amount_of}
use Rattle.wot_edge.specs.Path.{Question, use_of}
use Rattle.wot_edge.specs.Record.{Has}
use Rattle.wot_check.specs.declared.claimed.ClaimedStep.{ClaimedStep}
use Rattle.wot_check.specs.Claim.{Claim}
use Rattle.wot_check.specs.Leading.{DoChecksAgree, DoPathsLead, DoTablesAgree, HasCertifiersOf, HasChecked, HasClaimed}
use Rattle.wot_check.specs.Leading.{HasIntroducersOf, IsLeadingShared, ShareLeading}
use Rattle.wot_check.specs.Table.{label_at}
use Rattle.wot_keyring.specs.Dump.{judged_by}
use Rattle.wot_keyring_spec.specs.Keyring.{Certificates}
use Rattle.wot_network.specs.Certified.{HasCertifiers, HasIntroducers, LeadsTo, RestsOnCertifications, RestsOnTrust}
use Rattle.wot_network.specs.Local.{IsLocal}
use Rattle.wot_network.specs.Records.{AreOwn, record_of}
use Rattle.wot_auth.specs.Slices.{AnswerAlike, DoPathsAnswer}
use Rattle.wot_cache.specs.declared.view.View.{View}
use Rattle.wot_cache.specs.Question.{question_in}
use Rattle.wot_cache.specs.State.{State}
use Rattle.wot_cache.specs.Views.{view_at}
use Rattle.wot_plain.specs.Classes.{class_of}
use Rattle.wot_plain.specs.Absent.{Checks, ChecksBy, Misses, MissesBy, TellsAbsence, claim_in, claimed_step, table_in}
use Rattle.wot_laws.specs.Depends.{IsAsk}
use Rattle.wot_laws.specs.OneLine.{OneOutcome}
use Rattle.wot_laws.specs.Leading.{AreAlikeBefore, AreAlikeForClaim, Claimed, HasLookedAt, HoldAlikeOn}
use Rattle.wot_laws.specs.Leading.{IsAbsenceLine, IsCheckLine}
use Rattle.wot_plain.specs.LineStep.{StateStep, LineStep}
use Rattle.wot_plain.specs.Served.{Served}
use Rattle.wot_plain.specs.Session.{Session}
use Rattle.wot_plain.proofs.Absences.{spelled_table}
use Rattle.wot_laws.proofs.Alike.{step_as}
use Rattle.wot_laws.proofs.Slices.{same_at}

-- ---- what the laws of the layers below say

-- of edges
pub record EdgeLaws : Type 0 where
  pub made : (certs : Certificates) (verdicts : Entries) (t : ℕ) (u : List ℕ) →
      RestsOnCertifications certs verdicts t u
  pub trust : (certs : Certificates) (verdicts : Entries) (t : ℕ) (u : List ℕ) → RestsOnTrust certs verdicts t u
  pub local : (certs : Certificates) (verdicts : Entries) (t : ℕ) →
      IsLocal certs verdicts t (record_of certs verdicts t)

-- of what leads to a target
pub record LeadingLaws : Type 0 where
  pub answers : DoPathsAnswer
  pub within : DoPathsLead
  pub shared : IsLeadingShared
  pub tables : DoTablesAgree

-- the marks in two states are those that the rows give
pub record AreJudged (rows : PolicyRows) (one other : State) : Type 0 where
  pub forgets : (c : Certificate) → judged rows (unmarked c) ≡ judged rows c
  pub first : judged_by rows one.held ≡ one.held
  pub second : judged_by rows other.held ≡ other.held

-- ---- one question

module _ (edges : EdgeLaws) (rows : PolicyRows) (one other : State) (marks : AreJudged rows one other) (view : View)
    (target : Fpr) (uid : List ℕ) (set : List Fpr) (held : HoldAlikeOn target set one.held other.held) where
  abbrev q : Question
  q = question_in one view target uid

  abbrev there : Question
  there = question_in other view target uid

  agree : Agree q there (target ∷ set)
  agree = edges.local one.held.certs one.held.verdicts view.time other.held.certs other.held.verdicts uid view.roots
      view.roots target (target ∷ set) (λ fpr h. record {
        same = same_at rows marks.forgets one.held other.held marks.first marks.second fpr (held fpr h);
        said = (held fpr h).said;
      }) (λ fpr h. refl)

  certifiers_of : HasCertifiers one.held.certs one.held.verdicts set target → HasCertifiersOf q set
  certifiers_of has row h =
      let (c, found, made) = edges.made one.held.certs one.held.verdicts view.time uid target row h in
      has row.edge.issuer c found made

  introducers_of : (at : Fpr) → HasIntroducers one.held.certs one.held.verdicts set at → HasIntroducersOf q set at
  introducers_of at has row h deep =
      let (c, found, trusted) = edges.trust one.held.certs one.held.verdicts view.time uid at row h deep in
      has row.edge.issuer c found trusted

  -- ---- `absence`

  module _ (laws : LeadingLaws) (leads : LeadsTo one.held.certs one.held.verdicts target set) where
    share : ShareLeading q there set
    share = record {
      leads = record {
        last = certifiers_of leads.last;
        before = λ at member. introducers_of at (leads.before at member);
      };
      agree = agree;
    }

    alike : AnswerAlike q there
    alike = laws.answers q there set (record {
      one = laws.within q set share.leads;
      second = laws.within there set (laws.shared q there set share);
      agree = agree;
    })

    tells_there : (reached : Bool) (paths : List Path) (reply : Reply) → TellsAbsence reached q paths reply →
        TellsAbsence reached there paths reply
    tells_there true paths reply e = e
    tells_there false paths reply (table, good, least, e) =
        (table, good, (laws.tables q there set share (use_of paths) table good).0 least, e)

    pub misses_there : (wanted : ℕ) (reply : Reply) → MissesBy q wanted reply → MissesBy there wanted reply
    misses_there wanted reply (paths, answer, tells) = (
      paths,
      (alike.answer wanted paths).0 answer,
      tells_there (nat_le wanted (amount_of paths)) paths reply tells,
    )

  -- ---- `check`

  module _ (claimed : Claimed) (looks : HasLookedAt one.held target claimed set) where
    step_in : (steps : List ClaimStepLine) → ((step : ClaimStepLine) → Has steps step → Has set step.0) →
        (step : ClaimedStep) → Has (map claimed_step steps) step → Has set step.issuer
    step_in [] all step h = absurd h
    step_in (x ∷ steps) all step (inl e) =
        subst (λ (z : ClaimedStep). Has set z.issuer) (sym e) (all x (inl refl))
    step_in (x ∷ steps) all step (inr h) = step_in steps (λ z k. all z (inr k)) step h

    claims_in : (paths : List ClaimLine) → ((path : ClaimLine) → Has paths path → Has claimed.paths path) →
        (claim : Claim) → Has (map claim_in paths) claim → HasClaimed set claim
    claims_in [] all claim h = absurd h
    claims_in (x ∷ paths) all claim (inl e) =
        subst (HasClaimed set) (sym e) (step_in x.1 (looks.issuers x (all x (inl refl))))
    claims_in (x ∷ paths) all claim (inr h) = claims_in paths (λ z k. all z (inr k)) claim h

    -- a label of the table stands in the line
    labelled_by : (labels : List LabelLine) (at : Fpr) (label : ℕ) → label_at (table_in labels) at ≡ Some label →
        (line : LabelLine) × Has labels line × (line.0 ≡ at)
    labelled_by [] at label e = absurd cc
    labelled_by (x ∷ labels) at label e = by (labelled_by labels at label) (same_fpr at x.0) refl e
      where
        by : (label_at (table_in labels) at ≡ Some label → (line : LabelLine) × Has labels line × (line.0 ≡ at))
            → (b : Bool) → same_fpr at x.0 ≡ b → cond b (Some x.1) (label_at (table_in labels) at) ≡ Some label
            → (line : LabelLine) × Has (x ∷ labels) line × (line.0 ≡ at)
        by later true f g = (x, inl refl, sym (same_fpr-true at x.0 f))
        by later false f g = let (line, h, same) = later g in (line, inr h, same)

    looks_of : HasChecked q (map claim_in claimed.paths) (table_in claimed.labels) set
    looks_of = record {
      last = certifiers_of looks.last;
      claimed = claims_in claimed.paths (λ path h. h);
      labelled = λ at label e. (
          let (line, h, same) = labelled_by claimed.labels at label e in subst (Has set) same (looks.labelled line h)
          );
      before = λ at label e. (
          let (line, h, same) = labelled_by claimed.labels at label e in
          subst (HasIntroducersOf q set) same (introducers_of line.0 (looks.before line h))
          );
    }

    pub checks_there : DoChecksAgree → IsClaimSpelled claimed.paths claimed.labels → (reply : Reply) →
        ChecksBy q claimed.paths claimed.labels reply → ChecksBy there claimed.paths claimed.labels reply
    checks_there law spelled reply (checked, is, e) = (
      checked,
      (law q there (map claim_in claimed.paths) (table_in claimed.labels) set
          (spelled_table claimed.paths claimed.labels spelled) (record { looks = looks_of; agree = agree })
          checked).0 is,
      e,
    )

-- ---- one command

module _ (edges : EdgeLaws) (rows : PolicyRows) (name : List ℕ) (target : Fpr) (one other : State)
    (marks : AreJudged rows one other) where
  misses_same : LeadingLaws → AreAlikeBefore name target one other → (wanted : ℕ) (uid : List ℕ) (reply : Reply) →
      Misses one (view_at one.views name) target wanted uid reply
      → Misses other (view_at other.views name) target wanted uid reply
  misses_same laws a wanted uid reply misses =
      subst (λ (o : Option View). Misses other o target wanted uid reply) a.view (by (view_at one.views name) misses)
    where
      by : (o : Option View) → Misses one o target wanted uid reply → Misses other o target wanted uid reply
      by None e = e
      by (Some view) m =
          misses_there edges rows one other marks view target uid a.set a.held laws a.leads wanted reply m

  pub does_absence : LeadingLaws → AreAlikeBefore name target one other
      → (wanted : ℕ) (uid : List ℕ) (given told : Served)
      (reply : Reply) (new : State)
      → StateStep rows one (class_of (Absence name target wanted uid)) given reply new
      → StateStep rows other (class_of (Absence name target wanted uid)) told reply other
  does_absence laws a wanted uid given told reply new does = (misses_same laws a wanted uid reply does.0, refl)

  module _ (claimed : Claimed) where
    checks_same : DoChecksAgree → AreAlikeForClaim name target claimed one other →
        IsClaimSpelled claimed.paths claimed.labels → (uid : List ℕ) (reply : Reply)
        → Checks one (view_at one.views name) target claimed.paths claimed.labels uid reply
        → Checks other (view_at other.views name) target claimed.paths claimed.labels uid reply
    checks_same law a spelled uid reply checks =
        subst (λ (o : Option View). Checks other o target claimed.paths claimed.labels uid reply) a.view
        (by (view_at one.views name) checks)
      where
        by : (o : Option View) → Checks one o target claimed.paths claimed.labels uid reply →
            Checks other o target claimed.paths claimed.labels uid reply
        by None e = e
        by (Some view) c =
            checks_there edges rows one other marks view target uid a.set a.held claimed a.looks law spelled reply c

    pub does_check : DoChecksAgree → AreAlikeForClaim name target claimed one other →
        IsClaimSpelled claimed.paths claimed.labels → (uid : List ℕ) (given told : Served) (reply : Reply) (new : State)
        → StateStep rows one (class_of (Check name target claimed.paths claimed.labels uid)) given reply new
        → StateStep rows other (class_of (Check name target claimed.paths claimed.labels uid)) told reply other
    does_check law a spelled uid given told reply new does = (checks_same law a spelled uid reply does.0, refl)

-- ---- one line

-- A well-formed state has one reply, so a question that is answered alike in both has the same reply.
module _ (rows : PolicyRows) (law : OneOutcome rows) (name : List ℕ) (one other : Session)
    (can : AreOwn other.state.held.certs) (line : List ℕ) (ask : IsAsk name line) (given told : Served) where
  replied_as : ((r : Reply) (s : State) → StateStep rows one.state (class_of ask.command) given r s →
      StateStep rows other.state (class_of ask.command) told r other.state)
      → (reply second : Option Reply) (new third : Session)
      → LineStep rows one line given reply new → LineStep rows other line told second third → reply ≡ second
  replied_as does reply second new third step last =
      (law.one other line told reply second other third can
      (step_as rows one other name line given told reply new ask does step) last).0

module _ (edges : EdgeLaws) (rows : PolicyRows) (one_reply : OneOutcome rows) (name : List ℕ) (target : Fpr)
    (one other : Session) (can : AreOwn other.state.held.certs) (marks : AreJudged rows one.state other.state) where
  pub absence_replied : LeadingLaws → AreAlikeBefore name target one.state other.state → (line : List ℕ) →
      IsAbsenceLine name target line → (given told : Served) (reply second : Option Reply) (new third : Session)
      → LineStep rows one line given reply new → LineStep rows other line told second third → reply ≡ second
  absence_replied laws a line asks given told =
      replied_as rows one_reply name one other can line
      (record { command = Absence name target asks.wanted asks.uid; asks = refl; read = asks.read }) given told
      (λ r s does. does_absence edges rows name target one.state other.state marks laws a asks.wanted asks.uid given
      told r s does)

  pub check_replied : DoChecksAgree →
      ((line : List ℕ) (command : Command) → command_of line ≡ Some command → HasSpelling command) →
      (claimed : Claimed) → AreAlikeForClaim name target claimed one.state other.state → (line : List ℕ) →
      IsCheckLine name target claimed line → (given told : Served) (reply second : Option Reply) (new third : Session)
      → LineStep rows one line given reply new → LineStep rows other line told second third → reply ≡ second
  check_replied law spells claimed a line asks given told =
      let command = Check name target claimed.paths claimed.labels asks.uid in
      replied_as rows one_reply name one other can line
      (record { command = command; asks = refl; read = asks.read }) given told
      (λ r s does. does_check edges rows name target one.state other.state marks claimed law a
      (spells line command asks.read) asks.uid given told r s does)
