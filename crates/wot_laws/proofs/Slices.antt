-- A question about a target has the same reply in states that share a slice.
use Rattle.std.proofs.Common.{◌≡◌, inl, inr, ℕ, List, [], ◌∷◌, ◌++◌, length, map, Option, Some, None, refl, sym, ap}
use Rattle.std.proofs.Common.{subst, ◌∙◌}
use Rattle.std.specs.List.{flat_map}
use Rattle.std.specs.Option.{option_map, option_map_or}
use Rattle.std.proofs.lemmas.Map.Made.{lookup-map_values}
use Rattle.wot_types.specs.declared.fpr.Fpr.{Fpr}
use Rattle.wot_policy.specs.declared.rows.PolicyRows.{PolicyRows}
use Rattle.wot_verdict.specs.Verdicts.{Entries}
use Rattle.wot_script.specs.declared.command.Command.TheVariants.{Ask}
use Rattle.wot_reply_lines.specs.declared.lines.AnswerLine.{AnswerLine}
use Rattle.wot_reply_lines.specs.declared.lines.AnswerLine.TheVariants as lines
use Rattle.wot_script.specs.declared.reply.Reply.{Reply}
use Rattle.wot_script.specs.declared.reply.Reply.TheVariants as replies
use Rattle.wot_component.specs.Certificate.{Certificate, unmarked}
use Rattle.wot_component.specs.Judged.{judged}
use Rattle.wot_edge.specs.declared.path.Path.{Path}
use Rattle.wot_edge.specs.declared.path.Step.{Step}
use Rattle.wot_edge.specs.Answer.{EachNext, IsAnswer, amount_of}
use Rattle.wot_edge.specs.Path.{Chain, Question, Stands, start}
use Rattle.wot_edge.specs.Record.{Has, IsRecord}
use Rattle.wot_keyring.specs.Dump.{judged_by}
use Rattle.wot_keyring_spec.specs.Held.{Held, cert_in}
use Rattle.wot_keyring_spec.specs.Keyring.{Certificates, is_fpr}
use Rattle.wot_network.specs.Certified.{IsSlice, RestsOnTrust}
use Rattle.wot_network.specs.Local.{IsLocal}
use Rattle.wot_network.specs.Records.{AreOwn, record_of}
use Rattle.wot_auth.specs.Slices.{AnswerAlike, AreWithinSlices, DoSlicesAnswer, IsSliceOf, ShareSlice}
use Rattle.wot_cache.specs.declared.view.View.{View}
use Rattle.wot_cache.specs.Question.{question_in}
use Rattle.wot_cache.specs.State.{State}
use Rattle.wot_cache.specs.Views.{view_at}
use Rattle.wot_plain.specs.Classes.{class_of}
use Rattle.wot_plain.specs.Answer.{Asks, path_lines, step_line, amount_reply, uid_at, uid_in}
use Rattle.wot_laws.specs.OneLine.{OneOutcome}
use Rattle.wot_plain.specs.LineStep.{StateStep, LineStep}
use Rattle.wot_plain.specs.Served.{Served}
use Rattle.wot_laws.specs.Slices.{AreAlikeFor, HoldAlike, IsQuestion, SharesSlice}
use Rattle.wot_plain.specs.Session.{Session}
use Rattle.wot_laws.proofs.Alike.{step_as}

-- ---- marks

module _ (rows : PolicyRows) (forgets : (c : Certificate) → judged rows (unmarked c) ≡ judged rows c) where
  forgotten : (found : Option Certificate) → option_map (judged rows) (option_map unmarked found) ≡ option_map
      (judged rows) found
  forgotten None = refl
  forgotten (Some c) = ap (λ (x : Certificate). Some x) (forgets c)

  -- If the marks are those that the rows give, a certificate without its marks determines the held one.
  anew_at : (held : Held) → judged_by rows held ≡ held → (fpr : Fpr) →
      option_map (judged rows) (option_map unmarked (cert_in held fpr)) ≡ cert_in held fpr
  anew_at held p fpr =
      forgotten (cert_in held fpr) ∙ sym (lookup-map_values (judged rows) (is_fpr fpr) held.certs)
      ∙ ap (λ (h : Held). cert_in h fpr) p

  pub same_at : (one other : Held) → judged_by rows one ≡ one → judged_by rows other ≡ other → (fpr : Fpr) →
      HoldAlike one other fpr → cert_in one fpr ≡ cert_in other fpr
  same_at one other p q fpr a = sym (anew_at one p fpr) ∙ ap (option_map (judged rows)) a.same ∙ anew_at other q fpr

-- ---- the laws of the layers below

pub record Laws : Type 0 where
  pub answers : DoSlicesAnswer
  pub within : AreWithinSlices
  pub trust : (certs : Certificates) (verdicts : Entries) (t : ℕ) (u : List ℕ) → RestsOnTrust certs verdicts t u
  pub local : (certs : Certificates) (verdicts : Entries) (t : ℕ) →
      IsLocal certs verdicts t (record_of certs verdicts t)
  pub lawful : (certs : Certificates) (verdicts : Entries) (t : ℕ) (u : List ℕ) → AreOwn certs →
      IsRecord (record_of certs verdicts t u)

-- ---- a question in two states

-- two states that hold the same certificates, with marks, at a slice and at the target
pub record Both (view : View) (target : Fpr) (one other : State) : Type 0 where
  pub set : List Fpr
  pub shares : SharesSlice view target one.held other.held set
  pub same : (fpr : Fpr) → Has (target ∷ set) fpr → cert_in one.held fpr ≡ cert_in other.held fpr

slice_of : Laws → (s : State) (view : View) (target : Fpr) (uid : List ℕ) (set : List Fpr) →
    IsSlice s.held.certs s.held.verdicts view.roots set → IsSliceOf (question_in s view target uid) set
slice_of laws s view target uid set slice = record {
  roots = slice.roots;
  onward = λ fpr row h from deep. (
      let (c, found, trusted) = laws.trust s.held.certs s.held.verdicts view.time uid fpr row h deep in
      slice.onward fpr row.edge.issuer c found trusted from
      );
}

module _ (laws : Laws) (view : View) (target : Fpr) (one other : State) (both : Both view target one other)
    (uid : List ℕ) where
  abbrev q : Question
  q = question_in one view target uid

  shared : ShareSlice q (question_in other view target uid) both.set
  shared = record {
    one = slice_of laws one view target uid both.set both.shares.first;
    second = slice_of laws other view target uid both.set both.shares.second;
    agree = laws.local one.held.certs one.held.verdicts view.time other.held.certs other.held.verdicts uid view.roots
        view.roots target (target ∷ both.set)
        (λ fpr h. record { same = both.same fpr h; said = (both.shares.held fpr h).said }) (λ fpr h. refl);
  }

  pub alike : AnswerAlike q (question_in other view target uid)
  alike = laws.answers q (question_in other view target uid) both.set shared

  uid_same : (fpr : Fpr) (place : ℕ) → Has (target ∷ both.set) fpr → uid_at one fpr place ≡ uid_at other fpr place
  uid_same fpr place h = ap (λ (found : Option Certificate). option_map_or (uid_in place) found []) (both.same fpr h)

  module _ (own : IsRecord q.network) where
    -- a step leads to where the rest begins
    leads : (step : Step) (rest : List Step) → Stands q step rest → step.target ≡ start target rest
    leads step rest stands = sym (ap (λ (z : Step). z.target) stands.shown) ∙ own.into (start target rest) stands.row
        stands.into

    line_same : (step : Step) → Has (target ∷ both.set) step.target → step_line one step ≡ step_line other step
    line_same step h = ap (lines.Step step.issuer step.target step.depth step.amount) (uid_same step.target step.uid h)

    steps_same : (steps : List Step) → Chain q steps → ((x : Step) → Has steps x → Has both.set x.issuer) →
        map (step_line one) steps ≡ map (step_line other) steps
    steps_same [] c within = refl
    steps_same (step ∷ []) c within =
        ap (λ (x : AnswerLine). x ∷ []) (line_same step (inl (leads step [] c.0)))
    steps_same (step ∷ next ∷ rest) c within =
        let member : Has both.set step.target = subst (Has both.set) (sym (leads step (next ∷ rest) c.0))
        (within next (inr (inl refl))) in
        ap (λ (x : AnswerLine). x ∷ map (step_line one) (next ∷ rest)) (line_same step (inr member))
        ∙ ap (λ (xs : List AnswerLine). step_line other step ∷ xs)
        (steps_same (next ∷ rest) c.1 (λ x h. within x (inr h)))

    paths_same : (earlier paths : List Path) → EachNext q earlier paths → flat_map (path_lines one) paths ≡ flat_map
        (path_lines other) paths
    paths_same earlier [] e = refl
    paths_same earlier (path ∷ paths) e =
        let valid = e.0.steps.0.0 in
        let steps = steps_same path.steps valid.chain (laws.within q both.set shared.one path.steps valid) in
        ap (λ (xs : List AnswerLine). (lines.Path path.amount (length path.steps) path.root ∷ xs) ++ flat_map
        (path_lines one) paths) steps
        ∙ ap (λ (xs : List AnswerLine). path_lines other path ++ xs) (paths_same (earlier ++ path ∷ []) paths e.1)

    told_same : (wanted : ℕ) (paths : List Path) → IsAnswer q wanted paths → amount_reply one paths ≡ amount_reply other paths
    told_same wanted paths a = ap (replies.Amount (amount_of paths) (length paths)) (paths_same [] paths a.each)

    pub asks_there : (wanted : ℕ) (reply : Reply) → Asks one (Some view) target wanted uid reply →
        Asks other (Some view) target wanted uid reply
    asks_there wanted reply (paths, answer, e) =
        (paths, (alike.answer wanted paths).0 answer, e ∙ told_same wanted paths answer)

-- ---- one line

module _ (laws : Laws) (rows : PolicyRows) (forgets : (c : Certificate) → judged rows (unmarked c) ≡ judged rows c)
    (name : List ℕ) (target : Fpr) (one other : State)
    (judged_one : judged_by rows one.held ≡ one.held) (judged_other : judged_by rows other.held ≡ other.held)
    (alike_for : AreAlikeFor name target one other) where
  pub both_of : (view : View) → view_at one.views name ≡ Some view → Both view target one other
  both_of view is_open =
      let (set, shares) = alike_for.slice view is_open in
      record {
        set = set;
        shares = shares;
        same = λ fpr h. same_at rows forgets one.held other.held judged_one
            judged_other fpr (shares.held fpr h);
      }

  asks_same : AreOwn one.held.certs → (wanted : ℕ) (uid : List ℕ) (reply : Reply) →
      Asks one (view_at one.views name) target wanted uid reply → Asks other (view_at other.views name) target wanted
      uid reply
  asks_same own wanted uid reply asks =
      subst (λ (o : Option View). Asks other o target wanted uid reply) alike_for.view
      (by (view_at one.views name) refl asks)
    where
      by : (o : Option View) → view_at one.views name ≡ o → Asks one o target wanted uid reply →
          Asks other o target wanted uid reply
      by None e a = a
      by (Some view) e a = asks_there laws view target one other (both_of view e) uid
          (laws.lawful one.held.certs one.held.verdicts view.time uid own) wanted reply a

  pub does_same : AreOwn one.held.certs → (wanted : ℕ) (uid : List ℕ) (given told : Served) (reply : Reply)
      (new : State) → StateStep rows one (class_of (Ask name target wanted uid)) given reply new
      → StateStep rows other (class_of (Ask name target wanted uid)) told reply other
  does_same own wanted uid given told reply new does = (asks_same own wanted uid reply does.0, refl)

pub replied_same : Laws → (rows : PolicyRows) → OneOutcome rows →
    (forgets : (c : Certificate) → judged rows (unmarked c) ≡ judged rows c)
    → (name : List ℕ) (target : Fpr) (one other : Session) → AreOwn one.state.held.certs → AreOwn other.state.held.certs
    → judged_by rows one.state.held ≡ one.state.held → judged_by rows other.state.held ≡ other.state.held →
    AreAlikeFor name target one.state other.state
    → (line : List ℕ) → IsQuestion name target line → (given told : Served) (reply second : Option Reply)
    (new third : Session)
    → LineStep rows one line given reply new → LineStep rows other line told second third → reply ≡ second
replied_same laws rows law forgets name target one other own can p q alike_for line ask given told reply second new
    third step last =
    let does = does_same laws rows forgets name target one.state other.state p q alike_for own ask.wanted ask.uid given
    told in
    let there = step_as rows one other name line given told reply new
    (record { command = Ask name target ask.wanted ask.uid; asks = refl; read = ask.read }) does step in
    (law.one other line told reply second other third can there last).0
